-- The rows of requests: their words, their values and their causes.
use Rattle.std.proofs.Common.{◌≡◌, ℕ, ◌<◌, ◌≤◌, leb, ltb, Bool, true, false, cond, List, [], ◌∷◌, length, get_or, Option, Some, None, inl, inr, Result, Ok, Err, refl, sym, ap, subst, ◌∙◌}
use Rattle.std.specs.Prelude.{is_some}
use Rattle.std.specs.Str.{bytes_eq}
use Rattle.std.proofs.lemmas.Slice.Eq.{bytes_eq-Decides}
use Rattle.std.proofs.lemmas.Bool.{le-leb, lt-leb}
use Rattle.psos_text.specs.Name.{is_name, name_of}
use Rattle.psos_text.proofs.ReadingSteps.{chosen, some_is}
use Rattle.psos_calls.specs.declared.request.Request.{Request}
use Rattle.psos_calls.specs.declared.request.Request.TheVariants as R
use Rattle.psos_model.specs.Text.Operands.{Text}
use Rattle.psos_script.specs.Operands.{is_operand}
use Rattle.psos_script.specs.Table.{verb_classes, head_text, heads, head_among, head_of}
use Rattle.psos_script.specs.Values.{Values, value_of, take_of, none_left, values_of, build, value_words, number_among, or_cause, ◌>>=◌, row_of, check_label, cause_in}
use Rattle.psos_script.specs.Fault.{Seen, is_among, operands_cause, known_cause, ◌or◌, row_limit_cause, where_true}
use Rattle.psos_script.proofs.OperandLaws.{IsValue, value_takes}
use Rattle.psos_script.proofs.Lists.{among_position}
use Rattle.psos_script.specs.declared.class.Class.{Class}
use Rattle.psos_script.specs.declared.class.Class.TheVariants.{Register, Number, Hex, Name, Label, Guard}
use Rattle.psos_script.specs.declared.cause.Cause.{Cause}
use Rattle.psos_script.specs.declared.cause.Cause.TheVariants as C
use Rattle.psos_script.specs.declared.verb.Verb.{Verb}
use Rattle.psos_script.specs.declared.verb.Verb.TheVariants as V
use Rattle.psos_script.specs.declared.head.Head.{Head}
use Rattle.psos_script.specs.declared.head.Head.TheVariants.{Code, End, User, Phase, Asks}

-- ---- the first words

pub ok_is : {A : Type 0} (x y : A) → (let o : Result A Cause = Ok x in o) ≡ Ok y → x ≡ y
ok_is x y e = cc

among_takes : (hs : List Head) (w : Text) (h : Head) → head_among hs w ≡ Some h → w ≡ head_text h
among_takes [] w h e = absurd cc
among_takes (x ∷ xs) w h e = elim (chosen (bytes_eq w (head_text x)) (Some x) (head_among xs w) (Some h) e) [
  | inl here ↦ (bytes_eq-Decides w (head_text x)).0 here.0 ∙ ap head_text (some_is x h here.1)
  | inr later ↦ among_takes xs w h later.1
]

pub head_takes : (w : Text) (h : Head) → head_of w ≡ Some h → w ≡ head_text h
unfolding head_of
head_takes w h e = among_takes heads w h e

pub head_again : (h : Head) → head_of (head_text h) ≡ Some h
unfolding head_of
head_again Code = refl
head_again End = refl
head_again User = refl
head_again Phase = refl
head_again (Asks V.Mint) = refl
head_again (Asks V.Restrict) = refl
head_again (Asks V.Set) = refl
head_again (Asks V.Move) = refl
head_again (Asks V.Add) = refl
head_again (Asks V.Read) = refl
head_again (Asks V.Write) = refl
head_again (Asks V.Window) = refl
head_again (Asks V.Length) = refl
head_again (Asks V.Lookup) = refl
head_again (Asks V.Bind) = refl
head_again (Asks V.Unbind) = refl
head_again (Asks V.List) = refl
head_again (Asks V.Impl) = refl
head_again (Asks V.MkSeg) = refl
head_again (Asks V.MkDir) = refl
head_again (Asks V.MkType) = refl
head_again (Asks V.MkObj) = refl
head_again (Asks V.MkCode) = refl
head_again (Asks V.Delete) = refl
head_again (Asks V.Send) = refl
head_again (Asks V.Recv) = refl
head_again (Asks V.Call) = refl
head_again (Asks V.Path) = refl
head_again (Asks V.Find) = refl

-- ---- operands: what is read, and the cause where nothing is

test_some : {A : Type 0} (b : Bool) (x : A) → b ≡ is_some (cond b (Some x) None)
test_some true x = refl
test_some false x = refl

value_fails : (c : Class) (w : Text) → is_operand c w ≡ is_some (value_of c w)
unfolding is_operand value_of
value_fails Register w = refl
value_fails Number w = refl
value_fails Hex w = refl
value_fails Name w = test_some (is_name w) (name_of w)
value_fails Label w = test_some (is_name w) w
value_fails Guard w = refl

-- one operand and the others
abbrev pub both : {A B : Type 0} → Cause → Option A → List Text → (List Text → Result B Cause) → Result (A × B) Cause
both {A} {B} e o ws f = (let first : Result (A × List Text) Cause = or_cause e o >>= λ v. Ok (v, ws) in first) >>= λ p. (f p.1 >>= λ vs. (let r : Result (A × B) Cause = Ok (p.0, vs) in r))

passed : {A B : Type 0} (r : Result B Cause) (v : A) → cause_in (r >>= λ vs. (let r : Result (A × B) Cause = Ok (v, vs) in r)) ≡ cause_in r
passed (Ok vs) v = refl
passed (Err f) v = refl

one_cause : {A B : Type 0} (e : Cause) (o : Option A) (ws : List Text) (f : List Text → Result B Cause) (b : Bool) (k : Option Cause) → b ≡ is_some o → cause_in (f ws) ≡ k → cause_in (both e o ws f) ≡ cond b k (Some e)
one_cause e None ws f b k t h = rw t refl
one_cause e (Some v) ws f b k t h = rw (t, ← h) (passed (f ws) v)

pub values_cause : (cs : List Class) (ws : List Text) → cause_in (values_of cs ws) ≡ operands_cause cs ws
unfolding operands_cause take_of none_left
values_cause [] [] = refl
values_cause [] (w ∷ ws) = refl
values_cause (c ∷ cs) [] = refl
values_cause (c ∷ cs) (w ∷ ws) = one_cause (C.Wrong c) (value_of c w) ws (λ t. values_of cs t) (is_operand c w) (operands_cause cs ws) (value_fails c w) (values_cause cs ws)

-- ---- the causes of a request's row

plain : {A : Type 0} (r : Result A Cause) (f : A → Request) (k : Option Cause) → cause_in r ≡ k → cause_in (r >>= λ vs. (let q : Result Request Cause = Ok (f vs) in q)) ≡ (k or None)
plain (Ok vs) f k e = rw (← e) refl
plain (Err c) f k e = rw (← e) refl

first_part : {A B : Type 0} (e : Cause) (o : Option A) (ws : List Text) (f : List Text → Result B Cause) (x : A × B) → both e o ws f ≡ Ok x → (o ≡ Some x.0) × (f ws ≡ Ok x.1)
first_part {A} {B} e None ws f x h = absurd cc
first_part {A} {B} e (Some v) ws f x h = inner (f ws) v x h refl where
  inner : (r : Result B Cause) (v : A) (x : A × B) → (r >>= λ vs. (let q : Result (A × B) Cause = Ok (v, vs) in q)) ≡ Ok x → f ws ≡ r → (Some v ≡ Some x.0) × (f ws ≡ Ok x.1)
  inner (Err c) v x h k = absurd cc
  inner (Ok b) v x h k = let P : A × B → Type 0 = λ y. (Some v ≡ Some y.0) × (f ws ≡ Ok y.1) in subst P (ok_is (v, b) x h) (refl, k)

-- each value may be one of its class
abbrev pub ValuesFit : (cs : List Class) → Values cs → Type 0
ValuesFit [] vs = Unit {0}
ValuesFit (c ∷ cs) vs = IsValue c vs.0 × ValuesFit cs vs.1

-- what is read of words is spelled so, and may be such values
pub values_take : (cs : List Class) (ws : List Text) (vs : Values cs) → values_of cs ws ≡ Ok vs → (ws ≡ value_words cs vs) × ValuesFit cs vs
unfolding take_of none_left
values_take [] [] vs e = (refl, tt)
values_take [] (w ∷ ws) vs e = absurd cc
values_take (c ∷ cs) [] vs e = absurd cc
values_take (c ∷ cs) (w ∷ ws) vs e =
    let p = first_part (C.Wrong c) (value_of c w) ws (λ t. values_of cs t) vs e in
    let first = value_takes c w vs.0 p.0 in
    let later = values_take cs ws vs.1 p.1 in
    (rw (first.0, later.0) refl, (first.1, later.1))

known_label : (ls : List Text) (vs : Values (verb_classes V.MkCode)) → cause_in (check_label ls V.MkCode vs) ≡ cond (is_among vs.1.1.1.0 ls) None (Some C.UnknownLabel)
known_label ls (rd, (rs, (name, (label, (rl, e))))) = by_test (ltb (number_among ls label) (length ls)) (is_among label ls) (R.MkCode rd rs name (number_among ls label) rl) (among_position ls label) where
  by_test : (t b : Bool) (r : Request) → t ≡ b → cause_in (cond t (Ok r) (Err C.UnknownLabel)) ≡ cond b None (Some C.UnknownLabel)
  by_test true b r e = rw (← e) refl
  by_test false b r e = rw (← e) refl

mkcode_case : (ls : List Text) (ws : List Text) (r : Result (Values (verb_classes V.MkCode)) Cause) (k : Option Cause) → values_of (verb_classes V.MkCode) ws ≡ r → cause_in r ≡ k
    → cause_in (r >>= λ vs. check_label ls V.MkCode vs) ≡ (k or cond (is_among (get_or ws 3 []) ls) None (Some C.UnknownLabel))
mkcode_case ls ws (Err c) k e h = rw (← h) refl
mkcode_case ls ws (Ok vs) k e h =
    let words = (values_take (verb_classes V.MkCode) ws vs e).0 in
    let fourth : get_or ws 3 [] ≡ vs.1.1.1.0 = ap (λ (t : List Text). get_or t 3 []) words in
    rw (← h, fourth) (known_label ls vs)

pub row_cause : (s : Seen) (v : Verb) (ws : List Text) → cause_in (row_of s.labels v ws) ≡ (operands_cause (verb_classes v) ws or known_cause (Asks v) s ws)
unfolding known_cause
row_cause s V.Mint ws = plain (values_of (verb_classes V.Mint) ws) (build s.labels V.Mint) (operands_cause (verb_classes V.Mint) ws) (values_cause (verb_classes V.Mint) ws)
row_cause s V.Restrict ws = plain (values_of (verb_classes V.Restrict) ws) (build s.labels V.Restrict) (operands_cause (verb_classes V.Restrict) ws) (values_cause (verb_classes V.Restrict) ws)
row_cause s V.Set ws = plain (values_of (verb_classes V.Set) ws) (build s.labels V.Set) (operands_cause (verb_classes V.Set) ws) (values_cause (verb_classes V.Set) ws)
row_cause s V.Move ws = plain (values_of (verb_classes V.Move) ws) (build s.labels V.Move) (operands_cause (verb_classes V.Move) ws) (values_cause (verb_classes V.Move) ws)
row_cause s V.Add ws = plain (values_of (verb_classes V.Add) ws) (build s.labels V.Add) (operands_cause (verb_classes V.Add) ws) (values_cause (verb_classes V.Add) ws)
row_cause s V.Read ws = plain (values_of (verb_classes V.Read) ws) (build s.labels V.Read) (operands_cause (verb_classes V.Read) ws) (values_cause (verb_classes V.Read) ws)
row_cause s V.Write ws = plain (values_of (verb_classes V.Write) ws) (build s.labels V.Write) (operands_cause (verb_classes V.Write) ws) (values_cause (verb_classes V.Write) ws)
row_cause s V.Window ws = plain (values_of (verb_classes V.Window) ws) (build s.labels V.Window) (operands_cause (verb_classes V.Window) ws) (values_cause (verb_classes V.Window) ws)
row_cause s V.Length ws = plain (values_of (verb_classes V.Length) ws) (build s.labels V.Length) (operands_cause (verb_classes V.Length) ws) (values_cause (verb_classes V.Length) ws)
row_cause s V.Lookup ws = plain (values_of (verb_classes V.Lookup) ws) (build s.labels V.Lookup) (operands_cause (verb_classes V.Lookup) ws) (values_cause (verb_classes V.Lookup) ws)
row_cause s V.Bind ws = plain (values_of (verb_classes V.Bind) ws) (build s.labels V.Bind) (operands_cause (verb_classes V.Bind) ws) (values_cause (verb_classes V.Bind) ws)
row_cause s V.Unbind ws = plain (values_of (verb_classes V.Unbind) ws) (build s.labels V.Unbind) (operands_cause (verb_classes V.Unbind) ws) (values_cause (verb_classes V.Unbind) ws)
row_cause s V.List ws = plain (values_of (verb_classes V.List) ws) (build s.labels V.List) (operands_cause (verb_classes V.List) ws) (values_cause (verb_classes V.List) ws)
row_cause s V.Impl ws = plain (values_of (verb_classes V.Impl) ws) (build s.labels V.Impl) (operands_cause (verb_classes V.Impl) ws) (values_cause (verb_classes V.Impl) ws)
row_cause s V.MkSeg ws = plain (values_of (verb_classes V.MkSeg) ws) (build s.labels V.MkSeg) (operands_cause (verb_classes V.MkSeg) ws) (values_cause (verb_classes V.MkSeg) ws)
row_cause s V.MkDir ws = plain (values_of (verb_classes V.MkDir) ws) (build s.labels V.MkDir) (operands_cause (verb_classes V.MkDir) ws) (values_cause (verb_classes V.MkDir) ws)
row_cause s V.MkType ws = plain (values_of (verb_classes V.MkType) ws) (build s.labels V.MkType) (operands_cause (verb_classes V.MkType) ws) (values_cause (verb_classes V.MkType) ws)
row_cause s V.MkObj ws = plain (values_of (verb_classes V.MkObj) ws) (build s.labels V.MkObj) (operands_cause (verb_classes V.MkObj) ws) (values_cause (verb_classes V.MkObj) ws)
row_cause s V.Delete ws = plain (values_of (verb_classes V.Delete) ws) (build s.labels V.Delete) (operands_cause (verb_classes V.Delete) ws) (values_cause (verb_classes V.Delete) ws)
row_cause s V.Send ws = plain (values_of (verb_classes V.Send) ws) (build s.labels V.Send) (operands_cause (verb_classes V.Send) ws) (values_cause (verb_classes V.Send) ws)
row_cause s V.Recv ws = plain (values_of (verb_classes V.Recv) ws) (build s.labels V.Recv) (operands_cause (verb_classes V.Recv) ws) (values_cause (verb_classes V.Recv) ws)
row_cause s V.Call ws = plain (values_of (verb_classes V.Call) ws) (build s.labels V.Call) (operands_cause (verb_classes V.Call) ws) (values_cause (verb_classes V.Call) ws)
row_cause s V.Path ws = plain (values_of (verb_classes V.Path) ws) (build s.labels V.Path) (operands_cause (verb_classes V.Path) ws) (values_cause (verb_classes V.Path) ws)
row_cause s V.Find ws = plain (values_of (verb_classes V.Find) ws) (build s.labels V.Find) (operands_cause (verb_classes V.Find) ws) (values_cause (verb_classes V.Find) ws)
row_cause s V.MkCode ws = mkcode_case s.labels ws (values_of (verb_classes V.MkCode) ws) (operands_cause (verb_classes V.MkCode) ws) refl (values_cause (verb_classes V.MkCode) ws)

-- ---- with the limit on lines

cause_ok : {A : Type 0} (r : Result A Cause) (k : Option Cause) (x : A) → cause_in r ≡ k → r ≡ Ok x → k ≡ None
cause_ok {A = A} r k x e is = sym e ∙ ap (λ (q : Result A Cause). cause_in q) is

cause_err : {A : Type 0} (r : Result A Cause) (k : Option Cause) (c : Cause) → cause_in r ≡ k → r ≡ Err c → k ≡ Some c
cause_err {A = A} r k c e is = sym e ∙ ap (λ (q : Result A Cause). cause_in q) is

grouped : (a b d : Option Cause) → (a or (b or d)) ≡ ((a or b) or d)
grouped None b d = refl
grouped (Some c) b d = refl

-- the cause behind the row's own
abbrev pub last_cause : Seen → ℕ → Option Cause
last_cause s limit = where_true (leb limit s.count) C.TooManyLines

pub row_fault : (s : Seen) (v : Verb) (ws : List Text) (limit : ℕ) (c : Cause) → row_of s.labels v ws ≡ Err c → row_limit_cause s v ws limit ≡ Some c
row_fault s v ws limit c is =
    grouped (operands_cause (verb_classes v) ws) (known_cause (Asks v) s ws) (last_cause s limit) ∙ ap (λ (k : Option Cause). k or last_cause s limit) (cause_err (row_of s.labels v ws) _ c (row_cause s v ws) is)

pub row_rest : (s : Seen) (v : Verb) (ws : List Text) (limit : ℕ) (r : Request) → row_of s.labels v ws ≡ Ok r → row_limit_cause s v ws limit ≡ last_cause s limit
row_rest s v ws limit r is =
    grouped (operands_cause (verb_classes v) ws) (known_cause (Asks v) s ws) (last_cause s limit) ∙ ap (λ (k : Option Cause). k or last_cause s limit) (cause_ok (row_of s.labels v ws) _ r (row_cause s v ws) is)

pub row_full : (s : Seen) (v : Verb) (ws : List Text) (limit : ℕ) (r : Request) → row_of s.labels v ws ≡ Ok r → limit ≤ s.count → row_limit_cause s v ws limit ≡ Some C.TooManyLines
row_full s v ws limit r is le = row_rest s v ws limit r is ∙ ap (λ (b : Bool). where_true b C.TooManyLines) (le-leb limit s.count le)

pub row_fine : (s : Seen) (v : Verb) (ws : List Text) (limit : ℕ) (r : Request) → row_of s.labels v ws ≡ Ok r → s.count < limit → row_limit_cause s v ws limit ≡ None
row_fine s v ws limit r is lt = row_rest s v ws limit r is ∙ ap (λ (b : Bool). where_true b C.TooManyLines) (lt-leb limit s.count lt)
