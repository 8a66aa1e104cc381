-- What the row of a request gives has the row's words, and is in range.
use Rattle.std.proofs.Common.{◌≡◌, ℕ, ◌+◌, ◌<◌, ltb, Bool, true, false, not, cond, suc, List, [], ◌∷◌, ◌++◌, length, get_or, Result, Ok, Err, inl, inr, refl, sym, ap, subst, ◌∙◌, arith}
use Rattle.std.specs.Str.{bytes_eq}
use Rattle.std.proofs.lemmas.Slice.Eq.{bytes_eq-Decides}
use Rattle.std.proofs.lemmas.List.{get_or_append_left}
use Rattle.std.proofs.lemmas.Bool.{ltb-true}
use Rattle.psos_text.proofs.ReadingSteps.{chosen}
use Rattle.psos_calls.specs.declared.request.Request.{Request}
use Rattle.psos_calls.specs.declared.request.Request.TheVariants as R
use Rattle.psos_calls.specs.Language.Request.{InRange}
use Rattle.psos_model.specs.Text.Operands.{Text}
use Rattle.psos_model.specs.Text.RequestWords.{request_words}
use Rattle.psos_script.specs.Table.{verb_classes, verb_text}
use Rattle.psos_script.specs.Values.{Values, values_of, build, value_words, number_among, ◌>>=◌, row_of, check_label}
use Rattle.psos_script.proofs.RowLaws.{ok_is, ValuesFit, values_take}
use Rattle.psos_script.specs.declared.cause.Cause.{Cause}
use Rattle.psos_script.specs.declared.cause.Cause.TheVariants as C
use Rattle.psos_script.specs.declared.verb.Verb.{Verb}
use Rattle.psos_script.specs.declared.verb.Verb.TheVariants as V

bind_ok : {A B : Type 0} (x : Result A Cause) (f : A → Result B Cause) (y : B) → (x >>= f) ≡ Ok y → (a : A) × (x ≡ Ok a) × (f a ≡ Ok y)
bind_ok (Ok a) f y e = (a, refl, e)
bind_ok (Err c) f y e = absurd cc

-- the operands of a row, and the request that they make
row_parts : (labels : List Text) (v : Verb) (ws : List Text) (r : Request) → row_of labels v ws ≡ Ok r → (vs : Values (verb_classes v)) × (values_of (verb_classes v) ws ≡ Ok vs) × (check_label labels v vs ≡ Ok r)
row_parts labels V.Mint ws r e = bind_ok (values_of (verb_classes V.Mint) ws) (λ vs. check_label labels V.Mint vs) r e
row_parts labels V.Restrict ws r e = bind_ok (values_of (verb_classes V.Restrict) ws) (λ vs. check_label labels V.Restrict vs) r e
row_parts labels V.Set ws r e = bind_ok (values_of (verb_classes V.Set) ws) (λ vs. check_label labels V.Set vs) r e
row_parts labels V.Move ws r e = bind_ok (values_of (verb_classes V.Move) ws) (λ vs. check_label labels V.Move vs) r e
row_parts labels V.Add ws r e = bind_ok (values_of (verb_classes V.Add) ws) (λ vs. check_label labels V.Add vs) r e
row_parts labels V.Read ws r e = bind_ok (values_of (verb_classes V.Read) ws) (λ vs. check_label labels V.Read vs) r e
row_parts labels V.Write ws r e = bind_ok (values_of (verb_classes V.Write) ws) (λ vs. check_label labels V.Write vs) r e
row_parts labels V.Window ws r e = bind_ok (values_of (verb_classes V.Window) ws) (λ vs. check_label labels V.Window vs) r e
row_parts labels V.Length ws r e = bind_ok (values_of (verb_classes V.Length) ws) (λ vs. check_label labels V.Length vs) r e
row_parts labels V.Lookup ws r e = bind_ok (values_of (verb_classes V.Lookup) ws) (λ vs. check_label labels V.Lookup vs) r e
row_parts labels V.Bind ws r e = bind_ok (values_of (verb_classes V.Bind) ws) (λ vs. check_label labels V.Bind vs) r e
row_parts labels V.Unbind ws r e = bind_ok (values_of (verb_classes V.Unbind) ws) (λ vs. check_label labels V.Unbind vs) r e
row_parts labels V.List ws r e = bind_ok (values_of (verb_classes V.List) ws) (λ vs. check_label labels V.List vs) r e
row_parts labels V.Impl ws r e = bind_ok (values_of (verb_classes V.Impl) ws) (λ vs. check_label labels V.Impl vs) r e
row_parts labels V.MkSeg ws r e = bind_ok (values_of (verb_classes V.MkSeg) ws) (λ vs. check_label labels V.MkSeg vs) r e
row_parts labels V.MkDir ws r e = bind_ok (values_of (verb_classes V.MkDir) ws) (λ vs. check_label labels V.MkDir vs) r e
row_parts labels V.MkType ws r e = bind_ok (values_of (verb_classes V.MkType) ws) (λ vs. check_label labels V.MkType vs) r e
row_parts labels V.MkObj ws r e = bind_ok (values_of (verb_classes V.MkObj) ws) (λ vs. check_label labels V.MkObj vs) r e
row_parts labels V.MkCode ws r e = bind_ok (values_of (verb_classes V.MkCode) ws) (λ vs. check_label labels V.MkCode vs) r e
row_parts labels V.Delete ws r e = bind_ok (values_of (verb_classes V.Delete) ws) (λ vs. check_label labels V.Delete vs) r e
row_parts labels V.Send ws r e = bind_ok (values_of (verb_classes V.Send) ws) (λ vs. check_label labels V.Send vs) r e
row_parts labels V.Recv ws r e = bind_ok (values_of (verb_classes V.Recv) ws) (λ vs. check_label labels V.Recv vs) r e
row_parts labels V.Call ws r e = bind_ok (values_of (verb_classes V.Call) ws) (λ vs. check_label labels V.Call vs) r e
row_parts labels V.Path ws r e = bind_ok (values_of (verb_classes V.Path) ws) (λ vs. check_label labels V.Path vs) r e
row_parts labels V.Find ws r e = bind_ok (values_of (verb_classes V.Find) ws) (λ vs. check_label labels V.Find vs) r e

-- the label of `mkcode` is among the labels, and is the text at its number in all labels
abbrev pub IsKnown : List Text → List Text → (v : Verb) → Values (verb_classes v) → Type 0
IsKnown labels all V.Mint vs = Unit {0}
IsKnown labels all V.Restrict vs = Unit {0}
IsKnown labels all V.Set vs = Unit {0}
IsKnown labels all V.Move vs = Unit {0}
IsKnown labels all V.Add vs = Unit {0}
IsKnown labels all V.Read vs = Unit {0}
IsKnown labels all V.Write vs = Unit {0}
IsKnown labels all V.Window vs = Unit {0}
IsKnown labels all V.Length vs = Unit {0}
IsKnown labels all V.Lookup vs = Unit {0}
IsKnown labels all V.Bind vs = Unit {0}
IsKnown labels all V.Unbind vs = Unit {0}
IsKnown labels all V.List vs = Unit {0}
IsKnown labels all V.Impl vs = Unit {0}
IsKnown labels all V.MkSeg vs = Unit {0}
IsKnown labels all V.MkDir vs = Unit {0}
IsKnown labels all V.MkType vs = Unit {0}
IsKnown labels all V.MkObj vs = Unit {0}
IsKnown labels all V.MkCode (rd, (rs, (name, (label, (rl, e))))) = (number_among labels label < length labels) × (get_or all (number_among labels label) [] ≡ label)
IsKnown labels all V.Delete vs = Unit {0}
IsKnown labels all V.Send vs = Unit {0}
IsKnown labels all V.Recv vs = Unit {0}
IsKnown labels all V.Call vs = Unit {0}
IsKnown labels all V.Path vs = Unit {0}
IsKnown labels all V.Find vs = Unit {0}

found_case : (t : Bool) (x w : Text) (xs : List Text) (n : ℕ) → bytes_eq x w ≡ t → (n < length xs → get_or xs n [] ≡ w) → cond (not t) (1 + n) 0 < suc (length xs) → get_or (x ∷ xs) (cond (not t) (1 + n) 0) [] ≡ w
found_case true x w xs n e h lt = (bytes_eq-Decides x w).0 e
found_case false x w xs n e h lt = ap (λ (m : ℕ). get_or (x ∷ xs) m []) (let s : 1 + n ≡ suc n = omega arith in s) ∙ h (omega (arith, lt))

-- a word stands at its number
pub number_found : (labels : List Text) (w : Text) → number_among labels w < length labels → get_or labels (number_among labels w) [] ≡ w
number_found [] w lt = absurd (omega (arith, lt))
number_found (x ∷ xs) w lt = found_case (bytes_eq x w) x w xs (number_among xs w) refl (number_found xs w) lt

label_known : (labels rest : List Text) (w : Text) → ltb (number_among labels w) (length labels) ≡ true → (number_among labels w < length labels) × (get_or (labels ++ rest) (number_among labels w) [] ≡ w)
label_known labels rest w h =
    let lt : number_among labels w < length labels = ltb-true (number_among labels w) (length labels) h in
    (lt, get_or_append_left labels rest [] (number_among labels w) lt ∙ number_found labels w lt)

no_request : (r : Request) → (let q : Result Request Cause = Err C.UnknownLabel in q) ≡ Ok r → ⊥
no_request r e = cc

code_checked : (labels rest : List Text) (w : Text) (r t : Request) → cond (ltb (number_among labels w) (length labels)) (let q : Result Request Cause = Ok t in q) (Err C.UnknownLabel) ≡ Ok r
    → (t ≡ r) × ((number_among labels w < length labels) × (get_or (labels ++ rest) (number_among labels w) [] ≡ w))
code_checked labels rest w r t e =
    elim (chosen (ltb (number_among labels w) (length labels)) (let q : Result Request Cause = Ok t in q) (Err C.UnknownLabel) (Ok r) e) [
      | inl known ↦ (ok_is t r known.1, label_known labels rest w known.0)
      | inr unknown ↦ absurd (no_request r unknown.1)
    ]

-- the request that the operands make, and that its label is known
checked : (labels rest : List Text) (v : Verb) (vs : Values (verb_classes v)) (r : Request) → check_label labels v vs ≡ Ok r → (build labels v vs ≡ r) × IsKnown labels (labels ++ rest) v vs
checked labels rest V.Mint vs r h = (ok_is (build labels V.Mint vs) r h, tt)
checked labels rest V.Restrict vs r h = (ok_is (build labels V.Restrict vs) r h, tt)
checked labels rest V.Set vs r h = (ok_is (build labels V.Set vs) r h, tt)
checked labels rest V.Move vs r h = (ok_is (build labels V.Move vs) r h, tt)
checked labels rest V.Add vs r h = (ok_is (build labels V.Add vs) r h, tt)
checked labels rest V.Read vs r h = (ok_is (build labels V.Read vs) r h, tt)
checked labels rest V.Write vs r h = (ok_is (build labels V.Write vs) r h, tt)
checked labels rest V.Window vs r h = (ok_is (build labels V.Window vs) r h, tt)
checked labels rest V.Length vs r h = (ok_is (build labels V.Length vs) r h, tt)
checked labels rest V.Lookup vs r h = (ok_is (build labels V.Lookup vs) r h, tt)
checked labels rest V.Bind vs r h = (ok_is (build labels V.Bind vs) r h, tt)
checked labels rest V.Unbind vs r h = (ok_is (build labels V.Unbind vs) r h, tt)
checked labels rest V.List vs r h = (ok_is (build labels V.List vs) r h, tt)
checked labels rest V.Impl vs r h = (ok_is (build labels V.Impl vs) r h, tt)
checked labels rest V.MkSeg vs r h = (ok_is (build labels V.MkSeg vs) r h, tt)
checked labels rest V.MkDir vs r h = (ok_is (build labels V.MkDir vs) r h, tt)
checked labels rest V.MkType vs r h = (ok_is (build labels V.MkType vs) r h, tt)
checked labels rest V.MkObj vs r h = (ok_is (build labels V.MkObj vs) r h, tt)
checked labels rest V.MkCode (rd, (rs, (name, (label, (rl, e))))) r h = code_checked labels rest label r (R.MkCode rd rs name (number_among labels label) rl) h
checked labels rest V.Delete vs r h = (ok_is (build labels V.Delete vs) r h, tt)
checked labels rest V.Send vs r h = (ok_is (build labels V.Send vs) r h, tt)
checked labels rest V.Recv vs r h = (ok_is (build labels V.Recv vs) r h, tt)
checked labels rest V.Call vs r h = (ok_is (build labels V.Call vs) r h, tt)
checked labels rest V.Path vs r h = (ok_is (build labels V.Path vs) r h, tt)
checked labels rest V.Find vs r h = (ok_is (build labels V.Find vs) r h, tt)

-- it has the words of its operands
built_words : (labels all : List Text) (v : Verb) (vs : Values (verb_classes v)) → IsKnown labels all v vs → request_words all (build labels v vs) ≡ verb_text v ∷ value_words (verb_classes v) vs
built_words labels all V.Mint (rd, e) h = refl
built_words labels all V.Restrict (rd, (rs, (keep, e))) h = refl
built_words labels all V.Set (rd, (n, e)) h = refl
built_words labels all V.Move (rd, (rs, e)) h = refl
built_words labels all V.Add (rd, (ra, (rb, e))) h = refl
built_words labels all V.Read (rd, (rs, (n, e))) h = refl
built_words labels all V.Write (rs, (n, (rv, e))) h = refl
built_words labels all V.Window (rd, (rs, (base, (len, e)))) h = refl
built_words labels all V.Length (rd, (rs, e)) h = refl
built_words labels all V.Lookup (rd, (rs, (name, e))) h = refl
built_words labels all V.Bind (rs, (name, (rv, e))) h = refl
built_words labels all V.Unbind (rs, (name, e)) h = refl
built_words labels all V.List (rs, e) h = refl
built_words labels all V.Impl (rd, (rt, (ro, e))) h = refl
built_words labels all V.MkSeg (rd, (rs, (name, (len, (guard, e))))) h = refl
built_words labels all V.MkDir (rd, (rs, (name, (guard, e)))) h = refl
built_words labels all V.MkType (rd, (rs, (name, e))) h = refl
built_words labels all V.MkObj (rd, (rt, (rs, (name, (len, e))))) h = refl
built_words labels all V.MkCode (rd, (rs, (name, (label, (rl, e))))) h = rw h.1 refl
built_words labels all V.Delete (rs, (name, e)) h = refl
built_words labels all V.Send (rp, (rv, e)) h = refl
built_words labels all V.Recv (rd, e) h = refl
built_words labels all V.Call (rp, e) h = refl
built_words labels all V.Path (rs, e) h = refl
built_words labels all V.Find (rd, (name, e)) h = refl

-- it is in range
built_range : (labels all : List Text) (v : Verb) (vs : Values (verb_classes v)) → IsKnown labels all v vs → ValuesFit (verb_classes v) vs → InRange (length labels) (build labels v vs)
built_range labels all V.Mint (rd, e) k h = h.0
built_range labels all V.Restrict (rd, (rs, (keep, e))) k h = (h.0, h.1.0, h.1.1.0)
built_range labels all V.Set (rd, (n, e)) k h = (h.0, h.1.0)
built_range labels all V.Move (rd, (rs, e)) k h = (h.0, h.1.0)
built_range labels all V.Add (rd, (ra, (rb, e))) k h = (h.0, h.1.0, h.1.1.0)
built_range labels all V.Read (rd, (rs, (n, e))) k h = (h.0, h.1.0, h.1.1.0)
built_range labels all V.Write (rs, (n, (rv, e))) k h = (h.0, h.1.0, h.1.1.0)
built_range labels all V.Window (rd, (rs, (base, (len, e)))) k h = (h.0, h.1.0, h.1.1.0, h.1.1.1.0)
built_range labels all V.Length (rd, (rs, e)) k h = (h.0, h.1.0)
built_range labels all V.Lookup (rd, (rs, (name, e))) k h = (h.0, h.1.0, h.1.1.0)
built_range labels all V.Bind (rs, (name, (rv, e))) k h = (h.0, h.1.0, h.1.1.0)
built_range labels all V.Unbind (rs, (name, e)) k h = (h.0, h.1.0)
built_range labels all V.List (rs, e) k h = h.0
built_range labels all V.Impl (rd, (rt, (ro, e))) k h = (h.0, h.1.0, h.1.1.0)
built_range labels all V.MkSeg (rd, (rs, (name, (len, (guard, e))))) k h = (h.0, h.1.0, h.1.1.0, h.1.1.1.0, h.1.1.1.1.0)
built_range labels all V.MkDir (rd, (rs, (name, (guard, e)))) k h = (h.0, h.1.0, h.1.1.0, h.1.1.1.0)
built_range labels all V.MkType (rd, (rs, (name, e))) k h = (h.0, h.1.0, h.1.1.0)
built_range labels all V.MkObj (rd, (rt, (rs, (name, (len, e))))) k h = (h.0, h.1.0, h.1.1.0, h.1.1.1.0, h.1.1.1.1.0)
built_range labels all V.MkCode (rd, (rs, (name, (label, (rl, e))))) k h = (h.0, h.1.0, h.1.1.0, k.0, h.1.1.1.1.0)
built_range labels all V.Delete (rs, (name, e)) k h = (h.0, h.1.0)
built_range labels all V.Send (rp, (rv, e)) k h = (h.0, h.1.0)
built_range labels all V.Recv (rd, e) k h = h.0
built_range labels all V.Call (rp, e) k h = h.0
built_range labels all V.Path (rs, e) k h = h.0
built_range labels all V.Find (rd, (name, e)) k h = (h.0, h.1.0)

-- what is so of the request of a row: where the labels go on, it has the same words
pub record IsRow (labels all : List Text) (v : Verb) (ws : List Text) (r : Request) : Type 0 where
  pub words : request_words all r ≡ verb_text v ∷ ws
  pub range : InRange (length labels) r

pub row_takes : (labels rest : List Text) (v : Verb) (ws : List Text) (r : Request) → row_of labels v ws ≡ Ok r → IsRow labels (labels ++ rest) v ws r
row_takes labels rest v ws r e =
    let parts = row_parts labels v ws r e in
    let vs = parts.0 in
    let took = values_take (verb_classes v) ws vs parts.1 in
    let made = checked labels rest v vs r parts.2 in
    let P : Request → Type 0 = λ q. IsRow labels (labels ++ rest) v ws q in
    subst P made.0 (record {
      words = built_words labels (labels ++ rest) v vs made.1 ∙ ap (λ (t : List Text). verb_text v ∷ t) (sym took.0);
      range = built_range labels (labels ++ rest) v vs made.1 took.1;
    })
