-- What holds where a line has no cause.
use Rattle.std.proofs.Common.{◌≡◌, ◌≢◌, ℕ, ◌<◌, ◌≤◌, Bool, true, false, ◌||◌, cond, eqb, leb, List, [], ◌∷◌, ◌++◌, length, get_or, Option, Some, None, Result, Ok, Err, refl, sym, ap, ◌∙◌, arith}
use Rattle.std.specs.Prelude.{IsTrue}
use Rattle.std.specs.List.{AllByRecursion}
use Rattle.std.specs.Str.{bytes_eq}
use Rattle.std.proofs.lemmas.Bool.{true≢false}
use Rattle.std.proofs.lemmas.Slice.Eq.{bytes_eq-Decides}
use Rattle.psos_limits.specs.declared.TheConstants.{MOST_LINES}
use Rattle.psos_text.specs.Name.{is_name}
use Rattle.psos_calls.specs.declared.request.Request.{Request}
use Rattle.psos_calls.specs.Language.Script.{AreDistinct}
use Rattle.psos_model.specs.Text.Operands.{Text}
use Rattle.psos_script.specs.Operands.{is_operand}
use Rattle.psos_script.specs.Table.{verb_classes}
use Rattle.psos_script.specs.Values.{row_of, cause_in}
use Rattle.psos_script.specs.Fault.{Seen, is_among, is_outside, is_no_end, is_late_code, operands_cause, known_cause, empty_cause, many_cause, line_limit, where_true, ◌or◌, head_cause}
use Rattle.psos_script.proofs.RowLaws.{row_cause}
use Rattle.psos_script.specs.declared.class.Class.{Class}
use Rattle.psos_script.specs.declared.class.Class.TheVariants.{Name, Label}
use Rattle.psos_script.specs.declared.cause.Cause.{Cause}
use Rattle.psos_script.specs.declared.cause.Cause.TheVariants as C
use Rattle.psos_script.specs.declared.verb.Verb.{Verb}
use Rattle.psos_script.specs.declared.head.Head.{Head}
use Rattle.psos_script.specs.declared.head.Head.TheVariants.{Code, End, User, Phase, Asks}
use Rattle.psos_script.specs.declared.section.Section.{Section}
use Rattle.psos_script.specs.declared.section.Section.TheVariants.{Outside, InBody, InUser}

-- ---- parts of a chain

pub where_none : (b : Bool) (c : Cause) → where_true b c ≡ None → b ≡ false
where_none true c e = absurd cc
where_none false c e = refl

-- no part of the chain is a cause
pub record NoPart (a b c d e f g : Option Cause) : Type 0 where
  pub outside : a ≡ None
  pub no_end : b ≡ None
  pub late : c ≡ None
  pub operands : d ≡ None
  pub known : e ≡ None
  pub empty : f ≡ None
  pub many : g ≡ None

pub no_part : (a b c d e f g : Option Cause) → (a or (b or (c or (d or (e or (f or g)))))) ≡ None → NoPart a b c d e f g
no_part None None None None None None None k = record { outside = refl; no_end = refl; late = refl; operands = refl; known = refl; empty = refl; many = refl }
no_part a b c d e f g k = absurd cc

-- the parts of a head's chain
abbrev pub HeadParts : Seen → Head → List Class → List Text → Type 0
HeadParts s h cs ws = NoPart (where_true (is_outside h s.section) C.Outside) (where_true (is_no_end h s.section) C.NoEnd) (where_true (is_late_code h s.names) C.CodeAfterUser)
    (operands_cause cs ws) (known_cause h s ws) (empty_cause h s.count) (many_cause h s)

-- ---- operands

-- there is one word, and it is an operand of the class
pub record IsOne (c : Class) (ws : List Text) : Type 0 where
  pub word : Text
  pub is : ws ≡ word ∷ []
  pub fits : is_operand c word ≡ true

one_case : (c : Class) (w : Text) (ws : List Text) (t : Bool) → is_operand c w ≡ t → cond t (operands_cause [] ws) (Some (C.Wrong c)) ≡ None → IsOne c (w ∷ ws)
unfolding operands_cause
one_case c w [] true e h = record { word = w; is = refl; fits = e }
one_case c w (x ∷ xs) true e h = absurd cc
one_case c w ws false e h = absurd cc

one_operand : (c : Class) (ws : List Text) → operands_cause (c ∷ []) ws ≡ None → IsOne c ws
unfolding operands_cause
one_operand c [] h = absurd cc
one_operand c (w ∷ ws) h = one_case c w ws (is_operand c w) refl h

no_operand : (ws : List Text) → operands_cause [] ws ≡ None → ws ≡ []
unfolding operands_cause
no_operand [] h = refl
no_operand (w ∷ ws) h = absurd cc

-- ---- names that are new

or_false : (a b : Bool) → (a || b) ≡ false → (a ≡ false) × (b ≡ false)
or_false false b h = (refl, h)
or_false true b h = absurd cc

other_text : (x w : Text) → bytes_eq x w ≡ false → w ≢ x
other_text x w h e = absurd (true≢false (sym ((bytes_eq-Decides x w).1 (sym e)) ∙ h))

-- a word that is among none of these may come behind them
pub distinct_more : (ts : List Text) (w : Text) → is_among w ts ≡ false → AreDistinct ts → AreDistinct (ts ++ w ∷ [])
distinct_more [] w h d = (tt, tt)
distinct_more (t ∷ ts) w h d =
    let p = or_false (bytes_eq t w) (is_among w ts) h in
    (others ts d.0 (other_text t w p.0), distinct_more ts w p.1 d.1) where
      others : (ts : List Text) → AllByRecursion (λ other. other ≢ t) ts → w ≢ t → AllByRecursion (λ other. other ≢ t) (ts ++ w ∷ [])
      others [] a n = (n, tt)
      others (x ∷ xs) a n = (a.0, others xs a.1 n)

-- there is one word, a name that is new among few
pub record IsNewName (ws before : List Text) (most : ℕ) : Type 0 where
  pub word : Text
  pub is : ws ≡ word ∷ []
  pub named : IsTrue (is_name word)
  pub new : is_among word before ≡ false
  pub few : length before < most

twice_none : (b : Bool) (c : Cause) → cond b (Some c) None ≡ None → b ≡ false
twice_none true c e = absurd cc
twice_none false c e = refl

-- ---- the heads

not_body_code : (p : Section) → where_true (is_no_end Code p) C.NoEnd ≡ None → p ≢ InBody
unfolding is_no_end
not_body_code Outside e = λ q. cc
not_body_code InUser e = λ q. cc
not_body_code InBody e = absurd cc

not_body_user : (p : Section) → where_true (is_no_end User p) C.NoEnd ≡ None → p ≢ InBody
unfolding is_no_end
not_body_user Outside e = λ q. cc
not_body_user InUser e = λ q. cc
not_body_user InBody e = absurd cc

no_names : (names : List Text) → where_true (is_late_code Code names) C.CodeAfterUser ≡ None → names ≡ []
unfolding is_late_code
no_names [] e = refl
no_names (n ∷ ns) e = absurd cc

-- what holds of each line
pub record CodeParts (s : Seen) (ws : List Text) : Type 0 where
  pub section : s.section ≢ InBody
  pub none : s.names ≡ []
  pub label : IsNewName ws s.labels 64

pub code_parts : (s : Seen) (ws : List Text) → head_cause s Code ws ≡ None → CodeParts s ws
unfolding head_cause known_cause many_cause is_operand
code_parts s ws e =
    let p : HeadParts s Code (Label ∷ []) ws = no_part _ _ _ _ _ _ _ e in
    let one = one_operand Label ws p.operands in
    let new : is_among (get_or ws 0 []) s.labels ≡ false = twice_none _ _ p.known in
    let full : leb 64 (length s.labels) ≡ false = twice_none _ _ p.many in
    record {
      section = not_body_code s.section p.no_end;
      none = no_names s.names p.late;
      label = record { word = one.word; is = one.is; named = one.fits; new = ap (λ (t : List Text). is_among (get_or t 0 []) s.labels) (sym one.is) ∙ new; few = grind (arith, full) };
    }

pub record UserParts (s : Seen) (ws : List Text) : Type 0 where
  pub section : s.section ≢ InBody
  pub name : IsNewName ws s.names 8

pub user_parts : (s : Seen) (ws : List Text) → head_cause s User ws ≡ None → UserParts s ws
unfolding head_cause known_cause many_cause is_operand
user_parts s ws e =
    let p : HeadParts s User (Name ∷ []) ws = no_part _ _ _ _ _ _ _ e in
    let one = one_operand Name ws p.operands in
    let new : is_among (get_or ws 0 []) s.names ≡ false = twice_none _ _ p.known in
    let full : leb 8 (length s.names) ≡ false = twice_none _ _ p.many in
    record {
      section = not_body_user s.section p.no_end;
      name = record { word = one.word; is = one.is; named = one.fits; new = ap (λ (t : List Text). is_among (get_or t 0 []) s.names) (sym one.is) ∙ new; few = grind (arith, full) };
    }

in_block : (p : Section) → where_true (is_outside End p) C.Outside ≡ None → p ≡ InBody
unfolding is_outside
in_block Outside e = absurd cc
in_block InUser e = absurd cc
in_block InBody e = refl

pub record EndParts (s : Seen) (ws : List Text) : Type 0 where
  pub section : s.section ≡ InBody
  pub none : ws ≡ []
  pub some : 1 ≤ s.count

pub end_parts : (s : Seen) (ws : List Text) → head_cause s End ws ≡ None → EndParts s ws
unfolding head_cause empty_cause
end_parts s ws e =
    let p : HeadParts s End [] ws = no_part _ _ _ _ _ _ _ e in
    let empty : eqb s.count 0 ≡ false = twice_none _ _ p.empty in
    record { section = in_block s.section p.outside; none = no_operand ws p.operands; some = grind (arith, empty) }

in_user : (p : Section) → where_true (is_outside Phase p) C.Outside ≡ None → p ≡ InUser
unfolding is_outside
in_user Outside e = absurd cc
in_user InBody e = absurd cc
in_user InUser e = refl

pub record PhaseParts (s : Seen) (ws : List Text) : Type 0 where
  pub section : s.section ≡ InUser
  pub none : ws ≡ []
  pub few : s.count < MOST_LINES

pub phase_parts : (s : Seen) (ws : List Text) → head_cause s Phase ws ≡ None → PhaseParts s ws
unfolding head_cause many_cause
phase_parts s ws e =
    let p : HeadParts s Phase [] ws = no_part _ _ _ _ _ _ _ e in
    let section = in_user s.section p.outside in
    let full : leb (line_limit s.section) s.count ≡ false = twice_none _ _ p.many in
    let full240 : leb MOST_LINES s.count ≡ false = ap (λ (q : Section). leb (line_limit q) s.count) (sym section) ∙ full in
    record { section = section; none = no_operand ws p.operands; few = grind (arith, full240) }

-- a request stands where one may
not_outside : (v : Verb) (p : Section) → where_true (is_outside (Asks v) p) C.Outside ≡ None → p ≢ Outside
unfolding is_outside
not_outside v Outside e q = absurd cc
not_outside v InBody e q = absurd cc
not_outside v InUser e q = absurd cc

ok_row : (x : Result Request Cause) → cause_in x ≡ None → (r : Request) × (x ≡ Ok r)
ok_row (Ok r) e = (r, refl)
ok_row (Err c) e = absurd cc

pub record AskParts (s : Seen) (v : Verb) (ws : List Text) : Type 0 where
  pub section : s.section ≢ Outside
  pub request : Request
  pub row : row_of s.labels v ws ≡ Ok request
  pub few : s.count < line_limit s.section

pub ask_parts : (s : Seen) (v : Verb) (ws : List Text) → head_cause s (Asks v) ws ≡ None → AskParts s v ws
unfolding head_cause many_cause
ask_parts s v ws e =
    let p : HeadParts s (Asks v) (verb_classes v) ws = no_part _ _ _ _ _ _ _ e in
    let row = ok_row (row_of s.labels v ws) (row_cause s v ws ∙ ap (λ (k : Option Cause). k or known_cause (Asks v) s ws) p.operands ∙ p.known) in
    let full : leb (line_limit s.section) s.count ≡ false = twice_none _ _ p.many in
    record { section = not_outside v s.section p.outside; request = row.0; row = row.1; few = grind (arith, full) }
