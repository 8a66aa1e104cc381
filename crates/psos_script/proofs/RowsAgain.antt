-- The words of a request are read as that request.
use Rattle.std.proofs.Common.{◌≡◌, ℕ, ◌<◌, ◌≤◌, zero, suc, List, [], ◌∷◌, ◌++◌, length, get_or, Result, Ok, refl, ap, ◌∙◌, arith}
use Rattle.std.specs.Prelude.{IsTrue}
use Rattle.std.specs.List.{AllByRecursion}
use Rattle.std.proofs.lemmas.Bool.{lt-ltb}
use Rattle.std.proofs.lemmas.List.{get_or_append_left}
use Rattle.psos_text.specs.declared.name.Name.{Name as NameValue}
use Rattle.psos_text.specs.Name.{is_name}
use Rattle.psos_calls.specs.declared.request.Request.{Request}
use Rattle.psos_calls.specs.declared.request.Request.TheVariants as R
use Rattle.psos_calls.specs.Language.Request.{InRange}
use Rattle.psos_model.specs.Text.Operands.{Text}
use Rattle.psos_model.specs.Text.RequestWords.{request_words}
use Rattle.psos_script.specs.Table.{verb_classes, verb_text}
use Rattle.psos_script.specs.Values.{Values, take_of, none_left, values_of, value_words, number_among, ◌>>=◌, row_of, check_label}
use Rattle.psos_script.proofs.OperandLaws.{value_again}
use Rattle.psos_script.proofs.RowLaws.{ValuesFit}
use Rattle.psos_script.specs.declared.class.Class.{Class}
use Rattle.psos_script.specs.declared.cause.Cause.{Cause}
use Rattle.psos_script.specs.declared.verb.Verb.{Verb}
use Rattle.psos_script.specs.declared.verb.Verb.TheVariants as V

-- a request's verb
abbrev pub verb : Request → Verb
verb (R.Mint rd) = V.Mint
verb (R.Restrict rd rs keep) = V.Restrict
verb (R.Set rd n) = V.Set
verb (R.Move rd rs) = V.Move
verb (R.Add rd ra rb) = V.Add
verb (R.Read rd rs n) = V.Read
verb (R.Write rs n rv) = V.Write
verb (R.Window rd rs base len) = V.Window
verb (R.Length rd rs) = V.Length
verb (R.Lookup rd rs name) = V.Lookup
verb (R.Bind rs name rv) = V.Bind
verb (R.Unbind rs name) = V.Unbind
verb (R.List rs) = V.List
verb (R.Impl rd rt ro) = V.Impl
verb (R.MkSeg rd rs name len guard) = V.MkSeg
verb (R.MkDir rd rs name guard) = V.MkDir
verb (R.MkType rd rs name) = V.MkType
verb (R.MkObj rd rt rs name len) = V.MkObj
verb (R.MkCode rd rs name label rl) = V.MkCode
verb (R.Delete rs name) = V.Delete
verb (R.Send rp rv) = V.Send
verb (R.Recv rd) = V.Recv
verb (R.Call rp) = V.Call
verb (R.Path rs) = V.Path
verb (R.Find rd name) = V.Find

-- its values
abbrev pub values : List Text → (r : Request) → Values (verb_classes (verb r))
values labels (R.Mint rd) = (rd, tt)
values labels (R.Restrict rd rs keep) = (rd, (rs, (keep.0, tt)))
values labels (R.Set rd n) = (rd, (n, tt))
values labels (R.Move rd rs) = (rd, (rs, tt))
values labels (R.Add rd ra rb) = (rd, (ra, (rb, tt)))
values labels (R.Read rd rs n) = (rd, (rs, (n, tt)))
values labels (R.Write rs n rv) = (rs, (n, (rv, tt)))
values labels (R.Window rd rs base len) = (rd, (rs, (base, (len, tt))))
values labels (R.Length rd rs) = (rd, (rs, tt))
values labels (R.Lookup rd rs name) = (rd, (rs, (name, tt)))
values labels (R.Bind rs name rv) = (rs, (name, (rv, tt)))
values labels (R.Unbind rs name) = (rs, (name, tt))
values labels (R.List rs) = (rs, tt)
values labels (R.Impl rd rt ro) = (rd, (rt, (ro, tt)))
values labels (R.MkSeg rd rs name len guard) = (rd, (rs, (name, (len, (guard, tt)))))
values labels (R.MkDir rd rs name guard) = (rd, (rs, (name, (guard, tt))))
values labels (R.MkType rd rs name) = (rd, (rs, (name, tt)))
values labels (R.MkObj rd rt rs name len) = (rd, (rt, (rs, (name, (len, tt)))))
values labels (R.MkCode rd rs name label rl) = (rd, (rs, (name, (get_or labels label [], (rl, tt)))))
values labels (R.Delete rs name) = (rs, (name, tt))
values labels (R.Send rp rv) = (rp, (rv, tt))
values labels (R.Recv rd) = (rd, tt)
values labels (R.Call rp) = (rp, tt)
values labels (R.Path rs) = (rs, tt)
values labels (R.Find rd name) = (rd, (name, tt))

pub words_are : (labels : List Text) (r : Request) → request_words labels r ≡ verb_text (verb r) ∷ value_words (verb_classes (verb r)) (values labels r)
words_are labels (R.Mint rd) = refl
words_are labels (R.Restrict rd rs keep) = refl
words_are labels (R.Set rd n) = refl
words_are labels (R.Move rd rs) = refl
words_are labels (R.Add rd ra rb) = refl
words_are labels (R.Read rd rs n) = refl
words_are labels (R.Write rs n rv) = refl
words_are labels (R.Window rd rs base len) = refl
words_are labels (R.Length rd rs) = refl
words_are labels (R.Lookup rd rs name) = refl
words_are labels (R.Bind rs name rv) = refl
words_are labels (R.Unbind rs name) = refl
words_are labels (R.List rs) = refl
words_are labels (R.Impl rd rt ro) = refl
words_are labels (R.MkSeg rd rs name len guard) = refl
words_are labels (R.MkDir rd rs name guard) = refl
words_are labels (R.MkType rd rs name) = refl
words_are labels (R.MkObj rd rt rs name len) = refl
words_are labels (R.MkCode rd rs name label rl) = refl
words_are labels (R.Delete rs name) = refl
words_are labels (R.Send rp rv) = refl
words_are labels (R.Recv rd) = refl
words_are labels (R.Call rp) = refl
words_are labels (R.Path rs) = refl
words_are labels (R.Find rd name) = refl

pub values_again : (cs : List Class) (vs : Values cs) → ValuesFit cs vs → values_of cs (value_words cs vs) ≡ Ok vs
unfolding take_of none_left
values_again [] vs h = refl
values_again (c ∷ cs) vs h = rw (value_again c vs.0 h.0, values_again cs vs.1 h.1) refl

name_at : (all : List Text) (i : ℕ) → AllByRecursion (λ l. IsTrue (is_name l)) all → i < length all → IsTrue (is_name (get_or all i []))
name_at [] i h lt = absurd (omega (arith, lt))
name_at (l ∷ ls) zero h lt = h.0
name_at (l ∷ ls) (suc i) h lt = name_at ls i h.1 (omega (arith, lt))

-- its values may be such, where all labels are names
pub values_fit : (all : List Text) (blocks : ℕ) (r : Request) → AllByRecursion (λ l. IsTrue (is_name l)) all → blocks ≤ length all → InRange blocks r → ValuesFit (verb_classes (verb r)) (values all r)
values_fit all blocks (R.Mint rd) named le h = (h, tt)
values_fit all blocks (R.Restrict rd rs keep) named le h = (h.0, (h.1, (h.2, tt)))
values_fit all blocks (R.Set rd n) named le h = (h.0, (h.1, tt))
values_fit all blocks (R.Move rd rs) named le h = (h.0, (h.1, tt))
values_fit all blocks (R.Add rd ra rb) named le h = (h.0, (h.1, (h.2, tt)))
values_fit all blocks (R.Read rd rs n) named le h = (h.0, (h.1, (h.2, tt)))
values_fit all blocks (R.Write rs n rv) named le h = (h.0, (h.1, (h.2, tt)))
values_fit all blocks (R.Window rd rs base len) named le h = (h.0, (h.1, (h.2, (h.3, tt))))
values_fit all blocks (R.Length rd rs) named le h = (h.0, (h.1, tt))
values_fit all blocks (R.Lookup rd rs name) named le h = (h.0, (h.1, (h.2, tt)))
values_fit all blocks (R.Bind rs name rv) named le h = (h.0, (h.1, (h.2, tt)))
values_fit all blocks (R.Unbind rs name) named le h = (h.0, (h.1, tt))
values_fit all blocks (R.List rs) named le h = (h, tt)
values_fit all blocks (R.Impl rd rt ro) named le h = (h.0, (h.1, (h.2, tt)))
values_fit all blocks (R.MkSeg rd rs name len guard) named le h = (h.0, (h.1, (h.2, (h.3, (h.4, tt)))))
values_fit all blocks (R.MkDir rd rs name guard) named le h = (h.0, (h.1, (h.2, (h.3, tt))))
values_fit all blocks (R.MkType rd rs name) named le h = (h.0, (h.1, (h.2, tt)))
values_fit all blocks (R.MkObj rd rt rs name len) named le h = (h.0, (h.1, (h.2, (h.3, (h.4, tt)))))
values_fit all blocks (R.MkCode rd rs name label rl) named le h = (h.0, (h.1, (h.2, (name_at all label named (omega (arith, le, h.3)), (h.4, tt)))))
values_fit all blocks (R.Delete rs name) named le h = (h.0, (h.1, tt))
values_fit all blocks (R.Send rp rv) named le h = (h.0, (h.1, tt))
values_fit all blocks (R.Recv rd) named le h = (h, tt)
values_fit all blocks (R.Call rp) named le h = (h, tt)
values_fit all blocks (R.Path rs) named le h = (h, tt)
values_fit all blocks (R.Find rd name) named le h = (h.0, (h.1, tt))

-- the labels so far have their numbers
abbrev pub AreNumbered : List Text → Type 0
AreNumbered labels = (i : ℕ) → i < length labels → number_among labels (get_or labels i []) ≡ i

code_case : (labels rest : List Text) (label rd rs rl : ℕ) (name : NameValue) → AreNumbered labels → label < length labels
    → check_label labels V.MkCode (rd, (rs, (name, (get_or (labels ++ rest) label [], (rl, tt))))) ≡ Ok (R.MkCode rd rs name label rl)
code_case labels rest label rd rs rl name k lt =
    let same : number_among labels (get_or (labels ++ rest) label []) ≡ label = ap (λ (w : Text). number_among labels w) (get_or_append_left labels rest [] label lt) ∙ k label lt in
    rw (same, lt-ltb label (length labels) lt) refl

pub row_again : (labels rest : List Text) (r : Request) → AreNumbered labels → InRange (length labels) r → ValuesFit (verb_classes (verb r)) (values (labels ++ rest) r)
    → row_of labels (verb r) (value_words (verb_classes (verb r)) (values (labels ++ rest) r)) ≡ Ok r
row_again labels rest (R.Mint rd) k range h = ap (λ (q : Result (Values (verb_classes V.Mint)) Cause). q >>= λ vs. check_label labels V.Mint vs) (values_again (verb_classes V.Mint) (values (labels ++ rest) (R.Mint rd)) h)
row_again labels rest (R.Restrict rd rs keep) k range h = ap (λ (q : Result (Values (verb_classes V.Restrict)) Cause). q >>= λ vs. check_label labels V.Restrict vs) (values_again (verb_classes V.Restrict) (values (labels ++ rest) (R.Restrict rd rs keep)) h)
row_again labels rest (R.Set rd n) k range h = ap (λ (q : Result (Values (verb_classes V.Set)) Cause). q >>= λ vs. check_label labels V.Set vs) (values_again (verb_classes V.Set) (values (labels ++ rest) (R.Set rd n)) h)
row_again labels rest (R.Move rd rs) k range h = ap (λ (q : Result (Values (verb_classes V.Move)) Cause). q >>= λ vs. check_label labels V.Move vs) (values_again (verb_classes V.Move) (values (labels ++ rest) (R.Move rd rs)) h)
row_again labels rest (R.Add rd ra rb) k range h = ap (λ (q : Result (Values (verb_classes V.Add)) Cause). q >>= λ vs. check_label labels V.Add vs) (values_again (verb_classes V.Add) (values (labels ++ rest) (R.Add rd ra rb)) h)
row_again labels rest (R.Read rd rs n) k range h = ap (λ (q : Result (Values (verb_classes V.Read)) Cause). q >>= λ vs. check_label labels V.Read vs) (values_again (verb_classes V.Read) (values (labels ++ rest) (R.Read rd rs n)) h)
row_again labels rest (R.Write rs n rv) k range h = ap (λ (q : Result (Values (verb_classes V.Write)) Cause). q >>= λ vs. check_label labels V.Write vs) (values_again (verb_classes V.Write) (values (labels ++ rest) (R.Write rs n rv)) h)
row_again labels rest (R.Window rd rs base len) k range h = ap (λ (q : Result (Values (verb_classes V.Window)) Cause). q >>= λ vs. check_label labels V.Window vs) (values_again (verb_classes V.Window) (values (labels ++ rest) (R.Window rd rs base len)) h)
row_again labels rest (R.Length rd rs) k range h = ap (λ (q : Result (Values (verb_classes V.Length)) Cause). q >>= λ vs. check_label labels V.Length vs) (values_again (verb_classes V.Length) (values (labels ++ rest) (R.Length rd rs)) h)
row_again labels rest (R.Lookup rd rs name) k range h = ap (λ (q : Result (Values (verb_classes V.Lookup)) Cause). q >>= λ vs. check_label labels V.Lookup vs) (values_again (verb_classes V.Lookup) (values (labels ++ rest) (R.Lookup rd rs name)) h)
row_again labels rest (R.Bind rs name rv) k range h = ap (λ (q : Result (Values (verb_classes V.Bind)) Cause). q >>= λ vs. check_label labels V.Bind vs) (values_again (verb_classes V.Bind) (values (labels ++ rest) (R.Bind rs name rv)) h)
row_again labels rest (R.Unbind rs name) k range h = ap (λ (q : Result (Values (verb_classes V.Unbind)) Cause). q >>= λ vs. check_label labels V.Unbind vs) (values_again (verb_classes V.Unbind) (values (labels ++ rest) (R.Unbind rs name)) h)
row_again labels rest (R.List rs) k range h = ap (λ (q : Result (Values (verb_classes V.List)) Cause). q >>= λ vs. check_label labels V.List vs) (values_again (verb_classes V.List) (values (labels ++ rest) (R.List rs)) h)
row_again labels rest (R.Impl rd rt ro) k range h = ap (λ (q : Result (Values (verb_classes V.Impl)) Cause). q >>= λ vs. check_label labels V.Impl vs) (values_again (verb_classes V.Impl) (values (labels ++ rest) (R.Impl rd rt ro)) h)
row_again labels rest (R.MkSeg rd rs name len guard) k range h = ap (λ (q : Result (Values (verb_classes V.MkSeg)) Cause). q >>= λ vs. check_label labels V.MkSeg vs) (values_again (verb_classes V.MkSeg) (values (labels ++ rest) (R.MkSeg rd rs name len guard)) h)
row_again labels rest (R.MkDir rd rs name guard) k range h = ap (λ (q : Result (Values (verb_classes V.MkDir)) Cause). q >>= λ vs. check_label labels V.MkDir vs) (values_again (verb_classes V.MkDir) (values (labels ++ rest) (R.MkDir rd rs name guard)) h)
row_again labels rest (R.MkType rd rs name) k range h = ap (λ (q : Result (Values (verb_classes V.MkType)) Cause). q >>= λ vs. check_label labels V.MkType vs) (values_again (verb_classes V.MkType) (values (labels ++ rest) (R.MkType rd rs name)) h)
row_again labels rest (R.MkObj rd rt rs name len) k range h = ap (λ (q : Result (Values (verb_classes V.MkObj)) Cause). q >>= λ vs. check_label labels V.MkObj vs) (values_again (verb_classes V.MkObj) (values (labels ++ rest) (R.MkObj rd rt rs name len)) h)
row_again labels rest (R.MkCode rd rs name label rl) k range h = ap (λ (q : Result (Values (verb_classes V.MkCode)) Cause). q >>= λ vs. check_label labels V.MkCode vs) (values_again (verb_classes V.MkCode) (values (labels ++ rest) (R.MkCode rd rs name label rl)) h) ∙ code_case labels rest label rd rs rl name k range.3
row_again labels rest (R.Delete rs name) k range h = ap (λ (q : Result (Values (verb_classes V.Delete)) Cause). q >>= λ vs. check_label labels V.Delete vs) (values_again (verb_classes V.Delete) (values (labels ++ rest) (R.Delete rs name)) h)
row_again labels rest (R.Send rp rv) k range h = ap (λ (q : Result (Values (verb_classes V.Send)) Cause). q >>= λ vs. check_label labels V.Send vs) (values_again (verb_classes V.Send) (values (labels ++ rest) (R.Send rp rv)) h)
row_again labels rest (R.Recv rd) k range h = ap (λ (q : Result (Values (verb_classes V.Recv)) Cause). q >>= λ vs. check_label labels V.Recv vs) (values_again (verb_classes V.Recv) (values (labels ++ rest) (R.Recv rd)) h)
row_again labels rest (R.Call rp) k range h = ap (λ (q : Result (Values (verb_classes V.Call)) Cause). q >>= λ vs. check_label labels V.Call vs) (values_again (verb_classes V.Call) (values (labels ++ rest) (R.Call rp)) h)
row_again labels rest (R.Path rs) k range h = ap (λ (q : Result (Values (verb_classes V.Path)) Cause). q >>= λ vs. check_label labels V.Path vs) (values_again (verb_classes V.Path) (values (labels ++ rest) (R.Path rs)) h)
row_again labels rest (R.Find rd name) k range h = ap (λ (q : Result (Values (verb_classes V.Find)) Cause). q >>= λ vs. check_label labels V.Find vs) (values_again (verb_classes V.Find) (values (labels ++ rest) (R.Find rd name)) h)

-- where more blocks have begun it is in range too
pub range_grows : (few many : ℕ) (r : Request) → few ≤ many → InRange few r → InRange many r
range_grows few many (R.Mint rd) le h = h
range_grows few many (R.Restrict rd rs keep) le h = h
range_grows few many (R.Set rd n) le h = h
range_grows few many (R.Move rd rs) le h = h
range_grows few many (R.Add rd ra rb) le h = h
range_grows few many (R.Read rd rs n) le h = h
range_grows few many (R.Write rs n rv) le h = h
range_grows few many (R.Window rd rs base len) le h = h
range_grows few many (R.Length rd rs) le h = h
range_grows few many (R.Lookup rd rs name) le h = h
range_grows few many (R.Bind rs name rv) le h = h
range_grows few many (R.Unbind rs name) le h = h
range_grows few many (R.List rs) le h = h
range_grows few many (R.Impl rd rt ro) le h = h
range_grows few many (R.MkSeg rd rs name len guard) le h = h
range_grows few many (R.MkDir rd rs name guard) le h = h
range_grows few many (R.MkType rd rs name) le h = h
range_grows few many (R.MkObj rd rt rs name len) le h = h
range_grows few many (R.MkCode rd rs name label rl) le h = (h.0, h.1, h.2, omega (arith, le, h.3), h.4)
range_grows few many (R.Delete rs name) le h = h
range_grows few many (R.Send rp rv) le h = h
range_grows few many (R.Recv rd) le h = h
range_grows few many (R.Call rp) le h = h
range_grows few many (R.Path rs) le h = h
range_grows few many (R.Find rd name) le h = h
