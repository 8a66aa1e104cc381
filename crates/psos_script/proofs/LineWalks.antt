-- Walks over the lines of a script, none of which has a cause.
use Rattle.std.proofs.Common.{◌≡◌, ◌≢◌, ℕ, ◌+◌, ◌<◌, ◌≤◌, false, eqb, List, [], ◌∷◌, ◌++◌, length, get_or, None, Result, Ok, refl, sym, ap, subst, ◌∙◌, arith, append_assoc, length-append}
use Rattle.std.specs.Prelude.{IsTrue, codes, sum_by}
use Rattle.std.specs.List.{AllByRecursion, flat_map}
use Rattle.std.proofs.lemmas.Bool.{lt-leb}
use Rattle.std.proofs.lemmas.List.{append-nil}
use Rattle.std.proofs.lemmas.List.Sums.{sum_by-cons}
use Rattle.psos_limits.specs.declared.TheConstants.{MOST_LINES}
use Rattle.psos_text.specs.Name.{is_name}
use Rattle.psos_calls.specs.declared.request.Request.{Request}
use Rattle.psos_calls.specs.Language.Request.{InRange}
use Rattle.psos_model.specs.Text.Operands.{Text}
use Rattle.psos_model.specs.Text.RequestWords.{request_words}
use Rattle.psos_model.specs.Text.Spelling.{requests_lines, later_lines, phases_lines}
use Rattle.psos_script.specs.Operands.{is_operand}
use Rattle.psos_script.specs.Table.{verb_classes, head_text}
use Rattle.psos_script.specs.Values.{value_words, row_of}
use Rattle.psos_script.specs.Fault.{Seen, is_among, words_cause, head_cause, operands_cause, known_cause, is_outside, is_no_end, is_late_code, empty_cause, many_cause, line_limit, row_limit_cause}
use Rattle.psos_script.specs.Draft.{Read, NonePending, BodyPending, UserPending, section_in, count_in, seen_in, added, added_row, with_now, taken, after_line}
use Rattle.psos_script.proofs.RowLaws.{head_again, row_fine}
use Rattle.psos_script.proofs.RowsAgain.{verb, values, words_are, values_fit, AreNumbered, row_again}
use Rattle.psos_script.specs.declared.cause.Cause.{Cause}
use Rattle.psos_script.specs.declared.verb.Verb.{Verb}
use Rattle.psos_script.specs.declared.verb.Verb.TheVariants as V
use Rattle.psos_script.specs.declared.head.Head.{Head}
use Rattle.psos_script.specs.declared.head.Head.TheVariants.{Code, End, User, Phase, Asks}
use Rattle.psos_script.specs.declared.section.Section.{Section}
use Rattle.psos_script.specs.declared.section.Section.TheVariants.{Outside, InBody, InUser}

-- from what is read, over lines without a cause, to what is read then
abbrev pub Walk : Read → List (List Text) → Read → Type 0
Walk d [] e = d ≡ e
Walk d (ws ∷ rest) e = (words_cause (seen_in d) ws ≡ None) × Walk (after_line d ws) rest e

pub Walk-append : (d m e : Read) (xs ys : List (List Text)) → Walk d xs m → Walk m ys e → Walk d (xs ++ ys) e
Walk-append d m e [] ys p q = let P : Read → Type 0 = λ x. Walk x ys e in subst P (sym p) q
Walk-append d m e (x ∷ xs) ys p q = (p.0, Walk-append (after_line d x) m e xs ys p.1 q)

-- one line, and then the others
pub Walk-cons : (d m e : Read) (ws : List Text) (rest : List (List Text)) → words_cause (seen_in d) ws ≡ None → after_line d ws ≡ m → Walk m rest e → Walk d (ws ∷ rest) e
Walk-cons d m e ws rest c a w = let P : Read → Type 0 = λ x. Walk x rest e in (c, subst P (sym a) w)

-- ---- a line of a head

no_comment : (h : Head) → eqb (get_or (head_text h) 0 0) 35 ≡ false
no_comment Code = refl
no_comment End = refl
no_comment User = refl
no_comment Phase = refl
no_comment (Asks V.Mint) = refl
no_comment (Asks V.Restrict) = refl
no_comment (Asks V.Set) = refl
no_comment (Asks V.Move) = refl
no_comment (Asks V.Add) = refl
no_comment (Asks V.Read) = refl
no_comment (Asks V.Write) = refl
no_comment (Asks V.Window) = refl
no_comment (Asks V.Length) = refl
no_comment (Asks V.Lookup) = refl
no_comment (Asks V.Bind) = refl
no_comment (Asks V.Unbind) = refl
no_comment (Asks V.List) = refl
no_comment (Asks V.Impl) = refl
no_comment (Asks V.MkSeg) = refl
no_comment (Asks V.MkDir) = refl
no_comment (Asks V.MkType) = refl
no_comment (Asks V.MkObj) = refl
no_comment (Asks V.MkCode) = refl
no_comment (Asks V.Delete) = refl
no_comment (Asks V.Send) = refl
no_comment (Asks V.Recv) = refl
no_comment (Asks V.Call) = refl
no_comment (Asks V.Path) = refl
no_comment (Asks V.Find) = refl

pub head_words : (s : Seen) (h : Head) (ws : List Text) → words_cause s (head_text h ∷ ws) ≡ head_cause s h ws
unfolding words_cause
head_words s h ws = rw (no_comment h, head_again h) refl

pub head_after : (d : Read) (h : Head) (ws : List Text) → after_line d (head_text h ∷ ws) ≡ taken d h ws
head_after d h ws = rw (no_comment h, head_again h) refl

pub code_fine : (d : Read) (w : Text) → d.now ≡ NonePending → d.names ≡ [] → IsTrue (is_name w) → is_among w d.labels ≡ false → length d.labels < 64 → head_cause (seen_in d) Code (w ∷ []) ≡ None
unfolding head_cause is_outside is_no_end is_late_code operands_cause is_operand known_cause empty_cause many_cause
code_fine d w n e name new few = rw (n, e, name, new, lt-leb 64 (length d.labels) few) refl

pub user_fine : (p : Section) (ls ns : List Text) (n : ℕ) (w : Text) → p ≢ InBody → IsTrue (is_name w) → is_among w ns ≡ false → length ns < 8
    → head_cause (record { section = p; labels = ls; names = ns; count = n }) User (w ∷ []) ≡ None
unfolding head_cause is_outside is_no_end is_late_code operands_cause is_operand known_cause empty_cause many_cause
user_fine InBody ls ns n w p name new few = absurd (p refl)
user_fine Outside ls ns n w p name new few = rw (name, new, lt-leb 8 (length ns) few) refl
user_fine InUser ls ns n w p name new few = rw (name, new, lt-leb 8 (length ns) few) refl

not_zero : (n : ℕ) → 1 ≤ n → eqb n 0 ≡ false
not_zero n h = grind (arith, h)

pub end_fine : (ls ns : List Text) (n : ℕ) → 1 ≤ n → head_cause (record { section = InBody; labels = ls; names = ns; count = n }) End [] ≡ None
unfolding head_cause is_outside is_no_end is_late_code operands_cause known_cause empty_cause many_cause
end_fine ls ns n some = rw (not_zero n some) refl

pub phase_fine : (ls ns : List Text) (n : ℕ) → n < MOST_LINES → head_cause (record { section = InUser; labels = ls; names = ns; count = n }) Phase [] ≡ None
unfolding head_cause is_outside is_no_end is_late_code operands_cause known_cause empty_cause many_cause
phase_fine ls ns n few = rw (lt-leb MOST_LINES n few) refl

ask_fine : (p : Section) (ls ns : List Text) (n : ℕ) (v : Verb) (ws : List Text) → p ≢ Outside → row_limit_cause (record { section = p; labels = ls; names = ns; count = n }) v ws (line_limit p) ≡ None
    → head_cause (record { section = p; labels = ls; names = ns; count = n }) (Asks v) ws ≡ None
unfolding head_cause is_outside is_no_end is_late_code empty_cause many_cause
ask_fine Outside ls ns n v ws p h = absurd (p refl)
ask_fine InBody ls ns n v ws p h = h
ask_fine InUser ls ns n v ws p h = h

-- ---- requests

-- the labels so far have their numbers, and all labels are names
pub record IsReady (labels rest : List Text) : Type 0 where
  pub numbered : AreNumbered labels
  pub named : AllByRecursion (λ l. IsTrue (is_name l)) (labels ++ rest)

-- a request's line
pub ask_line : (d : Read) (rest : List Text) (r : Request) → IsReady d.labels rest → InRange (length d.labels) r → section_in d.now ≢ Outside → count_in d.now < line_limit (section_in d.now)
    → (words_cause (seen_in d) (request_words (d.labels ++ rest) r) ≡ None) × (after_line d (request_words (d.labels ++ rest) r) ≡ with_now d (added d.now r))
ask_line d rest r ready range section few =
    let all = d.labels ++ rest in
    let ws = value_words (verb_classes (verb r)) (values all r) in
    let row : row_of d.labels (verb r) ws ≡ Ok r = row_again d.labels rest r ready.numbered range (values_fit all (length d.labels) r ready.named (omega (arith, length-append d.labels rest)) range) in
    let fine = row_fine (seen_in d) (verb r) ws (line_limit (section_in d.now)) r row few in (
      ap (λ (t : List Text). words_cause (seen_in d) t) (words_are all r) ∙ head_words (seen_in d) (Asks (verb r)) ws ∙ ask_fine (section_in d.now) d.labels d.names (count_in d.now) (verb r) ws section fine,
      ap (λ (t : List Text). after_line d t) (words_are all r) ∙ head_after d (Asks (verb r)) ws ∙ ap (λ (q : Result Request Cause). with_now d (added_row d.now q)) row,
    )

pub body_walk : (b : Read) (rest : List Text) (label : Text) (before after : List Request) → IsReady b.labels rest → length before + length after ≤ 16 → AllByRecursion (InRange (length b.labels)) after
    → Walk (with_now b (BodyPending label before)) (requests_lines (b.labels ++ rest) after) (with_now b (BodyPending label (before ++ after)))
body_walk b rest label before [] ready few range = ap (λ (rs : List Request). with_now b (BodyPending label rs)) (sym (append-nil before))
body_walk b rest label before (r ∷ rs) ready few range =
    let d = with_now b (BodyPending label before) in
    let one = ask_line d rest r ready range.0 (λ e. absurd cc) (omega (arith, few)) in
    let others = body_walk b rest label (before ++ r ∷ []) rs ready (omega (arith, few, length-append before (r ∷ []))) range.1 in
    let P : List Request → Type 0 = λ x. Walk (with_now b (BodyPending label (before ++ r ∷ []))) (requests_lines (b.labels ++ rest) rs) (with_now b (BodyPending label x)) in
    Walk-cons d (with_now b (BodyPending label (before ++ r ∷ []))) (with_now b (BodyPending label (before ++ r ∷ rs))) (request_words (b.labels ++ rest) r) (requests_lines (b.labels ++ rest) rs) one.0 one.1
    (subst P (append_assoc before (r ∷ []) rs) others)

pub phase_walk : (b : Read) (rest : List Text) (name : Text) (phases : List (List Request)) (before after : List Request) (count : ℕ) → IsReady b.labels rest → count + length after ≤ MOST_LINES
    → AllByRecursion (InRange (length b.labels)) after
    → Walk (with_now b (UserPending name phases before count)) (requests_lines (b.labels ++ rest) after) (with_now b (UserPending name phases (before ++ after) (count + length after)))
phase_walk b rest name phases before [] count ready few range =
    ap (λ (rs : List Request). with_now b (UserPending name phases rs count)) (sym (append-nil before))
    ∙ ap (λ (n : ℕ). with_now b (UserPending name phases (before ++ []) n)) (let e : count ≡ count + 0 = omega arith in e)
phase_walk b rest name phases before (r ∷ rs) count ready few range =
    let d = with_now b (UserPending name phases before count) in
    let one = ask_line d rest r ready range.0 (λ e. absurd cc) (omega (arith, few)) in
    let m = with_now b (UserPending name phases (before ++ r ∷ []) (count + 1)) in
    let others = phase_walk b rest name phases (before ++ r ∷ []) rs (count + 1) ready (omega (arith, few)) range.1 in
    let P : List Request → Type 0 = λ x. Walk m (requests_lines (b.labels ++ rest) rs) (with_now b (UserPending name phases x (count + 1 + length rs))) in
    let Q : ℕ → Type 0 = λ n. Walk m (requests_lines (b.labels ++ rest) rs) (with_now b (UserPending name phases (before ++ r ∷ rs) n)) in
    Walk-cons d m (with_now b (UserPending name phases (before ++ r ∷ rs) (count + length (r ∷ rs)))) (request_words (b.labels ++ rest) r) (requests_lines (b.labels ++ rest) rs) one.0 one.1
    (subst Q (let e : count + 1 + length rs ≡ count + length (r ∷ rs) = omega arith in e) (subst P (append_assoc before (r ∷ []) rs) others))

-- ---- phases

-- the lines end in the unfinished user, who has these phases
pub record EndsInUser (b d : Read) (lines : List (List Text)) (name : Text) (phases : List (List Request)) : Type 0 where
  pub done : List (List Request)
  pub last : List Request
  pub count : ℕ
  pub walk : Walk d lines (with_now b (UserPending name done last count))
  pub is : done ++ last ∷ [] ≡ phases

abbrev size : List (List Request) → ℕ
size phases = sum_by (λ (p : List Request). length p + 1) phases

pub later_walk : (b : Read) (rest : List Text) (name : Text) (done : List (List Request)) (last : List Request) (count : ℕ) (later : List (List Request)) → IsReady b.labels rest → count + size later ≤ MOST_LINES
    → AllByRecursion (AllByRecursion (InRange (length b.labels))) later
    → EndsInUser b (with_now b (UserPending name done last count)) (flat_map (later_lines (b.labels ++ rest)) later) name ((done ++ last ∷ []) ++ later)
later_walk b rest name done last count [] ready few range = record { done = done; last = last; count = count; walk = refl; is = sym (append-nil (done ++ last ∷ [])) }
later_walk b rest name done last count (p ∷ ps) ready few range =
    let all = b.labels ++ rest in
    let d = with_now b (UserPending name done last count) in
    let whole : size (p ∷ ps) ≡ length p + 1 + size ps = sum_by-cons (λ (p : List Request). length p + 1) p ps in
    let m = with_now b (UserPending name (done ++ last ∷ []) [] (count + 1)) in
    let e = with_now b (UserPending name (done ++ last ∷ []) p (count + 1 + length p)) in
    let this : Walk m (requests_lines all p) e = phase_walk b rest name (done ++ last ∷ []) [] p (count + 1) ready (omega (arith, few, whole)) range.0 in
    let others = later_walk b rest name (done ++ last ∷ []) p (count + 1 + length p) ps ready (omega (arith, few, whole)) range.1 in
    let z = with_now b (UserPending name others.done others.last others.count) in
    record {
      done = others.done;
      last = others.last;
      count = others.count;
      walk = Walk-cons d m z (codes "phase" ∷ []) (requests_lines all p ++ flat_map (later_lines all) ps)
          (head_words (seen_in d) Phase [] ∙ phase_fine b.labels b.names count (omega (arith, few, whole))) (head_after d Phase []) (Walk-append m e z (requests_lines all p) (flat_map (later_lines all) ps) this others.walk);
      is = others.is ∙ append_assoc (done ++ last ∷ []) (p ∷ []) ps;
    }

pub phases_walk : (b : Read) (rest : List Text) (name : Text) (phases : List (List Request)) → IsReady b.labels rest → 1 ≤ length phases → size phases ≤ 241
    → AllByRecursion (AllByRecursion (InRange (length b.labels))) phases
    → EndsInUser b (with_now b (UserPending name [] [] 0)) (phases_lines (b.labels ++ rest) phases) name phases
phases_walk b rest name [] ready some few range = absurd (omega (arith, some))
phases_walk b rest name (p ∷ ps) ready some few range =
    let all = b.labels ++ rest in
    let whole : size (p ∷ ps) ≡ length p + 1 + size ps = sum_by-cons (λ (p : List Request). length p + 1) p ps in
    let m = with_now b (UserPending name [] p (0 + length p)) in
    let this : Walk (with_now b (UserPending name [] [] 0)) (requests_lines all p) m = phase_walk b rest name [] [] p 0 ready (omega (arith, few, whole)) range.0 in
    let others = later_walk b rest name [] p (0 + length p) ps ready (omega (arith, few, whole)) range.1 in
    record {
      done = others.done;
      last = others.last;
      count = others.count;
      walk = Walk-append (with_now b (UserPending name [] [] 0)) m (with_now b (UserPending name others.done others.last others.count)) (requests_lines all p) (flat_map (later_lines all) ps) this others.walk;
      is = others.is;
    }
