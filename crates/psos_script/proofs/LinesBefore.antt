-- What the lines before a line say is what the reader keeps.
use Rattle.std.proofs.Common.{◌≡◌, ◌≢◌, ℕ, ◌+◌, ◌≤◌, Bool, true, false, cond, eqb, List, [], ◌∷◌, ◌++◌, length, get_or, Option, Some, None, Ok, length-append, refl, sym, ap, ◌∙◌, arith}
use Rattle.std.specs.Prelude.{option_map}
use Rattle.std.proofs.lemmas.Bool.{le-ltb}
use Rattle.psos_text.specs.Lines.{words_of, lines_of}
use Rattle.psos_calls.specs.declared.request.Request.{Request}
use Rattle.psos_model.specs.Text.Operands.{Text}
use Rattle.psos_script.specs.Table.{head_of}
use Rattle.psos_script.specs.Values.{row_of}
use Rattle.psos_script.specs.Fault.{Seen, seen, fault_from, fault_of, at_line, line_cause, end_cause, with_line, count, ◌or◌, headed_cause, words_cause}
use Rattle.psos_script.specs.Draft.{Read, Pending, NonePending, BodyPending, UserPending, seen_in, section_in, count_in, added, taken, phased, fault_after, after_line, after_headed, nothing_read}
use Rattle.psos_script.proofs.HeadParts.{phase_parts, ask_parts}
use Rattle.psos_script.specs.declared.verb.Verb.{Verb}
use Rattle.psos_script.specs.declared.head.Head.{Head}
use Rattle.psos_script.specs.declared.head.Head.TheVariants.{Code, End, User, Phase, Asks}
use Rattle.psos_script.specs.declared.section.Section.{Section}
use Rattle.psos_script.specs.declared.section.Section.TheVariants.{Outside, InUser}
use Rattle.psos_script.specs.declared.cause.Cause.{Cause}

pub or_left : (a b : Option Cause) → (a or b) ≡ None → (a ≡ None) × (b ≡ None)
or_left None b e = (refl, e)
or_left (Some c) b e = absurd cc

seen_is : (p q : Section) (ls ms ns os : List Text) (n m : ℕ) → p ≡ q → ls ≡ ms → ns ≡ os → n ≡ m → (let s : Seen = record { section = p; labels = ls; names = ns; count = n } in s) ≡ record { section = q; labels = ms; names = os; count = m }
seen_is p q ls ms ns os n m a b c d = rw (a, b, c, d) refl

-- a request was added
added_count : (o : Pending) (r : Request) (n : ℕ) → section_in o ≢ Outside → n ≡ count_in o → n + 1 ≡ count_in (added o r)
added_count NonePending r n p e = absurd (p refl)
added_count (BodyPending label body) r n p e = rw e (omega (arith, length-append body (r ∷ [])))
added_count (UserPending name phases requests count) r n p e = rw e refl

added_section : (o : Pending) (r : Request) → section_in (added o r) ≡ section_in o
added_section NonePending r = refl
added_section (BodyPending label body) r = refl
added_section (UserPending name phases requests count) r = refl

seen_code : (past : List (List Text)) (d : Read) (w : Text) (ws : List Text) → head_of w ≡ Some Code → seen past ≡ seen_in d → seen ((w ∷ ws) ∷ past) ≡ seen_in (taken d Code ws)
seen_code past d w ws h s = rw h (seen_is _ _ _ _ _ _ _ _ refl (ap (λ (x : Seen). x.labels ++ get_or ws 0 [] ∷ []) s) (ap (λ (x : Seen). x.names) s) refl)

seen_end : (past : List (List Text)) (d : Read) (w : Text) (ws : List Text) → head_of w ≡ Some End → seen past ≡ seen_in d → seen ((w ∷ ws) ∷ past) ≡ seen_in (taken d End ws)
seen_end past d w ws h s = rw h (seen_is _ _ _ _ _ _ _ _ refl (ap (λ (x : Seen). x.labels) s) (ap (λ (x : Seen). x.names) s) refl)

seen_user : (past : List (List Text)) (d : Read) (w : Text) (ws : List Text) → head_of w ≡ Some User → seen past ≡ seen_in d → seen ((w ∷ ws) ∷ past) ≡ seen_in (taken d User ws)
seen_user past d w ws h s = rw h (seen_is _ _ _ _ _ _ _ _ refl (ap (λ (x : Seen). x.labels) s) (ap (λ (x : Seen). x.names ++ get_or ws 0 [] ∷ []) s) refl)

seen_asks : (past : List (List Text)) (d : Read) (v : Verb) (w : Text) (ws : List Text) (r : Request) → head_of w ≡ Some (Asks v) → section_in d.now ≢ Outside → row_of d.labels v ws ≡ Ok r → seen past ≡ seen_in d → seen ((w ∷ ws) ∷ past) ≡ seen_in (taken d (Asks v) ws)
seen_asks past d v w ws r h p row s =
    rw (h, row) (seen_is _ _ _ _ _ _ _ _
    (ap (λ (x : Seen). x.section) s ∙ sym (added_section d.now r))
    (ap (λ (x : Seen). x.labels) s)
    (ap (λ (x : Seen). x.names) s)
    (added_count d.now r (count past) p (ap (λ (x : Seen). x.count) s)))

phased_count : (o : Pending) (n : ℕ) → section_in o ≡ InUser → n ≡ count_in o → n + 1 ≡ count_in (phased o)
phased_count NonePending n p e = absurd cc
phased_count (BodyPending label body) n p e = absurd cc
phased_count (UserPending name phases requests count) n p e = rw e refl

phased_section : (o : Pending) → section_in (phased o) ≡ section_in o
phased_section NonePending = refl
phased_section (BodyPending label body) = refl
phased_section (UserPending name phases requests count) = refl

seen_phase : (past : List (List Text)) (d : Read) (w : Text) (ws : List Text) → head_of w ≡ Some Phase → section_in d.now ≡ InUser → seen past ≡ seen_in d → seen ((w ∷ ws) ∷ past) ≡ seen_in (taken d Phase ws)
seen_phase past d w ws h p s =
    rw h (seen_is _ _ _ _ _ _ _ _
    (ap (λ (x : Seen). x.section) s ∙ sym (phased_section d.now))
    (ap (λ (x : Seen). x.labels) s)
    (ap (λ (x : Seen). x.names) s)
    (phased_count d.now (count past) p (ap (λ (x : Seen). x.count) s)))

by_head : (past : List (List Text)) (d : Read) (w : Text) (ws : List Text) (o : Option Head) → head_of w ≡ o → headed_cause (seen_in d) o ws ≡ None → seen past ≡ seen_in d → seen ((w ∷ ws) ∷ past) ≡ seen_in (after_headed d o ws)
by_head past d w ws None h e s = absurd cc
by_head past d w ws (Some Code) h e s = seen_code past d w ws h s
by_head past d w ws (Some End) h e s = seen_end past d w ws h s
by_head past d w ws (Some User) h e s = seen_user past d w ws h s
by_head past d w ws (Some Phase) h e s = seen_phase past d w ws h (phase_parts (seen_in d) ws e).section s
by_head past d w ws (Some (Asks v)) h e s = let p = ask_parts (seen_in d) v ws e in seen_asks past d v w ws p.request h p.section p.row s

by_skip : (past : List (List Text)) (d : Read) (w : Text) (ws : List Text) (t : Bool) → cond t None (headed_cause (seen_in d) (head_of w) ws) ≡ None → seen past ≡ seen_in d
    → seen (cond t past ((w ∷ ws) ∷ past)) ≡ seen_in (cond t d (after_headed d (head_of w) ws))
by_skip past d w ws true e s = s
by_skip past d w ws false e s = by_head past d w ws (head_of w) refl e s

step_words : (past : List (List Text)) (d : Read) (ws : List Text) → words_cause (seen_in d) ws ≡ None → seen past ≡ seen_in d → seen (with_line ws past) ≡ seen_in (after_line d ws)
unfolding words_cause
step_words past d [] e s = s
step_words past d (w ∷ ws) e s = by_skip past d w ws (eqb (get_or w 0 0) 35) e s

line_parts : (s : Seen) (line : List ℕ) → line_cause s line ≡ None → words_cause s (words_of line) ≡ None
unfolding line_cause
line_parts s line e = (or_left _ _ (or_left _ _ e).1).1

step_seen : (past : List (List Text)) (d : Read) (line : List ℕ) → line_cause (seen_in d) line ≡ None → seen past ≡ seen_in d → seen (with_line (words_of line) past) ≡ seen_in (after_line d (words_of line))
step_seen past d line e s = step_words past d (words_of line) (line_parts (seen_in d) line e) s

step_case : (n : ℕ) (past : List (List Text)) (d : Read) (line : List ℕ) (lines : List (List ℕ)) (o : Option Cause) → line_cause (seen_in d) line ≡ o → seen past ≡ seen_in d
    → (seen (with_line (words_of line) past) ≡ seen_in (after_line d (words_of line)) → fault_from (n + 1) (with_line (words_of line) past) lines ≡ fault_after (n + 1) (after_line d (words_of line)) lines)
    → at_line n o (fault_from (n + 1) (with_line (words_of line) past) lines) ≡ at_line n o (fault_after (n + 1) (after_line d (words_of line)) lines)
step_case n past d line lines (Some c) e s ih = refl
step_case n past d line lines None e s ih = ih (step_seen past d line e s)

pub by_past : (n : ℕ) (past : List (List Text)) (d : Read) (lines : List (List ℕ)) → seen past ≡ seen_in d → fault_from n past lines ≡ fault_after n d lines
unfolding fault_from
by_past n past d [] s = ap (λ (x : Seen). option_map (λ c. (n, c)) (end_cause x)) s
by_past n past d (line ∷ lines) s =
    ap (λ (x : Seen). at_line n (line_cause x line) (fault_from (n + 1) (with_line (words_of line) past) lines)) s
    ∙ step_case n past d line lines (line_cause (seen_in d) line) refl s (λ t. by_past (n + 1) (with_line (words_of line) past) (after_line d (words_of line)) lines t)

-- the first fault of bytes that are few
pub from_start : (bytes : List ℕ) → length bytes ≤ 1048576 → fault_of bytes ≡ fault_after 1 nothing_read (lines_of bytes)
unfolding fault_of
from_start bytes h = rw (le-ltb 1048576 (length bytes) h) (by_past 1 [] nothing_read (lines_of bytes) refl)
