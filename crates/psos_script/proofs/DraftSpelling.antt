-- Bytes without a fault spell the script that is read of them.
use Rattle.std.proofs.Common.{◌≡◌, ◌≢◌, ℕ, ◌+◌, ◌≤◌, Bool, true, false, not, cond, eqb, ltb, List, [], ◌∷◌, ◌++◌, length, get_or, map, Option, Some, None, inl, inr, refl, sym, ap, subst, ◌∙◌, arith, append_assoc}
use Rattle.std.specs.Prelude.{IsTrue, option_map}
use Rattle.std.specs.List.{AllByRecursion, list_all, flat_map}
use Rattle.std.proofs.lemmas.Bool.{le-leb, ltb-false}
use Rattle.std.proofs.lemmas.List.{append-nil, length-map}
use Rattle.psos_text.specs.Lines.{lines_of, words_of}
use Rattle.psos_text.proofs.ReadingSteps.{chosen}
use Rattle.psos_calls.specs.declared.request.Request.{Request}
use Rattle.psos_calls.specs.Language.Request.{InRange}
use Rattle.psos_calls.specs.Language.Script.{CodeBlock, UserScript, IsCodeBlock, IsUserScript, AreDistinct, IsWellFormed}
use Rattle.psos_model.specs.Text.Operands.{Text}
use Rattle.psos_model.specs.Text.Spelling.{labels_of, code_lines, user_lines, is_skipped, kept, is_printable, is_line, AreInOrder, IsScript}
use Rattle.psos_script.specs.Table.{head_of, head_text}
use Rattle.psos_script.specs.Fault.{Seen, at_line, line_cause, words_cause, headed_cause, end_cause, in_body, some_names, where_true, fault_of, fault_from}
use Rattle.psos_script.specs.Draft.{Read, seen_in, closed, taken, after_line, after_headed, nothing_read, fault_after, read_after, script_of, script_in}
use Rattle.psos_script.proofs.RowLaws.{head_takes}
use Rattle.psos_script.proofs.RowsAgain.{range_grows}
use Rattle.psos_script.proofs.HeadParts.{where_none}
use Rattle.psos_script.proofs.LinesBefore.{by_past, or_left}
use Rattle.psos_script.proofs.DraftShape.{label_of, named, read_lines, AreBlocks, AreAskers, IsDraft}
use Rattle.psos_script.proofs.OneLineMore.{closed_lines}
use Rattle.psos_script.proofs.DraftSteps.{Steps, code_step, end_step, user_step, phase_step, ask_step, close_user, no_body}
use Rattle.psos_script.specs.declared.cause.Cause.{Cause}
use Rattle.psos_script.specs.declared.cause.Cause.TheVariants as C
use Rattle.psos_script.specs.declared.head.Head.{Head}
use Rattle.psos_script.specs.declared.head.Head.TheVariants.{Code, End, User, Phase, Asks}
use Rattle.psos_script.specs.declared.section.Section.{Section}
use Rattle.psos_script.specs.declared.section.Section.TheVariants.{Outside, InBody, InUser}

-- ---- line after line

-- from what is read to what is read then, over these lines' words
record Goes (d e : Read) (ls : List (List Text)) : Type 0 where
  draft : IsDraft e
  lines : (rest : List Text) → read_lines (e.labels ++ rest) e ≡ read_lines (e.labels ++ rest) d ++ ls
  more : List Text
  grows : e.labels ≡ d.labels ++ more

stays : (d : Read) → IsDraft d → Goes d d []
stays d h = record { draft = h; lines = λ rest. sym (append-nil (read_lines (d.labels ++ rest) d)); more = []; grows = sym (append-nil d.labels) }

stepped : (d e : Read) (w : Text) (ws : List Text) (h : Head) → w ≡ head_text h → Steps d e (head_text h ∷ ws) → Goes d e ((w ∷ ws) ∷ [])
stepped d e w ws h is s =
    let P : Text → Type 0 = λ t. Goes d e ((t ∷ ws) ∷ []) in
    subst P (sym is) (record { draft = s.draft; lines = s.lines; more = s.more; grows = s.grows })

headed : (d : Read) (w : Text) (ws : List Text) (o : Option Head) → head_of w ≡ o → headed_cause (seen_in d) o ws ≡ None → IsDraft d → Goes d (after_headed d o ws) ((w ∷ ws) ∷ [])
headed d w ws None k e h = absurd cc
headed d w ws (Some Code) k e h = stepped d (taken d Code ws) w ws Code (head_takes w Code k) (code_step d ws e h)
headed d w ws (Some End) k e h = stepped d (taken d End ws) w ws End (head_takes w End k) (end_step d ws e h)
headed d w ws (Some User) k e h = stepped d (taken d User ws) w ws User (head_takes w User k) (user_step d ws e h)
headed d w ws (Some Phase) k e h = stepped d (taken d Phase ws) w ws Phase (head_takes w Phase k) (phase_step d ws e h)
headed d w ws (Some (Asks v)) k e h = stepped d (taken d (Asks v) ws) w ws (Asks v) (head_takes w (Asks v) k) (ask_step d v ws e h)

by_comment : (d : Read) (w : Text) (ws : List Text) (t : Bool) → cond t None (headed_cause (seen_in d) (head_of w) ws) ≡ None → IsDraft d
    → Goes d (cond t d (after_headed d (head_of w) ws)) (cond (not t) ((w ∷ ws) ∷ []) [])
by_comment d w ws true e h = stays d h
by_comment d w ws false e h = headed d w ws (head_of w) refl e h

-- the words of one line, if it is not skipped
abbrev kept_words : List Text → List (List Text)
kept_words ws = cond (not (is_skipped ws)) (ws ∷ []) []

words_step : (d : Read) (ws : List Text) → words_cause (seen_in d) ws ≡ None → IsDraft d → Goes d (after_line d ws) (kept_words ws)
unfolding words_cause
words_step d [] e h = stays d h
words_step d (w ∷ ws) e h = by_comment d w ws (eqb (get_or w 0 0) 35) e h

not_false : (b : Bool) → not b ≡ false → b ≡ true
not_false true e = refl
not_false false e = absurd cc

line_step : (d : Read) (line : List ℕ) → line_cause (seen_in d) line ≡ None → IsDraft d → IsTrue (is_line line) × Goes d (after_line d (words_of line)) (kept_words (words_of line))
unfolding line_cause
line_step d line e h =
    let p = or_left _ _ e in
    let q = or_left _ _ p.1 in
    let short : length line ≤ 200 = ltb-false 200 (length line) (where_none _ _ p.0) in
    let bytes : list_all is_printable line ≡ true = not_false _ (where_none _ _ q.0) in
    let both : is_line line ≡ true = rw (le-leb (length line) 200 short, bytes) refl in
    (both, words_step d (words_of line) q.1 h)

-- ---- all lines

record AllRead (d : Read) (lines : List (List ℕ)) : Type 0 where
  are_lines : AllByRecursion (λ line. IsTrue (is_line line)) lines
  goes : Goes d (read_after d lines) (kept lines)
  over : end_cause (seen_in (read_after d lines)) ≡ None

at_none : (n : ℕ) (o : Option Cause) (later : Option (ℕ × Cause)) → at_line n o later ≡ None → (o ≡ None) × (later ≡ None)
at_none n None later e = (refl, e)
at_none n (Some c) later e = absurd cc

mapped_none : {A B : Type 0} (f : A → B) (o : Option A) → option_map f o ≡ None → o ≡ None
mapped_none f None e = refl
mapped_none f (Some x) e = absurd cc

kept_case : (t : Bool) (ws : List Text) (rest : List (List Text)) → cond t (ws ∷ []) [] ++ rest ≡ cond t (ws ∷ rest) rest
kept_case true ws rest = refl
kept_case false ws rest = refl

goes_on : (d m e : Read) (xs ys : List (List Text)) → Goes d m xs → Goes m e ys → Goes d e (xs ++ ys)
goes_on d m e xs ys s t = record {
  draft = t.draft;
  lines = λ rest.
      let all : e.labels ++ rest ≡ m.labels ++ (t.more ++ rest) = ap (λ (ls : List Text). ls ++ rest) t.grows ∙ append_assoc m.labels t.more rest in
      let P : List Text → Type 0 = λ ls. read_lines ls m ≡ read_lines ls d ++ xs in
      t.lines rest ∙ ap (λ (ls : List (List Text)). ls ++ ys) (subst P (sym all) (s.lines (t.more ++ rest))) ∙ append_assoc (read_lines (e.labels ++ rest) d) xs ys;
  more = s.more ++ t.more;
  grows = t.grows ∙ ap (λ (ls : List Text). ls ++ t.more) s.grows ∙ append_assoc d.labels s.more t.more;
}

all_read : (n : ℕ) (d : Read) (lines : List (List ℕ)) → fault_after n d lines ≡ None → IsDraft d → AllRead d lines
all_read n d [] e h = record { are_lines = tt; goes = stays d h; over = mapped_none (λ (c : Cause). (n, c)) (end_cause (seen_in d)) e }
all_read n d (line ∷ lines) e h =
    let p = at_none n (line_cause (seen_in d) line) (fault_after (n + 1) (after_line d (words_of line)) lines) e in
    let s = line_step d line p.0 h in
    let k = all_read (n + 1) (after_line d (words_of line)) lines p.1 s.1.draft in
    let P : List (List Text) → Type 0 = λ ls. Goes d (read_after d (line ∷ lines)) ls in
    record {
      are_lines = (s.0, k.are_lines);
      goes = subst P (kept_case (not (is_skipped (words_of line))) (words_of line) (kept lines)) (goes_on d (after_line d (words_of line)) (read_after d (line ∷ lines)) (kept_words (words_of line)) (kept lines) s.1 k.goes);
      over = k.over;
    }

-- ---- the script

range_all : (m n : ℕ) (rs : List Request) → m ≤ n → AllByRecursion (InRange m) rs → AllByRecursion (InRange n) rs
range_all m n [] le h = tt
range_all m n (r ∷ rs) le h = (range_grows m n r le h.0, range_all m n rs le h.1)

in_order : (before : ℕ) (cs : List CodeBlock) → AreBlocks before cs → AreInOrder before cs
in_order before [] h = tt
in_order before (c ∷ cs) h = (h.0.0.range, in_order (before + 1) cs h.1)

code_blocks : (before blocks : ℕ) (cs : List CodeBlock) → before + length cs ≤ blocks → AreBlocks before cs → AllByRecursion (IsCodeBlock blocks) cs
code_blocks before blocks [] le h = tt
code_blocks before blocks (c ∷ cs) le h =
    (record { labelled = h.0.0.labelled; some = h.0.1; few = h.0.0.few; in_range = range_all (before + 1) blocks c.body (omega (arith, le)) h.0.0.range }, code_blocks (before + 1) blocks cs (omega (arith, le)) h.1)

user_scripts : (blocks : ℕ) (us : List UserScript) → AreAskers blocks us → AllByRecursion (IsUserScript blocks) us
user_scripts blocks [] h = tt
user_scripts blocks (u ∷ us) h =
    let a = h.0.1 in
    (record { named = a.named; some = a.some; few = omega (arith, a.counted, a.few); in_range = a.range }, user_scripts blocks us h.1)

over_section : (p : Section) → where_true (in_body p) C.NoEnd ≡ None → p ≢ InBody
unfolding in_body
over_section Outside e = λ q. cc
over_section InUser e = λ q. cc
over_section InBody e = absurd cc

over_names : (ns : List Text) → where_true (not (some_names ns)) C.NoUser ≡ None → 1 ≤ length ns
over_names [] e = absurd cc
over_names (n ∷ ns) e = omega arith

over_parts : (s : Seen) → end_cause s ≡ None → (s.section ≢ InBody) × (1 ≤ length s.names)
unfolding end_cause
over_parts s e = let p = or_left (where_true (in_body s.section) C.NoEnd) (where_true (not (some_names s.names)) C.NoUser) e in (over_section s.section p.0, over_names s.names p.1)

-- what is finished is a script that is well formed
finished : (d : Read) (cs : List CodeBlock) (us : List UserScript) → d.labels ≡ map label_of cs → d.names ≡ map named us → AreBlocks 0 cs → AreAskers (length cs) us → IsDraft d → 1 ≤ length d.names
    → IsWellFormed (record { users = us; codes = cs })
finished d cs us l n blocks askers h some =
    let P : List Text → Type 0 = λ ls. AreDistinct ls in
    record {
      some_users = omega (arith, some, ap length n, length-map us named);
      few_users = omega (arith, h.few_names, ap length n, length-map us named);
      few_codes = omega (arith, h.few_labels, ap length l, length-map cs label_of);
      codes = code_blocks 0 (length cs) cs (omega arith) blocks;
      users = user_scripts (length cs) us askers;
      labels = subst P l h.new_labels;
      names = subst P n h.new_names;
    }

empty_draft : IsDraft nothing_read
empty_draft = record { labels = refl; names = refl; few_labels = omega arith; few_names = omega arith; new_labels = tt; new_names = tt; codes = tt; users = tt; fits = tt }

few_bytes : (bytes : List ℕ) → fault_of bytes ≡ None → (length bytes ≤ 1048576) × (fault_from 1 [] (lines_of bytes) ≡ None)
unfolding fault_of
few_bytes bytes e =
    elim (chosen (ltb 1048576 (length bytes)) (Some (0, C.InputTooLong)) (fault_from 1 [] (lines_of bytes)) None e) [
      | inl long ↦ absurd (no_fault long.1)
      | inr short ↦ (ltb-false 1048576 (length bytes) short.0, short.1)
    ] where
      no_fault : (let o : Option (ℕ × Cause) = Some (0, C.InputTooLong) in o) ≡ None → ⊥
      no_fault e = cc

pub sound : (bytes : List ℕ) → fault_of bytes ≡ None → IsScript bytes (script_in (lines_of bytes))
unfolding script_in
sound bytes e =
    let p = few_bytes bytes e in
    let lines = lines_of bytes in
    let d = read_after nothing_read lines in
    let all = all_read 1 nothing_read lines (sym (by_past 1 [] nothing_read lines refl) ∙ p.1) empty_draft in
    let over = over_parts (seen_in d) all.over in
    let last = close_user d d.now over.0 all.goes.draft in
    let s = script_of d in
    let labels : d.labels ≡ labels_of s = last.labels ∙ ap (λ (cs : List CodeBlock). map label_of cs) (append-nil s.codes) in
    let names : d.names ≡ map named s.users = last.names ∙ ap (λ (us : List UserScript). map named us) (append-nil s.users) in
    let same : d.labels ++ [] ≡ labels_of s = append-nil d.labels ∙ labels in
    let spelled : read_lines (d.labels ++ []) (closed d) ≡ kept lines = closed_lines (d.labels ++ []) d d.now (no_body d.now over.0) ∙ all.goes.lines [] in
    let P : List Text → Type 0 = λ ls. kept lines ≡ flat_map (code_lines ls) s.codes ++ flat_map (user_lines ls) s.users in
    record {
      short = p.0;
      lines = all.are_lines;
      spelled = subst P same (sym spelled ∙ ap (λ (us : List (List Text)). flat_map (code_lines (d.labels ++ [])) s.codes ++ us) (append-nil (flat_map (user_lines (d.labels ++ [])) s.users)));
      order = in_order 0 s.codes last.codes;
      well_formed = finished (closed d) s.codes s.users labels names last.codes last.users last over.1;
    }
