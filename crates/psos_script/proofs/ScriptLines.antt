-- The lines of a script have no fault, and are read as that script.
use Rattle.std.proofs.Common.{◌≡◌, ◌≢◌, ℕ, ◌+◌, ◌<◌, ◌≤◌, Bool, true, false, cond, not, leb, zero, suc, List, [], ◌∷◌, ◌++◌, length, get_or, map, Option, None, refl, sym, ap, subst, ◌∙◌, arith, append_assoc, length-append}
use Rattle.std.specs.Prelude.{IsTrue, codes}
use Rattle.std.specs.List.{AllByRecursion, flat_map, list_all}
use Rattle.std.specs.Str.{bytes_eq}
use Rattle.std.proofs.lemmas.Bool.{le-ltb, leb-true, and_parts}
use Rattle.std.proofs.lemmas.Slice.Eq.{bytes_eq-Decides}
use Rattle.std.proofs.lemmas.List.{append-nil, map-append, length-map}
use Rattle.psos_text.specs.Name.{is_name}
use Rattle.psos_text.specs.Lines.{lines_of, words_of}
use Rattle.psos_calls.specs.declared.request.Request.{Request}
use Rattle.psos_calls.specs.Language.Request.{InRange}
use Rattle.psos_calls.specs.Language.Script.{CodeBlock, UserScript, Script, IsCodeBlock, IsUserScript, AreDistinct, IsWellFormed}
use Rattle.psos_model.specs.Text.Operands.{Text}
use Rattle.psos_model.specs.Text.Spelling.{labels_of, requests_lines, code_lines, phases_lines, user_lines, script_lines, is_skipped, kept, is_printable, is_line, AreInOrder, IsScript}
use Rattle.psos_script.specs.Fault.{Seen, is_among, at_line, line_cause, words_cause, end_cause, in_body, fault_of}
use Rattle.psos_script.specs.Draft.{Read, NonePending, BodyPending, UserPending, section_in, seen_in, closed, with_now, with_code, after_line, nothing_read, fault_after, read_after, script_of, script_in}
use Rattle.psos_script.proofs.RowsAgain.{AreNumbered}
use Rattle.psos_script.proofs.LinesBefore.{from_start}
use Rattle.psos_script.proofs.DraftShape.{label_of, named}
use Rattle.psos_script.proofs.LineWalks.{Walk, Walk-append, Walk-cons, head_words, head_after, code_fine, user_fine, end_fine, IsReady, body_walk, phases_walk}
use Rattle.psos_script.specs.declared.cause.Cause.{Cause}
use Rattle.psos_script.specs.declared.head.Head.TheVariants.{Code, End, User}
use Rattle.psos_script.specs.declared.section.Section.{Section}
use Rattle.psos_script.specs.declared.section.Section.TheVariants.{Outside, InBody, InUser}

-- ---- texts apart

bytes_other : (x w : Text) → w ≢ x → bytes_eq x w ≡ false
bytes_other x w n = so (bytes_eq x w) refl where
  so : (t : Bool) → bytes_eq x w ≡ t → t ≡ false
  so false e = refl
  so true e = absurd (n (sym ((bytes_eq-Decides x w).0 e)))

middle : {X : Type 0} (P : X → Type 0) (xs : List X) (y : X) (ys : List X) → AllByRecursion P (xs ++ y ∷ ys) → P y
middle P [] y ys h = h.0
middle P (x ∷ xs) y ys h = middle P xs y ys h.1

front : {X : Type 0} (P : X → Type 0) (xs ys : List X) → AllByRecursion P (xs ++ ys) → AllByRecursion P xs
front P [] ys h = tt
front P (x ∷ xs) ys h = (h.0, front P xs ys h.1)

distinct_front : (xs ys : List Text) → AreDistinct (xs ++ ys) → AreDistinct xs
distinct_front [] ys h = tt
distinct_front (x ∷ xs) ys h = (front (λ other. other ≢ x) xs ys h.0, distinct_front xs ys h.1)

-- a text behind others is among none of them
distinct_new : (xs : List Text) (w : Text) (ys : List Text) → AreDistinct (xs ++ w ∷ ys) → is_among w xs ≡ false
distinct_new [] w ys h = refl
distinct_new (x ∷ xs) w ys h = rw (bytes_other x w (middle (λ other. other ≢ x) xs w ys h.0), distinct_new xs w ys h.1) refl

member : {X : Type 0} (P : X → Type 0) (xs : List X) (i : ℕ) (d : X) → AllByRecursion P xs → i < length xs → P (get_or xs i d)
member P [] i d h lt = absurd (omega (arith, lt))
member P (x ∷ xs) zero d h lt = h.0
member P (x ∷ xs) (suc i) d h lt = member P xs i d h.1 (omega (arith, lt))

distinct_numbered : (ls : List Text) → AreDistinct ls → AreNumbered ls
distinct_numbered [] h i lt = absurd (omega (arith, lt))
distinct_numbered (l ∷ ls) h zero lt = rw ((bytes_eq-Decides l l).1 refl) refl
distinct_numbered (l ∷ ls) h (suc i) lt =
    let less : i < length ls = omega (arith, lt) in
    rw (bytes_other l (get_or ls i []) (member (λ other. other ≢ l) ls i [] h.0 less), distinct_numbered ls h.1 i less) (let e : 1 + i ≡ suc i = omega arith in e)

-- ---- code blocks

-- these blocks and users are read, and nothing is unfinished
abbrev pub at : List CodeBlock → List UserScript → Read
at cs us = record { labels = map label_of cs; codes = cs; names = map named us; users = us; now = NonePending }

block_ends : (cs : List CodeBlock) (c : CodeBlock)
    → closed (with_now (with_code (at cs []) c.label) (BodyPending c.label c.body)) ≡ at (cs ++ c ∷ []) []
block_ends cs c = ap (λ (ls : List Text). let d : Read = record { labels = ls; codes = cs ++ c ∷ []; names = []; users = []; now = NonePending } in d) (sym (map-append label_of cs (c ∷ [])))

code_walk : (cs : List CodeBlock) (c : CodeBlock) (rest : List Text) → is_among c.label (map label_of cs) ≡ false → length cs < 64 → IsTrue (is_name c.label) → 1 ≤ length c.body → length c.body ≤ 16
    → IsReady (map label_of cs ++ c.label ∷ []) rest → AllByRecursion (InRange (length (map label_of cs ++ c.label ∷ []))) c.body
    → Walk (at cs []) (code_lines ((map label_of cs ++ c.label ∷ []) ++ rest) c) (at (cs ++ c ∷ []) [])
code_walk cs c rest new few name some short ready range =
    let d = at cs [] in
    let m = with_code d c.label in
    let all = (map label_of cs ++ c.label ∷ []) ++ rest in
    let e = with_now m (BodyPending c.label c.body) in
    let z = at (cs ++ c ∷ []) [] in
    let body : Walk m (requests_lines all c.body) e = body_walk m rest c.label [] c.body ready (omega (arith, short)) range in
    let last : Walk e ((codes "end" ∷ []) ∷ []) z = Walk-cons e z z (codes "end" ∷ []) [] (head_words (seen_in e) End [] ∙ end_fine m.labels m.names (length c.body) some) (head_after e End [] ∙ block_ends cs c) refl in
    Walk-cons d m z (codes "code" ∷ c.label ∷ []) (requests_lines all c.body ++ (codes "end" ∷ []) ∷ [])
    (head_words (seen_in d) Code (c.label ∷ []) ∙ code_fine d c.label refl refl name new (omega (arith, few, (let e : length (map label_of cs) ≡ length cs = length-map cs label_of in e)))) (head_after d Code (c.label ∷ []))
    (Walk-append m e z (requests_lines all c.body) ((codes "end" ∷ []) ∷ []) body last)

split_labels : (cs : List CodeBlock) (c : CodeBlock) (later : List CodeBlock) → map label_of (cs ++ c ∷ later) ≡ (map label_of cs ++ c.label ∷ []) ++ map label_of later
split_labels cs c later = map-append label_of cs (c ∷ later) ∙ sym (append_assoc (map label_of cs) (c.label ∷ []) (map label_of later))

codes_walk : (cs later : List CodeBlock) (blocks : ℕ) → AreDistinct (map label_of (cs ++ later)) → AllByRecursion (λ l. IsTrue (is_name l)) (map label_of (cs ++ later)) → length (cs ++ later) ≤ 64
    → AllByRecursion (IsCodeBlock blocks) later → AreInOrder (length cs) later
    → Walk (at cs []) (flat_map (code_lines (map label_of (cs ++ later))) later) (at (cs ++ later) [])
codes_walk cs [] blocks new names few fit order = ap (λ (x : List CodeBlock). at x []) (sym (append-nil cs))
codes_walk cs (c ∷ later) blocks new names few fit order =
    let rest = map label_of later in
    let labels = map label_of cs ++ c.label ∷ [] in
    let split = split_labels cs c later in
    let D : List Text → Type 0 = λ ls. AreDistinct ls in
    let N : List Text → Type 0 = λ ls. AllByRecursion (λ l. IsTrue (is_name l)) ls in
    let R : ℕ → Type 0 = λ n. AllByRecursion (InRange n) c.body in
    let apart = subst D split new in
    let ready : IsReady labels rest = record { numbered = distinct_numbered labels (distinct_front labels rest apart); named = subst N split names } in
    let own = distinct_new (map label_of cs) c.label rest (subst D (map-append label_of cs (c ∷ later)) new) in
    let count : length cs + 1 ≡ length labels = omega (arith, length-append (map label_of cs) (c.label ∷ []), (let e : length (map label_of cs) ≡ length cs = length-map cs label_of in e)) in
    let one = code_walk cs c rest own (omega (arith, few, length-append cs (c ∷ later))) fit.0.labelled fit.0.some fit.0.few ready (subst R count order.0) in
    let L : List Text → Type 0 = λ ls. Walk (at cs []) (code_lines ls c) (at (cs ++ c ∷ []) []) in
    let moved : (cs ++ c ∷ []) ++ later ≡ cs ++ c ∷ later = append_assoc cs (c ∷ []) later in
    let S : List CodeBlock → Type 0 = λ x. AreDistinct (map label_of x) in
    let T : List CodeBlock → Type 0 = λ x. AllByRecursion (λ l. IsTrue (is_name l)) (map label_of x) in
    let O : ℕ → Type 0 = λ n. AreInOrder n later in
    let others = codes_walk (cs ++ c ∷ []) later blocks (subst S (sym moved) new) (subst T (sym moved) names) (omega (arith, few, ap length moved)) fit.1
    (subst O (let e : length cs + 1 ≡ length (cs ++ c ∷ []) = omega (arith, length-append cs (c ∷ [])) in e) order.1) in
    let W : List CodeBlock → Type 0 = λ x. Walk (at (cs ++ c ∷ []) []) (flat_map (code_lines (map label_of x)) later) (at x []) in
    Walk-append (at cs []) (at (cs ++ c ∷ []) []) (at (cs ++ c ∷ later) []) (code_lines (map label_of (cs ++ c ∷ later)) c) (flat_map (code_lines (map label_of (cs ++ c ∷ later))) later)
    (subst L (sym split) one) (subst W moved others)

-- ---- users

-- what is read when a user begins
abbrev pub begun : Read → Text → Read
begun d name = record { labels = d.labels; codes = (closed d).codes; names = d.names ++ name ∷ []; users = (closed d).users; now = NonePending }

-- over these lines to a point behind all code blocks, where these blocks and users are finished
record Goes (d : Read) (lines : List (List Text)) (cs : List CodeBlock) (us : List UserScript) : Type 0 where
  end : Read
  walk : Walk d lines end
  finished : closed end ≡ at cs us
  section : section_in end.now ≢ InBody

-- the user with these phases
abbrev with_phases : UserScript → List (List Request) → UserScript
with_phases u phases = record { name = u.name; phases = phases }

same_user : (u : UserScript) (phases : List (List Request)) → phases ≡ u.phases → with_phases u phases ≡ u
same_user u phases e = ap (λ (ps : List (List Request)). with_phases u ps) e

-- one user more, and what is finished then
abbrev one_more : Read → UserScript → UserScript → Read
one_more d u v = record { labels = d.labels; codes = d.codes ++ []; names = d.names ++ u.name ∷ []; users = d.users ++ v ∷ []; now = NonePending }

ends_at : (d : Read) (cs : List CodeBlock) (us : List UserScript) (u v : UserScript) → d ≡ at cs us → v ≡ u → one_more d u v ≡ at cs (us ++ u ∷ [])
ends_at d cs us u v is e =
    ap (λ (x : Read). one_more x u v) is
    ∙ rw (e, append-nil cs) (ap (λ (ls : List Text). let r : Read = record { labels = map label_of cs; codes = cs; names = ls; users = us ++ u ∷ []; now = NonePending } in r) (sym (map-append named us (u ∷ []))))

user_walk : (d : Read) (cs : List CodeBlock) (us : List UserScript) (u : UserScript) (blocks : ℕ) → closed d ≡ at cs us → section_in d.now ≢ InBody → is_among u.name (map named us) ≡ false → length us < 8
    → IsReady (map label_of cs) [] → length cs ≡ blocks → IsUserScript blocks u → Goes d (user_lines (map label_of cs ++ []) u) cs (us ++ u ∷ [])
user_walk d cs us u blocks is section new few ready count fit =
    let labels : d.labels ≡ map label_of cs = ap (λ (x : Read). x.labels) is in
    let names : d.names ≡ map named us = ap (λ (x : Read). x.names) is in
    let b = begun d u.name in
    let RD : List Text → Type 0 = λ ls. IsReady ls [] in
    let RN : ℕ → Type 0 = λ n. AllByRecursion (AllByRecursion (InRange n)) u.phases in
    let many : blocks ≡ length d.labels = sym count ∙ sym (length-map cs label_of) ∙ ap length (sym labels) in
    let ends = phases_walk b [] u.name u.phases (subst RD (sym labels) ready) fit.some fit.few (subst RN many fit.in_range) in
    let e = with_now b (UserPending u.name ends.done ends.last ends.count) in
    let own : is_among u.name d.names ≡ false = ap (λ (ns : List Text). is_among u.name ns) names ∙ new in
    let fewer : length d.names < 8 = omega (arith, few, ap length names, (let e : length (map named us) ≡ length us = length-map us named in e)) in
    let cause = head_words (seen_in d) User (u.name ∷ []) ∙ user_fine (section_in d.now) d.labels d.names (seen_in d).count u.name section fit.named own fewer in
    let L : List Text → Type 0 = λ ls. Walk d (user_lines (ls ++ []) u) e in
    let one = same_user u (ends.done ++ ends.last ∷ []) ends.is in
    record {
      end = e;
      walk = subst L labels (Walk-cons d (with_now b (UserPending u.name [] [] 0)) e (codes "user" ∷ u.name ∷ []) (phases_lines (d.labels ++ []) u.phases) cause (head_after d User (u.name ∷ [])) ends.walk);
      finished = ends_at (closed d) cs us u (with_phases u (ends.done ++ ends.last ∷ [])) is one;
      section = λ q. absurd cc;
    }

at_same : (d : Read) (cs : List CodeBlock) (us vs : List UserScript) → d ≡ at cs us → us ≡ vs → d ≡ at cs vs
at_same d cs us vs is e = let P : List UserScript → Type 0 = λ x. d ≡ at cs x in subst P e is

users_walk : (d : Read) (cs : List CodeBlock) (us later : List UserScript) (blocks : ℕ) → closed d ≡ at cs us → section_in d.now ≢ InBody → AreDistinct (map named (us ++ later)) → length (us ++ later) ≤ 8
    → IsReady (map label_of cs) [] → length cs ≡ blocks → AllByRecursion (IsUserScript blocks) later → Goes d (flat_map (user_lines (map label_of cs ++ [])) later) cs (us ++ later)
users_walk d cs us [] blocks is section new few ready count fit = record { end = d; walk = refl; finished = at_same (closed d) cs us (us ++ []) is (sym (append-nil us)); section = section }
users_walk d cs us (u ∷ later) blocks is section new few ready count fit =
    let D : List Text → Type 0 = λ ls. AreDistinct ls in
    let own = distinct_new (map named us) u.name (map named later) (subst D (map-append named us (u ∷ later)) new) in
    let one = user_walk d cs us u blocks is section own (omega (arith, few, length-append us (u ∷ later))) ready count fit.0 in
    let moved : (us ++ u ∷ []) ++ later ≡ us ++ u ∷ later = append_assoc us (u ∷ []) later in
    let S : List UserScript → Type 0 = λ x. AreDistinct (map named x) in
    let others = users_walk one.end cs (us ++ u ∷ []) later blocks one.finished one.section (subst S (sym moved) new) (omega (arith, few, ap length moved)) ready count fit.1 in
    record {
      end = others.end;
      walk = Walk-append d one.end others.end (user_lines (map label_of cs ++ []) u) (flat_map (user_lines (map label_of cs ++ [])) later) one.walk others.walk;
      finished = at_same (closed others.end) cs ((us ++ u ∷ []) ++ later) (us ++ u ∷ later) others.finished moved;
      section = others.section;
    }

-- ---- lines

printable_cause : (s : Seen) (line : List ℕ) (k : Option Cause) → IsTrue (is_line line) → words_cause s (words_of line) ≡ k → line_cause s line ≡ k
unfolding line_cause
printable_cause s line k h e =
    let p = and_parts (leb (length line) 200) (list_all is_printable line) h in
    rw (le-ltb 200 (length line) (leb-true (length line) 200 p.0), p.1) e

-- a line that is skipped says nothing
skipped : (d : Read) (ws : List Text) → is_skipped ws ≡ true → (words_cause (seen_in d) ws ≡ None) × (after_line d ws ≡ d)
unfolding words_cause
skipped d [] e = (refl, refl)
skipped d (w ∷ ws) e = rw e (refl, refl)

line_walk : (d e : Read) (ws : List Text) (rest : List (List Text)) (t : Bool) → is_skipped ws ≡ t → Walk d (cond (not t) (ws ∷ rest) rest) e → (words_cause (seen_in d) ws ≡ None) × Walk (after_line d ws) rest e
line_walk d e ws rest false k w = w
line_walk d e ws rest true k w = let s = skipped d ws k in let P : Read → Type 0 = λ x. Walk x rest e in (s.0, subst P (sym s.1) w)

lines_walk : (n : ℕ) (d e : Read) (lines : List (List ℕ)) → AllByRecursion (λ line. IsTrue (is_line line)) lines → Walk d (kept lines) e → end_cause (seen_in e) ≡ None
    → (fault_after n d lines ≡ None) × (read_after d lines ≡ e)
lines_walk n d e [] h w over = (rw w (rw over refl), w)
lines_walk n d e (line ∷ lines) h w over =
    let s = line_walk d e (words_of line) (kept lines) (is_skipped (words_of line)) refl w in
    let k = lines_walk (n + 1) (after_line d (words_of line)) e lines h.1 s.1 over in
    (ap (λ (o : Option Cause). at_line n o (fault_after (n + 1) (after_line d (words_of line)) lines)) (printable_cause (seen_in d) line None h.0 s.0) ∙ k.0, k.1)

-- ---- the script

over_none : (p : Section) (ls ns : List Text) (n : ℕ) → p ≢ InBody → 1 ≤ length ns → end_cause (record { section = p; labels = ls; names = ns; count = n }) ≡ None
unfolding end_cause in_body
over_none InBody ls ns n p some = absurd (p refl)
over_none Outside ls [] n p some = absurd (omega (arith, some))
over_none InUser ls [] n p some = absurd (omega (arith, some))
over_none Outside ls (x ∷ xs) n p some = refl
over_none InUser ls (x ∷ xs) n p some = refl

label_names : (blocks : ℕ) (cs : List CodeBlock) → AllByRecursion (IsCodeBlock blocks) cs → AllByRecursion (λ l. IsTrue (is_name l)) (map label_of cs)
label_names blocks [] h = tt
label_names blocks (c ∷ cs) h = (h.0.labelled, label_names blocks cs h.1)

record IsWalked (s : Script) : Type 0 where
  end : Read
  walk : Walk nothing_read (script_lines s) end
  finished : closed end ≡ at s.codes s.users
  over : end_cause (seen_in end) ≡ None

script_walk : (s : Script) → IsWellFormed s → AreInOrder 0 s.codes → IsWalked s
script_walk s f order =
    let blocks = length s.codes in
    let names = label_names blocks s.codes f.codes in
    let first : Walk nothing_read (flat_map (code_lines (labels_of s)) s.codes) (at s.codes []) = codes_walk [] s.codes blocks f.labels names f.few_codes f.codes order in
    let N : List Text → Type 0 = λ ls. AllByRecursion (λ l. IsTrue (is_name l)) ls in
    let ready : IsReady (labels_of s) [] = record { numbered = distinct_numbered (labels_of s) f.labels; named = subst N (sym (append-nil (labels_of s))) names } in
    let same : closed (at s.codes []) ≡ at s.codes [] = ap (λ (cs : List CodeBlock). let d : Read = record { labels = map label_of s.codes; codes = cs; names = []; users = []; now = NonePending } in d) (append-nil s.codes) in
    let later = users_walk (at s.codes []) s.codes [] s.users blocks same (λ q. absurd cc) f.names f.few_users ready refl f.users in
    let L : List Text → Type 0 = λ ls. Walk (at s.codes []) (flat_map (user_lines ls) s.users) later.end in
    let end_names : later.end.names ≡ map named s.users = ap (λ (x : Read). x.names) later.finished in
    record {
      end = later.end;
      walk = Walk-append nothing_read (at s.codes []) later.end (flat_map (code_lines (labels_of s)) s.codes) (flat_map (user_lines (labels_of s)) s.users) first (subst L (append-nil (labels_of s)) later.walk);
      finished = later.finished;
      over = over_none (section_in later.end.now) later.end.labels later.end.names (seen_in later.end).count later.section (omega (arith, f.some_users, ap length end_names, (let e : length (map named s.users) ≡ length s.users = length-map s.users named in e)));
    }

-- the bytes of a script have no fault, and that script is read of them
pub complete : (bytes : List ℕ) (s : Script) → IsScript bytes s → (fault_of bytes ≡ None) × (script_in (lines_of bytes) ≡ s)
unfolding script_in
complete bytes s h =
    let w = script_walk s h.well_formed h.order in
    let P : List (List Text) → Type 0 = λ ls. Walk nothing_read ls w.end in
    let k = lines_walk 1 nothing_read w.end (lines_of bytes) h.lines (subst P (sym h.spelled) w.walk) w.over in
    (from_start bytes h.short ∙ k.0, ap script_of k.1 ∙ ap (λ (x : Read). let t : Script = record { users = x.users; codes = x.codes } in t) w.finished)
