-- The tables and slots at boot, while they are filled. States docs/system.md, "Boot", and docs/levels.md, "Pages and slots".
use Rattle.std.proofs.Common.{◌≡◌, ℕ, zero, suc, ◌+◌, ◌-◌, ◌*◌, ◌/◌, ◌%◌, ◌<◌, ◌≤◌, true, Result, Ok, Err, List, [], ◌∷◌, ◌++◌, length, set, Option, Some, None, refl, sym, ap, subst, ◌∙◌, arith, append_assoc, length-append}
use Rattle.std.specs.Prelude.{replicate, slice_index_or}
use Rattle.std.specs.FinMap.{empty}
use Rattle.std.proofs.lemmas.List.{length-replicate}
use Rattle.std.proofs.Math.Seq.{set-append_seam}
use Rattle.std.proofs.Common.{get_or-set_other}
use Rattle.psos_limits.specs.declared.TheConstants.{SLOTS, MOST_WORDS}
use Rattle.psos_table.specs.Table.{Table, at, put, size}
use Rattle.psos_table.proofs.Tables.{at-empty, at-put_apart, size-empty}
use Rattle.psos_words.specs.declared.word.Word.{Word}
use Rattle.psos_words.specs.Words.{zeros}
use Rattle.psos_calls.specs.declared.kind.Kind.{Kind}
use Rattle.psos_calls.specs.declared.kind.Kind.TheVariants as kinds
use Rattle.psos_caps.specs.Capability.{full}
use Rattle.psos_words.specs.Directory.{entry_words}
use Rattle.psos_calls.specs.Levels.Level7.{Pages, IsTaken, first_free, slot_words, words_in, written}
use Rattle.psos_calls.specs.Levels.Level8.{SegState}
use Rattle.psos_calls.specs.Levels.Level9.{TypeState}
use Rattle.psos_calls.specs.Levels.Level10.{DirState}
use Rattle.psos_calls.specs.Levels.Level11.{LifeState}
use Rattle.psos_calls.specs.Levels.Level12.{BoxState}
use Rattle.psos_calls.specs.Levels.Level13.{CodeState}
use Rattle.psos_calls.specs.Language.User.{User}
use Rattle.psos_model.specs.Replay.{System, boot_system}
use Rattle.psos_calls.specs.Language.Script.{Script, UserScript}
use Rattle.psos_model.specs.Flat.Boot.{guard_1, scratch_name, boot_life, boot_boxes, boot_users, scratch_of}
use Rattle.psos_model.specs.Replay.BootLevels.{rep_row, scratch_row, home_slot, home_words, user_slots, boot_reps, boot_scratch, boot_objects, boot_guards}
use Rattle.psos_model.proofs.BootRows.{user_rows, base_row, rows_size, life_are, reps_are, scratch_are, objects_are, guards_are, root_row, home_row, as_object}
use Rattle.psos_procs.specs.Mailboxes.{no_words}
use Rattle.psos_core.specs.Booting.{first_taken, with_homes, AreBlank, boot_slots}

-- ---- the next user's rows are not there yet

next_row : {X : Type 0} (base : Table X) (first : ℕ) (val : ℕ → X) (i : ℕ) (users : List UserScript) → at base (first + 4 * i) ≡ None → at (user_rows base first val (i + 1) users) (first + 4 * i) ≡ None
next_row base first val i users none = base_row base first val (first + 4 * i) (i + 1) users (λ j h e. omega (arith, h, e)) ∙ none

pub next_guard : (i : ℕ) (users : List UserScript) → at (boot_guards (i + 1) users) (4 + 4 * i) ≡ None
next_guard i users =
    ap (λ t. at t (4 + 4 * i)) (guards_are (i + 1) users)
    ∙ next_row (put empty 1 guard_1) 4 (λ j. guard_1) i users (at-put_apart empty 1 guard_1 (4 + 4 * i) (λ e. omega (arith, e)) ∙ at-empty (4 + 4 * i))

pub next_object : (i : ℕ) (users : List UserScript) → at (boot_objects (i + 1) users) (4 + 4 * i) ≡ None
next_object i users =
    ap (λ t. at t (4 + 4 * i)) (objects_are (i + 1) users)
    ∙ next_row (put empty 1 (as_object root_row)) 4 (λ j. as_object (home_row j)) i users (at-put_apart empty 1 (as_object root_row) (4 + 4 * i) (λ e. omega (arith, e)) ∙ at-empty (4 + 4 * i))

pub next_rep : (i : ℕ) (users : List UserScript) → at (boot_reps (i + 1) users) (5 + 4 * i) ≡ None
next_rep i users =
    ap (λ t. at t (5 + 4 * i)) (reps_are (i + 1) users)
    ∙ next_row (put empty 2 (rep_row 0)) 5 (λ j. rep_row (home_slot j)) i users (at-put_apart empty 2 (rep_row 0) (5 + 4 * i) (λ e. omega (arith, e)) ∙ at-empty (5 + 4 * i))

-- no representation is a scratch segment
no_rep : (i : ℕ) (all : List UserScript) → at (boot_reps 0 all) (6 + 4 * i) ≡ None
no_rep i all =
    ap (λ t. at t (6 + 4 * i)) (reps_are 0 all)
    ∙ (base_row (put empty 2 (rep_row 0)) 5 (λ j. rep_row (home_slot j)) (6 + 4 * i) 0 all (λ j h e. omega (arith, e)) ∙ (at-put_apart empty 2 (rep_row 0) (6 + 4 * i) (λ e. omega (arith, e)) ∙ at-empty (6 + 4 * i)))

pub next_scratch : (all : List UserScript) (i : ℕ) (users : List UserScript) → at (boot_scratch (boot_reps 0 all) (i + 1) users) (6 + 4 * i) ≡ None
next_scratch all i users = ap (λ t. at t (6 + 4 * i)) (scratch_are (boot_reps 0 all) (i + 1) users) ∙ next_row (boot_reps 0 all) 6 scratch_row i users (no_rep i all)

pub next_life : (i : ℕ) (users : List UserScript) → at (boot_life (i + 1) users) (6 + 4 * i) ≡ None
next_life i users = ap (λ t. at t (6 + 4 * i)) (life_are (i + 1) users) ∙ next_row empty 6 (λ _. kinds.Segment) i users (at-empty (6 + 4 * i))

pub few_life : (i : ℕ) (users : List UserScript) → length users ≤ 8 → size (boot_life i users) < MOST_WORDS
few_life i users few =
    let rows = rows_size empty 6 (λ _. kinds.Segment) i users in
    let same = ap (λ t. size t) (life_are i users) in
    let none = size-empty Kind in
    omega (arith, rows, same, none, few)

-- ---- mailboxes

pub boxes_none : (i : ℕ) (users : List UserScript) → no_words i (length users) ≡ boot_boxes i users
unfolding no_words
boxes_none i [] = refl
boxes_none i (user ∷ users) = ap (λ (t : Table (List Word)). put t (3 + 4 * i) []) (boxes_none (i + 1) users)

-- ---- taking slots

abbrev blank : Option (List Word)
blank = Some (zeros MOST_WORDS)

abbrev free : Option (List Word)
free = None

taken_then_free : (n : ℕ) (rest : Pages) → first_free (replicate n blank ++ free ∷ rest) ≡ n
taken_then_free zero rest = refl
taken_then_free (suc n) rest = ap suc (taken_then_free n rest)

taken_one_more : (n : ℕ) (rest : Pages) → set (replicate n blank ++ free ∷ rest) n blank ≡ replicate (suc n) blank ++ rest
taken_one_more zero rest = refl
taken_one_more (suc n) rest = ap (λ (p : Pages). blank ∷ p) (taken_one_more n rest)

next_free : (n : ℕ) → n < SLOTS → first_taken n ≡ replicate n blank ++ free ∷ replicate (520 - n) free
next_free n h =
    let one : SLOTS - n ≡ suc (520 - n) = omega (arith, h) in
    ap (λ k. replicate n blank ++ replicate k free) one

pub least_free : (n : ℕ) → n < SLOTS → first_free (first_taken n) ≡ n
least_free n h = ap first_free (next_free n h) ∙ taken_then_free n (replicate (520 - n) free)

pub slots_length : (n : ℕ) → n ≤ SLOTS → length (first_taken n) ≡ SLOTS
slots_length n h =
    omega (arith, h, length-append (replicate n blank) (replicate (SLOTS - n) free), length-replicate n blank, length-replicate (SLOTS - n) free)

pub take_one : (n : ℕ) → n < SLOTS → set (first_taken n) (first_free (first_taken n)) blank ≡ first_taken (n + 1)
take_one n h =
    let same : 520 - n ≡ SLOTS - (n + 1) = omega (arith, h) in
    let more : suc n ≡ n + 1 = omega arith in
    ap (set (first_taken n) (first_free (first_taken n))) refl
    ∙ (ap (λ k. set (first_taken n) k blank) (least_free n h)
    ∙ (ap (λ (p : Pages). set p n blank) (next_free n h)
    ∙ (taken_one_more n (replicate (520 - n) free)
    ∙ (ap (λ k. replicate (suc n) blank ++ replicate k free) same ∙ ap (λ k. replicate k blank ++ replicate (SLOTS - (n + 1)) free) more))))

-- ---- the entries of homes

-- a slot that is not written stays
pub blank_after : (i n : ℕ) (p : Pages) (ws : List Word) → AreBlank i (n + 1) p → AreBlank (i + 1) n (set p (home_slot i) (Some ws))
blank_after i n p ws h j low high =
    get_or-set_other p (home_slot i) (home_slot j) (Some ws) None (λ e. omega (arith, low, e)) ∙ h j (omega (arith, low)) (omega (arith, high))

-- two slots a user, not written
abbrev pairs : List UserScript → Pages
pairs [] = []
pairs (user ∷ users) = blank ∷ blank ∷ pairs users

pairs_are : (users : List UserScript) → replicate (2 * length users) blank ≡ pairs users
pairs_are [] = refl
pairs_are (user ∷ users) =
    let two : 2 * suc (length users) ≡ suc (suc (2 * length users)) = omega arith in
    ap (λ n. replicate n blank) two ∙ ap (λ (p : Pages). blank ∷ blank ∷ p) (pairs_are users)

homes_filled : (i : ℕ) (users : List UserScript) (front rest : Pages) → length front ≡ 1 + 2 * i → with_homes i users (front ++ (pairs users ++ rest)) ≡ front ++ (user_slots i users ++ rest)
homes_filled i [] front rest e = refl
homes_filled i (user ∷ users) front rest e =
    let here : home_slot i ≡ length front = omega (arith, e) in
    let w : Option (List Word) = Some (home_words i) in
    let two : Pages = w ∷ blank ∷ [] in
    let long : length (front ++ two) ≡ 1 + 2 * (i + 1) = omega (arith, length-append front two, e) in
    ap (λ k. with_homes (i + 1) users (set (front ++ blank ∷ blank ∷ (pairs users ++ rest)) k w)) here
    ∙ (ap (with_homes (i + 1) users) (set-append_seam front blank (blank ∷ (pairs users ++ rest)) w)
    ∙ (ap (with_homes (i + 1) users) (sym (append_assoc front two (pairs users ++ rest)))
    ∙ (homes_filled (i + 1) users (front ++ two) rest long
    ∙ append_assoc front two (user_slots (i + 1) users ++ rest))))

-- the first slots taken, and the entries put into them
pub slots_booted : (users : List UserScript) → length users ≤ 8 → with_homes 0 users (first_taken (1 + 2 * length users)) ≡ boot_slots users
slots_booted users few =
    let n = 2 * length users in
    let one : 1 + n ≡ suc n = omega arith in
    let left : SLOTS - (1 + n) ≡ 520 - n = omega (arith, few) in
    let rest = replicate (520 - n) free in
    ap (λ k. with_homes 0 users (replicate (1 + n) blank ++ replicate k free)) left
    ∙ (ap (λ k. with_homes 0 users (replicate k blank ++ rest)) one
    ∙ (ap (λ (p : Pages). with_homes 0 users (blank ∷ (p ++ rest))) (pairs_are users)
    ∙ homes_filled 0 users (blank ∷ []) rest refl))

get_first : (n k : ℕ) (rest : Pages) → k < n → slice_index_or (replicate n blank ++ rest) k None ≡ blank
get_first zero k rest h = absurd (omega (arith, h))
get_first (suc n) zero rest h = refl
get_first (suc n) (suc k) rest h = get_first n k rest (omega (arith, h))

pub blank_first : (n : ℕ) → AreBlank 0 n (first_taken (1 + 2 * n))
blank_first n j low high = get_first (1 + 2 * n) (home_slot j) (replicate (SLOTS - (1 + 2 * n)) free) (omega (arith, high))

-- ---- as the code asks

-- what a result holds
value_or : {X E : Type 0} → X → Result X E → X
value_or d (Ok v) = v
value_or d (Err e) = d

pub ok_is : {X E : Type 0} (x y : X) → ◌≡◌ {A = Result X E} (Ok x) (Ok y) → x ≡ y
unfolding value_or
ok_is x y e = ap (value_or x) e

-- there is no row under the next user's number
pub new_under : {X : Type 0} (t u : Table X) (first k i : ℕ) → t ≡ u → k ≡ i → at u (first + 4 * i) ≡ None → at t (first + 4 * k) ≡ None
new_under t u first k i e same none = ap (λ m. at m (first + 4 * k)) e ∙ (ap (λ n. at u (first + 4 * n)) same ∙ none)

pub room_left : (p : Pages) (n : ℕ) → n < SLOTS → p ≡ first_taken n → first_free p < length p
room_left p n h e =
    let least = ap first_free e ∙ least_free n h in
    let long = ap (λ (p : Pages). length p) e ∙ slots_length n (omega (arith, h)) in
    omega (arith, least, long, h)

pub took : (p q : Pages) (n count : ℕ) → n < SLOTS → count ≡ n + 1 → p ≡ first_taken n → q ≡ set p (first_free p) (Some (zeros MOST_WORDS)) → q ≡ first_taken count
took p q n count h more e is = is ∙ (ap (λ (p : Pages). set p (first_free p) blank) e ∙ (take_one n h ∙ ap first_taken (sym more)))

pub can_put : (p : Pages) (k i : ℕ) → k ≡ i → slice_index_or p (home_slot i) None ≡ Some (zeros MOST_WORDS) → IsTaken p (8 * (1 + 2 * k) / 8) × (0 ≤ 60)
can_put p k i same there =
    let page : 8 * (1 + 2 * k) / 8 ≡ home_slot i = omega (arith, same) in
    ((zeros MOST_WORDS, ap (λ n. slice_index_or p n None) page ∙ there), omega arith)

pub was_put : (p q : Pages) (k i : ℕ) (four : List Word) → k ≡ i → four ≡ entry_words scratch_name (full (scratch_of i)) true → slice_index_or p (home_slot i) None ≡ Some (zeros MOST_WORDS)
    → q ≡ set p (8 * (1 + 2 * k) / 8) (Some (written (slot_words p (8 * (1 + 2 * k) / 8)) (8 * (1 + 2 * k) % 8 * 64 + 0) four)) → q ≡ set p (home_slot i) (Some (home_words i))
was_put p q k i four same is there e =
    let page : 8 * (1 + 2 * k) / 8 ≡ home_slot i = omega (arith, same) in
    let first : 8 * (1 + 2 * k) % 8 * 64 + 0 ≡ 0 = omega arith in
    e ∙ (ap (λ n. set p n (Some (written (slot_words p n) (8 * (1 + 2 * k) % 8 * 64 + 0) four))) page
    ∙ (ap (λ n. set p (home_slot i) (Some (written (slot_words p (home_slot i)) n four))) first
    ∙ (ap (λ ws. set p (home_slot i) (Some (written ws 0 four))) (ap words_in there)
    ∙ ap (λ (ws : List Word). set p (home_slot i) (Some (written (zeros MOST_WORDS) 0 ws))) is)))

pub booted_from : (users : List UserScript) (p q : Pages) (n : ℕ) → length users ≤ 8 → p ≡ first_taken n → q ≡ with_homes 0 users p → n ≡ 1 + 2 * length users → q ≡ boot_slots users
booted_from users p q n few e is count = is ∙ (ap (with_homes 0 users) (e ∙ ap first_taken count) ∙ slots_booted users few)

pub blank_from : (users : List UserScript) (p : Pages) (n : ℕ) → p ≡ first_taken n → n ≡ 1 + 2 * length users → AreBlank 0 (length users) p
blank_from users p n e count = subst (AreBlank 0 (length users)) (sym (e ∙ ap first_taken count)) (blank_first (length users))

abbrev system : ℕ → Pages → SegState → TypeState → DirState → LifeState → BoxState → CodeState → List User → System
system next pages segs types dirs life boxes codes users = record {
  levels = record { next = next; pages = pages; segs = segs; types = types; dirs = dirs; life = life; boxes = boxes; codes = codes };
  users = users;
}

pub all_booted : (s : Script) (texts : List UserScript) (next n : ℕ) (pages : Pages) (segs : SegState) (types : TypeState) (dirs : DirState) (life : LifeState) (boxes : BoxState) (codes : CodeState) (none users : List User)
    → texts ≡ s.users → pages ≡ boot_slots texts → segs ≡ record { segments = boot_scratch (boot_reps 0 texts) 0 texts; windows = empty } → types ≡ record { types = empty; objects = boot_objects 0 texts }
    → dirs ≡ boot_guards 0 texts → life ≡ boot_life 0 texts → boxes ≡ no_words 0 n → codes ≡ empty → users ≡ none ++ boot_users 0 texts → none ≡ [] → next ≡ 3 + 4 * length texts → n ≡ length texts
    → system next pages segs types dirs life boxes codes users ≡ boot_system s
all_booted s texts next n pages segs types dirs life boxes codes none users same a b c d e f g h empty_first i j =
    let boxes_are : boxes ≡ boot_boxes 0 texts = f ∙ (ap (no_words 0) j ∙ boxes_none 0 texts) in
    let users_are : users ≡ boot_users 0 texts = h ∙ ap (λ (l : List User). l ++ boot_users 0 texts) empty_first in
    let one : ℕ = 3 + 4 * length texts in
    let two : Pages = boot_slots texts in
    let three : SegState = record { segments = boot_scratch (boot_reps 0 texts) 0 texts; windows = empty } in
    let four : TypeState = record { types = empty; objects = boot_objects 0 texts } in
    let five : DirState = boot_guards 0 texts in
    let six : LifeState = boot_life 0 texts in
    let seven : BoxState = boot_boxes 0 texts in
    ap (λ x. system x pages segs types dirs life boxes codes users) i
    ∙ (ap (λ x. system one x segs types dirs life boxes codes users) a
    ∙ (ap (λ x. system one two x types dirs life boxes codes users) b
    ∙ (ap (λ x. system one two three x dirs life boxes codes users) c
    ∙ (ap (λ x. system one two three four x life boxes codes users) d
    ∙ (ap (λ x. system one two three four five x boxes codes users) e
    ∙ (ap (λ x. system one two three four five six x codes users) boxes_are
    ∙ (ap (λ x. system one two three four five six seven x users) g
    ∙ (ap (λ x. system one two three four five six seven empty x) users_are
    ∙ ap (λ (us : List UserScript). system (3 + 4 * length us) (boot_slots us) (record { segments = boot_scratch (boot_reps 0 us) 0 us; windows = empty }) (record { types = empty; objects = boot_objects 0 us })
    (boot_guards 0 us) (boot_life 0 us) (boot_boxes 0 us) empty (boot_users 0 us)) same))))))))
