-- The levels at boot stand for the flat state of boot. States docs/promises.md, "Stands for".
use Rattle.std.proofs.Common.{◌≡◌, ℕ, zero, suc, ◌+◌, ◌*◌, ◌<◌, List, length, Option, Some, None, ◌⊎◌, inl, inr, refl, sym, ap, subst, ◌∙◌, arith}
use Rattle.std.specs.Prelude.{slice_index_or}
use Rattle.std.specs.Option.{option_map}
use Rattle.std.specs.FinMap.{empty}
use Rattle.psos_limits.specs.declared.TheConstants.{MOST_WORDS}
use Rattle.psos_table.specs.Table.{Table, at, put}
use Rattle.psos_table.proofs.Tables.{at-empty, at-put_here, row_put, row_empty}
use Rattle.psos_words.specs.declared.word.Word.{Word}
use Rattle.psos_words.specs.Words.{zeros, word_at}
use Rattle.psos_calls.specs.declared.seg_row.SegRow.{SegRow}
use Rattle.psos_calls.specs.Levels.Level7.{IsTaken, slot_words, words_in}
use Rattle.psos_calls.specs.Language.Script.{Script}
use Rattle.psos_calls.specs.Language.Tests.{if_there}
use Rattle.psos_model.specs.Flat.{Segment, Directory}
use Rattle.psos_model.specs.Flat.Changes.{new_segment}
use Rattle.psos_model.specs.Flat.Boot.{boot, guard_1, home_of, home_rep_of, scratch_of, boot_dirs}
use Rattle.psos_model.specs.Replay.BootLevels.{rep_row, scratch_row, home_slot, scratch_slot, home_words, boot_reps, boot_rows, boot_objects, boot_guards, boot_pages}
use Rattle.psos_model.specs.Replay.{boot_system}
use Rattle.psos_model.specs.Replay.StandsFor.{IsLive, HoldsEntries, stored, object_row}
use Rattle.psos_model.proofs.BootRows.{each_row, base_row, user_row, rows_mapped, put_mapped, segments_are, dirs_are, reps_are, scratch_are, objects_are, guards_are, root_row, home_row, as_object}
use Rattle.psos_agree.specs.Agreement.{BootStands}
use Rattle.psos_agree.proofs.BootSlots.{home_taken, scratch_taken, slot_owner, all_slots}
use Rattle.psos_agree.proofs.BootWords.{zeros_alike, home_length, root_entries, home_entries}

-- what holds of the rows of a table that is equal
rows_as : {X : Type 0} (Q : ℕ → X → Type 0) (m n : Table X) → m ≡ n → ((u : ℕ) (x : X) → at n u ≡ Some x → Q u x) → (u : ℕ) (x : X) → at m u ≡ Some x → Q u x
rows_as Q m n e each u x there = each u x (sym (ap (λ t. at t u) e) ∙ there)

-- ---- the rows of level 8

data IsBootSeg (n u : ℕ) (r : SegRow) : Type 0 where
  RootRep : u ≡ 2 → rep_row 0 ≡ r → IsBootSeg n u r
  HomeRep : (i : ℕ) → i < n → u ≡ home_rep_of i → rep_row (home_slot i) ≡ r → IsBootSeg n u r
  Scratch : (i : ℕ) → i < n → u ≡ scratch_of i → scratch_row i ≡ r → IsBootSeg n u r

module _ (s : Script) where
  abbrev n : ℕ
  n = length s.users

  rep_is : (u : ℕ) (r : SegRow) → at (boot_reps 0 s.users) u ≡ Some r → IsBootSeg n u r
  rep_is =
      rows_as (IsBootSeg n) (boot_reps 0 s.users) _ (reps_are 0 s.users)
      (each_row (put empty 2 (rep_row 0)) 5 (λ j. rep_row (home_slot j)) (IsBootSeg n) (row_put (IsBootSeg n) empty 2 (rep_row 0) (RootRep refl refl) (row_empty (IsBootSeg n))) 0 s.users
      (λ j h. HomeRep j (omega (arith, h)) refl refl))

  seg_is : (u : ℕ) (r : SegRow) → at (boot_rows s.users) u ≡ Some r → IsBootSeg n u r
  seg_is =
      rows_as (IsBootSeg n) (boot_rows s.users) _ (scratch_are (boot_reps 0 s.users) 0 s.users)
      (each_row (boot_reps 0 s.users) 6 scratch_row (IsBootSeg n) rep_is 0 s.users (λ j h. Scratch j (omega (arith, h)) refl refl))

  scratch_lives : (i : ℕ) → i < n → at (boot_rows s.users) (scratch_of i) ≡ Some (scratch_row i)
  scratch_lives i h =
      ap (λ t. at t (scratch_of i)) (scratch_are (boot_reps 0 s.users) 0 s.users) ∙ user_row (boot_reps 0 s.users) 6 scratch_row 0 s.users i (omega arith) (omega (arith, h))

  -- a representation is no scratch segment
  beside_scratch : (u : ℕ) → ((j : ℕ) → u ≡ 6 + 4 * j → ⊥) → at (boot_rows s.users) u ≡ at (boot_reps 0 s.users) u
  beside_scratch u apart = ap (λ t. at t u) (scratch_are (boot_reps 0 s.users) 0 s.users) ∙ base_row (boot_reps 0 s.users) 6 scratch_row u 0 s.users (λ j h. apart j)

  home_lives : (i : ℕ) → i < n → at (boot_rows s.users) (home_rep_of i) ≡ Some (rep_row (home_slot i))
  home_lives i h =
      beside_scratch (home_rep_of i) (λ j e. omega (arith, e))
      ∙ (ap (λ t. at t (home_rep_of i)) (reps_are 0 s.users) ∙ user_row (put empty 2 (rep_row 0)) 5 (λ j. rep_row (home_slot j)) 0 s.users i (omega arith) (omega (arith, h)))

  root_lives : at (boot_rows s.users) 2 ≡ Some (rep_row 0)
  root_lives =
      beside_scratch 2 (λ j e. omega (arith, e))
      ∙ (ap (λ t. at t 2) (reps_are 0 s.users) ∙ (base_row (put empty 2 (rep_row 0)) 5 (λ j. rep_row (home_slot j)) 2 0 s.users (λ j h e. omega (arith, e)) ∙ at-put_here empty 2 (rep_row 0)))

  -- ---- the words in slots

  abbrev words_at : ℕ → List Word
  words_at u = stored (boot_system s) u

  stored_in : (u : ℕ) (r : SegRow) (ws : List Word) → at (boot_rows s.users) u ≡ Some r → slice_index_or (boot_pages s) r.slot None ≡ Some ws → words_at u ≡ ws
  stored_in u r ws live there =
      ap (λ (o : Option SegRow). slot_words (boot_pages s) (if_there o 0 (λ r. r.slot))) live ∙ ap words_in there

  root_words_are : words_at 2 ≡ zeros MOST_WORDS
  root_words_are = stored_in 2 (rep_row 0) (zeros MOST_WORDS) root_lives refl

  home_words_are : (i : ℕ) → i < n → words_at (home_rep_of i) ≡ home_words i
  home_words_are i h = stored_in (home_rep_of i) (rep_row (home_slot i)) (home_words i) (home_lives i h) (home_taken s i h)

  scratch_words_are : (i : ℕ) → i < n → words_at (scratch_of i) ≡ zeros MOST_WORDS
  scratch_words_are i h = stored_in (scratch_of i) (scratch_row i) (zeros MOST_WORDS) (scratch_lives i h) (scratch_taken s i h)

  -- ---- the clauses

  guards_alike : (u : ℕ) → at (boot_guards 0 s.users) u ≡ option_map (λ (d : Directory). d.guard) (at (boot_dirs 0 s.users) u)
  guards_alike u =
      ap (λ t. at t u) (guards_are 0 s.users)
      ∙ (rows_mapped (λ (d : Directory). d.guard) (put empty 1 root_row) (put empty 1 guard_1) 4 home_row (put_mapped (λ (d : Directory). d.guard) empty empty 1 root_row (λ v. at-empty v ∙ sym (ap (option_map (λ (d : Directory). d.guard)) (at-empty v)))) 0 s.users u
      ∙ ap (λ t. option_map (λ (d : Directory). d.guard) (at t u)) (sym (dirs_are 0 s.users)))

  as_row : (o : Option Directory) → option_map as_object o ≡ object_row None o
  as_row None = refl
  as_row (Some d) = refl

  objects_alike : (u : ℕ) → at (boot_objects 0 s.users) u ≡ object_row (at (boot s).objects u) (at (boot_dirs 0 s.users) u)
  objects_alike u =
      ap (λ t. at t u) (objects_are 0 s.users)
      ∙ (rows_mapped as_object (put empty 1 root_row) (put empty 1 (as_object root_row)) 4 home_row (put_mapped as_object empty empty 1 root_row (λ v. at-empty v ∙ sym (ap (option_map as_object) (at-empty v)))) 0 s.users u
      ∙ (ap (λ t. option_map as_object (at t u)) (sym (dirs_are 0 s.users))
      ∙ (as_row (at (boot_dirs 0 s.users) u) ∙ ap (λ o. object_row o (at (boot_dirs 0 s.users) u)) (sym (at-empty u)))))

  -- what holds of each scratch segment, holds of each segment
  each_segment : (Q : ℕ → Segment → Type 0) → ((j : ℕ) → j < n → Q (scratch_of j) (new_segment 64 guard_1)) → (u : ℕ) (x : Segment) → at (boot s).segments u ≡ Some x → Q u x
  each_segment Q new =
      rows_as Q (boot s).segments _ (segments_are 0 s.users) (each_row empty 6 (λ _. new_segment 64 guard_1) Q (row_empty Q) 0 s.users (λ j h. new j (omega (arith, h))))

  -- what holds of the root and of each home, holds of each directory
  each_directory : (Q : ℕ → Directory → Type 0) → Q 1 root_row → ((j : ℕ) → j < n → Q (home_of j) (home_row j)) → (u : ℕ) (x : Directory) → at (boot s).dirs u ≡ Some x → Q u x
  each_directory Q first new =
      rows_as Q (boot s).dirs _ (dirs_are 0 s.users) (each_row (put empty 1 root_row) 4 home_row Q (row_put Q empty 1 root_row first (row_empty Q)) 0 s.users (λ j h. new j (omega (arith, h))))

  segment_there : (i : ℕ) → i < n → at (boot s).segments (scratch_of i) ≡ Some (new_segment 64 guard_1)
  segment_there i h = ap (λ t. at t (scratch_of i)) (segments_are 0 s.users) ∙ user_row empty 6 (λ _. new_segment 64 guard_1) 0 s.users i (omega arith) (omega (arith, h))

  root_there : at (boot s).dirs 1 ≡ Some root_row
  root_there = ap (λ t. at t 1) (dirs_are 0 s.users) ∙ (base_row (put empty 1 root_row) 4 home_row 1 0 s.users (λ j h e. omega (arith, e)) ∙ at-put_here empty 1 root_row)

  home_there : (i : ℕ) → i < n → at (boot s).dirs (home_of i) ≡ Some (home_row i)
  home_there i h = ap (λ t. at t (home_of i)) (dirs_are 0 s.users) ∙ user_row (put empty 1 root_row) 4 home_row 0 s.users i (omega arith) (omega (arith, h))

  abbrev HasFlat : ℕ → Type 0
  HasFlat u = ((x : Segment) × (at (boot s).segments u ≡ Some x)) ⊎ ((v : ℕ) × ((d : Directory) × (at (boot s).dirs v ≡ Some d) × (d.rep ≡ u)))

  flat_of : (u : ℕ) (r : SegRow) → IsBootSeg n u r → HasFlat u
  flat_of u r (RootRep at-u row) = inr (1, (root_row, root_there, sym at-u))
  flat_of u r (HomeRep i h at-u row) = inr (home_of i, (home_row i, home_there i h, sym at-u))
  flat_of u r (Scratch i h at-u row) = inl (new_segment 64 guard_1, ap (at (boot s).segments) at-u ∙ segment_there i h)

  slot_is : (r t : SegRow) → t ≡ r → t.slot ≡ r.slot
  slot_is r t e = ap (λ (r : SegRow). r.slot) e

  seg_apart : (u v : ℕ) (r t : SegRow) → IsBootSeg n u r → IsBootSeg n v t → r.slot ≡ t.slot → u ≡ v
  seg_apart u v r t (RootRep a x) (RootRep b z) e = a ∙ sym b
  seg_apart u v r t (RootRep a x) (HomeRep j k b z) e = absurd (omega (arith, slot_is r _ x, slot_is t _ z, e))
  seg_apart u v r t (RootRep a x) (Scratch j k b z) e = absurd (omega (arith, slot_is r _ x, slot_is t _ z, e))
  seg_apart u v r t (HomeRep i h a x) (RootRep b z) e = absurd (omega (arith, slot_is r _ x, slot_is t _ z, e))
  seg_apart u v r t (HomeRep i h a x) (HomeRep j k b z) e = omega (arith, a, b, slot_is r _ x, slot_is t _ z, e)
  seg_apart u v r t (HomeRep i h a x) (Scratch j k b z) e = absurd (omega (arith, slot_is r _ x, slot_is t _ z, e))
  seg_apart u v r t (Scratch i h a x) (RootRep b z) e = absurd (omega (arith, slot_is r _ x, slot_is t _ z, e))
  seg_apart u v r t (Scratch i h a x) (HomeRep j k b z) e = absurd (omega (arith, slot_is r _ x, slot_is t _ z, e))
  seg_apart u v r t (Scratch i h a x) (Scratch j k b z) e = omega (arith, a, b, slot_is r _ x, slot_is t _ z, e)

  abbrev IsFull : ℕ → Type 0
  IsFull slot = IsTaken (boot_pages s) slot × (length (slot_words (boot_pages s) slot) ≡ MOST_WORDS)

  full_slot : (slot : ℕ) (ws : List Word) → slice_index_or (boot_pages s) slot None ≡ Some ws → length ws ≡ MOST_WORDS → IsFull slot
  full_slot slot ws there long = ((ws, there), ap (λ o. length (words_in o)) there ∙ long)

  seg_taken : (u : ℕ) (r : SegRow) → IsBootSeg n u r → IsFull r.slot
  seg_taken u r (RootRep a x) = subst IsFull (slot_is r _ x) (full_slot 0 (zeros MOST_WORDS) refl refl)
  seg_taken u r (HomeRep i h a x) = subst IsFull (slot_is r _ x) (full_slot (home_slot i) (home_words i) (home_taken s i h) (home_length i))
  seg_taken u r (Scratch i h a x) = subst IsFull (slot_is r _ x) (full_slot (scratch_slot i) (zeros MOST_WORDS) (scratch_taken s i h) refl)

  abbrev IsUsed : ℕ → Type 0
  IsUsed slot = (u : ℕ) × ((r : SegRow) × (at (boot_rows s.users) u ≡ Some r) × (r.slot ≡ slot))

  slot_used : (slot : ℕ) → IsTaken (boot_pages s) slot → IsUsed slot
  slot_used zero taken = (2, (rep_row 0, root_lives, refl))
  slot_used (suc slot) taken =
      let own = slot_owner s slot taken.0 taken.1 in
      let i = own.user in
      elim own.is [
        | inl even ↦ (home_rep_of i, (rep_row (home_slot i), home_lives i own.below, omega (arith, even)))
        | inr odd ↦ (scratch_of i, (scratch_row i, scratch_lives i own.below, omega (arith, odd)))
      ]

pub boot_stands : BootStands
boot_stands s w = record {
  next = refl;
  codes = refl;
  boxes = refl;
  life = refl;
  types = refl;
  windows = refl;
  users = refl;
  dirs = guards_alike s;
  objects = objects_alike s;
  segments = each_segment s (λ u x. IsLive (boot_system s) u (length x.words) x.guard.0) (λ j h. (scratch_row j, scratch_lives s j h, refl, refl));
  reps = each_directory s (λ u d. IsLive (boot_system s) d.rep MOST_WORDS d.guard.0) (rep_row 0, root_lives s, refl, refl) (λ j h. (rep_row (home_slot j), home_lives s j h, refl, refl));
  no_other = λ u r live. flat_of s u r (seg_is s u r live);
  apart = λ u v r t a b. seg_apart s u v r t (seg_is s u r a) (seg_is s v t b);
  taken = λ u r live. seg_taken s u r (seg_is s u r live);
  used = slot_used s;
  slots = all_slots s w.few_users;
  words = each_segment s (λ u x. (i : ℕ) → i < length x.words → word_at (stored (boot_system s) u) i ≡ word_at x.words i)
      (λ j h i below. ap (λ ws. word_at ws i) (scratch_words_are s j h) ∙ zeros_alike i below);
  entries = each_directory s (λ u d. HoldsEntries (stored (boot_system s) d.rep) d) (subst (λ ws. HoldsEntries ws root_row) (sym (root_words_are s)) root_entries)
      (λ j h. subst (λ ws. HoldsEntries ws (home_row j)) (sym (home_words_are s j h)) (home_entries j));
}
