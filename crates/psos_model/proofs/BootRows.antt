-- The tables of boot: a base, and one row for each user. States docs/system.md, "Boot", and docs/levels.md, "Pages and slots".
use Rattle.std.proofs.Common.{◌≡◌, ℕ, suc, ◌+◌, ◌*◌, ◌<◌, ◌≤◌, Bool, true, false, cond, eqb, List, [], ◌∷◌, length, Some, None, refl, sym, ap, subst, ◌∙◌, inl, inr, arith}
use Rattle.std.specs.FinMap.{empty}
use Rattle.std.specs.Option.{option_map}
use Rattle.std.proofs.lemmas.Bool.{cases_eq}
use Rattle.psos_table.specs.Table.{Table, at, put, size, has}
use Rattle.psos_table.proofs.Tables.{at-put, at-put_here, at-put_apart, row_put, size-put}
use Rattle.psos_calls.specs.declared.kind.Kind.TheVariants as kinds
use Rattle.psos_calls.specs.declared.seg_row.SegRow.{SegRow}
use Rattle.psos_calls.specs.declared.obj_row.ObjRow.{ObjRow}
use Rattle.psos_calls.specs.Language.Script.{UserScript}
use Rattle.psos_caps.specs.Capability.{full}
use Rattle.psos_model.specs.Flat.{Directory}
use Rattle.psos_model.specs.Flat.Changes.{new_segment}
use Rattle.psos_model.specs.Flat.Boot.{guard_1, home_of, home_rep_of, home_names, process_of, scratch_of, boot_segments, boot_life, boot_boxes, boot_dirs}
use Rattle.psos_model.specs.Replay.BootLevels.{rep_row, scratch_row, home_slot, boot_reps, boot_scratch, boot_objects, boot_guards}

module _ {X : Type 0} (base : Table X) (first : ℕ) (val : ℕ → X) where
  -- user i's row is under first + 4 * i
  abbrev pub user_rows : ℕ → List UserScript → Table X
  user_rows i [] = base
  user_rows i (user ∷ users) = put (user_rows (i + 1) users) (first + 4 * i) (val i)

  -- what holds of the base's rows and of each user's, holds of each row
  pub each_row : (Q : ℕ → X → Type 0) → ((u : ℕ) (x : X) → at base u ≡ Some x → Q u x) → (i : ℕ) (users : List UserScript)
      → ((j : ℕ) → j < i + length users → Q (first + 4 * j) (val j)) → (u : ℕ) (x : X) → at (user_rows i users) u ≡ Some x → Q u x
  each_row Q old i [] new u x e = old u x e
  each_row Q old i (user ∷ users) new u x e =
      row_put Q (user_rows (i + 1) users) (first + 4 * i) (val i) (new i (omega arith)) (each_row Q old (i + 1) users (λ j h. new j (omega (arith, h)))) u x e

  -- a row of the base stays, where it is no user's from i on
  pub base_row : (u i : ℕ) (users : List UserScript) → ((j : ℕ) → i ≤ j → u ≡ first + 4 * j → ⊥) → at (user_rows i users) u ≡ at base u
  base_row u i [] apart = refl
  base_row u i (user ∷ users) apart =
      at-put_apart (user_rows (i + 1) users) (first + 4 * i) (val i) u (apart i (omega arith)) ∙ base_row u (i + 1) users (λ j h. apart j (omega (arith, h)))

  -- each user's row is there
  pub user_row : (i : ℕ) (users : List UserScript) (j : ℕ) → i ≤ j → j < i + length users → at (user_rows i users) (first + 4 * j) ≡ Some (val j)
  user_row i [] j low high = absurd (omega (arith, low, high))
  user_row i (user ∷ users) j low high = elim (cases_eq i j) [
    | inl same ↦ subst (λ k. at (user_rows i (user ∷ users)) (first + 4 * k) ≡ Some (val k)) same (at-put_here (user_rows (i + 1) users) (first + 4 * i) (val i))
    | inr apart ↦ at-put_apart (user_rows (i + 1) users) (first + 4 * i) (val i) (first + 4 * j) (λ e. apart (omega (arith, e))) ∙ user_row (i + 1) users j (omega (arith, low, apart)) (omega (arith, high))
  ]

  -- as many rows as users, and the base's
  pub rows_size : (i : ℕ) (users : List UserScript) → size (user_rows i users) ≤ size base + length users
  rows_size i [] = omega arith
  rows_size i (user ∷ users) = grows (has (user_rows (i + 1) users) (first + 4 * i)) (size-put (user_rows (i + 1) users) (first + 4 * i) (val i)) (rows_size (i + 1) users)
    where
      grows : (b : Bool) → size (put (user_rows (i + 1) users) (first + 4 * i) (val i)) ≡ cond b (size (user_rows (i + 1) users)) (size (user_rows (i + 1) users) + 1)
          → size (user_rows (i + 1) users) ≤ size base + length users → size (put (user_rows (i + 1) users) (first + 4 * i) (val i)) ≤ size base + suc (length users)
      grows true e rest = omega (arith, e, rest)
      grows false e rest = omega (arith, e, rest)

-- ---- a table that has what another has, changed

pub put_mapped : {X Y : Type 0} (g : X → Y) (m : Table X) (n : Table Y) (k : ℕ) (x : X) → ((u : ℕ) → at n u ≡ option_map g (at m u)) → (u : ℕ) → at (put n k (g x)) u ≡ option_map g (at (put m k x) u)
put_mapped g m n k x old u = at-put n k (g x) u ∙ by_test (eqb u k) ∙ sym (ap (option_map g) (at-put m k x u))
  where
    by_test : (b : Bool) → cond b (Some (g x)) (at n u) ≡ option_map g (cond b (Some x) (at m u))
    by_test true = refl
    by_test false = old u

pub rows_mapped : {X Y : Type 0} (g : X → Y) (m : Table X) (n : Table Y) (first : ℕ) (val : ℕ → X) → ((u : ℕ) → at n u ≡ option_map g (at m u)) → (i : ℕ) (users : List UserScript) → (u : ℕ)
    → at (user_rows n first (λ j. g (val j)) i users) u ≡ option_map g (at (user_rows m first val i users) u)
rows_mapped g m n first val old i [] u = old u
rows_mapped g m n first val old i (user ∷ users) u =
    put_mapped g (user_rows m first val (i + 1) users) (user_rows n first (λ j. g (val j)) (i + 1) users) (first + 4 * i) (val i) (rows_mapped g m n first val old (i + 1) users) u

-- ---- the tables of the flat state

pub segments_are : (i : ℕ) (users : List UserScript) → boot_segments i users ≡ user_rows empty 6 (λ _. new_segment 64 guard_1) i users
segments_are i [] = refl
segments_are i (user ∷ users) = ap (λ m. put m (scratch_of i) (new_segment 64 guard_1)) (segments_are (i + 1) users)

pub life_are : (i : ℕ) (users : List UserScript) → boot_life i users ≡ user_rows empty 6 (λ _. kinds.Segment) i users
life_are i [] = refl
life_are i (user ∷ users) = ap (λ m. put m (scratch_of i) kinds.Segment) (life_are (i + 1) users)

pub boxes_are : (i : ℕ) (users : List UserScript) → boot_boxes i users ≡ user_rows empty 3 (λ _. []) i users
boxes_are i [] = refl
boxes_are i (user ∷ users) = ap (λ m. put m (process_of i) []) (boxes_are (i + 1) users)

-- the root
abbrev pub root_row : Directory
root_row = record { guard = guard_1; rep = 2; names = empty }

-- user i's home
abbrev pub home_row : ℕ → Directory
home_row i = record { guard = guard_1; rep = home_rep_of i; names = home_names i }

pub dirs_are : (i : ℕ) (users : List UserScript) → boot_dirs i users ≡ user_rows (put empty 1 root_row) 4 home_row i users
dirs_are i [] = refl
dirs_are i (user ∷ users) = ap (λ m. put m (home_of i) (home_row i)) (dirs_are (i + 1) users)

-- ---- the tables of the levels

pub reps_are : (i : ℕ) (users : List UserScript) → boot_reps i users ≡ user_rows (put empty 2 (rep_row 0)) 5 (λ j. rep_row (home_slot j)) i users
reps_are i [] = refl
reps_are i (user ∷ users) = ap (λ m. put m (home_rep_of i) (rep_row (home_slot i))) (reps_are (i + 1) users)

pub scratch_are : (reps : Table SegRow) (i : ℕ) (users : List UserScript) → boot_scratch reps i users ≡ user_rows reps 6 scratch_row i users
scratch_are reps i [] = refl
scratch_are reps i (user ∷ users) = ap (λ m. put m (scratch_of i) (scratch_row i)) (scratch_are reps (i + 1) users)

-- a directory at level 9
abbrev pub as_object : Directory → ObjRow
as_object d = record { of = None; rep = full d.rep }

pub objects_are : (i : ℕ) (users : List UserScript) → boot_objects i users ≡ user_rows (put empty 1 (as_object root_row)) 4 (λ j. as_object (home_row j)) i users
objects_are i [] = refl
objects_are i (user ∷ users) = ap (λ m. put m (home_of i) (as_object (home_row i))) (objects_are (i + 1) users)

pub guards_are : (i : ℕ) (users : List UserScript) → boot_guards i users ≡ user_rows (put empty 1 guard_1) 4 (λ j. guard_1) i users
guards_are i [] = refl
guards_are i (user ∷ users) = ap (λ m. put m (home_of i) guard_1) (guards_are (i + 1) users)
