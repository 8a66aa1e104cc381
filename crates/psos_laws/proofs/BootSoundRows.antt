-- The rows of boot are sound. States docs/promises.md, "Sound states".
use Rattle.std.proofs.Common.{◌≡◌, ℕ, ◌+◌, ◌<◌, ◌≤◌, Bool, true, false, cond, List, [], length, Option, Some, None, refl, sym, ap, subst, ◌∙◌, inl, inr, arith}
use Rattle.std.specs.Prelude.{⊤, ◌↔◌, IsSome, is_some}
use Rattle.std.specs.FinMap.{empty, get, len, len-empty, len-insert}
use Rattle.std.specs.Ordering.{nat_cmp}
use Rattle.std.proofs.lemmas.List.{length-replicate}
use Rattle.psos_limits.specs.declared.TheConstants.{MOST_OBJECTS, MOST_WINDOWS, MOST_ENTRIES}
use Rattle.psos_table.specs.Table.{Table, at, put, size}
use Rattle.psos_table.proofs.Tables.{at-put_here, row_put, row_empty, size-empty}
use Rattle.psos_words.specs.declared.word.Word.{Word}
use Rattle.psos_words.specs.declared.word.Word.TheVariants.{Data}
use Rattle.psos_calls.specs.Language.Names.{name_cmp}
use Rattle.psos_calls.specs.declared.kind.Kind.{Kind}
use Rattle.psos_calls.specs.declared.kind.Kind.TheVariants as kinds
use Rattle.psos_calls.specs.declared.win_row.WinRow.{WinRow}
use Rattle.psos_calls.specs.declared.code_row.CodeRow.{CodeRow}
use Rattle.psos_calls.specs.Language.Script.{Script, IsWellFormed}
use Rattle.psos_model.specs.Flat.{Segment, Object, Directory, Named, Names}
use Rattle.psos_model.specs.Flat.Changes.{new_segment, kept_entry}
use Rattle.psos_model.specs.Flat.Boot.{boot, guard_1, process_of, home_of, home_rep_of, scratch_of, scratch_name, home_names}
use Rattle.psos_model.specs.Sound.Roles.{Role, HiddenIn, IsUserObject, IsBootDirectory}
use Rattle.psos_model.specs.Sound.Roles as roles
use Rattle.psos_model.specs.Sound.Rows.{IsGuard, IsSoundSegment, IsSoundDirectory, IsSoundProcess}
use Rattle.psos_model.specs.Sound.{IsFromBoot}
use Rattle.psos_model.proofs.NameOrder.{name_cmp_total}
use Rattle.psos_model.proofs.BootRows.{each_row, base_row, user_row, rows_size, segments_are, life_are, boxes_are, dirs_are, root_row, home_row}
use Rattle.psos_laws.proofs.BootSoundRoles.{boot_role, root_role, root_rep_role, process_role, home_role, home_rep_role, scratch_role}

-- what holds of each row holds, where the table is another's
pub rows_as : {X : Type 0} (Q : ℕ → X → Type 0) (m n : Table X) → m ≡ n → ((u : ℕ) (x : X) → at n u ≡ Some x → Q u x) → (u : ℕ) (x : X) → at m u ≡ Some x → Q u x
rows_as Q m n same h u x e = h u x (sym (ap (λ t. at t u) same) ∙ e)

guard_is : IsGuard 1
guard_is = record { bit_0 = refl; few = omega arith }

-- ---- segments

segment_row : (s : Script) (j : ℕ) → j < length s.users → IsSoundSegment boot_role (boot s) (scratch_of j) (new_segment 64 guard_1)
segment_row s j h =
    let count = length-replicate 64 (Data 0) in
    record {
      below = omega (arith, h);
      role-is = inl (scratch_role j);
      some = omega (arith, count);
      few = omega (arith, count);
      guard = guard_is;
    }

pub boot_segments_sound : (s : Script) (u : ℕ) (x : Segment) → at (boot s).segments u ≡ Some x → IsSoundSegment boot_role (boot s) u x
boot_segments_sound s =
    let Q : ℕ → Segment → Type 0 = IsSoundSegment boot_role (boot s) in
    rows_as Q (boot s).segments _ (segments_are 0 s.users) (each_row empty 6 (λ _. new_segment 64 guard_1) Q (row_empty Q) 0 s.users (λ j h. segment_row s j (omega (arith, h))))

-- ---- directories

-- a name more is one entry more at most
one_more : (b : Bool) (n m : ℕ) → m ≡ cond b n (n + 1) → m ≤ n + 1
one_more true n m e = omega (arith, e)
one_more false n m e = omega (arith, e)

few_names : (i : ℕ) → len (home_names i) ≤ MOST_ENTRIES
few_names i =
    let none = len-empty name_cmp Named in
    let before : Names = empty in
    let one : len (home_names i) ≤ len before + 1 = one_more (is_some (get before scratch_name)) (len before) (len (home_names i)) (len-insert name_cmp_total before scratch_name (kept_entry (scratch_of i))) in
    omega (arith, none, one)

home_sound : (s : Script) (j : ℕ) → j < length s.users → IsSoundDirectory boot_role (boot s) (home_of j) (home_row j)
home_sound s j h = record {
  below = omega (arith, h);
  role-is = home_role j;
  rep_below = omega (arith, h);
  hidden = home_rep_role j;
  few = few_names j;
  guard = guard_is;
}

root_sound : (s : Script) → IsSoundDirectory boot_role (boot s) 1 root_row
root_sound s =
    let none : len root_row.names ≡ 0 = len-empty name_cmp Named in
    record {
      below = omega arith;
      role-is = root_role;
      rep_below = omega arith;
      hidden = root_rep_role;
      few = omega (arith, none);
      guard = guard_is;
    }

pub boot_dirs_sound : (s : Script) (u : ℕ) (x : Directory) → at (boot s).dirs u ≡ Some x → IsSoundDirectory boot_role (boot s) u x
boot_dirs_sound s =
    let Q : ℕ → Directory → Type 0 = IsSoundDirectory boot_role (boot s) in
    rows_as Q (boot s).dirs _ (dirs_are 0 s.users) (each_row (put empty 1 root_row) 4 home_row Q (row_put Q empty 1 root_row (root_sound s) (row_empty Q)) 0 s.users (λ j h. home_sound s j (omega (arith, h))))

root_lives : (s : Script) → at (boot s).dirs 1 ≡ Some root_row
root_lives s =
    ap (λ t. at t 1) (dirs_are 0 s.users) ∙ (base_row (put empty 1 root_row) 4 home_row 1 0 s.users (λ j from e. omega (arith, e)) ∙ at-put_here empty 1 root_row)

pub boot_root : (s : Script) → IsFromBoot (boot s) 1 2
boot_root s = record { row = root_row; live = root_lives s; rep-is = refl; guard = refl }

pub home_lives : (s : Script) (i : ℕ) → i < length s.users → at (boot s).dirs (home_of i) ≡ Some (home_row i)
home_lives s i h = ap (λ t. at t (home_of i)) (dirs_are 0 s.users) ∙ user_row (put empty 1 root_row) 4 home_row 0 s.users i (omega arith) (omega (arith, h))

pub boot_homes : (s : Script) (i : ℕ) → i < length s.users → IsFromBoot (boot s) (home_of i) (home_rep_of i)
boot_homes s i h = record { row = home_row i; live = home_lives s i h; rep-is = refl; guard = refl }

-- ---- processes

process_row : (s : Script) (j : ℕ) → j < length s.users → IsSoundProcess s boot_role (boot s) (process_of j) []
process_row s j h = record { below = omega (arith, h); role-is = process_role j; user = j; of_user = h; of_boot = refl; few = omega arith }

pub boot_boxes_sound : (s : Script) (u : ℕ) (x : List Word) → at (boot s).boxes u ≡ Some x → IsSoundProcess s boot_role (boot s) u x
boot_boxes_sound s =
    let Q : ℕ → List Word → Type 0 = IsSoundProcess s boot_role (boot s) in
    rows_as Q (boot s).boxes _ (boxes_are 0 s.users) (each_row empty 3 (λ _. []) Q (row_empty Q) 0 s.users (λ j h. process_row s j (omega (arith, h))))

pub boot_processes : (s : Script) (i : ℕ) → i < length s.users → IsSome (at (boot s).boxes (process_of i))
boot_processes s i h = ap is_some (ap (λ t. at t (process_of i)) (boxes_are 0 s.users) ∙ user_row empty 3 (λ _. []) 0 s.users i (omega arith) (omega (arith, h)))

-- ---- user objects

-- a user object of boot is a user's scratch segment
pub record IsScratch (s : Script) (u : ℕ) (kind : Kind) : Type 0 where
  pub user : ℕ
  pub of_user : user < length s.users
  pub is : u ≡ scratch_of user
  pub kind-is : kind ≡ kinds.Segment

pub life_is : (s : Script) (u : ℕ) (kind : Kind) → at (boot s).life u ≡ Some kind → IsScratch s u kind
life_is s =
    rows_as (IsScratch s) (boot s).life _ (life_are 0 s.users) (each_row empty 6 (λ _. kinds.Segment) (IsScratch s) (row_empty (IsScratch s)) 0 s.users
    (λ j h. record { user = j; of_user = omega (arith, h); is = refl; kind-is = refl }))

pub scratch_lives : (s : Script) (i : ℕ) → i < length s.users → at (boot s).life (scratch_of i) ≡ Some kinds.Segment
scratch_lives s i h = ap (λ t. at t (scratch_of i)) (life_are 0 s.users) ∙ user_row empty 6 (λ _. kinds.Segment) 0 s.users i (omega arith) (omega (arith, h))

scratch_there : (s : Script) (i : ℕ) → i < length s.users → at (boot s).segments (scratch_of i) ≡ Some (new_segment 64 guard_1)
scratch_there s i h = ap (λ t. at t (scratch_of i)) (segments_are 0 s.users) ∙ user_row empty 6 (λ _. new_segment 64 guard_1) 0 s.users i (omega arith) (omega (arith, h))

-- a segment of boot is a user's scratch segment
segment_is : (s : Script) (u : ℕ) (x : Segment) → at (boot s).segments u ≡ Some x → IsScratch s u kinds.Segment
segment_is s =
    let Q : ℕ → Segment → Type 0 = λ u x. IsScratch s u kinds.Segment in
    rows_as Q (boot s).segments _ (segments_are 0 s.users) (each_row empty 6 (λ _. new_segment 64 guard_1) Q (row_empty Q) 0 s.users
    (λ j h. record { user = j; of_user = omega (arith, h); is = refl; kind-is = refl }))

-- a directory of boot is the root, or a user's home
directory_is : (s : Script) (u : ℕ) (x : Directory) → at (boot s).dirs u ≡ Some x → IsBootDirectory s u
directory_is s =
    let Q : ℕ → Directory → Type 0 = λ u x. IsBootDirectory s u in
    rows_as Q (boot s).dirs _ (dirs_are 0 s.users) (each_row (put empty 1 root_row) 4 home_row Q (row_put Q empty 1 root_row (inl refl) (row_empty Q)) 0 s.users
    (λ j h. inr (j, omega (arith, h), refl)))

from_some : {X : Type 0} (P : Type 0) (o : Option X) → IsSome o → ((x : X) → o ≡ Some x → P) → P
from_some P None h go = absurd (subst (λ b. cond b ⊥ ⊤) h tt)
from_some P (Some x) h go = go x refl

object_lives : (s : Script) (u : ℕ) (kind : Kind) → IsScratch s u kind → IsUserObject s boot_role (boot s) u kind
object_lives s u kind h =
    let there : IsSome (at (boot s).segments u) = ap is_some (ap (at (boot s).segments) h.is ∙ scratch_there s h.user h.of_user) in
    let role : boot_role u ≡ roles.Segment = ap boot_role h.is ∙ scratch_role h.user in
    subst (IsUserObject s boot_role (boot s) u) (sym h.kind-is) (there, role)

empty_there : (X A : Type 0) (u : ℕ) → IsSome (at (empty {X = X} {R = nat_cmp}) u) → A
empty_there X A u h = from_some A (at (empty {X = X} {R = nat_cmp}) u) h (λ x e. row_empty (λ _ _. A) u x e)

lives_object : (s : Script) (u : ℕ) (kind : Kind) → IsUserObject s boot_role (boot s) u kind → IsScratch s u kind
lives_object s u kinds.Segment h = from_some (IsScratch s u kinds.Segment) (at (boot s).segments u) h.0 (λ x e. segment_is s u x e)
lives_object s u kinds.Directory h = absurd (h.1 (from_some (IsBootDirectory s u) (at (boot s).dirs u) h.0 (λ x e. directory_is s u x e)))
lives_object s u kinds.Typ h = empty_there Bool (IsScratch s u kinds.Typ) u h
lives_object s u kinds.Object h = empty_there Object (IsScratch s u kinds.Object) u h
lives_object s u kinds.Code h = empty_there CodeRow (IsScratch s u kinds.Code) u h
lives_object s u kinds.Process h = absurd h

scratch_life : (s : Script) (u : ℕ) (kind : Kind) → IsScratch s u kind → at (boot s).life u ≡ Some kind
scratch_life s u kind h = ap (at (boot s).life) h.is ∙ (scratch_lives s h.user h.of_user ∙ ap Some (sym h.kind-is))

pub boot_life_sound : (s : Script) (u : ℕ) (kind : Kind) → (at (boot s).life u ≡ Some kind) ↔ IsUserObject s boot_role (boot s) u kind
boot_life_sound s u kind = (λ e. object_lives s u kind (life_is s u kind e), λ h. scratch_life s u kind (lives_object s u kind h))

pub few_objects : (s : Script) → IsWellFormed s → size (boot s).life ≤ MOST_OBJECTS
few_objects s w =
    let rows = rows_size empty 6 (λ _. kinds.Segment) 0 s.users in
    let same = ap (λ t. size t) (life_are 0 s.users) in
    let none = size-empty Kind in
    omega (arith, rows, same, none, w.few_users)

pub few_windows : (s : Script) → size (boot s).windows ≤ MOST_WINDOWS
few_windows s =
    let none = size-empty WinRow in
    omega (arith, none)
