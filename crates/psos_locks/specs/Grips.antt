-- What stands behind each lock, and the locks that a request holds: one of each level at most. States docs/levels.md, "Locks".
use Rattle.std.specs.Prelude.{◌≡◌, ℕ, Bool, false, List, [], ◌∷◌, Option, Some, None, option_map}
use Rattle.std.specs.Sync.Mutex.{mutex_guard_value}
use Rattle.std.specs.declared.sync.MutexGuard.{MutexGuard}
use Rattle.psos_calls.specs.declared.level.Level.{Level}
use Rattle.psos_calls.specs.declared.level.Level.TheVariants.{L13, L12, L11, L10, L9, L8, L7, L0}
use Rattle.psos_calls.specs.declared.lock_id.LockId.{LockId}
use Rattle.psos_calls.specs.declared.entry.Entry.{Entry}
use Rattle.psos_calls.specs.Language.Script.{Script}
use Rattle.psos_calls.specs.Levels.Level8.{SegState}
use Rattle.psos_calls.specs.Levels.Level9.{TypeState}
use Rattle.psos_calls.specs.Levels.Level10.{DirState}
use Rattle.psos_calls.specs.Levels.Level11.{LifeState}
use Rattle.psos_calls.specs.Levels.Level13.{CodeState}
use Rattle.psos_model.specs.Replay.{boot_system}
use Rattle.psos_journal.specs.Views.{Side}
use Rattle.psos_pages.specs.State.{PagesState}
use Rattle.psos_procs.specs.Mailbox.{Mailbox}
use Rattle.psos_histories.specs.Pieces.{Piece, Codes, Box, Life, Dirs, Types, Segs, Slots, Next}
use Rattle.psos_histories.specs.Grips.{Grip, IsFreeGrip}
use Rattle.psos_locks.specs.declared.hands.Hands.{Hands}

-- what stands behind a lock that is held, by how its state is seen
abbrev pub grip_by : {K : Type 0} → (K → LockId) → (K → Piece) → MutexGuard (K × Side Entry × Bool) → Grip
grip_by lock piece g =
    record { lock = lock (mutex_guard_value g).0; side = (mutex_guard_value g).1; piece = piece (mutex_guard_value g).0; broken = (mutex_guard_value g).2 }

-- the lock of a level other than 12
abbrev pub level_lock : Level → LockId
level_lock level = record { level = level; part = 0 }

-- behind the lock of each level, and of a mailbox
abbrev pub code_grip : MutexGuard (CodeState × Side Entry × Bool) → Grip
code_grip g = grip_by (λ s. level_lock L13) (λ s. Codes s) g

abbrev pub box_grip : MutexGuard (Mailbox × Side Entry × Bool) → Grip
box_grip g = grip_by (λ (b : Mailbox). record { level = L12; part = b.number }) (λ (b : Mailbox). Box b.number (Some b.words)) g

abbrev pub life_grip : MutexGuard (LifeState × Side Entry × Bool) → Grip
life_grip g = grip_by (λ s. level_lock L11) (λ s. Life s) g

abbrev pub dir_grip : MutexGuard (DirState × Side Entry × Bool) → Grip
dir_grip g = grip_by (λ s. level_lock L10) (λ s. Dirs s) g

abbrev pub type_grip : MutexGuard (TypeState × Side Entry × Bool) → Grip
type_grip g = grip_by (λ s. level_lock L9) (λ s. Types s) g

abbrev pub seg_grip : MutexGuard (SegState × Side Entry × Bool) → Grip
seg_grip g = grip_by (λ s. level_lock L8) (λ s. Segs s) g

abbrev pub page_grip : {B : Type 0} → MutexGuard ((PagesState B × ℕ) × Side Entry × Bool) → Grip
page_grip {B} g = grip_by (λ (s : PagesState B × ℕ). level_lock L7) (λ (s : PagesState B × ℕ). Slots s.0.slots) g

abbrev pub next_grip : MutexGuard (ℕ × Side Entry × Bool) → Grip
next_grip g = grip_by (λ n. level_lock L0) (λ n. Next n) g

-- ---- the locks that a request holds

-- those of these that are there, in order
abbrev pub grips_in : List (Option Grip) → List Grip
grips_in [] = []
grips_in (None ∷ slots) = grips_in slots
grips_in (Some g ∷ slots) = g ∷ grips_in slots

-- one place for each level, the last in the falling order first
abbrev pub slots_of : {T B : Type 0} → Hands T B → List (Option Grip)
slots_of h =
    option_map next_grip h.issuer ∷ option_map page_grip h.pages ∷ option_map seg_grip h.segs ∷ option_map type_grip h.types
    ∷ option_map dir_grip h.dirs ∷ option_map life_grip h.life ∷ option_map box_grip h.mailbox ∷ option_map code_grip h.codes ∷ []

-- as a request at work holds them
abbrev pub grips_of : {T B : Type 0} → Hands T B → List Grip
grips_of h = grips_in (slots_of h)

-- ---- a lock that is taken

-- it is held at this place, and was free and not broken
pub record IsPut {G : Type 0} (s : Script) (grip : G → Grip) (place : Option G) : Type 0 where
  pub guard : G
  pub there : place ≡ Some guard
  pub free : IsFreeGrip s (boot_system s) (grip guard)
  pub whole : (grip guard).broken ≡ false

-- it comes first of all that are held, and was free and not broken
pub record IsTaken (s : Script) (lock : LockId) (old new : List Grip) : Type 0 where
  pub grip : Grip
  pub first : new ≡ grip ∷ old
  pub same : grip.lock ≡ lock
  pub free : IsFreeGrip s (boot_system s) grip
  pub whole : grip.broken ≡ false
