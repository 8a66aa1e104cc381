-- What the calls of a trace ask for. States docs/requests.md, "Plans".
use Rattle.std.specs.Prelude.{◌≡◌, ◌≤◌, ◌⊎◌, ℕ, suc, Bool, true, false, Option, Some, None, List, [], ◌∷◌, length, take, drop, if◌then◌else◌, IsTrue}
use Rattle.psos_caps.specs.declared.cap.Uid.{Uid}
use Rattle.psos_calls.specs.declared.step.Step.{Step}
use Rattle.psos_calls.specs.Levels.Calls.{LevelCall}
use Rattle.psos_calls.specs.declared.level_call.LevelCall.TheVariants.{DirAt, KindOf}
use Rattle.psos_calls.specs.Levels.Level7.{reads_page}

-- the call asks for a directory
abbrev pub asks_dir : LevelCall → Bool
asks_dir (DirAt cap right) = true
asks_dir _ = false

-- how many calls ask for one
abbrev pub asked : List Step → ℕ
asked [] = 0
asked (s ∷ rest) = if asks_dir s.call then suc (asked rest) else asked rest

-- the first call asks for one
abbrev pub BeginsWithDir : List Step → Type 0
BeginsWithDir [] = ⊥
BeginsWithDir (s ∷ rest) = IsTrue (asks_dir s.call)

-- so many calls ask for a directory, and the last of them stands here; with none, the place is the beginning
pub record IsLastDir (count at : ℕ) (steps : List Step) : Type 0 where
  pub within : at ≤ length steps
  pub last : ((count ≡ 0) × (at ≡ 0)) ⊎ ((count ≡ suc (asked (take at steps))) × BeginsWithDir (drop at steps))
  pub all : count ≡ asked steps

-- the steps from some place on, and how many calls before them ask for a directory. With one that asks, it comes first
pub record IsSinceDir (steps : List Step) (passed : ℕ) (rest : List Step) : Type 0 where
  pub at : ℕ
  pub within : at ≤ length steps
  pub count : passed ≡ asked (take at steps)
  pub is : rest ≡ drop at steps
  pub first : (at ≡ 0) ⊎ BeginsWithDir (drop at steps)

-- ---- what else a call asks for

-- how many calls in front read pages
abbrev pub pages_first : List Step → ℕ
pages_first [] = 0
pages_first (s ∷ rest) = if reads_page s.call then suc (pages_first rest) else 0

-- the object whose kind is asked
abbrev pub kind_asked : LevelCall → Option Uid
kind_asked (KindOf uid) = Some uid
kind_asked _ = None
