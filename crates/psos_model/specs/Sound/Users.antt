-- What each user's own part is in a sound state. States docs/promises.md, "Sound states".
use Rattle.std.specs.Prelude.{◌≡◌, ◌<◌, ◌≤◌, ◌+◌, ◌-◌, ℕ, List, [], ◌∷◌, length}
use Rattle.std.specs.List.{AllByRecursion}
use Rattle.psos_limits.specs.declared.TheConstants.{MOST_CHARGE, MOST_PATH, MOST_FRAMES}
use Rattle.psos_calls.specs.declared.frame.Frame.{Frame}
use Rattle.psos_calls.specs.Language.Script.{Script, body_of}
use Rattle.psos_calls.specs.Language.User.{User}
use Rattle.psos_model.specs.Flat.Boot.{process_of}

-- the lines of open bodies that are not answered
abbrev pub lines_left : Script → List Frame → ℕ
lines_left s [] = 0
lines_left s (q ∷ outer) = (length (body_of s q.label) - q.line) + lines_left s outer

-- the innermost open body has a line left
abbrev pub HasLine : Script → List Frame → Type 0
HasLine s [] = Unit {0}
HasLine s (q ∷ outer) = q.line < length (body_of s q.label)

-- an open body is a code block of the script, and has 16 registers
pub record IsSoundFrame (s : Script) (q : Frame) : Type 0 where
  pub label : q.label < length s.codes
  pub regs : length q.regs ≡ 16

-- user u has the number and the process of boot, at most 4 open bodies and 4 directories in the name space, and a charge that pays for all lines
pub record IsSoundUser (s : Script) (u : ℕ) (x : User) : Type 0 where
  pub number : x.number ≡ u
  pub process : x.process ≡ process_of u
  pub regs : length x.regs ≡ 16
  pub path : length x.path ≤ MOST_PATH
  pub frames : AllByRecursion (IsSoundFrame s) x.frames
  pub few : length x.frames ≤ MOST_FRAMES
  pub line : HasLine s x.frames
  pub most : x.charge ≤ MOST_CHARGE
  pub paid : x.within + lines_left s x.frames ≤ x.charge
