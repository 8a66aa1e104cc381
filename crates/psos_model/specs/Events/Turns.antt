-- The order in which requests close when events are drawn. States docs/program.md, "Turns".
use Rattle.std.specs.Prelude.{◌≡◌, ℕ, ◌%◌, false, if◌then◌else◌, List, [], ◌∷◌, length, slice_get, Option, Some}
use Rattle.psos_text.specs.Draws.{first_draw, next_draw}
use Rattle.psos_calls.specs.Language.Script.{Script}
use Rattle.psos_calls.specs.Language.User.{User}
use Rattle.psos_model.specs.Run.{has_left}
use Rattle.psos_model.specs.Replay.{System, boot_system, order_of}
use Rattle.psos_model.specs.Events.{CoreState, core_of, is_enabled, core_step, core_after}

-- those of these users whose event is enabled
abbrev pub enabled_in : Script → CoreState → List User → List ℕ
enabled_in s c [] = []
enabled_in s c (x ∷ others) = if is_enabled s c x.number then x.number ∷ enabled_in s c others else enabled_in s c others

-- x counts round among these
abbrev pub picked : ℕ → List ℕ → Option ℕ
picked x us = slice_get us (x % length us)

-- each of these users is the one that is drawn in its turn, in the order of the script
abbrev pub AreDrawn : Script → CoreState → ℕ → List ℕ → Type 0
AreDrawn s c x [] = Unit {0}
AreDrawn s c x (u ∷ us) = (picked (next_draw x) (enabled_in s c c.users) ≡ Some u) × AreDrawn s (core_step s c u) (next_draw x) us

-- turns are drawn until no user has a request left, and requests close in this order. (A relation and no function: it needs no bound on turns, and there is one order at most.)
pub record IsTurnsOrderFrom (s : Script) (y : System) (seed : ℕ) (order : List ℕ) : Type 0 where
  pub turns : List ℕ
  pub drawn : AreDrawn s (core_of y) (first_draw seed) turns
  pub over : (u : ℕ) → has_left s (core_after s (core_of y) turns).users u ≡ false
  pub closes : order_of (core_after s (core_of y) turns).entries ≡ order

-- the same from boot
abbrev pub IsTurnsOrder : Script → ℕ → List ℕ → Type 0
IsTurnsOrder s seed order = IsTurnsOrderFrom s (boot_system s) seed order
