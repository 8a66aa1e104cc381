-- The order of a serial run. States docs/promises.md, "Runs".
use Rattle.std.specs.Prelude.{◌≡◌, ℕ, ◌<◌, false, List, [], ◌∷◌, IsTrue}
use Rattle.psos_calls.specs.Language.Script.{Script}
use Rattle.psos_calls.specs.Language.User.{User}
use Rattle.psos_model.specs.Flat.{Flat}
use Rattle.psos_model.specs.Answer.{answer}
use Rattle.psos_model.specs.Run.{has_left}

-- the first user with a request left
pub record IsFirst (s : Script) (users : List User) (u : ℕ) : Type 0 where
  pub left : IsTrue (has_left s users u)
  pub least : (v : ℕ) → v < u → has_left s users v ≡ false

-- each is the first with a request left when it comes. So a user goes on to the end of the phase, then the next one does, and a phase follows when all have
abbrev pub IsSerialFrom : Script → Flat → List ℕ → Type 0
IsSerialFrom s f [] = Unit {0}
IsSerialFrom s f (u ∷ us) = IsFirst s f.users u × IsSerialFrom s (answer s f u).0 us
