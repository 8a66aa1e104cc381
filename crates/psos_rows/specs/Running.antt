-- A run that is under way. States docs/promises.md, "Runs".
use Rattle.std.specs.Prelude.{◌≡◌, ℕ, ◌+◌, ◌*◌, ◌≤◌}
use Rattle.psos_calls.specs.declared.line.Line.{Line}
use Rattle.psos_calls.specs.Language.Script.{Script}
use Rattle.psos_model.specs.Flat.{Flat}
use Rattle.psos_model.specs.Flat.Boot.{boot_next}
use Rattle.psos_model.specs.Answer.{answer}
use Rattle.psos_model.specs.Sound.{IsSound}
use Rattle.psos_print.specs.Line.{answered_in}

-- so many requests are answered
pub record IsRunning (s : Script) (f : Flat) (n : ℕ) : Type 0 where
  pub sound : IsSound s f
  pub low : f.next ≤ boot_next s + 2 * n

-- the next one is answered by a line with this stamp
pub record IsNext (s : Script) (f : Flat) (u n : ℕ) (g : Flat) (l : Line) : Type 0 where
  pub state : g ≡ (answer s f u).0
  pub user : l.user ≡ u
  pub answer_is : answered_in l ≡ (answer s f u).1
  pub stamp : l.stamp ≡ n
