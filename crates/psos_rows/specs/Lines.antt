-- The lines of a run. States docs/promises.md, "Runs".
use Rattle.std.specs.Prelude.{◌≡◌, ℕ, List, length, map}
use Rattle.psos_calls.specs.declared.line.Line.{Line}
use Rattle.psos_calls.specs.Language.Script.{Script}
use Rattle.psos_model.specs.Run.{answers}
use Rattle.psos_model.specs.Laws.{numbers}
use Rattle.psos_print.specs.Line.{answered_in}

-- the users of lines, in their order
abbrev pub order_in : List Line → List ℕ
order_in lines = map (λ (l : Line). l.user) lines

-- the lines of an order's run from boot: what was answered to each user in turn, stamped from 0
pub record AreLinesOf (s : Script) (order : List ℕ) (lines : List Line) : Type 0 where
  pub users : order_in lines ≡ order
  pub answers_are : map answered_in lines ≡ answers s order
  pub stamps : map (λ (l : Line). l.stamp) lines ≡ numbers (length lines) 0
