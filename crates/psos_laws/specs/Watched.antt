-- The flat state of a run with the order that led to it. States docs/promises.md, "Runs".
use Rattle.std.specs.Prelude.{◌≡◌, ℕ, List}
use Rattle.psos_calls.specs.declared.line.Line.{Line}
use Rattle.psos_calls.specs.Language.Script.{Script, IsWellFormed}
use Rattle.psos_model.specs.Flat.{Flat}
use Rattle.psos_model.specs.Answer.{Answered}
use Rattle.psos_model.specs.Flat.Boot.{boot}
use Rattle.psos_model.specs.Run.{IsLegalFrom, run}
use Rattle.psos_laws.specs.declared.watched.Watched as state
use Rattle.psos_laws.specs.History.{history}
use Rattle.psos_laws.specs.Arrivals.{Tells}

abbrev pub Watched : Type 0
Watched = state.Watched

-- the script that boot took
abbrev pub script_of : Watched → Script
script_of w = w.script.value

-- the users that were answered, the first in front
abbrev pub order_of : Watched → List ℕ
order_of w = w.order.items

-- the flat state
abbrev pub flat_of : Watched → Flat
flat_of w = w.flat

-- the flat state is that of a legal order of a well-formed script, and what is kept tells the origins of its history
pub record IsWatched (w : Watched) : Type 0 where
  pub formed : IsWellFormed (script_of w)
  pub legal : IsLegalFrom (script_of w) (boot (script_of w)) (order_of w)
  pub state : flat_of w ≡ run (script_of w) (order_of w)
  pub tells : Tells (history (script_of w) (order_of w)) (flat_of w) w.origins

-- nothing changed
pub record IsSame (a b : Watched) : Type 0 where
  pub script : script_of b ≡ script_of a
  pub order : order_of b ≡ order_of a
  pub state : flat_of b ≡ flat_of a

-- the line of what was answered at a stamp
pub record IsLine (l : Line) (at : ℕ) (a : Answered) : Type 0 where
  pub user : l.user ≡ a.user
  pub n : l.n ≡ a.n
  pub m : l.m ≡ a.m
  pub stamp : l.stamp ≡ at
  pub reply : l.reply ≡ a.reply
