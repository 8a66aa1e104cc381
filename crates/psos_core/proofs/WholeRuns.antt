-- Runs of any order: a front of one, and a whole one. States docs/promises.md, "Replays".
use Rattle.std.proofs.Common.{◌≡◌, ℕ, false, List, map, sym, ap, ◌∙◌, subst, arith}
use Rattle.psos_calls.specs.declared.entry.Entry.{Entry}
use Rattle.psos_calls.specs.Language.Script.{Script}
use Rattle.psos_calls.specs.Language.User.{User}
use Rattle.psos_model.specs.Flat.{Flat}
use Rattle.psos_model.specs.Flat.Boot.{boot}
use Rattle.psos_model.specs.Run.{has_left, run_from, IsLegalFrom}
use Rattle.psos_model.specs.Replay.{System, boot_system, replay_from, entries_from, order_of, answered_of}
use Rattle.psos_model.specs.Replay.StandsFor.{StandsFor}
use Rattle.psos_model.specs.Text.Output.{calls_of}
use Rattle.psos_model.specs.Events.Serial.{IsCoreStart}
use Rattle.psos_laws.proofs.PlacesRuns.{runs_are_lawful}
use Rattle.psos_laws.proofs.OrderLengths.{orders_end}
use Rattle.psos_events.proofs.Replays.{runs_stand}
use Rattle.psos_core.specs.Serving.{IsFrontFrom, IsRunFrom, IsWholeRun}

-- entries of a replay in a legal order are a front of a run
pub front_of : (s : Script) (y : System) (f : Flat) (entries : List Entry) → IsCoreStart s y f → IsLegalFrom s f (order_of entries) → entries ≡ entries_from s y (order_of entries) → IsFrontFrom s y f entries
front_of s y f entries start legal recorded = record {
  legal = legal;
  recorded = recorded;
  answered = ap (map answered_of) recorded ∙ (runs_stand s y f (order_of entries) start legal).answered;
}

-- a front is a whole run where the levels and the users' own parts are those of the replay, and nobody has a request left
pub run_of : (s : Script) (y : System) (f : Flat) (left : System) (InOrder : List ℕ → Type 0) (entries : List Entry) → IsCoreStart s y f → IsFrontFrom s y f entries
    → InOrder (order_of entries) → left ≡ replay_from s y (order_of entries) → ((u : ℕ) → has_left s left.users u ≡ false) → IsRunFrom s y f InOrder entries left
run_of s y f left InOrder entries start front ordered replayed over =
    let order = order_of entries in
    let ran = runs_stand s y f order start front.legal in
    let stands = subst (λ (z : System). StandsFor z (run_from s f order)) (sym replayed) ran.stands in
    record {
      front = front;
      over = λ u. ap (λ (us : List User). has_left s us u) (sym stands.users) ∙ over u;
      ordered = ordered;
      few = omega (arith, ap calls_of front.recorded, ran.few, orders_end s f order start.well_formed start.start front.legal);
      replayed = replayed;
      stands = stands;
      lawful = runs_are_lawful s f order start.well_formed start.start.sound;
    }

-- from boot
pub whole_run : (s : Script) (left : System) (InOrder : List ℕ → Type 0) (entries : List Entry) → IsRunFrom s (boot_system s) (boot s) InOrder entries left → IsWholeRun s InOrder entries left
whole_run s left InOrder entries h = record {
  complete = record { legal = h.front.legal; over = h.over };
  faithful = record { replayed = h.front.recorded; answered = h.front.answered };
  ordered = h.ordered;
  few = h.few;
  replayed = h.replayed;
  stands = h.stands;
  lawful = h.lawful;
}
