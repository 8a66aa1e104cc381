-- What a replay stands for.
use Rattle.std.proofs.Common.{◌≡◌, ℕ, ◌+◌, ◌*◌, ◌^◌, ◌≤◌, List, [], ◌∷◌, length, map, Option, Some, None, refl, sym, ap, ◌∙◌, arith}
use Rattle.std.specs.Prelude.{slice_get}
use Rattle.std.proofs.lemmas.List.Sums.{sum_by-cons}
use Rattle.psos_calls.specs.declared.entry.Entry.{Entry}
use Rattle.psos_calls.specs.declared.request.Request.{Request}
use Rattle.psos_calls.specs.declared.reply.Reply.TheVariants.{Fine}
use Rattle.psos_calls.specs.Language.Script.{Script, IsWellFormed}
use Rattle.psos_calls.specs.Language.User.{User, next_request}
use Rattle.psos_calls.specs.Language.Tests.{if_there}
use Rattle.psos_model.specs.Flat.{Flat}
use Rattle.psos_model.specs.Answer.{Answered, answer}
use Rattle.psos_model.specs.Replay.{System, replay_step, replay_to, entries_from, answered_of}
use Rattle.psos_model.specs.Sound.{IsSound}
use Rattle.psos_model.specs.Replay.StandsFor.{StandsFor}
use Rattle.psos_model.proofs.AnswerBounds.{at_most_two}
use Rattle.psos_laws.proofs.SoundRuns.{answers_kept}
use Rattle.psos_laws.proofs.OrderLengths.{orders_end}
use Rattle.psos_agree.proofs.RequestsAgree.{step_agrees}
use Rattle.psos_agree.proofs.PlanLengths.{plans_are_short}
use Rattle.psos_events.specs.Replays.{RunStands, RunsStand}

-- ---- one request

-- an entry of few calls
abbrev IsFew : Entry → Type 0
IsFew e = length e.steps ≤ 44

-- where a user's own part is sound, its next request makes few calls
step_few : (s : Script) (y : System) (f : Flat) (u : ℕ) → StandsFor y f → IsSound s f → IsFew (replay_step s y u).1
step_few s y f u h sound = by_user (slice_get y.users u) refl
  where
    none : IsFew (record { user = u; n = 0; m = 0; steps = []; reply = Fine })
    none = omega arith

    by_request : (x : User) → length x.path ≤ 4 → (o : Option Request) → next_request s x ≡ o → IsFew (replay_to s y u x o).1
    by_request x path None asks = none
    by_request x path (Some request) asks = plans_are_short x y.levels request path

    by_user : (o : Option User) → slice_get y.users u ≡ o
        → IsFew (if_there o (y, record { user = u; n = 0; m = 0; steps = []; reply = Fine }) (λ x. replay_to s y u x (next_request s x))).1
    by_user None here = none
    by_user (Some x) here =
        let there : slice_get f.users u ≡ Some x = ap (λ (xs : List User). slice_get xs u) (sym h.users) ∙ here in
        by_request x (sound.users u x there).path (next_request s x) refl

-- ---- all of them

-- where identifiers for so many requests are left
stand_from : (s : Script) → IsWellFormed s → (order : List ℕ) (y : System) (f : Flat) → StandsFor y f → IsSound s f → f.next + 2 * length order + 3 ≤ 2 ^ 64 → RunStands s y f order
stand_from s well [] y f stands sound room = record { stands = stands; sound = sound; room = omega (arith, room); answered = refl; few = omega arith }
stand_from s well (u ∷ us) y f stands sound room =
    let one = step_agrees s y f u well stands sound (omega (arith, room)) in
    let rest = stand_from s well us (replay_step s y u).0 (answer s f u).0 one.stands (answers_kept s f u well sound) (omega (arith, room, at_most_two s f u)) in
    let entry = (replay_step s y u).1 in
    let others = entries_from s (replay_step s y u).0 us in
    record {
      stands = rest.stands;
      sound = rest.sound;
      room = rest.room;
      answered = ap (λ (a : Answered). a ∷ map answered_of others) one.answered
          ∙ ap (λ (more : List Answered). (answer s f u).1 ∷ more) rest.answered;
      few = omega (arith, rest.few, step_few s y f u stands sound, sum_by-cons (λ (e : Entry). length e.steps) entry others);
    }

-- from a start, in a legal order
pub runs_stand : RunsStand
runs_stand s y f order start legal =
    stand_from s start.well_formed order y f start.stands start.start.sound (omega (arith, start.start.next, orders_end s f order start.well_formed start.start legal))
