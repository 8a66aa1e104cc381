-- The levels under a run, by the plans of its requests. States docs/promises.md, "Replays".
pub mod BootLevels
pub mod StandsFor
use Rattle.std.specs.Prelude.{◌≡◌, ℕ, List, [], ◌∷◌, map, slice_get, slice_set, Option, Some, None}
use Rattle.psos_calls.specs.declared.request.Request.{Request}
use Rattle.psos_calls.specs.declared.reply.Reply.TheVariants.{Fine}
use Rattle.psos_calls.specs.declared.entry.Entry.{Entry}
use Rattle.psos_calls.specs.Language.Script.{Script}
use Rattle.psos_calls.specs.Language.User.{User, next_request, place_of, after}
use Rattle.psos_calls.specs.Levels.{Levels}
use Rattle.psos_calls.specs.Plan.{run_plan}
use Rattle.psos_calls.specs.Plan.Requests.{plan_of}
use Rattle.psos_calls.specs.Language.Tests.{if_there}
use Rattle.psos_model.specs.Flat.Boot.{boot_users}
use Rattle.psos_model.specs.Replay.BootLevels.{boot_levels}
use Rattle.psos_model.specs.Answer.{Answered}
use Rattle.psos_model.specs.Run.{answers}

-- the states of all levels, and the users' own parts in the order of the script
pub record System : Type 0 where
  pub levels : Levels
  pub users : List User

abbrev pub boot_system : Script → System
boot_system s = record { levels = boot_levels s; users = boot_users 0 s.users }

-- a request by its plan: the system after it, and its entry
abbrev pub replay_to : Script → System → ℕ → User → Option Request → System × Entry
replay_to s y u x None = (y, record { user = u; n = 0; m = 0; steps = []; reply = Fine })
replay_to s y u x (Some request) =
    let p = run_plan (plan_of x request) y.levels in (
      record { levels = p.levels; users = slice_set y.users u (after s x p.effect) },
      record { user = u; n = (place_of x).0; m = (place_of x).1; steps = p.calls; reply = p.reply },
    )

-- user u's next request by its plan
abbrev pub replay_step : Script → System → ℕ → System × Entry
replay_step s y u =
    if_there (slice_get y.users u) (y, record { user = u; n = 0; m = 0; steps = []; reply = Fine })
    (λ x. replay_to s y u x (next_request s x))

-- the system after the requests of these users, one after another
abbrev pub replay_from : Script → System → List ℕ → System
replay_from s y [] = y
replay_from s y (u ∷ us) = replay_from s (replay_step s y u).0 us

-- the entries on the way
abbrev pub entries_from : Script → System → List ℕ → List Entry
entries_from s y [] = []
entries_from s y (u ∷ us) = (replay_step s y u).1 ∷ entries_from s (replay_step s y u).0 us

abbrev pub replay : Script → List ℕ → System
replay s order = replay_from s (boot_system s) order

-- the order that entries record
abbrev pub order_of : List Entry → List ℕ
order_of entries = map (λ (e : Entry). e.user) entries

-- an entry as an answer
abbrev pub answered_of : Entry → Answered
answered_of e = record { user = e.user; n = e.n; m = e.m; reply = e.reply }

-- the entries are those of the replay of their order, and say what the run of it answers
pub record AreFaithful (s : Script) (entries : List Entry) : Type 0 where
  pub replayed : entries ≡ entries_from s (boot_system s) (order_of entries)
  pub answered : map answered_of entries ≡ answers s (order_of entries)
