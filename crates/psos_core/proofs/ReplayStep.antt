-- A step of the replay, where it is known what is asked.
use Rattle.std.proofs.Common.{◌≡◌, ℕ, Option, Some, None, ap, ◌∙◌}
use Rattle.std.specs.Prelude.{slice_get}
use Rattle.psos_calls.specs.declared.request.Request.{Request}
use Rattle.psos_calls.specs.Language.Script.{Script}
use Rattle.psos_calls.specs.Language.User.{User, next_request}
use Rattle.psos_calls.specs.Language.Tests.{if_there}
use Rattle.psos_model.specs.Replay.{System, replay_to, replay_step}

pub step_is : (s : Script) (y : System) (u : ℕ) (x : User) (request : Request) → slice_get y.users u ≡ Some x → next_request s x ≡ Some request
    → replay_step s y u ≡ replay_to s y u x (Some request)
step_is s y u x request there next =
    ap (λ (o : Option User). if_there o (replay_to s y u x None) (λ x. replay_to s y u x (next_request s x))) there
    ∙ ap (λ (o : Option Request). replay_to s y u x o) next
