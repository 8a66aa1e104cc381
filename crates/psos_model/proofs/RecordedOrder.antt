-- The order that a replay's entries record.
use Rattle.std.proofs.Common.{◌≡◌, ℕ, List, [], ◌∷◌, Option, Some, None, refl, ap, ◌∙◌}
use Rattle.std.specs.Prelude.{slice_get}
use Rattle.psos_calls.specs.declared.request.Request.{Request}
use Rattle.psos_calls.specs.declared.reply.Reply.TheVariants as replies
use Rattle.psos_calls.specs.Language.Script.{Script}
use Rattle.psos_calls.specs.Language.User.{User, next_request}
use Rattle.psos_calls.specs.Language.Tests.{if_there}
use Rattle.psos_model.specs.Replay.{System, replay_to, replay_step, entries_from, order_of}

entry_to : (s : Script) (y : System) (u : ℕ) (x : User) (o : Option Request) → (replay_to s y u x o).1.user ≡ u
entry_to s y u x None = refl
entry_to s y u x (Some request) = refl

entry_of : (s : Script) (y : System) (u : ℕ) (o : Option User)
    → (if_there o (y, record { user = u; n = 0; m = 0; steps = []; reply = replies.Fine }) (λ x. replay_to s y u x (next_request s x))).1.user ≡ u
entry_of s y u None = refl
entry_of s y u (Some x) = entry_to s y u x (next_request s x)

-- it is the order that the replay was made by
pub order_of_entries : (s : Script) (order : List ℕ) (y : System) → order_of (entries_from s y order) ≡ order
order_of_entries s [] y = refl
order_of_entries s (u ∷ us) y =
    ap (λ (v : ℕ). v ∷ order_of (entries_from s (replay_step s y u).0 us)) (entry_of s y u (slice_get y.users u))
    ∙ ap (λ (vs : List ℕ). u ∷ vs) (order_of_entries s us (replay_step s y u).0)
