-- A step of the flat state, put together.
use Rattle.std.proofs.Common.{◌≡◌, ℕ, List, Option, Some, sym, ap, subst, ◌∙◌}
use Rattle.std.specs.Prelude.{slice_get, slice_set, IfSome}
use Rattle.psos_calls.specs.declared.request.Request.{Request}
use Rattle.psos_calls.specs.Language.Script.{Script, IsWellFormed}
use Rattle.psos_calls.specs.Language.User.{User, next_request, after, CanSettle, CanMake}
use Rattle.psos_calls.specs.Language.Tests.{if_there}
use Rattle.psos_model.specs.Flat.{Flat}
use Rattle.psos_model.specs.Flat.Changes.{changed_all}
use Rattle.psos_model.specs.Answer.Outcomes.{Outcome}
use Rattle.psos_model.specs.Answer.{outcome, answer, answer_to, silence}
use Rattle.psos_model.specs.Answer.CanStep.{HasRoom}
use Rattle.psos_model.proofs.AnswerBounds.{users_stay}
use Rattle.psos_model.proofs.RequestRanges.{can_count}

abbrev pub with_users : Flat → List User → Flat
with_users f users = record f { users = users }

-- what is answered to a user that is there, and asks something
pub answer_is : (s : Script) (f : Flat) (u : ℕ) (x : User) (r : Request) → slice_get f.users u ≡ Some x → next_request s x ≡ Some r → answer s f u ≡ answer_to s f u x (Some r)
answer_is s f u x r there asks = ap (λ o. if_there o (f, silence u) (λ x. answer_to s f u x (next_request s x))) there ∙ ap (answer_to s f u x) asks

-- the user is as it was once the changes are made
pub still_there : (f a : Flat) (o : Outcome) (u : ℕ) (x : User) → a ≡ changed_all f o.changes → slice_get f.users u ≡ Some x → slice_get a.users u ≡ Some x
still_there f a o u x made there = ap (λ (g : Flat). slice_get g.users u) made ∙ (ap (λ us. slice_get us u) (users_stay f o.changes) ∙ there)

-- and its part can be settled
pub can_settle : (s : Script) → IsWellFormed s → (users : List User) (o : Outcome) (u : ℕ) (x : User) (r : Request) → slice_get users u ≡ Some x → HasRoom x x.frames → next_request s x ≡ Some r → CanMake x o.effect
    → IfSome (slice_get users u) (λ x. CanSettle x o.effect)
can_settle s w users o u x r there room asks fits =
    subst (λ (p : Option User). IfSome p (λ x. CanSettle x o.effect)) (sym there) (record { count = can_count s w x room r asks; make = fits })

-- the changes, and then the user's own part
pub stepped : (s : Script) (f a : Flat) (o : Outcome) (users : List User) (u : ℕ) (x : User) (r : Request)
    → slice_get f.users u ≡ Some x → next_request s x ≡ Some r → a ≡ changed_all f o.changes → o ≡ outcome f x r
    → IfSome (slice_get a.users u) (λ x. users ≡ slice_set a.users u (after s x o.effect))
    → with_users a users ≡ (answer s f u).0
stepped s f a o users u x r there asks made is settled =
    let own : users ≡ slice_set a.users u (after s x o.effect) =
    subst (λ (p : Option User). IfSome p (λ x. users ≡ slice_set a.users u (after s x o.effect))) (still_there f a o u x made there) settled in
    ap (with_users a) own
    ∙ ap (λ (b : Flat). with_users b (slice_set b.users u (after s x o.effect))) made
    ∙ ap (λ us. with_users (changed_all f o.changes) (slice_set us u (after s x o.effect))) (users_stay f o.changes)
    ∙ ap (λ (p : Outcome). with_users (changed_all f p.changes) (slice_set f.users u (after s x p.effect))) is
    ∙ sym (ap (λ p. p.0) (answer_is s f u x r there asks))
