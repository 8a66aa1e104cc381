-- What every outcome, and every answer, does at most.
use Rattle.std.proofs.Common.{◌≡◌, ℕ, ◌+◌, ◌≤◌, cond, List, [], ◌∷◌, Option, Some, None, refl, sym, ap, subst, ◌∙◌, arith}
use Rattle.std.specs.Prelude.{⊤, slice_get}
use Rattle.psos_calls.specs.declared.request.Request.{Request}
use Rattle.psos_calls.specs.declared.refusal.Refusal.{Refusal}
use Rattle.psos_calls.specs.declared.reply.Reply.TheVariants as replies
use Rattle.psos_calls.specs.declared.effect.Effect.TheVariants.{Nothing}
use Rattle.psos_calls.specs.Language.Script.{Script}
use Rattle.psos_calls.specs.Language.User.{User, next_request}
use Rattle.psos_calls.specs.Language.Tests.{if_there}
use Rattle.psos_model.specs.Flat.{Flat}
use Rattle.psos_model.specs.declared.change.Change.{Change}
use Rattle.psos_model.specs.declared.change.Change.TheVariants.{Fresh, PutWord, Bind, Unbind, Register, Unregister, Post, Draw, MakeSegment, MakeWindow, MakeType, MakeObject, MakeDirectory, MakeCode, DropSegment, DropType, DropObject, DropDirectory, DropCode}
use Rattle.psos_model.specs.Flat.Changes.{changed, changed_all}
use Rattle.psos_model.specs.Flat.Safe.{used, used_by}
use Rattle.psos_model.specs.Answer.Outcomes.{Outcome}
use Rattle.psos_model.specs.Answer.{outcome, answer, answer_to, silence}
use Rattle.psos_model.proofs.OutcomeWalk.{IsDone, is_kind, by_outcome}

-- ---- refusals

-- a refusal has no changes and no effect
record IsIdle (o : Outcome) : Type 0 where
  changes : (why : Refusal) → o.reply ≡ replies.No why → o.changes ≡ []
  effect : (why : Refusal) → o.reply ≡ replies.No why → o.effect ≡ Nothing

no_refusal : (f : Flat) (x : User) (o : Outcome) → IsDone f x o → (why : Refusal) → o.reply ≡ replies.No why → ⊥
no_refusal f x o d why e = subst (λ b. cond b ⊥ ⊤) (sym (ap is_kind e) ∙ d.reply) tt

idle : (f : Flat) (x : User) (r : Request) → IsIdle (outcome f x r)
idle f x r = by_outcome f x IsIdle (λ r. record { changes = λ why e. refl; effect = λ why e. refl })
    (λ o d. record { changes = λ why e. absurd (no_refusal f x o d why e); effect = λ why e. absurd (no_refusal f x o d why e) }) r

pub no_changes : (f : Flat) (x : User) (r : Request) (why : Refusal) → (outcome f x r).reply ≡ replies.No why → (outcome f x r).changes ≡ []
no_changes f x r = (idle f x r).changes

pub no_effect : (f : Flat) (x : User) (r : Request) (why : Refusal) → (outcome f x r).reply ≡ replies.No why → (outcome f x r).effect ≡ Nothing
no_effect f x r = (idle f x r).effect

-- ---- the next identifier

pub next_is : (f : Flat) (c : Change) → (changed f c).next ≡ f.next + used c
next_is f Fresh = refl
next_is f (PutWord u i w) = omega arith
next_is f (Bind d name cap) = omega arith
next_is f (Unbind d name) = omega arith
next_is f (Register o d name kind) = omega arith
next_is f (Unregister o d name) = omega arith
next_is f (Post b w) = omega arith
next_is f (Draw b) = omega arith
next_is f (MakeSegment u len guard) = omega arith
next_is f (MakeWindow u row) = omega arith
next_is f (MakeType u) = omega arith
next_is f (MakeObject u o len) = omega arith
next_is f (MakeDirectory u rep guard) = omega arith
next_is f (MakeCode u row) = omega arith
next_is f (DropSegment u) = omega arith
next_is f (DropType u) = omega arith
next_is f (DropObject u rep) = omega arith
next_is f (DropDirectory u) = omega arith
next_is f (DropCode u) = omega arith

pub next_after : (f : Flat) (cs : List Change) → (changed_all f cs).next ≡ f.next + used_by cs
next_after f [] = omega arith
next_after f (c ∷ rest) = omega (arith, next_after (changed f c) rest, next_is f c)

pub uses_few : (f : Flat) (x : User) (r : Request) → used_by (outcome f x r).changes ≤ 2
uses_few f x r = by_outcome f x (λ o. used_by o.changes ≤ 2) (λ r. omega arith) (λ o d. d.few) r

-- the next identifier after an answer
record RisesByTwo (before after : ℕ) : Type 0 where
  up : before ≤ after
  two : after ≤ before + 2

rises_to : (s : Script) (f : Flat) (u : ℕ) (x : User) (r : Option Request) → RisesByTwo f.next (answer_to s f u x r).0.next
rises_to s f u x None = record { up = omega arith; two = omega arith }
rises_to s f u x (Some r) =
    let cs = (outcome f x r).changes in
    record { up = omega (arith, next_after f cs); two = omega (arith, next_after f cs, uses_few f x r) }

rises : (s : Script) (f : Flat) (u : ℕ) → RisesByTwo f.next (answer s f u).0.next
rises s f u = by_user (slice_get f.users u)
  where
    by_user : (o : Option User) → RisesByTwo f.next (if_there o (f, silence u) (λ x. answer_to s f u x (next_request s x))).0.next
    by_user None = record { up = omega arith; two = omega arith }
    by_user (Some x) = rises_to s f u x (next_request s x)

pub never_falls : (s : Script) (f : Flat) (u : ℕ) → f.next ≤ (answer s f u).0.next
never_falls s f u = (rises s f u).up

pub at_most_two : (s : Script) (f : Flat) (u : ℕ) → (answer s f u).0.next ≤ f.next + 2
at_most_two s f u = (rises s f u).two

-- ---- the users' own parts

pub users_stay : (f : Flat) (cs : List Change) → (changed_all f cs).users ≡ f.users
users_stay f [] = refl
users_stay f (c ∷ rest) = users_stay (changed f c) rest ∙ by_change c
  where
    by_change : (c : Change) → (changed f c).users ≡ f.users
    by_change Fresh = refl
    by_change (PutWord u i w) = refl
    by_change (Bind d name cap) = refl
    by_change (Unbind d name) = refl
    by_change (Register o d name kind) = refl
    by_change (Unregister o d name) = refl
    by_change (Post b w) = refl
    by_change (Draw b) = refl
    by_change (MakeSegment u len guard) = refl
    by_change (MakeWindow u row) = refl
    by_change (MakeType u) = refl
    by_change (MakeObject u o len) = refl
    by_change (MakeDirectory u rep guard) = refl
    by_change (MakeCode u row) = refl
    by_change (DropSegment u) = refl
    by_change (DropType u) = refl
    by_change (DropObject u rep) = refl
    by_change (DropDirectory u) = refl
    by_change (DropCode u) = refl
