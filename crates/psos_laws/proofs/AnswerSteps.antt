-- Every answer to a sound state is a step.
use Rattle.std.proofs.Common.{◌≡◌, ℕ, Bool, true, false, [], slice_get, slice_set, Option, Some, None, option_map, refl, sym, ap, subst, ◌∙◌, inl, arith}
use Rattle.std.proofs.lemmas.Option.{same_Some, none-some}
use Rattle.std.proofs.lemmas.Bool.{false≢true}
use Rattle.psos_table.specs.Table.{at}
use Rattle.psos_words.specs.Guard.{has_bit}
use Rattle.psos_calls.specs.declared.request.Request.{Request}
use Rattle.psos_calls.specs.Language.Script.{Script}
use Rattle.psos_calls.specs.Language.Tests.{if_there}
use Rattle.psos_calls.specs.Language.User.{User, next_request, after}
use Rattle.psos_model.specs.declared.place.Place.{Place}
use Rattle.psos_model.specs.declared.place.Place.TheVariants.{SegWord, DirName, BoxAt, Link, ImplOf}
use Rattle.psos_model.specs.Flat.{Flat, Segment, Directory}
use Rattle.psos_model.specs.Flat.Places.{guard_at}
use Rattle.psos_model.specs.Flat.Changes.{changed_all}
use Rattle.psos_model.specs.Answer.{outcome, answer, answer_to, silence}
use Rattle.psos_model.specs.Sound.Roles.{Role}
use Rattle.psos_model.specs.Sound.Roles as roles
use Rattle.psos_model.specs.Sound.{IsSound}
use Rattle.psos_laws.specs.Landings.{before}
use Rattle.psos_laws.specs.History.{Transition, transition_by, transition_at}
use Rattle.psos_laws.proofs.StepLaws.{Step, Ground}
use Rattle.psos_laws.proofs.OutcomeSteps.{all_puts, fair_steps}
use Rattle.psos_laws.proofs.FairRequests.{fair}

-- ---- what soundness gives

abbrev is_directory : Role → Bool
is_directory roles.Directory = true
is_directory _ = false

no_row : {X : Type 0} (o : Option X) → ((x : X) → o ≡ Some x → ⊥) → o ≡ None
no_row None n = refl
no_row (Some x) n = absurd (n x refl)

pub ground_of : (s : Script) (f : Flat) → IsSound s f → Ground f
ground_of s f sound = record {
  below = sound.below;
  segments = λ v new. no_row (at f.segments v) (λ x e. omega (arith, new, (sound.segments v x e).below));
  dirs = λ v new. no_row (at f.dirs v) (λ x e. omega (arith, new, (sound.dirs v x e).below));
  objects = λ v new. no_row (at f.objects v) (λ x e. omega (arith, new, (sound.objects v x e).below));
  apart = λ o x e. no_row (at f.dirs o) (λ d live. false≢true (ap is_directory (sym (sound.objects o x e).role-is ∙ (sound.dirs o d live).role-is)));
  reps = λ d x e. (sound.dirs d x e).rep_below;
  parts = λ o x e. (sound.segments x.rep (sound.objects o x e).rep (sound.objects o x e).live).below;
  bit_0 = bit_0;
}
  where
    in_segment : (v : ℕ) (k : ℕ) (o : Option Segment) → at f.segments v ≡ o → option_map (λ (s : Segment). s.guard.0) o ≡ Some k → has_bit k 0 ≡ true
    in_segment v k None live e = absurd (none-some k e)
    in_segment v k (Some x) live e = subst (λ n. has_bit n 0 ≡ true) (same_Some x.guard.0 k e) (sound.segments v x live).guard.bit_0

    in_dir : (v : ℕ) (k : ℕ) (o : Option Directory) → at f.dirs v ≡ o → option_map (λ (d : Directory). d.guard.0) o ≡ Some k → has_bit k 0 ≡ true
    in_dir v k None live e = absurd (none-some k e)
    in_dir v k (Some x) live e = subst (λ n. has_bit n 0 ≡ true) (same_Some x.guard.0 k e) (sound.dirs v x live).guard.bit_0

    of_one : (k : ℕ) → Some 1 ≡ Some k → has_bit k 0 ≡ true
    of_one k e = subst (λ n. has_bit n 0 ≡ true) (same_Some 1 k e) refl

    bit_0 : (p : Place) (k : ℕ) → guard_at f p ≡ Some k → has_bit k 0 ≡ true
    bit_0 (SegWord u i) k e = in_segment u.0 k (at f.segments u.0) refl e
    bit_0 (DirName u name) k e = in_dir u.0 k (at f.dirs u.0) refl e
    bit_0 (BoxAt u i) k e = of_one k e
    bit_0 (Link u) k e = of_one k e
    bit_0 (ImplOf u) k e = of_one k e
    bit_0 _ k e = absurd (none-some k e)

-- ---- answers

-- where nothing is answered, nothing lands
step_none : (f : Flat) (u : ℕ) → Step f f u [] (λ p. p)
step_none f u = record {
  nothing_else = λ p c e. e;
  lawful = tt;
  later = omega arith;
  guards = λ p j k a b. same_Some k j (sym b ∙ a);
  stores = λ p. refl;
  own = λ p v. refl;
  impl = λ p o e. e;
  dirs = λ d x e. inl (record { row = x; live = e; same = refl });
  objects = λ o x e. inl e;
  windows = λ w y e. inl e;
}

-- a transition leads to a state
abbrev pub LeadsTo : Transition → Flat → Type 0
LeadsTo e g = Step e.flat g e.user e.landings e.moved

asked : (s : Script) (f : Flat) (u : ℕ) (x : User) → IsSound s f → slice_get f.users u ≡ Some x → (r : Option Request) → LeadsTo (transition_by s f u x r) (answer_to s f u x r).0
asked s f u x sound there None = step_none f u
asked s f u x sound there (Some r) =
    let number : x.number ≡ u = (sound.users u x there).number in
    let is : slice_get f.users x.number ≡ Some x = ap (slice_get f.users) number ∙ there in
    let o = outcome f x r in
    let ground = ground_of s f sound in
    subst (λ (v : ℕ). Step f (record (changed_all f o.changes) { users = slice_set f.users v (after s x o.effect) }) v (all_puts s f x o) (before o.changes)) number
    (fair_steps s f x o is ground (fair f x is ground r))

abbrev pub transition_of : Script → Flat → ℕ → Option User → Transition
transition_of s f u o = if_there o (record { flat = f; user = u; landings = []; moved = λ p. p }) (λ x. transition_by s f u x (next_request s x))

abbrev pub answer_of : Script → Flat → ℕ → Option User → Flat
answer_of s f u o = (if_there o (f, silence u) (λ x. answer_to s f u x (next_request s x))).0

transition_flat_by : (s : Script) (f : Flat) (u : ℕ) (x : User) (r : Option Request) → ((transition_by s f u x r).flat ≡ f) × ((transition_by s f u x r).user ≡ u)
transition_flat_by s f u x None = (refl, refl)
transition_flat_by s f u x (Some r) = (refl, refl)

-- the transition of an answer has the state before it, and its user
pub transition_is : (s : Script) (f : Flat) (u : ℕ) → ((transition_at s f u).flat ≡ f) × ((transition_at s f u).user ≡ u)
transition_is s f u = by_user (slice_get f.users u)
  where
    by_user : (o : Option User) → ((transition_of s f u o).flat ≡ f) × ((transition_of s f u o).user ≡ u)
    by_user None = (refl, refl)
    by_user (Some x) = transition_flat_by s f u x (next_request s x)

pub answer_leads : (s : Script) (f : Flat) (u : ℕ) → IsSound s f → LeadsTo (transition_at s f u) (answer s f u).0
answer_leads s f u sound = by_user (slice_get f.users u) refl
  where
    by_user : (o : Option User) → slice_get f.users u ≡ o → LeadsTo (transition_of s f u o) (answer_of s f u o)
    by_user None there = step_none f u
    by_user (Some x) there = asked s f u x sound there (next_request s x)

pub answer_steps : (s : Script) (f : Flat) (u : ℕ) → IsSound s f → Step f (answer s f u).0 u (transition_at s f u).landings (transition_at s f u).moved
answer_steps s f u sound =
    let e = transition_at s f u in
    let is = transition_is s f u in
    let P : Flat → ℕ → Type 0 = λ a v. Step a (answer s f u).0 v e.landings e.moved in
    subst (λ a. P a u) is.0 (subst (λ v. P e.flat v) is.1 (answer_leads s f u sound))
