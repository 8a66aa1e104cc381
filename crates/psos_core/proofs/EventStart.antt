-- Where a run by events begins.
use Rattle.std.proofs.Common.{◌≡◌, ℕ, zero, suc, ◌+◌, ◌<◌, ◌≤◌, List, [], ◌∷◌, ◌++◌, length, map, take, replicate, set, Option, Some, None, refl, sym, ap, ◌∙◌, ◌⊎◌, inl, inr, subst, arith}
use Rattle.std.specs.Prelude.{slice_get, slice_index_or, IsTrue}
use Rattle.std.specs.Option.{option_and_then}
use Rattle.std.proofs.lemmas.Bool.{cases_lt, cases_eq}
use Rattle.std.proofs.lemmas.Grind.{common_steps}
use Rattle.std.proofs.lemmas.List.{length-replicate, length-set, length-map, take_more, take_more_set, get_or-set_same, get_or-set_other}
use Rattle.psos_calls.specs.declared.lock_id.LockId.{LockId}
use Rattle.psos_calls.specs.declared.next.Next.{Next}
use Rattle.psos_calls.specs.declared.step.Step.{Step}
use Rattle.psos_calls.specs.declared.entry.Entry.{Entry}
use Rattle.psos_calls.specs.Language.Script.{Script}
use Rattle.psos_calls.specs.Language.User.{User}
use Rattle.psos_model.specs.Flat.{Flat}
use Rattle.psos_model.specs.Run.{phase_of}
use Rattle.psos_model.specs.Events.{CoreState}
use Rattle.psos_model.specs.Events.Serial.{IsCoreStart}
use Rattle.psos_events.proofs.ReplayInvariant.{nothing_at}
use Rattle.psos_core.proofs.EventStep.{phase_there}
use Rattle.psos_core.specs.declared.levels.Levels.{Levels}
use Rattle.psos_core.specs.declared.ongoing.Ongoing.{Ongoing}
use Rattle.psos_core.specs.System.{levels_of, system_of}
use Rattle.psos_core.specs.declared.upcoming.Upcoming.{Upcoming}
use Rattle.psos_core.specs.declared.upcoming.Upcoming.TheVariants as upcoming
use Rattle.psos_core.specs.Plans.{state_in, next_after, Tells, is_known, AreFirst, IsPlanned}
use Rattle.psos_core.specs.EventStates.{HasLed}

-- nothing is held, no trace is open, and nothing has closed
pub first_led : {B : Type 0} (s own : Script) (l : Levels B) (o : Ongoing) (entries : List Entry) (f : Flat) → IsCoreStart s (system_of l) f → own ≡ s → entries ≡ []
    → o.held ≡ replicate (length l.privates.value.items) [] → o.traces.items ≡ replicate (length l.privates.value.items) [] → HasLed own (state_in l o entries) (record { system = system_of l; flat = f }) []
first_led {B} s own l o entries f start same nothing held traces =
    let P : Script → List Entry → Type 0 = λ z es. HasLed z (state_in l o es) (record { system = system_of l; flat = f }) [] in
    let users = l.privates.value.items in
    let S : List (List LockId) → List (List Step) → CoreState = λ locks steps. record { levels = levels_of l; users = users; held = locks; traces = steps; entries = [] } in
    let led : P s [] = record {
      starts = start;
      enabled = tt;
      state = ap (λ (locks : List (List LockId)). S locks o.traces.items) held ∙ ap (λ (steps : List (List Step)). S (replicate (length users) []) steps) traces;
    } in
    subst (λ (z : Script). P z entries) (sym same) (subst (P s) (sym nothing) led)

-- where no request is open, what is kept goes with the state
pub first_planned : {B : Type 0} (s : Script) (l : Levels B) (o : Ongoing) (entries : List Entry) → length l.privates.value.items ≡ length s.users
    → o.held ≡ replicate (length l.privates.value.items) [] → o.traces.items ≡ replicate (length l.privates.value.items) [] → AreFirst s l.privates.value.items o.nexts.items
    → o.phases ≡ map (phase_of s) l.privates.value.items → IsPlanned s (state_in l o entries) o.nexts.items o.phases
first_planned {B} s l o entries all held traces first phases =
    let users = l.privates.value.items in
    let none : (u : ℕ) → slice_index_or o.traces.items u [] ≡ [] = λ u. ap (λ (ts : List (List Step)). slice_index_or ts u []) traces ∙ nothing_at (length users) u in
    record {
      users = all;
      held = ap (λ (locks : List (List LockId)). length locks) held ∙ (length-replicate (length users) [] ∙ all);
      traces = ap (λ (steps : List (List Step)). length steps) traces ∙ (length-replicate (length users) [] ∙ all);
      all = first.all ∙ all;
      each = λ u. subst (λ (t : List Step). Tells (slice_index_or o.nexts.items u upcoming.Nothing) (option_and_then (λ (x : User). next_after s x t) (slice_get users u))) (sym (none u)) (first.each u);
      phases-are = phases;
    }

-- ---- one user after another

-- what a user asks first
abbrev first_of : Script → List User → ℕ → Option Next
first_of s users u = option_and_then (λ (x : User). next_after s x []) (slice_get users u)

-- it is told, and known
abbrev IsToldOf : Script → List User → ℕ → Upcoming → Type 0
IsToldOf s users u up = Tells up (first_of s users u) × IsTrue (is_known up)

-- so it is of so many users
pub record AreBegun (s : Script) (users : List User) (nexts : List Upcoming) (n : ℕ) : Type 0 where
  pub all : length nexts ≡ length users
  pub each : (u : ℕ) → u < n → IsToldOf s users u (slice_index_or nexts u upcoming.Nothing)

pub begun_none : (s : Script) (users : List User) (nexts : List Upcoming) → length nexts ≡ length users → AreBegun s users nexts 0
begun_none s users nexts all = record { all = all; each = λ u less. absurd (omega (arith, less)) }

pub begun_more : (s : Script) (users : List User) (nexts : List Upcoming) (n : ℕ) (x : User) (then : Upcoming) → AreBegun s users nexts n → n < length users → slice_get users n ≡ Some x
    → Tells then (next_after s x []) → IsTrue (is_known then) → AreBegun s users (set nexts n then) (n + 1)
begun_more s users nexts n x then h below here told known = record {
  all = length-set nexts n then ∙ h.all;
  each = λ u less. by_place u less (cases_eq u n);
}
  where
    by_place : (u : ℕ) → u < n + 1 → (u ≡ n) ⊎ (u ≡ n → ⊥) → IsToldOf s users u (slice_index_or (set nexts n then) u upcoming.Nothing)
    by_place u less (inl same) =
        let mine : IsToldOf s users n (slice_index_or (set nexts n then) n upcoming.Nothing) =
        subst (IsToldOf s users n) (sym (get_or-set_same nexts n then upcoming.Nothing (omega (arith, below, h.all))))
        (subst (λ (o : Option User). Tells then (option_and_then (λ (x : User). next_after s x []) o)) (sym here) told, known) in
        subst (λ (v : ℕ). IsToldOf s users v (slice_index_or (set nexts n then) v upcoming.Nothing)) (sym same) mine
    by_place u less (inr apart) = subst (IsToldOf s users u) (sym (get_or-set_other nexts n u then upcoming.Nothing apart)) (h.each u (omega (arith, less, apart)))

-- where there is no user, nothing is told
past : (g : User → Option Next) (users : List User) (nexts : List Upcoming) (u : ℕ) → length nexts ≡ length users → length users ≤ u
    → Tells (slice_index_or nexts u upcoming.Nothing) (option_and_then g (slice_get users u)) × IsTrue (is_known (slice_index_or nexts u upcoming.Nothing))
past g [] [] u all most = (record { nothing = λ e. refl; known = λ next e. absurd cc; close = λ e. absurd cc }, refl)
past g [] (n ∷ ns) u all most = absurd (omega (arith, all))
past g (x ∷ xs) [] u all most = absurd (omega (arith, all))
past g (x ∷ xs) (n ∷ ns) zero all most = absurd (omega (arith, most))
past g (x ∷ xs) (n ∷ ns) (suc u) all most = past g xs ns u (omega (arith, all)) (omega (arith, most))

pub begun_all : (s : Script) (users : List User) (nexts : List Upcoming) (n : ℕ) → AreBegun s users nexts n → length users ≤ n → AreFirst s users nexts
begun_all s users nexts n h most = record { all = h.all; each = λ u. (told u).0; known = λ u. (told u).1 }
  where
    told : (u : ℕ) → IsToldOf s users u (slice_index_or nexts u upcoming.Nothing)
    told u = by_place (cases_lt u n)
      where
        by_place : (u < n) ⊎ (n ≤ u) → IsToldOf s users u (slice_index_or nexts u upcoming.Nothing)
        by_place (inl less) = h.each u less
        by_place (inr more) = past (λ (x : User). next_after s x []) users nexts u h.all (omega (arith, most, more))

-- so many are cleared, and one more
pub cleared_more : {X : Type 0} (xs ys : List (List X)) (n : ℕ) (x : List X) → take n xs ≡ replicate n [] → n < length xs → ys ≡ set xs n x → x ≡ [] → take (n + 1) ys ≡ replicate (n + 1) []
cleared_more xs ys n x h below is none =
    let all : replicate n [] ++ [] ∷ [] ≡ replicate (n + 1) [] = grind (arith, common_steps) in
    ap (take (n + 1)) is ∙ (take_more_set xs n x below ∙ (ap (λ zs. zs ++ x ∷ []) h ∙ (ap (λ z. replicate n [] ++ z ∷ []) none ∙ all)))

-- so many have their phases, and one more
pub phases_more : (s : Script) (users : List User) (phases now : List (Option ℕ)) (n : ℕ) (x : User) (p : Option ℕ) → take n phases ≡ take n (map (phase_of s) users) → n < length phases → n < length users
    → slice_get users n ≡ Some x → p ≡ phase_of s x → now ≡ set phases n p → take (n + 1) now ≡ take (n + 1) (map (phase_of s) users)
phases_more s users phases now n x p h below user here phase is =
    let all = map (phase_of s) users in
    ap (take (n + 1)) is
    ∙ (take_more_set phases n p below
    ∙ (ap (λ (ps : List (Option ℕ)). ps ++ p ∷ []) h
    ∙ (ap (λ (q : Option ℕ). take n all ++ q ∷ []) (phase ∙ sym (phase_there s users n x here))
    ∙ sym (take_more all n None (omega (arith, user, length-map users (phase_of s)))))))
