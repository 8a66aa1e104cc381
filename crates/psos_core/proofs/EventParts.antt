-- What a user's event leaves, from the parts that it changed. States docs/levels.md, "Locks".
use Rattle.std.proofs.Common.{◌≡◌, ℕ, ◌<◌, Bool, false, true, List, [], ◌∷◌, ◌++◌, length, map, get_or, set, Option, Some, refl, sym, ap, ◌∙◌, subst, inl, inr}
use Rattle.std.specs.Prelude.{slice_get, slice_set, slice_index_or, IsTrue}
use Rattle.std.specs.Option.{option_and_then}
use Rattle.std.specs.List.{refill}
use Rattle.std.proofs.lemmas.List.{take_at, length-map, length-set, set-get_or, get_or-set_same, get_or-set_other}
use Rattle.psos_calls.specs.declared.level.Level.{Level}
use Rattle.psos_calls.specs.Levels.Calls.{LevelCall}
use Rattle.psos_calls.specs.declared.next.Next.{Next}
use Rattle.psos_calls.specs.declared.next.Next.TheVariants as nexts
use Rattle.psos_calls.specs.declared.reply.Reply.{Reply}
use Rattle.psos_calls.specs.declared.effect.Effect.{Effect}
use Rattle.psos_calls.specs.declared.step.Step.{Step}
use Rattle.psos_calls.specs.declared.lock_id.LockId.{LockId}
use Rattle.psos_calls.specs.declared.entry.Entry.{Entry}
use Rattle.psos_calls.specs.Language.Script.{Script, UserScript}
use Rattle.psos_calls.specs.Language.User.{User, place_of, after}
use Rattle.psos_calls.specs.Plan.Trace.{calls_in}
use Rattle.psos_calls.specs.Levels.{act}
use Rattle.psos_calls.specs.Levels as machines
use Rattle.psos_calls.specs.Locks.{lock_of}
use Rattle.psos_calls.specs.Locks.Held.{is_held}
use Rattle.psos_model.specs.Run.{phase_of}
use Rattle.psos_model.specs.Events.{CoreState, locks_of, trace_of, called, closed, core_step}
use Rattle.psos_laws.proofs.UnchangedPlaces.{set_apart, set_here}
use Rattle.psos_events.proofs.OpenTraces.{step_of}
use Rattle.psos_core.specs.declared.levels.Levels.{Levels}
use Rattle.psos_core.specs.declared.ongoing.Ongoing.{Ongoing}
use Rattle.psos_core.specs.System.{levels_of}
use Rattle.psos_core.specs.declared.upcoming.Upcoming.{Upcoming}
use Rattle.psos_core.specs.declared.upcoming.Upcoming.TheVariants as upcoming
use Rattle.psos_core.specs.Plans.{state_in, next_after, next_for, CanPlan, IsLeveled, closes, Tells, known_of, is_known, AreKnown, IsPlanned}
use Rattle.psos_core.specs.Events.{MayStep, HasStepped, HasStopped}
use Rattle.psos_core.proofs.EventStep.{leveled, in_place, tells_close, planned_on, known_on, next_same}
use Rattle.psos_core.proofs.EventRun.{planned_next, plans_then, step_take, step_call, step_close}

-- the lock that was looked at is the call's
pub lock_is : (s : Script) (call : LevelCall) (users : List UserScript) (lock : LockId) → users ≡ s.users → lock ≡ lock_of (length users) call → lock ≡ lock_of (length s.users) call
lock_is s call users lock same is = is ∙ ap (λ (us : List UserScript). lock_of (length us) call) same

pub held_is : (s : Script) (c : CoreState) (u : ℕ) (call : LevelCall) (users : List UserScript) (lock : LockId) (held : Bool) → users ≡ s.users → lock ≡ lock_of (length users) call
    → held ≡ is_held (locks_of c u) lock → held ≡ true → is_held (locks_of c u) (lock_of (length s.users) call) ≡ true
held_is s c u call users lock held same is told mine = ap (is_held (locks_of c u)) (sym (lock_is s call users lock same is)) ∙ (sym told ∙ mine)

-- what was written in a place is read there
pub read_back : {X : Type 0} (xs : List X) (u : ℕ) (x r : X) → u < length xs → r ≡ get_or (set xs u x) u r → r ≡ x
read_back xs u x r below is = is ∙ get_or-set_same xs u x r below

-- the step that joined a trace is the call's
pub longer_is : (s : Script) (c : CoreState) (u : ℕ) (level : Level) (call : LevelCall) → next_for s c u ≡ Some (nexts.Call level call) → (trace : List Step) → trace ≡ trace_of c u
    → trace ++ record { level = level; call = call; answer = (act c.levels call).1 } ∷ [] ≡ trace_of c u ++ step_of c.levels call ∷ []
longer_is s c u level call asked trace is =
    let G : Level → Step = λ k. record { level = k; call = call; answer = (act c.levels call).1 } in
    ap (λ (t : List Step). t ++ G level ∷ []) is ∙ ap (λ (k : Level). trace_of c u ++ G k ∷ []) (sym (subst IsLeveled asked (leveled s c u)))

-- the state is the same where its parts are, and one trace was lent
pub same_is : {B : Type 0} (l m : Levels B) (o p : Ongoing) (entries : List Entry) (u : ℕ) (lent trace : List Step)
    → levels_of m ≡ levels_of l → m.privates ≡ l.privates → p.held ≡ o.held → p.traces.items ≡ set o.traces.items u trace → trace ≡ lent → lent ≡ get_or o.traces.items u lent
    → state_in m p entries ≡ state_in l o entries
same_is {B} l m o p entries u lent trace levels privates held traces back read =
    let S : machines.Levels → List User → List (List LockId) → List (List Step) → CoreState = λ ls us hs ts. record { levels = ls; users = us; held = hs; traces = ts; entries = entries } in
    let same : p.traces.items ≡ o.traces.items = traces ∙ (ap (set o.traces.items u) (back ∙ read) ∙ set-get_or o.traces.items u lent) in
    ap (λ (ls : machines.Levels). S ls m.privates.value.items p.held p.traces.items) levels
    ∙ (ap (λ (us : List User). S (levels_of l) us p.held p.traces.items) (ap (λ ps. ps.value.items) privates)
    ∙ (ap (λ (hs : List (List LockId)). S (levels_of l) l.privates.value.items hs p.traces.items) held
    ∙ ap (λ (ts : List (List Step)). S (levels_of l) l.privates.value.items o.held ts) same))

-- the state after a call, from its parts
pub called_is : {B : Type 0} (l m : Levels B) (o p : Ongoing) (entries : List Entry) (u : ℕ) (call : LevelCall) (trace : List Step)
    → levels_of m ≡ (act (levels_of l) call).0 → m.privates ≡ l.privates → p.held ≡ o.held → p.traces.items ≡ set o.traces.items u trace
    → trace ≡ slice_index_or o.traces.items u [] ++ step_of (levels_of l) call ∷ [] → state_in m p entries ≡ called (state_in l o entries) u call
called_is {B} l m o p entries u call trace levels privates held traces longer =
    let c = state_in l o entries in
    let S : machines.Levels → List User → List (List LockId) → List (List Step) → CoreState = λ ls us hs ts. record { levels = ls; users = us; held = hs; traces = ts; entries = entries } in
    let L = (act (levels_of l) call).0 in
    ap (λ (ls : machines.Levels). S ls m.privates.value.items p.held p.traces.items) levels
    ∙ (ap (λ (us : List User). S L us p.held p.traces.items) (ap (λ ps. ps.value.items) privates)
    ∙ (ap (λ (hs : List (List LockId)). S L l.privates.value.items hs p.traces.items) held
    ∙ ap (λ (ts : List (List Step)). S L l.privates.value.items o.held ts) (traces ∙ ap (set o.traces.items u) longer)))

-- the users' parts are written back, with one that was set
pub parts_are : (users slots : List User) (u : ℕ) (left x : User) → slots ≡ users → left ≡ x → refill (length users) users (set slots u left) ≡ set users u x
parts_are users slots u left x same is =
    take_at (set slots u left) _ (length users) (length-set slots u left ∙ ap length same)
    ∙ (ap (λ (xs : List User). set xs u left) same ∙ ap (set users u) is)

-- the state after a close, from its parts
pub closed_is : {B : Type 0} (s : Script) (l m : Levels B) (o p : Ongoing) (entries more : List Entry) (u : ℕ) (x : User) (reply : Reply) (effect : Effect) (trace : List Step)
    (steps : List (Level × LevelCall)) (n k : ℕ) → levels_of m ≡ levels_of l → m.privates.value.items ≡ set l.privates.value.items u (after s x effect) → p.held ≡ set o.held u []
    → p.traces.items ≡ set o.traces.items u trace → trace ≡ [] → steps ≡ calls_in (slice_index_or o.traces.items u []) → (n, k) ≡ place_of x
    → more ≡ entries ++ record { user = u; n = n; m = k; steps = steps; reply = reply } ∷ [] → state_in m p more ≡ closed s (state_in l o entries) u reply effect x
closed_is {B} s l m o p entries more u x reply effect trace steps n k levels users held traces none calls place entry =
    let S : machines.Levels → List User → List (List LockId) → List (List Step) → List Entry → CoreState = λ ls us hs ts es. record { levels = ls; users = us; held = hs; traces = ts; entries = es } in
    let U = set l.privates.value.items u (after s x effect) in
    let G : ℕ × ℕ → List (Level × LevelCall) → List Entry = λ at cs. entries ++ record { user = u; n = at.0; m = at.1; steps = cs; reply = reply } ∷ [] in
    let all : more ≡ G (place_of x) (calls_in (slice_index_or o.traces.items u [])) = entry ∙ (ap (λ (at : ℕ × ℕ). G at steps) place ∙ ap (G (place_of x)) calls) in
    ap (λ (ls : machines.Levels). S ls m.privates.value.items p.held p.traces.items more) levels
    ∙ (ap (λ (us : List User). S (levels_of l) us p.held p.traces.items more) users
    ∙ (ap (λ (hs : List (List LockId)). S (levels_of l) U hs p.traces.items more) held
    ∙ (ap (λ (ts : List (List Step)). S (levels_of l) U (set o.held u []) ts more) (traces ∙ ap (set o.traces.items u) none)
    ∙ ap (λ (es : List Entry). S (levels_of l) U (set o.held u []) (set o.traces.items u []) es) all)))

module _ (s : Script) (c : CoreState) (o : Ongoing) (u : ℕ) (may : MayStep s c o u) where
  planned : IsPlanned s c o.nexts.items o.phases
  planned = may.planned

  pub below : u < length c.users
  below = subst (λ (n : ℕ). u < n) (sym planned.users) may.goes.user

  pub holds : u < length c.held
  holds = subst (λ (n : ℕ). u < n) (sym planned.held) may.goes.user

  pub traced : u < length c.traces
  traced = subst (λ (n : ℕ). u < n) (sym planned.traces) may.goes.user

  -- it has a place among what plans do next
  pub placed : u < length o.nexts.items
  placed = subst (λ (n : ℕ). u < n) (sym planned.all) may.goes.user

  -- and a phase
  pub phased : u < length o.phases
  phased = subst (λ (n : ℕ). u < n) (sym (ap length planned.phases-are ∙ (length-map c.users (phase_of s) ∙ planned.users))) may.goes.user

  -- what is kept goes with the state
  goes_with : (e d : CoreState) (p : Ongoing) (all : List Upcoming) (phases : List (Option ℕ)) → d ≡ e → p.nexts.items ≡ all → p.phases ≡ phases → IsPlanned s e all phases → IsPlanned s d p.nexts.items p.phases
  goes_with e d p all phases same nexts now h =
      let P : CoreState → Type 0 = λ z. IsPlanned s z p.nexts.items p.phases in
      let N : List Upcoming → Type 0 = λ ns. IsPlanned s e ns p.phases in
      let F : List (Option ℕ) → Type 0 = λ q. IsPlanned s e all q in
      subst P (sym same) (subst N (sym nexts) (subst F (sym now) h))

  -- nothing has changed
  pub stayed : (d : CoreState) (p : Ongoing) → d ≡ c → p.nexts.items ≡ o.nexts.items → p.phases ≡ o.phases → HasStopped s c u d p
  stayed d p same nexts now = record { state = inl same; planned = goes_with c d p o.nexts.items o.phases same nexts now planned }

  -- a lock was taken
  module _ (level : Level) (call : LevelCall) (asked : next_for s c u ≡ Some (nexts.Call level call)) where
    abbrev lock_taken : CoreState
    lock_taken = record c { held = slice_set c.held u (lock_of (length s.users) call ∷ locks_of c u) }

    pub took : is_held (locks_of c u) (lock_of (length s.users) call) ≡ false → (d : CoreState) (p : Ongoing) → d ≡ lock_taken → p.nexts.items ≡ o.nexts.items → p.phases ≡ o.phases → HasStepped s c u d p
    took free d p same nexts now = record {
      state = same ∙ sym (step_take s c o u may level call asked free);
      planned = goes_with lock_taken d p o.nexts.items o.phases same nexts now (record {
        users = planned.users;
        held = length-set c.held u (lock_of (length s.users) call ∷ locks_of c u) ∙ planned.held;
        traces = planned.traces;
        all = planned.all;
        each = planned.each;
        phases-are = planned.phases-are;
      });
      known = subst AreKnown (sym nexts) may.known;
    }

    -- a call was made, which joined the trace
    module _ (mine : is_held (locks_of c u) (lock_of (length s.users) call) ≡ true) (x : User) (here : slice_get c.users u ≡ Some x) (trace : List Step) (longer : trace ≡ trace_of c u ++ step_of c.levels call ∷ []) where
      abbrev call_made : CoreState
      call_made = called c u call

      trace_now : trace_of call_made u ≡ trace
      trace_now = get_or-set_same c.traces u (trace_of c u ++ step_of c.levels call ∷ []) [] traced ∙ sym longer

      -- what comes next can be told
      pub made_plan : CanPlan s x trace
      made_plan =
          let P : CoreState → Type 0 = λ e. slice_get e.users u ≡ Some x → CanPlan s x (trace_of e u) in
          subst (λ (t : List Step). CanPlan s x t) trace_now (subst P (step_call s c o u may level call asked mine) (plans_then s c o u may u x) here)

      next_then : next_for s call_made u ≡ next_after s x trace
      next_then =
          ap (λ (o : Option User). option_and_then (λ (z : User). next_after s z (trace_of call_made u)) o) here
          ∙ ap (λ (t : List Step). next_after s x t) trace_now

      -- and is what comes next after the event
      pub made_next : next_for s (core_step s c u) u ≡ next_after s x trace
      made_next = ap (λ (e : CoreState). next_for s e u) (step_call s c o u may level call asked mine) ∙ next_then

      module _ (d : CoreState) (p : Ongoing) (then : Upcoming) (same : d ≡ call_made) (told : Tells then (next_after s x trace)) (written : p.nexts.items ≡ set o.nexts.items u then) (now : p.phases ≡ o.phases) where
        made_planned : IsPlanned s d p.nexts.items p.phases
        made_planned =
            goes_with call_made d p (set o.nexts.items u then) o.phases same written now
            (planned_on s c call_made o.nexts.items o.phases u then planned.all (λ v apart. planned.each v) planned.users planned.held
            (length-set c.traces u (trace_of c u ++ step_of c.levels call ∷ []) ∙ planned.traces) placed
            (λ v apart. next_same s c call_made v refl (get_or-set_other c.traces u v (trace_of c u ++ step_of c.levels call ∷ []) [] apart))
            (subst (Tells then) (sym next_then) told) planned.phases-are)

        made_state : d ≡ core_step s c u
        made_state = same ∙ sym (step_call s c o u may level call asked mine)

        pub made : IsTrue (is_known then) → HasStepped s c u d p
        made known = record {
          state = made_state;
          planned = made_planned;
          known = subst AreKnown (sym written) (known_on o.nexts.items u then placed (λ v apart. may.known v) known);
        }

        pub made_stopped : HasStopped s c u d p
        made_stopped = record { state = inr made_state; planned = made_planned }

  -- what was kept says that the plan closes
  pub closing : (r q : Upcoming) (next : Next) (reply : Reply) (effect : Effect) → r ≡ get_or o.nexts.items u r → q ≡ r → q ≡ upcoming.Known next → next ≡ nexts.Close reply effect
      → next_for s c u ≡ Some (nexts.Close reply effect)
  closing r q next reply effect read same is close =
      sym (planned_next s c o u may)
      ∙ (ap known_of (sym (in_place o.nexts.items u r upcoming.Nothing placed read) ∙ (sym same ∙ is)) ∙ ap (λ (n : Next). Some n) close)

  -- the request was closed
  module _ (reply : Reply) (effect : Effect) (asked : next_for s c u ≡ Some (nexts.Close reply effect)) where
    -- or not yet: how it closes was taken from where it was kept
    pub waits : (d : CoreState) (p : Ongoing) → d ≡ c → p.nexts.items ≡ set o.nexts.items u upcoming.Close → p.phases ≡ o.phases → HasStopped s c u d p
    waits d p same nexts now = record {
      state = inl same;
      planned = goes_with c d p (set o.nexts.items u upcoming.Close) o.phases same nexts now
          (planned_on s c c o.nexts.items o.phases u upcoming.Close planned.all (λ v apart. planned.each v) planned.users planned.held planned.traces placed (λ v apart. refl)
          (tells_close (next_for s c u) (ap closes asked)) planned.phases-are);
    }

    module _ (x : User) (here : slice_get c.users u ≡ Some x) where
      abbrev request_closed : CoreState
      request_closed = closed s c u reply effect x

      user_then : slice_get request_closed.users u ≡ Some (after s x effect)
      user_then = set_here c.users u (after s x effect) x here

      trace_then : trace_of request_closed u ≡ []
      trace_then = get_or-set_same c.traces u [] [] traced

      -- what comes next can be told
      pub shut_plan : CanPlan s (after s x effect) []
      shut_plan =
          let P : CoreState → Type 0 = λ e. slice_get e.users u ≡ Some (after s x effect) → CanPlan s (after s x effect) (trace_of e u) in
          subst (λ (t : List Step). CanPlan s (after s x effect) t) trace_then (subst P (step_close s c o u may reply effect asked x here) (plans_then s c o u may u (after s x effect)) user_then)

      pub shut : (d : CoreState) (p : Ongoing) (then : Upcoming) → d ≡ request_closed → Tells then (next_after s (after s x effect) []) → IsTrue (is_known then)
          → p.nexts.items ≡ set (set o.nexts.items u upcoming.Close) u then → p.phases ≡ map (phase_of s) request_closed.users → HasStepped s c u d p
      shut d p then same told known nexts now =
          let gone = set o.nexts.items u upcoming.Close in
          let still : u < length gone = subst (λ (n : ℕ). u < n) (sym (length-set o.nexts.items u upcoming.Close)) placed in
          let next : next_for s request_closed u ≡ next_after s (after s x effect) [] =
          ap (λ (o : Option User). option_and_then (λ (z : User). next_after s z (trace_of request_closed u)) o) user_then
          ∙ ap (λ (t : List Step). next_after s (after s x effect) t) trace_then in
          record {
            state = same ∙ sym (step_close s c o u may reply effect asked x here);
            planned = goes_with request_closed d p (set gone u then) (map (phase_of s) request_closed.users) same nexts now
                (planned_on s c request_closed gone (map (phase_of s) request_closed.users) u then (length-set o.nexts.items u upcoming.Close ∙ planned.all)
                (λ v apart. subst (λ (up : Upcoming). Tells up (next_for s c v)) (sym (get_or-set_other o.nexts.items u v upcoming.Close upcoming.Nothing apart)) (planned.each v))
                (length-set c.users u (after s x effect) ∙ planned.users) (length-set c.held u [] ∙ planned.held) (length-set c.traces u [] ∙ planned.traces) still
                (λ v apart. next_same s c request_closed v (set_apart c.users u v (after s x effect) apart) (get_or-set_other c.traces u v [] [] apart))
                (subst (Tells then) (sym next) told) refl);
            known = subst AreKnown (sym nexts) (known_on gone u then still
                (λ v apart. subst (λ (up : Upcoming). IsTrue (is_known up)) (sym (get_or-set_other o.nexts.items u v upcoming.Close upcoming.Nothing apart)) (may.known v)) known);
          }
