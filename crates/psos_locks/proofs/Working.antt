-- A request at work, as its thread knows it. States docs/levels.md, "Locks" and "Journal".
use Rattle.std.proofs.Common.{◌≡◌, ℕ, ◌<◌, ◌≤◌, Bool, true, false, List, [], ◌∷◌, ◌++◌, length, append-nil, Some, refl, ap, sym, ◌∙◌, subst, arith}
use Rattle.std.specs.Prelude.{slice_get, IsTrue}
use Rattle.std.proofs.lemmas.Bool.{or_left, true≢false}
use Rattle.psos_calls.specs.declared.entry.Entry.{Entry}
use Rattle.psos_calls.specs.declared.lock_id.LockId.{LockId}
use Rattle.psos_calls.specs.declared.level.Level.{Level}
use Rattle.psos_calls.specs.declared.level.Level.TheVariants.{L0}
use Rattle.psos_calls.specs.declared.level_call.LevelCall.TheVariants.{Fresh}
use Rattle.psos_calls.specs.declared.next.Next.{Next}
use Rattle.psos_calls.specs.declared.next.Next.TheVariants as nexts
use Rattle.psos_calls.specs.declared.reply.Reply.{Reply}
use Rattle.psos_calls.specs.declared.reply.Reply.TheVariants as replies
use Rattle.psos_calls.specs.declared.effect.Effect.{Effect}
use Rattle.psos_calls.specs.declared.effect.Effect.TheVariants.{Nothing}
use Rattle.psos_calls.specs.declared.request.Request.{Request}
use Rattle.psos_calls.specs.declared.step.Step.{Step}
use Rattle.psos_calls.specs.Language.Script.{Script, IsWellFormed}
use Rattle.psos_calls.specs.Language.User.{User, next_request}
use Rattle.psos_calls.specs.Levels.{Levels, level_of}
use Rattle.psos_calls.specs.Levels.Calls.{LevelCall}
use Rattle.psos_calls.specs.Levels.Lists.{HasLists}
use Rattle.psos_calls.specs.Locks.{lock_of}
use Rattle.psos_calls.specs.Locks.Held.{same_lock, is_held, are_earlier}
use Rattle.psos_calls.specs.Plan.{Plan, Ask, Close}
use Rattle.psos_calls.specs.Plan.Requests.{plan_of}
use Rattle.psos_calls.specs.Plan.Trace.{followed, next_of, IsTraceOf}
use Rattle.psos_model.specs.Flat.Boot.{boot}
use Rattle.psos_model.specs.Replay.{boot_system}
use Rattle.psos_model.specs.Events.Serial.{IsCoreStart}
use Rattle.psos_agree.proofs.LocksTaken.{same_lock_refl}
use Rattle.psos_journal.specs.Views.{Side}
use Rattle.psos_events.proofs.EventConditions.{boot_is_core_start}
use Rattle.psos_histories.specs.Records.{replay_in}
use Rattle.psos_histories.specs.Grips.{Grip, locks_of, HaveMet}
use Rattle.psos_histories.specs.Requests.{IsWorking, called, step_in, CanIn, MayTake, IsAble}
use Rattle.psos_histories.proofs.Falling.{plans_fall}
use Rattle.psos_histories.proofs.OwnParts.{users_stay}
use Rattle.psos_histories.proofs.RecordLimits.{records_have_users, records_have_lists}
use Rattle.psos_histories.proofs.RequestConditions.{requests_are_able}
use Rattle.psos_histories.proofs.Requests.{requests_begin, requests_go_on, locks_are_taken, calls_are_made}
use Rattle.psos_locks.specs.Grips.{IsTaken}
use Rattle.psos_locks.specs.Runs.{IsRun, IsOwn, Knows, HasLooked, InWork, AsksFor}

module _ (s : Script) (well : IsWellFormed s) where
  pub start : IsCoreStart s (boot_system s) (boot s)
  start = boot_is_core_start s well

  -- ---- a look

  -- the user's own part is the same after all entries that begin with what its member knows
  same_part : (side : Side Entry) (x : User) (log more : List (Entry × ℕ)) → IsRun s log → IsRun s more → Knows side log → Knows side more
      → slice_get (replay_in s (boot_system s) log).users side.number ≡ Some x → slice_get (replay_in s (boot_system s) more).users side.number ≡ Some x
  same_part side x log more h h2 knows knows2 here =
      let y = boot_system s in
      let u = side.number in
      let below = records_have_users s y (boot s) log start h u x here in
      let first = users_stay s y u side.past log below h.all_named knows.prefix knows.met in
      let second = users_stay s y u side.past more below h2.all_named knows2.prefix knows2.met in
      second ∙ (sym first ∙ here)

  pub again : (side : Side Entry) (x : User) (request : Request) (grips : List Grip) (trace : List Step) (w : InWork s side x request grips trace) (more : List (Entry × ℕ)) → IsRun s more → Knows side more → HaveMet more grips
      → IsWorking s (boot_system s) (boot s) side.number x (plan_of x request) grips trace more
  again side x request grips trace w more recorded knows met =
      requests_go_on s (boot_system s) (boot s) side.number x (plan_of x request) grips trace w.log more start w.working recorded
      (same_part side x w.log more w.working.recorded recorded w.knows knows w.working.here) met

  -- it begins where its user's member knows
  pub begins : (side : Side Entry) (x : User) (request : Request) (grips : List Grip) (trace : List Step) → IsOwn s side x → grips ≡ [] → trace ≡ [] → InWork s side x request grips trace
  begins side x request grips trace own none empty =
      let w = requests_begin s (boot_system s) (boot s) side.number x (plan_of x request) side.past own.recorded own.here (plans_fall (length s.users) x request) in
      let at : InWork s side x request [] [] = record { log = side.past; knows = record { prefix = ([], append-nil side.past); met = refl }; working = w } in
      subst (λ (gs : List Grip). InWork s side x request gs trace) (sym none) (subst (λ (ts : List Step). InWork s side x request [] ts) (sym empty) at)

  -- ---- a lock that is taken

  module _ (side : Side Entry) (x : User) (request : Request) (grips : List Grip) (trace : List Step) (w : InWork s side x request grips trace) (level : Level) (call : LevelCall)
      (asked : AsksFor (followed (plan_of x request) trace) level call) (users : ℕ) (all : users ≡ length s.users) (free : is_held (locks_of grips) (lock_of users call) ≡ false) where
    may : (log : List (Entry × ℕ)) → IsWorking s (boot_system s) (boot s) side.number x (plan_of x request) grips trace log
        → MayTake s (boot_system s) (boot s) side.number x (plan_of x request) grips trace log (lock_of users call)
    may log now =
        let not : is_held (locks_of grips) (lock_of (length s.users) call) ≡ false = ap (λ (n : ℕ). is_held (locks_of grips) (lock_of n call)) (sym all) ∙ free in
        subst (λ (n : ℕ). MayTake s (boot_system s) (boot s) side.number x (plan_of x request) grips trace log (lock_of n call)) (sym all)
        (locks_are_taken s (boot_system s) (boot s) side.number x (plan_of x request) grips trace log call asked.go start now asked.is not)

    pub is_later : IsTrue (are_earlier (locks_of grips) (lock_of users call))
    is_later = (may w.log w.working).later

    pub takes : (more : List Grip) → IsTaken s (lock_of users call) grips more → HasLooked s side more → InWork s side x request more trace
    takes more taken looked =
        let g = taken.grip in
        let at : HasLooked s side (g ∷ grips) = subst (HasLooked s side) taken.first looked in
        let now = again side x request grips trace w at.log at.recorded at.knows at.met.1 in
        subst (λ (gs : List Grip). InWork s side x request gs trace) (sym taken.first)
        (record { log = at.log; knows = at.knows; working = (may at.log now).taken g taken.same taken.free taken.whole at.met.0 })

  pub taken_held : (grips more : List Grip) (lock : LockId) → IsTaken s lock grips more → is_held (locks_of more) lock ≡ true
  taken_held grips more lock taken =
      let g = taken.grip in
      let first : same_lock g.lock lock ≡ true = ap (λ (k : LockId). same_lock k lock) taken.same ∙ same_lock_refl lock in
      subst (λ (gs : List Grip). is_held (locks_of gs) lock ≡ true) (sym taken.first) (or_left (same_lock g.lock lock) (is_held (locks_of grips) lock) first)

  -- ---- a call

  -- the call that the plan asks for may be made, and what it leaves
  pub record MayCall (side : Side Entry) (x : User) (request : Request) (grips : List Grip) (trace : List Step) (call : LevelCall) (lock : LockId) : Type 0 where
    pub can : CanIn grips lock call
    pub room : length trace < 64
    pub next : InWork s side x request (called grips lock call) (trace ++ step_in grips lock call ∷ [])

  module _ (side : Side Entry) (x : User) (request : Request) (grips : List Grip) (trace : List Step) (w : InWork s side x request grips trace) (asks : next_request s x ≡ Some request) where
    able : IsAble s x request grips trace
    able = requests_are_able s (boot_system s) (boot s) side.number x request grips trace w.log start w.working asks

    pub few : length trace ≤ 44
    few = able.few

    pub may_call : (level : Level) (call : LevelCall) → AsksFor (followed (plan_of x request) trace) level call → (users : ℕ) → users ≡ length s.users → is_held (locks_of grips) (lock_of users call) ≡ true
        → MayCall side x request grips trace call (lock_of users call)
    may_call level call asked users all held =
        let mine : is_held (locks_of grips) (lock_of (length s.users) call) ≡ true = ap (λ (n : ℕ). is_held (locks_of grips) (lock_of n call)) (sym all) ∙ held in
        subst (λ (n : ℕ). MayCall side x request grips trace call (lock_of n call)) (sym all)
        (record {
          can = able.can call asked.go asked.is;
          room = omega (arith, able.few);
          next = record {
            log = w.log;
            knows = w.knows;
            working = calls_are_made s (boot_system s) (boot s) side.number x (plan_of x request) grips trace w.log call asked.go start w.working asked.is mine;
          };
        })

    -- the plan may be asked for what comes next
    pub record MayAsk : Type 0 where
      pub levels : Levels
      pub trace_is : IsTraceOf (plan_of x request) levels trace
      pub lists : HasLists levels

    pub may_ask : MayAsk
    may_ask = record {
      levels = (replay_in s (boot_system s) w.log).levels;
      trace_is = w.working.trace_is;
      lists = records_have_lists s (boot_system s) (boot s) w.log start w.working.recorded;
    }

-- ---- what a plan does next

abbrev level_next : Next → Level
level_next (nexts.Call level call) = level
level_next (nexts.Close reply effect) = L0

abbrev call_next : Next → LevelCall
call_next (nexts.Call level call) = call
call_next (nexts.Close reply effect) = Fresh

abbrev is_call : Next → Bool
is_call (nexts.Call level call) = true
is_call (nexts.Close reply effect) = false

pub asks_for : (plan : Plan) (level : Level) (call : LevelCall) → nexts.Call level call ≡ next_of plan → AsksFor plan level call
asks_for (Close reply effect) level call e = absurd (true≢false (ap is_call e))
asks_for (Ask c go) level call e =
    let same : call ≡ c = ap call_next e in
    record { go = go; is = ap (λ (d : LevelCall). Ask d go) (sym same); level_is = ap level_of same ∙ sym (ap level_next e) }

abbrev plan_of_next : Next → Plan
plan_of_next (nexts.Close reply effect) = Close reply effect
plan_of_next (nexts.Call level call) = Ask call (λ a. Close replies.Fine Nothing)

pub closes_so : (plan : Plan) (reply : Reply) (effect : Effect) → nexts.Close reply effect ≡ next_of plan → plan ≡ Close reply effect
closes_so (Close r x) reply effect e = ap plan_of_next (sym e)
closes_so (Ask c go) reply effect e = absurd (true≢false (sym (ap is_call e)))
