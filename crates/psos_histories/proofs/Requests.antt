-- A request at work, while other requests close. States docs/levels.md, "Locks".
use Rattle.std.proofs.Common.{◌≡◌, ℕ, ◌<◌, ◌||◌, Bool, true, false, cond, List, [], ◌∷◌, ◌++◌, length, Some, refl, sym, ap, ◌∙◌, inl, inr, subst}
use Rattle.std.specs.Prelude.{slice_get}
use Rattle.std.proofs.lemmas.Bool.{true≢false, or_cases, or_parts, or_left, or_right}
use Rattle.psos_calls.specs.declared.lock_id.LockId.{LockId}
use Rattle.psos_calls.specs.declared.step.Step.{Step}
use Rattle.psos_calls.specs.declared.entry.Entry.{Entry}
use Rattle.psos_calls.specs.Language.Script.{Script}
use Rattle.psos_calls.specs.Language.User.{User}
use Rattle.psos_calls.specs.Levels.Calls.{LevelCall}
use Rattle.psos_calls.specs.Levels.Answers.{LevelAnswer}
use Rattle.psos_calls.specs.Levels.{Levels, level_of, act}
use Rattle.psos_calls.specs.Locks.{lock_of}
use Rattle.psos_calls.specs.Locks.Held.{is_lock, same_lock, is_held}
use Rattle.psos_calls.specs.Plan.{Plan, Ask}
use Rattle.psos_calls.specs.Plan.Trace.{followed, IsTraceOf}
use Rattle.psos_model.specs.Flat.{Flat}
use Rattle.psos_model.specs.Replay.{System}
use Rattle.psos_model.specs.Events.Serial.{IsCoreStart, traced}
use Rattle.psos_journal.specs.Members.{named}
use Rattle.psos_journal.specs.Views.{list_of}
use Rattle.psos_agree.proofs.LocksTaken.{same_lock_refl}
use Rattle.psos_events.proofs.MailboxRows.{NoOthers}
use Rattle.psos_events.proofs.LockScope.{Same, same_lock_is}
use Rattle.psos_events.proofs.OpenTraces.{AreLocks, Covers, covers_more, covers_wider, traced_more, traced_strangers, traced_stays, Seen, seen_traced, trace_seen, step_of, trace_more, followed_none, followed_more}
use Rattle.psos_histories.specs.Pieces.{Piece, piece_at, act_piece}
use Rattle.psos_histories.specs.Names.{member_of}
use Rattle.psos_histories.specs.Records.{order_in, replay_in, IsRecorded, left_by_history}
use Rattle.psos_histories.specs.Falling.{Falls}
use Rattle.psos_histories.specs.Grips.{Grip, locks_of, IsMatched, HasMet, HaveMet, AreIn}
use Rattle.psos_histories.specs.Requests.{AreUnder, IsWorking, called_one, called, answer_in, step_in, MayTake, RequestsBegin, RequestsGoOn, LocksAreTaken, CallsAreMade}
use Rattle.psos_histories.proofs.Pieces.{same_piece, piece_same, called_alone, stays_alone}
use Rattle.psos_histories.proofs.LockHistories.{replay_strangers, histories_by_lock}
use Rattle.psos_histories.proofs.Falling.{later, falls_taken, falls_called}

-- ---- locks

covers_of : (n : ℕ) (locks : List LockId) (trace : List Step) → AreUnder n locks trace → Covers n locks trace
covers_of n locks [] h = tt
covers_of n locks (t ∷ trace) h = (h.0, covers_of n locks trace h.1)

under_of : (n : ℕ) (locks : List LockId) (trace : List Step) → Covers n locks trace → AreUnder n locks trace
under_of n locks [] h = tt
under_of n locks (t ∷ trace) h = (h.0, under_of n locks trace h.1)

-- a lock that is held is one of these
pub held_lock : (n : ℕ) (l : Levels) (grips : List Grip) → AreIn n l grips → (k : LockId) → is_held (locks_of grips) k ≡ true → is_lock n k ≡ true
held_lock n l [] h k held = absurd (true≢false (sym held))
held_lock n l (g ∷ grips) h k held = elim (or_cases (same_lock g.lock k) (is_held (locks_of grips) k) held) [
  | inl same ↦ subst (λ (j : LockId). is_lock n j ≡ true) (same_lock_is g.lock k same) h.0.lock
  | inr old ↦ held_lock n l grips h.3 k old
]

are_locks : (n : ℕ) → 0 < n → (l : Levels) (grips : List Grip) → AreIn n l grips → AreLocks n (locks_of grips)
are_locks n some l grips h = record { some = some; each = held_lock n l grips h }

pub held_here : (g : Grip) (grips : List Grip) → is_held (locks_of (g ∷ grips)) g.lock ≡ true
held_here g grips = or_left (same_lock g.lock g.lock) (is_held (locks_of grips) g.lock) (same_lock_refl g.lock)

pub held_more : (g : Grip) (grips : List Grip) (k : LockId) → is_held (locks_of grips) k ≡ true → is_held (locks_of (g ∷ grips)) k ≡ true
held_more g grips k h = or_right (same_lock g.lock k) (is_held (locks_of grips) k) h

-- ---- the levels of a replay, for those who hold some locks

module _ (s : Script) (y : System) (f : Flat) (start : IsCoreStart s y f) where
  abbrev n : ℕ
  n = length s.users

  some : 0 < length s.users
  some = start.well_formed.some_users

  -- what lies under a lock after the replay of entries that its member has met
  met_piece : (log : List (Entry × ℕ)) → IsRecorded s y f log → (g : Grip) → IsMatched n g → HasMet log g
      → piece_at g.lock (replay_in s y log).levels ≡ left_by_history s y g.lock (list_of g.side)
  met_piece log h g matched met =
      let lists : named (member_of n g.lock) log ≡ list_of g.side = ap (λ (i : ℕ). named i log) (sym matched.number) ∙ sym met in
      histories_by_lock s y f log start h g.lock matched.lock ∙ ap (left_by_history s y g.lock) lists

  module _ (log more : List (Entry × ℕ)) (h : IsRecorded s y f log) (h2 : IsRecorded s y f more) where
    same_under : (l : Levels) (grips : List Grip) → AreIn n l grips → HaveMet log grips → HaveMet more grips → (k : LockId) → is_held (locks_of grips) k ≡ true
        → Same k (replay_in s y log).levels (replay_in s y more).levels
    same_under l [] are met met2 k held = absurd (true≢false (sym held))
    same_under l (g ∷ grips) are met met2 k held = elim (or_cases (same_lock g.lock k) (is_held (locks_of grips) k) held) [
      | inl same ↦
          subst (λ (j : LockId). Same j (replay_in s y log).levels (replay_in s y more).levels) (same_lock_is g.lock k same)
          (piece_same g.lock (replay_in s y log).levels (replay_in s y more).levels (met_piece log h g are.0 met.0 ∙ sym (met_piece more h2 g are.0 met2.0)))
      | inr old ↦ same_under l grips are.3 met.1 met2.1 k old
    ]

    seen : (l : Levels) (grips : List Grip) → AreIn n l grips → HaveMet log grips → HaveMet more grips → Seen n (locks_of grips) (replay_in s y log).levels (replay_in s y more).levels
    seen l grips are met met2 = record {
      under = same_under l grips are met met2;
      first = replay_strangers s y f start (order_in log);
      second = replay_strangers s y f start (order_in more);
    }

  are_in_other : (grips : List Grip) (a b : Levels) → ((k : LockId) → is_held (locks_of grips) k ≡ true → Same k a b) → AreIn n a grips → AreIn n b grips
  are_in_other [] a b same are = tt
  are_in_other (g ∷ grips) a b same are = (
    are.0,
    are.1 ∙ same_piece (same g.lock (held_here g grips)),
    are.2,
    are_in_other grips a b (λ k held. same k (held_more g grips k held)) are.3,
  )

  -- ---- others closed

  module _ (u : ℕ) (x : User) (plan : Plan) (grips : List Grip) (trace : List Step) (log : List (Entry × ℕ)) (w : IsWorking s y f u x plan grips trace log) where
    abbrev base : Levels
    base = (replay_in s y log).levels

    goes_on : (more : List (Entry × ℕ)) → IsRecorded s y f more → slice_get (replay_in s y more).users u ≡ Some x → HaveMet more grips → IsWorking s y f u x plan grips trace more
    goes_on more h here met =
        let now = (replay_in s y more).levels in
        let locks = are_locks n some (traced base trace) grips w.grips_are in
        let covers = covers_of n (locks_of grips) trace w.under in
        let both = seen log more w.recorded h (traced base trace) grips w.grips_are w.met met in
        record {
          recorded = h;
          here = here;
          met = met;
          trace_is = trace_seen n (locks_of grips) plan base now trace locks covers both w.trace_is;
          under = w.under;
          grips_are = are_in_other grips (traced base trace) (traced now trace) (seen_traced n (locks_of grips) base now trace locks covers both).under w.grips_are;
          falls = w.falls;
        }

    -- ---- a lock is taken

    module _ (call : LevelCall) (go : LevelAnswer → Plan) (next : followed plan trace ≡ Ask call go) (apart : is_held (locks_of grips) (lock_of n call) ≡ false) where
      asks : Falls n (locks_of grips) (Ask call go)
      asks = subst (Falls n (locks_of grips)) next w.falls

      takes : (g : Grip) → g.lock ≡ lock_of n call → IsMatched n g → g.piece ≡ left_by_history s y g.lock (list_of g.side) → HasMet log g → IsWorking s y f u x plan (g ∷ grips) trace log
      takes g same matched whole met =
          let covers = covers_of n (locks_of grips) trace w.under in
          let free : is_held (locks_of grips) g.lock ≡ false = ap (is_held (locks_of grips)) same ∙ apart in
          let stays : Same g.lock (traced base trace) base = traced_stays n (locks_of grips) base trace g.lock some covers matched.lock free in
          let falls : Falls n (lock_of n call ∷ locks_of grips) (Ask call go) = falls_taken n (locks_of grips) call go asks apart in
          record {
            recorded = w.recorded;
            here = w.here;
            met = (met, w.met);
            trace_is = w.trace_is;
            under = under_of n (locks_of (g ∷ grips)) trace (covers_wider n g.lock (locks_of grips) trace covers);
            grips_are = (matched, whole ∙ sym (met_piece log w.recorded g matched met) ∙ sym (same_piece stays), free, w.grips_are);
            falls = subst (λ (k : LockId). Falls n (k ∷ locks_of grips) (followed plan trace)) (sym same) (subst (Falls n (lock_of n call ∷ locks_of grips)) (sym next) falls);
          }

      may_take : MayTake s y f u x plan grips trace log (lock_of n call)
      may_take = record {
        later = later n (locks_of grips) call go asks apart;
        taken = λ g same free whole met. takes g same free.matched (free.whole whole) met;
      }

  -- ---- a call is made

  -- under its lock it is the call of the levels
  record IsAnswered (l : Levels) (grips : List Grip) (call : LevelCall) : Type 0 where
    answer : answer_in grips (lock_of n call) call ≡ (act l call).1
    grips_are : AreIn n (act l call).0 (called grips (lock_of n call) call)

  called_locks : (grips : List Grip) (k : LockId) (call : LevelCall) → locks_of (called grips k call) ≡ locks_of grips
  called_locks [] k call = refl
  called_locks (g ∷ grips) k call = by_test (called_locks grips k call) (same_lock g.lock k)
    where
      by_test : locks_of (called grips k call) ≡ locks_of grips → (t : Bool) → locks_of (cond t (called_one g call ∷ grips) (g ∷ called grips k call)) ≡ g.lock ∷ locks_of grips
      by_test rest true = refl
      by_test rest false = ap (λ (ks : List LockId). g.lock ∷ ks) rest

  called_met : (log : List (Entry × ℕ)) (grips : List Grip) (k : LockId) (call : LevelCall) → HaveMet log grips → HaveMet log (called grips k call)
  called_met log [] k call h = tt
  called_met log (g ∷ grips) k call h = by_test (called_met log grips k call h.1) (same_lock g.lock k)
    where
      by_test : HaveMet log (called grips k call) → (t : Bool) → HaveMet log (cond t (called_one g call ∷ grips) (g ∷ called grips k call))
      by_test rest true = (h.0, h.1)
      by_test rest false = (h.0, rest)

  -- the locks that are not the call's
  others_in : (l : Levels) (call : LevelCall) (grips : List Grip) → is_held (locks_of grips) (lock_of n call) ≡ false → AreIn n l grips → AreIn n (act l call).0 grips
  others_in l call [] none h = tt
  others_in l call (g ∷ grips) none h =
      let both = or_parts (same_lock g.lock (lock_of n call)) (is_held (locks_of grips) (lock_of n call)) none in (
        h.0,
        h.1 ∙ sym (stays_alone n some l call g.lock h.0.lock both.0),
        h.2,
        others_in l call grips both.1 h.3,
      )

  answered : (l : Levels) (call : LevelCall) → NoOthers n l.boxes → (grips : List Grip) → is_held (locks_of grips) (lock_of n call) ≡ true → AreIn n l grips → IsAnswered l grips call
  answered l call none [] held h = absurd (true≢false (sym held))
  answered l call none (g ∷ grips) held h = by_test (answered l call none grips) (same_lock g.lock (lock_of n call)) refl
    where
      by_test : (is_held (locks_of grips) (lock_of n call) ≡ true → AreIn n l grips → IsAnswered l grips call) → (t : Bool) → same_lock g.lock (lock_of n call) ≡ t → IsAnswered l (g ∷ grips) call
      by_test rest true e =
          let k = lock_of n call in
          let same : g.lock ≡ k = same_lock_is g.lock k e in
          let alone = called_alone n l call none in
          let piece : g.piece ≡ piece_at k l = h.1 ∙ ap (λ (j : LockId). piece_at j l) same in
          let after : (act_piece g.piece call).0 ≡ piece_at g.lock (act l call).0 =
          ap (λ (p : Piece). (act_piece p call).0) piece ∙ sym alone.piece ∙ ap (λ (j : LockId). piece_at j (act l call).0) (sym same) in
          let free : is_held (locks_of grips) k ≡ false = ap (is_held (locks_of grips)) (sym same) ∙ h.2 in
          let now : AreIn n (act l call).0 (called_one g call ∷ grips) = (record { lock = h.0.lock; number = h.0.number }, after, h.2, others_in l call grips free h.3) in
          record {
            answer = ap (λ (t : Bool). cond t (act_piece g.piece call).1 (answer_in grips k call)) e ∙ ap (λ (p : Piece). (act_piece p call).1) piece ∙ sym alone.answer;
            grips_are = subst (λ (t : Bool). AreIn n (act l call).0 (cond t (called_one g call ∷ grips) (g ∷ called grips k call))) (sym e) now;
          }
      by_test rest false e =
          let k = lock_of n call in
          let mine : is_held (locks_of grips) k ≡ true = ap (λ (t : Bool). t || is_held (locks_of grips) k) (sym e) ∙ held in
          let others = rest mine h.3 in
          let now : AreIn n (act l call).0 (g ∷ called grips k call) = (
            h.0,
            h.1 ∙ sym (stays_alone n some l call g.lock h.0.lock e),
            ap (λ (ks : List LockId). is_held ks g.lock) (called_locks grips k call) ∙ h.2,
            others.grips_are,
          ) in
          record {
            answer = ap (λ (t : Bool). cond t (act_piece g.piece call).1 (answer_in grips k call)) e ∙ others.answer;
            grips_are = subst (λ (t : Bool). AreIn n (act l call).0 (cond t (called_one g call ∷ grips) (g ∷ called grips k call))) (sym e) now;
          }

  calls : (u : ℕ) (x : User) (plan : Plan) (grips : List Grip) (trace : List Step) (log : List (Entry × ℕ)) (call : LevelCall) (go : LevelAnswer → Plan) → IsWorking s y f u x plan grips trace log
      → followed plan trace ≡ Ask call go → is_held (locks_of grips) (lock_of n call) ≡ true
      → IsWorking s y f u x plan (called grips (lock_of n call) call) (trace ++ step_in grips (lock_of n call) call ∷ []) log
  calls u x plan grips trace log call go w next held =
      let k = lock_of n call in
      let base = (replay_in s y log).levels in
      let l = traced base trace in
      let one = answered l call (traced_strangers n base trace (replay_strangers s y f start (order_in log))) grips held w.grips_are in
      let made = step_in grips k call in
      let step : step_of l call ≡ made = ap (λ (a : LevelAnswer). (let t : Step = record { level = level_of call; call = call; answer = a } in t)) (sym one.answer) in
      let covers = covers_more n (locks_of grips) trace made (covers_of n (locks_of grips) trace w.under) held in
      record {
        recorded = w.recorded;
        here = w.here;
        met = called_met log grips k call w.met;
        trace_is = subst (λ (t : Step). IsTraceOf plan base (trace ++ t ∷ [])) step (trace_more plan base trace call go next w.trace_is);
        under = under_of n (locks_of (called grips k call)) (trace ++ made ∷ [])
            (subst (λ (locks : List LockId). Covers n locks (trace ++ made ∷ [])) (sym (called_locks grips k call)) covers);
        grips_are = subst (λ (m : Levels). AreIn n m (called grips k call)) (sym (traced_more base trace made)) one.grips_are;
        falls = subst (λ (locks : List LockId). Falls n locks (followed plan (trace ++ made ∷ []))) (sym (called_locks grips k call))
            (subst (Falls n (locks_of grips)) (sym (followed_more plan trace call go made next)) (falls_called n (locks_of grips) call go (subst (Falls n (locks_of grips)) next w.falls) held made.answer));
      }

-- ---- laws

pub requests_begin : RequestsBegin
requests_begin s y f u x plan log h here falls = record {
  recorded = h;
  here = here;
  met = tt;
  trace_is = tt;
  under = tt;
  grips_are = tt;
  falls = subst (Falls (length s.users) []) (sym (followed_none plan)) falls;
}

pub requests_go_on : RequestsGoOn
requests_go_on s y f u x plan grips trace log more start w h here met = goes_on s y f start u x plan grips trace log w more h here met

pub locks_are_taken : LocksAreTaken
locks_are_taken s y f u x plan grips trace log call go start w next apart = may_take s y f start u x plan grips trace log w call go next apart

pub calls_are_made : CallsAreMade
calls_are_made s y f u x plan grips trace log call go start w next held = calls s y f start u x plan grips trace log call go w next held
