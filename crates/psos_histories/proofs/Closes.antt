-- A request at work closes. States docs/levels.md, "Locks" and "Journal".
use Rattle.std.proofs.Common.{◌≡◌, ℕ, Bool, true, false, cond, List, [], ◌∷◌, ◌++◌, length, Option, Some, refl, sym, ap, ◌∙◌, ◌⊎◌, inl, inr, subst}
use Rattle.std.specs.Prelude.{slice_get, slice_set, IsTrue}
use Rattle.std.specs.Int.{bit_at}
use Rattle.psos_calls.specs.declared.lock_id.LockId.{LockId}
use Rattle.psos_calls.specs.declared.step.Step.{Step}
use Rattle.psos_calls.specs.declared.entry.Entry.{Entry}
use Rattle.psos_calls.specs.declared.request.Request.{Request}
use Rattle.psos_calls.specs.declared.reply.Reply.{Reply}
use Rattle.psos_calls.specs.declared.reply.Reply.TheVariants as replies
use Rattle.psos_calls.specs.declared.effect.Effect.{Effect}
use Rattle.psos_calls.specs.Language.Script.{Script}
use Rattle.psos_calls.specs.Language.User.{User, next_request, place_of, after}
use Rattle.psos_calls.specs.Language.Tests.{if_there}
use Rattle.psos_calls.specs.Locks.{lock_of}
use Rattle.psos_calls.specs.Locks.Held.{same_lock, is_held}
use Rattle.psos_calls.specs.Plan.{PlanRun, Close, run_plan}
use Rattle.psos_calls.specs.Plan.Requests.{plan_of}
use Rattle.psos_calls.specs.Plan.Trace.{followed, calls_in}
use Rattle.psos_model.specs.Flat.{Flat}
use Rattle.psos_model.specs.Run.{has_left, run_from, IsLegalFrom}
use Rattle.psos_model.specs.Replay.{System, replay_to, replay_step, replay_from, entries_from, order_of}
use Rattle.psos_model.specs.Events.Serial.{IsCoreStart, traced}
use Rattle.psos_model.proofs.Orders.{order_more, replay_more, entries_more, legal_more}
use Rattle.psos_journal.specs.Members.{entries_of, named}
use Rattle.psos_laws.proofs.UnchangedPlaces.{set_here}
use Rattle.psos_events.proofs.OpenTraces.{apart_by_held, trace_whole}
use Rattle.psos_histories.specs.Pieces.{piece_at}
use Rattle.psos_histories.specs.Histories.{only}
use Rattle.psos_histories.specs.Names.{member_of, IsNamed, AllNamed}
use Rattle.psos_histories.specs.Records.{order_in, replay_in, IsRecorded, left_by_history}
use Rattle.psos_histories.specs.Grips.{Grip, locks_of, AreIn, AreFree}
use Rattle.psos_histories.specs.Requests.{AreUnder, IsWorking}
use Rattle.psos_histories.specs.Closes.{entry_for, AreNames, freed, IsClosed, RequestsClose}
use Rattle.psos_histories.proofs.LockHistories.{histories_by_lock}
use Rattle.psos_histories.proofs.RequestConditions.{left_flat, can_close}

-- ---- one entry more

listed_more : (log : List (Entry × ℕ)) (x : Entry × ℕ) → entries_of (log ++ x ∷ []) ≡ entries_of log ++ x.0 ∷ []
listed_more [] x = refl
listed_more (q ∷ log) x = ap (λ (es : List Entry). q.0 ∷ es) (listed_more log x)

named_more : (n : ℕ) (log : List (Entry × ℕ)) (x : Entry × ℕ) → AllNamed n log → IsNamed n x → AllNamed n (log ++ x ∷ [])
named_more n [] x h is = (is, tt)
named_more n (q ∷ log) x h is = (h.0, named_more n log x h.1 is)

-- ---- whom it names

-- no call was made under a lock that is not held
not_under : (n : ℕ) (locks : List LockId) (trace : List Step) (k : LockId) → AreUnder n locks trace → is_held locks k ≡ false → only n k (calls_in trace) ≡ []
not_under n locks [] k h free = refl
not_under n locks (t ∷ trace) k h free =
    let apart : same_lock k (lock_of n t.call) ≡ false = apart_by_held locks k (lock_of n t.call) free h.0 in
    ap (λ (b : Bool). cond b (t.call ∷ only n k (calls_in trace)) (only n k (calls_in trace))) apart ∙ not_under n locks trace k h.1 free

entry_named : (n u : ℕ) (x : User) (grips : List Grip) (trace : List Step) (reply : Reply) (names : ℕ) → AreUnder n (locks_of grips) trace → AreNames n u grips names → IsNamed n (entry_for u x trace reply, names)
entry_named n u x grips trace reply names h bits = record { user = bits.user; locks = λ k lock. by_test k (is_held (locks_of grips) k) refl }
  where
    by_test : (k : LockId) (t : Bool) → is_held (locks_of grips) k ≡ t → (bit_at names (member_of n k) ≡ 1) ⊎ (only n k (calls_in trace) ≡ [])
    by_test k true e = inl (bits.locks k e)
    by_test k false e = inr (not_under n (locks_of grips) trace k h e)

-- ---- the close

module _ (s : Script) (y : System) (f : Flat) (start : IsCoreStart s y f) (u : ℕ) (x : User) (request : Request) (grips : List Grip) (trace : List Step) (log : List (Entry × ℕ))
    (w : IsWorking s y f u x (plan_of x request) grips trace log) (asks : next_request s x ≡ Some request) (reply : Reply) (effect : Effect)
    (over : followed (plan_of x request) trace ≡ Close reply effect) (left : IsTrue (has_left s (run_from s f (order_in log)).users u))
    (names : ℕ) (bits : AreNames (length s.users) u grips names) where
  abbrev n : ℕ
  n = length s.users

  abbrev base : System
  base = replay_in s y log

  abbrev entry : Entry
  entry = entry_for u x trace reply

  abbrev more : List (Entry × ℕ)
  more = log ++ (entry, names) ∷ []

  whole_run : run_plan (plan_of x request) base.levels ≡ record { levels = traced base.levels trace; calls = calls_in trace; reply = reply; effect = effect }
  whole_run = trace_whole (plan_of x request) base.levels trace reply effect over w.trace_is

  abbrev next_system : System
  next_system = record { levels = traced base.levels trace; users = slice_set base.users u (after s x effect) }

  replayed : replay_step s base u ≡ (next_system, entry)
  replayed =
      ap (λ (o : Option User). if_there o (base, record { user = u; n = 0; m = 0; steps = []; reply = replies.Fine }) (λ z. replay_to s base u z (next_request s z))) w.here
      ∙ ap (replay_to s base u x) asks
      ∙ ap (λ (p : PlanRun). (let r : System × Entry = (record { levels = p.levels; users = slice_set base.users u (after s x p.effect) }, record { user = u; n = (place_of x).0; m = (place_of x).1; steps = p.calls; reply = p.reply }) in r)) whole_run

  order_now : order_in more ≡ order_in log ++ u ∷ []
  order_now = ap order_of (listed_more log (entry, names)) ∙ order_more (entries_of log) entry

  now : replay_in s y more ≡ next_system
  now = ap (replay_from s y) order_now ∙ (replay_more s y (order_in log) u ∙ ap (λ (r : System × Entry). r.0) replayed)

  recorded_now : IsRecorded s y f more
  recorded_now = record {
    replayed = listed_more log (entry, names) ∙ ap (λ (es : List Entry). es ++ entry ∷ []) w.recorded.replayed
        ∙ ap (λ (r : System × Entry). entries_from s y (order_in log) ++ r.1 ∷ []) (sym replayed)
        ∙ sym (entries_more s y (order_in log) u) ∙ ap (entries_from s y) (sym order_now);
    legal = subst (IsLegalFrom s f) (sym order_now) (legal_more s f (order_in log) u w.recorded.legal left);
    all_named = named_more n log (entry, names) w.recorded.all_named (entry_named n u x grips trace reply names w.under bits);
  }

  free_now : (grips : List Grip) → AreIn n (traced base.levels trace) grips → AreFree s y (freed more grips)
  free_now [] h = tt
  free_now (g ∷ grips) h =
      let k = g.lock in
      let lists : named (member_of n k) more ≡ named g.side.number more = ap (λ (i : ℕ). named i more) (sym h.0.number) in (
        record {
          matched = record { lock = h.0.lock; number = h.0.number };
          whole = λ whole.
              h.1 ∙ ap (λ (z : System). piece_at k z.levels) (sym now) ∙ histories_by_lock s y f more start recorded_now k h.0.lock ∙ ap (left_by_history s y k) lists;
        },
        free_now grips h.3,
      )

  closes : IsClosed s y f u (after s x effect) grips more
  closes = record {
    recorded = recorded_now;
    here = ap (λ (z : System). slice_get z.users u) now ∙ set_here base.users u (after s x effect) x w.here;
    free = free_now grips w.grips_are;
  }

pub requests_close : RequestsClose
requests_close s y f u x request grips trace log reply effect start w asks over left =
    let flat = left_flat s y f start u x request grips trace log w asks left in
    record {
      settle = can_close s y f start u x request grips trace log w asks reply effect over left;
      closed = λ names bits. closes s y f start u x request grips trace log w asks reply effect over flat names bits;
    }
