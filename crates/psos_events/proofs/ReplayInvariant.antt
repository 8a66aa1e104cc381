-- Each enabled event keeps what the core has done a replay of the requests that closed. States docs/levels.md, "Locks".
use Rattle.std.proofs.Common.{◌≡◌, ℕ, zero, suc, ◌<◌, not, Bool, true, false, List, [], ◌∷◌, ◌++◌, length, replicate, get_or, set, Option, Some, None, refl, sym, ap, ◌∙◌, subst}
use Rattle.std.specs.Prelude.{slice_get, slice_set, IsTrue}
use Rattle.std.proofs.lemmas.Bool.{true≢false, and_parts}
use Rattle.std.proofs.lemmas.List.{length-set, get_or-set_same, get_or-set_other}
use Rattle.std.proofs.lemmas.Option.{same_Some, slice_get_within}
use Rattle.psos_calls.specs.declared.entry.Entry.{Entry}
use Rattle.psos_calls.specs.declared.lock_id.LockId.{LockId}
use Rattle.psos_calls.specs.declared.request.Request.{Request}
use Rattle.psos_calls.specs.declared.reply.Reply.{Reply}
use Rattle.psos_calls.specs.declared.reply.Reply.TheVariants as replies
use Rattle.psos_calls.specs.declared.effect.Effect.{Effect}
use Rattle.psos_calls.specs.declared.step.Step.{Step}
use Rattle.psos_calls.specs.Levels.Answers.{LevelAnswer}
use Rattle.psos_calls.specs.Levels.Calls.{LevelCall}
use Rattle.psos_calls.specs.Language.Script.{Script}
use Rattle.psos_calls.specs.Language.Tests.{if_there}
use Rattle.psos_calls.specs.Language.User.{User, next_request, place_of, after}
use Rattle.psos_calls.specs.Levels.{level_of}
use Rattle.psos_calls.specs.Locks.Held.{is_lock, is_held, is_free, are_earlier}
use Rattle.psos_calls.specs.Locks.{lock_of}
use Rattle.psos_calls.specs.Plan.{Plan, PlanRun, Close, Ask, run_plan}
use Rattle.psos_calls.specs.Plan.Requests.{plan_of}
use Rattle.psos_calls.specs.Plan.Trace.{followed, IsTraceOf}
use Rattle.psos_model.specs.Flat.{Flat}
use Rattle.psos_model.specs.Flat.Boot.{process_of}
use Rattle.psos_model.specs.Run.{has_left, run_from, IsLegalFrom}
use Rattle.psos_model.specs.Replay.{System, replay_to, replay_step, replay_from, entries_from, order_of}
use Rattle.psos_model.specs.Events.{CoreState, Event, Take, Call, locks_of, trace_of, core_of, called, entry_of, closed, happened, may_happen, event_of, is_enabled, core_step, core_after, AreEnabled}
use Rattle.psos_model.specs.Events as core
use Rattle.psos_model.specs.Sound.{IsSound}
use Rattle.psos_model.specs.Replay.StandsFor.{StandsFor}
use Rattle.psos_model.specs.Events.Serial.{traced, committed, IsSerial, IsCoreStart, EventsAreSerial}
use Rattle.psos_laws.proofs.UnchangedPlaces.{set_apart}
use Rattle.psos_events.proofs.MailboxRows.{NoOthers, box_of_process}
use Rattle.psos_table.specs.Table.{at}
use Rattle.psos_words.specs.declared.word.Word.{Word}
use Rattle.psos_calls.specs.Levels.Level12.{BoxState}
use Rattle.psos_calls.specs.Locks.{box_of}
use Rattle.psos_events.proofs.LockScope.{stays_same, same_back, acts_alike, lock_is_lock}
use Rattle.psos_events.proofs.OpenTraces.{Covers, step_of, traced_strangers, trace_more, trace_seen, trace_whole}
use Rattle.psos_events.proofs.LockHolders.{IsSet, by_set, IsLeft, AreApart, taken_apart, called_apart, closed_apart, seen_closed}
use Rattle.psos_model.proofs.Orders.{order_more, replay_more, entries_more, legal_more}
use Rattle.psos_events.specs.Replays.{RunStands}
use Rattle.psos_events.proofs.Replays.{runs_stand}
use Rattle.psos_events.proofs.EventMoves.{IsAsking, by_event}

-- ---- lists

pub set_at : {X : Type 0} (xs : List X) (u : ℕ) (x d : X) → u < length xs → IsSet (λ v. get_or xs v d) (λ v. get_or (set xs u x) v d) u x
set_at xs u x d below = record { here = get_or-set_same xs u x d below; others = λ v apart. get_or-set_other xs u v x d apart }

-- a free lock is held by no user
pub free_left : (held : List (List LockId)) (k : LockId) → is_free held k ≡ true → IsLeft (λ u. get_or held u []) k
free_left [] k free u = refl
free_left (locks ∷ held) k free zero = by_test (is_held locks k) refl
  where
    by_test : (t : Bool) → is_held locks k ≡ t → t ≡ false
    by_test false e = refl
    by_test true e = absurd (true≢false (sym (and_parts (not (is_held locks k)) (is_free held k) free).0 ∙ ap not e))
free_left (locks ∷ held) k free (suc u) = free_left held k (and_parts (not (is_held locks k)) (is_free held k) free).1 u

-- ---- what the core has done

-- the entries and the users' parts are the replay's, its order is legal, each open trace is the front of a run from its levels, and the holders stand apart
pub record HasDone (s : Script) (y : System) (f : Flat) (c : CoreState) : Type 0 where
  pub held_all : length c.held ≡ length s.users
  pub traces_all : length c.traces ≡ length s.users
  pub users_all : length c.users ≡ length s.users
  pub entries : c.entries ≡ entries_from s y (order_of c.entries)
  pub legal : IsLegalFrom s f (order_of c.entries)
  pub users : c.users ≡ (committed s y c).users
  pub traces : (u : ℕ) (x : User) (request : Request) → slice_get c.users u ≡ Some x → next_request s x ≡ Some request → IsTraceOf (plan_of x request) (committed s y c).levels (trace_of c u)
  pub apart : AreApart (length s.users) (λ u. locks_of c u) (λ u. trace_of c u) (committed s y c).levels c.levels

pub stands_now : (s : Script) (y : System) (f : Flat) (c : CoreState) → IsCoreStart s y f → HasDone s y f c → RunStands s y f (order_of c.entries)
stands_now s y f c start h = runs_stand s y f (order_of c.entries) start h.legal

-- ---- at the start

pub nothing_at : {X : Type 0} (n u : ℕ) → get_or {A = List X} (replicate n []) u [] ≡ []
nothing_at zero u = refl
nothing_at (suc n) zero = refl
nothing_at (suc n) (suc u) = nothing_at n u

length_same : {X : Type 0} (n : ℕ) (x : X) → length (replicate n x) ≡ n
length_same zero x = refl
length_same (suc n) x = ap suc (length_same n x)

-- a mailbox is a user's
pub no_others : (s : Script) (y : System) (f : Flat) → StandsFor y f → IsSound s f → NoOthers (length s.users) y.levels.boxes
no_others s y f stands sound = record { none = λ uid apart. by_row uid apart (at y.levels.boxes uid) refl }
  where
    by_row : (uid : ℕ) → (uid ≡ process_of (box_of (length s.users) uid) → ⊥) → (o : Option (List Word)) → at y.levels.boxes uid ≡ o → o ≡ None
    by_row uid apart None e = refl
    by_row uid apart (Some box) e =
        let row : at f.boxes uid ≡ Some box = ap (λ (b : BoxState). at b uid) (sym stands.boxes) ∙ e in
        let is = sound.boxes uid box row in
        let part : box_of (length s.users) uid ≡ is.user = ap (box_of (length s.users)) is.of_boot ∙ box_of_process (length s.users) is.user is.of_user in
        absurd (apart (is.of_boot ∙ ap process_of (sym part)))

pub begins : (s : Script) (y : System) (f : Flat) → IsCoreStart s y f → HasDone s y f (core_of y)
begins s y f start =
    let all : length y.users ≡ length s.users = ap (λ (us : List User). length us) start.stands.users ∙ start.start.sound.all_users in
    let strangers = no_others s y f start.stands start.start.sound in
    let nobody : (u : ℕ) (k : LockId) → is_held (locks_of (core_of y) u) k ≡ true → ⊥ = λ u k e. true≢false (sym e ∙ ap (λ (locks : List LockId). is_held locks k) (nothing_at (length y.users) u)) in
    record {
      held_all = length_same (length y.users) [] ∙ all;
      traces_all = length_same (length y.users) [] ∙ all;
      users_all = all;
      entries = refl;
      legal = tt;
      users = refl;
      traces = λ u x request here asks. subst (IsTraceOf (plan_of x request) y.levels) (sym (nothing_at (length y.users) u)) tt;
      apart = record {
        locks = λ u. record { some = start.well_formed.some_users; each = λ k e. absurd (nobody u k e) };
        one = λ u v k e g. absurd (nobody u k e);
        covers = λ u. subst (Covers (length s.users) (locks_of (core_of y) u)) (sym (nothing_at (length y.users) u)) tt;
        first = strangers;
        second = strangers;
        free = λ k is left. stays_same k y.levels;
        own = λ u k e. absurd (nobody u k e);
      };
    }

-- ---- user u, whose own part is x and whose next request this is, has an event

module _ (s : Script) (y : System) (f : Flat) (start : IsCoreStart s y f) (c : CoreState) (h : HasDone s y f c) (u : ℕ) (x : User) (request : Request) (is : IsAsking s c u x request) where
  abbrev pub base : System
  base = committed s y c

  pub below : u < length s.users
  below = subst (λ (n : ℕ). u < n) h.users_all (slice_get_within c.users u x is.here)

  -- its plan is the one of its part
  pub same_trace : (P : User → Request → Type 0) → P x request → (z : User) (r : Request) → slice_get c.users u ≡ Some z → next_request s z ≡ Some r → P z r
  same_trace P mine z r here asks =
      let user : x ≡ z = same_Some x z (sym is.here ∙ here) in
      let one : request ≡ r = same_Some request r (sym is.asks ∙ (ap (next_request s) user ∙ asks)) in
      subst (λ (w : User). P w r) user (subst (P x) one mine)

  -- it takes a lock
  take_keeps : (k : LockId) → is_lock (length s.users) k ≡ true → is_free c.held k ≡ true → HasDone s y f (happened s c u (Take k))
  take_keeps k lock free = record {
    held_all = length-set c.held u (k ∷ locks_of c u) ∙ h.held_all;
    traces_all = h.traces_all;
    users_all = h.users_all;
    entries = h.entries;
    legal = h.legal;
    users = h.users;
    traces = h.traces;
    apart = taken_apart h.apart u k lock (free_left c.held k free) (set_at c.held u (k ∷ locks_of c u) [] (subst (λ (n : ℕ). u < n) (sym h.held_all) below));
  }

  -- it makes a call
  call_keeps : (call : LevelCall) (go : LevelAnswer → Plan) → followed (plan_of x request) (trace_of c u) ≡ Ask call go → is_held (locks_of c u) (lock_of (length s.users) call) ≡ true
      → HasDone s y f (happened s c u (Call call))
  call_keeps call go next mine =
      let n = length s.users in
      let made : IsSet (λ v. trace_of c v) (λ v. trace_of (called c u call) v) u (trace_of c u ++ step_of c.levels call ∷ []) =
      set_at c.traces u (trace_of c u ++ step_of c.levels call ∷ []) [] (subst (λ (n : ℕ). u < n) (sym h.traces_all) below) in
      let alike = acts_alike n (traced base.levels (trace_of c u)) c.levels call (traced_strangers n base.levels (trace_of c u) h.apart.first) h.apart.second (same_back (h.apart.own u (lock_of n call) mine)) in
      let answered : step_of (traced base.levels (trace_of c u)) call ≡ step_of c.levels call = ap (λ (a : LevelAnswer). (let t : Step = record { level = level_of call; call = call; answer = a } in t)) alike.answer in
      let longer : IsTraceOf (plan_of x request) base.levels (trace_of c u ++ step_of c.levels call ∷ []) =
      subst (λ (t : Step). IsTraceOf (plan_of x request) base.levels (trace_of c u ++ t ∷ [])) answered (trace_more (plan_of x request) base.levels (trace_of c u) call go next (h.traces u x request is.here is.asks)) in
      record {
        held_all = h.held_all;
        traces_all = length-set c.traces u (trace_of c u ++ step_of c.levels call ∷ []) ∙ h.traces_all;
        users_all = h.users_all;
        entries = h.entries;
        legal = h.legal;
        users = h.users;
        traces = by_set (λ v steps. (z : User) (r : Request) → slice_get c.users v ≡ Some z → next_request s z ≡ Some r → IsTraceOf (plan_of z r) base.levels steps) made
            (same_trace (λ z r. IsTraceOf (plan_of z r) base.levels (trace_of c u ++ step_of c.levels call ∷ [])) longer) (λ v apart. h.traces v);
        apart = called_apart h.apart u call mine made;
      }

  -- ---- it closes the request

  module _ (reply : Reply) (effect : Effect) (over : followed (plan_of x request) (trace_of c u) ≡ Close reply effect) where
    whole : run_plan (plan_of x request) base.levels ≡ record { levels = traced base.levels (trace_of c u); calls = (entry_of c u x reply).steps; reply = reply; effect = effect }
    whole = trace_whole (plan_of x request) base.levels (trace_of c u) reply effect over (h.traces u x request is.here is.asks)

    -- the system after it
    abbrev pub next_system : System
    next_system = record { levels = traced base.levels (trace_of c u); users = slice_set base.users u (after s x effect) }

    replayed : replay_step s base u ≡ (next_system, entry_of c u x reply)
    replayed =
        ap (λ (o : Option User). if_there o (base, record { user = u; n = 0; m = 0; steps = []; reply = replies.Fine }) (λ z. replay_to s base u z (next_request s z))) (ap (λ (us : List User). slice_get us u) (sym h.users) ∙ is.here)
        ∙ ap (replay_to s base u x) is.asks
        ∙ ap (λ (p : PlanRun). (let r : System × Entry = (record { levels = p.levels; users = slice_set base.users u (after s x p.effect) }, record { user = u; n = (place_of x).0; m = (place_of x).1; steps = p.calls; reply = p.reply }) in r)) whole

    abbrev pub one_closed : CoreState
    one_closed = closed s c u reply effect x

    order_now : order_of one_closed.entries ≡ order_of c.entries ++ u ∷ []
    order_now = order_more c.entries (entry_of c u x reply)

    -- what is committed then
    pub now : committed s y one_closed ≡ next_system
    now = ap (replay_from s y) order_now ∙ (replay_more s y (order_of c.entries) u ∙ ap (λ (r : System × Entry). r.0) replayed)

    left_flat : IsTrue (has_left s (run_from s f (order_of c.entries)).users u)
    left_flat = subst (λ (us : List User). has_left s us u ≡ true) (h.users ∙ (stands_now s y f c start h).stands.users) is.left

    pub nothing_held : IsSet (λ v. locks_of c v) (λ v. locks_of one_closed v) u []
    nothing_held = set_at c.held u [] [] (subst (λ (n : ℕ). u < n) (sym h.held_all) below)

    pub nothing_open : IsSet (λ v. trace_of c v) (λ v. trace_of one_closed v) u []
    nothing_open = set_at c.traces u [] [] (subst (λ (n : ℕ). u < n) (sym h.traces_all) below)

    -- the traces of the others are traces from the new levels too
    traces_go_on : (v : ℕ) (z : User) (r : Request) → slice_get one_closed.users v ≡ Some z → next_request s z ≡ Some r → IsTraceOf (plan_of z r) next_system.levels (trace_of one_closed v)
    traces_go_on = by_set (λ v steps. (z : User) (r : Request) → slice_get one_closed.users v ≡ Some z → next_request s z ≡ Some r → IsTraceOf (plan_of z r) next_system.levels steps) nothing_open (λ z r here asks. tt)
        (λ v apart z r here asks.
        trace_seen (length s.users) (locks_of c v) (plan_of z r) base.levels next_system.levels (trace_of c v) (h.apart.locks v) (h.apart.covers v) (seen_closed h.apart u v apart)
        (h.traces v z r (sym (set_apart c.users u v (after s x effect) apart) ∙ here) asks))

    closed_keeps : HasDone s y f one_closed
    closed_keeps = record {
      held_all = length-set c.held u [] ∙ h.held_all;
      traces_all = length-set c.traces u [] ∙ h.traces_all;
      users_all = length-set c.users u (after s x effect) ∙ h.users_all;
      entries = ap (λ (es : List Entry). es ++ entry_of c u x reply ∷ []) h.entries
          ∙ (ap (λ (r : System × Entry). entries_from s y (order_of c.entries) ++ r.1 ∷ []) (sym replayed)
          ∙ (sym (entries_more s y (order_of c.entries) u) ∙ ap (entries_from s y) (sym order_now)));
      legal = subst (IsLegalFrom s f) (sym order_now) (legal_more s f (order_of c.entries) u h.legal left_flat);
      users = ap (λ (us : List User). slice_set us u (after s x effect)) h.users ∙ ap (λ (w : System). w.users) (sym now);
      traces = subst (λ (w : System). (v : ℕ) (z : User) (r : Request) → slice_get one_closed.users v ≡ Some z → next_request s z ≡ Some r → IsTraceOf (plan_of z r) w.levels (trace_of one_closed v)) (sym now) traces_go_on;
      apart = subst (λ (w : System). AreApart (length s.users) (λ v. locks_of one_closed v) (λ v. trace_of one_closed v) w.levels c.levels) (sym now) (closed_apart h.apart u nothing_held nothing_open);
    }

    close_keeps : HasDone s y f (happened s c u (core.Close reply effect))
    close_keeps = subst (HasDone s y f) (sym (ap (λ (o : Option User). if_there o c (closed s c u reply effect)) is.here)) closed_keeps

-- ---- each event, and all events

pub event_keeps : (s : Script) (y : System) (f : Flat) → IsCoreStart s y f → (c : CoreState) → HasDone s y f c → (u : ℕ) → IsTrue (is_enabled s c u) → HasDone s y f (core_step s c u)
event_keeps s y f start c h u = by_event s c u (λ o. IsTrue (may_happen c u o) → HasDone s y f (if_there o c (happened s c u)))
    (λ idle may. h)
    (λ x request reply effect is over may. close_keeps s y f start c h u x request is reply effect over)
    (λ x request call go is next mine may. call_keeps s y f start c h u x request is call go next mine)
    (λ x request call go is next other may.
    let k = lock_of (length s.users) call in
    take_keeps s y f start c h u x request is k (lock_is_lock (length s.users) start.well_formed.some_users call) (and_parts (is_free c.held k) (are_earlier (locks_of c u) k) may).0)

events_keep : (s : Script) (y : System) (f : Flat) → IsCoreStart s y f → (us : List ℕ) (c : CoreState) → HasDone s y f c → AreEnabled s c us → HasDone s y f (core_after s c us)
events_keep s y f start [] c h may = h
events_keep s y f start (u ∷ us) c h may = events_keep s y f start us (core_step s c u) (event_keeps s y f start c h u may.0) may.1

pub has_done : (s : Script) (y : System) (f : Flat) (us : List ℕ) → IsCoreStart s y f → AreEnabled s (core_of y) us → HasDone s y f (core_after s (core_of y) us)
has_done s y f us start may = events_keep s y f start us (core_of y) (begins s y f start) may

is_serial : (s : Script) (y : System) (f : Flat) (c : CoreState) → HasDone s y f c → IsSerial s y c
is_serial s y f c h = record {
  entries = h.entries;
  users = h.users;
  traces = h.traces;
  free = λ k lock free. (h.apart.free k lock (free_left c.held k free)).at_lock;
  own = λ u k mine. (h.apart.own u k mine).at_lock;
}

pub events_are_serial : EventsAreSerial
events_are_serial s y f us start may =
    let h = has_done s y f us start may in
    (is_serial s y f (core_after s (core_of y) us) h, h.legal)
