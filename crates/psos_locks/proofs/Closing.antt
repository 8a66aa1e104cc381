-- A request that closes: its entry may go into the journal, and what its user knows then. States docs/levels.md, "Journal" and "Phases".
use Rattle.std.proofs.Common.{◌≡◌, ℕ, zero, suc, ◌+◌, ◌^◌, ◌<◌, ◌≤◌, ◌==◌, Bool, true, false, cond, List, [], ◌∷◌, ◌++◌, length, append_assoc, get_or, Option, Some, None, refl, sym, ap, ◌∙◌, ◌⊎◌, inl, inr, subst, arith, length-append}
use Rattle.std.specs.Prelude.{slice_get, slice_index_or}
use Rattle.std.specs.Int.{bit_at}
use Rattle.std.specs.Int.Bits.{bit_xor, xor_self}
use Rattle.std.proofs.lemmas.Bool.{cases_eq, or_cases, or_right, eqb-true, eq-eqb, true≢false}
use Rattle.std.proofs.lemmas.Option.{none-some}
use Rattle.psos_calls.specs.declared.frame.Frame.{Frame}
use Rattle.std.proofs.lemmas.Nat.Bits.{bit_at-pow_same}
use mathlib.Core.List.{IsPrefix}
use Rattle.psos_limits.specs.declared.TheConstants.{MOST_REQUESTS}
use Rattle.psos_calls.specs.declared.entry.Entry.{Entry}
use Rattle.psos_calls.specs.declared.request.Request.{Request}
use Rattle.psos_calls.specs.declared.reply.Reply.{Reply}
use Rattle.psos_calls.specs.declared.effect.Effect.{Effect}
use Rattle.psos_calls.specs.declared.step.Step.{Step}
use Rattle.psos_calls.specs.Language.Script.{Script, IsWellFormed, requests_of, user_script, body_of}
use Rattle.psos_calls.specs.declared.level.Level.{Level}
use Rattle.psos_calls.specs.Levels.Calls.{LevelCall}
use Rattle.psos_calls.specs.Plan.Trace.{calls_in}
use Rattle.psos_calls.specs.Language.User.{User, next_in, next_request, place_of, after, CanSettle}
use Rattle.psos_calls.specs.Levels.{Levels}
use Rattle.psos_calls.specs.Plan.{Close}
use Rattle.psos_calls.specs.Plan.Requests.{plan_of}
use Rattle.psos_calls.specs.Plan.Trace.{followed}
use Rattle.psos_model.specs.Flat.Boot.{boot}
use Rattle.psos_model.specs.Sound.Users.{HasLine}
use Rattle.psos_model.specs.Run.{phase_of, current_phase, earlier, is_open, is_now, is_left, has_left, run_from}
use Rattle.psos_laws.proofs.AnswerProgress.{pick}
use Rattle.psos_laws.proofs.RequestsLeft.{left_within}
use Rattle.psos_events.specs.Replays.{RunStands}
use Rattle.psos_events.proofs.Replays.{runs_stand}
use Rattle.psos_model.specs.Replay.{System, boot_system, replay_from}
use Rattle.psos_model.specs.Events.Serial.{traced}
use Rattle.psos_journal.specs.Members.{named}
use Rattle.psos_journal.specs.Views.{JournalState, Side, Known, list_of}
use Rattle.psos_histories.specs.Names.{members_for}
use Rattle.psos_histories.specs.Records.{replay_in, order_in}
use Rattle.psos_histories.specs.Grips.{Grip, HaveMet}
use Rattle.psos_histories.specs.Requests.{IsWorking}
use Rattle.psos_histories.specs.Closes.{entry_for, bits_for, AreNames, CanClose, IsClosed}
use Rattle.psos_histories.specs.Phases.{IsPast}
use Rattle.psos_histories.proofs.BitNames.{bits_are_names}
use Rattle.psos_histories.proofs.Closes.{requests_close}
use Rattle.psos_histories.proofs.OwnParts.{replay_rest}
use Rattle.psos_histories.proofs.Phases.{past_stays, left_in_phase}
use Rattle.psos_histories.proofs.RecordLimits.{records_are_few, records_have_users}
use Rattle.psos_locks.specs.Grips.{grips_in}
use Rattle.psos_locks.specs.Runs.{IsRun, Knows, CanPut}
use Rattle.psos_locks.specs.Users.{OwnView, past_of, past_in, has_more, IsUser, IsAtWork, HasClosed}
use Rattle.psos_locks.proofs.Settling.{left_all, all_ready}
use Rattle.psos_locks.proofs.Working.{start, again}

-- ---- lists

last_some : (xs : List Entry) (x : Entry) → xs ++ x ∷ [] ≡ [] → ⊥
last_some xs x e = absurd (omega (arith, ap (λ (es : List Entry). length es) e, length-append xs (x ∷ [])))

named_last : (i : ℕ) (log : List (Entry × ℕ)) (x : Entry × ℕ) → bit_at x.1 i ≡ 1 → named i (log ++ x ∷ []) ≡ named i log ++ x.0 ∷ []
named_last i [] x e = ap (λ (b : ℕ). cond (b == 1) (x.0 ∷ []) []) e
named_last i (q ∷ log) x e =
    let M : Bool → Type 0 = λ b. cond b (q.0 ∷ named i (log ++ x ∷ [])) (named i (log ++ x ∷ [])) ≡ cond b (q.0 ∷ named i log) (named i log) ++ x.0 ∷ [] in
    elim (bit_at q.1 i == 1) as M [ true ↦ ap (λ (es : List Entry). q.0 ∷ es) (named_last i log x e) | false ↦ named_last i log x e ]

prefix_more : (past log : List (Entry × ℕ)) (x : Entry × ℕ) → IsPrefix past log → IsPrefix past (log ++ x ∷ [])
prefix_more past log x p = (p.0 ++ x ∷ [], sym (append_assoc past p.0 (x ∷ [])) ∙ ap (λ (l : List (Entry × ℕ)). l ++ x ∷ []) p.1)

-- ---- phases

now_same : (o : Option ℕ) (p : ℕ) → is_now o (Some p) ≡ true → o ≡ Some p
now_same None p e = absurd (true≢false (sym e))
now_same (Some q) p e = ap (λ (n : ℕ). Some n) (eqb-true q p e)

which : (s : Script) (o : OwnView) → has_more s o ≡ true → (is_open o.own.frames ≡ true) ⊎ (phase_of s o.own ≡ Some o.phase)
which s o more = elim (or_cases (is_open o.own.frames) (is_now (phase_of s o.own) (Some o.phase)) more) [
  | inl opened ↦ inl opened
  | inr now ↦ inr (now_same (phase_of s o.own) o.phase now)
]

-- who is past a phase is so after more entries
pub past_on : (s : Script) (y : System) (p v : ℕ) (past log : List (Entry × ℕ)) → IsPast s p v (replay_in s y past).users → IsPrefix past log → IsPast s p v (replay_in s y log).users
past_on s y p v past log h prefix =
    let rest = prefix.0 in
    let same : replay_from s (replay_in s y past) (order_in rest) ≡ replay_in s y log = sym (replay_rest s y past rest) ∙ ap (λ (l : List (Entry × ℕ)). replay_in s y l) prefix.1 in
    subst (λ (z : System). IsPast s p v z.users) same (past_stays s (replay_in s y past) p v (order_in rest) h)

-- ---- the close

-- it may be put, its effect may be settled, and what its user knows behind it
pub record MayClose (s : Script) (o : OwnView) (places : List (Option Grip)) (entry : Entry) (names : ℕ) (effect : Effect) (j : JournalState Entry) : Type 0 where
  pub put : CanPut s j o.side.number entry names places
  pub settle : CanSettle o.own effect
  pub user : o.side.number < 24
  pub left : IsUser s (record o { own = after s o.own effect; side = record o.side { past = j.entries ++ (entry, names) ∷ [] } })
  pub added : named o.side.number (j.entries ++ (entry, names) ∷ []) ≡ list_of o.side ++ entry ∷ []

-- what a close has found in the journal: entries of a run, with room and members for all, which the user's member and those behind its locks have met, and behind the first of which stands what is known of each user
pub record Found (s : Script) (o : OwnView) (places : List (Option Grip)) (j : JournalState Entry) : Type 0 where
  pub recorded : IsRun s j.entries
  pub room_is : j.room ≡ MOST_REQUESTS
  pub members_are : j.members ≡ members_for (length s.users)
  pub knows : Knows o.side j.entries
  pub met : HaveMet j.entries (grips_in places)
  pub first : (v : ℕ) → IsPrefix (past_in o.receipts v) j.entries

module _ (s : Script) (well : IsWellFormed s) (o : OwnView) (is : IsUser s o) (request : Request) (places : List (Option Grip)) (w : IsAtWork s o request (grips_in places))
    (asks : next_request s o.own ≡ Some request) (reply : Reply) (effect : Effect) (over : followed (plan_of o.own request) o.trace ≡ Close reply effect) (more : has_more s o ≡ true)
    (j : JournalState Entry) (found : Found s o places j) where
  abbrev y : System
  y = boot_system s

  abbrev u : ℕ
  u = o.side.number

  abbrev x : User
  x = o.own

  abbrev log : List (Entry × ℕ)
  log = j.entries

  abbrev grips : List Grip
  grips = grips_in places

  abbrev trace : List Step
  trace = o.trace

  abbrev levels : Levels
  levels = traced (replay_in s y log).levels trace

  abbrev entry : Entry
  entry = entry_for u x trace reply

  abbrev names : ℕ
  names = bits_for u grips

  work : IsWorking s y (boot s) u x (plan_of x request) grips trace log
  work = again s well o.side x request grips trace w log found.recorded found.knows found.met

  below : u < length s.users
  below = records_have_users s y (boot s) log (start s well) found.recorded u x work.here

  left_now : has_left s (replay_in s y log).users u ≡ true
  left_now = left_in_phase s y u x o.phase log work.here (which s o more) (λ v apart. record { past = past_in o.receipts v; prefix = found.first v; is_past = is.shown v })

  can : CanClose s y (boot s) u x grips trace log reply effect
  can = requests_close s y (boot s) u x request grips trace log reply effect (start s well) work asks over left_now

  bits : AreNames (length s.users) u grips names
  bits = bits_are_names (length s.users) u levels grips below work.grips_are

  closed : IsClosed s y (boot s) u (after s x effect) grips (log ++ (entry, names) ∷ [])
  closed = can.closed names bits

  pub may_close : MayClose s o places entry names effect j
  may_close = record {
    put = record {
      room =
          let few : length (log ++ (entry, names) ∷ []) ≤ MOST_REQUESTS = records_are_few s y (boot s) (log ++ (entry, names) ∷ []) (start s well) closed.recorded in
          omega (arith, few, length-append log ((entry, names) ∷ []), found.room_is);
      members = subst (λ (m : ℕ). names < 2 ^ m) (sym found.members_are) bits.members;
      recorded = closed.recorded;
      named = ap (λ (p : ℕ). bit_at p u) (left_all u places) ∙ bit_at-pow_same u;
      only = ap (λ (p : ℕ). bit_xor p (2 ^ u)) (left_all u places) ∙ xor_self (2 ^ u);
      ready = all_ready s u levels (log ++ (entry, names) ∷ []) below places work.grips_are closed.free;
    };
    settle = can.settle;
    user = omega (arith, below, well.few_users);
    left = record {
      own_is = record {
        recorded = closed.recorded;
        here = closed.here;
        latest = λ none. absurd (last_some (named u log) entry (sym (named_last u log (entry, names) user_named) ∙ none));
      };
      past = past_on s y o.phase u o.side.past (log ++ (entry, names) ∷ []) is.past (prefix_more o.side.past log (entry, names) found.knows.prefix);
      shown = is.shown;
    };
    added = named_last u log (entry, names) user_named ∙ ap (λ (es : List Entry). es ++ entry ∷ []) (sym found.knows.met);
  }
    where
      user_named : bit_at names u ≡ 1
      user_named = (bits.user u below).1 refl

-- ---- the same, said of what the code has

pub put_same : (s : Script) (j k : JournalState Entry) (u v : ℕ) (e f : Entry) (n m : ℕ) (p q : List (Option Grip)) → k ≡ j → v ≡ u → f ≡ e → m ≡ n → q ≡ p → CanPut s j u e n p → CanPut s k v f m q
put_same s j k u v e f n m p q ej eu ee en ep h =
    subst (λ (a : JournalState Entry). CanPut s a v f m q) (sym ej)
    (subst (λ (a : ℕ). CanPut s j a f m q) (sym eu)
    (subst (λ (a : Entry). CanPut s j u a m q) (sym ee) (subst (λ (a : ℕ). CanPut s j u e a q) (sym en) (subst (λ (a : List (Option Grip)). CanPut s j u e n a) (sym ep) h))))

pub entry_same : (u v : ℕ) (x : User) (ts : List Step) (reply : Reply) (place : ℕ × ℕ) (steps : List (Level × LevelCall)) → v ≡ u → place ≡ place_of x → steps ≡ calls_in ts
    → (let e : Entry = record { user = v; n = place.0; m = place.1; steps = steps; reply = reply } in e) ≡ entry_for u x ts reply
entry_same u v x ts reply place steps eu ep es =
    ap (λ (a : ℕ). (let e : Entry = record { user = a; n = place.0; m = place.1; steps = steps; reply = reply } in e)) eu
    ∙ ap (λ (a : ℕ × ℕ). (let e : Entry = record { user = u; n = a.0; m = a.1; steps = steps; reply = reply } in e)) ep
    ∙ ap (λ (a : List (Level × LevelCall)). (let e : Entry = record { user = u; n = (place_of x).0; m = (place_of x).1; steps = a; reply = reply } in e)) es

-- its user knows the entry
pub closed_so : (s : Script) (old o : OwnView) → o ≡ old → (places : List (Option Grip)) (entry : Entry) (names : ℕ) (effect : Effect) (j : JournalState Entry) → MayClose s o places entry names effect j
    → (stamp : ℕ) → stamp ≡ length j.entries → (member : Side Entry) → member ≡ record o.side { past = j.entries ++ (entry, names) ∷ [] } → (own : User) → entry.user ≡ o.side.number
    → HasClosed old stamp (record o { own = own; side = member })
closed_so s old o same places entry names effect j m stamp last member is own mine =
    let more = j.entries ++ (entry, names) ∷ [] in
    let past : member.past ≡ more = ap (λ (a : Side Entry). a.past) is in
    let alone : member ≡ record o.side { past = member.past } = is ∙ ap (λ (l : List (Entry × ℕ)). (let a : Side Entry = record o.side { past = l } in a)) (sym past) in
    subst (λ (q : OwnView). HasClosed q stamp (record o { own = own; side = member })) same
    (record {
      entry = entry;
      user = mine;
      added = ap (λ (a : Side Entry). list_of a) is ∙ m.added;
      last = omega (arith, last, ap (λ (l : List (Entry × ℕ)). length l) past, length-append j.entries ((entry, names) ∷ []));
      rest = ap (λ (a : Side Entry). (let v : OwnView = record o { own = own; side = a } in v)) alone;
    })

-- ---- what is known of each user

pub record Agreed (n : ℕ) (receipts : List (Option (Known Entry))) (old new : JournalState Entry) : Type 0 where
  pub same : new ≡ old
  pub first : (v : ℕ) → v < n → IsPrefix (past_in receipts v) old.entries

pub agreed_none : (receipts : List (Option (Known Entry))) (old : JournalState Entry) → Agreed 0 receipts old old
agreed_none receipts old = record { same = refl; first = λ v less. absurd (omega (arith, less)) }

pub agreed_next : (n : ℕ) (receipts : List (Option (Known Entry))) (old now new : JournalState Entry) (receipt : Option (Known Entry)) → Agreed n receipts old now → receipt ≡ slice_index_or receipts n None
    → new ≡ now → IsPrefix (past_of receipt) now.entries → Agreed (n + 1) receipts old new
agreed_next n receipts old now new receipt h is e prefix = record {
  same = e ∙ h.same;
  first = λ v less. elim (cases_eq v n) [
    | inl here ↦
        let at : IsPrefix (past_of receipt) old.entries = subst (λ (j : JournalState Entry). IsPrefix (past_of receipt) j.entries) h.same prefix in
        subst (λ (k : ℕ). IsPrefix (past_in receipts k) old.entries) (sym here) (subst (λ (r : Option (Known Entry)). IsPrefix (past_of r) old.entries) is at)
    | inr other ↦ h.first v (omega (arith, less, other))
  ];
}

pub agreed_all : (n : ℕ) (receipts : List (Option (Known Entry))) (old new : JournalState Entry) → Agreed n receipts old new → length receipts ≤ n → (v : ℕ) → IsPrefix (past_in receipts v) old.entries
agreed_all n receipts old new h all v = elim (below v n) [
  | inl less ↦ h.first v less
  | inr past ↦ subst (λ (r : Option (Known Entry)). IsPrefix (past_of r) old.entries) (sym (none_past receipts v (omega (arith, all, past)))) (old.entries, refl)
]
  where
    below : (v n : ℕ) → (v < n) ⊎ (n ≤ v)
    below v zero = inr (omega arith)
    below zero (suc n) = inl (omega arith)
    below (suc v) (suc n) = elim (below v n) [ inl less ↦ inl (omega (arith, less)) | inr past ↦ inr (omega (arith, past)) ]

    none_past : (rs : List (Option (Known Entry))) (v : ℕ) → length rs ≤ v → slice_index_or rs v None ≡ None
    none_past [] v h = refl
    none_past (r ∷ rs) zero h = absurd (omega (arith, h))
    none_past (r ∷ rs) (suc v) h = none_past rs v (omega (arith, h))

-- an element of a list, whatever stands for one that is not there
pub found_there : (rs : List (Option (Known Entry))) (n : ℕ) (r : Option (Known Entry)) → n < length rs → r ≡ get_or rs n r → r ≡ slice_index_or rs n None
found_there [] n r less is = absurd (omega (arith, less))
found_there (q ∷ rs) zero r less is = is
found_there (q ∷ rs) (suc n) r less is = found_there rs n r (omega (arith, less)) is

-- ---- who has more to ask has a next request

pub asks_now : (s : Script) → IsWellFormed s → (o : OwnView) → IsUser s o → has_more s o ≡ true → next_request s o.own ≡ None → ⊥
asks_now s well o is more none = by_frames o.own.frames refl
  where
    x : User
    x = o.own

    stands : RunStands s (boot_system s) (boot s) (order_in o.side.past)
    stands = runs_stand s (boot_system s) (boot s) (order_in o.side.past) (start s well) is.own_is.recorded.legal

    here : slice_get (run_from s (boot s) (order_in o.side.past)).users o.side.number ≡ Some x
    here = ap (λ (us : List User). slice_get us o.side.number) (sym stands.stands.users) ∙ is.own_is.here

    line : HasLine s x.frames
    line = (stands.sound.users o.side.number x here).line

    by_frames : (frames : List Frame) → x.frames ≡ frames → ⊥
    by_frames [] closed = elim (which s o more) [
      | inl opened ↦ true≢false (sym opened ∙ ap is_open closed)
      | inr mine ↦
          let now : is_now (phase_of s x) (current_phase s (x ∷ [])) ≡ true = ap (λ (q : Option ℕ). is_now q (earlier q None)) mine ∙ eq-eqb o.phase o.phase refl in
          let left : is_left s (x ∷ []) x ≡ true = or_right (is_open x.frames) (is_now (phase_of s x) (current_phase s (x ∷ []))) now in
          let found = pick (requests_of (user_script s x.number)) x.answered (left_within s (x ∷ []) x closed left) in
          none-some found.0 (sym (ap (next_in s x) (sym closed) ∙ none) ∙ found.1)
    ]
    by_frames (q ∷ outer) opened =
        let found = pick (body_of s q.label) q.line (subst (HasLine s) opened line) in
        none-some found.0 (sym (ap (next_in s x) (sym opened) ∙ none) ∙ found.1)
