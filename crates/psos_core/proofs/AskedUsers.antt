-- Whom to ask in a turn whether it may go on. States docs/program.md, "Turns".
use Rattle.std.proofs.Common.{◌≡◌, ℕ, zero, suc, ◌+◌, ◌<◌, ◌≤◌, ◌&&◌, ◌||◌, not, Bool, true, false, cond, List, [], ◌∷◌, ◌++◌, length, map, get_or, set, Option, Some, None, refl, sym, ap, ◌∙◌, ◌⊎◌, inl, inr, subst, arith}
use Rattle.std.specs.Prelude.{slice_get, option_map}
use Rattle.std.specs.List.{filter, range_with_len, AllByRecursion}
use Rattle.std.proofs.lemmas.Bool.{true≢false, cases_eq, and_parts, and_from}
use Rattle.std.proofs.lemmas.List.{get_or-set_other}
use Rattle.std.proofs.lemmas.List.FromFn.{length-range_with_len}
use Rattle.std.proofs.lemmas.Option.{none-some, same_Some}
use Rattle.psos_calls.specs.declared.lock_id.LockId.{LockId}
use Rattle.psos_calls.specs.declared.next.Next.{Next}
use Rattle.psos_calls.specs.declared.next.Next.TheVariants as nexts
use Rattle.psos_calls.specs.Language.Script.{Script}
use Rattle.psos_calls.specs.Language.Tests.{if_there}
use Rattle.psos_calls.specs.Language.User.{User}
use Rattle.psos_calls.specs.Locks.{lock_of}
use Rattle.psos_calls.specs.Locks.Held.{same_lock, is_held, is_free, are_earlier}
use Rattle.psos_model.specs.Run.{has_left}
use Rattle.psos_model.specs.Events.{CoreState, core_of, trace_of, called, happened, event_of, core_step, is_enabled}
use Rattle.psos_model.specs.Events as events
use Rattle.psos_model.specs.Events.Turns.{enabled_in}
use Rattle.psos_events.proofs.OpenTraces.{step_of}
use Rattle.psos_core.specs.declared.event.Event.{Event}
use Rattle.psos_core.specs.EventStates.{HasLed, IsUnderWay}
use Rattle.psos_core.specs.Events.{MayHappen, told, is_close}
use Rattle.psos_core.specs.Plans.{next_for, may_go}
use Rattle.psos_core.specs.Serving.{Start}
use Rattle.psos_core.proofs.EventRun.{done}
use Rattle.psos_core.proofs.EventStep.{enabled_is, next_same}
use Rattle.psos_core.proofs.TurnsRun.{after_more, numbers}

-- ---- those that pass a test

few_filter : (p : ℕ → Bool) (us : List ℕ) → length (filter p us) ≤ length us
few_filter p [] = omega arith
few_filter p (u ∷ us) = by_test (p u) (few_filter p us)
  where
    by_test : (b : Bool) → length (filter p us) ≤ length us → length (cond b (u ∷ filter p us) (filter p us)) ≤ length (u ∷ us)
    by_test true less = omega (arith, less)
    by_test false less = omega (arith, less)

all_filter : (P : ℕ → Type 0) (p : ℕ → Bool) (us : List ℕ) → AllByRecursion P us → AllByRecursion P (filter p us)
all_filter P p [] h = tt
all_filter P p (u ∷ us) h = by_test (p u) (all_filter P p us h.1)
  where
    by_test : (b : Bool) → AllByRecursion P (filter p us) → AllByRecursion P (cond b (u ∷ filter p us) (filter p us))
    by_test true rest = (h.0, rest)
    by_test false rest = rest

-- what passes q is not lost where it passes p too
filter_through : (p q : ℕ → Bool) → ((v : ℕ) → q v ≡ true → p v ≡ true) → (us : List ℕ) → filter q (filter p us) ≡ filter q us
filter_through p q h [] = refl
filter_through p q h (u ∷ us) = by_test (filter_through p q h us) (p u) refl (q u) refl
  where
    by_test : filter q (filter p us) ≡ filter q us → (b : Bool) → p u ≡ b → (e : Bool) → q u ≡ e → filter q (cond b (u ∷ filter p us) (filter p us)) ≡ cond e (u ∷ filter q us) (filter q us)
    by_test rest true was e now =
        ap (λ (t : Bool). cond t (u ∷ filter q (filter p us)) (filter q (filter p us))) now
        ∙ ap (λ (vs : List ℕ). cond e (u ∷ vs) vs) rest
    by_test rest false was true now = absurd (true≢false (sym (h u now) ∙ was))
    by_test rest false was false now = rest

-- ---- who may go on, by numbers

enabled_filter : (s : Script) (c : CoreState) (xs : List User) → enabled_in s c xs ≡ filter (is_enabled s c) (map (λ (x : User). x.number) xs)
enabled_filter s c [] = refl
enabled_filter s c (x ∷ xs) = ap (λ (us : List ℕ). cond (is_enabled s c x.number) (x.number ∷ us) us) (enabled_filter s c xs)

numbers_from : (xs : List User) (a : ℕ) → ((u : ℕ) (x : User) → slice_get xs u ≡ Some x → x.number ≡ a + u) → map (λ (x : User). x.number) xs ≡ range_with_len a (length xs)
numbers_from [] a h = refl
numbers_from (x ∷ xs) a h =
    let none : a + 0 ≡ a = omega arith in
    let more : (u : ℕ) → a + suc u ≡ (a + 1) + u = λ u. omega arith in
    ap (λ (n : ℕ). n ∷ map (λ (z : User). z.number) xs) (h zero x refl ∙ none)
    ∙ ap (λ (us : List ℕ). a ∷ us) (numbers_from xs (a + 1) (λ u z here. h (suc u) z here ∙ more u))

range_more : (a n : ℕ) → range_with_len a (suc n) ≡ range_with_len a n ++ (a + n) ∷ []
range_more a zero =
    let none : a ≡ a + 0 = omega arith in
    ap (λ (k : ℕ). k ∷ []) none
range_more a (suc n) =
    let more : (a + 1) + n ≡ a + suc n = omega arith in
    ap (λ (us : List ℕ). a ∷ us) (range_more (a + 1) n ∙ ap (λ (k : ℕ). range_with_len (a + 1) n ++ k ∷ []) more)

-- one number more
pub numbered_more : (us more : List ℕ) (n : ℕ) → us ≡ range_with_len 0 n → more ≡ us ++ n ∷ [] → more ≡ range_with_len 0 (n + 1)
numbered_more us more n h is =
    let none : n ≡ 0 + n = omega arith in
    let next : suc n ≡ n + 1 = omega arith in
    is
    ∙ (ap (λ (vs : List ℕ). vs ++ n ∷ []) h
    ∙ (ap (λ (k : ℕ). range_with_len 0 n ++ k ∷ []) none
    ∙ (sym (range_more 0 n) ∙ ap (range_with_len 0) next)))

below_from : (n a k : ℕ) → a + k ≤ n → AllByRecursion (λ (u : ℕ). u < n) (range_with_len a k)
below_from n a zero h = tt
below_from n a (suc k) h = (omega (arith, h), below_from n (a + 1) k (omega (arith, h)))

-- to find who may go on, it is enough to ask these
pub record AreAsked (s : Script) (c : CoreState) (asked : List ℕ) : Type 0 where
  pub few : length asked ≤ 8
  pub users : AllByRecursion (λ (u : ℕ). u < length s.users) asked
  pub all : filter (is_enabled s c) asked ≡ enabled_in s c c.users

-- those that may go on are found among them
pub found_all : (s : Script) (c : CoreState) (asked slots among : List ℕ) → AreAsked s c asked → slots ≡ asked → among ≡ filter (is_enabled s c) slots → among ≡ enabled_in s c c.users
found_all s c asked slots among h same is = is ∙ (ap (filter (is_enabled s c)) same ∙ h.all)

-- it is enough to ask all
pub asked_all : (s : Script) (c : CoreState) → IsUnderWay s c → (us : List ℕ) → us ≡ range_with_len 0 (length c.users) → AreAsked s c us
asked_all s c h us is =
    let d = done s c h in
    let none : (u : ℕ) → u ≡ 0 + u = λ u. omega arith in
    let numbered : map (λ (x : User). x.number) c.users ≡ range_with_len 0 (length c.users) = numbers_from c.users 0 (λ u x here. numbers s c h u x here ∙ none u) in
    subst (AreAsked s c) (sym is) (record {
      few = omega (arith, length-range_with_len 0 (length c.users), d.users_all, h.after.starts.well_formed.few_users);
      users = below_from (length s.users) 0 (length c.users) (omega (arith, d.users_all));
      all = ap (filter (is_enabled s c)) (sym numbered) ∙ sym (enabled_filter s c c.users);
    })

-- ---- only a close lets another user go on

-- a lock that is free when another was taken was free before
free_before : (held : List (List LockId)) (u : ℕ) (lock k : LockId) → is_free (set held u (lock ∷ get_or held u [])) k ≡ true → is_free held k ≡ true
free_before [] u lock k h = refl
free_before (locks ∷ held) zero lock k h =
    let parts = and_parts (not (same_lock lock k || is_held locks k)) (is_free held k) h in
    and_from (not (is_held locks k)) (is_free held k) (by_test (same_lock lock k) (is_held locks k) parts.0) parts.1
  where
    by_test : (a b : Bool) → not (a || b) ≡ true → not b ≡ true
    by_test true b e = absurd (true≢false (sym e))
    by_test false b e = e
free_before (locks ∷ held) (suc u) lock k h =
    let parts = and_parts (not (is_held locks k)) (is_free (set held u (lock ∷ get_or held u [])) k) h in
    and_from (not (is_held locks k)) (is_free held k) parts.0 (free_before held u lock k parts.1)

or_before : (a f g e : Bool) → (f ≡ true → g ≡ true) → (a || (f && e)) ≡ true → (a || (g && e)) ≡ true
or_before true f g e h may = refl
or_before false true g e h may = ap (λ (t : Bool). t && e) (h refl) ∙ may
or_before false false g e h may = absurd (true≢false (sym may))

go_before : (n : ℕ) (held : List (List LockId)) (u v : ℕ) (lock : LockId) (o : Option Next) → (v ≡ u → ⊥) → may_go n (set held u (lock ∷ get_or held u [])) v o ≡ true → may_go n held v o ≡ true
go_before n held u v lock None apart h = h
go_before n held u v lock (Some (nexts.Close reply effect)) apart h = refl
go_before n held u v lock (Some (nexts.Call level call)) apart h =
    let k = lock_of n call in
    let now = set held u (lock ∷ get_or held u []) in
    let own = get_or held v [] in
    let mine : get_or now v [] ≡ own = get_or-set_other held u v (lock ∷ get_or held u []) [] apart in
    or_before (is_held own k) (is_free now k) (is_free held k) (are_earlier own k) (free_before held u lock k)
    (subst (λ (locks : List LockId). (is_held locks k || (is_free now k && are_earlier locks k)) ≡ true) mine h)

others_before : (s : Script) (c : CoreState) (u v n : ℕ) (e : events.Event) → (v ≡ u → ⊥) → is_close (told n e) ≡ false → is_enabled s (happened s c u e) v ≡ true → is_enabled s c v ≡ true
others_before s c u v n (events.Take lock) apart still may =
    let d = happened s c u (events.Take lock) in
    let left = has_left s c.users v in
    let next = next_for s c v in
    let parts = and_parts left (may_go (length s.users) d.held v next) (sym (enabled_is s d v) ∙ may) in
    enabled_is s c v ∙ and_from left (may_go (length s.users) c.held v next) parts.0 (go_before (length s.users) c.held u v lock next apart parts.1)
others_before s c u v n (events.Call call) apart still may =
    let d = called c u call in
    let same : next_for s d v ≡ next_for s c v = next_same s c d v refl (get_or-set_other c.traces u v (trace_of c u ++ step_of c.levels call ∷ []) [] apart) in
    enabled_is s c v
    ∙ (sym (enabled_is s d v ∙ ap (λ (o : Option Next). has_left s c.users v && may_go (length s.users) c.held v o) same) ∙ may)
others_before s c u v n (events.Close reply effect) apart still may = absurd (true≢false still)

users_stay : (s : Script) (c : CoreState) (u n : ℕ) (e : events.Event) → is_close (told n e) ≡ false → (happened s c u e).users ≡ c.users
users_stay s c u n (events.Take lock) still = refl
users_stay s c u n (events.Call call) still = refl
users_stay s c u n (events.Close reply effect) still = absurd (true≢false still)

-- so where nothing closed, it is enough to ask those that might go on before
asked_still : (s : Script) (c : CoreState) (u n : ℕ) (e : events.Event) → is_enabled s c u ≡ true → is_close (told n e) ≡ false → (asked among : List ℕ) → AreAsked s c asked
    → among ≡ filter (is_enabled s c) asked → AreAsked s (happened s c u e) among
asked_still s c u n e may still asked among h is =
    let d = happened s c u e in
    let numbered = map (λ (x : User). x.number) c.users in
    record {
      few = omega (arith, ap length is, few_filter (is_enabled s c) asked, h.few);
      users = subst (AllByRecursion (λ (v : ℕ). v < length s.users)) (sym is) (all_filter (λ (v : ℕ). v < length s.users) (is_enabled s c) asked h.users);
      all = ap (filter (is_enabled s d)) (is ∙ (h.all ∙ enabled_filter s c c.users))
          ∙ (filter_through (is_enabled s c) (is_enabled s d) (λ v now. before v (cases_eq v u) now) numbered
          ∙ (sym (enabled_filter s d c.users) ∙ ap (enabled_in s d) (sym (users_stay s c u n e still))));
    }
  where
    before : (v : ℕ) → (v ≡ u) ⊎ (v ≡ u → ⊥) → is_enabled s (happened s c u e) v ≡ true → is_enabled s c v ≡ true
    before v (inl same) now = ap (is_enabled s c) same ∙ may
    before v (inr apart) now = others_before s c u v n e apart still now

-- after an event
pub asked_on : (s t : Script) (c d : CoreState) (u n : ℕ) (e : Event) → MayHappen s c u → ((start : Start) (turns : List ℕ) → HasLed s c start turns → HasLed s d start (turns ++ u ∷ []))
    → Some e ≡ option_map (told n) (event_of s c u) → (asked among next : List ℕ) → AreAsked s c asked → among ≡ filter (is_enabled s c) asked
    → next ≡ cond (is_close e) (range_with_len 0 (length d.users)) among → t ≡ s → AreAsked t d next
asked_on s t c d u n e may made tells asked among next h found is same =
    subst (λ (z : Script). AreAsked z d next) (sym same) (by_close (is_close e) refl is)
  where
    way : IsUnderWay s d
    way = record { start = may.under_way.start; turns = may.under_way.turns ++ u ∷ []; after = made may.under_way.start may.under_way.turns may.under_way.after }

    stepped : d ≡ core_step s c u
    stepped =
        let base = core_of may.under_way.start.system in
        way.after.state ∙ (after_more s base may.under_way.turns u ∙ ap (λ (b : CoreState). core_step s b u) (sym may.under_way.after.state))

    by_event : (o : Option events.Event) → event_of s c u ≡ o → Some e ≡ option_map (told n) o → is_close e ≡ false → AreAsked s d among
    by_event None happens told_is still = absurd (none-some e (sym told_is))
    by_event (Some m) happens told_is still =
        let still_then : is_close (told n m) ≡ false = ap is_close (sym (same_Some e (told n m) told_is)) ∙ still in
        subst (λ (b : CoreState). AreAsked s b among) (sym (stepped ∙ ap (λ (o : Option events.Event). if_there o c (happened s c u)) happens))
        (asked_still s c u n m may.enabled still_then asked among h found)

    by_close : (b : Bool) → is_close e ≡ b → next ≡ cond b (range_with_len 0 (length d.users)) among → AreAsked s d next
    by_close true closed then = asked_all s d way next then
    by_close false still then = subst (AreAsked s d) (sym then) (by_event (event_of s c u) refl tells still)
