-- A run in drawn turns, on its way and at its end. States docs/program.md, "Turns".
use Rattle.std.proofs.Common.{◌≡◌, ℕ, zero, suc, ◌-◌, ◌<◌, ◌≤◌, Bool, true, false, cond, List, [], ◌∷◌, ◌++◌, length, get_or, Option, Some, None, refl, sym, ap, ◌∙◌, ◌⊎◌, inl, inr, subst, arith}
use Rattle.std.specs.Prelude.{◌%◌, ◌==◌, ◌&&◌, not, slice_get, IsTrue}
use Rattle.std.specs.List.{list_all}
use Rattle.std.proofs.lemmas.Nat.{mod_below}
use Rattle.std.proofs.lemmas.Bool.{true≢false, eqb-true, cases_eq}
use Rattle.std.proofs.lemmas.Grind.{not_there}
use Rattle.std.proofs.lemmas.Option.{none-some, same_Some, slice_get_within, slice_get-get_or}
use Rattle.psos_text.specs.Draws.{first_draw, next_draw}
use Rattle.psos_calls.specs.Language.Script.{Script}
use Rattle.psos_calls.specs.Language.Tests.{if_there}
use Rattle.psos_calls.specs.Language.User.{User}
use Rattle.psos_model.specs.Run.{is_left, has_left}
use Rattle.psos_model.specs.Replay.{replay_from, order_of}
use Rattle.psos_model.specs.Events.{CoreState, core_of, core_step, core_after, is_enabled, AreEnabled}
use Rattle.psos_model.specs.Events.Turns.{enabled_in, picked, AreDrawn, IsTurnsOrderFrom}
use Rattle.psos_model.proofs.RequestsLeft.{fails}
use Rattle.psos_events.specs.Events.{system_in, gone}
use Rattle.psos_events.proofs.EndState.{events_end}
use Rattle.psos_events.proofs.EventBound.{events_go_on}
use Rattle.psos_events.proofs.Progress.{never_stuck}
use Rattle.psos_events.proofs.ReplayInvariant.{stands_now}
use Rattle.psos_core.specs.EventStates.{HasLed, IsUnderWay, GoesOn}
use Rattle.psos_core.specs.Events.{MayHappen}
use Rattle.psos_core.specs.Serving.{Start, IsFrontFrom, AreSettledFrom, IsRunFrom}
use Rattle.psos_core.proofs.EventRun.{done}
use Rattle.psos_core.proofs.WholeRuns.{front_of, run_of}

-- ---- one event more at the end

pub after_more : (s : Script) (c : CoreState) (us : List ℕ) (u : ℕ) → core_after s c (us ++ u ∷ []) ≡ core_step s (core_after s c us) u
after_more s c [] u = refl
after_more s c (v ∷ us) u = after_more s (core_step s c v) us u

pub enabled_more : (s : Script) (c : CoreState) (us : List ℕ) (u : ℕ) → AreEnabled s c us → IsTrue (is_enabled s (core_after s c us) u) → AreEnabled s c (us ++ u ∷ [])
enabled_more s c [] u h may = (may, tt)
enabled_more s c (v ∷ us) u h may = (h.0, enabled_more s (core_step s c v) us u h.1 may)

-- user u's event has led on
pub led_more : (s : Script) (c d : CoreState) (start : Start) (turns : List ℕ) (u : ℕ) → HasLed s c start turns → IsTrue (is_enabled s c u) → d ≡ core_step s c u → HasLed s d start (turns ++ u ∷ [])
led_more s c d start turns u h may stepped =
    let base = core_of start.system in
    record {
      starts = h.starts;
      enabled = enabled_more s base turns u h.enabled (subst (λ (e : CoreState). IsTrue (is_enabled s e u)) h.state may);
      state = stepped ∙ (ap (λ (e : CoreState). core_step s e u) h.state ∙ sym (after_more s base turns u));
    }

-- a run that stopped at it was led as far, or so much further
pub led_still : (s : Script) (c d : CoreState) (start : Start) (turns : List ℕ) (u : ℕ) → HasLed s c start turns → IsTrue (is_enabled s c u) → (d ≡ c) ⊎ (d ≡ core_step s c u)
    → HasLed s d start turns ⊎ HasLed s d start (turns ++ u ∷ [])
led_still s c d start turns u h may (inl same) = inl (record { starts = h.starts; enabled = h.enabled; state = same ∙ h.state })
led_still s c d start turns u h may (inr stepped) = inr (led_more s c d start turns u h may stepped)

-- the script of a core stays
pub led_by : (s t : Script) (c d : CoreState) (u : ℕ) → t ≡ s → ((start : Start) (turns : List ℕ) → HasLed s c start turns → HasLed t d start (turns ++ u ∷ []))
    → (start : Start) (turns : List ℕ) → HasLed s c start turns → HasLed s d start (turns ++ u ∷ [])
led_by s t c d u same made start turns h = subst (λ (z : Script). HasLed z d start (turns ++ u ∷ [])) same (made start turns h)

-- either way events have led there
pub way_on : (s : Script) (d : CoreState) (start : Start) (turns : List ℕ) (u : ℕ) → HasLed s d start turns ⊎ HasLed s d start (turns ++ u ∷ []) → IsUnderWay s d
way_on s d start turns u (inl h) = record { start = start; turns = turns; after = h }
way_on s d start turns u (inr h) = record { start = start; turns = turns ++ u ∷ []; after = h }

-- the generator after the turns of these users
abbrev pub drawn_at : ℕ → List ℕ → ℕ
drawn_at x [] = x
drawn_at x (u ∷ us) = drawn_at (next_draw x) us

pub drawn_at_more : (x : ℕ) (us : List ℕ) (u : ℕ) → drawn_at x (us ++ u ∷ []) ≡ next_draw (drawn_at x us)
drawn_at_more x [] u = refl
drawn_at_more x (v ∷ us) u = drawn_at_more (next_draw x) us u

pub drawn_more : (s : Script) (c : CoreState) (x : ℕ) (us : List ℕ) (u : ℕ) → AreDrawn s c x us
    → picked (next_draw (drawn_at x us)) (enabled_in s (core_after s c us) (core_after s c us).users) ≡ Some u → AreDrawn s c x (us ++ u ∷ [])
drawn_more s c x [] u h one = (one, tt)
drawn_more s c x (v ∷ us) u h one = (h.0, drawn_more s (core_step s c v) (next_draw x) us u h.1 one)

-- ---- the turns so far

-- events have led here, each of a user that was drawn
pub record IsDrawn (s : Script) (c : CoreState) (start : Start) (seed x : ℕ) : Type 0 where
  pub turns : List ℕ
  pub after : HasLed s c start turns
  pub drawn : AreDrawn s (core_of start.system) (first_draw seed) turns
  pub here : x ≡ drawn_at (first_draw seed) turns

abbrev pub under_way : (s : Script) (c : CoreState) (start : Start) (seed x : ℕ) → IsDrawn s c start seed x → IsUnderWay s c
under_way s c start seed x h = record { start = start; turns = h.turns; after = h.after }

-- ---- who may go on

-- each user stands at the place of its number
pub numbers : (s : Script) (c : CoreState) (h : IsUnderWay s c) (u : ℕ) (x : User) → slice_get c.users u ≡ Some x → x.number ≡ u
numbers s c h u x here =
    let f = h.start.flat in
    let d = done s c h in
    let now = stands_now s h.start.system f c h.after.starts d in
    (now.sound.users u x (ap (λ (us : List User). slice_get us u) (sym (d.users ∙ now.stands.users)) ∙ here)).number

-- where nobody may go on, this user may not
none_may : (s : Script) (c : CoreState) (xs : List User) (u : ℕ) (x : User) → enabled_in s c xs ≡ [] → slice_get xs u ≡ Some x → is_enabled s c x.number ≡ false
none_may s c [] u x none here = absurd (none-some x here)
none_may s c (z ∷ xs) u x none here = by_test (λ k rest there. none_may s c xs k x rest there) (is_enabled s c z.number) refl none u here
  where
    by_test : ((k : ℕ) → enabled_in s c xs ≡ [] → slice_get xs k ≡ Some x → is_enabled s c x.number ≡ false) → (b : Bool) → is_enabled s c z.number ≡ b
        → cond b (z.number ∷ enabled_in s c xs) (enabled_in s c xs) ≡ [] → (u : ℕ) → slice_get (z ∷ xs) u ≡ Some x → is_enabled s c x.number ≡ false
    by_test others true e some u there = absurd cc
    by_test others false e rest zero there = ap (λ (w : User). is_enabled s c w.number) (sym (same_Some z x there)) ∙ e
    by_test others false e rest (suc k) there = others k rest there

-- who may go on is a user
record IsThere (c : CoreState) (u : ℕ) : Type 0 where
  user : User
  here : slice_get c.users u ≡ Some user

there : (s : Script) (c : CoreState) (u : ℕ) → is_enabled s c u ≡ true → IsThere c u
there s c u may = by_user (slice_get c.users u) refl
  where
    by_user : (o : Option User) → slice_get c.users u ≡ o → IsThere c u
    by_user (Some x) e = record { user = x; here = e }
    by_user None e =
        let nothing : has_left s c.users u ≡ false = ap (λ (o : Option User). if_there o false (λ x. is_left s c.users x)) e in
        let none : is_enabled s c u ≡ false = rw nothing refl in
        absurd (true≢false (sym may ∙ none))

-- where not all fail a test, one passes it
pub somebody_left : {X : Type 0} (test : X → Bool) (xs : List X) → list_all (fails test) xs ≡ false → (u : ℕ) × (if_there (slice_get xs u) false test ≡ true)
somebody_left test [] h = absurd (true≢false h)
somebody_left test (x ∷ xs) h = by_test (test x) refl (somebody_left test xs) h
  where
    by_test : (b : Bool) → test x ≡ b → (list_all (fails test) xs ≡ false → (u : ℕ) × (if_there (slice_get xs u) false test ≡ true)) → (not b && list_all (fails test) xs) ≡ false
        → (u : ℕ) × (if_there (slice_get (x ∷ xs) u) false test ≡ true)
    by_test true e rest h = (0, e)
    by_test false e rest h = (suc (rest h).0, (rest h).1)

-- while a user has a request left, some user may go on
pub somebody_may : (s : Script) (c : CoreState) → IsUnderWay s c → (u : ℕ) → has_left s c.users u ≡ true → (v : ℕ) × IsTrue (is_enabled s c v)
somebody_may s c h u left =
    subst (λ (d : CoreState). has_left s d.users u ≡ true → (v : ℕ) × IsTrue (is_enabled s d v)) (sym h.after.state) (never_stuck s h.start.system h.start.flat h.turns h.after.starts h.after.enabled u) left

-- a number below a bound that passes a test, or none does
first_below : (test : ℕ → Bool) (n : ℕ) → ((v : ℕ) × (test v ≡ true)) ⊎ ((v : ℕ) → v < n → test v ≡ false)
first_below test zero = inr (λ v less. absurd (omega (arith, less)))
first_below test (suc n) = by_last (test n) refl (first_below test n)
  where
    by_last : (b : Bool) → test n ≡ b → ((v : ℕ) × (test v ≡ true)) ⊎ ((v : ℕ) → v < n → test v ≡ false) → ((v : ℕ) × (test v ≡ true)) ⊎ ((v : ℕ) → v < suc n → test v ≡ false)
    by_last true e h = inl (n, e)
    by_last false e (inl found) = inl found
    by_last false e (inr none) = inr (λ v less. by_place v less (cases_eq v n))
      where
        by_place : (v : ℕ) → v < suc n → (v ≡ n) ⊎ (v ≡ n → ⊥) → test v ≡ false
        by_place v less (inl same) = ap test same ∙ e
        by_place v less (inr apart) = none v (omega (arith, less, apart))

-- of each core that goes on
pub somebody_goes : (s : Script) (c : CoreState) → ∥ GoesOn s c ∥₁ → (u : ℕ) → has_left s c.users u ≡ true → (v : ℕ) × IsTrue (is_enabled s c v)
somebody_goes s c goes u left = by_search (first_below (λ v. is_enabled s c v) (length c.users))
  where
    one_goes : GoesOn s c → (v : ℕ) × IsTrue (is_enabled s c v)
    one_goes (inl way) = somebody_may s c way u left
    one_goes (inr over) = absurd (true≢false (sym left ∙ over.nobody u))

    by_search : ((v : ℕ) × (is_enabled s c v ≡ true)) ⊎ ((v : ℕ) → v < length c.users → is_enabled s c v ≡ false) → (v : ℕ) × IsTrue (is_enabled s c v)
    by_search (inl found) = found
    by_search (inr none) = absurd (not_there goes (λ go.
        let one = one_goes go in
        let at = there s c one.0 one.1 in
        true≢false (sym one.1 ∙ none one.0 (slice_get_within c.users one.0 at.user at.here))))

-- so where nobody may go on, nobody has a request left
pub over_now : (s : Script) (c : CoreState) (h : IsUnderWay s c) → enabled_in s c c.users ≡ [] → (u : ℕ) → has_left s c.users u ≡ false
over_now s c h none u = by_test (has_left s c.users u) refl
  where
    by_test : (b : Bool) → has_left s c.users u ≡ b → b ≡ false
    by_test false e = refl
    by_test true e =
        let free = somebody_may s c h u e in
        let one = there s c free.0 free.1 in
        let not_one = none_may s c c.users free.0 one.user none one.here in
        absurd (true≢false (sym free.1 ∙ (ap (is_enabled s c) (sym (numbers s c h free.0 one.user one.here)) ∙ not_one)))

-- who is among those that may go on, may
among_may : (s : Script) (c : CoreState) (xs : List User) (k u : ℕ) → slice_get (enabled_in s c xs) k ≡ Some u → is_enabled s c u ≡ true
among_may s c [] k u here = absurd (none-some u here)
among_may s c (z ∷ xs) k u here = by_test (λ k rest. among_may s c xs k u rest) (is_enabled s c z.number) refl k here
  where
    by_test : ((k : ℕ) → slice_get (enabled_in s c xs) k ≡ Some u → is_enabled s c u ≡ true) → (b : Bool) → is_enabled s c z.number ≡ b → (k : ℕ)
        → slice_get (cond b (z.number ∷ enabled_in s c xs) (enabled_in s c xs)) k ≡ Some u → is_enabled s c u ≡ true
    by_test others true e zero first = ap (is_enabled s c) (sym (same_Some z.number u first)) ∙ e
    by_test others true e (suc k) rest = others k rest
    by_test others false e k rest = others k rest

-- the one that is drawn may go on
pub drawn_may : (s : Script) (c : CoreState) (h : IsUnderWay s c) (x u : ℕ) → picked x (enabled_in s c c.users) ≡ Some u → MayHappen s c u
drawn_may s c h x u drawn =
    let may = among_may s c c.users (x % length (enabled_in s c c.users)) u drawn in
    let one = there s c u may in
    record {
      user = omega (arith, slice_get_within c.users u one.user one.here, (done s c h).users_all);
      under_way = h;
      enabled = may;
    }

-- whether there is anybody
pub none_in : (us : List ℕ) → (length us == 0) ≡ true → us ≡ []
none_in us none = by_list us (eqb-true (length us) 0 none)
  where
    by_list : (us : List ℕ) → length us ≡ 0 → us ≡ []
    by_list [] none = refl
    by_list (u ∷ us) none = absurd (omega (arith, none))

some_in : (us : List ℕ) → (length us == 0) ≡ false → 0 < length us
some_in [] some = absurd (true≢false some)
some_in (u ∷ us) some = omega arith

-- the one that is drawn stands at the place that was picked, where there is one
pub picked_is : (us among slots : List ℕ) (x k n d : ℕ) (empty : Bool) → among ≡ us → slots ≡ among → n ≡ length among → k ≡ x % n → empty ≡ (length among == 0) → empty ≡ false
    → picked x us ≡ Some (get_or slots k d)
picked_is us among slots x k n d empty all same many is tells some =
    let place : k ≡ x % length us = is ∙ ap (λ (m : ℕ). x % m) (many ∙ ap length all) in
    let one : 0 < length us = some_in us (ap (λ (vs : List ℕ). length vs == 0) (sym all) ∙ (sym tells ∙ some)) in
    let below : k < length us = subst (λ (j : ℕ). j < length us) (sym place) (mod_below x (length us) one) in
    ap (slice_get us) (sym place) ∙ (slice_get-get_or us k d below ∙ ap (λ (xs : List ℕ). Some (get_or xs k d)) (sym (same ∙ all)))

-- ---- the end

-- wherever events have led, the requests so far are a front of a run
pub front_here : (s : Script) (c : CoreState) (start : Start) (turns : List ℕ) → HasLed s c start turns → IsFrontFrom s start.system start.flat c.entries
front_here s c start turns h =
    let d = done s c (record { start = start; turns = turns; after = h }) in
    front_of s start.system start.flat c.entries h.starts d.legal d.entries

-- also where the run stopped at an event
pub front_on : (s : Script) (d : CoreState) (start : Start) (turns : List ℕ) (u : ℕ) → HasLed s d start turns ⊎ HasLed s d start (turns ++ u ∷ []) → IsFrontFrom s start.system start.flat d.entries
front_on s d start turns u (inl h) = front_here s d start turns h
front_on s d start turns u (inr h) = front_here s d start (turns ++ u ∷ []) h

-- and the users' own parts are settled as in its replay
pub settled_here : (s : Script) (c : CoreState) (start : Start) (turns : List ℕ) → HasLed s c start turns → AreSettledFrom s start.system c.entries c.users
settled_here s c start turns h = record { users-are = (done s c (record { start = start; turns = turns; after = h })).users }

pub settled_on : (s : Script) (d : CoreState) (start : Start) (turns : List ℕ) (u : ℕ) → HasLed s d start turns ⊎ HasLed s d start (turns ++ u ∷ []) → AreSettledFrom s start.system d.entries d.users
settled_on s d start turns u (inl h) = settled_here s d start turns h
settled_on s d start turns u (inr h) = settled_here s d start (turns ++ u ∷ []) h

-- where nobody has a request left, the run is whole, and its order is that of the turns
pub whole : (s : Script) (c : CoreState) (start : Start) (seed x : ℕ) (h : IsDrawn s c start seed x) → ((u : ℕ) → has_left s c.users u ≡ false)
    → IsRunFrom s start.system start.flat (IsTurnsOrderFrom s start.system seed) c.entries (system_in c)
whole s c start seed x h over =
    let y = start.system in
    let left : system_in c ≡ replay_from s y (order_of c.entries) =
    subst (λ (e : CoreState). ((u : ℕ) → has_left s e.users u ≡ false) → system_in e ≡ replay_from s y (order_of e.entries)) (sym h.after.state) (events_end s y start.flat h.turns h.after.starts h.after.enabled) over in
    run_of s y start.flat (system_in c) (IsTurnsOrderFrom s y seed) c.entries h.after.starts (front_here s c start h.turns h.after) (record {
      turns = h.turns;
      drawn = h.drawn;
      over = λ u. ap (λ (e : CoreState). has_left s e.users u) (sym h.after.state) ∙ over u;
      closes = ap (λ (e : CoreState). order_of e.entries) (sym h.after.state);
    }) left over

-- ---- one turn

-- the user that was drawn has made its event
pub one_turn : (s : Script) (c d : CoreState) (start : Start) (seed x u : ℕ) (h : IsDrawn s c start seed x)
    → picked (next_draw x) (enabled_in s c c.users) ≡ Some u → ((turns : List ℕ) → HasLed s c start turns → HasLed s d start (turns ++ u ∷ [])) → IsDrawn s d start seed (next_draw x)
one_turn s c d start seed x u h one made =
    let base = core_of start.system in
    let P : CoreState → ℕ → Type 0 = λ e z. picked (next_draw z) (enabled_in s e e.users) ≡ Some u in
    record {
      turns = h.turns ++ u ∷ [];
      after = made h.turns h.after;
      drawn = drawn_more s base (first_draw seed) h.turns u h.drawn (subst (λ (z : ℕ). P (core_after s base h.turns) z) h.here (subst (λ (e : CoreState). P e x) h.after.state one));
      here = ap next_draw h.here ∙ sym (drawn_at_more (first_draw seed) h.turns u);
    }

-- each turn goes further, and there is a bound
pub goes_further : (s : Script) (c d : CoreState) (u : ℕ) → MayHappen s c u → ((start : Start) (turns : List ℕ) → HasLed s c start turns → HasLed s d start (turns ++ u ∷ []))
    → 2000000 - gone d < 2000000 - gone c
goes_further s c d u may made =
    let h = may.under_way in
    let y = h.start.system in
    let f = h.start.flat in
    let base = core_of y in
    let then = made h.start h.turns h.after in
    let more : gone c < gone (core_step s c u) =
    subst (λ (e : CoreState). IsTrue (is_enabled s e u) → gone e < gone (core_step s e u)) (sym h.after.state) ((events_go_on s y f h.turns h.after.starts h.after.enabled).1 u) may.enabled in
    let most : gone d ≤ 2000000 = subst (λ (e : CoreState). gone e ≤ 2000000) (sym then.state) (events_go_on s y f (h.turns ++ u ∷ []) then.starts then.enabled).0 in
    let same : d ≡ core_step s c u = then.state ∙ (after_more s base h.turns u ∙ ap (λ (e : CoreState). core_step s e u) (sym h.after.state)) in
    omega (arith, more, most, ap gone same)
