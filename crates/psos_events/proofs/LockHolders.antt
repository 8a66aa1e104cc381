-- The locks and the open traces of all users, and the levels that they leave.
use Rattle.std.proofs.Common.{◌≡◌, ℕ, ◌⊎◌, Bool, true, false, List, [], ◌∷◌, ◌++◌, refl, sym, ap, ◌∙◌, inl, inr, subst}
use Rattle.std.proofs.lemmas.Bool.{true≢false, cases_eq, or_cases, or_parts}
use Rattle.psos_calls.specs.declared.lock_id.LockId.{LockId}
use Rattle.psos_calls.specs.declared.step.Step.{Step}
use Rattle.psos_calls.specs.Levels.Calls.{LevelCall}
use Rattle.psos_calls.specs.Levels.{Levels, act}
use Rattle.psos_calls.specs.Locks.Held.{same_lock, is_lock, is_held}
use Rattle.psos_calls.specs.Locks.{lock_of}
use Rattle.psos_model.specs.Events.Serial.{traced}
use Rattle.psos_events.proofs.MailboxRows.{NoOthers}
use Rattle.psos_events.proofs.LockScope.{Same, same_back, same_then, same_lock_is, others_stay, no_strangers}
use Rattle.psos_events.proofs.OpenTraces.{AreLocks, Covers, covers_more, covers_wider, traced_more, traced_strangers, traced_stays, apart_by_held, Seen, seen_after, seen_traced, step_of}

-- one of many is set, and the others stay
pub record IsSet {X : Type 0} (before after : ℕ → X) (u : ℕ) (x : X) : Type 0 where
  pub here : after u ≡ x
  pub others : (v : ℕ) → (v ≡ u → ⊥) → after v ≡ before v

-- what holds of the one, and of the others as they were, holds of each
pub by_set : {X : Type 0} {before after : ℕ → X} {u : ℕ} {x : X} (P : ℕ → X → Type 0) → IsSet before after u x → P u x → ((v : ℕ) → (v ≡ u → ⊥) → P v (before v)) → (v : ℕ) → P v (after v)
by_set {X} {before} {after} {u} {x} P set mine others v = elim (cases_eq v u) [
  | inl same ↦ subst (λ (w : ℕ). P w (after w)) (sym same) (subst (P u) (sym set.here) mine)
  | inr apart ↦ subst (P v) (sym (set.others v apart)) (others v apart)
]

-- no user holds the lock
abbrev pub IsLeft : (ℕ → List LockId) → LockId → Type 0
IsLeft held k = (u : ℕ) → is_held (held u) k ≡ false

-- each lock has one holder; the calls of a trace are under locks of its user; what lies under a lock is as it was, but for the calls of its holder's trace
pub record AreApart (n : ℕ) (held : ℕ → List LockId) (trace : ℕ → List Step) (base now : Levels) : Type 0 where
  pub locks : (u : ℕ) → AreLocks n (held u)
  pub one : (u v : ℕ) (k : LockId) → is_held (held u) k ≡ true → is_held (held v) k ≡ true → u ≡ v
  pub covers : (u : ℕ) → Covers n (held u) (trace u)
  pub first : NoOthers n base.boxes
  pub second : NoOthers n now.boxes
  pub free : (k : LockId) → is_lock n k ≡ true → IsLeft held k → Same k now base
  pub own : (u : ℕ) (k : LockId) → is_held (held u) k ≡ true → Same k now (traced base (trace u))

module _ {n : ℕ} {held : ℕ → List LockId} {trace : ℕ → List Step} {base now : Levels} (h : AreApart n held trace base now) where
  -- a lock of one user is no lock of another
  pub not_held : (u v : ℕ) (k : LockId) → (u ≡ v → ⊥) → is_held (held u) k ≡ true → is_held (held v) k ≡ false
  not_held u v k apart mine = by_test (is_held (held v) k) refl
    where
      by_test : (t : Bool) → is_held (held v) k ≡ t → t ≡ false
      by_test false e = refl
      by_test true e = absurd (apart (h.one u v k mine e))

  -- ---- user u takes a lock that nobody holds

  module _ (u : ℕ) (k : LockId) (lock : is_lock n k ≡ true) (left : IsLeft held k) {more : ℕ → List LockId} (set : IsSet held more u (k ∷ held u)) where
    -- what is held now was held, or is that lock
    record WasHeld (v : ℕ) (j : LockId) : Type 0 where
      was : ((v ≡ u) × (k ≡ j)) ⊎ (is_held (held v) j ≡ true)

    was_held : (v : ℕ) (j : LockId) → is_held (more v) j ≡ true → WasHeld v j
    was_held v j = by_set (λ w locks. is_held locks j ≡ true → WasHeld w j) set
        (λ e. elim (or_cases (same_lock k j) (is_held (held u) j) e) [
          | inl same ↦ record { was = inl (refl, same_lock_is k j same) }
          | inr old ↦ record { was = inr old }
        ])
        (λ w apart e. record { was = inr e }) v

    still_held : (v : ℕ) (j : LockId) → is_held (more v) j ≡ false → is_held (held v) j ≡ false
    still_held v j = by_set (λ w locks. is_held locks j ≡ false → is_held (held w) j ≡ false) set
        (λ e. (or_parts (same_lock k j) (is_held (held u) j) e).1) (λ w apart e. e) v

    one_taker : (v w : ℕ) (j : LockId) → ((v ≡ u) × (k ≡ j)) ⊎ (is_held (held v) j ≡ true) → ((w ≡ u) × (k ≡ j)) ⊎ (is_held (held w) j ≡ true) → v ≡ w
    one_taker v w j (inl mine) (inl too) = mine.0 ∙ sym too.0
    one_taker v w j (inl mine) (inr old) = absurd (true≢false (sym old ∙ (ap (is_held (held w)) (sym mine.1) ∙ left w)))
    one_taker v w j (inr old) (inl mine) = absurd (true≢false (sym old ∙ (ap (is_held (held v)) (sym mine.1) ∙ left v)))
    one_taker v w j (inr old) (inr too) = h.one v w j old too

    pub taken_apart : AreApart n more trace base now
    taken_apart = record {
      locks = λ v. record {
        some = (h.locks v).some;
        each = λ j e. elim (was_held v j e).was [
          | inl mine ↦ subst (λ (x : LockId). is_lock n x ≡ true) mine.1 lock
          | inr old ↦ (h.locks v).each j old
        ];
      };
      one = λ v w j e g. one_taker v w j (was_held v j e).was (was_held w j g).was;
      covers = by_set (λ w locks. Covers n locks (trace w)) set (covers_wider n k (held u) (trace u) (h.covers u)) (λ w apart. h.covers w);
      first = h.first;
      second = h.second;
      free = λ j is none. h.free j is (λ v. still_held v j (none v));
      own = λ v j e. elim (was_held v j e).was [
        | inl mine ↦
            let nobody : IsLeft held j = subst (IsLeft held) mine.1 left in
            let is : is_lock n j ≡ true = subst (λ (x : LockId). is_lock n x ≡ true) mine.1 lock in
            same_then (h.free j is nobody) (same_back (traced_stays n (held v) base (trace v) j (h.locks v).some (h.covers v) is (nobody v)))
        | inr old ↦ h.own v j old
      ];
    }

  -- ---- user u makes a call under a lock that it holds

  module _ (u : ℕ) (call : LevelCall) (mine : is_held (held u) (lock_of n call) ≡ true) {longer : ℕ → List Step} (set : IsSet trace longer u (trace u ++ step_of now call ∷ [])) where
    own_call : (j : LockId) → is_held (held u) j ≡ true → Same j (act now call).0 (traced base (trace u ++ step_of now call ∷ []))
    own_call j e =
        let seen : Seen n (held u) now (traced base (trace u)) = record { under = h.own u; first = h.second; second = traced_strangers n base (trace u) h.first } in
        subst (λ (l : Levels). Same j (act now call).0 l) (sym (traced_more base (trace u) (step_of now call))) ((seen_after n (held u) now (traced base (trace u)) call (h.locks u) mine seen).under j e)

    other_call : (v : ℕ) → (v ≡ u → ⊥) → (j : LockId) → is_held (held v) j ≡ true → Same j (act now call).0 (traced base (trace v))
    other_call v apart j e =
        let differ : same_lock j (lock_of n call) ≡ false = apart_by_held (held u) j (lock_of n call) (not_held v u j apart e) mine in
        same_then (others_stay n (h.locks u).some now call j ((h.locks v).each j e) differ) (h.own v j e)

    pub called_apart : AreApart n held longer base (act now call).0
    called_apart = record {
      locks = h.locks;
      one = h.one;
      covers = by_set (λ w steps. Covers n (held w) steps) set (covers_more n (held u) (trace u) (step_of now call) (h.covers u) mine) (λ w apart. h.covers w);
      first = h.first;
      second = no_strangers n now call h.second;
      free = λ j is none. same_then (others_stay n (h.locks u).some now call j is (apart_by_held (held u) j (lock_of n call) (none u) mine)) (h.free j is none);
      own = by_set (λ w steps. (j : LockId) → is_held (held w) j ≡ true → Same j (act now call).0 (traced base steps)) set own_call other_call;
    }

  -- ---- user u closes its request

  -- what the others see is the same before its calls and after
  pub seen_closed : (u v : ℕ) → (v ≡ u → ⊥) → Seen n (held v) base (traced base (trace u))
  seen_closed u v apart = record {
    under = λ j e. same_back (traced_stays n (held u) base (trace u) j (h.locks u).some (h.covers u) ((h.locks v).each j e) (not_held v u j apart e));
    first = h.first;
    second = traced_strangers n base (trace u) h.first;
  }

  module _ (u : ℕ) {fewer : ℕ → List LockId} {rest : ℕ → List Step} (set : IsSet held fewer u []) (none : IsSet trace rest u []) where
    -- what is held still is another user's
    record IsAnothers (v : ℕ) (j : LockId) : Type 0 where
      apart : v ≡ u → ⊥
      was : is_held (held v) j ≡ true

    anothers : (v : ℕ) (j : LockId) → is_held (fewer v) j ≡ true → IsAnothers v j
    anothers v j = by_set (λ w locks. is_held locks j ≡ true → IsAnothers w j) set (λ e. absurd (true≢false (sym e))) (λ w apart e. record { apart = apart; was = e }) v

    -- a lock that nobody holds now was free, or user u's
    free_now : (j : LockId) → is_lock n j ≡ true → IsLeft fewer j → (t : Bool) → is_held (held u) j ≡ t → Same j now (traced base (trace u))
    free_now j is left true e = h.own u j e
    free_now j is left false e =
        let nobody : IsLeft held j = λ v. elim (cases_eq v u) [
          | inl same ↦ ap (λ (w : ℕ). is_held (held w) j) same ∙ e
          | inr apart ↦ ap (λ (locks : List LockId). is_held locks j) (sym (set.others v apart)) ∙ left v
        ] in
        same_then (h.free j is nobody) (same_back (traced_stays n (held u) base (trace u) j (h.locks u).some (h.covers u) is e))

    own_closed : (v : ℕ) → (v ≡ u → ⊥) → (j : LockId) → is_held (held v) j ≡ true → Same j now (traced (traced base (trace u)) (trace v))
    own_closed v apart j e =
        same_then (h.own v j e) ((seen_traced n (held v) base (traced base (trace u)) (trace v) (h.locks v) (h.covers v) (seen_closed u v apart)).under j e)

    pub closed_apart : AreApart n fewer rest (traced base (trace u)) now
    closed_apart = record {
      locks = λ v. record { some = (h.locks v).some; each = λ j e. (h.locks v).each j (anothers v j e).was };
      one = λ v w j e g. h.one v w j (anothers v j e).was (anothers w j g).was;
      covers = λ v. by_set (λ w locks. Covers n locks (rest w)) set (subst (λ (steps : List Step). Covers n [] steps) (sym none.here) tt)
          (λ w apart. subst (λ (steps : List Step). Covers n (held w) steps) (sym (none.others w apart)) (h.covers w)) v;
      first = traced_strangers n base (trace u) h.first;
      second = h.second;
      free = λ j is left. free_now j is left (is_held (held u) j) refl;
      own = λ v j e.
          let other = anothers v j e in
          subst (λ (steps : List Step). Same j now (traced (traced base (trace u)) steps)) (sym (none.others v other.apart)) (own_closed v other.apart j other.was);
    }
