-- A call reads and changes only what lies under its lock.
use Rattle.std.proofs.Common.{◌≡◌, ℕ, ◌-◌, ◌^◌, ◌<◌, Bool, true, false, cond, eqb, refl, sym, ap, ◌∙◌, ◌⊎◌, inl, inr, subst}
use Rattle.std.proofs.lemmas.Bool.{and_parts, eqb-true, eqb-false, eq-eqb, lt-ltb, ltb-true, and_from, true≢false}
use Rattle.psos_table.specs.Table.{at}
use Rattle.psos_calls.specs.declared.level.Level.{Level}
use Rattle.psos_calls.specs.declared.level.Level.TheVariants.{L13, L12, L11, L10, L9, L8, L7, L0}
use Rattle.psos_calls.specs.declared.lock_id.LockId.{LockId}
use Rattle.psos_calls.specs.Levels.Answers.{LevelAnswer}
use Rattle.psos_calls.specs.Levels.Calls.{LevelCall}
use Rattle.psos_calls.specs.declared.level_call.LevelCall.TheVariants.{Post, Draw}
use Rattle.psos_calls.specs.Levels.Level13.{act13, Can13}
use Rattle.psos_calls.specs.Levels.Level11.{act11, Can11}
use Rattle.psos_calls.specs.Levels.Level10.{act10, Can10}
use Rattle.psos_calls.specs.Levels.Level9.{act9, Can9}
use Rattle.psos_calls.specs.Levels.Level8.{act8, Can8}
use Rattle.psos_calls.specs.Levels.Level7.{act7, Can7}
use Rattle.psos_calls.specs.Levels.{Levels, level_of, act0, act_at, act, Can_at, Can}
use Rattle.psos_calls.specs.Locks.Held.{rank, same_lock, is_lock}
use Rattle.psos_calls.specs.Locks.{box_of, part_of, lock_of}
use Rattle.psos_model.specs.Flat.Boot.{process_of}
use Rattle.psos_model.specs.Events.Serial.{SameAt}
use Rattle.psos_events.proofs.MailboxRows.{NoOthers, others_none, boxes_agree, boxes_can, boxes_stay, box_below}

-- ---- what lies under a lock is the same

-- as a record, where a lock is to be found
pub record Same (k : LockId) (a b : Levels) : Type 0 where
  pub at_lock : SameAt k.level k.part a b

same_refl : (level : Level) (part : ℕ) (a : Levels) → SameAt level part a a
same_refl L13 part a = refl
same_refl L12 part a = refl
same_refl L11 part a = refl
same_refl L10 part a = refl
same_refl L9 part a = refl
same_refl L8 part a = refl
same_refl L7 part a = refl
same_refl L0 part a = refl

same_sym : (level : Level) (part : ℕ) (a b : Levels) → SameAt level part a b → SameAt level part b a
same_sym L13 part a b h = sym h
same_sym L12 part a b h = sym h
same_sym L11 part a b h = sym h
same_sym L10 part a b h = sym h
same_sym L9 part a b h = sym h
same_sym L8 part a b h = sym h
same_sym L7 part a b h = sym h
same_sym L0 part a b h = sym h

same_trans : (level : Level) (part : ℕ) (a b c : Levels) → SameAt level part a b → SameAt level part b c → SameAt level part a c
same_trans L13 part a b c h g = h ∙ g
same_trans L12 part a b c h g = h ∙ g
same_trans L11 part a b c h g = h ∙ g
same_trans L10 part a b c h g = h ∙ g
same_trans L9 part a b c h g = h ∙ g
same_trans L8 part a b c h g = h ∙ g
same_trans L7 part a b c h g = h ∙ g
same_trans L0 part a b c h g = h ∙ g

pub stays_same : (k : LockId) (a : Levels) → Same k a a
stays_same k a = record { at_lock = same_refl k.level k.part a }

pub same_back : {k : LockId} {a b : Levels} → Same k a b → Same k b a
same_back {k} {a} {b} h = record { at_lock = same_sym k.level k.part a b h.at_lock }

pub same_then : {k : LockId} {a b c : Levels} → Same k a b → Same k b c → Same k a c
same_then {k} {a} {b} {c} h g = record { at_lock = same_trans k.level k.part a b c h.at_lock g.at_lock }

-- ---- locks

-- the level of a rank
abbrev level_at : ℕ → Level
level_at n =
    cond (eqb n 13) L13 (cond (eqb n 12) L12 (cond (eqb n 11) L11 (cond (eqb n 10) L10 (cond (eqb n 9) L9 (cond (eqb n 8) L8 (cond (eqb n 7) L7 L0))))))

level_back : (a : Level) → level_at (rank a) ≡ a
level_back L13 = refl
level_back L12 = refl
level_back L11 = refl
level_back L10 = refl
level_back L9 = refl
level_back L8 = refl
level_back L7 = refl
level_back L0 = refl

pub rank_level : (a b : Level) → rank a ≡ rank b → a ≡ b
rank_level a b e = sym (level_back a) ∙ ap level_at e ∙ level_back b

pub same_lock_is : (a b : LockId) → same_lock a b ≡ true → a ≡ b
same_lock_is a b e =
    let both = and_parts (eqb (rank a.level) (rank b.level)) (eqb a.part b.part) e in
    let level : a.level ≡ b.level = rank_level a.level b.level (eqb-true (rank a.level) (rank b.level) both.0) in
    let part : a.part ≡ b.part = eqb-true a.part b.part both.1 in
    ap (λ (l : Level). (let k : LockId = record { level = l; part = a.part } in k)) level ∙ ap (λ (n : ℕ). (let k : LockId = record { level = b.level; part = n } in k)) part

pub lock_is_lock : (users : ℕ) → 0 < users → (call : LevelCall) → is_lock users (lock_of users call) ≡ true
lock_is_lock users some (Post to word) = lt-ltb (box_of users to.uid) users (box_below users to.uid some)
lock_is_lock users some (Draw uid) = lt-ltb (box_of users uid.0) users (box_below users uid.0 some)
lock_is_lock users some _ = refl

-- two different locks are of two levels, or two mailboxes
abbrev DifferBy : LockId → LockId → Type 0
DifferBy a b = (a.level ≡ b.level → ⊥) ⊎ ((a.level ≡ L12) × (b.level ≡ L12) × (a.part ≡ b.part → ⊥))

part_zero : (users : ℕ) (level : Level) (part : ℕ) → (level ≡ L12 → ⊥) → is_lock users (record { level = level; part = part }) ≡ true → part ≡ 0
part_zero users L13 part other h = eqb-true part 0 h
part_zero users L12 part other h = absurd (other refl)
part_zero users L11 part other h = eqb-true part 0 h
part_zero users L10 part other h = eqb-true part 0 h
part_zero users L9 part other h = eqb-true part 0 h
part_zero users L8 part other h = eqb-true part 0 h
part_zero users L7 part other h = eqb-true part 0 h
part_zero users L0 part other h = eqb-true part 0 h

differ : (users : ℕ) (a b : LockId) → is_lock users a ≡ true → is_lock users b ≡ true → same_lock a b ≡ false → DifferBy a b
differ users a b ia ib e = by_levels (eqb (rank a.level) (rank b.level)) refl (eqb (rank a.level) 12) refl
  where
    by_levels : (r : Bool) → eqb (rank a.level) (rank b.level) ≡ r → (t : Bool) → eqb (rank a.level) 12 ≡ t → DifferBy a b
    by_levels false er t et = inl (λ same. eqb-false (rank a.level) (rank b.level) er (ap rank same))
    by_levels true er true et =
        let both : rank a.level ≡ rank b.level = eqb-true (rank a.level) (rank b.level) er in
        let first : a.level ≡ L12 = rank_level a.level L12 (eqb-true (rank a.level) 12 et) in
        inr (
          first,
          rank_level b.level L12 (sym both ∙ eqb-true (rank a.level) 12 et),
          λ same.
              true≢false (sym (and_from (eqb (rank a.level) (rank b.level)) (eqb a.part b.part) er (eq-eqb a.part b.part same)) ∙ e),
        )
    by_levels true er false et =
        let both : rank a.level ≡ rank b.level = eqb-true (rank a.level) (rank b.level) er in
        let first : a.level ≡ L12 → ⊥ = λ is. eqb-false (rank a.level) 12 et (ap rank is) in
        let second : b.level ≡ L12 → ⊥ = λ is. first (rank_level a.level b.level both ∙ is) in
        let parts : a.part ≡ b.part = part_zero users a.level a.part first ia ∙ sym (part_zero users b.level b.part second ib) in
        absurd (true≢false (sym (and_from (eqb (rank a.level) (rank b.level)) (eqb a.part b.part) er (eq-eqb a.part b.part parts)) ∙ e))

-- ---- a call under its lock

-- two calls leave the same under the lock, and answer the same
pub record Alike (level : Level) (part : ℕ) (r q : Levels × LevelAnswer) : Type 0 where
  pub answer : r.1 ≡ q.1
  pub same : SameAt level part r.0 q.0

alike_at : (users : ℕ) (a b : Levels) (call : LevelCall) (level : Level) → NoOthers users a.boxes → NoOthers users b.boxes
    → SameAt level (part_of users call) a b → Alike level (part_of users call) (act_at level a call) (act_at level b call)
alike_at users a b call L13 h g e = record { answer = ap (λ s. (act13 s call).1) e; same = ap (λ s. (act13 s call).0) e }
alike_at users a b call L12 h g e =
    let both = boxes_agree users a.boxes b.boxes call h g e in
    record { answer = both.answer; same = both.row }
alike_at users a b call L11 h g e = record { answer = ap (λ s. (act11 s call).1) e; same = ap (λ s. (act11 s call).0) e }
alike_at users a b call L10 h g e = record { answer = ap (λ s. (act10 s call).1) e; same = ap (λ s. (act10 s call).0) e }
alike_at users a b call L9 h g e = record { answer = ap (λ s. (act9 s call).1) e; same = ap (λ s. (act9 s call).0) e }
alike_at users a b call L8 h g e = record { answer = ap (λ s. (act8 s call).1) e; same = ap (λ s. (act8 s call).0) e }
alike_at users a b call L7 h g e = record { answer = ap (λ s. (act7 s call).1) e; same = ap (λ s. (act7 s call).0) e }
alike_at users a b call L0 h g e = record { answer = ap (λ s. (act0 s call).1) e; same = ap (λ s. (act0 s call).0) e }

pub record ActsAlike (users : ℕ) (call : LevelCall) (a b : Levels) : Type 0 where
  pub answer : (act a call).1 ≡ (act b call).1
  pub same : Same (lock_of users call) (act a call).0 (act b call).0

-- from two states that are the same under the lock of a call
pub acts_alike : (users : ℕ) (a b : Levels) (call : LevelCall) → NoOthers users a.boxes → NoOthers users b.boxes → Same (lock_of users call) a b → ActsAlike users call a b
acts_alike users a b call h g e =
    let both = alike_at users a b call (level_of call) h g e.at_lock in
    record { answer = both.answer; same = record { at_lock = both.same } }

can_at : (users : ℕ) (a b : Levels) (call : LevelCall) (level : Level) → NoOthers users a.boxes → NoOthers users b.boxes
    → SameAt level (part_of users call) a b → Can_at level a call → Can_at level b call
can_at users a b call L13 h g e can = subst (λ s. Can13 s call) e can
can_at users a b call L12 h g e can = boxes_can users a.boxes b.boxes call h g e can
can_at users a b call L11 h g e can = subst (λ s. Can11 s call) e can
can_at users a b call L10 h g e can = subst (λ s. Can10 s call) e can
can_at users a b call L9 h g e can = subst (λ s. Can9 s call) e can
can_at users a b call L8 h g e can = subst (λ s. Can8 s call) e can
can_at users a b call L7 h g e can = subst (λ s. Can7 s call) e can
can_at users a b call L0 h g e can = subst (λ (n : ℕ). n < 2 ^ 64 - 1) e can

-- what can be called in one can be called in the other
pub can_alike : (users : ℕ) (a b : Levels) (call : LevelCall) → NoOthers users a.boxes → NoOthers users b.boxes → Same (lock_of users call) a b → Can a call → Can b call
can_alike users a b call h g e = can_at users a b call (level_of call) h g e.at_lock

-- ---- a call and all other locks

-- level by level
same_by : (level : Level) (part : ℕ) (a b : Levels)
    → ((level ≡ L13 → ⊥) ⊎ (a.codes ≡ b.codes)) → ((level ≡ L12 → ⊥) ⊎ (at a.boxes (process_of part) ≡ at b.boxes (process_of part)))
    → ((level ≡ L11 → ⊥) ⊎ (a.life ≡ b.life)) → ((level ≡ L10 → ⊥) ⊎ (a.dirs ≡ b.dirs)) → ((level ≡ L9 → ⊥) ⊎ (a.types ≡ b.types))
    → ((level ≡ L8 → ⊥) ⊎ (a.segs ≡ b.segs)) → ((level ≡ L7 → ⊥) ⊎ (a.pages ≡ b.pages)) → ((level ≡ L0 → ⊥) ⊎ (a.next ≡ b.next))
    → SameAt level part a b
same_by L13 part a b (inr e) _ _ _ _ _ _ _ = e
same_by L13 part a b (inl apart) _ _ _ _ _ _ _ = absurd (apart refl)
same_by L12 part a b _ (inr e) _ _ _ _ _ _ = e
same_by L12 part a b _ (inl apart) _ _ _ _ _ _ = absurd (apart refl)
same_by L11 part a b _ _ (inr e) _ _ _ _ _ = e
same_by L11 part a b _ _ (inl apart) _ _ _ _ _ = absurd (apart refl)
same_by L10 part a b _ _ _ (inr e) _ _ _ _ = e
same_by L10 part a b _ _ _ (inl apart) _ _ _ _ = absurd (apart refl)
same_by L9 part a b _ _ _ _ (inr e) _ _ _ = e
same_by L9 part a b _ _ _ _ (inl apart) _ _ _ = absurd (apart refl)
same_by L8 part a b _ _ _ _ _ (inr e) _ _ = e
same_by L8 part a b _ _ _ _ _ (inl apart) _ _ = absurd (apart refl)
same_by L7 part a b _ _ _ _ _ _ (inr e) _ = e
same_by L7 part a b _ _ _ _ _ _ (inl apart) _ = absurd (apart refl)
same_by L0 part a b _ _ _ _ _ _ _ (inr e) = e
same_by L0 part a b _ _ _ _ _ _ _ (inl apart) = absurd (apart refl)

-- a call at another level
other_level : (l : Levels) (call : LevelCall) (level : Level) (k : Level) (part : ℕ) → (k ≡ level → ⊥) → SameAt k part (act_at level l call).0 l
other_level l call L13 k part apart = same_by k part _ l (inl apart) (inr refl) (inr refl) (inr refl) (inr refl) (inr refl) (inr refl) (inr refl)
other_level l call L12 k part apart = same_by k part _ l (inr refl) (inl apart) (inr refl) (inr refl) (inr refl) (inr refl) (inr refl) (inr refl)
other_level l call L11 k part apart = same_by k part _ l (inr refl) (inr refl) (inl apart) (inr refl) (inr refl) (inr refl) (inr refl) (inr refl)
other_level l call L10 k part apart = same_by k part _ l (inr refl) (inr refl) (inr refl) (inl apart) (inr refl) (inr refl) (inr refl) (inr refl)
other_level l call L9 k part apart = same_by k part _ l (inr refl) (inr refl) (inr refl) (inr refl) (inl apart) (inr refl) (inr refl) (inr refl)
other_level l call L8 k part apart = same_by k part _ l (inr refl) (inr refl) (inr refl) (inr refl) (inr refl) (inl apart) (inr refl) (inr refl)
other_level l call L7 k part apart = same_by k part _ l (inr refl) (inr refl) (inr refl) (inr refl) (inr refl) (inr refl) (inl apart) (inr refl)
other_level l call L0 k part apart = same_by k part _ l (inr refl) (inr refl) (inr refl) (inr refl) (inr refl) (inr refl) (inr refl) (inl apart)

-- a call at another mailbox
other_box : (users : ℕ) (l : Levels) (call : LevelCall) (level : Level) (k : Level) (part : ℕ) → level ≡ L12 → k ≡ L12 → is_lock users (record { level = k; part = part }) ≡ true
    → (part ≡ part_of users call → ⊥) → SameAt k part (act_at level l call).0 l
other_box users l call level k part is mine lock apart =
    let below : is_lock users (record { level = L12; part = part }) ≡ true = ap (λ (x : Level). is_lock users (record { level = x; part = part })) (sym mine) ∙ lock in
    subst (λ (x : Level). SameAt x part (act_at level l call).0 l) (sym mine)
    (subst (λ (x : Level). SameAt L12 part (act_at x l call).0 l) (sym is) (boxes_stay users l.boxes call part (ltb-true part users below) apart))

-- what lies under any other lock stays
pub others_stay : (users : ℕ) → 0 < users → (l : Levels) (call : LevelCall) (k : LockId) → is_lock users k ≡ true → same_lock k (lock_of users call) ≡ false → Same k (act l call).0 l
others_stay users some l call k lock other = elim (differ users k (lock_of users call) lock (lock_is_lock users some call) other) [
  | inl apart ↦ record { at_lock = other_level l call (level_of call) k.level k.part apart }
  | inr (mine, is, apart) ↦ record { at_lock = other_box users l call (level_of call) k.level k.part is mine lock apart }
]

-- no process appears that is no user's
no_strangers_at : (users : ℕ) (l : Levels) (call : LevelCall) (level : Level) → NoOthers users l.boxes → NoOthers users (act_at level l call).0.boxes
no_strangers_at users l call L13 h = h
no_strangers_at users l call L12 h = others_none users l.boxes call h
no_strangers_at users l call L11 h = h
no_strangers_at users l call L10 h = h
no_strangers_at users l call L9 h = h
no_strangers_at users l call L8 h = h
no_strangers_at users l call L7 h = h
no_strangers_at users l call L0 h = h

pub no_strangers : (users : ℕ) (l : Levels) (call : LevelCall) → NoOthers users l.boxes → NoOthers users (act l call).0.boxes
no_strangers users l call = no_strangers_at users l call (level_of call)
