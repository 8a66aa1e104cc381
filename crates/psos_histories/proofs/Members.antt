-- Each lock has a member of its own.
use Rattle.std.proofs.Common.{◌≡◌, ℕ, ◌+◌, ◌-◌, ◌<◌, Bool, true, false, cond, eqb, ltb, refl, sym, ap, ◌∙◌, subst, arith}
use Rattle.std.proofs.lemmas.Bool.{eqb-true, ltb-true, le-ltb}
use Rattle.psos_calls.specs.declared.level.Level.{Level}
use Rattle.psos_calls.specs.declared.level.Level.TheVariants.{L13, L12, L11, L10, L9, L8, L7, L0}
use Rattle.psos_calls.specs.declared.lock_id.LockId.{LockId}
use Rattle.psos_calls.specs.Locks.Held.{is_lock}
use Rattle.psos_histories.specs.Names.{place_of_level, member_of, members_for, LocksAreMembers}

-- ---- from a place back to the lock

abbrev level_low : ℕ → Level
level_low p = cond (eqb p 0) L13 (cond (eqb p 1) L11 (cond (eqb p 2) L10 (cond (eqb p 3) L9 (cond (eqb p 4) L8 (cond (eqb p 5) L7 L0)))))

abbrev lock_back : ℕ → LockId
lock_back p = cond (ltb p 7) (record { level = level_low p; part = 0 }) (record { level = L12; part = p - 7 })

abbrev IsBack : Level → ℕ → Type 0
IsBack level part = lock_back (place_of_level level + part) ≡ record { level = level; part = part }

at_zero : (level : Level) (part : ℕ) → part ≡ 0 → IsBack level 0 → IsBack level part
at_zero level part e h = subst (IsBack level) (sym e) h

back_in : (level : Level) (n part : ℕ) → is_lock n (record { level = level; part = part }) ≡ true → IsBack level part
back_in L13 n part h = at_zero L13 part (eqb-true part 0 h) refl
back_in L12 n part h =
    let past : ltb (7 + part) 7 ≡ false = le-ltb (7 + part) 7 (omega arith) in
    let same : (7 + part) - 7 ≡ part = omega arith in
    ap (λ (t : Bool). cond t (record { level = level_low (7 + part); part = 0 }) (record { level = L12; part = (7 + part) - 7 })) past
    ∙ ap (λ (p : ℕ). (let k : LockId = record { level = L12; part = p } in k)) same
back_in L11 n part h = at_zero L11 part (eqb-true part 0 h) refl
back_in L10 n part h = at_zero L10 part (eqb-true part 0 h) refl
back_in L9 n part h = at_zero L9 part (eqb-true part 0 h) refl
back_in L8 n part h = at_zero L8 part (eqb-true part 0 h) refl
back_in L7 n part h = at_zero L7 part (eqb-true part 0 h) refl
back_in L0 n part h = at_zero L0 part (eqb-true part 0 h) refl

-- ---- members

pub member_lock : (n : ℕ) (a b : LockId) → is_lock n a ≡ true → is_lock n b ≡ true → member_of n a ≡ member_of n b → a ≡ b
member_lock n a b ia ib e =
    let same : place_of_level a.level + a.part ≡ place_of_level b.level + b.part = omega (arith, e) in
    sym (back_in a.level n a.part ia) ∙ (ap lock_back same ∙ back_in b.level n b.part ib)

below_in : (level : Level) (n part : ℕ) → is_lock n (record { level = level; part = part }) ≡ true → n + place_of_level level + part < n + 7 + n
below_in L13 n part h = omega (arith, eqb-true part 0 h)
below_in L12 n part h = omega (arith, ltb-true part n h)
below_in L11 n part h = omega (arith, eqb-true part 0 h)
below_in L10 n part h = omega (arith, eqb-true part 0 h)
below_in L9 n part h = omega (arith, eqb-true part 0 h)
below_in L8 n part h = omega (arith, eqb-true part 0 h)
below_in L7 n part h = omega (arith, eqb-true part 0 h)
below_in L0 n part h = omega (arith, eqb-true part 0 h)

pub member_below : (n : ℕ) (k : LockId) → is_lock n k ≡ true → member_of n k < members_for n
member_below n k h = below_in k.level n k.part h

pub locks_are_members : LocksAreMembers
locks_are_members n = record { behind = λ k. omega arith; within = member_below n; apart = member_lock n }
