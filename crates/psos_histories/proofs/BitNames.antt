-- The bits of an entry's names.
use Rattle.std.proofs.Common.{◌≡◌, ℕ, ◌+◌, ◌^◌, ◌%◌, ◌<◌, ◌≤◌, true, List, [], ◌∷◌, sym, ap, ◌∙◌, inl, inr, subst, arith}
use Rattle.std.specs.Int.{bit_at}
use Rattle.std.specs.Int.Bits.{bit_xor}
use Rattle.std.proofs.lemmas.Nat.Bits.{bit_at_xor, bit_at-pow_same, bit_at-pow_other}
use Rattle.std.proofs.lemmas.Bool.{cases_eq, true≢false, or_cases}
use Rattle.std.proofs.lemmas.Nat.{xor_lt}
use Rattle.std.proofs.Math.Pow.{pow-lt}
use Rattle.psos_calls.specs.declared.lock_id.LockId.{LockId}
use Rattle.psos_calls.specs.Levels.{Levels}
use Rattle.psos_calls.specs.Locks.Held.{same_lock, is_held}
use Rattle.psos_events.proofs.LockScope.{same_lock_is}
use Rattle.psos_histories.specs.Names.{member_of, members_for}
use Rattle.psos_histories.specs.Grips.{Grip, locks_of, AreIn}
use Rattle.psos_histories.specs.Closes.{bits_for, AreNames, BitsAreNames}
use Rattle.psos_histories.proofs.Members.{member_lock, member_below}
use Rattle.psos_histories.proofs.Requests.{held_lock, held_here, held_more}

xor_bit : (a k i x y : ℕ) → bit_at a i ≡ x → bit_at (2 ^ k) i ≡ y → bit_at (bit_xor a (2 ^ k)) i ≡ (x + y) % 2
xor_bit a k i x y e f = bit_at_xor a (2 ^ k) i ∙ (ap (λ (p : ℕ). (p + bit_at (2 ^ k) i) % 2) e ∙ ap (λ (p : ℕ). (x + p) % 2) f)

member_after : (n : ℕ) (k : LockId) → n ≤ member_of n k
member_after n k = omega arith

module _ (n u : ℕ) (below : u < n) (l : Levels) where
  -- a bit of no user and no lock is not set
  bit_other : (grips : List Grip) → AreIn n l grips → (i : ℕ) → (i ≡ u → ⊥) → ((k : LockId) → is_held (locks_of grips) k ≡ true → i ≡ member_of n k → ⊥) → bit_at (bits_for u grips) i ≡ 0
  bit_other [] h i apart none = bit_at-pow_other u i apart
  bit_other (g ∷ grips) h i apart none =
      let rest = bit_other grips h.3 i apart (λ k held. none k (held_more g grips k held)) in
      xor_bit (bits_for u grips) g.side.number i 0 0 rest (bit_at-pow_other g.side.number i (λ e. none g.lock (held_here g grips) (e ∙ h.0.number)))

  bit_user : (grips : List Grip) → AreIn n l grips → bit_at (bits_for u grips) u ≡ 1
  bit_user [] h = bit_at-pow_same u
  bit_user (g ∷ grips) h =
      xor_bit (bits_for u grips) g.side.number u 1 0 (bit_user grips h.3) (bit_at-pow_other g.side.number u (λ e. absurd (omega (arith, below, e, h.0.number, member_after n g.lock))))

  -- the lock that was taken last has its bit by itself alone
  first_apart : (g : Grip) (grips : List Grip) → AreIn n l (g ∷ grips) → bit_at (bits_for u grips) g.side.number ≡ 0
  first_apart g grips h =
      bit_other grips h.3 g.side.number (λ e. absurd (omega (arith, below, e, h.0.number, member_after n g.lock)))
      (λ k held e.
      let same : g.lock ≡ k = member_lock n g.lock k h.0.lock (held_lock n l grips h.3 k held) (sym h.0.number ∙ e) in
      true≢false (sym held ∙ (ap (is_held (locks_of grips)) (sym same) ∙ h.2)))

  bit_first : (g : Grip) (grips : List Grip) → AreIn n l (g ∷ grips) → bit_at (bits_for u (g ∷ grips)) g.side.number ≡ 1
  bit_first g grips h = xor_bit (bits_for u grips) g.side.number g.side.number 0 1 (first_apart g grips h) (bit_at-pow_same g.side.number)

  bit_lock : (grips : List Grip) → AreIn n l grips → (k : LockId) → is_held (locks_of grips) k ≡ true → bit_at (bits_for u grips) (member_of n k) ≡ 1
  bit_lock [] h k held = absurd (true≢false (sym held))
  bit_lock (g ∷ grips) h k held = elim (or_cases (same_lock g.lock k) (is_held (locks_of grips) k) held) [
    | inl same ↦
        let is : g.side.number ≡ member_of n k = h.0.number ∙ ap (member_of n) (same_lock_is g.lock k same) in
        subst (λ (i : ℕ). bit_at (bits_for u (g ∷ grips)) i ≡ 1) is (bit_first g grips h)
    | inr old ↦
        xor_bit (bits_for u grips) g.side.number (member_of n k) 1 0 (bit_lock grips h.3 k old)
        (bit_at-pow_other g.side.number (member_of n k) (λ e. absurd (omega (arith, bit_lock grips h.3 k old, ap (bit_at (bits_for u grips)) e, first_apart g grips h))))
  ]

  bits_below : (grips : List Grip) → AreIn n l grips → bits_for u grips < 2 ^ members_for n
  bits_below [] h = pow-lt {i = u} {j = n + 7 + n} (omega (arith, below))
  bits_below (g ∷ grips) h =
      xor_lt (n + 7 + n) (bits_for u grips) (2 ^ g.side.number) (bits_below grips h.3) (pow-lt {i = g.side.number} {j = n + 7 + n} (omega (arith, h.0.number, member_below n g.lock h.0.lock)))

  are_names : (grips : List Grip) → AreIn n l grips → AreNames n u grips (bits_for u grips)
  are_names grips h = record {
    user = λ v less. (
      λ one. elim (cases_eq v u) [
        | inl same ↦ sym same
        | inr apart ↦ absurd (omega (arith, one, bit_other grips h v apart (λ k held e. absurd (omega (arith, less, e, member_after n k)))))
      ],
      λ same. subst (λ (w : ℕ). bit_at (bits_for u grips) w ≡ 1) same (bit_user grips h),
    );
    locks = bit_lock grips h;
    members = bits_below grips h;
  }

pub bits_are_names : BitsAreNames
bits_are_names n u l grips below h = are_names n u below l grips h
