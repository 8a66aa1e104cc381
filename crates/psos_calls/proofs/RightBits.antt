-- A bit that is set, as a test of the right that it stands for.
use Rattle.std.proofs.Common.{◌≡◌, ℕ, Bool, true, false, refl, sym, ap, ◌∙◌}
use Rattle.std.specs.Prelude.{◌==◌, ◌↔◌, IsTrue, IsBitSet}
use Rattle.std.specs.Int.{bit_at}
use Rattle.std.proofs.lemmas.Bool.{ne_eqb, false≢true}
use Rattle.std.proofs.lemmas.Nat.{bit_set_by_shift}
use Rattle.std.proofs.lemmas.Nat.Bits.{shr_and_one}

is_one : (test : Bool) (b : ℕ) → (IsTrue test → b ≡ 1) → (b ≡ 1 → IsTrue test) → test ≡ (b == 1)
is_one true b to from = ap (λ (n : ℕ). n == 1) (sym (to refl))
is_one false b to from = sym (ne_eqb b 1 (λ one. false≢true (from one)))

pub is_bit_set : (test : Bool) (rights bit : ℕ) → (IsTrue test ↔ IsBitSet rights bit) → test ≡ (bit_at rights bit == 1)
is_bit_set test rights bit e =
    is_one test (bit_at rights bit) (λ t. sym (shr_and_one rights bit) ∙ (bit_set_by_shift rights bit).1 (e.0 t)) (λ one. e.1 ((bit_set_by_shift rights bit).0 (shr_and_one rights bit ∙ one)))
