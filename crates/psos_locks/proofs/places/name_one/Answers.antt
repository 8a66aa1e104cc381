use Rattle.std.proofs.Common.{ℕ, ◌^◌, sym, ap, ◌∙◌, arith}
use Rattle.std.specs.Prelude.{option_map}
use Rattle.std.specs.Int.Bits.{bit_xor}
use Rattle.psos_journal.proofs.JournalInvariant.{bit_shifted}
use Rattle.psos_locks.specs.Grips.{grip_by}
use Rattle.psos_locks.specs.Places.{named_by}
use Rattle.psos_locks.proofs.places.name_one.Goals as goal

pub overflow_shl-result : goal.overflow_shl-result
overflow_shl-result g c = omega (arith, c.number.ensures.few)

pub returns-in-Some : goal.returns-in-Some
returns-in-Some g c =
    let bit = bit_shifted c.number.result c.number.ensures.few ∙ ap (λ (n : ℕ). 2 ^ n) (c.number.ensures.number ∙ ap (λ v. v.1.number) c.deref.ensures) in
    ap (bit_xor c.args.names) bit ∙ ap (λ o. named_by c.args.names (option_map (grip_by (λ s. g.K.Part.lock s) (λ s. g.K.Part.piece s)) o)) (sym c.in-Some.is)
