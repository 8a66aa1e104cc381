use Rattle.std.proofs.Common.{ℕ, ◌∙◌, ap}
use Rattle.psos_words.specs.Guard.{has_bit}
use Rattle.psos_calls.proofs.RightBits.{is_bit_set}
use Rattle.psos_calls.proofs.right.has.Goals as goal

-- src/right.rt:55:1
pub returns : goal.returns
returns c = is_bit_set c.has.result c.args.cap.rights c.bit.result c.has.ensures ∙ ap (λ (bit : ℕ). has_bit c.args.cap.rights bit) c.bit.ensures.bit
