-- The blocks of a store that is not there.
use Rattle.std.specs.Prelude.{ℕ, List, [], length, replicate}
use Rattle.std.proofs.Common.{◌∙◌, ap}
use Rattle.std.proofs.lemmas.List.{length-replicate, get_or-replicate}
use Rattle.psos_io.specs.Blocks.{IsBlocks}

-- 4,168 blocks of 1,032 zeros
pub zero_blocks : List (List ℕ)
zero_blocks = replicate 4168 (replicate 1032 0)

-- they are the blocks of a store
pub zero_blocks-sized : IsBlocks zero_blocks
unfolding zero_blocks
zero_blocks-sized =
    let zero : ℕ = 0 in
    let block = replicate 1032 zero in
    record {
      count = length-replicate 4168 block;
      size = λ i h. ap length (get_or-replicate 4168 i block [] h) ∙ length-replicate 1032 zero;
    }
