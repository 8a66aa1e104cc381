-- What a backing store holds: 4,168 blocks of 1,032 bytes.
use Rattle.std.specs.Prelude.{◌≡◌, ◌≢◌, ◌<◌, ℕ, List, [], length, slice_index_or}

-- the block at a place; past the last, no bytes
abbrev pub block_at : List (List ℕ) → ℕ → List ℕ
block_at blocks i = slice_index_or blocks i []

-- every block but this one is as it was
abbrev pub OthersStay : List (List ℕ) → List (List ℕ) → ℕ → Type 0
OthersStay old new block = (length new ≡ length old) × ((i : ℕ) → i ≢ block → block_at new i ≡ block_at old i)

-- there are 4,168 blocks, each of 1,032 bytes
pub record IsBlocks (blocks : List (List ℕ)) : Type 0 where
  pub count : length blocks ≡ 4168
  pub size : (i : ℕ) → i < 4168 → length (block_at blocks i) ≡ 1032
