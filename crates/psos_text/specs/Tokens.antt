-- A line whose words are taken one after another.
use Rattle.std.specs.Prelude.{◌≡◌, ℕ, ◌+◌, ◌<◌, ◌≤◌, List, length, take, drop}

-- a line, and the place up to which its words are taken
pub record Cursor : Type 0 where
  pub line : List ℕ
  pub at : ℕ

-- the bytes that are left
abbrev pub left : Cursor → List ℕ
left c = drop c.at c.line

-- the word is not empty and stands at this place of the line, and the next cursor stands behind it
pub record StandsAt (before after : Cursor) (place : ℕ) (word : List ℕ) : Type 0 where
  pub some : 0 < length word
  pub from : before.at ≤ place
  pub bytes : take (length word) (drop place before.line) ≡ word
  pub behind : after.at ≡ place + length word
