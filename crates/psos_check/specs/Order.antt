-- The order of stamps.
use Rattle.std.specs.Prelude.{◌≡◌, ℕ, ◌<◌, ◌==◌, List, length, count_by, find, Option, None, option_map, slice_get, slice_index_or}
use Rattle.psos_check.specs.declared.stamped.Stamped.{Stamped}

-- how many lines have this stamp
abbrev pub count_at : List Stamped → ℕ → ℕ
count_at lines k = count_by (λ (x : Stamped). x.stamp == k) lines

-- each number below the number of lines is the stamp of one line
abbrev pub HasEachStamp : List Stamped → Type 0
HasEachStamp lines = (k : ℕ) → k < length lines → count_at lines k ≡ 1

-- the user of the first line with this stamp
abbrev pub user_at : List Stamped → ℕ → Option ℕ
user_at lines k = option_map (λ (x : Stamped). x.user) (find (λ (x : Stamped). x.stamp == k) lines)

-- each number below the number of lines is the stamp of one line, and these are the users by stamp
pub record IsOrder (lines : List Stamped) (order : List ℕ) : Type 0 where
  pub stamps : HasEachStamp lines
  pub count : length order ≡ length lines
  pub users : (k : ℕ) → k < length lines → slice_get order k ≡ user_at lines k

-- a place is empty
pub record HasGap (places : List (Option ℕ)) : Type 0 where
  pub place : ℕ
  pub within : place < length places
  pub empty : slice_index_or places place None ≡ None
