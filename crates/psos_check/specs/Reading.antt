-- How a line is read, from its front to its end. The line feed that ends it is cut off.
use Rattle.std.specs.Prelude.{ℕ, ◌^◌, Bool, ◌&&◌, ◌==◌, if◌then◌else◌, nat_lt, nat_le, List, [], ◌∷◌, length, Option, Some, None, codes, position}
use Rattle.std.specs.Str.{bytes_eq}
use Rattle.psos_text.specs.Chain.{◌>>=◌}
use Rattle.psos_text.specs.Number.{is_numeral, number_of}
use Rattle.psos_calls.specs.Language.Script.{Script, UserScript}
use Rattle.psos_check.specs.declared.stamped.Stamped.{Stamped}
use Rattle.psos_check.specs.Cuts.{cut_at}

-- the number of the first user with this name
unfoldable pub user_of : Script → List ℕ → Option ℕ
user_of s name = position (λ (u : UserScript). bytes_eq u.name name) s.users

-- whether the parts round the first `/`, or all where there is none, are numerals
abbrev pub place_parts : List ℕ → Option (List ℕ × List ℕ) → Bool
place_parts text None = is_numeral text
place_parts text (Some p) = is_numeral p.0 && is_numeral p.1

unfoldable pub is_place : List ℕ → Bool
is_place text = place_parts text (cut_at 47 text)

-- the number below 2 ^ 32 behind `@`
unfoldable pub stamp_of : List ℕ → Option ℕ
stamp_of [] = None
stamp_of (b ∷ bs) = if b == 64 then number_of bs >>= (λ n. if nat_lt n (2 ^ 32) then Some n else None) else None

-- `@STAMP REST`, with the user that stands before it
unfoldable pub stamped_in : ℕ → List ℕ → Option Stamped
stamped_in user text = do
  p ← cut_at 32 text
  n ← stamp_of p.0
  (if nat_le 1 (length p.1) then Some (record { user = user; stamp = n }) else None)

-- `PLACE @STAMP REST`
unfoldable pub placed_in : ℕ → List ℕ → Option Stamped
placed_in user text = do
  p ← cut_at 32 text
  (if is_place p.0 then stamped_in user p.1 else None)

-- `NAME PLACE @STAMP REST`
unfoldable pub user_line_in : Script → List ℕ → Option Stamped
user_line_in s text = do
  p ← cut_at 32 text
  user ← user_of s p.0
  placed_in user p.1

-- `calls M`
unfoldable pub calls_in : List ℕ → Option ℕ
calls_in text = do
  p ← cut_at 32 text
  (if bytes_eq p.0 (codes "calls") then number_of p.1 else None)

-- `N calls M`
unfoldable pub counts_in : List ℕ → Option (ℕ × ℕ)
counts_in text = do
  p ← cut_at 32 text
  n ← number_of p.0
  m ← calls_in p.1
  Some (n, m)

-- `done N calls M`
unfoldable pub done_in : List ℕ → Option (ℕ × ℕ)
done_in text = do
  p ← cut_at 32 text
  (if bytes_eq p.0 (codes "done") then counts_in p.1 else None)
