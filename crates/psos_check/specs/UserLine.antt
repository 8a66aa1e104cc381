-- A line of a user in a transcript.
use Rattle.std.specs.Prelude.{◌≡◌, ◌≢◌, ℕ, ◌^◌, ◌<◌, ◌⊎◌, List, [], ◌∷◌, ◌++◌, length, decimal, IsTrue}
use Rattle.std.specs.List.{AllByRecursion}
use Rattle.psos_text.specs.Number.{is_numeral}
use Rattle.psos_calls.specs.Language.Script.{Script, user_script}
use Rattle.psos_check.specs.declared.stamped.Stamped.{Stamped}

-- two numerals with `/` between
pub record IsPair (text : List ℕ) : Type 0 where
  pub n : List ℕ
  pub m : List ℕ
  pub first : IsTrue (is_numeral n)
  pub second : IsTrue (is_numeral m)
  pub spelled : text ≡ n ++ 47 ∷ m

-- a numeral of any length, or two with `/` between
abbrev pub IsPlace : List ℕ → Type 0
IsPlace text = IsTrue (is_numeral text) ⊎ IsPair text

-- NAME PLACE @STAMP REST and a line feed
abbrev pub user_line : List ℕ → List ℕ → ℕ → List ℕ → List ℕ
user_line name place stamp rest = name ++ 32 ∷ (place ++ 32 ∷ 64 ∷ (decimal stamp ++ 32 ∷ (rest ++ 10 ∷ [])))

-- the line has the name of this user of the script, a place, this stamp and at least one byte more
pub record IsUserLine (s : Script) (line : List ℕ) (said : Stamped) : Type 0 where
  pub place : List ℕ
  pub rest : List ℕ
  pub user : said.user < length s.users
  pub placed : IsPlace place
  pub stamp : said.stamp < 2 ^ 32
  pub some : 0 < length rest
  pub one_line : AllByRecursion (λ b. b ≢ 10) rest
  pub spelled : line ≡ user_line (user_script s said.user).name place said.stamp rest
