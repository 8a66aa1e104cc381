-- What a text is, read as a transcript of a script.
use Rattle.std.specs.Prelude.{◌≡◌, ℕ, ◌+◌, ◌-◌, ◌<◌, ◌≤◌, List, [], ◌∷◌, ◌++◌, length, get_or}
use Rattle.psos_calls.specs.Language.Script.{Script}
use Rattle.psos_check.specs.declared.stamped.Stamped.{Stamped}
use Rattle.psos_check.specs.declared.text.Text.{Text}
use Rattle.psos_check.specs.declared.text.Text.TheVariants.{TooLong, Line, Read}
use Rattle.psos_check.specs.declared.text.TheConstants.{MOST_TEXT}
use Rattle.psos_check.specs.Lines.{whole_lines}
use Rattle.psos_check.specs.UserLine.{IsUserLine}
use Rattle.psos_check.specs.DoneLine.{IsDoneLine}

-- the lines are user lines, each of what is said at its place
abbrev pub AreUserLines : Script → List (List ℕ) → List Stamped → Type 0
AreUserLines s [] [] = Unit {0}
AreUserLines s [] (x ∷ said) = ⊥
AreUserLines s (line ∷ lines) [] = ⊥
AreUserLines s (line ∷ lines) (x ∷ said) = IsUserLine s line x × AreUserLines s lines said

-- the lines are user lines that say this, and one done line behind them
pub record AreRead (s : Script) (lines : List (List ℕ)) (said : List Stamped) : Type 0 where
  pub users : List (List ℕ)
  pub done : List ℕ
  pub cut : lines ≡ users ++ done ∷ []
  pub each : AreUserLines s users said
  pub last : IsDoneLine done

-- Line n, counted from 1, is neither a user line nor the done line that ends the text, and each line before it is a user line. Where all lines are user lines, it is the one behind the last.
pub record IsStray (s : Script) (lines : List (List ℕ)) (n : ℕ) : Type 0 where
  pub from_one : 1 ≤ n
  pub within : n ≤ length lines + 1
  pub before : (i : ℕ) → i + 1 < n → (x : Stamped) × IsUserLine s (get_or lines i []) x
  pub no_user : (x : Stamped) → ¬ IsUserLine s (get_or lines (n - 1) []) x
  pub not_done : n ≡ length lines → ¬ IsDoneLine (get_or lines (n - 1) [])

-- what a text is: too long, or else user lines and a done line, or else a first line that is neither
abbrev pub IsText : Script → List ℕ → Text → Type 0
IsText s text TooLong = MOST_TEXT < length text
IsText s text (Line n) = (length text ≤ MOST_TEXT) × IsStray s (whole_lines text) n
IsText s text (Read said) = (length text ≤ MOST_TEXT) × AreRead s (whole_lines text) said.items
