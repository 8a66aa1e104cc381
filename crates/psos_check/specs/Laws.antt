-- What follows from the definitions: a text is one thing only, and an order has no other stamp.
use Rattle.std.specs.Prelude.{◌≡◌, ℕ, ◌<◌, List, length}
use Rattle.std.specs.List.{AllByRecursion}
use Rattle.psos_calls.specs.Language.Script.{Script, IsWellFormed}
use Rattle.psos_check.specs.declared.stamped.Stamped.{Stamped}
use Rattle.psos_check.specs.declared.text.Text.{Text}
use Rattle.psos_check.specs.declared.text.Text.TheVariants.{TooLong, Line, Read}
use Rattle.psos_check.specs.Texts.{IsText}
use Rattle.psos_check.specs.Order.{HasEachStamp}

-- both are too long, or have one first line that is neither, or say the same
abbrev pub SaySame : Text → Text → Type 0
SaySame TooLong TooLong = Unit {0}
SaySame TooLong (Line m) = ⊥
SaySame TooLong (Read b) = ⊥
SaySame (Line n) TooLong = ⊥
SaySame (Line n) (Line m) = n ≡ m
SaySame (Line n) (Read b) = ⊥
SaySame (Read a) TooLong = ⊥
SaySame (Read a) (Line m) = ⊥
SaySame (Read a) (Read b) = a.items ≡ b.items

-- two answers on one text say the same
abbrev pub OneTextOnly : Type 0
OneTextOnly = (s : Script) (text : List ℕ) (a b : Text) → IsWellFormed s → IsText s text a → IsText s text b → SaySame a b

-- where each number below the number of lines is the stamp of one line, each stamp is such a number
abbrev pub StampsAreBelow : Type 0
StampsAreBelow = (lines : List Stamped) → HasEachStamp lines → AllByRecursion (λ (x : Stamped). x.stamp < length lines) lines
