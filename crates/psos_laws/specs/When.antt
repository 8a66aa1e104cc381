-- Statements by cases. States docs/promises.md, "Origins".
use Rattle.std.specs.Prelude.{Bool, true, false, Option, Some, None}
use Rattle.psos_laws.specs.Landings.{Landing}

-- where a landing was found, what is said of it, and else this
abbrev pub WhenFound : Option Landing → Type 0 → (Landing → Type 0) → Type 0
WhenFound None none some = none
WhenFound (Some l) none some = some l

-- where a test holds, the first, and else the second
abbrev pub WhenTrue : Bool → Type 0 → Type 0 → Type 0
WhenTrue true yes_then otherwise = yes_then
WhenTrue false yes_then otherwise = otherwise
