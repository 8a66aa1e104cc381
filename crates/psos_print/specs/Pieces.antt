-- Text that is written in pieces. States docs/program.md, "Output".
use Rattle.std.specs.Prelude.{◌≡◌, ℕ, List, ◌++◌, Option}
use Rattle.std.specs.Io.KnownBytes.{Appends}
use Rattle.psos_io.specs.Causes.{Rose}
use Rattle.psos_print.specs.declared.fault.PrintFault.{PrintFault}
use Rattle.psos_print.specs.declared.fault.PrintFault.TheVariants as faults

-- a text was put behind the piece that waited: what was written and what waits now are what waited then and the text
pub record HasPut (before now : Option (List ℕ)) (waited waits text : List ℕ) : Type 0 where
  pub written : List ℕ
  pub appended : Appends before now written
  pub whole : written ++ waits ≡ waited ++ text

-- a front of a text was written
pub record HasBegun (before now : Option (List ℕ)) (text : List ℕ) : Type 0 where
  pub written : List ℕ
  pub left : List ℕ
  pub appended : Appends before now written
  pub whole : written ++ left ≡ text

-- memory may run out at any time; a write fails only where the count of faults rose
abbrev pub HasReason : ℕ → ℕ → PrintFault → Type 0
HasReason before now (faults.Memory e) = Unit {0}
HasReason before now faults.Write = Rose before now
