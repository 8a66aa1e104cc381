-- What the reader answers. States docs/program.md, "Faults".
use Rattle.std.specs.Prelude.{◌≡◌, ℕ, List, Option, Some, None, Result, Ok, Err}
use Rattle.psos_calls.specs.Language.Script.{Script}
use Rattle.psos_model.specs.Text.Spelling.{IsScript}
use Rattle.psos_script.specs.declared.fault.ReadFault.{ReadFault}
use Rattle.psos_script.specs.declared.fault.ReadFault.TheVariants as F
use Rattle.psos_script.specs.declared.cause.Cause.{Cause}

-- this fault of a script is the first one; memory may run out at any time
abbrev pub IsFirst : Option (ℕ × Cause) → ReadFault → Type 0
IsFirst first (F.Memory e) = Unit {0}
IsFirst first (F.Script f) = first ≡ Some (f.line, f.cause)

-- where a script is faulty, the bytes spell none
abbrev pub SpellsNone : List ℕ → ReadFault → Type 0
SpellsNone bytes (F.Memory e) = Unit {0}
SpellsNone bytes (F.Script f) = (s : Script) → IsScript bytes s → ⊥

-- all lines are read and seen so, or the first fault is found
abbrev pub Finds : {X Y : Type 0} → Option (ℕ × Cause) → (X → Y) → Y → Result X ReadFault → Type 0
Finds first view all (Ok x) = (first ≡ None) × (view x ≡ all)
Finds first view all (Err e) = IsFirst first e
