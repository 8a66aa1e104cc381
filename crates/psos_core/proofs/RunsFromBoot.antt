-- Runs from boot.
use Rattle.std.proofs.Common.{◌≡◌, ℕ, List, sym, subst}
use Rattle.psos_calls.specs.declared.entry.Entry.{Entry}
use Rattle.psos_calls.specs.Language.Script.{Script, IsWellFormed}
use Rattle.psos_model.specs.Flat.Boot.{boot}
use Rattle.psos_model.specs.Replay.{System, boot_system}
use Rattle.psos_laws.proofs.BootSoundness.{boot_start}
use Rattle.psos_agree.proofs.BootStands.{boot_stands}
use Rattle.psos_model.specs.Events.Serial.{IsCoreStart}
use Rattle.psos_core.specs.Serving.{IsRunFrom, IsWholeRun}
use Rattle.psos_core.proofs.WholeRuns.{whole_run}

-- a script can run from the levels at boot, and the flat state of boot
pub boot_starts : (s : Script) (y : System) → IsWellFormed s → y ≡ boot_system s → IsCoreStart s y (boot s)
boot_starts s y well e =
    let P : System → Type 0 = λ z. IsCoreStart s z (boot s) in
    subst P (sym e) (record { well_formed = well; stands = boot_stands s well; start = boot_start s well })

-- a run from there is a whole run
pub from_boot : (s : Script) (y left : System) (InOrder : System → List ℕ → Type 0) (entries : List Entry) → y ≡ boot_system s → IsRunFrom s y (boot s) (InOrder y) entries left → IsWholeRun s (InOrder (boot_system s)) entries left
from_boot s y left InOrder entries e h =
    let P : System → Type 0 = λ z. IsRunFrom s z (boot s) (InOrder z) entries left in
    whole_run s left (InOrder (boot_system s)) entries (subst P e h)
