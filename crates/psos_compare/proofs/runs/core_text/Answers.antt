use Rattle.std.proofs.Common.{◌≡◌, sym, ap, ◌∙◌, subst}
use Rattle.psos_calls.specs.Language.Script.{IsWellFormed}
use Rattle.psos_model.specs.Flat.Boot.{boot}
use Rattle.psos_model.specs.Replay.{boot_system}
use Rattle.psos_core.specs.System.{system_of}
use Rattle.psos_core.proofs.RunsFromBoot.{boot_starts}
use Rattle.psos_compare.proofs.runs.core_text.Goals as goal

pub new-requires : goal.new-requires
new-requires g c = (boot c.args.script, boot_starts c.args.script (system_of c.in_ok-levels.levels) c.requires c.in_ok-levels.ensures.booted)

pub serial-requires : goal.serial-requires
serial-requires g c κs within =
    let core = c.in_ok-core.core in
    let is = c.in_ok-core.ensures in
    let well : IsWellFormed core.script = subst IsWellFormed (sym is.script) c.requires in
    let booted : system_of core.levels ≡ boot_system core.script = ap (λ l. system_of l) is.levels ∙ (c.in_ok-levels.ensures.booted ∙ ap boot_system (sym is.script)) in
    (within, (boot_starts core.script (system_of core.levels) well booted, (is.entries, is.going)))
