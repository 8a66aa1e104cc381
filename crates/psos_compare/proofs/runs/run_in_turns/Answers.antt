use Rattle.std.proofs.Common.{◌≡◌, [], sym, ap, subst}
use Rattle.psos_calls.specs.Language.Script.{Script}
use Rattle.psos_model.specs.Flat.Boot.{boot}
use Rattle.psos_model.specs.Replay.{System}
use Rattle.psos_core.specs.System.{system_of}
use Rattle.psos_core.specs.Events.{IsAfter}
use Rattle.psos_core.proofs.RunsFromBoot.{boot_starts}
use Rattle.psos_compare.proofs.runs.run_in_turns.Goals as goal

pub new-requires : goal.new-requires
new-requires g c = (boot c.args.script, boot_starts c.args.script (system_of c.in_ok-levels.levels) c.requires c.in_ok-levels.ensures.booted)

pub turns-requires : goal.turns-requires
turns-requires g c κs within =
    let core = c.in_ok-core.core in
    let is = c.in_ok-core.ensures in
    let script = c.args.script in
    let levels = c.in_ok-levels.levels in
    let P : Script → System → Type 0 = λ s y. IsAfter core (record { system = y; flat = boot s }) [] in
    let led : P script (system_of levels) = is.events (boot script) (boot_starts script (system_of levels) c.requires c.in_ok-levels.ensures.booted) in
    let same : system_of core.levels ≡ system_of levels = ap (λ l. system_of l) is.levels in
    (within, (subst (λ (s : Script). P s (system_of core.levels)) (sym is.script) (subst (P script) (sym same) led), is.going))
