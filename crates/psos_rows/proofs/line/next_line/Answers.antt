use Rattle.std.proofs.Common.{arith}
use Rattle.psos_laws.proofs.RoomToStep.{can_step}
use Rattle.psos_rows.proofs.line.next_line.Goals as goal

pub step-requires-clause-state : goal.step-requires-clause-state
step-requires-clause-state c =
    let s = c.args.script.now in
    can_step s c.args.flat.now c.args.user c.requires.script c.requires.running.sound (omega (arith, c.requires.running.low, c.requires.few, c.requires.script.few_users)) c.requires.left
