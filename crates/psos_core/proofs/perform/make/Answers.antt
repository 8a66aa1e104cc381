use Rattle.psos_core.specs.Faults.{CanFault}
use Rattle.psos_core.proofs.EventStep.{from_err}
use Rattle.psos_core.proofs.perform.make.Goals as goal

pub returns-in-Err-clause-why : goal.returns-in-Err-clause-why
returns-in-Err-clause-why g c = c.stop_cause.ensures.why c.args.call.now (from_err c.answer.result _ (CanFault c.args.call.now) c.in-Err.is c.answer.ensures.fault)
