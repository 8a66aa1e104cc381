use Rattle.std.proofs.Common.{ap, ◌-◌, arith}
use Rattle.psos_calls.specs.Levels.Level7.{Pages}
use Rattle.psos_calls.specs.Levels.Answers.{LevelAnswer}
use Rattle.psos_core.proofs.BootTables.{room_left, took}
use Rattle.psos_core.proofs.boot.+take_slots.Goals as goal

pub answer-requires-clause-can : goal.answer-requires-clause-can
answer-requires-clause-can g t c = room_left _ (c.args.count - 1) (omega (arith, c.requires.few, c.if-count-eq0.false)) c.in_ok-take_slots.ensures.slots

pub returns-in-Ok-clause-slots : goal.returns-in-Ok-clause-slots
returns-in-Ok-clause-slots g t c =
    took _ _ (c.args.count - 1) c.args.count (omega (arith, c.requires.few, c.if-count-eq0.false)) (omega (arith, c.if-count-eq0.false)) c.in_ok-take_slots.ensures.slots (ap (λ (x : Pages × LevelAnswer). x.0) c.in-Ok.ensures.done)
