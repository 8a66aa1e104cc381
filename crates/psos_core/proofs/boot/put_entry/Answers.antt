use Rattle.std.proofs.Common.{◌+◌, ◌-◌, ◌*◌, sym, ap, subst}
use Rattle.psos_calls.specs.Levels.Level7.{Pages}
use Rattle.psos_calls.specs.Levels.Answers.{LevelAnswer}
use Rattle.psos_core.proofs.BootTables.{can_put, was_put}
use Rattle.psos_pages.specs.Quiet.{IsQuiet}
use Rattle.psos_pages.proofs.Quiet.{silent-here, quiet-four}
use Rattle.psos_core.proofs.BootFrames.{one_more}
use Rattle.psos_core.proofs.boot.put_entry.Goals as goal

pub answer-requires-clause-can : goal.answer-requires-clause-can
answer-requires-clause-can g c = can_put c.args.pages.now.slots c.from.result c.args.i c.from.ensures c.requires.blank

pub returns-in-Ok-clause-slots : goal.returns-in-Ok-clause-slots
returns-in-Ok-clause-slots g c =
    was_put c.args.pages.now.slots c.answer.new.self.slots c.from.result c.args.i c.scratch_entry.result c.from.ensures c.scratch_entry.ensures c.requires.blank (ap (λ (x : Pages × LevelAnswer). x.0) c.in-Ok.ensures.done)

pub returns-in-Ok-clause-quiet : goal.returns-in-Ok-clause-quiet
returns-in-Ok-clause-quiet g c =
    let free = one_more c.args.i c.args.pages.now.paging c.requires.user c.requires.quiet in
    subst (IsQuiet (8 - (c.args.i + 1))) (sym c.in-Ok.ensures.paging) (quiet-four free (8 * (1 + 2 * c.from.result)) 0 c.scratch_entry.result).quiet

pub returns-in-Ok-clause-store : goal.returns-in-Ok-clause-store
returns-in-Ok-clause-store g c =
    let free = one_more c.args.i c.args.pages.now.paging c.requires.user c.requires.quiet in
    c.answer.ensures.untouched (silent-here free (8 * (1 + 2 * c.from.result)))

pub returns-in-Err-clause-store : goal.returns-in-Err-clause-store
returns-in-Err-clause-store g c =
    let free = one_more c.args.i c.args.pages.now.paging c.requires.user c.requires.quiet in
    c.answer.ensures.untouched (silent-here free (8 * (1 + 2 * c.from.result)))
