use Rattle.std.proofs.Common.{ap, ◌∙◌}
use Rattle.psos_dirrep.specs.Scan.{is_never}
use Rattle.psos_dirrep.proofs.NeverUsedSlots.{page-last}
use Rattle.psos_dirrep.proofs.page.ends_never.Goals as goal

pub returns-clause-directory : goal.returns-clause-directory
returns-clause-directory c h = c.is_never.ensures ∙ ap is_never c.word.ensures.word ∙ page-last c.args.page.now c.word.ensures.all h
