use Rattle.std.proofs.Common.{◌∙◌}
use Rattle.psos_dirrep.proofs.ListSteps.{halves-read}
use Rattle.psos_dirrep.proofs.lists.halves_at.Goals as goal

pub returns : goal.returns
returns c =
    c.used_halves.ensures
    ∙ halves-read c.args.pages.now c.args.g c.word_of.result c.word_of-2.result c.word_of-3.result c.word_of.ensures c.word_of-2.ensures c.word_of-3.ensures
