use Rattle.std.proofs.Common.{sym, ◌∙◌}
use Rattle.psos_top.proofs.AskedCommands.{prints_asked}
use Rattle.psos_top.proofs.program.psos_main.Goals as goal

pub returns-in-Load-clause-printed : goal.returns-in-Load-clause-printed
returns-in-Load-clause-printed g c = λ h. prints_asked _ c.in-Some.asked _ _ _ _ (sym c.read_words.ensures.shape ∙ c.in-Some.is) c.in-Load.is (c.load_call.ensures.ends.printed h)
