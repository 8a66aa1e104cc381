use Rattle.psos_text.proofs.LineLaws.{lines_cut}
use Rattle.psos_text.proofs.laws.lines_are_cut.Goals as goal

pub returns : goal.returns
returns c = lines_cut
