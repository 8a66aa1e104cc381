use Rattle.psos_check.proofs.TextLaws.{one_text}
use Rattle.psos_check.proofs.laws.one_text_only.Goals as goal

pub returns : goal.returns
returns c = one_text
