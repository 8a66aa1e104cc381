use Rattle.psos_text.proofs.NumberLaws.{number_again}
use Rattle.psos_text.proofs.laws.numbers_are_read_back.Goals as goal

pub returns : goal.returns
returns c = number_again
