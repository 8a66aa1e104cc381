use Rattle.psos_histories.proofs.BitNames.{bits_are_names}
use Rattle.psos_histories.proofs.laws.bits_are_names.Goals as goal

pub returns : goal.returns
returns c = bits_are_names
