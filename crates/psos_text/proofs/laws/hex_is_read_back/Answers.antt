use Rattle.psos_text.proofs.HexLaws.{hex_again}
use Rattle.psos_text.proofs.laws.hex_is_read_back.Goals as goal

pub returns : goal.returns
returns c = hex_again
