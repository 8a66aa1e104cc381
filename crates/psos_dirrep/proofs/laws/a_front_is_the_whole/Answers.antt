use Rattle.psos_dirrep.proofs.PageLaws.{front-whole}
use Rattle.psos_dirrep.proofs.laws.a_front_is_the_whole.Goals as goal

pub returns : goal.returns
returns c = front-whole
