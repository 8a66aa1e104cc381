use Rattle.psos_pages.proofs.FirstUnmarked.{second-chance}
use Rattle.psos_pages.proofs.laws.victims_had_their_second_chance.Goals as goal

pub returns : goal.returns
returns c = second-chance
