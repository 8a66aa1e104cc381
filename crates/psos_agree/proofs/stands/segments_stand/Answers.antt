use Rattle.psos_agree.proofs.SegmentsStand.{stands_made, stands_gone}
use Rattle.psos_agree.proofs.stands.segments_stand.Goals as goal

pub returns-clause-made : goal.returns-clause-made
returns-clause-made c = λ y f u len guard h new room few. stands_made h u len guard new room few

pub returns-clause-gone : goal.returns-clause-gone
returns-clause-gone c = λ s y f u t h sound live. stands_gone h sound u t live
