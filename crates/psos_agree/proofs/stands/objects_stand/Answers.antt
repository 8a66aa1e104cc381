use Rattle.psos_agree.proofs.ObjectsStand.{stands_object_made, stands_object_gone}
use Rattle.psos_agree.proofs.stands.objects_stand.Goals as goal

pub returns-clause-made : goal.returns-clause-made
returns-clause-made c = λ y f u o len h new room few. stands_object_made h u o len new room few

pub returns-clause-gone : goal.returns-clause-gone
returns-clause-gone c = λ s y f u o h sound live. stands_object_gone h sound u o live
