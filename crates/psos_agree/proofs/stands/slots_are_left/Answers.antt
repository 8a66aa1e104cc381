use Rattle.psos_agree.proofs.SlotRoom.{slot_is_free}
use Rattle.psos_agree.proofs.stands.slots_are_left.Goals as goal

pub returns : goal.returns
returns c = λ s y f h sound room few. slot_is_free h sound room few
