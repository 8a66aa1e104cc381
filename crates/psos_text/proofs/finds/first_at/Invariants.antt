use Rattle.psos_text.proofs.FirstPlaces.{NoneBefore, is_byte}
use Rattle.psos_text.proofs.finds.first_at.Given as goal

abbrev pub invariant-bytes : goal.invariant-bytes
invariant-bytes l = NoneBefore (is_byte l.sep) l.text l.i
