use Rattle.psos_text.proofs.FirstPlaces.{NoneBefore, is_other}
use Rattle.psos_text.proofs.finds.first_other.Given as goal

abbrev pub invariant-bytes : goal.invariant-bytes
invariant-bytes l = NoneBefore (is_other l.sep) l.text l.i
