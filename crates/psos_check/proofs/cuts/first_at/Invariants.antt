use Rattle.psos_text.proofs.FirstPlaces.{NoneBefore, is_byte}
use Rattle.psos_check.proofs.cuts.first_at.Given as goal

abbrev pub invariant-bytes : goal.invariant-bytes
invariant-bytes l = NoneBefore (is_byte l.sep) l.text l.i
