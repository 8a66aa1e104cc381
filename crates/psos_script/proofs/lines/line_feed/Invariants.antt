use Rattle.psos_text.proofs.FirstPlaces.{NoneBefore, is_byte}
use Rattle.psos_script.proofs.lines.line_feed.Given as goal

abbrev pub invariant-bytes : goal.invariant-bytes
invariant-bytes l = NoneBefore (is_byte 10) l.text l.i
