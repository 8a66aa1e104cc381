use Rattle.std.proofs.Common.{◌≡◌, ◌≤◌, ◌*◌, ◌+◌, length, drop}
use Rattle.psos_model.specs.Text.Transcript.{names_text}
use Rattle.psos_print.proofs.lengths.names_len.Given as goal

abbrev pub invariant-names : goal.invariant-names
invariant-names l = (l.total + length (names_text (drop l.name-index l.names)) ≡ length (names_text l.names)) × (l.total ≤ 17 * l.name-index)
