use Rattle.std.proofs.Common.{◌≡◌, ◌+◌, ◌≤◌, drop, map}
use Rattle.psos_model.specs.Replay.{answered_of}
use Rattle.psos_model.specs.Text.Load.{with_form}
use Rattle.psos_print.proofs.forms.count.Given as goal

abbrev pub invariant-entries : goal.invariant-entries
invariant-entries l = (l.count + with_form l.wanted (map answered_of (drop l.entry-index l.entries)) ≡ with_form l.wanted (map answered_of l.entries)) × (l.count ≤ l.entry-index)
