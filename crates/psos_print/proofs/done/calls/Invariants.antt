use Rattle.std.proofs.Common.{◌≡◌, ◌+◌, drop}
use Rattle.psos_model.specs.Text.Output.{calls_of}
use Rattle.psos_print.proofs.done.calls.Given as goal

abbrev pub invariant-entries : goal.invariant-entries
invariant-entries l = l.count + calls_of (drop l.entry-index l.entries) ≡ calls_of l.entries
