use Rattle.std.proofs.Common.{◌≡◌, ◌++◌, drop}
use Rattle.psos_model.specs.Text.Transcript.{names_text}
use Rattle.psos_print.proofs.reply.put_names.Given as goal

abbrev pub invariant-names : goal.invariant-names
invariant-names l = l.out.items ++ names_text (drop l.name-index l.names) ≡ l.initial.out.items ++ names_text l.names
