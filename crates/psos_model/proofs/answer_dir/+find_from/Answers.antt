use Rattle.std.proofs.Common.{sym, ◌∙◌}
use Rattle.psos_model.proofs.NameSearch.{found_here}
use Rattle.psos_model.proofs.answer_dir.+find_from.Goals as goal

pub returns-in-Some-clause-value : goal.returns-in-Some-clause-value
returns-in-Some-clause-value t c =
    c.found_at.ensures.value ∙ sym (found_here c.args.flat.now c.args.path.now c.args.i c.args.rd c.args.name c.get-dir.result c.in-Some.cap c.get-dir.ensures (sym c.in-Some.ensures))
