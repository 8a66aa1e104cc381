use Rattle.std.proofs.Common.{sym, ◌∙◌}
use Rattle.psos_text.proofs.NumberLaws.{number_takes, number_none}
use Rattle.psos_text.proofs.number.read_number.Goals as goal

pub returns-in-Some-clause-spelled : goal.returns-in-Some-clause-spelled
returns-in-Some-clause-spelled c = (number_takes c.args.b.now c.in-Some.n (sym c.value.ensures ∙ c.in-Some.is)).0

pub returns-in-None-clause-fault : goal.returns-in-None-clause-fault
returns-in-None-clause-fault c = λ _. number_none c.args.b.now (sym c.value.ensures ∙ c.in-None.is)
