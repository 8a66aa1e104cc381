use Rattle.std.proofs.Common.{sym, ◌∙◌}
use Rattle.psos_text.proofs.HexLaws.{hex_takes, hex_none}
use Rattle.psos_text.proofs.hex.read_hex4.Goals as goal

pub returns-in-Some-clause-spelled : goal.returns-in-Some-clause-spelled
returns-in-Some-clause-spelled c = (hex_takes c.args.b.now c.in-Some.n (sym c.value.ensures ∙ c.in-Some.is)).0

pub returns-in-None-clause-fault : goal.returns-in-None-clause-fault
returns-in-None-clause-fault c = λ _. hex_none c.args.b.now (sym c.value.ensures ∙ c.in-None.is)
