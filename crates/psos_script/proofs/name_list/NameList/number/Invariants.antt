use Rattle.psos_script.proofs.Lists.{NoneBefore}
use Rattle.psos_script.proofs.name_list.NameList.number.Given as goal

abbrev pub invariant-names : goal.invariant-names
invariant-names l = NoneBefore l.self-inside.names.items l.word l.i
