use Rattle.psos_agree.proofs.EntryLists as lists
use Rattle.psos_agree.proofs.laws.directories_are_lists.Goals as goal

pub returns : goal.returns
returns c = lists.directories_are_lists
