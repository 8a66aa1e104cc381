use Rattle.psos_agree.proofs.DirectoriesStand.{stands_directory_made, stands_directory_gone}
use Rattle.psos_agree.proofs.stands.directories_stand.Goals as goal

pub returns-clause-made : goal.returns-clause-made
returns-clause-made c = λ y f u rep guard h no_object no_dir new room. stands_directory_made h u rep guard no_object no_dir new room

pub returns-clause-gone : goal.returns-clause-gone
returns-clause-gone c = λ s y f u x h sound live. stands_directory_gone h sound u x live
