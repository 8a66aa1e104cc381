use Rattle.psos_dirrep.proofs.EntryChanges.{entry-added}
use Rattle.psos_dirrep.proofs.laws.an_entry_is_added.Goals as goal

pub returns : goal.returns
returns c = entry-added
