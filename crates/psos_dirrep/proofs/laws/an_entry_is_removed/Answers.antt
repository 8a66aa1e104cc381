use Rattle.psos_dirrep.proofs.EntryChanges.{entry-removed}
use Rattle.psos_dirrep.proofs.laws.an_entry_is_removed.Goals as goal

pub returns : goal.returns
returns c = entry-removed
