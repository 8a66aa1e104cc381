use Rattle.psos_levels_samples.proofs.FoundRows.{IsFilled}
use Rattle.psos_levels_samples.proofs.life.all_objects.Given as goal

abbrev pub invariant-uids : goal.invariant-uids
invariant-uids l = IsFilled l.life l.uid
