use Rattle.psos_dirrep.proofs.NeverUsedSlots.{never-slots, never-parts}
use Rattle.psos_dirrep.proofs.laws.never_used_is_seen.Goals as goal

pub returns-clause-slots : goal.returns-clause-slots
returns-clause-slots c = never-slots

pub returns-clause-parts : goal.returns-clause-parts
returns-clause-parts c = never-parts
