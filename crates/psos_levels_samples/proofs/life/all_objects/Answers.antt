use Rattle.std.proofs.Common.{refl}
use Rattle.psos_levels_samples.proofs.FoundRows.{filled_first, filled_more}
use Rattle.psos_levels_samples.proofs.life.all_objects.Goals as goal

pub uids-init : goal.uids-init
uids-init c = filled_first _ c.in_ok-life.ensures

pub uids-preserved : goal.uids-preserved
uids-preserved c = filled_more _ _ _ _ _ c.uids.invariant refl c.in_ok-has_room.ensures
