-- The levels' states as the definitions see them. States docs/levels.md, "Levels".
use Rattle.psos_calls.specs.Levels as machines
use Rattle.psos_model.specs.Replay.{System}
use Rattle.psos_core.specs.declared.levels.Levels.{Levels}

-- the states of all levels
abbrev pub levels_of : {B : Type 0} → Levels B → machines.Levels
levels_of l = record { next = l.issuer; pages = l.pages.slots; segs = l.segs; types = l.types; dirs = l.dirs; life = l.life; boxes = l.procs; codes = l.codes }

-- and the users' own parts
abbrev pub system_of : {B : Type 0} → Levels B → System
system_of l = record { levels = levels_of l; users = l.privates.value.items }
