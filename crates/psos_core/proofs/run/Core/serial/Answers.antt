use Rattle.psos_agree.proofs.EntryLists.{directories_are_lists}
use Rattle.psos_core.specs.System.{levels_of, system_of}
use Rattle.psos_core.proofs.run.Core.serial.Goals as goal

pub begin-requires-clause-lists : goal.begin-requires-clause-lists
begin-requires-clause-lists g c =
    let core = c.args.self.now in
    let start = c.requires.1.0 in
    (levels_of core.levels, directories_are_lists core.script (system_of core.levels) g.flat start.stands start.start.sound)
