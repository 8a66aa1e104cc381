use Rattle.std.proofs.Common.{sym}
use Rattle.std.specs.Prelude.{vec_len}
use Rattle.psos_locks.proofs.FirstUsers.{boxes_front, boxes_last}
use Rattle.psos_locks.proofs.opening.last_box.Goals as goal

pub returns-clause-boxes : goal.returns-clause-boxes
returns-clause-boxes g c = boxes_front g.T.Run.script c.args.boxes.now.items c.pop.new.self.items c.pop.result c.pop.ensures.items c.requires

pub returns-clause-last : goal.returns-clause-last
returns-clause-last g c = boxes_last g.T.Run.script c.args.boxes.now.items c.pop.new.self.items c.pop.result (vec_len c.pop.new.self) c.pop.ensures.items c.requires (sym c.pop.new.self.ok.0)
