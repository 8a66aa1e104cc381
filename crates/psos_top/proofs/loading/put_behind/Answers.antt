use Rattle.psos_top.proofs.RunPrinting.{front_of_more, line_begun}
use Rattle.psos_top.proofs.loading.put_behind.Goals as goal

pub returns-in_err-put_all-clause-front : goal.returns-in_err-put_all-clause-front
returns-in_err-put_all-clause-front g c = front_of_more _ _ c.args.head.now c.args.lines.now c.put_all.ensures.front

pub returns-clause-front : goal.returns-clause-front
returns-clause-front g c = line_begun _ _ _ _ _ c.in_ok-put_all.ensures.whole c.put_all-2.ensures.front
