use Rattle.psos_pages.proofs.Dropped.{fresh}
use Rattle.psos_pages.proofs.pages.Pages.new.Goals as goal

pub invariant_of-result : goal.invariant_of-result
invariant_of-result g c = rw c.new.ensures (fresh {f = c.in_ok-new.field-0} {bytes = g.B.Store.blocks c.args.store} {n = c.args.frames} c.requires.least c.in_ok-new.ensures.frames c.in_ok-new.ensures.hand c.in_ok-new.ensures.stored).paged

pub returns-clause-free : goal.returns-clause-free
returns-clause-free g c = rw c.new.ensures (fresh {f = c.in_ok-new.field-0} {bytes = g.B.Store.blocks c.args.store} {n = c.args.frames} c.requires.least c.in_ok-new.ensures.frames c.in_ok-new.ensures.hand c.in_ok-new.ensures.stored).slots

pub returns-clause-frames : goal.returns-clause-frames
returns-clause-frames g c = (fresh {f = c.in_ok-new.field-0} {bytes = g.B.Store.blocks c.args.store} {n = c.args.frames} c.requires.least c.in_ok-new.ensures.frames c.in_ok-new.ensures.hand c.in_ok-new.ensures.stored).paging
