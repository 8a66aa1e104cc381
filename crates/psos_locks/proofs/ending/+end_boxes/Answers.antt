use Rattle.std.proofs.Common.{◌≡◌, ℕ, ◌+◌, List, sym, subst, arith, vec_len}
use Rattle.psos_calls.specs.declared.entry.Entry.{Entry}
use Rattle.psos_locks.specs.Ending.{AreBoxesLeft}
use Rattle.psos_locks.proofs.LeftLevels.{not_before, one_more_box, same_entries}
use Rattle.psos_locks.proofs.ending.+end_boxes.Goals as goal

pub returns-clause-left : goal.returns-clause-left
returns-clause-left g t c none =
    let s = g.T.Run.script in
    let old = c.args.book.now in
    let one = c.end_box-mailbox.new.book in
    let all = c.end_boxes.new.book in
    let before = not_before all c.add_box.new.book c.add_box.ensures.book none in
    let first = not_before one all c.end_boxes.ensures.book before in
    let entries = same_entries old one c.end_box-mailbox.ensures.book in
    let others : AreBoxesLeft s old.entries (vec_len c.pop.new.self) c.end_boxes.new.boxes.items =
    subst (λ (log : List (Entry × ℕ)). AreBoxesLeft s log (vec_len c.pop.new.self) c.end_boxes.new.boxes.items) entries (c.end_boxes.ensures.left before) in
    let at : AreBoxesLeft s old.entries c.len.result c.end_boxes.new.boxes.items = subst (λ (k : ℕ). AreBoxesLeft s old.entries k c.end_boxes.new.boxes.items) (sym c.len.ensures) others in
    let count : c.len.result + 1 ≡ vec_len c.args.locks.now = omega (arith, c.len.ensures, c.in-Some.ensures.cases) in
    subst (λ (k : ℕ). AreBoxesLeft s old.entries k c.add_box.new.boxes.items) count
    (one_more_box s old.entries c.len.result c.add_box.new.boxes.items c.end_boxes.new.boxes.items c.end_box-mailbox.result at (c.add_box.ensures.added none) (c.end_box-mailbox.ensures.is first) (c.end_box-mailbox.ensures.left first))
