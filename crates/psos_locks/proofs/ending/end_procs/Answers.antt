use Rattle.std.proofs.Common.{◌≡◌, ◌∙◌, sym, subst, arith, vec_len, length}
use Rattle.psos_locks.specs.Ending.{IsProcsLeft}
use Rattle.psos_locks.proofs.ListPlaces.{not_some}
use Rattle.psos_locks.proofs.LeftLevels.{are_mailboxes, procs_left}
use Rattle.psos_locks.proofs.ending.end_procs.Goals as goal

pub join-requires : goal.join-requires
join-requires g c =
    let going = not_some c.end_boxes.new.book.stopped (sym c.is_stopped.ensures ∙ c.if-is_stopped.false) in
    let left = c.end_boxes.ensures.left going in
    let all : vec_len c.args.locks ≡ length g.T.Run.script.users = omega (arith, left.all, c.end_boxes.new.boxes.ok, c.len.ensures, c.if-len-users.false, c.requires.users) in
    are_mailboxes g.T.Run.script c.requires.well_formed c.args.book.now.entries (vec_len c.args.locks) c.end_boxes.new.boxes.items left all

pub returns-clause-left : goal.returns-clause-left
returns-clause-left g c =
    let s = g.T.Run.script in
    let going = not_some c.end_boxes.new.book.stopped (sym c.is_stopped.ensures ∙ c.if-is_stopped.false) in
    let left = c.end_boxes.ensures.left going in
    let all : vec_len c.args.locks ≡ length s.users = omega (arith, left.all, c.end_boxes.new.boxes.ok, c.len.ensures, c.if-len-users.false, c.requires.users) in
    subst (IsProcsLeft s c.args.book.now.entries) (sym c.join.ensures) (procs_left s c.requires.well_formed c.args.book.now.entries (vec_len c.args.locks) c.end_boxes.new.boxes.items left all)
