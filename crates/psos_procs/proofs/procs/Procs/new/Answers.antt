use Rattle.std.proofs.Common.{◌≡◌, [], ◌∷◌, ◌++◌, List, subst, sym, ap, ◌∙◌, arith}
use Rattle.psos_procs.specs.Mailbox.{Mailbox}
use Rattle.psos_procs.specs.Mailboxes.{boxes_of, AreMailboxes}
use Rattle.psos_procs.proofs.New.{new_boxes, new_boxes-more, new_boxes-none, new_boxes-are, new_boxes-table}
use Rattle.psos_procs.proofs.procs.Procs.new.Goals as goal

pub users-init : goal.users-init
users-init c = c.new-boxes.ensures.items ∙ sym (new_boxes-none c.args.users)

pub users-preserved : goal.users-preserved
users-preserved c =
    c.in_ok-push.ensures.items
    ∙ ap (λ (l : List Mailbox). l ++ c.new.result ∷ []) c.users.invariant
    ∙ ap (λ (b : Mailbox). new_boxes c.args.users 0 c.users.number ++ b ∷ []) c.new.ensures
    ∙ new_boxes-more c.args.users c.users.number

pub invariant_of-result : goal.invariant_of-result
invariant_of-result c =
    let all : c.users.number ≡ c.args.users = omega arith in
    let is = c.users.invariant ∙ ap (new_boxes c.args.users 0) all in
    subst AreMailboxes (sym is) (new_boxes-are c.args.users c.requires.some c.requires.few)

pub returns : goal.returns
returns c =
    let all : c.users.number ≡ c.args.users = omega arith in
    ap boxes_of (c.users.invariant ∙ ap (new_boxes c.args.users 0) all) ∙ new_boxes-table c.args.users 0 c.args.users
