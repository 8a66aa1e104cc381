use Rattle.std.proofs.Common.{◌≡◌, Some, sym, ap, ◌∙◌, arith}
use Rattle.std.specs.Prelude.{slice_get, slice_set}
use Rattle.std.proofs.lemmas.Option.{slice_get-get_or}
use Rattle.psos_locks.specs.Users.{OwnView, UserView}
use Rattle.psos_locks.proofs.Meeting.{has_one, heard_none, same_length, may_keep, heard_more, all_shown, has_met}
use Rattle.psos_locks.proofs.meet.meet_all.Goals as goal

pub others-init : goal.others-init
others-init g c =
    let one = has_one c.args.users.now c.args.i c.requires.user in
    heard_none g.T.Run.script c.args.next c.args.users.now c.args.i one.0 one.1

pub keep-requires-clause-shown : goal.keep-requires-clause-shown
keep-requires-clause-shown g c =
    let s = g.T.Run.script in
    let old = c.args.users.now in
    let now = c.others.users in
    let all = same_length s c.args.next old c.args.i c.others.v c.requires.ready now c.others.invariant in
    let other : UserView = record { who = c.other.inside.own; halted = c.other.inside.halted; served = c.other.inside.served } in
    let user : UserView = record { who = c.user.inside.own; halted = c.user.inside.halted; served = c.user.inside.served } in
    let there : slice_get now c.others.v ≡ Some other = slice_get-get_or now c.others.v c.index-users-v.result (omega (arith, all, c.others-test.true)) ∙ ap (λ (u : UserView). Some u) (sym c.other.view_is) in
    let mine : slice_get now c.args.i ≡ Some user = slice_get-get_or now c.args.i c.index-users-i.result (omega (arith, all, c.requires.user)) ∙ ap (λ (u : UserView). Some u) (sym c.user.view_is) in
    may_keep s c.args.next old c.args.i c.others.v c.requires.ready now c.others.invariant other there c.receipt-receipt.result c.receipt-receipt.ensures.known c.receipt-receipt.ensures.past c.receipt-receipt.ensures.through user mine

pub others-preserved : goal.others-preserved
others-preserved g c =
    let s = g.T.Run.script in
    let old = c.args.users.now in
    let now = c.others.users in
    let all = same_length s c.args.next old c.args.i c.others.v c.requires.ready now c.others.invariant in
    let other : UserView = record { who = c.other.inside.own; halted = c.other.inside.halted; served = c.other.inside.served } in
    let user : UserView = record { who = c.user.inside.own; halted = c.user.inside.halted; served = c.user.inside.served } in
    let there : slice_get now c.others.v ≡ Some other = slice_get-get_or now c.others.v c.index-users-v.result (omega (arith, all, c.others-test.true)) ∙ ap (λ (u : UserView). Some u) (sym c.other.view_is) in
    let mine : slice_get now c.args.i ≡ Some user = slice_get-get_or now c.args.i c.index-users-i.result (omega (arith, all, c.requires.user)) ∙ ap (λ (u : UserView). Some u) (sym c.user.view_is) in
    let changed = ap (λ (o : OwnView). slice_set now c.args.i (let u : UserView = record { who = o; halted = c.user.inside.halted; served = c.user.inside.served } in u)) c.keep.ensures in
    heard_more s c.args.next old c.args.i c.others.v c.requires.ready now c.others.invariant other there c.receipt-receipt.result c.receipt-receipt.ensures.known c.receipt-receipt.ensures.past c.receipt-receipt.ensures.through user mine _ changed

pub advance-requires-clause-shown : goal.advance-requires-clause-shown
advance-requires-clause-shown g c =
    let s = g.T.Run.script in
    let old = c.args.users.now in
    let now = c.others.users in
    let all = same_length s c.args.next old c.args.i c.others.v c.requires.ready now c.others.invariant in
    let user : UserView = record { who = c.user-2.inside.own; halted = c.user-2.inside.halted; served = c.user-2.inside.served } in
    let mine : slice_get now c.args.i ≡ Some user = slice_get-get_or now c.args.i c.index-users-i-2.result (omega (arith, all, c.requires.user)) ∙ ap (λ (u : UserView). Some u) (sym c.user-2.view_is) in
    all_shown s c.args.next old c.args.i c.others.v c.requires.ready now c.others.invariant (omega (arith, all, c.others-test.false)) user mine

pub returns : goal.returns
returns g c =
    let s = g.T.Run.script in
    let old = c.args.users.now in
    let now = c.others.users in
    let all = same_length s c.args.next old c.args.i c.others.v c.requires.ready now c.others.invariant in
    let user : UserView = record { who = c.user-2.inside.own; halted = c.user-2.inside.halted; served = c.user-2.inside.served } in
    let mine : slice_get now c.args.i ≡ Some user = slice_get-get_or now c.args.i c.index-users-i-2.result (omega (arith, all, c.requires.user)) ∙ ap (λ (u : UserView). Some u) (sym c.user-2.view_is) in
    let changed = ap (λ (o : OwnView). slice_set now c.args.i (let u : UserView = record { who = o; halted = c.user-2.inside.halted; served = c.user-2.inside.served } in u)) c.advance.ensures in
    has_met s c.args.next old c.args.i c.others.v c.requires.ready now c.others.invariant (omega (arith, all, c.others-test.false)) user mine _ changed
