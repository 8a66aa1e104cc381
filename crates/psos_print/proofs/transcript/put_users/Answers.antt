use Rattle.std.proofs.Common.{◌<◌, ◌∙◌, length, arith}
use Rattle.psos_print.proofs.Pieces.{left_more, left_begun, on_err}
use Rattle.psos_print.proofs.LinesByUser.{users_next, list_at, own_within}
use Rattle.psos_print.proofs.transcript.put_users.Goals as goal

pub put_entries-requires-clause-within : goal.put_entries-requires-clause-within
put_entries-requires-clause-within g c =
    let within : c.users.u < length c.args.users.now = omega (arith, c.users.invariant.0) in
    let here = c.deref.ensures.value ∙ list_at (λ l. l.items) c.args.lists.now (length c.args.users.now) c.args.entries.now c.users.u c.index-lists-u.result c.requires within c.index-lists-u.is in
    own_within _ _ _ _ c.users.u c.requires within here

pub returns-in_err-put_entries-clause-err : goal.returns-in_err-put_entries-clause-err
returns-in_err-put_entries-clause-err g c =
    let within : c.users.u < length c.args.users.now = omega (arith, c.users.invariant.0) in
    let here = c.deref.ensures.value ∙ list_at (λ l. l.items) c.args.lists.now (length c.args.users.now) c.args.entries.now c.users.u c.index-lists-u.result c.requires within c.index-lists-u.is in
    let next = users_next c.args.users.now _ _ c.user-item.result _ _ c.users.u c.users.user-index c.requires c.users.invariant.0 (omega arith) c.user-item.is (c.text_of.ensures.text ∙ c.name.ensures) here in
    on_err _ (left_begun _ _ _ _ _ _ _ _ _ _ _ c.users.invariant.1 next c.in_err-put_entries.ensures.err)

pub users-preserved : goal.users-preserved
users-preserved g c =
    let within : c.users.u < length c.args.users.now = omega (arith, c.users.invariant.0) in
    let here = c.deref.ensures.value ∙ list_at (λ l. l.items) c.args.lists.now (length c.args.users.now) c.args.entries.now c.users.u c.index-lists-u.result c.requires within c.index-lists-u.is in
    let next = users_next c.args.users.now _ _ c.user-item.result _ _ c.users.u c.users.user-index c.requires c.users.invariant.0 (omega arith) c.user-item.is (c.text_of.ensures.text ∙ c.name.ensures) here in
    (omega (arith, c.users.invariant.0), left_more _ _ _ _ _ _ _ _ _ _ _ _ _ c.users.invariant.1 next c.in_ok-put_entries.ensures.ok c.in_ok-put_entries.ensures.later)
