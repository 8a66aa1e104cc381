use Rattle.std.proofs.Common.{ap, ◌∙◌, arith}
use Rattle.psos_calls.specs.Levels.Answers.{with_any_page}
use Rattle.psos_calls.specs.Levels.Level12.{BoxState, act12}
use Rattle.psos_procs.proofs.Calls.{part-found, part-number, acted-are, acted-is}
use Rattle.psos_procs.proofs.procs.Procs.pass_on.Goals as goal

pub act-requires : goal.act-requires
act-requires c =
    let boxes = c.self.inside.boxes.items in
    let part = c.part_of-part.result in
    let call = c.args.call.now in
    let box = c.in-Some.mailbox.now in
    let found = part-found boxes c.len.result part call box c.self.invariant (omega (arith, c.len.ensures)) c.part_of-part.ensures c.in-Some.ensures.item.3.0 c.in-Some.ensures.value in
    part-number boxes part call box found

pub invariant_of-self : goal.invariant_of-self
invariant_of-self c =
    let boxes = c.self.inside.boxes.items in
    let part = c.part_of-part.result in
    let call = c.args.call.now in
    let box = c.in-Some.mailbox.now in
    let found = part-found boxes c.len.result part call box c.self.invariant (omega (arith, c.len.ensures)) c.part_of-part.ensures c.in-Some.ensures.item.3.0 c.in-Some.ensures.value in
    acted-are boxes part call box c.act.new.self (with_any_page c.act.result) found (record { row = c.act.ensures.row; same_number = c.act.ensures.number; same_users = c.act.ensures.users })

pub returns : goal.returns
returns c =
    let boxes = c.self.inside.boxes.items in
    let part = c.part_of-part.result in
    let call = c.args.call.now in
    let box = c.in-Some.mailbox.now in
    let found = part-found boxes c.len.result part call box c.self.invariant (omega (arith, c.len.ensures)) c.part_of-part.ensures c.in-Some.ensures.item.3.0 c.in-Some.ensures.value in
    acted-is boxes part call box c.act.new.self (with_any_page c.act.result) found (record { row = c.act.ensures.row; same_number = c.act.ensures.number; same_users = c.act.ensures.users })
    ∙ ap (λ (s : BoxState). act12 s call) c.self.view_is
