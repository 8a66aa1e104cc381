use Rattle.std.proofs.Common.{List, sym, ap, ◌∙◌, subst}
use Rattle.psos_calls.specs.Locks.{lock_of}
use Rattle.psos_journal.specs.Views.{Side}
use Rattle.psos_calls.specs.declared.entry.Entry.{Entry}
use Rattle.psos_histories.specs.Grips.{Grip}
use Rattle.psos_locks.specs.Grips.{grips_of, IsTaken}
use Rattle.psos_locks.specs.Runs.{HasLooked}
use Rattle.psos_locks.proofs.Working.{is_later, takes, taken_held}
use Rattle.psos_locks.proofs.request.hold.Goals as goal

pub take-requires-clause-later : goal.take-requires-clause-later
take-requires-clause-later g c =
    is_later g.T.Run.script c.requires.script c.args.own.now.side c.args.own.now.own c.args.request.now (grips_of c.args.hands.now) c.args.own.now.trace c.requires.work c.args.level c.args.call.now c.requires.asked
    c.args.users c.requires.users (sym c.holds.ensures ∙ c.if-holds.false)

pub returns-clause-work : goal.returns-clause-work
returns-clause-work g c = λ yes.
    let s = g.T.Run.script in
    let grips = grips_of c.args.hands.now in
    let lock = lock_of c.args.users c.args.call.now in
    let same = ap grips_of c.look.ensures.hands in
    let taken : IsTaken s lock grips (grips_of c.look.new.hands) = subst (λ (gs : List Grip). IsTaken s lock grips gs) (sym same) (c.take.ensures.taken c.if-not-take.false) in
    let side = ap (λ v. v.side) c.own.view_is in
    let looked : HasLooked s c.args.own.now.side (grips_of c.look.new.hands) =
    subst (λ (m : Side Entry). HasLooked s m (grips_of c.look.new.hands)) side (subst (λ (gs : List Grip). HasLooked s c.own.inside.member gs) (sym same) c.look.ensures.looked) in
    takes s c.requires.script c.args.own.now.side c.args.own.now.own c.args.request.now grips c.args.own.now.trace c.requires.work c.args.level c.args.call.now c.requires.asked
    c.args.users c.requires.users (sym c.holds.ensures ∙ c.if-holds.false) (grips_of c.look.new.hands) taken looked

pub returns-clause-held : goal.returns-clause-held
returns-clause-held g c = λ yes.
    let s = g.T.Run.script in
    let grips = grips_of c.args.hands.now in
    let lock = lock_of c.args.users c.args.call.now in
    let taken : IsTaken s lock grips (grips_of c.look.new.hands) = subst (λ (gs : List Grip). IsTaken s lock grips gs) (sym (ap grips_of c.look.ensures.hands)) (c.take.ensures.taken c.if-not-take.false) in
    taken_held s c.requires.script grips (grips_of c.look.new.hands) lock taken
