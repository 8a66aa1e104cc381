use Rattle.std.proofs.Common.{◌≡◌, ◌<◌, ◌+◌, ℕ, List, [], ◌∷◌, ◌++◌, length, length-append, sym, ap, ◌∙◌, subst}
use Rattle.psos_calls.specs.Locks.{lock_of}
use Rattle.psos_calls.specs.declared.step.Step.{Step}
use Rattle.psos_histories.specs.Grips.{Grip}
use Rattle.psos_histories.specs.Requests.{called, step_in}
use Rattle.psos_locks.specs.Grips.{grips_of}
use Rattle.psos_locks.specs.Runs.{InWork}
use Rattle.psos_locks.specs.Users.{OwnView}
use Rattle.psos_locks.proofs.PlaceOfLevel.{ok_when, err_when, on_ok_of}
use Rattle.psos_locks.proofs.Working.{may_call}
use Rattle.psos_locks.proofs.request.make.Goals.{in-Ok, in-Err}
use Rattle.psos_locks.proofs.request.make.Goals as goal

pub make-requires-clause-can : goal.make-requires-clause-can
make-requires-clause-can g c =
    (may_call g.T.Run.script c.requires.script c.args.own.now.side c.args.own.now.own c.args.request.now (grips_of c.args.hands.now) c.args.own.now.trace c.requires.work c.requires.asks c.args.level c.args.call.now
    c.requires.asked c.args.users c.requires.users c.requires.held).can

pub make-requires-clause-room : goal.make-requires-clause-room
make-requires-clause-room g c =
    let room = (may_call g.T.Run.script c.requires.script c.args.own.now.side c.args.own.now.own c.args.request.now (grips_of c.args.hands.now) c.args.own.now.trace c.requires.work c.requires.asks c.args.level c.args.call.now
    c.requires.asked c.args.users c.requires.users c.requires.held).room in
    subst (λ (v : OwnView). length v.trace < 64) (sym c.own.view_is) room

pub returns-clause-work : goal.returns-clause-work
returns-clause-work g c = elim c.match-make.branch [
  | in-Ok w ↦
      let s = g.T.Run.script in
      let grips = grips_of c.args.hands.now in
      let lock = lock_of c.args.users c.args.call.now in
      let step = step_in grips lock c.args.call.now in
      let next = (may_call s c.requires.script c.args.own.now.side c.args.own.now.own c.args.request.now grips c.args.own.now.trace c.requires.work c.requires.asks c.args.level c.args.call.now
      c.requires.asked c.args.users c.requires.users c.requires.held).next in
      let seen : InWork s c.own.inside.member c.own.inside.private c.args.request.now (called grips lock c.args.call.now) (c.own.inside.trace ++ step ∷ []) =
      subst (λ (v : OwnView). InWork s v.side v.own c.args.request.now (called grips lock c.args.call.now) (v.trace ++ step ∷ [])) (sym c.own.view_is) next in
      let left = on_ok_of c.make.result tt w.in-Ok.is c.make.ensures.called in
      let more = on_ok_of c.make.result tt w.in-Ok.is c.make.ensures.traced in
      ok_when c.match-make.result tt w.result-is
      (subst (λ (gs : List Grip). InWork s c.own.inside.member c.own.inside.private c.args.request.now gs c.make.new.trace) (sym left)
      (subst (λ (ts : List Step). InWork s c.own.inside.member c.own.inside.private c.args.request.now (called grips lock c.args.call.now) ts) (sym more) seen))
  | in-Err w ↦ err_when _ c.match-make.result w.stop_cause.result w.result-is
]

pub returns-clause-longer : goal.returns-clause-longer
returns-clause-longer g c = elim c.match-make.branch [
  | in-Ok w ↦
      let step = step_in (grips_of c.args.hands.now) (lock_of c.args.users c.args.call.now) c.args.call.now in
      let more = on_ok_of c.make.result tt w.in-Ok.is c.make.ensures.traced in
      let seen : length c.own.inside.trace ≡ length c.args.own.now.trace = ap (λ (v : OwnView). length v.trace) c.own.view_is in
      ok_when c.match-make.result tt w.result-is (ap (λ (ts : List Step). length ts) more ∙ length-append c.own.inside.trace (step ∷ []) ∙ ap (λ (n : ℕ). n + 1) seen)
  | in-Err w ↦ err_when _ c.match-make.result w.stop_cause.result w.result-is
]
