use Rattle.std.proofs.Common.{◌≡◌, sym, ap, ◌∙◌, arith}
use Rattle.psos_calls.specs.Language.Script.{Script}
use Rattle.psos_core.specs.UnderWay.{phases_most}
use Rattle.psos_core.proofs.ScriptPhases.{phases_bound}
use Rattle.psos_locks.proofs.Phasing.{Worked, served_none, may_work, users_worked, served_more, over_served, over_halted}
use Rattle.psos_locks.proofs.phases.run_phases.Goals as goal

pub overflow_cast-phases : goal.overflow_cast-phases
overflow_cast-phases g c =
    let s = g.T.Run.script in
    let is : c.phases_of-phases.result ≡ phases_most s.users = c.phases_of-phases.ensures ∙ (ap phases_most c.users.ensures ∙ ap (λ (q : Script). phases_most q.users) c.requires.script) in
    omega (arith, is, phases_bound s c.requires.well_formed)

pub phases-init : goal.phases-init
phases-init g c =
    let s = g.T.Run.script in
    let is : c.phases_of-phases.result ≡ phases_most s.users = c.phases_of-phases.ensures ∙ (ap phases_most c.users.ensures ∙ ap (λ (q : Script). phases_most q.users) c.requires.script) in
    (served_none s c.args.users.now c.requires.new, is)

pub one_phase-requires-clause-turn : goal.one_phase-requires-clause-turn
one_phase-requires-clause-turn g c = λ lifetimes live k d less. may_work g.T.Run.script c.phases.p c.begin.new.users c.begin.ensures k d less

pub returns-then-not-are_going-clause-users : goal.returns-then-not-are_going-clause-users
returns-then-not-are_going-clause-users g c =
    let s = g.T.Run.script in
    let worked : Worked s c.phases.p c.begin.new.users c.one_phase.new.works = record { same_number = c.one_phase.ensures.same_number; counted = c.one_phase.ensures.counted; each = λ k d less. c.one_phase.ensures.each k d less } in
    users_worked s c.phases.p c.begin.new.users c.one_phase.new.works c.begin.ensures worked

pub returns-then-not-are_going-clause-over : goal.returns-then-not-are_going-clause-over
returns-then-not-are_going-clause-over g c = over_halted g.T.Run.script c.one_phase.new.works (sym c.are_going.ensures ∙ c.if-not-are_going.true)

pub phases-preserved : goal.phases-preserved
phases-preserved g c =
    let s = g.T.Run.script in
    let worked : Worked s c.phases.p c.begin.new.users c.one_phase.new.works = record { same_number = c.one_phase.ensures.same_number; counted = c.one_phase.ensures.counted; each = λ k d less. c.one_phase.ensures.each k d less } in
    (served_more s c.phases.p c.begin.new.users c.one_phase.new.works c.begin.ensures worked (sym c.are_going.ensures ∙ c.if-not-are_going.false), c.phases.invariant.1)

pub returns-clause-over : goal.returns-clause-over
returns-clause-over g c = over_served g.T.Run.script c.phases.p c.phases.users (omega (arith, c.phases.invariant.1, c.phases-test.false)) c.phases.invariant.0
