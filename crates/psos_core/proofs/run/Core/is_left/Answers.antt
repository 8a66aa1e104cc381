use Rattle.std.proofs.Common.{Bool, ◌||◌, None, length, sym, ap, ◌∙◌, arith}
use Rattle.std.specs.Prelude.{slice_index_or}
use Rattle.std.proofs.lemmas.List.{length-map}
use Rattle.psos_model.specs.Run.{phase_of, is_now}
use Rattle.psos_core.specs.Least.{least}
use Rattle.psos_core.specs.Events.{core_state_of}
use Rattle.psos_core.proofs.EventStep.{left_is}
use Rattle.psos_core.proofs.run.Core.is_left.Goals as goal

pub bounds-as_slice-user : goal.bounds-as_slice-user
bounds-as_slice-user g c = omega (arith, c.requires, ap length (c.as_slice.ensures.value ∙ ap (λ p. p.items) c.deref.ensures), c.args.self.now.planned.users)

pub is_current-requires : goal.is_current-requires
is_current-requires g c =
    let core = c.args.self.now in
    omega (arith, c.requires, core.planned.users, ap length core.planned.phases-are, length-map core.levels.privates.value.items (phase_of core.script))

pub returns-then-is_open : goal.returns-then-is_open
returns-then-is_open g c =
    let core = c.args.self.now in
    let now : Bool = is_now (slice_index_or core.ongoing.phases c.args.user None) (least core.ongoing.phases) in
    left_is core.script (core_state_of core) c.args.user c.as_slice.result.now c.index-as_slice-user.result core.ongoing.phases c.is_open.result (c.as_slice.ensures.value ∙ ap (λ p. p.items) c.deref.ensures) c.index-as_slice-user.is
    (omega (arith, c.requires, core.planned.users)) core.planned.phases-are
    (c.if-is_open.true ∙ ap (λ (b : Bool). b || now) (sym c.if-is_open.true ∙ c.is_open.ensures))

pub returns-else-is_open : goal.returns-else-is_open
returns-else-is_open g c =
    let core = c.args.self.now in
    let now : Bool = is_now (slice_index_or core.ongoing.phases c.args.user None) (least core.ongoing.phases) in
    left_is core.script (core_state_of core) c.args.user c.as_slice.result.now c.index-as_slice-user.result core.ongoing.phases c.is_current.result (c.as_slice.ensures.value ∙ ap (λ p. p.items) c.deref.ensures) c.index-as_slice-user.is
    (omega (arith, c.requires, core.planned.users)) core.planned.phases-are
    (c.is_current.ensures ∙ ap (λ (b : Bool). b || now) (sym c.if-is_open.false ∙ c.is_open.ensures))
