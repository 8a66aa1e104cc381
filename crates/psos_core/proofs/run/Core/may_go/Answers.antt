use Rattle.std.proofs.Common.{ℕ, length, sym, ap, ◌∙◌, arith}
use Rattle.std.specs.Prelude.{slice_index_or}
use Rattle.psos_core.specs.declared.upcoming.Upcoming.TheVariants as upcoming
use Rattle.psos_core.specs.Plans.{next_for, may_go}
use Rattle.psos_core.specs.Events.{core_state_of}
use Rattle.psos_core.proofs.EventStep.{leveled, known_leveled}
use Rattle.psos_core.proofs.run.Core.may_go.Goals as goal

pub may_go-requires : goal.may_go-requires
may_go-requires g c =
    let core = c.args.self.now in
    let now = core_state_of core in
    let u = c.args.user in
    record {
      users = omega (arith, c.len.ensures.value, ap (λ p. length p.items) c.deref.ensures, core.planned.users, core.planned.held);
      user = omega (arith, c.requires, core.planned.held);
      all = core.planned.all ∙ sym core.planned.held;
      level = known_leveled (slice_index_or core.ongoing.nexts.items u upcoming.Nothing) (next_for core.script now u) (core.planned.each u) (leveled core.script now u);
    }

pub returns : goal.returns
returns g c =
    let core = c.args.self.now in
    let now = core_state_of core in
    let u = c.args.user in
    let next = next_for core.script now u in
    c.may_go.ensures next (core.planned.each u) ∙ ap (λ (n : ℕ). may_go n core.ongoing.held u next) (c.len.ensures.value ∙ ap (λ p. length p.items) c.deref.ensures ∙ core.planned.users)
