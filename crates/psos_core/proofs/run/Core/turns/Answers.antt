use Rattle.std.proofs.Common.{◌≡◌, ℕ, ◌<◌, [], length, refl, sym, ap, ◌∙◌, subst, arith}
use Rattle.std.specs.List.{filter, AllByRecursion}
use Rattle.psos_text.specs.Draws.{next_draw}
use Rattle.psos_calls.specs.Language.Script.{Script}
use Rattle.psos_model.specs.Events.{is_enabled}
use Rattle.psos_model.specs.Events.Turns.{enabled_in, IsTurnsOrderFrom}
use Rattle.psos_core.specs.System.{system_of}
use Rattle.psos_core.specs.Serving.{Start, IsFrontFrom, AreSettledFrom, IsRunFrom}
use Rattle.psos_core.specs.Events.{core_state_of}
use Rattle.psos_core.proofs.TurnsRun.{IsDrawn, under_way, over_now, drawn_may, picked_is, none_in, front_here, front_on, settled_here, settled_on, way_on, whole, led_by, one_turn, goes_further}
use Rattle.psos_core.proofs.AskedUsers.{asked_all, asked_on, found_all}
use Rattle.psos_core.proofs.run.Core.turns.Goals as goal

pub turns-init : goal.turns-init
turns-init g c =
    let start : Start = record { system = system_of c.args.self.now.levels; flat = g.flat } in (
      record { turns = []; after = c.requires.1.0; drawn = tt; here = c.new-draws.ensures },
      refl,
      c.requires.1.1,
      refl,
      omega arith,
      asked_all _ _ (record { start = start; turns = []; after = c.requires.1.0 }) c.everybody-asked.result.items c.everybody-asked.ensures,
    )

pub enabled_among-among-requires-clause-users : goal.enabled_among-among-requires-clause-users
enabled_among-among-requires-clause-users g c = subst (AllByRecursion (λ (u : ℕ). u < length c.turns.self.script.users)) (sym c.as_slice.ensures.value) c.turns.invariant.5.users

pub event-requires-clause-may : goal.event-requires-clause-may
event-requires-clause-may g c =
    let chosen = picked_is _ _ c.as_slice-in-turns.result.now (next_draw c.turns.draws) c.pick-drawn.result _ 0 _
    (found_all _ _ _ c.as_slice.result.now _ c.turns.invariant.5 c.as_slice.ensures.value c.enabled_among-among.ensures) c.as_slice-in-turns.ensures.value c.len.ensures.value c.pick-drawn.ensures.chosen c.is_empty.ensures c.if-is_empty.false in
    drawn_may _ _ (under_way _ _ _ _ _ c.turns.invariant.0) _ _ chosen

pub turns-smaller : goal.turns-smaller
turns-smaller g c =
    let chosen = picked_is _ _ c.as_slice-in-turns.result.now (next_draw c.turns.draws) c.pick-drawn.result _ 0 _
    (found_all _ _ _ c.as_slice.result.now _ c.turns.invariant.5 c.as_slice.ensures.value c.enabled_among-among.ensures) c.as_slice-in-turns.ensures.value c.len.ensures.value c.pick-drawn.ensures.chosen c.is_empty.ensures c.if-is_empty.false in
    let made = led_by _ _ _ (core_state_of c.event.new.self) _ c.in_ok-event.ensures.script c.in_ok-event.ensures.after in
    goes_further _ _ _ _ (drawn_may _ _ (under_way _ _ _ _ _ c.turns.invariant.0) _ _ chosen) made

pub turns-preserved : goal.turns-preserved
turns-preserved g c =
    let chosen = picked_is _ _ c.as_slice-in-turns.result.now (next_draw c.turns.draws) c.pick-drawn.result _ 0 _
    (found_all _ _ _ c.as_slice.result.now _ c.turns.invariant.5 c.as_slice.ensures.value c.enabled_among-among.ensures) c.as_slice-in-turns.ensures.value c.len.ensures.value c.pick-drawn.ensures.chosen c.is_empty.ensures c.if-is_empty.false in
    let made = led_by _ _ _ (core_state_of c.event.new.self) _ c.in_ok-event.ensures.script c.in_ok-event.ensures.after in
    let start : Start = record { system = system_of c.args.self.now.levels; flat = g.flat } in
    let P : Script → ℕ → Type 0 = λ s d. IsDrawn s (core_state_of c.event.new.self) start c.args.seed d in (
      subst (λ (s : Script). P s c.pick-drawn.new.self) (sym c.in_ok-event.ensures.script)
          (subst (P c.turns.self.script) (sym c.pick-drawn.ensures.drawn) (one_turn _ _ _ _ _ _ _ c.turns.invariant.0 chosen (made start))),
      c.in_ok-event.ensures.script ∙ c.turns.invariant.1,
      c.in_ok-event.ensures.going,
      c.event.ensures.start ∙ c.turns.invariant.3,
      omega (arith, c.in_ok-event.ensures.cause.later, c.turns.invariant.4),
      asked_on _ _ _ _ _ _ c.in_ok-event.event (drawn_may _ _ (under_way _ _ _ _ _ c.turns.invariant.0) _ _ chosen) made c.in_ok-event.ensures.told _ _ c.asked_after-asked.result.items c.turns.invariant.5
          (c.enabled_among-among.ensures ∙ ap (filter (is_enabled c.turns.self.script (core_state_of c.turns.self))) c.as_slice.ensures.value) c.asked_after-asked.ensures c.in_ok-event.ensures.script,
    )

-- ---- nobody may go on

pub returns-then-is_empty-clause-run : goal.returns-then-is_empty-clause-run
returns-then-is_empty-clause-run g c =
    let core = c.turns.self in
    let now = core_state_of core in
    let start : Start = record { system = system_of c.args.self.now.levels; flat = g.flat } in
    let none : enabled_in core.script now now.users ≡ [] = sym (found_all _ _ _ c.as_slice.result.now _ c.turns.invariant.5 c.as_slice.ensures.value c.enabled_among-among.ensures) ∙ none_in c.enabled_among-among.result.items (sym c.is_empty.ensures ∙ c.if-is_empty.true) in
    let P : Script → Type 0 = λ s. IsRunFrom s start.system start.flat (IsTurnsOrderFrom s start.system c.args.seed) core.entries (system_of core.levels) in
    subst P c.turns.invariant.1 (whole _ _ _ _ _ c.turns.invariant.0 (over_now _ _ (under_way _ _ _ _ _ c.turns.invariant.0) none))

pub returns-then-is_empty-clause-under_way : goal.returns-then-is_empty-clause-under_way
returns-then-is_empty-clause-under_way g c = under_way _ _ _ _ _ c.turns.invariant.0

pub returns-then-is_empty-clause-front : goal.returns-then-is_empty-clause-front
returns-then-is_empty-clause-front g c =
    let P : Script → Type 0 = λ s. IsFrontFrom s (system_of c.args.self.now.levels) g.flat c.turns.self.entries in
    subst P c.turns.invariant.1 (front_here _ _ _ _ c.turns.invariant.0.after)

pub returns-then-is_empty-clause-settled : goal.returns-then-is_empty-clause-settled
returns-then-is_empty-clause-settled g c =
    let P : Script → Type 0 = λ s. AreSettledFrom s (system_of c.args.self.now.levels) c.turns.self.entries c.turns.self.levels.privates.value.items in
    subst P c.turns.invariant.1 (settled_here _ _ _ _ c.turns.invariant.0.after)

-- ---- an event that stopped

pub returns-in_err-event-clause-under_way : goal.returns-in_err-event-clause-under_way
returns-in_err-event-clause-under_way g c = way_on _ _ _ _ _ (c.in_err-event.ensures.left _ _ c.turns.invariant.0.after)

pub returns-in_err-event-clause-front : goal.returns-in_err-event-clause-front
returns-in_err-event-clause-front g c =
    let P : Script → Type 0 = λ s. IsFrontFrom s (system_of c.args.self.now.levels) g.flat c.event.new.self.entries in
    subst P (c.event.ensures.script ∙ c.turns.invariant.1) (front_on _ _ _ _ _ (c.in_err-event.ensures.left _ _ c.turns.invariant.0.after))

pub returns-in_err-event-clause-settled : goal.returns-in_err-event-clause-settled
returns-in_err-event-clause-settled g c =
    let P : Script → Type 0 = λ s. AreSettledFrom s (system_of c.args.self.now.levels) c.event.new.self.entries c.event.new.self.levels.privates.value.items in
    subst P (c.event.ensures.script ∙ c.turns.invariant.1) (settled_on _ _ _ _ _ (c.in_err-event.ensures.left _ _ c.turns.invariant.0.after))
