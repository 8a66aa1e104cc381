use Rattle.std.proofs.Common.{Option, Some, length, refl, sym, ap, ◌∙◌, inl, inr, subst, arith}
use Rattle.std.specs.Prelude.{option_map}
use Rattle.std.specs.Vec.{with_item}
use Rattle.psos_calls.specs.declared.level.Level.{Level}
use Rattle.psos_model.specs.Events.{Event, event_of, core_step}
use Rattle.psos_core.specs.declared.event.Event.TheVariants.{Call as Called}
use Rattle.psos_core.specs.declared.ongoing.Ongoing.{Ongoing}
use Rattle.psos_core.specs.Plans.{state_in, next_for, IsLeveled}
use Rattle.psos_core.specs.Faults.{CanStopAt}
use Rattle.psos_journal.specs.declared.stop_cause.StopCause.TheVariants as stops
use Rattle.psos_core.specs.Events.{told}
use Rattle.psos_core.proofs.EventStep.{leveled, err_on, on_err}
use Rattle.psos_core.proofs.EventParts.{holds, traced, same_is, stayed}
use Rattle.psos_core.proofs.CallFacts.{is_lock_there, is_calling, event_is_call, can_make, has_room, has_called, can_plan_then, closes_then, has_stepped, has_stopped}
use Rattle.psos_core.proofs.step.take_or_call.Goals as goal

pub lock_of-lock-requires : goal.lock_of-lock-requires
lock_of-lock-requires g c = subst IsLeveled c.requires.asked (leveled c.args.script.now (state_in c.args.levels.now c.args.ongoing.now c.args.entries.now) c.args.user)

pub make-requires-clause-level : goal.make-requires-clause-level
make-requires-clause-level g c = subst IsLeveled c.requires.asked (leveled c.args.script.now (state_in c.args.levels.now c.args.ongoing.now c.args.entries.now) c.args.user)

pub enabled-requires-clause-user : goal.enabled-requires-clause-user
enabled-requires-clause-user g c = holds _ _ _ _ c.requires.may

pub take-requires-clause-user : goal.take-requires-clause-user
take-requires-clause-user g c = holds _ _ _ _ c.requires.may

pub enabled-requires-clause-lock : goal.enabled-requires-clause-lock
enabled-requires-clause-lock g c = is_lock_there _ _ _ _ c.args.call.now c.requires.may c.users.result.now c.lock_of-lock.result c.users.ensures c.lock_of-lock.ensures

pub take-requires-clause-lock : goal.take-requires-clause-lock
take-requires-clause-lock g c = is_lock_there _ _ _ _ c.args.call.now c.requires.may c.users.result.now c.lock_of-lock.result c.users.ensures c.lock_of-lock.ensures

pub index_mut-requires : goal.index_mut-requires
index_mut-requires g c = grind (arith, traced _ _ _ _ c.requires.may)

pub index-requires : goal.index-requires
index-requires g c = grind (arith, traced _ _ _ _ c.requires.may)

pub make-requires-clause-can : goal.make-requires-clause-can
make-requires-clause-can g c =
    let calls = is_calling _ _ _ _ c.args.level c.args.call.now c.requires.may c.requires.asked c.users.result.now c.lock_of-lock.result c.enabled.result c.users.ensures c.lock_of-lock.ensures c.enabled.ensures c.if-not-enabled.false in
    can_make _ _ _ _ _ _ calls

pub make-requires-clause-room : goal.make-requires-clause-room
make-requires-clause-room g c =
    let calls = is_calling _ _ _ _ c.args.level c.args.call.now c.requires.may c.requires.asked c.users.result.now c.lock_of-lock.result c.enabled.result c.users.ensures c.lock_of-lock.ensures c.enabled.ensures c.if-not-enabled.false in
    has_room _ _ _ _ _ _ calls c.index_mut.result.now c.index_mut.ensures.value

pub planned-then-requires-clause-trace : goal.planned-then-requires-clause-trace
planned-then-requires-clause-trace g c =
    let calls = is_calling _ _ _ _ c.args.level c.args.call.now c.requires.may c.requires.asked c.users.result.now c.lock_of-lock.result c.enabled.result c.users.ensures c.lock_of-lock.ensures c.enabled.ensures c.if-not-enabled.false in
    let called = has_called _ _ _ _ _ _ calls c.as_slice.result.now c.index-as_slice-u.result ((c.as_slice.ensures.value ∙ ap (λ p. p.items) c.deref.ensures) ∙ ap (λ ps. ps.value.items) c.in_ok-make.ensures.privates) c.index-as_slice-u.is c.index_mut.result.now c.make.new.trace c.index_mut.ensures.value c.in_ok-make.ensures.trace in
    can_plan_then _ _ _ _ _ _ _ _ c.index.result.now called c.index.ensures

pub returns-clause-happened : goal.returns-clause-happened
returns-clause-happened g c =
    let calls = is_calling _ _ _ _ c.args.level c.args.call.now c.requires.may c.requires.asked c.users.result.now c.lock_of-lock.result c.enabled.result c.users.ensures c.lock_of-lock.ensures c.enabled.ensures c.if-not-enabled.false in
    let called = has_called _ _ _ _ _ _ calls c.as_slice.result.now c.index-as_slice-u.result ((c.as_slice.ensures.value ∙ ap (λ p. p.items) c.deref.ensures) ∙ ap (λ ps. ps.value.items) c.in_ok-make.ensures.privates) c.index-as_slice-u.is c.index_mut.result.now c.make.new.trace c.index_mut.ensures.value c.in_ok-make.ensures.trace in
    has_stepped c.args.script.now c.args.levels.now c.make.new.levels c.args.ongoing.now c.args.entries.now c.args.user _ _ _ _ c.index.result.now c.planned-then.result called c.index.ensures c.in_ok-make.ensures.levels c.in_ok-make.ensures.privates c.planned-then.ensures.told
    (sym c.is_known-known.ensures ∙ c.if-not-known.false)

pub returns-then-not-known-clause-left : goal.returns-then-not-known-clause-left
returns-then-not-known-clause-left g c =
    let calls = is_calling _ _ _ _ c.args.level c.args.call.now c.requires.may c.requires.asked c.users.result.now c.lock_of-lock.result c.enabled.result c.users.ensures c.lock_of-lock.ensures c.enabled.ensures c.if-not-enabled.false in
    let called = has_called _ _ _ _ _ _ calls c.as_slice.result.now c.index-as_slice-u.result ((c.as_slice.ensures.value ∙ ap (λ p. p.items) c.deref.ensures) ∙ ap (λ ps. ps.value.items) c.in_ok-make.ensures.privates) c.index-as_slice-u.is c.index_mut.result.now c.make.new.trace c.index_mut.ensures.value c.in_ok-make.ensures.trace in
    has_stopped c.args.script.now c.args.levels.now c.make.new.levels c.args.ongoing.now c.args.entries.now c.args.user _ _ _ _ c.index.result.now c.planned-then.result called c.index.ensures c.in_ok-make.ensures.levels c.in_ok-make.ensures.privates c.planned-then.ensures.told

pub returns-then-not-known-clause-why : goal.returns-then-not-known-clause-why
returns-then-not-known-clause-why g c =
    let now = state_in c.args.levels.now c.args.ongoing.now c.args.entries.now in
    let calls = is_calling _ _ _ _ c.args.level c.args.call.now c.requires.may c.requires.asked c.users.result.now c.lock_of-lock.result c.enabled.result c.users.ensures c.lock_of-lock.ensures c.enabled.ensures c.if-not-enabled.false in
    let called = has_called _ _ _ _ _ _ calls c.as_slice.result.now c.index-as_slice-u.result ((c.as_slice.ensures.value ∙ ap (λ p. p.items) c.deref.ensures) ∙ ap (λ ps. ps.value.items) c.in_ok-make.ensures.privates) c.index-as_slice-u.is c.index_mut.result.now c.make.new.trace c.index_mut.ensures.value c.in_ok-make.ensures.trace in
    let P : Option Event → Type 0 = λ e. CanStopAt e (next_for c.args.script.now (core_step c.args.script.now now c.args.user) c.args.user) stops.Memory in
    subst P (sym (event_is_call _ _ _ _ _ _ calls))
    (inr (refl, closes_then _ _ _ _ _ _ _ _ c.index.result.now called c.index.ensures c.planned-then.result c.planned-then.ensures.told (sym c.is_known-known.ensures ∙ c.if-not-known.true)))

pub returns-in_err-make-clause-left : goal.returns-in_err-make-clause-left
returns-in_err-make-clause-left g c =
    let o = c.args.ongoing.now in
    let left : Ongoing = record { held = o.held; traces = with_item o.traces c.args.user c.make.new.trace; nexts = o.nexts; phases = o.phases } in
    on_err c.from_residual.result (stayed _ _ o _ c.requires.may (state_in c.make.new.levels left c.args.entries.now) left
    (same_is c.args.levels.now c.make.new.levels o left c.args.entries.now c.args.user c.index_mut.result.now c.make.new.trace c.in_err-make.ensures.kept c.make.ensures.privates refl refl c.in_err-make.ensures.unchanged c.index_mut.ensures.value) refl refl)

pub returns-in_err-make-clause-why : goal.returns-in_err-make-clause-why
returns-in_err-make-clause-why g c =
    let s = c.args.script.now in
    let now = state_in c.args.levels.now c.args.ongoing.now c.args.entries.now in
    let calls = is_calling _ _ _ _ c.args.level c.args.call.now c.requires.may c.requires.asked c.users.result.now c.lock_of-lock.result c.enabled.result c.users.ensures c.lock_of-lock.ensures c.enabled.ensures c.if-not-enabled.false in
    let P : Option Event → Type 0 = λ e. CanStopAt e (next_for s (core_step s now c.args.user) c.args.user) c.in_err-make.field-0.0 in
    err_on c.from_residual.result c.in_err-make.field-0.0 (CanStopAt (event_of s now c.args.user) (next_for s (core_step s now c.args.user) c.args.user)) c.from_residual.ensures.1
    (subst P (sym (event_is_call _ _ _ _ _ _ calls)) (inl c.in_err-make.ensures.why))

pub returns-clause-told : goal.returns-clause-told
returns-clause-told g c =
    let now = state_in c.args.levels.now c.args.ongoing.now c.args.entries.now in
    let calls = is_calling _ _ _ _ c.args.level c.args.call.now c.requires.may c.requires.asked c.users.result.now c.lock_of-lock.result c.enabled.result c.users.ensures c.lock_of-lock.ensures c.enabled.ensures c.if-not-enabled.false in
    ap (λ (k : Level). Some (Called k)) (sym (subst IsLeveled c.requires.asked (leveled c.args.script.now now c.args.user)))
    ∙ ap (option_map (told (length c.args.entries.now))) (sym (event_is_call _ _ _ _ _ _ calls))
