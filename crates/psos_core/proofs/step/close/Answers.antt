use Rattle.std.proofs.Common.{List, ◌≡◌, ◌++◌, ◌∷◌, [], length, map, set, refl, sym, ap, ◌∙◌, subst, arith}
use Rattle.std.specs.List.{refill}
use Rattle.std.specs.Vec.{with_item}
use Rattle.std.proofs.lemmas.Grind.{common_steps}
use Rattle.std.proofs.lemmas.Option.{same_Some}
use Rattle.psos_calls.specs.Language.User.{User, CanSettle, place_of, after}
use Rattle.psos_calls.specs.Plan.Trace.{calls_in}
use Rattle.psos_model.specs.Run.{phase_of}
use Rattle.psos_model.specs.Events.{trace_of}
use Rattle.psos_core.specs.declared.levels.Levels.{Levels}
use Rattle.psos_core.specs.declared.ongoing.Ongoing.{Ongoing}
use Rattle.psos_core.specs.declared.upcoming.Upcoming.{Upcoming}
use Rattle.psos_core.specs.Plans.{state_in}
use Rattle.psos_core.proofs.UserSlots.{found_there}
use Rattle.psos_core.proofs.EventStep.{in_place}
use Rattle.psos_core.proofs.EventRun.{few}
use Rattle.psos_core.proofs.EventParts.{below, holds, traced, phased, closed_is, closing, waits, shut}
use Rattle.psos_core.proofs.CloseFacts.{is_at_close, settles, answered_room, within_room, parts_then, phases_then, empty_then, can_plan_then, tells_then}
use Rattle.psos_core.proofs.step.close.Goals as goal

pub place-n-requires-clause-answered : goal.place-n-requires-clause-answered
place-n-requires-clause-answered g c =
    let w = c.in-Known-Close in
    answered_room _ _ _ _ _ _ _
    (is_at_close _ _ _ _ c.requires.may c.index_mut.result.now c.replace.result w.field-0 w.reply w.effect c.index_mut.ensures.value c.replace.ensures.value w.is w.field-0-is c.as_slice.result.now c.index-as_slice-u.result (c.as_slice.ensures.value ∙ ap (λ p. p.items) c.deref.ensures) c.index-as_slice-u.is)

pub place-n-requires-clause-within : goal.place-n-requires-clause-within
place-n-requires-clause-within g c =
    let w = c.in-Known-Close in
    within_room _ _ _ _ _ _ _
    (is_at_close _ _ _ _ c.requires.may c.index_mut.result.now c.replace.result w.field-0 w.reply w.effect c.index_mut.ensures.value c.replace.ensures.value w.is w.field-0-is c.as_slice.result.now c.index-as_slice-u.result (c.as_slice.ensures.value ∙ ap (λ p. p.items) c.deref.ensures) c.index-as_slice-u.is)

pub index-requires : goal.index-requires
index-requires g c = grind (arith, traced _ _ _ _ c.requires.may)

pub index_mut-requires-2 : goal.index_mut-requires-2
index_mut-requires-2 g c = grind (arith, traced _ _ _ _ c.requires.may)

pub index-requires-2 : goal.index-requires-2
index-requires-2 g c = grind (arith, traced _ _ _ _ c.requires.may)

pub set-requires : goal.set-requires
set-requires g c = phased _ _ _ _ c.requires.may

pub release-requires : goal.release-requires
release-requires g c = holds _ _ _ _ c.requires.may

pub push-requires : goal.push-requires
push-requires g c = omega (arith, few _ _ c.requires.may.goes.under_way)

pub settle-requires : goal.settle-requires
settle-requires g c =
    let w = c.in-Known-Close in
    let closes = is_at_close _ _ _ _ c.requires.may c.index_mut.result.now c.replace.result w.field-0 w.reply w.effect c.index_mut.ensures.value c.replace.ensures.value w.is w.field-0-is c.as_mut_slice.result.now c.index-as_mut_slice-u.result (c.as_mut_slice.ensures.value ∙ ap (λ p. p.items) c.deref_mut.ensures.value) c.index-as_mut_slice-u.is in
    subst (λ (z : User). CanSettle z w.effect) c.index-as_mut_slice-u.is (settles _ _ _ _ _ _ _ closes)

pub planned-requires-clause-trace : goal.planned-requires-clause-trace
planned-requires-clause-trace g c =
    let w = c.in-Known-Close in
    let back = ap (λ (us : List User). refill (length us) us (set c.as_mut_slice.result.now c.args.user c.settle.new.self)) (ap (λ p. p.items) c.deref_mut.ensures.value) in
    let closes = is_at_close _ _ _ _ c.requires.may c.index_mut.result.now c.replace.result w.field-0 w.reply w.effect c.index_mut.ensures.value c.replace.ensures.value w.is w.field-0-is c.as_mut_slice.result.now c.index-as_mut_slice-u.result (c.as_mut_slice.ensures.value ∙ ap (λ p. p.items) c.deref_mut.ensures.value) c.index-as_mut_slice-u.is in
    can_plan_then _ _ _ _ _ _ _ closes c.as_mut_slice.result.now (c.as_mut_slice.ensures.value ∙ ap (λ p. p.items) c.deref_mut.ensures.value) c.index-as_mut_slice-u.is c.settle.new.self c.settle.ensures
    c.as_slice-2.result.now c.index-as_slice-u-2.result c.clear.new.self c.index-2.result.now (c.as_slice-2.ensures.value ∙ ap (λ p. p.items) c.deref-2.ensures ∙ back) c.index-as_slice-u-2.is c.clear.ensures c.index-2.ensures

pub returns-clause-happened : goal.returns-clause-happened
returns-clause-happened g c =
    let s = c.args.script.now in
    let o = c.args.ongoing.now in
    let l = c.args.levels.now in
    let now = state_in l o c.args.entries.now in
    let u = c.args.user in
    let w = c.in-Known-Close in
    let x = c.index-as_mut_slice-u.result in
    let back = ap (λ (us : List User). refill (length us) us (set c.as_mut_slice.result.now c.args.user c.settle.new.self)) (ap (λ p. p.items) c.deref_mut.ensures.value) in
    let closes = is_at_close s now o u c.requires.may c.index_mut.result.now c.replace.result w.field-0 w.reply w.effect c.index_mut.ensures.value c.replace.ensures.value w.is w.field-0-is c.as_mut_slice.result.now x (c.as_mut_slice.ensures.value ∙ ap (λ p. p.items) c.deref_mut.ensures.value) c.index-as_mut_slice-u.is in
    let parts = parts_then _ _ _ _ _ _ _ closes c.as_mut_slice.result.now (c.as_mut_slice.ensures.value ∙ ap (λ p. p.items) c.deref_mut.ensures.value) c.index-as_mut_slice-u.is c.settle.new.self c.settle.ensures in
    let empty = empty_then _ _ _ _ _ _ _ closes c.as_mut_slice.result.now (c.as_mut_slice.ensures.value ∙ ap (λ p. p.items) c.deref_mut.ensures.value) c.index-as_mut_slice-u.is c.settle.new.self c.settle.ensures
    c.as_slice-2.result.now c.index-as_slice-u-2.result c.clear.new.self c.index-2.result.now (c.as_slice-2.ensures.value ∙ ap (λ p. p.items) c.deref-2.ensures ∙ back) c.index-as_slice-u-2.is c.clear.ensures c.index-2.ensures in
    let tells = tells_then _ _ _ _ _ _ _ closes c.as_mut_slice.result.now (c.as_mut_slice.ensures.value ∙ ap (λ p. p.items) c.deref_mut.ensures.value) c.index-as_mut_slice-u.is c.settle.new.self c.settle.ensures
    c.as_slice-2.result.now c.index-as_slice-u-2.result c.clear.new.self c.index-2.result.now (c.as_slice-2.ensures.value ∙ ap (λ p. p.items) c.deref-2.ensures ∙ back) c.index-as_slice-u-2.is c.clear.ensures c.index-2.ensures c.planned.result c.planned.ensures.told in
    let first = found_there c.as_slice.result.now now.users u c.index-as_slice-u.result (c.as_slice.ensures.value ∙ ap (λ p. p.items) c.deref.ensures) c.index-as_slice-u.is (below s now o u c.requires.may) in
    let steps : c.in-Ok.steps ≡ calls_in (trace_of now u) = c.in-Ok.ensures ∙ ap calls_in (in_place now.traces u c.index.result.now [] (traced s now o u c.requires.may) c.index.ensures) in
    let place : (c.place-n.result.0, c.place-n.result.1) ≡ place_of x = c.place-n.ensures ∙ ap place_of (same_Some c.index-as_slice-u.result x (sym first ∙ closes.here)) in
    let pushed : c.push.new.self ≡ c.args.entries.now ++ record { user = u; n = c.place-n.result.0; m = c.place-n.result.1; steps = c.in-Ok.steps; reply = w.reply } ∷ [] = grind (arith, common_steps) in
    let phases : c.set.new.self ≡ map (phase_of s) (set now.users u (after s x w.effect)) =
    c.set.ensures ∙ phases_then _ _ _ _ _ _ _ closes c.as_mut_slice.result.now (c.as_mut_slice.ensures.value ∙ ap (λ p. p.items) c.deref_mut.ensures.value) c.index-as_mut_slice-u.is c.settle.new.self c.settle.ensures
    c.as_slice-3.result.now c.index-as_slice-u-3.result c.phase_of.result o.phases (c.as_slice-3.ensures.value ∙ ap (λ p. p.items) c.deref-3.ensures ∙ back) c.index-as_slice-u-3.is c.phase_of.ensures c.requires.may.planned.phases-are in
    let m : Levels _ = record l { privates = record l.privates { value = record { items = refill (length c.deref_mut.result.now.items) c.deref_mut.result.now.items (set c.as_mut_slice.result.now u c.settle.new.self) } } } in
    let p : Ongoing = record {
      held = c.release.new.self;
      traces = with_item o.traces u c.clear.new.self;
      nexts = with_item (with_item o.nexts u c.replace.new.dest) u c.planned.result;
      phases = c.set.new.self;
    } in
    shut s now o u c.requires.may w.reply w.effect closes.asked x closes.here (state_in m p c.push.new.self) p c.planned.result
    (closed_is s l m o p c.args.entries.now c.push.new.self u x w.reply w.effect c.clear.new.self c.in-Ok.steps c.place-n.result.0 c.place-n.result.1 refl (back ∙ parts) c.release.ensures.held refl c.clear.ensures steps place pushed)
    tells (c.planned.ensures.first empty) (ap (λ (n : Upcoming). set (set o.nexts.items u n) u c.planned.result) c.replace.ensures.after) phases

pub returns-then-is_err-clause-left : goal.returns-then-is_err-clause-left
returns-then-is_err-clause-left g c =
    let s = c.args.script.now in
    let o = c.args.ongoing.now in
    let l = c.args.levels.now in
    let u = c.args.user in
    let w = c.in-Known-Close in
    let asked = closing s (state_in l o c.args.entries.now) o u c.requires.may c.index_mut.result.now c.replace.result w.field-0 w.reply w.effect c.index_mut.ensures.value c.replace.ensures.value w.is w.field-0-is in
    let same : c.push.new.self ≡ c.args.entries.now = grind (arith, common_steps) in
    let p : Ongoing = record { held = o.held; traces = o.traces; nexts = with_item o.nexts u c.replace.new.dest; phases = o.phases } in
    waits s (state_in l o c.args.entries.now) o u c.requires.may w.reply w.effect asked (state_in l p c.push.new.self) p (ap (state_in l o) same) (ap (set o.nexts.items u) c.replace.ensures.after) refl
