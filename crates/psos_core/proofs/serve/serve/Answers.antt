use Rattle.std.proofs.Common.{◌≡◌, List, [], ◌∷◌, ◌++◌, length, get_or, sym, ap, subst, ◌∙◌, arith}
use Rattle.std.proofs.lemmas.Grind.{common_steps}
use Rattle.psos_calls.specs.declared.entry.Entry.{Entry}
use Rattle.psos_calls.specs.declared.level.Level.{Level}
use Rattle.psos_calls.specs.Levels.Calls.{LevelCall}
use Rattle.psos_calls.specs.Language.User.{User, CanSettle, place_of, after}
use Rattle.psos_core.specs.System.{system_of}
use Rattle.psos_core.proofs.UserSlots.{nobody}
use Rattle.psos_core.proofs.RequestServing.{ranged, lists, within as user_within, is_user, me_is, me_there, can_run, few_calls, can_settle, served}
use Rattle.psos_core.proofs.serve.serve.Goals as goal

pub perform-requires : goal.perform-requires
perform-requires g c κs within =
    let s = c.args.script.now in
    let y = system_of c.args.levels.now in
    let u = c.args.u in
    let r = c.args.request.now in
    let asks = c.requires.asks in
    let me = get_or y.users u nobody in
    (within, (me_there s y u r asks, (ranged s y u r asks, (lists s y u r asks, (can_run s y u r asks me (me_is s y u r asks), (few_calls s y u r asks me (me_is s y u r asks), c.clear.ensures))))))

pub bounds-as_mut_slice-u : goal.bounds-as_mut_slice-u
bounds-as_mut_slice-u g c =
    let y = system_of c.args.levels.now in
    let same : c.as_mut_slice.result.now ≡ y.users = (c.as_mut_slice.ensures.value ∙ ap (λ p. p.items) c.deref_mut.ensures.value) ∙ ap (λ p. p.value.items) c.in_ok-closing.ensures.privates in
    omega (arith, ap (λ (xs : List User). length xs) same, user_within c.args.script.now y c.args.u c.args.request.now c.requires.asks)

pub settle-requires : goal.settle-requires
settle-requires g c =
    let s = c.args.script.now in
    let y = system_of c.args.levels.now in
    let u = c.args.u in
    let r = c.args.request.now in
    let asks = c.requires.asks in
    let same : c.as_mut_slice.result.now ≡ y.users = (c.as_mut_slice.ensures.value ∙ ap (λ p. p.items) c.deref_mut.ensures.value) ∙ ap (λ p. p.value.items) c.in_ok-closing.ensures.privates in
    let found = c.index-as_mut_slice-u.result in
    let is = is_user s y u r asks c.as_mut_slice.result.now found same c.index-as_mut_slice-u.is in
    let P : User → Type 0 = λ x. CanSettle x c.in_ok-closing.closing.effect in
    subst P c.index-as_mut_slice-u.is (can_settle s y u r asks found (get_or y.users u nobody) _ _ _ _ is (me_is s y u r asks) c.in_ok-closing.ensures.ran)

pub returns-clause-served : goal.returns-clause-served
returns-clause-served g c =
    let s = c.args.script.now in
    let y = system_of c.args.levels.now in
    let u = c.args.u in
    let r = c.args.request.now in
    let asks = c.requires.asks in
    let users-are : c.deref_mut.result.now.items ≡ y.users = ap (λ p. p.items) c.deref_mut.ensures.value ∙ ap (λ p. p.value.items) c.in_ok-closing.ensures.privates in
    let found = c.index-as_mut_slice-u.result in
    let is = is_user s y u r asks c.as_mut_slice.result.now found (c.as_mut_slice.ensures.value ∙ users-are) c.index-as_mut_slice-u.is in
    let reader = c.index-as_slice-u.result in
    let read = is_user s y u r asks c.as_slice.result.now reader (c.as_slice.ensures.value ∙ ap (λ p. p.items) c.deref.ensures) c.index-as_slice-u.is in
    let settles = c.settle.ensures ∙ ap (λ (x : User). after s x c.in_ok-closing.closing.effect) (sym c.index-as_mut_slice-u.is) in
    let placed = c.place-n.ensures ∙ ap place_of read in
    let pushed : c.push.new.self ≡ c.args.entries.now ++ record { user = u; n = c.place-n.result.0; m = c.place-n.result.1; steps = c.in-Ok.steps; reply = c.in_ok-closing.closing.reply } ∷ [] = grind (arith, common_steps) in
    let G : List (Level × LevelCall) → List Entry = λ steps. c.args.entries.now ++ record { user = u; n = c.place-n.result.0; m = c.place-n.result.1; steps = steps; reply = c.in_ok-closing.closing.reply } ∷ [] in
    served s y u r asks (get_or y.users u nobody) found c.settle.new.self c.deref_mut.result.now.items c.as_mut_slice.result.now c.args.entries.now c.push.new.self _ _ c.in_ok-closing.closing.reply c.in_ok-closing.closing.effect
    c.place-n.result.0 c.place-n.result.1 (me_is s y u r asks) is users-are c.as_mut_slice.ensures.value c.in_ok-closing.ensures.ran settles placed (pushed ∙ ap G c.in-Ok.ensures)
