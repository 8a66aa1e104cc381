use Rattle.std.proofs.Common.{◌≡◌, List, length, refl, sym, ap, subst, ◌∙◌, arith}
use Rattle.psos_calls.specs.declared.next.Next.TheVariants as nexts
use Rattle.std.proofs.lemmas.Option.{slice_get_within}
use Rattle.psos_calls.specs.declared.step.Step.{Step}
use Rattle.psos_calls.specs.Language.User.{User}
use Rattle.psos_calls.specs.Plan.Requests.{plan_of}
use Rattle.psos_calls.specs.Plan.Trace.{followed, IsTraceOf}
use Rattle.psos_core.proofs.PlanRun.{IsLeft, all_left, can_ask, level_is, left_more, fewer_left, whole_at_close}
use Rattle.psos_core.proofs.UserSlots.{found_is, asks_next}
use Rattle.psos_core.specs.System.{levels_of}
use Rattle.psos_core.proofs.perform.perform.Goals as goal

pub walk-init : goal.walk-init
walk-init g c =
    let p = plan_of g.me c.args.request.now in
    let l = levels_of c.args.levels.now in
    let P : List Step → Type 0 = λ t. IsLeft p l l t in
    (subst P (sym c.requires.1.1.1.1.1.1) (all_left p l c.requires.1.1.1.1.0), refl, omega arith)

pub bounds-as_slice-u : goal.bounds-as_slice-u
bounds-as_slice-u g c =
    let within = slice_get_within c.args.levels.now.privates.value.items c.args.u g.me c.requires.1.0 in
    let same = (c.as_slice.ensures.value ∙ ap (λ p. p.items) c.deref.ensures) ∙ ap (λ p. p.value.items) c.walk.invariant.1 in
    omega (arith, within, ap (λ (xs : List User). length xs) same)

pub next-requires-clause-trace : goal.next-requires-clause-trace
next-requires-clause-trace g c =
    let found : c.index-as_slice-u.result ≡ g.me = found_is c.args.levels.now.privates.value.items c.walk.levels.privates.value.items c.as_slice.result.now c.args.u c.index-as_slice-u.result g.me c.requires.1.0 (ap (λ p. p.value.items) c.walk.invariant.1) (c.as_slice.ensures.value ∙ ap (λ p. p.items) c.deref.ensures) c.index-as_slice-u.is in
    let P : User → Type 0 = λ x. IsTraceOf (plan_of x c.args.request.now) (levels_of c.args.levels.now) c.walk.trace in
    (levels_of c.args.levels.now, subst P (sym found) c.walk.invariant.0.traced, c.requires.1.1.1.0)

pub make-requires-clause-level : goal.make-requires-clause-level
make-requires-clause-level g c =
    let asked = asks_next _ _ _ _ c.index-as_slice-u.result g.me c.args.request.now c.walk.trace c.in-Ok.then (nexts.Call c.in-Call.level c.in-Call.call) c.requires.1.0 (ap (λ p. p.value.items) c.walk.invariant.1) (c.as_slice.ensures.value ∙ ap (λ p. p.items) c.deref.ensures) c.index-as_slice-u.is c.in-Ok.ensures.answer c.in-Call.is in
    level_is (followed (plan_of g.me c.args.request.now) c.walk.trace) c.in-Call.level c.in-Call.call asked

pub make-requires-clause-can : goal.make-requires-clause-can
make-requires-clause-can g c =
    let asked = asks_next _ _ _ _ c.index-as_slice-u.result g.me c.args.request.now c.walk.trace c.in-Ok.then (nexts.Call c.in-Call.level c.in-Call.call) c.requires.1.0 (ap (λ p. p.value.items) c.walk.invariant.1) (c.as_slice.ensures.value ∙ ap (λ p. p.items) c.deref.ensures) c.index-as_slice-u.is c.in-Ok.ensures.answer c.in-Call.is in
    can_ask (followed (plan_of g.me c.args.request.now) c.walk.trace) (levels_of c.walk.levels) c.in-Call.level c.in-Call.call c.walk.invariant.0.can asked

pub walk-smaller : goal.walk-smaller
walk-smaller g c =
    let asked = asks_next _ _ _ _ c.index-as_slice-u.result g.me c.args.request.now c.walk.trace c.in-Ok.then (nexts.Call c.in-Call.level c.in-Call.call) c.requires.1.0 (ap (λ p. p.value.items) c.walk.invariant.1) (c.as_slice.ensures.value ∙ ap (λ p. p.items) c.deref.ensures) c.index-as_slice-u.is c.in-Ok.ensures.answer c.in-Call.is in
    rw (c.in_ok-make-in-Call.ensures.trace) (fewer_left _ _ _ _ _ _ _ (levels_of c.make.new.levels) c.walk.invariant.0 asked refl c.in_ok-make-in-Call.ensures.levels)

pub walk-preserved : goal.walk-preserved
walk-preserved g c =
    let asked = asks_next _ _ _ _ c.index-as_slice-u.result g.me c.args.request.now c.walk.trace c.in-Ok.then (nexts.Call c.in-Call.level c.in-Call.call) c.requires.1.0 (ap (λ p. p.value.items) c.walk.invariant.1) (c.as_slice.ensures.value ∙ ap (λ p. p.items) c.deref.ensures) c.index-as_slice-u.is c.in-Ok.ensures.answer c.in-Call.is in
    let left = left_more _ _ _ _ _ _ _ (levels_of c.make.new.levels) c.walk.invariant.0 asked refl c.in_ok-make-in-Call.ensures.levels in
    (rw (c.in_ok-make-in-Call.ensures.trace) left, c.make.ensures.privates ∙ c.walk.invariant.1, omega (arith, c.make.ensures.cause.later, c.walk.invariant.2))

pub returns-in-Close-clause-ran : goal.returns-in-Close-clause-ran
returns-in-Close-clause-ran g c =
    let closed = asks_next _ _ _ _ c.index-as_slice-u.result g.me c.args.request.now c.walk.trace c.in-Ok.then (nexts.Close c.in-Close.reply c.in-Close.effect) c.requires.1.0 (ap (λ p. p.value.items) c.walk.invariant.1) (c.as_slice.ensures.value ∙ ap (λ p. p.items) c.deref.ensures) c.index-as_slice-u.is c.in-Ok.ensures.answer c.in-Close.is in
    whole_at_close (plan_of g.me c.args.request.now) (levels_of c.args.levels.now) (levels_of c.walk.levels) c.walk.trace c.in-Close.reply c.in-Close.effect c.walk.invariant.0 closed
