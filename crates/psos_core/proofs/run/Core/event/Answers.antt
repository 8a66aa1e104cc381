use Rattle.std.proofs.Common.{[], ◌∷◌, ◌++◌, inl}
use Rattle.std.proofs.lemmas.Grind.{merely}
use Rattle.psos_core.specs.Events.{core_state_of}
use Rattle.psos_core.proofs.EventStep.{if_ok, from_err}
use Rattle.psos_core.proofs.TurnsRun.{led_more, led_still}
use Rattle.psos_core.proofs.run.Core.event.Goals as goal

pub returns-in_default-clause-after : goal.returns-in_default-clause-after
returns-in_default-clause-after g c =
    let core = c.args.self.now in
    if_ok c.step-made.result (λ stepped start turns h. led_more core.script (core_state_of core) _ start turns c.args.user h c.requires.may.enabled stepped.state) c.step-made.ensures.happened

pub returns-in-Err-clause-left : goal.returns-in-Err-clause-left
returns-in-Err-clause-left g c = λ start turns h.
    let core = c.args.self.now in
    led_still core.script (core_state_of core) _ start turns c.args.user h c.requires.may.enabled (from_err c.step-made.result _ _ c.in-Err.is c.step-made.ensures.left).state

pub invariant_of-self-in_default-clause-goes_on : goal.invariant_of-self-in_default-clause-goes_on
invariant_of-self-in_default-clause-goes_on g c = λ none.
    let core = c.args.self.now in
    let way = c.requires.may.under_way in
    merely (inl (record {
      start = way.start;
      turns = way.turns ++ c.args.user ∷ [];
      after = led_more core.script (core_state_of core) _ way.start way.turns c.args.user way.after c.requires.may.enabled c.in_default.ensures.happened.state;
    }))
