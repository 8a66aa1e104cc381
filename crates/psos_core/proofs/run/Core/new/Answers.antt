use Rattle.std.proofs.Common.{◌≡◌, List, [], length, map, replicate, inl, sym, ap, subst, ◌∙◌}
use Rattle.psos_calls.specs.Language.Script.{Script}
use Rattle.psos_calls.specs.Language.User.{User}
use Rattle.psos_model.specs.Run.{phase_of}
use Rattle.psos_agree.proofs.EntryLists.{directories_are_lists}
use Rattle.std.proofs.lemmas.Grind.{merely}
use Rattle.psos_core.specs.System.{levels_of, system_of}
use Rattle.psos_core.specs.Plans.{state_in, AreFirst, IsPlanned}
use Rattle.psos_core.proofs.EventStart.{first_led, first_planned}
use Rattle.psos_core.proofs.run.Core.new.Goals as goal

pub new-requires-clause-lists : goal.new-requires-clause-lists
new-requires-clause-lists g c =
    let start = c.requires.1 in
    (levels_of c.args.levels, directories_are_lists c.args.script (system_of c.args.levels) c.requires.0 start.stands start.start.sound)

pub returns-clause-events : goal.returns-clause-events
returns-clause-events g c = λ f start.
    let o = c.in_ok-ongoing.ongoing in
    let is = c.in_ok-ongoing.ensures in
    let users = (c.as_slice.ensures.value ∙ ap (λ p. p.items) c.deref.ensures) in
    first_led c.args.script _ c.args.levels o c.empty.result f start c.script.view_is c.empty.ensures
    (is.held ∙ ap (λ (us : List User). replicate (length us) []) users) (is.traces ∙ ap (λ (us : List User). replicate (length us) []) users)

pub invariant_of-result-clause-goes_on : goal.invariant_of-result-clause-goes_on
invariant_of-result-clause-goes_on g c = λ none.
    let o = c.in_ok-ongoing.ongoing in
    let is = c.in_ok-ongoing.ensures in
    let users = (c.as_slice.ensures.value ∙ ap (λ p. p.items) c.deref.ensures) in
    merely (inl (record {
      start = record { system = system_of c.args.levels; flat = c.requires.0 };
      turns = [];
      after = first_led c.args.script _ c.args.levels o c.empty.result c.requires.0 c.requires.1 c.script.view_is c.empty.ensures
          (is.held ∙ ap (λ (us : List User). replicate (length us) []) users) (is.traces ∙ ap (λ (us : List User). replicate (length us) []) users);
    }))

pub invariant_of-result-clause-planned : goal.invariant_of-result-clause-planned
invariant_of-result-clause-planned g c =
    let s = c.args.script in
    let l = c.args.levels in
    let o = c.in_ok-ongoing.ongoing in
    let is = c.in_ok-ongoing.ensures in
    let start = c.requires.1 in
    let users = (c.as_slice.ensures.value ∙ ap (λ p. p.items) c.deref.ensures) in
    let all : length l.privates.value.items ≡ length s.users = ap (λ (us : List User). length us) start.stands.users ∙ start.start.sound.all_users in
    let first : AreFirst s l.privates.value.items o.nexts.items = subst (λ (us : List User). AreFirst s us o.nexts.items) users is.nexts in
    let P : Script → Type 0 = λ z. IsPlanned z (state_in l o c.empty.result) o.nexts.items o.phases in
    subst P (sym c.script.view_is) (first_planned s l o c.empty.result all (is.held ∙ ap (λ (us : List User). replicate (length us) []) users)
    (is.traces ∙ ap (λ (us : List User). replicate (length us) []) users) first (is.phases ∙ ap (map (phase_of s)) users))
