use Rattle.std.proofs.Common.{sym, ap, ◌∙◌}
use Rattle.std.proofs.lemmas.Option.{same_Some}
use Rattle.psos_words.specs.Directory.{Found, gone_words}
use Rattle.psos_calls.specs.Plan.Parts.{put_slot, fine}
use Rattle.psos_plan_life.proofs.PlanSequence.{passed}
use Rattle.psos_plan_life.proofs.CreationPlans.{same_uid}
use Rattle.psos_plan_life.proofs.delete.forget.Goals as goal

pub returns-in-Ok : goal.returns-in-Ok
returns-in-Ok c found is =
    let entry = c.requires.entry in
    let same = same_Some _ _ (sym entry.is ∙ is) in
    let gives = rw (same_uid _ _ (entry.names ∙ ap (λ (f : Found). f.entry.cap.uid) same)) at c.in-Ok.ensures.past in
    passed gives (λ _. put_slot c.args.dir.now found.slot gone_words fine) (c.clear.ensures found is)

pub returns-in-Err : goal.returns-in-Err
returns-in-Err c found is =
    let entry = c.requires.entry in
    let same = same_Some _ _ (sym entry.is ∙ is) in
    let stops = rw (same_uid _ _ (entry.names ∙ ap (λ (f : Found). f.entry.cap.uid) same)) at c.in-Err.ensures.past in
    stops.comes (λ _. put_slot c.args.dir.now found.slot gone_words fine)
