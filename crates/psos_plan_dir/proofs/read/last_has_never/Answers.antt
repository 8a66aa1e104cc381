use Rattle.std.proofs.Common.{[], sym, ap, subst, ◌∙◌}
use Rattle.psos_words.specs.Directory.{has_never}
use Rattle.psos_dirrep.specs.Pages.{AreSlots}
use Rattle.psos_plan_dir.specs.Pages.{page_in}
use Rattle.psos_plan_dir.proofs.PageWalk.{last-is, last-none, no-page}
use Rattle.psos_plan_dir.proofs.read.last_has_never.Goals as goal

pub returns-in-Whole : goal.returns-in-Whole
returns-in-Whole c =
    let last = last-is [] c.args.pages.now c.in-Some.last (sym c.in-Some.ensures) ∙ ap page_in c.in-Whole.is in
    let are = subst AreSlots (last ∙ sym c.page.ensures) c.requires in
    c.ends_never.ensures.directory are ∙ ap has_never c.page.ensures ∙ sym (ap has_never last)

pub returns-in_default : goal.returns-in_default
returns-in_default c =
    let last = last-is [] c.args.pages.now c.in-Some.last (sym c.in-Some.ensures) in
    sym (ap has_never (last ∙ no-page c.in-Some.last.answer c.in_default.not-Whole))

pub returns-in-None : goal.returns-in-None
returns-in-None c = sym (ap has_never (last-none [] c.args.pages.now (sym c.in-None.ensures)))
