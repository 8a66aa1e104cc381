use Rattle.std.proofs.Common.{ℕ, ◌+◌, sym, ap, ◌∙◌}
use Rattle.std.specs.Prelude.{Option, option_map}
use Rattle.psos_dirrep.specs.Pages.{slots_in}
use Rattle.psos_dirrep.proofs.SlotSearch.{scan-free}
use Rattle.psos_dirrep.proofs.page.free_on.Goals as goal

pub returns-in-Some-clause-place : goal.returns-in-Some-clause-place
returns-in-Some-clause-place c h =
    ap (λ (o : Option ℕ). option_map (λ i. c.args.base + i) o) (sym c.in-Some.is ∙ c.scan_free.ensures.place ∙ scan-free 0 c.args.page.now (slots_in c.args.page.now) h.slots)

pub returns-in-None-clause-place : goal.returns-in-None-clause-place
returns-in-None-clause-place c h =
    ap (λ (o : Option ℕ). option_map (λ i. c.args.base + i) o) (sym c.in-None.is ∙ c.scan_free.ensures.place ∙ scan-free 0 c.args.page.now (slots_in c.args.page.now) h.slots)
