use Rattle.std.proofs.Common.{List, map, sym, ap, ◌∙◌}
use Rattle.std.specs.FinMap.{keys}
use Rattle.psos_text.specs.declared.name.Name.{Name}
use Rattle.psos_model.specs.declared.named.Named.{Named}
use Rattle.psos_model.proofs.NameOrder.{name_cmp_total}
use Rattle.psos_model.proofs.NameSearch.{all_passed, entries_rows}
use Rattle.psos_model.proofs.names_table.NamesTable.keys.Goals as goal

pub returns : goal.returns
returns c =
    let names : List (Name × Named) → List Name = λ es. map (λ e. e.0) es in
    all_passed c.names.names c.names.name-iterator _ c.names.invariant c.in-None.ensures.steps.0
    ∙ (c.into_iter-name-iterator.ensures.into_iter_gives ∙ (c.keys-name-items.ensures.rest
    ∙ (sym (ap names (entries_rows name_cmp_total c.self.inside.entries.entries c.keys-name-items.ensures.ordered)) ∙ ap keys c.self.view_is)))
