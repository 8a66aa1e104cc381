use Rattle.std.proofs.Common.{ap, ◌∙◌, rules}
use Rattle.std.proofs.lemmas.Map.Made.{filter_same_pairs}
use Rattle.std.specs.Cmp.{nat_cmp_total}
use Rattle.std.specs.FinMap.{nat_cmp-IsAntisymmetric}
use Rattle.psos_table.specs.Table.{kept}
use Rattle.psos_table.proofs.Rows.{rows_kept}
use Rattle.psos_table.proofs.table.Table.keep.Goals as goal

pub returns : goal.returns
returns g c =
    let test = g.T.Test.test c.args.test.now in
    rows_kept nat_cmp_total nat_cmp-IsAntisymmetric test c.self.inside.rows.entries c.retain.new.self.entries c.retain.ensures.was_ordered
    (filter_same_pairs _ (λ e. test e.1) _ (λ k v b w f' t. search rules) _ _ c.retain.ensures.filtered)
    ∙ ap (kept test) c.self.view_is
