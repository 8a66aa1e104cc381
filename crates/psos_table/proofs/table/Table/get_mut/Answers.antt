use Rattle.std.proofs.Common.{refl, sym, ap, ◌∙◌}
use Rattle.std.specs.Cmp.{nat_cmp_total}
use Rattle.std.specs.FinMap.{from_entries}
use Rattle.std.specs.Ordering.{nat_cmp}
use Rattle.std.specs.BTreeMap.{BTreeMap}
use Rattle.psos_table.specs.Table.{at, edit}
use Rattle.psos_table.proofs.Rows.{get_rows, row_written}
use Rattle.psos_table.proofs.table.Table.get_mut.Goals as goal

pub returns : goal.returns
returns g c =
    let m = c.self.inside.rows in
    let untouched = ap (λ (t : BTreeMap _ _). from_entries {R = nat_cmp} t.entries) c.get_mut.follows.holds-at-none ∙ c.self.view_is in
    let row = c.get_mut.ensures.value ∙ (sym (get_rows nat_cmp_total m.entries c.args.key) ∙ ap (λ t. at t c.args.key) c.self.view_is) in
    ((refl, λ w. row_written m (c.get_mut.follows.lender w) c.args.key w (c.get_mut.follows.holds w) ∙ ap (λ t. edit t c.args.key (λ _. w)) c.self.view_is, untouched), record { writes_back = tt; value = row })
