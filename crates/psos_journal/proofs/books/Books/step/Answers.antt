use Rattle.std.proofs.Common.{◌+◌, ◌++◌, [], slice_index, slice_set, ap, sym, ◌∙◌}
use Rattle.psos_journal.specs.Counts.{place_of, number_of, amount_of, six_totals, totals}
use Rattle.psos_journal.specs.declared.mark.Mark.{Mark}
use Rattle.psos_journal.proofs.GroupedCounts.{first_has, first_stepped, group_has, group_stepped}
use Rattle.psos_journal.proofs.books.Books.step.Goals as goal

pub returns-in-From0-clause-meets : goal.returns-in-From0-clause-meets
returns-in-From0-clause-meets g c =
    let b = c.args.self.now in
    let e = c.step.ensures in
    ap (λ (m : Mark g.row.T.Denot). slice_index (totals b) (number_of m)) c.in-From0.is ∙ (first_has (six_totals b.from0) (six_totals b.from6 ++ (six_totals b.from12 ++ six_totals b.from18)) (place_of c.in-From0.own) e.place.1 ∙ (e.meets ∙ ap (λ (m : Mark g.row.T.Denot). amount_of m) (sym c.in-From0.is)))

pub returns-in-From0-clause-totals : goal.returns-in-From0-clause-totals
returns-in-From0-clause-totals g c =
    let b = c.args.self.now in
    let e = c.step.ensures in
    first_stepped (six_totals b.from0) (six_totals c.step.new.self) (six_totals b.from6 ++ (six_totals b.from12 ++ six_totals b.from18)) (place_of c.in-From0.own) _ e.place.1 e.totals ∙ ap (λ (m : Mark g.row.T.Denot). slice_set (totals b) (number_of m) (amount_of m + c.args.more)) (sym c.in-From0.is)

pub returns-in-From6-clause-meets : goal.returns-in-From6-clause-meets
returns-in-From6-clause-meets g c =
    let b = c.args.self.now in
    let e = c.step-in-From6.ensures in
    ap (λ (m : Mark g.row.T.Denot). slice_index (totals b) (number_of m)) c.in-From6.is ∙ (group_has (six_totals b.from0) (six_totals b.from6) (six_totals b.from12 ++ six_totals b.from18) (place_of c.in-From6.own) e.place.1 ∙ (e.meets ∙ ap (λ (m : Mark g.row.T.Denot). amount_of m) (sym c.in-From6.is)))

pub returns-in-From6-clause-totals : goal.returns-in-From6-clause-totals
returns-in-From6-clause-totals g c =
    let b = c.args.self.now in
    let e = c.step-in-From6.ensures in
    group_stepped (six_totals b.from0) (six_totals b.from6) (six_totals c.step-in-From6.new.self) (six_totals b.from12 ++ six_totals b.from18) (place_of c.in-From6.own) _ e.place.1 e.totals ∙ ap (λ (m : Mark g.row.T.Denot). slice_set (totals b) (number_of m) (amount_of m + c.args.more)) (sym c.in-From6.is)

pub returns-in-From12-clause-meets : goal.returns-in-From12-clause-meets
returns-in-From12-clause-meets g c =
    let b = c.args.self.now in
    let e = c.step-in-From12.ensures in
    ap (λ (m : Mark g.row.T.Denot). slice_index (totals b) (number_of m)) c.in-From12.is ∙ (group_has (six_totals b.from0 ++ six_totals b.from6) (six_totals b.from12) (six_totals b.from18) (place_of c.in-From12.own) e.place.1 ∙ (e.meets ∙ ap (λ (m : Mark g.row.T.Denot). amount_of m) (sym c.in-From12.is)))

pub returns-in-From12-clause-totals : goal.returns-in-From12-clause-totals
returns-in-From12-clause-totals g c =
    let b = c.args.self.now in
    let e = c.step-in-From12.ensures in
    group_stepped (six_totals b.from0 ++ six_totals b.from6) (six_totals b.from12) (six_totals c.step-in-From12.new.self) (six_totals b.from18) (place_of c.in-From12.own) _ e.place.1 e.totals ∙ ap (λ (m : Mark g.row.T.Denot). slice_set (totals b) (number_of m) (amount_of m + c.args.more)) (sym c.in-From12.is)

pub returns-in-From18-clause-meets : goal.returns-in-From18-clause-meets
returns-in-From18-clause-meets g c =
    let b = c.args.self.now in
    let e = c.step-in-From18.ensures in
    ap (λ (m : Mark g.row.T.Denot). slice_index (totals b) (number_of m)) c.in-From18.is ∙ (group_has (six_totals b.from0 ++ (six_totals b.from6 ++ six_totals b.from12)) (six_totals b.from18) [] (place_of c.in-From18.own) e.place.1 ∙ (e.meets ∙ ap (λ (m : Mark g.row.T.Denot). amount_of m) (sym c.in-From18.is)))

pub returns-in-From18-clause-totals : goal.returns-in-From18-clause-totals
returns-in-From18-clause-totals g c =
    let b = c.args.self.now in
    let e = c.step-in-From18.ensures in
    group_stepped (six_totals b.from0 ++ (six_totals b.from6 ++ six_totals b.from12)) (six_totals b.from18) (six_totals c.step-in-From18.new.self) [] (place_of c.in-From18.own) _ e.place.1 e.totals ∙ ap (λ (m : Mark g.row.T.Denot). slice_set (totals b) (number_of m) (amount_of m + c.args.more)) (sym c.in-From18.is)
