use Rattle.std.proofs.Common.{◌≡◌, ◌==◌, Bool, true, nat_lt, sym, ap, ◌∙◌, arith}
use Rattle.std.proofs.lemmas.Bool.Decides.{nat_tests}
use Rattle.std.specs.List.{list_any}
use Rattle.psos_table.specs.Table.{kept, size}
use Rattle.psos_model.specs.declared.object.Object.{Object}
use Rattle.psos_model.proofs.RowSearch.{any_kept, any_here}
use Rattle.psos_model.proofs.objects.Objects.has_type.Goals as goal

pub returns-then-object-of : goal.returns-then-object-of
returns-then-object-of c =
    let test : Object → Bool = λ o. o.of == c.args.of in
    let same = c.if-object-of.true in
    let passes : (c.in-Some.object.now.of == c.args.of) ≡ true = grind (arith, nat_tests) in
    sym (any_here test c.objects.object-iterator _ c.in-Some.object.now c.in-Some.ensures.steps passes)
    ∙ (sym c.objects.invariant ∙ (ap (list_any test) (c.into_iter-object-iterator.ensures.into_iter_gives ∙ c.values-object-items.ensures.rest)
    ∙ (any_kept test c.self.inside.rows.entries c.values-object-items.ensures.ordered ∙ ap (λ m. nat_lt 0 (size (kept test m))) c.self.view_is)))

pub returns : goal.returns
returns c =
    let test : Object → Bool = λ o. o.of == c.args.of in
    sym (ap (list_any test) c.in-None.ensures.steps.0)
    ∙ (sym c.objects.invariant ∙ (ap (list_any test) (c.into_iter-object-iterator.ensures.into_iter_gives ∙ c.values-object-items.ensures.rest)
    ∙ (any_kept test c.self.inside.rows.entries c.values-object-items.ensures.ordered ∙ ap (λ m. nat_lt 0 (size (kept test m))) c.self.view_is)))
