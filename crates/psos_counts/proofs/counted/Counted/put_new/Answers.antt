use Rattle.std.proofs.Common.{◌≡◌, sym, ap, ◌∙◌, None, arith}
use Rattle.psos_table.specs.Table.{at}
use Rattle.psos_counts.proofs.ClassCounts.{counts_put, counts_put_none, count_most, undone}
use Rattle.psos_counts.proofs.counted.Counted.put_new.Goals as goal

pub invariant_of-self-in_default : goal.invariant_of-self-in_default
invariant_of-self-in_default g c =
    let new : at c.self.inside.rows c.args.key ≡ None = ap (λ m. at m c.args.key) c.self.view_is ∙ c.requires in
    rw c.in_ok-put.ensures.ok (counts_put_none c.self.invariant c.args.key c.args.row new (sym c.class_of-class.ensures ∙ c.in_default.is))

pub count_up-requires : goal.count_up-requires
count_up-requires g c = omega (arith, count_most c.self.invariant c.in-Some.class, c.len-few.ensures.small)

pub invariant_of-self-in-Ok : goal.invariant_of-self-in-Ok
invariant_of-self-in-Ok g c =
    let new : at c.self.inside.rows c.args.key ≡ None = ap (λ m. at m c.args.key) c.self.view_is ∙ c.requires in
    rw (c.in_ok-put.ensures.ok, c.in-Ok.ensures.ok) (counts_put c.self.invariant c.args.key c.args.row c.in-Some.class new (sym c.class_of-class.ensures ∙ c.in-Some.is))

pub invariant_of-self-in-Err : goal.invariant_of-self-in-Err
invariant_of-self-in-Err g c =
    let new : at c.self.inside.rows c.args.key ≡ None = ap (λ m. at m c.args.key) c.self.view_is ∙ c.requires in
    let was : c.remove.new.self ≡ c.self.inside.rows = undone c.self.inside.rows c.put.new.self c.remove.new.self c.args.key c.args.row new c.in_ok-put.ensures.ok c.remove.ensures.rest in
    rw (was, c.in-Err.ensures.err) c.self.invariant

pub returns-in-Err-clause-err : goal.returns-in-Err-clause-err
returns-in-Err-clause-err g c =
    let new : at c.self.inside.rows c.args.key ≡ None = ap (λ m. at m c.args.key) c.self.view_is ∙ c.requires in
    undone c.self.inside.rows c.put.new.self c.remove.new.self c.args.key c.args.row new c.in_ok-put.ensures.ok c.remove.ensures.rest ∙ c.self.view_is
