use Rattle.std.proofs.Common.{◌≤◌, length, drop, arith, rules, decimal, ap, ◌∙◌, length-append}
use Rattle.std.proofs.lemmas.Fmt.{length-decimal-le}
use Rattle.std.proofs.lemmas.List.{length-drop}
use Rattle.psos_print.proofs.tail.Tail.prepend_number.Goals as goal

pub write_digits-self-inside-requires : goal.write_digits-self-inside-requires
write_digits-self-inside-requires c =
    let few : length (decimal c.args.n) ≤ 20 = search (rules, length-decimal-le 20) in
    let part = length-drop c.self.inside.at c.self.inside.bytes in
    (omega (arith, few, part, ap length c.self.view_is, c.requires, c.self.told), omega (arith, c.self.told, c.self.invariant))

pub returns-clause-few : goal.returns-clause-few
returns-clause-few c =
    let few : length (decimal c.args.n) ≤ 20 = search (rules, length-decimal-le 20) in
    let whole = ap length c.write_digits-self-inside.ensures.written ∙ length-append (decimal c.args.n) (drop c.self.inside.at c.self.inside.bytes) in
    omega (arith, few, whole, ap length c.self.view_is)
