use Rattle.std.proofs.Common.{◌≡◌, length, arith, ap}
use Rattle.psos_print.proofs.TextSizes.{name_few}
use Rattle.psos_print.proofs.name.text_of.Goals as goal

pub returns-clause-few : goal.returns-clause-few
returns-clause-few c =
    let whole : length c.args.name.now.bytes ≡ 16 = grind arith in
    omega (arith, ap length c.as_bytes.ensures, name_few c.args.name.now whole)
