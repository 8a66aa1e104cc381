use Rattle.std.proofs.Common.{◌≡◌, length, drop, arith, ap}
use Rattle.std.proofs.lemmas.Grind.{common_steps}
use Rattle.psos_io.proofs.Pieces.{given_front, none_left}
use Rattle.psos_io.proofs.mem_source.MemSourceSource.read.Goals as goal

pub returns-clause-bytes : goal.returns-clause-bytes
returns-clause-bytes c =
    let xs = c.args.self.now.bytes.items in
    let at = c.args.self.now.at in
    let rest : c.split_at.result.1.now ≡ drop at xs = grind (arith, common_steps) in
    let len : length c.split_at.result.1.now ≡ length (drop at xs) = ap length rest in (
      given_front xs c.args.buf.now _ at _ (grind (arith, common_steps)) (omega arith),
      λ z r. none_left xs at _ (length c.args.buf.now) c.args.self.now.most (cc) (omega arith) z (grind (arith, common_steps)),
    )
