use Rattle.std.proofs.Common.{◌≤◌, length, ap, ◌∙◌, ◌++◌, refl, arith}
use Rattle.std.proofs.lemmas.List.{length-drop}
use Rattle.psos_print.proofs.Tails.{text_before}
use Rattle.psos_print.proofs.tail.Tail.prepend.Goals as goal

pub returns-clause-bytes : goal.returns-clause-bytes
returns-clause-bytes c =
    let here = c.self.inside in
    let room : length c.args.text.now ≤ here.at = omega (arith, length-drop here.at here.bytes, ap length c.self.view_is, c.requires, c.self.told) in
    text_before here.bytes _ c.args.text.now here.at _ c.copy_from_slice.ensures.after refl room (omega (arith, c.self.told, c.self.invariant))
    ∙ ap (λ l. c.args.text.now ++ l) c.self.view_is
