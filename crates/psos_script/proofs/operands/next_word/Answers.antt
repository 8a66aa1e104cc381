use Rattle.std.proofs.Common.{take, drop, length, sym, ap, ◌∙◌}
use Rattle.psos_text.specs.Tokens.{Cursor}
use Rattle.psos_script.proofs.Lists.{within}
use Rattle.psos_script.proofs.operands.next_word.Goals as goal

pub split_at-requires : goal.split_at-requires
split_at-requires c =
    let s = c.in_ok-place.ensures.place in
    let n = length c.in_ok-place.word.now in
    within c.args.text.now c.in_ok-place.word.now c.in_ok-place.place s.some (ap (λ (k : Cursor). take n (drop c.in_ok-place.place k.line)) (sym c.new-words.ensures) ∙ s.bytes)
