use Rattle.std.proofs.Common.{◌≡◌, ◌<◌, ℕ, length}
use Rattle.psos_words.specs.Words.{word_at}
use Rattle.psos_calls.specs.Language.User.{here}
use Rattle.psos_laws.proofs.coming.registers.Given as goal

abbrev pub invariant-registers : goal.invariant-registers
invariant-registers l = record {
  sixteen : length l.words ≡ 16;
  same : (k : ℕ) → k < l.i → word_at l.words k ≡ word_at (here l.me) k;
}
