-- The last line of a transcript.
use Rattle.std.specs.Prelude.{◌≡◌, ℕ, ◌^◌, ◌<◌, List}
use Rattle.psos_model.specs.Text.Output.{done_text}

-- `done N calls M` and a line feed, with numbers below 2 ^ 64
pub record IsDoneLine (line : List ℕ) : Type 0 where
  pub requests : ℕ
  pub calls : ℕ
  pub few_requests : requests < 2 ^ 64
  pub few_calls : calls < 2 ^ 64
  pub spelled : line ≡ done_text requests calls
