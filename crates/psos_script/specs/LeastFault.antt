-- Which fault is the first one, told by places. States docs/program.md, "Faults".
use Rattle.std.specs.Prelude.{◌≡◌, ℕ, ◌+◌, ◌-◌, ◌<◌, ◌≤◌, if◌then◌else◌, nat_lt, List, [], length, get_or, take, reverse, Option, Some, None}
use Rattle.psos_model.specs.Text.Spelling.{kept}
use Rattle.psos_script.specs.Fault.{Seen, seen, line_cause, end_cause}
use Rattle.psos_script.specs.declared.cause.Cause.{Cause}

-- what the first i lines say
abbrev pub seen_at : List (List ℕ) → ℕ → Seen
seen_at lines i = seen (reverse (kept (take i lines)))

-- the first cause on the line behind the first i lines, or what is missing behind the last
abbrev pub cause_at : List (List ℕ) → ℕ → Option Cause
cause_at lines i = if nat_lt i (length lines) then line_cause (seen_at lines i) (get_or lines i []) else end_cause (seen_at lines i)

-- line n has this cause first, and no line before it has one
pub record IsLeastFault (lines : List (List ℕ)) (n : ℕ) (c : Cause) : Type 0 where
  pub from_one : 1 ≤ n
  pub within : n ≤ length lines + 1
  pub here : cause_at lines (n - 1) ≡ Some c
  pub none : (i : ℕ) → i + 1 < n → cause_at lines i ≡ None
