-- The output of a whole run. States docs/program.md, "Output".
use Rattle.std.specs.Prelude.{ℕ, List, [], ◌∷◌, ◌++◌, length, map, sum_by, codes, decimal}
use Rattle.psos_calls.specs.declared.entry.Entry.{Entry}
use Rattle.psos_calls.specs.Language.Script.{Script}
use Rattle.psos_model.specs.Replay.{entries_from, boot_system, answered_of}
use Rattle.psos_model.specs.Text.Transcript.{users_lines, transcript}

-- how many level calls entries made
abbrev pub calls_of : List Entry → ℕ
calls_of entries = sum_by (λ (e : Entry). length e.steps) entries

-- done N calls M
abbrev pub done_text : ℕ → ℕ → List ℕ
done_text n calls = codes "done " ++ (decimal n ++ (codes " calls " ++ (decimal calls ++ 10 ∷ [])))

-- what entries print: each user's lines, and the numbers of requests and level calls
abbrev pub printed : Script → List Entry → List ℕ
printed s entries = users_lines s.users 0 (map answered_of entries) ++ done_text (length entries) (calls_of entries)

-- the transcript of an order, and the numbers of its requests and of their level calls
abbrev pub output : Script → List ℕ → List ℕ
output s order = transcript s order ++ done_text (length order) (calls_of (entries_from s (boot_system s) order))
