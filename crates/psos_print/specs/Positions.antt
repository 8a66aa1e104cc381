-- Where a user's entries stand, and their lines. States docs/program.md, "Output".
use Rattle.std.specs.Prelude.{◌≡◌, ◌<◌, ℕ, ◌+◌, ◌==◌, if◌then◌else◌, List, [], ◌∷◌, ◌++◌, length, map, slice_get, slice_index_or}
use Rattle.psos_calls.specs.declared.entry.Entry.{Entry}
use Rattle.psos_calls.specs.Language.Script.{Script}
use Rattle.psos_calls.specs.Language.Tests.{if_there}
use Rattle.psos_model.specs.Replay.{answered_of}
use Rattle.psos_model.specs.Text.Transcript.{line_text, users_lines}

-- the transcript of entries: each user's lines in the order of the script
abbrev pub entries_text : Script → List Entry → List ℕ
entries_text s entries = users_lines s.users 0 (map answered_of entries)

-- where the entries of user u stand, counted from this position on
abbrev pub positions : ℕ → ℕ → List Entry → List ℕ
positions u at [] = []
positions u at (e ∷ es) = if e.user == u then at ∷ positions u (at + 1) es else positions u (at + 1) es

-- the lines of the entries at these positions
abbrev pub lines_at : List ℕ → List Entry → List ℕ → List ℕ
lines_at name entries [] = []
lines_at name entries (p ∷ ps) = if_there (slice_get entries p) [] (λ e. line_text name p (answered_of e)) ++ lines_at name entries ps

-- each of the first n lists has the positions of its user
pub record HasPositions (n : ℕ) (lists : List (List ℕ)) (entries : List Entry) : Type 0 where
  pub count : length lists ≡ n
  pub each : (u : ℕ) → u < n → slice_index_or lists u [] ≡ positions u 0 entries

-- one position more at the end of one list
pub record IsNoted (before now : List (List ℕ)) (user position : ℕ) : Type 0 where
  pub count : length now ≡ length before
  pub here : user < length before → slice_index_or now user [] ≡ slice_index_or before user [] ++ position ∷ []
  pub others : (u : ℕ) → (u ≡ user → ⊥) → slice_index_or now u [] ≡ slice_index_or before u []
