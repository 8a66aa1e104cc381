-- How calls are kept: the words that few of them have lie apart. States docs/requests.md, "Plans".
use Rattle.std.specs.Prelude.{◌≡◌, ℕ, ◌+◌, ◌*◌, ◌<◌, ◌≤◌, ⊤, List, [], ◌∷◌, Option, Some, option_map, length, map, take, drop, slice_index_or}
use Rattle.std.specs.List.{AllByRecursion}
use Rattle.psos_limits.specs.declared.TheConstants.{TRACE_ROOM}
use Rattle.psos_words.specs.declared.word.Word.{Word}
use Rattle.psos_words.specs.declared.word.Word.TheVariants.{Data}
use Rattle.psos_calls.specs.declared.level.Level.{Level}
use Rattle.psos_calls.specs.declared.level_call.LevelCall.{LevelCall as CallOf}
use Rattle.psos_calls.specs.declared.level_call.LevelCall.TheVariants.{Locate, FourPut}
use Rattle.psos_calls.specs.Levels.{level_of}
use Rattle.psos_calls.specs.Levels.Calls.{LevelCall, with_words}

-- a call that tells from where on its words lie among others
abbrev pub KeptCall : Type 0
KeptCall = CallOf ℕ (Option ℕ)

-- the call is kept so, with its words from this place on
abbrev pub kept_at : ℕ → LevelCall → KeptCall
kept_at k call = with_words (λ _. k) (option_map (λ _. k)) call

-- the words of a call that lie apart
abbrev pub words_in : LevelCall → List Word
words_in (Locate cap off need (Some word)) = word ∷ []
words_in (FourPut page off words) = words
words_in _ = []

-- four words are written, no more and no fewer
abbrev pub WritesFour : LevelCall → Type 0
WritesFour (FourPut page off words) = length words ≡ 4
WritesFour _ = ⊤

-- the call that is kept so, with its words among these
abbrev pub call_of : List Word → KeptCall → LevelCall
call_of words kept = with_words (λ k. take 4 (drop k words)) (option_map (λ k. slice_index_or words k (Data 0))) kept

-- the calls that are kept so, with their levels
abbrev pub calls_of : List Word → List KeptCall → List (Level × LevelCall)
calls_of words kept = map (λ c. (level_of (call_of words c), call_of words c)) kept

-- the words of a call are among so many
abbrev pub IsAmong : ℕ → KeptCall → Type 0
IsAmong words (Locate cap off need (Some k)) = k < words
IsAmong words (FourPut page off k) = k + 4 ≤ words
IsAmong words _ = ⊤

abbrev pub AreAmong : ℕ → List KeptCall → Type 0
AreAmong words kept = AllByRecursion (IsAmong words) kept

-- calls of an open request are at most as many as there is room for, and each has at most four words
pub record AreKept (room_for_calls room_for_words : ℕ) (words : List Word) (kept : List KeptCall) : Type 0 where
  pub room : TRACE_ROOM ≤ room_for_calls
  pub words_room : 4 * TRACE_ROOM ≤ room_for_words
  pub few : length kept ≤ TRACE_ROOM
  pub few_words : length words ≤ 4 * length kept
  pub among : AreAmong (length words) kept
