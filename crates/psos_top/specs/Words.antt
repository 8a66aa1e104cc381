-- The words of the command line. States docs/program.md, "Options".
use Rattle.std.specs.Prelude.{ℕ, ◌≤◌, ◌-◌, ◌^◌, ◌&&◌, Bool, true, false, if◌then◌else◌, nat_le, List, [], ◌∷◌, map, drop, Option, Some, None, IfSome, unwrap_or, Result, Ok, Err, codes, string_bytes}
use Rattle.std.specs.Option.{option_map, option_and_then}
use Rattle.std.specs.Str.{bytes_eq}
use Rattle.std.specs.Vec.Iter.{into_iter_items}
use Rattle.std.specs.declared.string.String.{String}
use Rattle.std.specs.declared.vec.IntoIter.{IntoIter}
use Rattle.psos_limits.specs.declared.TheConstants.{MOST_LINES, MOST_PAGE_FRAMES, LEAST_PAGE_FRAMES}
use Rattle.psos_text.specs.Number.{number_of}
use Rattle.psos_top.specs.declared.command.Command.{Command}
use Rattle.psos_top.specs.declared.command.Command.TheVariants.{Serial, Turns, Run, Load}
use Rattle.psos_top.specs.declared.words.Options.{Options}
use Rattle.psos_top.specs.declared.words.Asked.{Asked}

-- ---- the words

-- the arguments behind the program's own name; none where the system cannot tell them
abbrev pub words_in : {A E : Type 0} → Result (IntoIter (String A) A) E → List (List ℕ)
words_in (Ok args) = map string_bytes (drop 1 (into_iter_items args))
words_in (Err e) = []

-- ---- the command

-- the command that a word names, with the numbers that it has where none are given
abbrev pub command_of : List ℕ → Option Command
command_of word =
    if bytes_eq word (codes "serial") then Some Serial
    else if bytes_eq word (codes "turns") then Some (Turns 1)
    else if bytes_eq word (codes "run") then Some Run
    else if bytes_eq word (codes "load") then Some (Load 4 100 1)
    else None

-- `--frames` is an option of serial, turns and run
abbrev pub takes_frames : Command → Bool
takes_frames Serial = true
takes_frames (Turns seed) = true
takes_frames Run = true
takes_frames (Load users lines seed) = false

-- `--seed` is one of turns and load
abbrev pub takes_seed : Command → Bool
takes_seed Serial = false
takes_seed (Turns seed) = true
takes_seed Run = false
takes_seed (Load users lines seed) = true

-- `--users` and `--lines` are options of load
abbrev pub takes_users : Command → Bool
takes_users Serial = false
takes_users (Turns seed) = false
takes_users Run = false
takes_users (Load users lines seed) = true

-- ---- the options

-- a number of this range that stands for the first time, of an option that the command takes
abbrev pub first_number : Bool → ℕ → ℕ → Option ℕ → Option ℕ → Option ℕ
first_number takes least most None (Some n) = if takes && (nat_le least n && nat_le n most) then Some n else None
first_number takes least most _ _ = None

-- one option more, with its number
abbrev pub with_option : Command → Options → List ℕ → Option ℕ → Option Options
with_option command given option number =
    if bytes_eq option (codes "--frames") then option_map (λ (n : ℕ). record given { frames = Some n }) (first_number (takes_frames command) LEAST_PAGE_FRAMES MOST_PAGE_FRAMES given.frames number)
    else if bytes_eq option (codes "--seed") then option_map (λ (n : ℕ). record given { seed = Some n }) (first_number (takes_seed command) 0 (2 ^ 64 - 1) given.seed number)
    else if bytes_eq option (codes "--users") then option_map (λ (n : ℕ). record given { users = Some n }) (first_number (takes_users command) 1 8 given.users number)
    else if bytes_eq option (codes "--lines") then option_map (λ (n : ℕ). record given { lines = Some n }) (first_number (takes_users command) 1 MOST_LINES given.lines number)
    else None

-- pairs of an option and a number, each option once at most
abbrev pub options_in : Command → List (List ℕ) → Options → Option Options
options_in command [] given = Some given
options_in command (option ∷ []) given = None
options_in command (option ∷ number ∷ others) given = option_and_then (options_in command others) (with_option command given option (number_of number))

-- ---- what the words ask for

-- the command with the numbers that are given
abbrev pub with_numbers : Command → Options → Command
with_numbers Serial given = Serial
with_numbers (Turns seed) given = Turns (unwrap_or given.seed seed)
with_numbers Run given = Run
with_numbers (Load users lines seed) given = Load (unwrap_or given.users users) (unwrap_or given.lines lines) (unwrap_or given.seed seed)

-- the command with its numbers, and the frames, of which there are 32 where no number is given
abbrev pub asked_by : Command → Options → Asked
asked_by command given = record { command = with_numbers command given; frames = unwrap_or given.frames 32 }

-- where the words have the shape
abbrev pub words_asked : List (List ℕ) → Option Asked
words_asked [] = None
words_asked (word ∷ others) =
    option_and_then (λ (command : Command). option_map (asked_by command) (options_in command others (record { frames = None; seed = None; users = None; lines = None }))) (command_of word)

-- ---- their ranges

-- the numbers of options are within their ranges
pub record AreWithin (given : Options) : Type 0 where
  pub frames : IfSome given.frames (λ n. (LEAST_PAGE_FRAMES ≤ n) × (n ≤ MOST_PAGE_FRAMES))
  pub users : IfSome given.users (λ n. (1 ≤ n) × (n ≤ 8))
  pub lines : IfSome given.lines (λ n. (1 ≤ n) × (n ≤ MOST_LINES))

-- a script is made of one to eight users, with 1 to 240 lines each
abbrev pub CanBeMade : Command → Type 0
CanBeMade Serial = Unit {0}
CanBeMade (Turns seed) = Unit {0}
CanBeMade Run = Unit {0}
CanBeMade (Load users lines seed) = (1 ≤ users) × (users ≤ 8) × (1 ≤ lines) × (lines ≤ MOST_LINES)
