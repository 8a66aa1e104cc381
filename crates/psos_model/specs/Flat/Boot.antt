-- The flat state at boot. States docs/system.md, "Boot".
use Rattle.std.specs.Prelude.{ℕ, ◌+◌, ◌*◌, List, [], ◌∷◌, length, codes}
use Rattle.std.specs.FinMap as map
use Rattle.psos_table.specs.Table.{Table, put}
use Rattle.psos_caps.specs.Capability.{Capability, full}
use Rattle.psos_caps.specs.declared.rights.Rights.{Rights}
use Rattle.psos_text.specs.declared.name.Name.{Name}
use Rattle.psos_text.specs.Name.{name_of}
use Rattle.psos_words.specs.declared.word.Word.{Word}
use Rattle.psos_words.specs.declared.word.Word.TheVariants.{Cap}
use Rattle.psos_words.specs.Words.{zeros}
use Rattle.psos_calls.specs.declared.kind.Kind.{Kind}
use Rattle.psos_calls.specs.declared.kind.Kind.TheVariants as kinds
use Rattle.psos_calls.specs.Language.Script.{Script, UserScript, requests_of}
use Rattle.psos_calls.specs.Language.User.{User}
use Rattle.psos_model.specs.Flat.{Flat, Segment, Directory, Names}
use Rattle.psos_model.specs.Flat.Changes.{new_segment, kept_entry}

-- the root directory as users have it: with lookup, bind, list and create, and the store permissions
abbrev pub root : Capability
root = record { uid = 1; rights = 0x00df }

-- user i's process, home directory, the home's representation, and scratch segment
abbrev pub process_of : ℕ → ℕ
process_of i = 3 + 4 * i

abbrev pub home_of : ℕ → ℕ
home_of i = 4 + 4 * i

abbrev pub home_rep_of : ℕ → ℕ
home_rep_of i = 5 + 4 * i

abbrev pub scratch_of : ℕ → ℕ
scratch_of i = 6 + 4 * i

-- the guard of all stores at boot
abbrev pub guard_1 : Rights
guard_1 = record { 0 = 1 }

-- the root, the own process, the home and the scratch segment, and data 0
abbrev pub boot_regs : ℕ → List Word
boot_regs i = Cap root ∷ Cap (full (process_of i)) ∷ Cap (full (home_of i)) ∷ Cap (full (scratch_of i)) ∷ zeros 12

-- user i, whose charge is the number of its requests, and whose name space is its home and then the root
abbrev pub boot_user : ℕ → UserScript → User
boot_user i user = record {
  number = i;
  process = process_of i;
  answered = 0;
  charge = length (requests_of user);
  within = 0;
  regs = boot_regs i;
  frames = [];
  path = full (home_of i) ∷ root ∷ [];
}

-- the users of a script, counted from i
abbrev pub boot_users : ℕ → List UserScript → List User
boot_users i [] = []
boot_users i (user ∷ users) = boot_user i user ∷ boot_users (i + 1) users

-- the name of the scratch segment's distinguished entry
abbrev pub scratch_name : Name
scratch_name = name_of (codes "scratch")

-- the entries of user i's home
abbrev pub home_names : ℕ → Names
home_names i = map.insert map.empty scratch_name (kept_entry (scratch_of i))

-- the root is empty; each home holds its scratch segment
abbrev pub boot_dirs : ℕ → List UserScript → Table Directory
boot_dirs i [] = put map.empty 1 (record { guard = guard_1; rep = 2; names = map.empty })
boot_dirs i (user ∷ users) = put (boot_dirs (i + 1) users) (home_of i) (record { guard = guard_1; rep = home_rep_of i; names = home_names i })

-- the scratch segments, of 64 words
abbrev pub boot_segments : ℕ → List UserScript → Table Segment
boot_segments i [] = map.empty
boot_segments i (user ∷ users) = put (boot_segments (i + 1) users) (scratch_of i) (new_segment 64 guard_1)

-- they are the user objects
abbrev pub boot_life : ℕ → List UserScript → Table Kind
boot_life i [] = map.empty
boot_life i (user ∷ users) = put (boot_life (i + 1) users) (scratch_of i) kinds.Segment

-- the mailboxes, which are empty
abbrev pub boot_boxes : ℕ → List UserScript → Table (List Word)
boot_boxes i [] = map.empty
boot_boxes i (user ∷ users) = put (boot_boxes (i + 1) users) (process_of i) []

-- the first identifier that no boot names
abbrev pub boot_next : Script → ℕ
boot_next s = 3 + 4 * length s.users

abbrev pub boot : Script → Flat
boot s = record {
  next = boot_next s;
  segments = boot_segments 0 s.users;
  windows = map.empty;
  types = map.empty;
  objects = map.empty;
  dirs = boot_dirs 0 s.users;
  life = boot_life 0 s.users;
  boxes = boot_boxes 0 s.users;
  codes = map.empty;
  users = boot_users 0 s.users;
}
