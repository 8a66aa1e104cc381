-- What each live thing is in a sound state. States docs/promises.md, "Sound states".
use Rattle.std.specs.Prelude.{◌≡◌, ◌<◌, ◌≤◌, ◌+◌, ◌⊎◌, ℕ, true, List, length, IsSome, Some}
use Rattle.std.specs.FinMap.{len}
use Rattle.psos_limits.specs.declared.TheConstants.{MOST_WORDS, MOST_ENTRIES, MOST_MESSAGES}
use Rattle.psos_table.specs.Table.{at}
use Rattle.psos_words.specs.declared.word.Word.{Word}
use Rattle.psos_words.specs.Guard.{has_bit}
use Rattle.psos_calls.specs.declared.win_row.WinRow.{WinRow}
use Rattle.psos_calls.specs.declared.code_row.CodeRow.{CodeRow}
use Rattle.psos_calls.specs.Language.Script.{Script}
use Rattle.psos_model.specs.Flat.{Flat, Segment, Object, Directory}
use Rattle.psos_model.specs.Flat.Boot.{process_of}
use Rattle.psos_model.specs.Sound.Roles.{Role, PartOf, HiddenIn}
use Rattle.psos_model.specs.Sound.Roles as roles

-- a guard has bit 0, and no bit above 2
pub record IsGuard (guard : ℕ) : Type 0 where
  pub bit_0 : has_bit guard 0 ≡ true
  pub few : guard < 8

-- the segment represents an object that is live
pub record IsPart (role : ℕ → Role) (f : Flat) (u : ℕ) : Type 0 where
  pub object : ℕ
  pub row : Object
  pub part : role u ≡ PartOf object
  pub live : at f.objects object ≡ Some row
  pub rep : row.rep ≡ u

-- a segment of 1 to 512 words
pub record IsSoundSegment (role : ℕ → Role) (f : Flat) (u : ℕ) (x : Segment) : Type 0 where
  pub below : u < f.next
  pub role-is : (role u ≡ roles.Segment) ⊎ IsPart role f u
  pub some : 1 ≤ length x.words
  pub few : length x.words ≤ MOST_WORDS
  pub guard : IsGuard x.guard.0

-- a window of at least one word, within a segment that is live
pub record IsSoundWindow (role : ℕ → Role) (f : Flat) (u : ℕ) (x : WinRow) : Type 0 where
  pub below : u < f.next
  pub role-is : role u ≡ roles.Window
  pub some : 1 ≤ x.len
  pub under : Segment
  pub live : at f.segments x.seg.0 ≡ Some under
  pub within : x.base + x.len ≤ length under.words

-- an object whose type is live, and which alone a live segment of guard 1 represents
pub record IsSoundObject (role : ℕ → Role) (f : Flat) (u : ℕ) (x : Object) : Type 0 where
  pub below : u < f.next
  pub role-is : role u ≡ roles.Object
  pub typ : IsSome (at f.types x.of)
  pub part : role x.rep ≡ PartOf u
  pub rep : Segment
  pub live : at f.segments x.rep ≡ Some rep
  pub guard : rep.guard.0 ≡ 1

-- a directory of at most 127 entries, whose representation is no segment that a capability can name
pub record IsSoundDirectory (role : ℕ → Role) (f : Flat) (u : ℕ) (x : Directory) : Type 0 where
  pub below : u < f.next
  pub role-is : role u ≡ roles.Directory
  pub rep_below : x.rep < f.next
  pub hidden : role x.rep ≡ HiddenIn u
  pub few : len x.names ≤ MOST_ENTRIES
  pub guard : IsGuard x.guard.0

-- the process of a user, with at most 8 messages
pub record IsSoundProcess (s : Script) (role : ℕ → Role) (f : Flat) (u : ℕ) (box : List Word) : Type 0 where
  pub below : u < f.next
  pub role-is : role u ≡ roles.Process
  pub user : ℕ
  pub of_user : user < length s.users
  pub of_boot : u ≡ process_of user
  pub few : length box ≤ MOST_MESSAGES

-- a procedure record whose label is a code block of the script
pub record IsSoundCode (s : Script) (role : ℕ → Role) (f : Flat) (u : ℕ) (x : CodeRow) : Type 0 where
  pub below : u < f.next
  pub role-is : role u ≡ roles.Code
  pub label : x.label < length s.codes
