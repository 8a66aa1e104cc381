-- Three parts of a sound state, each kept for reasons of its own. States docs/promises.md, "Sound states".
use Rattle.std.specs.Prelude.{◌≡◌, ◌<◌, ◌≤◌, ◌↔◌, ℕ, Bool, List, length, IsSome, Some, slice_get}
use Rattle.psos_limits.specs.declared.TheConstants.{MOST_OBJECTS, MOST_WINDOWS}
use Rattle.psos_table.specs.Table.{at, size}
use Rattle.psos_caps.specs.Capability.{Capability}
use Rattle.psos_text.specs.declared.name.Name.{Name}
use Rattle.psos_words.specs.declared.word.Word.{Word}
use Rattle.psos_calls.specs.declared.kind.Kind.{Kind}
use Rattle.psos_calls.specs.declared.win_row.WinRow.{WinRow}
use Rattle.psos_calls.specs.declared.code_row.CodeRow.{CodeRow}
use Rattle.psos_calls.specs.Language.Script.{Script}
use Rattle.psos_calls.specs.Language.User.{User}
use Rattle.psos_calls.specs.Language.Capabilities.{uid}
use Rattle.psos_model.specs.declared.place.Place.{Place}
use Rattle.psos_model.specs.declared.place.Place.TheVariants.{ImplOf}
use Rattle.psos_model.specs.Flat.{Flat, Segment, Object, Directory}
use Rattle.psos_model.specs.Flat.Places.{cap_at}
use Rattle.psos_model.specs.Flat.Boot.{process_of, home_of, home_rep_of}
use Rattle.psos_model.specs.Sound.Guarded.{IsGuarded}
use Rattle.psos_model.specs.Sound.Kept.{IsKept}
use Rattle.psos_model.specs.Sound.Roles.{Role, IsUserObject}
use Rattle.psos_model.specs.Sound.Roles as roles
use Rattle.psos_model.specs.Sound.Rows.{IsSoundSegment, IsSoundWindow, IsSoundObject, IsSoundDirectory, IsSoundProcess, IsSoundCode}
use Rattle.psos_model.specs.Sound.Users.{IsSoundUser}
use Rattle.psos_model.specs.Sound.{IsFromBoot}

-- the users' own parts
pub record IsSoundUsers (s : Script) (f : Flat) : Type 0 where
  pub users : (u : ℕ) (x : User) → slice_get f.users u ≡ Some x → IsSoundUser s u x
  pub all_users : length f.users ≡ length s.users

-- the capabilities at places: on used identifiers, guarded, and off the representations of directories
pub record IsSoundPlaces (f : Flat) : Type 0 where
  pub below : (p : Place) (cap : Capability) → cap_at f p ≡ Some cap → cap.uid < f.next
  pub guarded : IsGuarded f
  pub hidden : (d : ℕ) (x : Directory) → at f.dirs d ≡ Some x
      → (p : Place) (cap : Capability) → cap_at f p ≡ Some cap → cap.uid ≡ x.rep → p ≡ ImplOf (uid d)

-- what users share: the tables, with the role and the home of each identifier
pub record IsSoundShared (s : Script) (f : Flat) : Type 0 where
  pub role : ℕ → Role
  pub home : ℕ → ℕ × Name
  pub segments : (u : ℕ) (x : Segment) → at f.segments u ≡ Some x → IsSoundSegment role f u x
  pub windows : (u : ℕ) (x : WinRow) → at f.windows u ≡ Some x → IsSoundWindow role f u x
  pub types : (u : ℕ) (x : Bool) → at f.types u ≡ Some x → (u < f.next) × (role u ≡ roles.Typ)
  pub objects : (u : ℕ) (x : Object) → at f.objects u ≡ Some x → IsSoundObject role f u x
  pub dirs : (u : ℕ) (x : Directory) → at f.dirs u ≡ Some x → IsSoundDirectory role f u x
  pub boxes : (u : ℕ) (x : List Word) → at f.boxes u ≡ Some x → IsSoundProcess s role f u x
  pub codes : (u : ℕ) (x : CodeRow) → at f.codes u ≡ Some x → IsSoundCode s role f u x
  pub life : (u : ℕ) (kind : Kind) → (at f.life u ≡ Some kind) ↔ IsUserObject s role f u kind
  pub root : IsFromBoot f 1 2
  pub homes : (i : ℕ) → i < length s.users → IsFromBoot f (home_of i) (home_rep_of i)
  pub processes : (i : ℕ) → i < length s.users → IsSome (at f.boxes (process_of i))
  pub few_objects : size f.life ≤ MOST_OBJECTS
  pub few_windows : size f.windows ≤ MOST_WINDOWS
  pub kept : IsKept home f
