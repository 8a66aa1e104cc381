-- What an identifier names: one thing at most. States docs/promises.md, "Sound states".
use Rattle.std.specs.Prelude.{◌≡◌, ◌<◌, ℕ, length, IsSome, ◌⊎◌}
use Rattle.psos_table.specs.Table.{at}
use Rattle.psos_calls.specs.declared.kind.Kind.{Kind}
use Rattle.psos_calls.specs.declared.kind.Kind.TheVariants as kinds
use Rattle.psos_calls.specs.Language.Script.{Script}
use Rattle.psos_model.specs.Flat.{Flat}
use Rattle.psos_model.specs.Flat.Boot.{home_of}

pub data Role : Type 0 where
  -- a segment that is a user object, or the one that represents this object
  Segment : Role
  PartOf : ℕ → Role
  Window : Role
  Typ : Role
  Object : Role
  -- a directory, or the representation of this directory
  Directory : Role
  HiddenIn : ℕ → Role
  Code : Role
  Process : Role

-- the root or the home of a user
abbrev pub IsBootDirectory : Script → ℕ → Type 0
IsBootDirectory s d = (d ≡ 1) ⊎ ((i : ℕ) × (i < length s.users) × (d ≡ home_of i))

-- what is a user object of this kind: all that lives but representations, windows, processes, the root and the homes
abbrev pub IsUserObject : Script → (ℕ → Role) → Flat → ℕ → Kind → Type 0
IsUserObject s role f u kinds.Segment = IsSome (at f.segments u) × (role u ≡ Segment)
IsUserObject s role f u kinds.Directory = IsSome (at f.dirs u) × (IsBootDirectory s u → ⊥)
IsUserObject s role f u kinds.Typ = IsSome (at f.types u)
IsUserObject s role f u kinds.Object = IsSome (at f.objects u)
IsUserObject s role f u kinds.Code = IsSome (at f.codes u)
IsUserObject s role f u kinds.Process = ⊥
