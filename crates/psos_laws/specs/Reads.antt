-- What a user can read, and what it can copy from there. States docs/promises.md, "Origins".
use Rattle.std.specs.Prelude.{◌≡◌, ◌⊎◌, ℕ, true, slice_get, Option, Some, None}
use Rattle.psos_table.specs.Table.{at}
use Rattle.psos_caps.specs.Capability.{Capability}
use Rattle.psos_words.specs.Guard.{has_bit}
use Rattle.psos_calls.specs.declared.right.Right.{Right}
use Rattle.psos_calls.specs.declared.right.Right.TheVariants.{Window}
use Rattle.psos_calls.specs.declared.win_row.WinRow.{WinRow}
use Rattle.psos_calls.specs.Language.Rights.{has}
use Rattle.psos_calls.specs.Language.User.{User}
use Rattle.psos_calls.specs.Language.Capabilities.{uid}
use Rattle.psos_model.specs.declared.place.Place.{Place}
use Rattle.psos_model.specs.declared.place.Place.TheVariants.{SegWord, DirName, BoxAt, Link, ImplOf}
use Rattle.psos_model.specs.Flat.{Flat, Object}
use Rattle.psos_model.specs.Flat.Places.{cap_at, is_own, right_of}

-- an identifier leads to a segment's words also as a window over it, and to an object's representation as the object's type
abbrev pub Leads : Flat → ℕ → Place → Type 0
Leads f v (SegWord u i) = (v ≡ u.0) ⊎ ((w : WinRow) × (at f.windows v ≡ Some w) × (w.seg.0 ≡ u.0))
Leads f v (DirName u name) = v ≡ u.0
Leads f v (ImplOf u) = (o : Object) × (at f.objects u.0 ≡ Some o) × (o.of ≡ v)
Leads f v (Link u) = v ≡ u.0
Leads f v _ = ⊥

-- user u has among its private places a capability with this right that leads there
pub record HasRight (f : Flat) (u : ℕ) (right : Right) (q : Place) : Type 0 where
  pub from : Place
  pub cap : Capability
  pub own : is_own from u ≡ true
  pub held : cap_at f from ≡ Some cap
  pub allowed : has cap right ≡ true
  pub leads : Leads f cap.uid q

-- the first message of a user's own mailbox
abbrev pub IsFirstMessage : Flat → ℕ → Place → Type 0
IsFirstMessage f u q = (x : User) × (slice_get f.users u ≡ Some x) × (q ≡ BoxAt (uid x.process) 0)

-- user u could read the place: by no right a private place or its first message, by a right what such a capability leads to
abbrev pub MayRead : Flat → ℕ → Place → Option Right → Type 0
MayRead f u q None = (is_own q u ≡ true) ⊎ IsFirstMessage f u q
MayRead f u q (Some right) = (right_of q ≡ Some right) × HasRight f u right q

-- each of the rights b is among the rights a
abbrev pub Contains : ℕ → ℕ → Type 0
Contains a b = (bit : ℕ) → has_bit b bit ≡ true → has_bit a bit ≡ true

-- user u could make this capability by copying from the place: one with the same identifier and at least these rights was there
pub record IsCopy (f : Flat) (u : ℕ) (cap : Capability) (q : Place) (by : Option Right) : Type 0 where
  pub old : Capability
  pub held : cap_at f q ≡ Some old
  pub same : old.uid ≡ cap.uid
  pub rights : Contains old.rights cap.rights
  pub read : MayRead f u q by

-- user u could make a window over the segment
abbrev pub MayWindow : Flat → ℕ → ℕ → Type 0
MayWindow f u segment = HasRight f u Window (SegWord (uid segment) 0)
