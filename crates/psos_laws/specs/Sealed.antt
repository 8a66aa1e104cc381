-- Representations are reached through the manager of their type. States docs/promises.md, "Guarded, kept, sealed".
use Rattle.std.specs.Prelude.{◌≡◌, ◌≢◌, ◌⊎◌, ◌==◌, ℕ, List, [], ◌∷◌, Option, Some, None}
use Rattle.psos_table.specs.Table.{at}
use Rattle.psos_caps.specs.Capability.{Capability}
use Rattle.psos_calls.specs.declared.right.Right.TheVariants.{Impl}
use Rattle.psos_calls.specs.declared.win_row.WinRow.{WinRow}
use Rattle.psos_calls.specs.Language.Capabilities.{uid}
use Rattle.psos_model.specs.declared.place.Place.{Place}
use Rattle.psos_model.specs.declared.place.Place.TheVariants.{ImplOf}
use Rattle.psos_model.specs.Flat.{Flat, Object, Directory}
use Rattle.psos_model.specs.Flat.Places.{cap_at}
use Rattle.psos_model.specs.Answer.Outcomes.{Source}
use Rattle.psos_laws.specs.Landings.{found}
use Rattle.psos_laws.specs.Reads.{HasRight, MayWindow}
use Rattle.psos_laws.specs.When.{WhenFound, WhenTrue}
use Rattle.psos_laws.specs.History.{Transition}

-- a copy from the place of o's representation by the right impl on its type, or from a place that held it and from which it leads there
abbrev pub ThroughSource : Transition → ℕ → Capability → Option Source → (Place → Capability → Type 0) → Type 0
ThroughSource e o cap None on = ⊥
ThroughSource e o cap (Some q) on =
    ((q.place ≡ ImplOf (uid o)) × (q.by ≡ Some Impl) × HasRight e.flat e.user Impl q.place)
    ⊎ ((old : Capability) × (cap_at e.flat q.place ≡ Some old) × (old.uid ≡ cap.uid) × on q.place old)

-- object o was there at the start, and this capability on its representation lay at the place
abbrev pub LayAtStart : Flat → Place → Capability → ℕ → Type 0
LayAtStart start p cap o = (x : Object) × (at start.objects o ≡ Some x) × (cap.uid ≡ x.rep) × (cap_at start p ≡ Some cap)

-- the origins of a capability at a place lead back to the place of o's representation, by the right impl on o's type, or to the start
abbrev pub Through : Flat → List Transition → Place → Capability → ℕ → Type 0
Through start [] p cap o = LayAtStart start p cap o
Through start (e ∷ past) p cap o =
    WhenFound (found e.landings p) (Through start past (e.moved p) cap o) (λ l. ThroughSource e o cap l.source (λ q old. Through start past q old o))

-- the window was there at the start
abbrev pub StoodAtStart : Flat → ℕ → ℕ → Type 0
StoodAtStart start window segment = (y : WinRow) × (at start.windows window ≡ Some y) × (y.seg.0 ≡ segment)

-- the request that used up the window's identifier, the last that came while it was next, had a user with the right window on the segment or a window over it
abbrev pub MadeBy : Flat → List Transition → ℕ → ℕ → Type 0
MadeBy start [] window segment = StoodAtStart start window segment
MadeBy start (e ∷ past) window segment = WhenTrue (e.flat.next == window) (MayWindow e.flat e.user segment) (MadeBy start past window segment)

pub record IsSealed (start : Flat) (past : List Transition) (f : Flat) : Type 0 where
  -- a capability on an object's representation lies at its own place, or came from there
  pub objects : (o : ℕ) (x : Object) → at f.objects o ≡ Some x → (p : Place) (cap : Capability) → cap_at f p ≡ Some cap → cap.uid ≡ x.rep
      → (p ≡ ImplOf (uid o)) ⊎ Through start past p cap o
  -- and a window over it was made by a user that could
  pub windows : (o : ℕ) (x : Object) → at f.objects o ≡ Some x → (w : ℕ) (y : WinRow) → at f.windows w ≡ Some y → y.seg.0 ≡ x.rep → MadeBy start past w x.rep
  -- a capability on a directory's representation lies at its own place alone, and no window is over it
  pub dirs : (d : ℕ) (x : Directory) → at f.dirs d ≡ Some x → (p : Place) (cap : Capability) → cap_at f p ≡ Some cap → cap.uid ≡ x.rep → p ≡ ImplOf (uid d)
  pub no_windows : (d : ℕ) (x : Directory) → at f.dirs d ≡ Some x → (w : ℕ) (y : WinRow) → at f.windows w ≡ Some y → y.seg.0 ≢ x.rep
