-- What one answer is to the laws, and what makes it so: no law looks at a request.
use Rattle.std.proofs.Common.{◌&&◌, ◌||◌, ◌≡◌, ◌⊎◌, ℕ, ◌<◌, ◌≤◌, Bool, true, false, List, [], ◌∷◌, ◌++◌, Option, Some, None}
use Rattle.std.specs.List.{AllByRecursion}
use Rattle.psos_table.specs.Table.{at}
use Rattle.psos_caps.specs.Capability.{Capability}
use Rattle.psos_words.specs.declared.word.Word.TheVariants.{Cap}
use Rattle.psos_words.specs.Guard.{has_bit, missing}
use Rattle.psos_calls.specs.declared.win_row.WinRow.{WinRow}
use Rattle.psos_calls.specs.Language.Capabilities.{uid}
use Rattle.psos_calls.specs.Language.User.{User}
use Rattle.psos_model.specs.declared.place.Place.{Place}
use Rattle.psos_model.specs.declared.place.Place.TheVariants.{ImplOf}
use Rattle.psos_model.specs.Flat.{Flat, Object, Directory}
use Rattle.psos_model.specs.Flat.Places.{cap_at, is_own, guard_at}
use Rattle.psos_model.specs.declared.change.Change.{Change}
use Rattle.psos_model.specs.declared.change.Change.TheVariants.{Fresh, PutWord, Bind, Register, Post, MakeSegment, MakeWindow, MakeType, MakeObject, MakeDirectory, MakeCode}
use Rattle.psos_model.specs.Flat.Changes.{changed_all}
use Rattle.psos_model.specs.Answer.Outcomes.{Outcome, Source}
use Rattle.psos_laws.specs.Landings.{Landing, changes_put, effect_puts, landed}
use Rattle.psos_laws.specs.Reads.{IsCopy, MayWindow}
use Rattle.psos_laws.proofs.Landings.{Within}
use Rattle.psos_laws.proofs.ChangeArrivals.{AreSafe}

-- ---- landings

-- an identifier that a request which leaves this next one has made
abbrev pub IsNew : Flat → ℕ → Capability → Type 0
IsNew f next cap = (f.next ≤ cap.uid) × (cap.uid < next)

-- a capability that was copied from where its source says
abbrev pub IsCopyFrom : Flat → ℕ → Capability → Option Source → Type 0
IsCopyFrom f u cap None = ⊥
IsCopyFrom f u cap (Some q) = IsCopy f u cap q.place q.by

-- the place is the user's own, or the guard of its store lets the capability in
abbrev pub Admits : Flat → ℕ → Place → Capability → Type 0
Admits f u p cap = (is_own p u ≡ true) ⊎ ((guard : ℕ) × (guard_at f p ≡ Some guard) × (missing guard cap.rights ≡ None))

-- a capability that lands is new or a copy, and may lie there
pub record LawfulCap (f : Flat) (next u : ℕ) (p : Place) (source : Option Source) (cap : Capability) : Type 0 where
  pub from : IsNew f next cap ⊎ IsCopyFrom f u cap source
  pub admits : Admits f u p cap

abbrev pub Lawful : Flat → ℕ → ℕ → Landing → Type 0
Lawful f next u l = (cap : Capability) → l.word ≡ Cap cap → LawfulCap f next u l.place l.source cap

-- a capability on a representation lands at its own place alone
abbrev pub OnlyImpl : ℕ → ℕ → Landing → Type 0
OnlyImpl o rep l = (cap : Capability) → l.word ≡ Cap cap → cap.uid ≡ rep → l.place ≡ ImplOf (uid o)

-- ---- a step

-- the directory was there, with this representation
pub record OldDir (f : Flat) (d rep : ℕ) : Type 0 where
  pub row : Directory
  pub live : at f.dirs d ≡ Some row
  pub same : row.rep ≡ rep

-- a representation that is new, and whose capability landed at its own place alone
pub record NewRep (f : Flat) (ls : List Landing) (o rep : ℕ) : Type 0 where
  pub new : f.next ≤ rep
  pub only : AllByRecursion (OnlyImpl o rep) ls

-- from one state to another by a user's request, with landings, and words that moved
pub record Step (f g : Flat) (u : ℕ) (ls : List Landing) (moved : Place → Place) : Type 0 where
  pub nothing_else : (p : Place) → Within (cap_at g p) (landed ls p (cap_at f (moved p)))
  pub lawful : AllByRecursion (Lawful f g.next u) ls
  pub later : f.next ≤ g.next
  pub guards : (p : Place) (j k : ℕ) → guard_at f p ≡ Some j → guard_at g p ≡ Some k → k ≡ j
  pub stores : (p : Place) → guard_at f (moved p) ≡ guard_at f p
  pub own : (p : Place) (v : ℕ) → is_own (moved p) v ≡ is_own p v
  pub impl : (p : Place) (o : ℕ) → moved p ≡ ImplOf (uid o) → p ≡ ImplOf (uid o)
  pub dirs : (d : ℕ) (x : Directory) → at g.dirs d ≡ Some x → OldDir f d x.rep ⊎ NewRep f ls d x.rep
  pub objects : (o : ℕ) (x : Object) → at g.objects o ≡ Some x → (at f.objects o ≡ Some x) ⊎ NewRep f ls o x.rep
  pub windows : (w : ℕ) (y : WinRow) → at g.windows w ≡ Some y → (at f.windows w ≡ Some y) ⊎ ((f.next ≡ w) × MayWindow f u y.seg.0)

-- ---- what an outcome has, so that it is a step

-- a window, an object or a directory that these changes make
abbrev pub MakesWindow : List Change → ℕ → WinRow → Type 0
MakesWindow [] w y = ⊥
MakesWindow (MakeWindow u row ∷ rest) w y = ((u ≡ w) × (row ≡ y)) ⊎ MakesWindow rest w y
MakesWindow (_ ∷ rest) w y = MakesWindow rest w y

abbrev pub MakesObject : List Change → ℕ → Object → Type 0
MakesObject [] o x = ⊥
MakesObject (MakeObject u row len ∷ rest) o x = ((u ≡ o) × (row ≡ x)) ⊎ MakesObject rest o x
MakesObject (_ ∷ rest) o x = MakesObject rest o x

abbrev pub MakesDir : List Change → ℕ → ℕ → Type 0
MakesDir [] d rep = ⊥
MakesDir (MakeDirectory u r guard ∷ rest) d rep = ((u ≡ d) × (r ≡ rep)) ⊎ MakesDir rest d rep
MakesDir (_ ∷ rest) d rep = MakesDir rest d rep

-- changes that make a thing, and lists of changes that have no landing, that use up identifiers alone, and that tell a user object
abbrev pub is_making : Change → Bool
is_making (MakeSegment u len guard) = true
is_making (MakeType u) = true
is_making (MakeObject u row len) = true
is_making (MakeDirectory u r guard) = true
is_making (MakeCode u row) = true
is_making _ = false

abbrev pub lands_none : Change → Bool
lands_none (PutWord u i w) = false
lands_none (Bind d name cap) = false
lands_none (Register o d name kind) = false
lands_none (Post b w) = false
lands_none (MakeObject u row len) = false
lands_none (MakeDirectory u r guard) = false
lands_none (MakeCode u row) = false
lands_none _ = true

abbrev pub none_land : List Change → Bool
none_land [] = true
none_land (ch ∷ rest) = lands_none ch && none_land rest

abbrev pub only_fresh : List Change → Bool
only_fresh [] = true
only_fresh (Fresh ∷ rest) = only_fresh rest
only_fresh (_ ∷ rest) = false

abbrev pub tells : List Change → Bool
tells [] = false
tells (Register o d name kind ∷ rest) = only_fresh rest
tells (_ ∷ rest) = false

-- nothing lands; or one change does something and the rest uses up identifiers; or a thing is made and told
abbrev pub is_short : List Change → Bool
is_short [] = true
is_short (ch ∷ rest) = none_land (ch ∷ rest) || (only_fresh rest || (is_making ch && tells rest))

-- what lands before bodies end
abbrev pub first_puts : Flat → User → Outcome → List Landing
first_puts f x o = effect_puts x o.source o.effect ++ changes_put f o.source o.changes

pub record Fair (f : Flat) (x : User) (o : Outcome) : Type 0 where
  pub safe : AreSafe f o.changes
  pub short : is_short o.changes ≡ true
  pub lawful : AllByRecursion (Lawful f (changed_all f o.changes).next x.number) (first_puts f x o)
  pub windows : (w : ℕ) (y : WinRow) → MakesWindow o.changes w y → (f.next ≡ w) × MayWindow f x.number y.seg.0
  pub objects : (v : ℕ) (y : Object) → MakesObject o.changes v y → NewRep f (first_puts f x o) v y.rep
  pub dirs : (d rep : ℕ) → MakesDir o.changes d rep → NewRep f (first_puts f x o) d rep

-- what is known of the state before: identifiers from next on are unused, no object is a directory, and each guard has bit 0
pub record Ground (f : Flat) : Type 0 where
  pub below : (p : Place) (cap : Capability) → cap_at f p ≡ Some cap → cap.uid < f.next
  pub segments : (v : ℕ) → f.next ≤ v → at f.segments v ≡ None
  pub dirs : (v : ℕ) → f.next ≤ v → at f.dirs v ≡ None
  pub objects : (v : ℕ) → f.next ≤ v → at f.objects v ≡ None
  pub apart : (o : ℕ) (x : Object) → at f.objects o ≡ Some x → at f.dirs o ≡ None
  pub reps : (d : ℕ) (x : Directory) → at f.dirs d ≡ Some x → x.rep < f.next
  pub parts : (o : ℕ) (x : Object) → at f.objects o ≡ Some x → x.rep < f.next
  pub bit_0 : (p : Place) (k : ℕ) → guard_at f p ≡ Some k → has_bit k 0 ≡ true
