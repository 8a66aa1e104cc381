-- What changes of shared things leave as it was.
use Rattle.std.proofs.Common.{◌≡◌, ◌⊎◌, ℕ, ◌≤◌, ◌==◌, true, false, List, [], ◌∷◌, slice_get, slice_set, Option, Some, None, option_map, option_and_then, refl, sym, ap, subst, ◌∙◌, inl, inr, zero, suc, arith}
use Rattle.std.specs.FinMap as maps
use Rattle.std.proofs.lemmas.Option.{same_Some, none-some}
use Rattle.std.proofs.lemmas.Bool.{eq-eqb, false≢true, eqb-true}
use Rattle.psos_table.specs.Table.{at}
use Rattle.psos_table.proofs.Tables.{row_put, row_without, row_kept, row_edited}
use Rattle.psos_caps.specs.Capability.{Capability}
use Rattle.psos_calls.specs.declared.win_row.WinRow.{WinRow}
use Rattle.psos_calls.specs.Language.Views.{is_not_over}
use Rattle.psos_calls.specs.Language.Capabilities.{uid}
use Rattle.psos_calls.specs.Language.User.{User}
use Rattle.psos_model.specs.declared.place.Place.{Place}
use Rattle.psos_model.specs.declared.place.Place.TheVariants.{Reg, FrameReg, PathAt, SegWord, DirName, BoxAt, Link, ImplOf}
use Rattle.psos_model.specs.Flat.{Flat, Segment, Object, Directory}
use Rattle.psos_model.specs.Flat.Places.{cap_at, own_cap, is_own, guard_at}
use Rattle.psos_model.specs.declared.change.Change.{Change}
use Rattle.psos_model.specs.declared.change.Change.TheVariants.{Fresh, PutWord, Bind, Unbind, Register, Unregister, Draw, MakeSegment, MakeWindow, MakeObject, MakeDirectory, DropSegment, DropObject, DropDirectory}
use Rattle.psos_model.specs.Flat.Changes.{changed, changed_all, new_segment, kept_entry, with_entry, without_entry}
use Rattle.psos_model.specs.Answer.Outcomes.{Source}
use Rattle.psos_model.proofs.AnswerBounds.{next_is, next_after}
use Rattle.psos_laws.specs.Landings.{change_puts, changes_put, before_change, before, landed}
use Rattle.psos_laws.proofs.Landings.{landed_append}
use Rattle.psos_laws.proofs.ChangeArrivals.{Safe, AreSafe}
use Rattle.psos_laws.proofs.StepLaws.{OldDir, MakesWindow, MakesObject, MakesDir, Ground}

pub next_later : (f : Flat) (cs : List Change) → f.next ≤ (changed_all f cs).next
next_later f cs = omega (arith, next_after f cs)

-- ---- guards

abbrev seg_guard : Flat → ℕ → Option ℕ
seg_guard f v = option_map (λ (s : Segment). s.guard.0) (at f.segments v)

abbrev dir_guard : Flat → ℕ → Option ℕ
dir_guard f v = option_map (λ (d : Directory). d.guard.0) (at f.dirs v)

abbrev WasSegment : Flat → ℕ → Segment → Type 0
WasSegment f v x = (seg_guard f v ≡ Some x.guard.0) ⊎ (f.next ≤ v)

abbrev WasDirectory : Flat → ℕ → Directory → Type 0
WasDirectory f v x = (dir_guard f v ≡ Some x.guard.0) ⊎ (f.next ≤ v)

old_segment : (f : Flat) (v : ℕ) (x : Segment) → at f.segments v ≡ Some x → WasSegment f v x
old_segment f v x e = inl (ap (option_map (λ (s : Segment). s.guard.0)) e)

old_directory : (f : Flat) (v : ℕ) (x : Directory) → at f.dirs v ≡ Some x → WasDirectory f v x
old_directory f v x e = inl (ap (option_map (λ (d : Directory). d.guard.0)) e)

segments_one : (f : Flat) (ch : Change) → Safe f ch → (v : ℕ) (x : Segment) → at (changed f ch).segments v ≡ Some x → WasSegment f v x
segments_one f (PutWord u i w) safe = row_edited (WasSegment f) f.segments u (λ (s : Segment). record s { words = slice_set s.words i w }) (λ x e h. h) (old_segment f)
segments_one f (MakeSegment u len guard) safe = row_put (WasSegment f) f.segments u (new_segment len guard) (inr safe) (old_segment f)
segments_one f (MakeObject u o len) safe = row_put (WasSegment f) f.segments o.rep (new_segment len (record { 0 = 1 })) (inr safe) (old_segment f)
segments_one f (DropSegment u) safe = row_without (WasSegment f) f.segments u (old_segment f)
segments_one f (DropObject u rep) safe = row_without (WasSegment f) f.segments rep (old_segment f)
segments_one f _ safe = old_segment f

directories_one : (f : Flat) (ch : Change) → Safe f ch → (v : ℕ) (x : Directory) → at (changed f ch).dirs v ≡ Some x → WasDirectory f v x
directories_one f (Bind d name cap) safe = row_edited (WasDirectory f) f.dirs d (with_entry name (record { cap = cap; kept = false })) (λ x e h. h) (old_directory f)
directories_one f (Unbind d name) safe = row_edited (WasDirectory f) f.dirs d (without_entry name) (λ x e h. h) (old_directory f)
directories_one f (Register o d name kind) safe = row_edited (WasDirectory f) f.dirs d (with_entry name (kept_entry o)) (λ x e h. h) (old_directory f)
directories_one f (Unregister o d name) safe = row_edited (WasDirectory f) f.dirs d (without_entry name) (λ x e h. h) (old_directory f)
directories_one f (MakeDirectory u rep guard) safe = row_put (WasDirectory f) f.dirs u (record { guard = guard; rep = rep; names = maps.empty }) (inr safe.0) (old_directory f)
directories_one f (DropDirectory u) safe = row_without (WasDirectory f) f.dirs u (old_directory f)
directories_one f _ safe = old_directory f

-- the place belongs to a store that is new
abbrev NewStore : ℕ → Place → Type 0
NewStore n (SegWord u i) = n ≤ u.0
NewStore n (DirName u name) = n ≤ u.0
NewStore n _ = ⊥

-- a store's guard is the one that it had, or the store is new
guards_one : (f : Flat) (ch : Change) → Safe f ch → (p : Place) (k : ℕ) → guard_at (changed f ch) p ≡ Some k → (guard_at f p ≡ Some k) ⊎ NewStore f.next p
guards_one f ch safe (SegWord v j) k e = by_row (at (changed f ch).segments v.0) refl e
  where
    by_row : (o : Option Segment) → at (changed f ch).segments v.0 ≡ o → option_map (λ (s : Segment). s.guard.0) o ≡ Some k → (seg_guard f v.0 ≡ Some k) ⊎ (f.next ≤ v.0)
    by_row None is g = absurd (none-some k g)
    by_row (Some x) is g = subst (λ n. (seg_guard f v.0 ≡ Some n) ⊎ (f.next ≤ v.0)) (same_Some x.guard.0 k g) (segments_one f ch safe v.0 x is)
guards_one f ch safe (DirName v m) k e = by_row (at (changed f ch).dirs v.0) refl e
  where
    by_row : (o : Option Directory) → at (changed f ch).dirs v.0 ≡ o → option_map (λ (d : Directory). d.guard.0) o ≡ Some k → (dir_guard f v.0 ≡ Some k) ⊎ (f.next ≤ v.0)
    by_row None is g = absurd (none-some k g)
    by_row (Some x) is g = subst (λ n. (dir_guard f v.0 ≡ Some n) ⊎ (f.next ≤ v.0)) (same_Some x.guard.0 k g) (directories_one f ch safe v.0 x is)
guards_one f ch safe (Reg v i) k e = absurd (none-some k e)
guards_one f ch safe (FrameReg v d i) k e = absurd (none-some k e)
guards_one f ch safe (PathAt v i) k e = absurd (none-some k e)
guards_one f ch safe (BoxAt v i) k e = inl e
guards_one f ch safe (Link v) k e = inl e
guards_one f ch safe (ImplOf v) k e = inl e

new_later : (n m : ℕ) (p : Place) → n ≤ m → NewStore m p → NewStore n p
new_later n m (SegWord u i) le h = omega (arith, le, h)
new_later n m (DirName u name) le h = omega (arith, le, h)
new_later n m _ le h = h

guards_all : (f : Flat) (cs : List Change) → AreSafe f cs → (p : Place) (k : ℕ) → guard_at (changed_all f cs) p ≡ Some k → (guard_at f p ≡ Some k) ⊎ NewStore f.next p
guards_all f [] safe p k e = inl e
guards_all f (ch ∷ rest) safe p k e = elim (guards_all (changed f ch) rest safe.1.1 p k e) [
  | inl old ↦ guards_one f ch safe.0 p k old
  | inr new ↦ inr (new_later f.next (changed f ch).next p (omega (arith, next_is f ch)) new)
]

guards_ground : (f : Flat) → Ground f → (p : Place) (j k : ℕ) → guard_at f p ≡ Some j → (guard_at f p ≡ Some k) ⊎ NewStore f.next p → k ≡ j
guards_ground f ground p j k a (inl b) = same_Some k j (sym b ∙ a)
guards_ground f ground (SegWord u i) j k a (inr new) = absurd (none-some j (sym (ap (option_map (λ (s : Segment). s.guard.0)) (ground.segments u.0 new)) ∙ a))
guards_ground f ground (DirName u name) j k a (inr new) = absurd (none-some j (sym (ap (option_map (λ (d : Directory). d.guard.0)) (ground.dirs u.0 new)) ∙ a))
guards_ground f ground _ j k a (inr new) = absurd new

-- a store has one guard while it lives
pub guards_stay : (f : Flat) → Ground f → (cs : List Change) → AreSafe f cs → (p : Place) (j k : ℕ) → guard_at f p ≡ Some j → guard_at (changed_all f cs) p ≡ Some k → k ≡ j
guards_stay f ground cs safe p j k a b = guards_ground f ground p j k a (guards_all f cs safe p k b)

-- ---- words that move stay in their store

pub stores_stay : (f : Flat) (cs : List Change) (p : Place) → guard_at f (before cs p) ≡ guard_at f p
stores_stay f [] p = refl
stores_stay f (ch ∷ rest) p = one ch (before rest p) ∙ stores_stay f rest p
  where
    one : (ch : Change) (p : Place) → guard_at f (before_change ch p) ≡ guard_at f p
    one (Draw b) (BoxAt v i) = refl
    one _ _ = refl

pub own_stays : (cs : List Change) (p : Place) (v : ℕ) → is_own (before cs p) v ≡ is_own p v
own_stays [] p v = refl
own_stays (ch ∷ rest) p v = one ch (before rest p) ∙ own_stays rest p v
  where
    one : (ch : Change) (p : Place) → is_own (before_change ch p) v ≡ is_own p v
    one (Draw b) (BoxAt w i) = refl
    one _ _ = refl

abbrev impl_of : Place → Option ℕ
impl_of (ImplOf o) = Some o.0
impl_of _ = None

impl_before : (cs : List Change) (p : Place) → impl_of (before cs p) ≡ impl_of p
impl_before [] p = refl
impl_before (ch ∷ rest) p = one ch (before rest p) ∙ impl_before rest p
  where
    one : (ch : Change) (p : Place) → impl_of (before_change ch p) ≡ impl_of p
    one (Draw b) (BoxAt w i) = refl
    one _ _ = refl

from_impl : (p : Place) (o : ℕ) → impl_of p ≡ Some o → p ≡ ImplOf (uid o)
from_impl (ImplOf v) o e = ap (λ (n : ℕ). ImplOf (record { 0 = n })) (same_Some v.0 o e)
from_impl _ o e = absurd (none-some o e)

pub impl_stays : (cs : List Change) (p : Place) (o : ℕ) → before cs p ≡ ImplOf (uid o) → p ≡ ImplOf (uid o)
impl_stays cs p o e = from_impl p o (sym (impl_before cs p) ∙ ap impl_of e)

-- no change moves the words of a private place, nor lands there
pub before_own : (cs : List Change) (p : Place) (u : ℕ) → is_own p u ≡ true → before cs p ≡ p
before_own [] p u own = refl
before_own (ch ∷ rest) p u own = ap (before_change ch) (before_own rest p u own) ∙ one ch p own
  where
    one : (ch : Change) (p : Place) → is_own p u ≡ true → before_change ch p ≡ p
    one (Draw b) (BoxAt v i) own = absurd (false≢true own)
    one _ _ own = refl

shared_one : (f : Flat) (source : Option Source) (ch : Change) (p : Place) (u : ℕ) (o : Option Capability) → is_own p u ≡ true → landed (change_puts f source ch) p o ≡ o
shared_one f source Fresh p u o own = refl
shared_one f source _ (Reg v i) u o own = refl
shared_one f source _ (FrameReg v d i) u o own = refl
shared_one f source _ (PathAt v i) u o own = refl
shared_one f source _ (SegWord s i) u o own = absurd (false≢true own)
shared_one f source _ (DirName s i) u o own = absurd (false≢true own)
shared_one f source _ (BoxAt s i) u o own = absurd (false≢true own)
shared_one f source _ (Link s) u o own = absurd (false≢true own)
shared_one f source _ (ImplOf s) u o own = absurd (false≢true own)

pub shared_apart : (f : Flat) (source : Option Source) (cs : List Change) (p : Place) (u : ℕ) (o : Option Capability) → is_own p u ≡ true → landed (changes_put f source cs) p o ≡ o
shared_apart f source [] p u o own = refl
shared_apart f source (ch ∷ rest) p u o own =
    landed_append (changes_put (changed f ch) source rest) (change_puts f source ch) p o
    ∙ (ap (landed (changes_put (changed f ch) source rest) p) (shared_one f source ch p u o own) ∙ shared_apart (changed f ch) source rest p u o own)

-- ---- directories, objects and windows are old, or made by a change

abbrev WasDir : Flat → List Change → ℕ → Directory → Type 0
WasDir f cs v x = OldDir f v x.rep ⊎ MakesDir cs v x.rep

old_dir : (f : Flat) (cs : List Change) (v : ℕ) (x : Directory) → at f.dirs v ≡ Some x → WasDir f cs v x
old_dir f cs v x e = inl (record { row = x; live = e; same = refl })

dirs_one : (f : Flat) (ch : Change) (rest : List Change) (v : ℕ) (x : Directory) → at (changed f ch).dirs v ≡ Some x → WasDir f (ch ∷ rest) v x
dirs_one f (Bind d name cap) rest = row_edited (WasDir f (Bind d name cap ∷ rest)) f.dirs d (with_entry name (record { cap = cap; kept = false })) (λ x e h. h) (old_dir f (Bind d name cap ∷ rest))
dirs_one f (Unbind d name) rest = row_edited (WasDir f (Unbind d name ∷ rest)) f.dirs d (without_entry name) (λ x e h. h) (old_dir f (Unbind d name ∷ rest))
dirs_one f (Register o d name kind) rest = row_edited (WasDir f (Register o d name kind ∷ rest)) f.dirs d (with_entry name (kept_entry o)) (λ x e h. h) (old_dir f (Register o d name kind ∷ rest))
dirs_one f (Unregister o d name) rest = row_edited (WasDir f (Unregister o d name ∷ rest)) f.dirs d (without_entry name) (λ x e h. h) (old_dir f (Unregister o d name ∷ rest))
dirs_one f (MakeDirectory u rep guard) rest = row_put (WasDir f (MakeDirectory u rep guard ∷ rest)) f.dirs u (record { guard = guard; rep = rep; names = maps.empty }) (inr (inl (refl, refl))) (old_dir f (MakeDirectory u rep guard ∷ rest))
dirs_one f (DropDirectory u) rest = row_without (WasDir f (DropDirectory u ∷ rest)) f.dirs u (old_dir f (DropDirectory u ∷ rest))
dirs_one f _ rest = λ v x e. inl (record { row = x; live = e; same = refl })

dir_later : (ch : Change) (rest : List Change) (d rep : ℕ) → MakesDir rest d rep → MakesDir (ch ∷ rest) d rep
dir_later (MakeDirectory u r guard) rest d rep h = inr h
dir_later _ rest d rep h = h

pub dirs_from : (f : Flat) (cs : List Change) (v : ℕ) (x : Directory) → at (changed_all f cs).dirs v ≡ Some x → WasDir f cs v x
dirs_from f [] v x e = old_dir f [] v x e
dirs_from f (ch ∷ rest) v x e = elim (dirs_from (changed f ch) rest v x e) [
  | inl old ↦ subst (λ r. OldDir f v r ⊎ MakesDir (ch ∷ rest) v r) old.same (dirs_one f ch rest v old.row old.live)
  | inr new ↦ inr (dir_later ch rest v x.rep new)
]

abbrev WasObject : Flat → List Change → ℕ → Object → Type 0
WasObject f cs v x = (at f.objects v ≡ Some x) ⊎ MakesObject cs v x

objects_one : (f : Flat) (ch : Change) (rest : List Change) (v : ℕ) (x : Object) → at (changed f ch).objects v ≡ Some x → WasObject f (ch ∷ rest) v x
objects_one f (MakeObject u o len) rest = row_put (WasObject f (MakeObject u o len ∷ rest)) f.objects u o (inr (inl (refl, refl))) (λ v x e. inl e)
objects_one f (DropObject u rep) rest = row_without (WasObject f (DropObject u rep ∷ rest)) f.objects u (λ v x e. inl e)
objects_one f _ rest = λ v x e. inl e

object_later : (ch : Change) (rest : List Change) (v : ℕ) (x : Object) → MakesObject rest v x → MakesObject (ch ∷ rest) v x
object_later (MakeObject u o len) rest v x h = inr h
object_later _ rest v x h = h

pub objects_from : (f : Flat) (cs : List Change) (v : ℕ) (x : Object) → at (changed_all f cs).objects v ≡ Some x → WasObject f cs v x
objects_from f [] v x e = inl e
objects_from f (ch ∷ rest) v x e = elim (objects_from (changed f ch) rest v x e) [
  | inl old ↦ objects_one f ch rest v x old
  | inr new ↦ inr (object_later ch rest v x new)
]

abbrev WasWindow : Flat → List Change → ℕ → WinRow → Type 0
WasWindow f cs v x = (at f.windows v ≡ Some x) ⊎ MakesWindow cs v x

windows_one : (f : Flat) (ch : Change) (rest : List Change) (v : ℕ) (x : WinRow) → at (changed f ch).windows v ≡ Some x → WasWindow f (ch ∷ rest) v x
windows_one f (MakeWindow u row) rest = row_put (WasWindow f (MakeWindow u row ∷ rest)) f.windows u row (inr (inl (refl, refl))) (λ v x e. inl e)
windows_one f (DropSegment u) rest = row_kept (WasWindow f (DropSegment u ∷ rest)) (is_not_over u) f.windows (λ v x e. inl e)
windows_one f (DropObject u rep) rest = row_kept (WasWindow f (DropObject u rep ∷ rest)) (is_not_over rep) f.windows (λ v x e. inl e)
windows_one f _ rest = λ v x e. inl e

window_later : (ch : Change) (rest : List Change) (v : ℕ) (x : WinRow) → MakesWindow rest v x → MakesWindow (ch ∷ rest) v x
window_later (MakeWindow u row) rest v x h = inr h
window_later _ rest v x h = h

pub windows_from : (f : Flat) (cs : List Change) (v : ℕ) (x : WinRow) → at (changed_all f cs).windows v ≡ Some x → WasWindow f cs v x
windows_from f [] v x e = inl e
windows_from f (ch ∷ rest) v x e = elim (windows_from (changed f ch) rest v x e) [
  | inl old ↦ windows_one f ch rest v x old
  | inr new ↦ inr (window_later ch rest v x new)
]

-- ---- users

pub set_here : (us : List User) (u : ℕ) (x y : User) → slice_get us u ≡ Some y → slice_get (slice_set us u x) u ≡ Some x
set_here [] u x y e = absurd (none-some y e)
set_here (z ∷ us) zero x y e = refl
set_here (z ∷ us) (suc u) x y e = set_here us u x y e

pub set_apart : (us : List User) (u v : ℕ) (x : User) → (v ≡ u → ⊥) → slice_get (slice_set us u x) v ≡ slice_get us v
set_apart [] u v x n = refl
set_apart (z ∷ us) zero zero x n = absurd (n refl)
set_apart (z ∷ us) zero (suc v) x n = refl
set_apart (z ∷ us) (suc u) zero x n = refl
set_apart (z ∷ us) (suc u) (suc v) x n = set_apart us u v x (λ e. n (ap suc e))

-- a private place holds what its user's own part has there
pub cap_own : (f : Flat) (u : ℕ) (x : User) (p : Place) → slice_get f.users u ≡ Some x → is_own p u ≡ true → cap_at f p ≡ own_cap x p
cap_own f u x (Reg v i) is own = ap (λ (k : ℕ). option_and_then (λ (y : User). own_cap y (Reg v i)) (slice_get f.users k)) (eqb-true v u own) ∙ ap (option_and_then (λ (y : User). own_cap y (Reg v i))) is
cap_own f u x (FrameReg v d i) is own = ap (λ (k : ℕ). option_and_then (λ (y : User). own_cap y (FrameReg v d i)) (slice_get f.users k)) (eqb-true v u own) ∙ ap (option_and_then (λ (y : User). own_cap y (FrameReg v d i))) is
cap_own f u x (PathAt v i) is own = ap (λ (k : ℕ). option_and_then (λ (y : User). own_cap y (PathAt v i)) (slice_get f.users k)) (eqb-true v u own) ∙ ap (option_and_then (λ (y : User). own_cap y (PathAt v i))) is
cap_own f u x _ is own = absurd (false≢true own)

pub not_same : (v u : ℕ) → (v == u) ≡ false → v ≡ u → ⊥
not_same v u out same = false≢true (sym out ∙ eq-eqb v u same)

-- a user's own part is seen at its own places alone
pub other_places : (f : Flat) (us : List User) (u : ℕ) (p : Place) → ((v : ℕ) → (v ≡ u → ⊥) → slice_get us v ≡ slice_get f.users v) → is_own p u ≡ false → cap_at (record f { users = us }) p ≡ cap_at f p
other_places f us u (Reg v i) same out = ap (option_and_then (λ (y : User). own_cap y (Reg v i))) (same v (not_same v u out))
other_places f us u (FrameReg v d i) same out = ap (option_and_then (λ (y : User). own_cap y (FrameReg v d i))) (same v (not_same v u out))
other_places f us u (PathAt v i) same out = ap (option_and_then (λ (y : User). own_cap y (PathAt v i))) (same v (not_same v u out))
other_places f us u _ same out = refl
