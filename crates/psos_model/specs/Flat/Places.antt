-- Places, the capabilities at them, and their guards. States docs/system.md, "Places".
use Rattle.std.specs.Prelude.{ℕ, ◌==◌, ◌&&◌, Bool, false, List, [], ◌∷◌, length, slice_get, Option, Some, None, if◌then◌else◌}
use Rattle.std.specs.Option.{option_map, option_and_then}
use Rattle.std.specs.Str.{bytes_eq}
use Rattle.psos_table.specs.Table.{at}
use Rattle.psos_caps.specs.Capability.{Capability, full}
use Rattle.psos_words.specs.declared.word.Word.{Word}
use Rattle.psos_words.specs.declared.word.Word.TheVariants.{Data, Cap}
use Rattle.psos_words.specs.Words.{word_at}
use Rattle.psos_calls.specs.declared.frame.Frame.{Frame}
use Rattle.psos_calls.specs.declared.right.Right.{Right}
use Rattle.psos_calls.specs.declared.right.Right.TheVariants.{Read, Lookup, Impl, Enter}
use Rattle.psos_calls.specs.declared.code_row.CodeRow.{CodeRow}
use Rattle.psos_calls.specs.Language.User.{User}
use Rattle.psos_model.specs.declared.place.Place.{Place}
use Rattle.psos_model.specs.declared.place.Place.TheVariants.{Reg, FrameReg, PathAt, SegWord, DirName, BoxAt, Link, ImplOf}
use Rattle.psos_model.specs.Flat.{Flat, Segment, Object, Directory, Named, named}

-- ---- the capability at a place

abbrev pub cap_in : Word → Option Capability
cap_in (Data n) = None
cap_in (Cap cap) = Some cap

-- the open body that has so many outside of it; bodies stand innermost first
abbrev pub frame_at : List Frame → ℕ → Option Frame
frame_at [] depth = None
frame_at (q ∷ outer) depth = if depth == length outer then Some q else frame_at outer depth

-- the capability on the representation of an object or of a directory
abbrev pub rep_cap : Option Object → Option Directory → Option Capability
rep_cap (Some o) d = Some (full o.rep)
rep_cap None (Some d) = Some (full d.rep)
rep_cap None None = None

-- the capability at a place of this user
abbrev pub own_cap : User → Place → Option Capability
own_cap x (Reg u i) = cap_in (word_at x.regs i)
own_cap x (FrameReg u depth i) = option_and_then (λ (q : Frame). cap_in (word_at q.regs i)) (frame_at x.frames depth)
own_cap x (PathAt u i) = slice_get x.path i
own_cap x _ = None

-- the capability at a place, if the place is there and holds one
abbrev pub cap_at : Flat → Place → Option Capability
cap_at f (Reg u i) = option_and_then (λ (x : User). own_cap x (Reg u i)) (slice_get f.users u)
cap_at f (FrameReg u depth i) = option_and_then (λ (x : User). own_cap x (FrameReg u depth i)) (slice_get f.users u)
cap_at f (PathAt u i) = option_and_then (λ (x : User). own_cap x (PathAt u i)) (slice_get f.users u)
cap_at f (SegWord uid i) = option_and_then (λ (s : Segment). cap_in (word_at s.words i)) (at f.segments uid.0)
cap_at f (DirName uid name) = option_and_then (λ (d : Directory). option_map (λ (e : Named). e.cap) (named d name)) (at f.dirs uid.0)
cap_at f (BoxAt uid i) = option_and_then (λ (box : List Word). cap_in (word_at box i)) (at f.boxes uid.0)
cap_at f (Link uid) = option_and_then (λ (c : CodeRow). cap_in c.link) (at f.codes uid.0)
cap_at f (ImplOf uid) = rep_cap (at f.objects uid.0) (at f.dirs uid.0)

-- ---- whose a place is, and what guards it

-- it is a private place of this user
abbrev pub is_own : Place → ℕ → Bool
is_own (Reg v i) u = v == u
is_own (FrameReg v depth i) u = v == u
is_own (PathAt v i) u = v == u
is_own _ u = false

-- the guard of the store that a place belongs to, while that lives; private places have none
abbrev pub guard_at : Flat → Place → Option ℕ
guard_at f (SegWord uid i) = option_map (λ (s : Segment). s.guard.0) (at f.segments uid.0)
guard_at f (DirName uid name) = option_map (λ (d : Directory). d.guard.0) (at f.dirs uid.0)
guard_at f (BoxAt uid i) = Some 1
guard_at f (Link uid) = Some 1
guard_at f (ImplOf uid) = Some 1
guard_at f _ = None

-- the right by which a place of a store may be read; a mailbox is read by nobody but its process
abbrev pub right_of : Place → Option Right
right_of (SegWord uid i) = Some Read
right_of (DirName uid name) = Some Lookup
right_of (ImplOf uid) = Some Impl
right_of (Link uid) = Some Enter
right_of _ = None

-- two places are one
abbrev pub same_place : Place → Place → Bool
same_place (Reg u i) (Reg v j) = (u == v) && (i == j)
same_place (FrameReg u d i) (FrameReg v e j) = (u == v) && ((d == e) && (i == j))
same_place (PathAt u i) (PathAt v j) = (u == v) && (i == j)
same_place (SegWord u i) (SegWord v j) = (u.0 == v.0) && (i == j)
same_place (DirName u n) (DirName v m) = (u.0 == v.0) && bytes_eq n.bytes m.bytes
same_place (BoxAt u i) (BoxAt v j) = (u.0 == v.0) && (i == j)
same_place (Link u) (Link v) = u.0 == v.0
same_place (ImplOf u) (ImplOf v) = u.0 == v.0
same_place _ _ = false

-- the place of a register that a request names
abbrev pub reg_place : User → List Frame → ℕ → Place
reg_place x [] i = Reg x.number i
reg_place x (q ∷ outer) i = FrameReg x.number (length outer) i
