-- What an answer puts where, and from where. States docs/promises.md, "Origins".
use Rattle.std.specs.Prelude.{◌≡◌, ◌<◌, ◌⊎◌, IsSome, slice_get, ℕ, ◌+◌, ◌==◌, Bool, if◌then◌else◌, nat_le, List, [], ◌∷◌, ◌++◌, length, Option, Some, None}
use Rattle.psos_table.specs.Table.{at}
use Rattle.psos_caps.specs.Capability.{Capability, full}
use Rattle.psos_words.specs.declared.word.Word.{Word}
use Rattle.psos_words.specs.declared.word.Word.TheVariants.{Cap}
use Rattle.psos_words.specs.Words.{word_at}
use Rattle.psos_calls.specs.declared.frame.Frame.{Frame}
use Rattle.psos_calls.specs.declared.request.Request.{Request}
use Rattle.psos_calls.specs.declared.effect.Effect.{Effect}
use Rattle.psos_calls.specs.declared.effect.Effect.TheVariants.{Nothing, Put, Push, Enter}
use Rattle.psos_calls.specs.Language.Script.{Script, body_of}
use Rattle.psos_calls.specs.Language.User.{User, here, counted, settled}
use Rattle.psos_calls.specs.Language.Capabilities.{uid}
use Rattle.psos_calls.specs.Language.Tests.{if_there}
use Rattle.psos_model.specs.declared.place.Place.{Place}
use Rattle.psos_model.specs.declared.place.Place.TheVariants.{Reg, FrameReg, PathAt, SegWord, DirName, BoxAt, Link, ImplOf}
use Rattle.psos_model.specs.Flat.{Flat, Segment, Directory, named}
use Rattle.psos_model.specs.Flat.Places.{same_place, reg_place, cap_in, frame_at}
use Rattle.psos_model.specs.declared.change.Change.{Change}
use Rattle.psos_model.specs.declared.change.Change.TheVariants.{PutWord, Bind, Register, Post, Draw, MakeObject, MakeDirectory, MakeCode}
use Rattle.psos_model.specs.Flat.Changes.{changed}
use Rattle.psos_model.specs.Answer.Outcomes.{Source, own}
use Rattle.psos_model.specs.Answer.{outcome}

-- a word that comes to a place, and the place that it was read from, if any
pub record Landing : Type 0 where
  pub place : Place
  pub word : Word
  pub source : Option Source

abbrev pub lands : Place → Word → Option Source → Landing
lands place word source = record { place = place; word = word; source = source }

-- ---- what changes put. What a change itself makes is read from nowhere

abbrev pub change_puts : Flat → Option Source → Change → List Landing
change_puts f source (PutWord u i w) = lands (SegWord (uid u) i) w source ∷ []
change_puts f source (Bind d name cap) = lands (DirName (uid d) name) (Cap cap) source ∷ []
change_puts f source (Register o d name kind) = lands (DirName (uid d) name) (Cap (full o)) None ∷ []
change_puts f source (Post b w) = lands (BoxAt (uid b) (if_there (at f.boxes b) 0 (λ box. length box))) w source ∷ []
change_puts f source (MakeObject u o len) = lands (ImplOf (uid u)) (Cap (full o.rep)) None ∷ []
change_puts f source (MakeDirectory u rep guard) = lands (ImplOf (uid u)) (Cap (full rep)) None ∷ []
change_puts f source (MakeCode u row) = lands (Link (uid u)) row.link source ∷ []
change_puts f source _ = []

-- the last first
abbrev pub changes_put : Flat → Option Source → List Change → List Landing
changes_put f source [] = []
changes_put f source (c ∷ rest) = changes_put (changed f c) source rest ++ change_puts f source c

-- ---- what the effect puts

-- register i of a body that is entered is the caller's
abbrev pub passed : User → ℕ → Landing
passed x i = lands (FrameReg x.number (length x.frames) i) (word_at (here x) i) (own (reg_place x x.frames i))

abbrev pub effect_puts : User → Option Source → Effect → List Landing
effect_puts x source Nothing = []
effect_puts x source (Put i w) = lands (reg_place x x.frames i) w source ∷ []
effect_puts x source (Push cap) = lands (PathAt x.number (length x.path)) (Cap cap) source ∷ []
effect_puts x source (Enter label link) =
    lands (FrameReg x.number (length x.frames) 14) link source ∷ passed x 7 ∷ passed x 6 ∷ passed x 5 ∷ passed x 4 ∷ []

-- ---- what the ends of bodies put

-- the last of these that came to a place
abbrev pub found : List Landing → Place → Option Landing
found [] p = None
found (l ∷ rest) p = if same_place p l.place then Some l else found rest p

-- no line of the body is left
abbrev pub is_over : Script → Frame → Bool
is_over s q = nat_le (length (body_of s q.label)) q.line

-- r4 of the next body outward that goes on, or of the user
abbrev pub outer_place : Script → User → List Frame → Place
outer_place s x [] = Reg x.number 4
outer_place s x (q ∷ outer) = if is_over s q then outer_place s x outer else FrameReg x.number (length outer) 4

-- a result has the source that its register has by these, else it is a copy from that register
abbrev pub source_after : List Landing → Place → Option Source
source_after ls p = if_there (found ls p) (own p) (λ l. l.source)

-- where the innermost body is over, its r4 goes outward
abbrev pub end_puts : Script → User → List Frame → List Landing → List Landing
end_puts s x [] ls = []
end_puts s x (q ∷ outer) ls =
    if is_over s q
    then lands (outer_place s x outer) (word_at q.regs 4) (source_after ls (FrameReg x.number (length outer) 4)) ∷ []
    else []

-- ---- all together

-- all that the answer to a request of user x puts, the last first
abbrev pub puts : Script → Flat → User → Request → List Landing
puts s f x request =
    let o = outcome f x request in
    let ls = effect_puts x o.source o.effect ++ changes_put f o.source o.changes in
    end_puts s x (settled (counted x x.frames) o.effect).frames ls ++ ls

-- where the word of a place lay before a change: the messages of a mailbox that is drawn from move up
abbrev pub before_change : Change → Place → Place
before_change (Draw b) (BoxAt v i) = BoxAt v (if v.0 == b then i + 1 else i)
before_change _ p = p

-- and before several
abbrev pub before : List Change → Place → Place
before [] p = p
before (c ∷ rest) p = before_change c (before rest p)

-- the capability at a place after landings, where this one was there before
abbrev pub landed : List Landing → Place → Option Capability → Option Capability
landed [] p old = old
landed (l ∷ rest) p old = if same_place p l.place then cap_in l.word else landed rest p old

-- ---- places that are there

-- a register, or a directory of the name space, of a user's own part
abbrev pub IsOwnThere : User → Place → Type 0
IsOwnThere x (Reg u i) = i < length x.regs
IsOwnThere x (FrameReg u depth i) = (q : Frame) × (frame_at x.frames depth ≡ Some q) × (i < length q.regs)
IsOwnThere x (PathAt u i) = i < length x.path
IsOwnThere x _ = ⊥

-- what the place belongs to is there, and has that place
abbrev pub IsThere : Flat → Place → Type 0
IsThere f (Reg u i) = (x : User) × (slice_get f.users u ≡ Some x) × IsOwnThere x (Reg u i)
IsThere f (FrameReg u depth i) = (x : User) × (slice_get f.users u ≡ Some x) × IsOwnThere x (FrameReg u depth i)
IsThere f (PathAt u i) = (x : User) × (slice_get f.users u ≡ Some x) × IsOwnThere x (PathAt u i)
IsThere f (SegWord uid i) = (s : Segment) × (at f.segments uid.0 ≡ Some s) × (i < length s.words)
IsThere f (DirName uid name) = (d : Directory) × (at f.dirs uid.0 ≡ Some d) × IsSome (named d name)
IsThere f (BoxAt uid i) = (box : List Word) × (at f.boxes uid.0 ≡ Some box) × (i < length box)
IsThere f (Link uid) = IsSome (at f.codes uid.0)
IsThere f (ImplOf uid) = IsSome (at f.objects uid.0) ⊎ IsSome (at f.dirs uid.0)
