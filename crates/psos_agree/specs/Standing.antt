-- Changes under which the levels go on to stand for the flat state. States docs/promises.md, "Stands for".
use Rattle.std.specs.Prelude.{◌≡◌, ◌<◌, ◌≤◌, ℕ, List, length, None, Some}
use Rattle.psos_limits.specs.declared.TheConstants.{MOST_WORDS, MOST_OBJECTS}
use Rattle.psos_caps.specs.declared.rights.Rights.{Rights}
use Rattle.psos_table.specs.Table.{at, size, edit}
use Rattle.psos_text.specs.declared.name.Name.{Name}
use Rattle.psos_text.specs.Name.{IsName}
use Rattle.psos_words.specs.Directory.{Entry, Slot, Found, find, slot_for, entry_words, gone_words}
use Rattle.psos_calls.specs.Language.Script.{Script}
use Rattle.psos_calls.specs.Levels.Level7.{first_free}
use Rattle.psos_model.specs.Flat.{Flat, Segment, Object, Directory}
use Rattle.psos_model.specs.Flat.Changes.{changed, with_entry, without_entry}
use Rattle.psos_model.specs.declared.change.Change.TheVariants.{MakeSegment, DropSegment, MakeObject, DropObject, MakeDirectory, DropDirectory}
use Rattle.psos_model.specs.Replay.{System}
use Rattle.psos_model.specs.Sound.{IsSound}
use Rattle.psos_model.specs.Replay.StandsFor.{StandsFor}
use Rattle.psos_agree.specs.Changes.{made_segment, gone_segment, made_object, gone_object, made_directory, gone_directory, IsAlone, HasRead, four_put}

-- where one more user object fits, a slot is free
abbrev pub SlotsAreLeft : Type 0
SlotsAreLeft = (s : Script) (y : System) (f : Flat) → StandsFor y f → IsSound s f → size f.life < MOST_OBJECTS → length s.users ≤ 8
    → first_free y.levels.pages < length y.levels.pages

-- a segment of data 0 is made, on an identifier that is new at level 8
abbrev pub SegmentsAreMade : Type 0
SegmentsAreMade = (y : System) (f : Flat) (u len : ℕ) (guard : Rights) → StandsFor y f
    → at y.levels.segs.segments u ≡ None → first_free y.levels.pages < length y.levels.pages → len ≤ MOST_WORDS
    → StandsFor (record y { levels = made_segment y u len guard }) (changed f (MakeSegment u len guard))

-- a live segment goes, and the windows over it
abbrev pub SegmentsGo : Type 0
SegmentsGo = (s : Script) (y : System) (f : Flat) (u : ℕ) (t : Segment) → StandsFor y f → IsSound s f → at f.segments u ≡ Some t
    → StandsFor (record y { levels = gone_segment y u }) (changed f (DropSegment u))

-- an object is made with its representation, and goes with it
abbrev pub ObjectsAreMade : Type 0
ObjectsAreMade = (y : System) (f : Flat) (u : ℕ) (o : Object) (len : ℕ) → StandsFor y f
    → at y.levels.segs.segments o.rep ≡ None → first_free y.levels.pages < length y.levels.pages → len ≤ MOST_WORDS
    → StandsFor (record y { levels = made_object y u o len }) (changed f (MakeObject u o len))

abbrev pub ObjectsGo : Type 0
ObjectsGo = (s : Script) (y : System) (f : Flat) (u : ℕ) (o : Object) → StandsFor y f → IsSound s f → at f.objects u ≡ Some o
    → StandsFor (record y { levels = gone_object y u o.rep }) (changed f (DropObject u o.rep))

-- an empty directory is made with its representation, and goes with it
abbrev pub DirectoriesAreMade : Type 0
DirectoriesAreMade = (y : System) (f : Flat) (u rep : ℕ) (guard : Rights) → StandsFor y f → at f.objects u ≡ None → at f.dirs u ≡ None
    → at y.levels.segs.segments rep ≡ None → first_free y.levels.pages < length y.levels.pages
    → StandsFor (record y { levels = made_directory y u rep guard }) (changed f (MakeDirectory u rep guard))

abbrev pub DirectoriesGo : Type 0
DirectoriesGo = (s : Script) (y : System) (f : Flat) (u : ℕ) (x : Directory) → StandsFor y f → IsSound s f → at f.dirs u ≡ Some x
    → StandsFor (record y { levels = gone_directory y u x.rep }) (changed f (DropDirectory u))

-- a new entry is written into the least slot of a directory that is not used
abbrev pub EntriesAreAdded : Type 0
EntriesAreAdded = (y : System) (f : Flat) (d : ℕ) (x : Directory) (slot : ℕ) (slots : List Slot) (k : ℕ) (e : Entry)
    → StandsFor y f → at f.dirs d ≡ Some x → IsAlone f d x → HasRead y.levels.pages y.levels.segs x.rep slot slots
    → slot_for slots ≡ Some k → find slots e.name ≡ None → IsName e.name
    → StandsFor (record y { levels = four_put y.levels slot k (entry_words e.name e.cap e.kept) })
    (record f { dirs = edit f.dirs d (with_entry e.name (record { cap = e.cap; kept = e.kept })) })

-- the words of a free slot are written where a name was found
abbrev pub EntriesAreRemoved : Type 0
EntriesAreRemoved = (y : System) (f : Flat) (d : ℕ) (x : Directory) (slot : ℕ) (slots : List Slot) (name : Name) (found : Found)
    → StandsFor y f → at f.dirs d ≡ Some x → IsAlone f d x → HasRead y.levels.pages y.levels.segs x.rep slot slots
    → find slots name ≡ Some found
    → StandsFor (record y { levels = four_put y.levels slot found.slot gone_words }) (record f { dirs = edit f.dirs d (without_entry name) })
