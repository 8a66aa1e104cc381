-- When the levels and the users' own parts stand for a flat state. States docs/promises.md, "Stands for".
use Rattle.std.specs.Prelude.{◌≡◌, ◌⊎◌, ℕ, ◌<◌, List, length, Option, Some, None}
use Rattle.std.specs.Option.{option_map}
use Rattle.psos_limits.specs.declared.TheConstants.{SLOTS, MOST_WORDS}
use Rattle.psos_table.specs.Table.{at}
use Rattle.psos_caps.specs.Capability.{full}
use Rattle.psos_text.specs.declared.name.Name.{Name}
use Rattle.psos_words.specs.declared.word.Word.{Word}
use Rattle.psos_words.specs.Words.{word_at}
use Rattle.psos_words.specs.Directory.{Slot, Found, decode, find}
use Rattle.psos_calls.specs.declared.seg_row.SegRow.{SegRow}
use Rattle.psos_calls.specs.declared.obj_row.ObjRow.{ObjRow}
use Rattle.psos_calls.specs.Levels.Level7.{IsTaken, slot_words}
use Rattle.psos_calls.specs.Levels.Level8.{slot_of}
use Rattle.psos_calls.specs.Language.Capabilities.{uid}
use Rattle.psos_model.specs.Flat.{Flat, Segment, Object, Directory, Named, named}
use Rattle.psos_model.specs.Replay.{System}

-- level 9 has each object with its type, and each directory with none
abbrev pub object_row : Option Object → Option Directory → Option ObjRow
object_row (Some o) d = Some (record { of = Some (uid o.of); rep = full o.rep })
object_row None (Some d) = Some (record { of = None; rep = full d.rep })
object_row None None = None

-- an entry as the flat state has it
abbrev pub named_of : Found → Named
named_of found = record { cap = found.entry.cap; kept = found.entry.kept }

-- the words of a live segment of level 8
abbrev pub stored : System → ℕ → List Word
stored y u = slot_words y.levels.pages (slot_of y.levels.segs u)

-- the words of a directory's representation are an entry list with exactly its entries
pub record HoldsEntries (words : List Word) (d : Directory) : Type 0 where
  pub slots : List Slot
  pub decodes : decode words ≡ Some slots
  pub entries : (name : Name) → option_map named_of (find slots name) ≡ named d name

-- a live segment of level 8 with this length and guard
abbrev pub IsLive : System → ℕ → ℕ → ℕ → Type 0
IsLive y u len guard = (r : SegRow) × (at y.levels.segs.segments u ≡ Some r) × (r.len ≡ len) × (r.guard.0 ≡ guard)

pub record StandsFor (y : System) (f : Flat) : Type 0 where
  -- these are the same
  pub next : y.levels.next ≡ f.next
  pub codes : y.levels.codes ≡ f.codes
  pub boxes : y.levels.boxes ≡ f.boxes
  pub life : y.levels.life ≡ f.life
  pub types : y.levels.types.types ≡ f.types
  pub windows : y.levels.segs.windows ≡ f.windows
  pub users : y.users ≡ f.users
  -- the directories with their guards, and the objects and directories with their representations
  pub dirs : (u : ℕ) → at y.levels.dirs u ≡ option_map (λ (d : Directory). d.guard) (at f.dirs u)
  pub objects : (u : ℕ) → at y.levels.types.objects u ≡ object_row (at f.objects u) (at f.dirs u)
  -- the live segments of level 8 are the flat segments and the representations of directories
  pub segments : (u : ℕ) (s : Segment) → at f.segments u ≡ Some s → IsLive y u (length s.words) s.guard.0
  pub reps : (u : ℕ) (d : Directory) → at f.dirs u ≡ Some d → IsLive y d.rep MOST_WORDS d.guard.0
  pub no_other : (u : ℕ) (r : SegRow) → at y.levels.segs.segments u ≡ Some r
      → ((s : Segment) × (at f.segments u ≡ Some s)) ⊎ ((v : ℕ) × ((d : Directory) × (at f.dirs v ≡ Some d) × (d.rep ≡ u)))
  -- live segments have different slots, and these are exactly the taken slots
  pub apart : (u v : ℕ) (r t : SegRow) → at y.levels.segs.segments u ≡ Some r → at y.levels.segs.segments v ≡ Some t → r.slot ≡ t.slot → u ≡ v
  pub taken : (u : ℕ) (r : SegRow) → at y.levels.segs.segments u ≡ Some r → IsTaken y.levels.pages r.slot × (length (slot_words y.levels.pages r.slot) ≡ MOST_WORDS)
  pub used : (slot : ℕ) → IsTaken y.levels.pages slot → (u : ℕ) × ((r : SegRow) × (at y.levels.segs.segments u ≡ Some r) × (r.slot ≡ slot))
  pub slots : length y.levels.pages ≡ SLOTS
  -- the words of the flat segments, and the entries of the directories
  pub words : (u : ℕ) (s : Segment) → at f.segments u ≡ Some s → (i : ℕ) → i < length s.words → word_at (stored y u) i ≡ word_at s.words i
  pub entries : (u : ℕ) (d : Directory) → at f.dirs u ≡ Some d → HoldsEntries (stored y d.rep) d
