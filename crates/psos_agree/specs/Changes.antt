-- Changes of the levels, as level calls make them. States docs/levels.md, "Calls".
use Rattle.std.specs.Prelude.{◌≡◌, ℕ, ◌+◌, ◌*◌, ◌/◌, ◌%◌, List, None, Some, slice_set}
use Rattle.psos_limits.specs.declared.TheConstants.{MOST_WORDS}
use Rattle.psos_caps.specs.Capability.{full}
use Rattle.psos_caps.specs.declared.rights.Rights.{Rights}
use Rattle.psos_table.specs.Table.{at, put, without, kept}
use Rattle.psos_words.specs.declared.word.Word.{Word}
use Rattle.psos_words.specs.Words.{zeros}
use Rattle.psos_words.specs.Directory.{Slot, decode}
use Rattle.psos_calls.specs.declared.level_call.LevelCall.TheVariants.{FourPut}
use Rattle.psos_calls.specs.Levels.Level7.{Pages, slot_words, first_free}
use Rattle.psos_calls.specs.Levels.Level8.{SegState, slot_of}
use Rattle.psos_calls.specs.Language.Views.{is_not_over}
use Rattle.psos_calls.specs.Levels.{Levels, act}
use Rattle.psos_calls.specs.Language.Capabilities.{uid}
use Rattle.psos_model.specs.Flat.{Flat, Segment, Object, Directory}
use Rattle.psos_model.specs.Replay.{System}

-- the levels with a segment made in the least free slot
abbrev pub made_segment : System → ℕ → ℕ → Rights → Levels
made_segment y u len guard = record y.levels {
  pages = slice_set y.levels.pages (first_free y.levels.pages) (Some (zeros MOST_WORDS));
  segs = record y.levels.segs { segments = put y.levels.segs.segments u (record { slot = first_free y.levels.pages; len = len; guard = guard }) };
}

-- the levels without a segment and the windows over it, and its slot free
abbrev pub gone_segment : System → ℕ → Levels
gone_segment y u = record y.levels {
  pages = slice_set y.levels.pages (slot_of y.levels.segs u) None;
  segs = record { segments = without y.levels.segs.segments u; windows = kept (is_not_over u) y.levels.segs.windows };
}

-- the levels with an object of a type, and its representation
abbrev pub made_object : System → ℕ → Object → ℕ → Levels
made_object y u o len = record (made_segment y o.rep len (record { 0 = 1 })) {
  types = record y.levels.types { objects = put y.levels.types.objects u (record { of = Some (uid o.of); rep = full o.rep }) };
}

-- the levels without an object, its representation and the windows over that
abbrev pub gone_object : System → ℕ → ℕ → Levels
gone_object y u rep = record (gone_segment y rep) { types = record y.levels.types { objects = without y.levels.types.objects u } }

-- the levels with a directory, and its representation of 512 words
abbrev pub made_directory : System → ℕ → ℕ → Rights → Levels
made_directory y u rep guard = record (made_segment y rep MOST_WORDS guard) {
  types = record y.levels.types { objects = put y.levels.types.objects u (record { of = None; rep = full rep }) };
  dirs = put y.levels.dirs u guard;
}

-- the levels without a directory and its representation
abbrev pub gone_directory : System → ℕ → ℕ → Levels
gone_directory y u rep = record (gone_segment y rep) {
  types = record y.levels.types { objects = without y.levels.types.objects u };
  dirs = without y.levels.dirs u;
}

-- the representation of a directory is no flat segment and represents no other directory
pub record IsAlone (f : Flat) (d : ℕ) (x : Directory) : Type 0 where
  pub segments : (u : ℕ) (t : Segment) → at f.segments u ≡ Some t → u ≡ x.rep → ⊥
  pub dirs : (v : ℕ) (r : Directory) → at f.dirs v ≡ Some r → r.rep ≡ x.rep → v ≡ d

-- the slot of a representation, and its entry slots
pub record HasRead (pages : Pages) (segs : SegState) (rep slot : ℕ) (slots : List Slot) : Type 0 where
  pub slot-is : slot_of segs rep ≡ slot
  pub decodes : decode (slot_words pages slot) ≡ Some slots

-- four words are written into entry slot k of a slot of pages
abbrev pub four_put : Levels → ℕ → ℕ → List Word → Levels
four_put l slot k words = (act l (FourPut (8 * slot + k / 16) (4 * (k % 16)) words)).0
