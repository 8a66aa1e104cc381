-- The flat state: the system as its users see it. States docs/system.md, "The flat state".
pub mod Rows
pub mod Codes
pub mod Places
pub mod Changes
pub mod Safe
pub mod Undo
pub mod Within
pub mod Boot
use Rattle.std.specs.Prelude.{ℕ, List, [], length, Option}
use Rattle.std.specs.FinMap.{FinMap, get}
use Rattle.std.specs.Option.{option_map}
use Rattle.psos_table.specs.Table.{at}
use Rattle.psos_text.specs.declared.name.Name.{Name}
use Rattle.psos_words.specs.declared.word.Word.{Word}
use Rattle.psos_calls.specs.Language.Names.{name_cmp}
use Rattle.psos_calls.specs.Language.Tests.{if_there}
use Rattle.psos_calls.specs.Language.Views.{Shape, View, view_in}
use Rattle.psos_model.specs.Flat.Rows as rows
use Rattle.psos_model.specs.declared.object.Object as object
use Rattle.psos_model.specs.declared.named.Named as entry
use Rattle.psos_model.specs.declared.directory.Directory as directory
use Rattle.psos_model.specs.declared.flat.Flat as state

-- a segment: its words and its guard
abbrev pub Segment : Type 0
Segment = rows.Segment

-- an object: its type and its representation, which is a segment
abbrev pub Object : Type 0
Object = object.Object

-- what a name stands for in a directory, and whether it is the distinguished entry of that
abbrev pub Named : Type 0
Named = entry.Named

abbrev pub Names : Type 0
Names = FinMap name_cmp Named

-- a directory: its guard, its representation, and its entries by name
abbrev pub Directory : Type 0
Directory = directory.Directory

-- the next identifier; what is live, by identifier; and the users in the order of the script
abbrev pub Flat : Type 0
Flat = state.Flat

-- ---- reading it

abbrev pub flat_shape : Segment → Shape
flat_shape s = record { len = length s.words; guard = s.guard }

abbrev pub flat_shapes : Flat → ℕ → Option Shape
flat_shapes f u = option_map flat_shape (at f.segments u)

-- the words that a segment or a window leads to
abbrev pub flat_view : Flat → ℕ → Option View
flat_view f u = view_in (flat_shapes f) (at f.windows) u

-- the words of a segment, and none where it is not live
abbrev pub words_of : Flat → ℕ → List Word
words_of f u = if_there (at f.segments u) [] (λ s. s.words)

-- what a name stands for in a directory
abbrev pub named : Directory → Name → Option Named
named d name = get d.names name
