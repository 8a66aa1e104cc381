-- Rows of the flat state that code keeps in its own form. States docs/system.md, "The flat state".
use Rattle.std.specs.Prelude.{List}
use Rattle.psos_caps.specs.declared.rights.Rights.{Rights}
use Rattle.psos_words.specs.declared.word.Word.{Word}

-- a segment: its words and its guard
pub record Segment : Type 0 where
  pub words : List Word
  pub guard : Rights
