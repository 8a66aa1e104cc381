-- Names in order. States docs/requests.md, "Answers".
use Rattle.std.specs.Prelude.{List, [], ◌∷◌, map}
use Rattle.std.specs.declared.cmp.Ordering.{Ordering}
use Rattle.std.specs.declared.cmp.Ordering.TheVariants.{Greater}
use Rattle.std.specs.Ordering.{nat_cmp}
use Rattle.std.specs.Cmp.Lexicographic.{slice_cmp}
use Rattle.psos_text.specs.declared.name.Name.{Name}
use Rattle.psos_words.specs.Directory.{Entry}

-- the order of two names is that of their bytes
abbrev pub name_cmp : Name → Name → Ordering
name_cmp a b = slice_cmp nat_cmp a.bytes b.bytes

abbrev pub put_before : Ordering → Name → Name → List Name → List Name → List Name
put_before Greater name first others longer = longer
put_before _ name first others longer = name ∷ first ∷ others

-- a name goes among others in ascending order
abbrev pub among : Name → List Name → List Name
among name [] = name ∷ []
among name (first ∷ others) = put_before (name_cmp name first) name first others (first ∷ among name others)

-- names in ascending order
abbrev pub in_order : List Name → List Name
in_order [] = []
in_order (name ∷ names) = among name (in_order names)

-- the names of entries, in ascending order
abbrev pub names_of : List Entry → List Name
names_of entries = in_order (map (λ (e : Entry). e.name) entries)
