-- The names on pages, collected in order. States docs/requests.md, "Answers".
use Rattle.std.specs.Prelude.{◌&&◌, Bool, true, List, [], ◌∷◌, Option, Some, None, IsTrue}
use Rattle.std.specs.BTreeSet.{insert_key}
use Rattle.psos_text.specs.declared.name.Name.{Name}
use Rattle.psos_words.specs.declared.word.Word.{Word}
use Rattle.psos_words.specs.declared.word.Word.TheVariants.{Data, Cap}
use Rattle.psos_words.specs.Directory.{Slot, Never, Gone, Used, entries_in, name_from, is_filled_name}
use Rattle.psos_dirrep.specs.Pages.{slots_in}
use Rattle.psos_calls.specs.Language.Names.{name_cmp}
use Rattle.psos_calls.specs.Plan.Objects.{no_entry}

-- the name in a slot, if it is used
abbrev pub name_in : Slot → Option Name
name_in Never = None
name_in Gone = None
name_in (Used e) = Some e.name

-- the name by the last three words of a slot, if it is used
abbrev pub read_name : Word → Word → Word → Option Name
read_name (Data high) (Data low) (Cap cap) = Some (name_from high low)
read_name _ _ _ = None

-- where these are a used slot's, the two numbers are those of a name
abbrev pub IsNamed : Word → Word → Word → Type 0
IsNamed (Data high) (Data low) (Cap cap) = IsTrue (is_filled_name (name_from high low))
IsNamed _ _ _ = Unit {0}

-- names in order, with one more
abbrev pub with_name : Option Name → List Name → List Name
with_name None names = names
with_name (Some name) names = insert_key name_cmp names name

-- and with those of slots, the last first
abbrev pub with_names : List Slot → List Name → List Name
with_names [] names = names
with_names (slot ∷ rest) names = with_name (name_in slot) (with_names rest names)

-- the names on pages
abbrev pub collected : List (List Word) → List Name
collected [] = []
collected (page ∷ rest) = with_names (slots_in page) (collected rest)

-- no slot on pages is used
abbrev pub none_used : List (List Word) → Bool
none_used [] = true
none_used (page ∷ rest) = no_entry (entries_in (slots_in page)) && none_used rest
