-- Directories page by page. States docs/levels.md, "Directories in words".
use Rattle.std.specs.Prelude.{◌≡◌, ℕ, ◌+◌, ◌*◌, List, [], ◌∷◌, length, Option, Some, None, option_map, if◌then◌else◌, nat_lt, IsTrue, Bool, true, false}
use Rattle.std.specs.List.{flat_map, AllByRecursion}
use Rattle.std.specs.Option.{unwrap_or}
use Rattle.psos_limits.specs.declared.TheConstants.{MOST_ENTRIES}
use Rattle.psos_text.specs.declared.name.Name.{Name}
use Rattle.psos_words.specs.declared.word.Word.{Word}
use Rattle.psos_words.specs.Directory.{Slot, Never, Gone, Used, Found, slots_of, are_in_order, find, slot_for}

-- the words of pages, in order
abbrev pub words_of : List (List Word) → List Word
words_of pages = flat_map (λ p. p) pages

-- the slots of words, where all of them are slots
abbrev pub slots_in : List Word → List Slot
slots_in words = unwrap_or (slots_of words) []

-- all words are slots, and nothing used stands after one that was never used
pub record AreSlots (words : List Word) : Type 0 where
  pub slots : slots_of words ≡ Some (slots_in words)
  pub in_order : IsTrue (are_in_order (slots_in words))

-- each of them has 64 words
abbrev pub ArePages : List (List Word) → Type 0
ArePages pages = AllByRecursion (λ page. length page ≡ 64) pages

-- the first, or where it is none the other
abbrev pub or_else : {X : Type 0} → Option X → Option X → Option X
or_else None other = other
or_else (Some x) other = Some x

-- what is found k slots later
abbrev pub moved : ℕ → Found → Found
moved k f = record { slot = k + f.slot; entry = f.entry }

-- the entry of this name on pages, of which the first begins with slot k
abbrev pub find_on : ℕ → List (List Word) → Name → Option Found
find_on k [] name = None
find_on k (page ∷ rest) name = or_else (option_map (moved k) (find (slots_in page) name)) (find_on (k + 16) rest name)

-- the least slot that is not used on pages, of which the first begins with slot k
abbrev pub slot_on : ℕ → List (List Word) → Option ℕ
slot_on k [] = None
slot_on k (page ∷ rest) = or_else (option_map (λ i. k + i) (slot_for (slots_in page))) (slot_on (k + 16) rest)

-- the last of 128 slots is never an entry's
abbrev pub entry_slot : Option ℕ → Option ℕ
entry_slot None = None
entry_slot (Some k) = if nat_lt k MOST_ENTRIES then Some k else None

-- the slot behind so many pages, where there are fewer than eight
abbrev pub behind : List (List Word) → Option ℕ
behind pages = if nat_lt (length pages) 8 then Some (16 * length pages) else None

-- the slot was never used
abbrev pub was_never : Slot → Bool
was_never Never = true
was_never Gone = false
was_never (Used e) = false
