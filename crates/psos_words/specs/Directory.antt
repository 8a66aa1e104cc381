-- Directories in the words of their representations. States docs/system.md, "Words in blocks and directories".
use Rattle.std.specs.Prelude.{ℕ, ◌+◌, ◌-◌, ◌==◌, ◌&&◌, Bool, true, false, not, List, [], ◌∷◌, ◌++◌, take, drop, length, Option, Some, None, option_map, if◌then◌else◌}
use Rattle.std.specs.Int.{w64, to_be_bytes, from_be_bytes}
use Rattle.std.specs.List.{list_any}
use Rattle.std.specs.Option.{option_and_then}
use Rattle.std.specs.Str.{bytes_eq}
use Rattle.psos_limits.specs.declared.TheConstants.{MOST_WORDS, MOST_ENTRIES}
use Rattle.psos_caps.specs.Capability.{Capability}
use Rattle.psos_text.specs.declared.name.Name.{Name}
use Rattle.psos_text.specs.Name.{is_name, name_text, padded}
use Rattle.psos_words.specs.declared.word.Word.{Word}
use Rattle.psos_words.specs.declared.word.Word.TheVariants.{Data, Cap}
use Rattle.psos_words.specs.Words.{zeros}

-- an entry: its name, its capability, and whether it is the distinguished one of what it names
pub record Entry : Type 0 where
  pub name : Name
  pub cap : Capability
  pub kept : Bool

-- an entry slot was never used, or was used and is free, or holds an entry
pub data Slot : Type 0 where
  Never : Slot
  Gone : Slot
  Used : Entry → Slot

-- ---- what is written

-- the 16 bytes of a name as two numbers, the first byte the highest
abbrev pub name_high : Name → ℕ
name_high name = from_be_bytes w64 (take 8 name.bytes)

abbrev pub name_low : Name → ℕ
name_low name = from_be_bytes w64 (drop 8 name.bytes)

-- data 1 marks a plain entry, data 2 a distinguished one
abbrev pub mark_of : Bool → ℕ
mark_of kept = if kept then 2 else 1

-- the four words of an entry
abbrev pub entry_words : Name → Capability → Bool → List Word
entry_words name cap kept = Data (mark_of kept) ∷ Data (name_high name) ∷ Data (name_low name) ∷ Cap cap ∷ []

-- the four words of a slot that was used and is free
abbrev pub gone_words : List Word
gone_words = Data 3 ∷ zeros 3

-- ---- what is read

-- the name whose bytes are these two numbers
abbrev pub name_from : ℕ → ℕ → Name
name_from high low = record { bytes = to_be_bytes w64 high ++ to_be_bytes w64 low }

-- a name, and nothing but zeros behind its text
abbrev pub is_filled_name : Name → Bool
is_filled_name name = is_name (name_text name) && bytes_eq name.bytes (padded 16 (name_text name))

abbrev pub used_slot : Name → Capability → Bool → Option Slot
used_slot name cap kept = if is_filled_name name then Some (Used (record { name = name; cap = cap; kept = kept })) else None

-- a slot by its mark, its two numbers and its last word, if they are one
abbrev pub marked_slot : ℕ → ℕ → ℕ → Word → Option Slot
marked_slot mark high low (Data n) =
    if (high == 0) && (low == 0) && (n == 0) then (if mark == 0 then Some Never else if mark == 3 then Some Gone else None) else None
marked_slot mark high low (Cap cap) =
    if mark == 1 then used_slot (name_from high low) cap false else if mark == 2 then used_slot (name_from high low) cap true else None

-- a slot by its four words, if they are one
abbrev pub slot_of : Word → Word → Word → Word → Option Slot
slot_of (Data mark) (Data high) (Data low) last = marked_slot mark high low last
slot_of _ _ _ _ = None

-- the slots of words, four by four, if all of them are
unfoldable pub slots_of : List Word → Option (List Slot)
slots_of [] = Some []
slots_of (a ∷ []) = None
slots_of (a ∷ b ∷ []) = None
slots_of (a ∷ b ∷ c ∷ []) = None
slots_of (a ∷ b ∷ c ∷ d ∷ rest) = option_and_then (λ slot. option_map (λ slots. slot ∷ slots) (slots_of rest)) (slot_of a b c d)

-- ---- which words are an entry list

abbrev pub are_never : List Slot → Bool
are_never [] = true
are_never (Never ∷ rest) = are_never rest
are_never (Gone ∷ rest) = false
are_never (Used e ∷ rest) = false

-- no slot after one that was never used is anything but never used
abbrev pub are_in_order : List Slot → Bool
are_in_order [] = true
are_in_order (Never ∷ rest) = are_never rest
are_in_order (Gone ∷ rest) = are_in_order rest
are_in_order (Used e ∷ rest) = are_in_order rest

abbrev pub same_name : Name → Name → Bool
same_name a b = bytes_eq a.bytes b.bytes

-- the slot holds an entry of this name
abbrev pub has_name : Name → Slot → Bool
has_name name Never = false
has_name name Gone = false
has_name name (Used e) = same_name e.name name

-- no two entries have one name
abbrev pub are_apart : List Slot → Bool
are_apart [] = true
are_apart (Never ∷ rest) = are_apart rest
are_apart (Gone ∷ rest) = are_apart rest
are_apart (Used e ∷ rest) = not (list_any (has_name e.name) rest) && are_apart rest

-- the first 127 of 128 slots, of which the last was never used
abbrev pub entry_slots : List Slot → Option (List Slot)
entry_slots slots =
    if (length slots == 128) && are_never (drop MOST_ENTRIES slots) && are_in_order slots && are_apart slots then Some (take MOST_ENTRIES slots) else None

-- the 127 entry slots of a directory by its first words, where all words after them are data 0, if they are an entry list
unfoldable pub decode : List Word → Option (List Slot)
decode words = option_and_then entry_slots (slots_of (words ++ zeros (MOST_WORDS - length words)))

-- a page has a slot that was never used. (Its first word alone tells that.)
abbrev pub has_never : List Word → Bool
has_never (Data mark ∷ b ∷ c ∷ d ∷ rest) = if mark == 0 then true else has_never rest
has_never (Cap cap ∷ b ∷ c ∷ d ∷ rest) = has_never rest
has_never _ = false

-- ---- looking for a name, and for a place

-- an entry and its slot
pub record Found : Type 0 where
  pub slot : ℕ
  pub entry : Entry

abbrev pub found_here : ℕ → Name → Slot → Option Found → Option Found
found_here k name Never later = later
found_here k name Gone later = later
found_here k name (Used e) later = if same_name e.name name then Some (record { slot = k; entry = e }) else later

-- the entry of this name among the slots from number k on
abbrev pub find_from : ℕ → List Slot → Name → Option Found
find_from k [] name = None
find_from k (slot ∷ rest) name = found_here k name slot (find_from (k + 1) rest name)

abbrev pub find : List Slot → Name → Option Found
find slots name = find_from 0 slots name

-- the least slot that is not used, from number k on
abbrev pub free_from : ℕ → List Slot → Option ℕ
free_from k [] = None
free_from k (Never ∷ rest) = Some k
free_from k (Gone ∷ rest) = Some k
free_from k (Used e ∷ rest) = free_from (k + 1) rest

abbrev pub slot_for : List Slot → Option ℕ
slot_for slots = free_from 0 slots

-- the entries, in the order of their slots
abbrev pub entries_in : List Slot → List Entry
entries_in [] = []
entries_in (Never ∷ rest) = entries_in rest
entries_in (Gone ∷ rest) = entries_in rest
entries_in (Used e ∷ rest) = e ∷ entries_in rest
