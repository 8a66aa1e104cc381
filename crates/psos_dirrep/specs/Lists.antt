-- How words are tested to be an entry list. States docs/system.md, "Words in blocks and directories".
use Rattle.std.specs.Prelude.{ℕ, ◌+◌, ◌*◌, ◌==◌, ◌||◌, ◌≤◌, Bool, false, List, length, Option, Some, None, if◌then◌else◌}
use Rattle.psos_words.specs.declared.word.Word.{Word}
use Rattle.psos_words.specs.declared.word.Word.TheVariants.{Data}
use Rattle.psos_words.specs.Words.{word_at}
use Rattle.psos_words.specs.Directory.{Slot, name_from, same_name, are_never, are_in_order}
use Rattle.psos_dirrep.specs.Pages.{words_of, ArePages}

-- at most eight pages, and a place among their slots or at their end
pub record FromSlot (pages : List (List Word)) (g : ℕ) : Type 0 where
  pub are : ArePages pages
  pub few : length pages ≤ 8
  pub within : g ≤ 16 * length pages

-- slots are in order, where one before them was never used, or none
abbrev pub order_from : Bool → List Slot → Bool
order_from ended slots = if ended then are_never slots else are_in_order slots

-- the two numbers of a used slot's name, by its first three words
abbrev pub used_halves : Word → Word → Word → Option (ℕ × ℕ)
used_halves (Data mark) (Data h) (Data l) = if (mark == 1) || (mark == 2) then Some (h, l) else None
used_halves _ _ _ = None

-- the same of slot g
abbrev pub halves_at : List (List Word) → ℕ → Option (ℕ × ℕ)
halves_at pages g = used_halves (word_at (words_of pages) (4 * g)) (word_at (words_of pages) (4 * g + 1)) (word_at (words_of pages) (4 * g + 2))

-- the slot is used and has the name of these two numbers
abbrev pub is_named : Option (ℕ × ℕ) → ℕ → ℕ → Bool
is_named None high low = false
is_named (Some p) high low = same_name (name_from p.0 p.1) (name_from high low)
