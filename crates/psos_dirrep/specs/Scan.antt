-- How a page is searched, by its words. States docs/levels.md, "Directories in words".
use Rattle.std.specs.Prelude.{ℕ, ◌+◌, ◌==◌, Bool, true, false, List, ◌∷◌, Option, Some, None, if◌then◌else◌}
use Rattle.psos_words.specs.declared.word.Word.{Word}
use Rattle.psos_words.specs.declared.word.Word.TheVariants.{Data, Cap}
use Rattle.psos_words.specs.Directory.{name_from, same_name}
use Rattle.psos_dirrep.specs.declared.found.Found.{Found}

-- the name that two words of a slot are is the name that these two numbers are
abbrev pub has_halves : ℕ → ℕ → Word → Word → Bool
has_halves high low (Data h) (Data l) = same_name (name_from h l) (name_from high low)
has_halves high low _ _ = false

-- the entry in slot k, by the first and the last of its words
abbrev pub entry_at : ℕ → Word → Word → Option Found
entry_at k (Data mark) (Cap cap) = Some (record { slot = k; cap = cap; kept = (mark == 2) })
entry_at k _ _ = None

-- the entry whose name has these two numbers, among words that begin with slot k
abbrev pub scan : ℕ → ℕ → ℕ → List Word → Option Found
scan k high low (a ∷ b ∷ c ∷ d ∷ rest) = if has_halves high low b c then entry_at k a d else scan (k + 1) high low rest
scan k high low _ = None

-- the first word of a slot that was never used
abbrev pub is_never : Word → Bool
is_never (Data mark) = mark == 0
is_never (Cap cap) = false

-- the last word of a slot that holds no entry
abbrev pub holds_none : Word → Bool
holds_none (Data n) = true
holds_none (Cap cap) = false

-- the least slot that holds no entry, among words that begin with slot k
abbrev pub scan_free : ℕ → List Word → Option ℕ
scan_free k (a ∷ b ∷ c ∷ d ∷ rest) = if holds_none d then Some k else scan_free (k + 1) rest
scan_free k _ = None
