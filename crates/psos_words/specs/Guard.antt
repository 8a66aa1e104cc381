-- Guards of stores. States docs/system.md, "Stores and guards".
use Rattle.std.specs.Prelude.{ℕ, ◌==◌, ◌&&◌, Bool, not, Option, Some, None, if◌then◌else◌}
use Rattle.std.specs.Int.{bit_at}
use Rattle.psos_words.specs.declared.word.Word.{Word}
use Rattle.psos_words.specs.declared.word.Word.TheVariants.{Data, Cap}

-- rights, or a guard, have this bit
abbrev pub has_bit : ℕ → ℕ → Bool
has_bit rights bit = bit_at rights bit == 1

-- the guard has a bit that the rights lack
abbrev pub lacks_bit : ℕ → ℕ → ℕ → Bool
lacks_bit guard rights bit = has_bit guard bit && not (has_bit rights bit)

-- the least of the bits 0 to 2 of the guard that the rights lack
abbrev pub missing : ℕ → ℕ → Option ℕ
missing guard rights =
    if lacks_bit guard rights 0 then Some 0 else
    if lacks_bit guard rights 1 then Some 1 else
    if lacks_bit guard rights 2 then Some 2 else None

-- why a store with this guard does not take a word: data always passes
abbrev pub barred : ℕ → Word → Option ℕ
barred guard (Data n) = None
barred guard (Cap cap) = missing guard cap.rights
