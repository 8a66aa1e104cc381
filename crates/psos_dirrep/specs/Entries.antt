-- Entries as the program has them. States docs/system.md, "Words in blocks and directories".
use Rattle.std.specs.Prelude.{◌==◌, Option, Some, None, if◌then◌else◌}
use Rattle.psos_words.specs.declared.word.Word.{Word}
use Rattle.psos_words.specs.declared.word.Word.TheVariants.{Data, Cap}
use Rattle.psos_words.specs.Directory.{Slot, Never, Gone, Used, Found, name_from, is_filled_name}
use Rattle.psos_dirrep.specs.declared.dir_entry.DirEntry.{DirEntry}
use Rattle.psos_dirrep.specs.declared.found.Found as program

-- what is found: the slot, and what the entry says beside its name
abbrev pub as_found : Found → program.Found
as_found f = record { slot = f.slot; cap = f.entry.cap; kept = f.entry.kept }

-- the entry that a slot holds
abbrev pub entry_in : Slot → Option DirEntry
entry_in Never = None
entry_in Gone = None
entry_in (Used e) = Some (record { name = e.name; cap = e.cap; kept = e.kept })

-- the entry that four words are, if they are one
abbrev pub read_entry : Word → Word → Word → Word → Option DirEntry
read_entry (Data mark) (Data high) (Data low) (Cap cap) =
    if is_filled_name (name_from high low) then Some (record { name = name_from high low; cap = cap; kept = (mark == 2) }) else None
read_entry _ _ _ _ = None
