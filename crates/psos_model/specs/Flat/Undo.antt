-- What takes a change back.
use Rattle.std.specs.Prelude.{ℕ, Bool, true, false, Option, Some, None}
use Rattle.std.specs.Option.{option_and_then}
use Rattle.psos_table.specs.Table.{Table, at, put, without, edit}
use Rattle.psos_text.specs.declared.name.Name.{Name}
use Rattle.psos_calls.specs.declared.kind.Kind.{Kind}
use Rattle.psos_model.specs.Flat.{Flat, Directory, Named, named}
use Rattle.psos_model.specs.Flat.Changes.{with_entry, without_entry}

-- the table with the row under k as it was
abbrev pub put_back : {X : Type 0} → Table X → ℕ → Option X → Table X
put_back m k None = without m k
put_back m k (Some x) = put m k x

-- the directory with the entry of a name as it was
abbrev pub entry_back : Name → Option Named → Directory → Directory
entry_back name None d = without_entry name d
entry_back name (Some e) d = with_entry name e d

-- what a name stands for in a directory, if that lives
abbrev pub entry_at : Table Directory → ℕ → Name → Option Named
entry_at dirs u name = option_and_then (λ (d : Directory). named d name) (at dirs u)

-- the state with a user object, and its entry in a directory, as they were
abbrev pub taken_back : Flat → ℕ → ℕ → Name → Option Kind → Option Named → Flat
taken_back f u d name kind entry = record f { dirs = edit f.dirs d (entry_back name entry); life = put_back f.life u kind }

-- a directory that is made, and has an entry if that goes to it
abbrev pub first_entry : Bool → Name → Named → Directory → Directory
first_entry true name e x = with_entry name e x
first_entry false name e x = x
