-- Changes of what users share. States docs/requests.md, "Answers".
use Rattle.std.specs.Prelude.{ℕ, ◌+◌, true, false, List, [], ◌∷◌, ◌++◌, drop, slice_set}
use Rattle.std.specs.FinMap.{insert, remove, empty}
use Rattle.psos_table.specs.Table.{Table, put, without, kept, edit}
use Rattle.psos_caps.specs.Capability.{full}
use Rattle.psos_caps.specs.declared.rights.Rights.{Rights}
use Rattle.psos_text.specs.declared.name.Name.{Name}
use Rattle.psos_words.specs.Words.{zeros}
use Rattle.psos_calls.specs.declared.win_row.WinRow.{WinRow}
use Rattle.psos_calls.specs.Language.Views.{is_not_over}
use Rattle.psos_model.specs.Flat.{Flat, Segment, Directory, Named}
use Rattle.psos_model.specs.declared.change.Change.{Change}
use Rattle.psos_model.specs.declared.change.Change.TheVariants.{Fresh, PutWord, Bind, Unbind, Register, Unregister, Post, Draw, MakeSegment, MakeWindow, MakeType, MakeObject, MakeDirectory, MakeCode, DropSegment, DropType, DropObject, DropDirectory, DropCode}

-- so many words of data 0
abbrev pub new_segment : ℕ → Rights → Segment
new_segment len guard = record { words = zeros len; guard = guard }

-- the entry that keeps a user object
abbrev pub kept_entry : ℕ → Named
kept_entry u = record { cap = full u; kept = true }

-- a directory with one entry more, or one fewer
abbrev pub with_entry : Name → Named → Directory → Directory
with_entry name e d = record d { names = insert d.names name e }

abbrev pub without_entry : Name → Directory → Directory
without_entry name d = record d { names = remove d.names name }

-- the windows that are not over a segment
abbrev pub windows_but : Flat → ℕ → Table WinRow
windows_but f u = kept (is_not_over u) f.windows

abbrev pub changed : Flat → Change → Flat
changed f Fresh = record f { next = f.next + 1 }
changed f (PutWord u i w) = record f { segments = edit f.segments u (λ s. record s { words = slice_set s.words i w }) }
changed f (Bind d name cap) = record f { dirs = edit f.dirs d (with_entry name (record { cap = cap; kept = false })) }
changed f (Unbind d name) = record f { dirs = edit f.dirs d (without_entry name) }
changed f (Register o d name kind) = record f { dirs = edit f.dirs d (with_entry name (kept_entry o)); life = put f.life o kind }
changed f (Unregister o d name) = record f { dirs = edit f.dirs d (without_entry name); life = without f.life o }
changed f (Post b w) = record f { boxes = edit f.boxes b (λ box. box ++ w ∷ []) }
changed f (Draw b) = record f { boxes = edit f.boxes b (drop 1) }
changed f (MakeSegment u len guard) = record f { segments = put f.segments u (new_segment len guard) }
changed f (MakeWindow u row) = record f { windows = put f.windows u row }
changed f (MakeType u) = record f { types = put f.types u true }
changed f (MakeObject u o len) = record f { objects = put f.objects u o; segments = put f.segments o.rep (new_segment len (record { 0 = 1 })) }
changed f (MakeDirectory u rep guard) = record f { dirs = put f.dirs u (record { guard = guard; rep = rep; names = empty }) }
changed f (MakeCode u row) = record f { codes = put f.codes u row }
changed f (DropSegment u) = record f { segments = without f.segments u; windows = windows_but f u }
changed f (DropType u) = record f { types = without f.types u }
changed f (DropObject u rep) = record f { objects = without f.objects u; segments = without f.segments rep; windows = windows_but f rep }
changed f (DropDirectory u) = record f { dirs = without f.dirs u }
changed f (DropCode u) = record f { codes = without f.codes u }

-- one change after another
abbrev pub changed_all : Flat → List Change → Flat
changed_all f [] = f
changed_all f (c ∷ rest) = changed_all (changed f c) rest
