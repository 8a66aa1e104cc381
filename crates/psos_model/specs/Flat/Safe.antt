-- Changes that are made wholly, or not at all.
use Rattle.std.specs.Prelude.{ℕ, ◌+◌, Bool, true, false, ◌&&◌, ◌||◌, List, [], ◌∷◌}
use Rattle.std.specs.List.{list_all}
use Rattle.psos_model.specs.declared.change.Change.{Change}
use Rattle.psos_model.specs.declared.change.Change.TheVariants.{Fresh, PutWord, Unbind, Register, Unregister, Draw, MakeSegment, MakeWindow, MakeType, MakeObject, MakeDirectory, MakeCode, DropSegment, DropType, DropObject, DropDirectory, DropCode}

-- the change takes no memory
abbrev pub is_sure : Change → Bool
is_sure Fresh = true
is_sure (PutWord u i w) = true
is_sure (Unbind d name) = true
is_sure (Unregister o d name) = true
is_sure (Draw b) = true
is_sure (DropSegment u) = true
is_sure (DropType u) = true
is_sure (DropObject u rep) = true
is_sure (DropDirectory u) = true
is_sure (DropCode u) = true
is_sure _ = false

-- something is made
abbrev pub is_making : Change → Bool
is_making (MakeSegment u len guard) = true
is_making (MakeWindow u row) = true
is_making (MakeType u) = true
is_making (MakeObject u o len) = true
is_making (MakeDirectory u rep guard) = true
is_making (MakeCode u row) = true
is_making _ = false

-- something is made, and no directory
abbrev pub is_apart : Change → Bool
is_apart (MakeSegment u len guard) = true
is_apart (MakeWindow u row) = true
is_apart (MakeType u) = true
is_apart (MakeObject u o len) = true
is_apart (MakeCode u row) = true
is_apart _ = false

-- a user object is told of, and no change after that takes memory
abbrev pub is_told : List Change → Bool
is_told (Register o d name kind ∷ rest) = list_all is_sure rest
is_told _ = false

-- no change after the first takes memory, but a `Register` straight after a making
abbrev pub is_safe : List Change → Bool
is_safe [] = true
is_safe (c ∷ rest) = list_all is_sure rest || (is_making c && is_told rest)

-- how many identifiers a change uses up
abbrev pub used : Change → ℕ
used Fresh = 1
used _ = 0

abbrev pub used_by : List Change → ℕ
used_by [] = 0
used_by (c ∷ rest) = used c + used_by rest
