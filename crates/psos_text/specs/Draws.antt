-- The generator of draws. States docs/program.md, "Turns".
use Rattle.std.specs.Prelude.{ℕ, zero, suc, ◌+◌, ◌*◌, ◌%◌}

-- where a seed begins
abbrev pub first_draw : ℕ → ℕ
first_draw seed = seed % 65536

-- the value that is drawn after x
abbrev pub next_draw : ℕ → ℕ
next_draw x = (75 * x + 74) % 65537

-- the last of so many draws after x
abbrev pub draws : ℕ → ℕ → ℕ
draws zero x = x
draws (suc n) x = draws n (next_draw x)
