-- The script that a seed makes. States docs/program.md, "Load".
use Rattle.std.specs.Prelude.{ℕ, zero, suc, ◌+◌, ◌/◌, ◌%◌, ◌==◌, if◌then◌else◌, List, [], ◌∷◌, ◌++◌, codes, decimal}
use Rattle.psos_text.specs.Draws.{first_draw, next_draw, draws}
use Rattle.psos_text.specs.Name.{name_of}
use Rattle.psos_calls.specs.declared.request.Request.{Request}
use Rattle.psos_calls.specs.declared.request.Request.TheVariants.{Mint, Restrict, Set, Read, Write, Lookup, MkSeg, Delete}
use Rattle.psos_calls.specs.Language.Script.{UserScript, Script}

-- the request of a draw x, by its low three bits; w is a word of 64, k one of twenty names
abbrev pub made_request : ℕ → ℕ → ℕ → Request
made_request x w k =
    if x % 8 == 0 then Mint 4 else
    if x % 8 == 1 then Restrict 5 4 (record { 0 = x }) else
    if x % 8 == 2 then Set 6 x else
    if x % 8 == 3 then Write 3 w 2 else
    if x % 8 == 4 then Read 7 3 w else
    if x % 8 == 5 then MkSeg 8 2 (name_of (codes "n" ++ decimal k)) 1 0 else
    if x % 8 == 6 then Delete 2 (name_of (codes "n" ++ decimal k)) else
    Lookup 9 2 (name_of (codes "n" ++ decimal k))

-- so many requests, for the draws after x
abbrev pub made_requests : ℕ → ℕ → List Request
made_requests zero x = []
made_requests (suc n) x = made_request (next_draw x) (next_draw x / 8 % 64) (next_draw x / 8 % 20) ∷ made_requests n (next_draw x)

-- so many users with one phase each, counted from u, for the draws after x
abbrev pub made_users : ℕ → ℕ → ℕ → ℕ → List UserScript
made_users zero lines u x = []
made_users (suc n) lines u x = record { name = codes "u" ++ decimal u; phases = made_requests lines x ∷ [] } ∷ made_users n lines (u + 1) (draws lines x)

abbrev pub made_script : ℕ → ℕ → ℕ → Script
made_script users lines seed = record { users = made_users users lines 0 (first_draw seed); codes = [] }
