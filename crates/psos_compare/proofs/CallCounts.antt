-- The calls of one more entry.
use Rattle.std.proofs.Common.{◌≡◌, ◌+◌, List, [], ◌∷◌, ◌++◌, length, arith}
use Rattle.std.proofs.lemmas.List.Sums.{sum_by-append, sum_by-cons}
use Rattle.psos_calls.specs.declared.entry.Entry.{Entry}
use Rattle.psos_model.specs.Text.Output.{calls_of}

pub calls_with : (entries : List Entry) (e : Entry) → calls_of (entries ++ e ∷ []) ≡ calls_of entries + length e.steps
calls_with entries e =
    let last = sum_by-cons (λ (q : Entry). length q.steps) e [] in
    let whole = sum_by-append (λ (q : Entry). length q.steps) entries (e ∷ []) in
    omega arith
