-- A text that is written before others.
use Rattle.std.proofs.Common.{◌≡◌, ℕ, ◌+◌, ◌-◌, ◌≤◌, List, ◌++◌, length, take, drop, ap, ◌∙◌, arith}
use Rattle.std.proofs.lemmas.List.{drop_at, drop-drop, length-take-le}

-- what stands from the text on
pub text_before : (bytes put text : List ℕ) (end n : ℕ) → put ≡ text → n ≡ length text → n ≤ end → end ≤ length bytes
    → drop (end - n) (take (end - n) bytes ++ (put ++ drop (end - (end - n)) (drop (end - n) bytes))) ≡ text ++ drop end bytes
text_before bytes put text end n is long h few =
    let at = end - n in
    let sum : at + (end - at) ≡ end = omega (arith, h) in
    drop_at (take at bytes) _ at (length-take-le at bytes (omega (arith, few)))
    ∙ ap (λ l. l ++ drop (end - at) (drop at bytes)) is
    ∙ ap (λ l. text ++ l) (drop-drop (end - at) at bytes ∙ ap (λ k. drop k bytes) sum)
