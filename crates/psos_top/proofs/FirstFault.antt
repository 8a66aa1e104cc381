-- The first fault of what was read is the first fault of the whole input.
use Rattle.std.proofs.Common.{◌≡◌, ℕ, ◌<◌, ◌≤◌, Bool, cond, List, [], ◌++◌, length, Option, Some, None, sym, ap, ◌∙◌, subst, arith, inl, inr, ◌⊎◌, append-nil, length-append}
use Rattle.std.specs.Io.KnownBytes.{Consumes, IsAtEnd}
use Rattle.std.proofs.lemmas.Bool.{lt-ltb, cases_lt}
use Rattle.psos_calls.specs.Language.Script.{Script}
use Rattle.psos_model.specs.Text.Spelling.{IsScript}
use Rattle.psos_script.specs.declared.cause.Cause.{Cause}
use Rattle.psos_script.specs.declared.cause.Cause.TheVariants as C
use Rattle.psos_script.specs.Fault.{fault_of, fault_from}
use Rattle.psos_text.specs.Lines.{lines_of}
use Rattle.psos_top.specs.Outcome.{IsFaulty}

-- what is too long is that before all else
too_long : (xs : List ℕ) → 1048577 ≤ length xs → fault_of xs ≡ Some (0, C.InputTooLong)
unfolding fault_of
too_long xs h = ap (λ (b : Bool). cond b (Some (0, C.InputTooLong)) (fault_from 1 [] (lines_of xs))) (lt-ltb 1048576 (length xs) (omega arith))

whole : (xs bytes rest : List ℕ) (line : ℕ) (cause : Cause) → xs ≡ bytes ++ rest → (length bytes < 1048577 → rest ≡ []) → fault_of bytes ≡ Some (line, cause)
    → ((s : Script) → IsScript bytes s → ⊥) → (fault_of xs ≡ Some (line, cause)) × ((s : Script) → IsScript xs s → ⊥)
whole xs bytes rest line cause is end fault none = by_length (cases_lt (length bytes) 1048577)
  where
    by_length : (length bytes < 1048577) ⊎ (1048577 ≤ length bytes) → (fault_of xs ≡ Some (line, cause)) × ((s : Script) → IsScript xs s → ⊥)
    by_length (inl few) =
        let same : xs ≡ bytes = is ∙ ap (λ (ys : List ℕ). bytes ++ ys) (end few) ∙ append-nil bytes in
        (ap fault_of same ∙ fault, λ s h. let P : List ℕ → Type 0 = λ ys. IsScript ys s in none s (subst P same h))
    by_length (inr many) =
        let long : 1048577 ≤ length xs = omega (arith, ap (λ (ys : List ℕ). length ys) is, length-append bytes rest) in
        (too_long xs long ∙ sym (too_long bytes many) ∙ fault, λ s h. absurd (omega (arith, h.short)))

-- the first fault of an input, of which these bytes were read
pub stands : (input now : Option (List ℕ)) (bytes : List ℕ) (line : ℕ) (cause : Cause) → Consumes input now bytes → (length bytes < 1048577 → IsAtEnd now)
    → fault_of bytes ≡ Some (line, cause) → ((s : Script) → IsScript bytes s → ⊥) → IsFaulty input line cause
stands None now bytes line cause read end fault none = record { first = tt; none = tt }
stands (Some xs) None bytes line cause read end fault none = absurd read
stands (Some xs) (Some rest) bytes line cause read end fault none =
    let r = whole xs bytes rest line cause read end fault none in
    record { first = r.0; none = r.1 }
