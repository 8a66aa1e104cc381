-- The entries that name a member.
use Rattle.std.proofs.Common.{◌≡◌, ℕ, ◌+◌, ◌==◌, Bool, true, false, cond, List, [], ◌∷◌, ◌++◌, length, refl, ap, sym, ◌∙◌, arith, length-append}
use Rattle.std.specs.Int.{bit_at}
use Rattle.std.proofs.lemmas.Bool.Decides.{nat_tests}
use Rattle.std.proofs.lemmas.Nat.Bits.{bit_at-lt}
use mathlib.Core.List.{IsPrefix}
use Rattle.psos_journal.specs.Members.{named}
use Rattle.psos_journal.proofs.Beginnings.{shorter_begins, long_is_whole}

named-append : {A : Type 0} (i : ℕ) (xs ys : List (A × ℕ)) → named i (xs ++ ys) ≡ named i xs ++ named i ys
named-append i [] ys = refl
named-append {A = A} i (x ∷ xs) ys =
    let more = named-append i xs ys in
    let M : Bool → Type 0 = λ b. cond b (x.0 ∷ named i (xs ++ ys)) (named i (xs ++ ys)) ≡ cond b (x.0 ∷ named i xs) (named i xs) ++ named i ys in
    elim (bit_at x.1 i == 1) as M [ true ↦ ap (λ w. x.0 ∷ w) more | false ↦ more ]

-- an entry at the end comes last where it names the member
pub named_last : {A : Type 0} (i : ℕ) (xs : List (A × ℕ)) (x : A × ℕ) → bit_at x.1 i ≡ 1 → named i (xs ++ x ∷ []) ≡ named i xs ++ x.0 ∷ []
named_last i xs x is = named-append i xs (x ∷ []) ∙ ap (λ (n : ℕ). named i xs ++ cond (n == 1) (x.0 ∷ []) []) is

-- one entry more, where it names the member
pub named_count : {A : Type 0} (i : ℕ) (xs : List (A × ℕ)) (x : A × ℕ) → length (named i (xs ++ x ∷ [])) ≡ length (named i xs) + bit_at x.1 i
named_count {A = A} i xs x =
    let none : List A = [] in
    let M : Bool → Type 0 = λ b. ((bit_at x.1 i == 1) ≡ b) → length (named i xs ++ cond b (x.0 ∷ none) none) ≡ length (named i xs) + bit_at x.1 i in
    let by : (b : Bool) → M b = elim [
      | true ↦ λ e. grind (arith, nat_tests, length-append (named i xs) (x.0 ∷ none))
      | false ↦ λ e. grind (arith, nat_tests, bit_at-lt x.1 i, length-append (named i xs) none)
    ] in
    ap length (named-append i xs (x ∷ [])) ∙ by (bit_at x.1 i == 1) refl

-- of two beginnings with as many entries that name the member, these are the same
pub same_named : {A : Type 0} (i : ℕ) (xs ys all : List (A × ℕ)) → IsPrefix xs all → IsPrefix ys all → length (named i xs) ≡ length (named i ys) → named i xs ≡ named i ys
same_named i xs ys all p q same =
    let begins = shorter_begins (named i xs) (named i ys) (named i all) (named i p.0, sym (named-append i xs p.0) ∙ ap (named i) p.1) (named i q.0, sym (named-append i ys q.0) ∙ ap (named i) q.1) (omega (arith, same)) in
    long_is_whole (named i xs) (named i ys) begins (omega (arith, same))
