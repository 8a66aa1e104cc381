-- The blocks of a store in memory, read and written.
use Rattle.std.proofs.Common.{◌≡◌, ℕ, suc, ◌-◌, ◌<◌, ◌≤◌, List, [], ◌∷◌, ◌++◌, ◌⊎◌, length, replicate, get_or, set, refl, sym, ap, ◌∙◌, inl, inr, arith, append_assoc}
use Rattle.std.proofs.lemmas.List.{length-append, length-replicate, length-set, get_or-replicate, get_or_append_left, get_or-append_right, get_or-set_same, get_or-set_other, set-append_left, length_push}
use Rattle.std.proofs.lemmas.Bool.{cases_eq}
use Rattle.psos_io.specs.Blocks.{IsBlocks, OthersStay, block_at}
use Rattle.psos_store.specs.MemoryBlocks.{memory_blocks}

pub length-memory : (first : List (List ℕ)) → length first ≤ 4168 → length (memory_blocks first) ≡ 4168
length-memory first few =
    let zero : ℕ = 0 in
    omega (arith, few, length-append first (replicate (4168 - length first) (replicate 1032 zero)), length-replicate {A = List ℕ} (4168 - length first) (replicate 1032 zero))

-- a block behind the first is zero
pub behind : (first : List (List ℕ)) (i : ℕ) → length first ≤ i → i < 4168 → block_at (memory_blocks first) i ≡ replicate 1032 0
behind first i h l =
    let zero : ℕ = 0 in
    get_or-append_right first (replicate (4168 - length first) (replicate 1032 zero)) (length first) i [] refl h
    ∙ get_or-replicate {A = List ℕ} (4168 - length first) (i - length first) (replicate 1032 zero) [] (omega (arith, h, l))

pub among : (first : List (List ℕ)) (i : ℕ) → i < length first → block_at (memory_blocks first) i ≡ get_or first i []
among first i h = let zero : ℕ = 0 in get_or_append_left first (replicate (4168 - length first) (replicate 1032 zero)) [] i h

pub memory-new : IsBlocks (memory_blocks [])
memory-new =
    let zero : ℕ = 0 in
    record { count = length-replicate {A = List ℕ} 4168 (replicate 1032 zero); size = λ i h. ap (λ (b : List ℕ). length b) (get_or-replicate {A = List ℕ} 4168 i (replicate 1032 zero) [] h) ∙ length-replicate {A = ℕ} 1032 zero }

-- one zero block more among the first
pub memory-push : (first : List (List ℕ)) → length first < 4168 → memory_blocks (first ++ replicate 1032 0 ∷ []) ≡ memory_blocks first
memory-push first h =
    let zero : ℕ = 0 in
    let one : 4168 - length first ≡ suc (4168 - length (first ++ replicate 1032 zero ∷ [])) = omega (arith, h, length_push first (replicate 1032 zero)) in
    append_assoc first (replicate 1032 zero ∷ []) (replicate (4168 - length (first ++ replicate 1032 zero ∷ [])) (replicate 1032 zero))
    ∙ ap (λ n. first ++ replicate n (replicate 1032 zero)) (sym one)

-- a block is written
pub memory-set : (first : List (List ℕ)) (i : ℕ) (b : List ℕ) → i < length first → memory_blocks (set first i b) ≡ set (memory_blocks first) i b
memory-set first i b h =
    let zero : ℕ = 0 in
    ap (λ n. set first i b ++ replicate (4168 - n) (replicate 1032 zero)) (length-set first i b)
    ∙ sym (set-append_left first (replicate (4168 - length first) (replicate 1032 zero)) i b h)

pub memory-written : (first : List (List ℕ)) (i : ℕ) (b : List ℕ) → i < length first → block_at (memory_blocks (set first i b)) i ≡ b
memory-written first i b h =
    ap (λ m. block_at m i) (memory-set first i b h) ∙ get_or-set_same (memory_blocks first) i b [] (omega (arith, h, length-append first (replicate (4168 - length first) (replicate 1032 0))))

pub memory-others : (first : List (List ℕ)) (i : ℕ) (b : List ℕ) → i < length first → OthersStay (memory_blocks first) (memory_blocks (set first i b)) i
memory-others first i b h = (
  ap (λ (m : List (List ℕ)). length m) (memory-set first i b h) ∙ length-set (memory_blocks first) i b,
  λ j d. ap (λ m. block_at m j) (memory-set first i b h) ∙ get_or-set_other (memory_blocks first) i j b [] d,
)

pub sized-set : (first : List (List ℕ)) (i : ℕ) (b : List ℕ) → i < length first → IsBlocks (memory_blocks first) → length b ≡ 1032 → IsBlocks (memory_blocks (set first i b))
sized-set first i b l k e = record {
  count = ap (λ (m : List (List ℕ)). length m) (memory-set first i b l) ∙ length-set (memory_blocks first) i b ∙ k.count;
  size = λ j h. ap (λ m. length (get_or m j [])) (memory-set first i b l) ∙ by j h (cases_eq j i);
}
  where
    by : (j : ℕ) → j < 4168 → (j ≡ i) ⊎ (j ≡ i → ⊥) → length (get_or (set (memory_blocks first) i b) j []) ≡ 1032
    by j h (inl x) = ap (λ n. length (get_or (set (memory_blocks first) i b) n [])) x ∙ ap (λ (y : List ℕ). length y) (get_or-set_same (memory_blocks first) i b [] (omega (arith, h, x, k.count))) ∙ e
    by j h (inr d) = ap (λ (y : List ℕ). length y) (get_or-set_other (memory_blocks first) i j b [] d) ∙ k.size j h
