-- Counts in groups, as one list.
use Rattle.std.proofs.Common.{◌≡◌, ℕ, ◌+◌, ◌-◌, ◌<◌, List, ◌++◌, length, slice_index, slice_set, refl, ap, sym, ◌∙◌, arith}
use Rattle.std.proofs.lemmas.List.{get_or-append-add, get_or_append_left, set-append_left, set-append_right}

-- the count at a place of the first group, and of one behind others
pub first_has : (xs after : List ℕ) (p : ℕ) → p < length xs → slice_index (xs ++ after) p ≡ slice_index xs p
first_has xs after p within = get_or_append_left xs after 0 p within

pub group_has : (before xs after : List ℕ) (p : ℕ) → p < length xs → slice_index (before ++ (xs ++ after)) (length before + p) ≡ slice_index xs p
group_has before xs after p within = get_or-append-add before (xs ++ after) p 0 ∙ first_has xs after p within

-- where it is set in the group, it is set in the list
pub first_stepped : (xs ys after : List ℕ) (p n : ℕ) → p < length xs → ys ≡ slice_set xs p n → ys ++ after ≡ slice_set (xs ++ after) p n
first_stepped xs ys after p n within stepped = ap (λ l. l ++ after) stepped ∙ sym (set-append_left xs after p n within)

pub group_stepped : (before xs ys after : List ℕ) (p n : ℕ) → p < length xs → ys ≡ slice_set xs p n → before ++ (ys ++ after) ≡ slice_set (before ++ (xs ++ after)) (length before + p) n
group_stepped before xs ys after p n within stepped =
    let place : p ≡ length before + p - length before = omega arith in
    ap (λ l. before ++ l) (first_stepped xs ys after p n within stepped ∙ ap (λ q. slice_set (xs ++ after) q n) place)
    ∙ sym (set-append_right before (xs ++ after) (length before) (length before + p) n refl (omega arith))
