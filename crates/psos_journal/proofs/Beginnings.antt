-- Beginnings of one list.
use Rattle.std.proofs.Common.{◌≡◌, ◌≤◌, List, [], ◌∷◌, ◌++◌, length, refl, ap, sym, ◌∙◌, subst, arith, append_assoc, length-append}
use Rattle.std.proofs.lemmas.List.{append-nil}
use Rattle.std.specs.declared.option.Option.{Option}
use Rattle.std.specs.declared.option.Option.TheVariants.{None, Some}
use mathlib.Core.List.{IsPrefix}
use Rattle.psos_journal.specs.Cells.{entries_in}

pub whole_begins : {A : Type 0} (xs : List A) → IsPrefix xs xs
whole_begins xs = ([], append-nil xs)

pub front_begins : {A : Type 0} (xs ys : List A) → IsPrefix xs (xs ++ ys)
front_begins xs ys = (ys, refl)

pub begins_through : {A : Type 0} (xs ys zs : List A) → IsPrefix xs ys → IsPrefix ys zs → IsPrefix xs zs
begins_through xs ys zs p q = (p.0 ++ q.0, sym (append_assoc xs p.0 q.0) ∙ (ap (λ w. w ++ q.0) p.1 ∙ q.1))

pub begins_length : {A : Type 0} (xs ys : List A) → IsPrefix xs ys → length xs ≤ length ys
begins_length xs ys p = omega (arith, sym (ap length p.1) ∙ length-append xs p.0)

-- of two beginnings of one list the shorter begins the longer
pub shorter_begins : {A : Type 0} (xs ys zs : List A) → IsPrefix xs zs → IsPrefix ys zs → length xs ≤ length ys → IsPrefix xs ys
shorter_begins [] ys zs p q less = (ys, refl)
shorter_begins (x ∷ xs) [] zs p q less = absurd (omega arith)
shorter_begins (x ∷ xs) (y ∷ ys) [] p q less = absurd (cc (p.1))
shorter_begins (x ∷ xs) (y ∷ ys) (z ∷ zs) p q less =
    let same : x ≡ y = cc (p.1, q.1) in
    let rest = shorter_begins xs ys zs (p.0, cc (p.1)) (q.0, cc (q.1)) (omega arith) in
    (rest.0, cc (same, rest.1))

-- a beginning that is as long as the whole is the whole
pub long_is_whole : {A : Type 0} (xs ys : List A) → IsPrefix xs ys → length ys ≤ length xs → xs ≡ ys
long_is_whole [] [] p less = refl
long_is_whole [] (y ∷ ys) p less = absurd (omega arith)
long_is_whole (x ∷ xs) [] p less = absurd (cc (p.1))
long_is_whole (x ∷ xs) (y ∷ ys) p less =
    let rest = long_is_whole xs ys (p.0, cc (p.1)) (omega arith) in cc (p.1, rest)

pub entries_in-append : {A : Type 0} (xs ys : List (Option A)) → entries_in (xs ++ ys) ≡ entries_in xs ++ entries_in ys
entries_in-append [] ys = refl
entries_in-append (None ∷ xs) ys = entries_in-append xs ys
entries_in-append (Some x ∷ xs) ys = ap (λ w. x ∷ w) (entries_in-append xs ys)

-- a beginning of a log has a beginning of its entries
pub entries_in_begins : {A : Type 0} (xs ys : List (Option A)) → IsPrefix xs ys → IsPrefix (entries_in xs) (entries_in ys)
entries_in_begins xs ys p = (entries_in p.0, sym (entries_in-append xs p.0) ∙ ap entries_in p.1)

-- a list that is as long as all there is has every beginning
pub whole_has : {A : Type 0} (xs ys both all : List A) → IsPrefix xs both → IsPrefix ys both → IsPrefix both all → length all ≤ length xs → IsPrefix ys xs
whole_has {A = A} xs ys both all p q r less =
    let same : xs ≡ all = long_is_whole xs all (begins_through xs both all p r) less in
    let P : List A → Type 0 = λ l. IsPrefix ys l in subst P (sym same) (begins_through ys both all q r)
