-- Whether words have a slot that was never used.
use Rattle.std.proofs.Common.{◌≡◌, ℕ, zero, suc, ◌*◌, ◌<◌, Bool, true, false, cond, ◌||◌, eqb, List, [], ◌∷◌, ◌++◌, length, Some, refl, sym, ap, subst, ◌∙◌, arith}
use Rattle.std.specs.List.{list_any}
use Rattle.std.proofs.lemmas.Bool.{true≢false}
use Rattle.std.proofs.lemmas.Option.{same_Some, none-some}
use Rattle.psos_words.specs.declared.word.Word.{Word}
use Rattle.psos_words.specs.declared.word.Word.TheVariants.{Data, Cap}
use Rattle.psos_words.specs.Words.{word_at}
use Rattle.psos_words.specs.Directory.{Slot, mark_of, slots_of, are_never, are_in_order, has_never}
use Rattle.psos_dirrep.specs.Pages.{was_never, slots_in, AreSlots}
use Rattle.psos_dirrep.specs.Scan.{is_never}
use Rattle.psos_dirrep.proofs.PageSearch.{never-cons}
use Rattle.psos_dirrep.proofs.SlotSearch.{order-later}
use Rattle.psos_dirrep.proofs.Slots.{by_slot, slots-split}

used_adds_none : (kept : Bool) (b c d : Word) (rest : List Word) → has_never (Data (mark_of kept) ∷ b ∷ c ∷ d ∷ rest) ≡ has_never rest
used_adds_none true b c d rest = refl
used_adds_none false b c d rest = refl

pub never-slots : (words : List Word) (slots : List Slot) → slots_of words ≡ Some slots → has_never words ≡ list_any was_never slots
unfolding slots_of
never-slots [] slots e = ap (list_any was_never) (same_Some _ _ e)
never-slots (a ∷ []) slots e = absurd (none-some slots e)
never-slots (a ∷ b ∷ []) slots e = absurd (none-some slots e)
never-slots (a ∷ b ∷ c ∷ []) slots e = absurd (none-some slots e)
never-slots (a ∷ b ∷ c ∷ d ∷ rest) slots e =
    let s = slots-split a b c d rest slots e in
    let later = never-slots rest s.later s.after in
    let P : Word → Word → Word → Word → Slot → Type 0 = λ a b c d slot. has_never (a ∷ b ∷ c ∷ d ∷ rest) ≡ (was_never slot || list_any was_never s.later) in
    by_slot P refl later (λ h l cap kept filled. used_adds_none kept (Data h) (Data l) (Cap cap) rest ∙ later) a b c d s.slot s.here ∙ ap (list_any was_never) (sym s.is)

pub never-parts : (front rest : List Word) (n : ℕ) → length front ≡ 4 * n → has_never (front ++ rest) ≡ (has_never front || has_never rest)
never-parts [] rest n long = refl
never-parts (a ∷ []) rest n long = absurd (omega (arith, long))
never-parts (a ∷ b ∷ []) rest n long = absurd (omega (arith, long))
never-parts (a ∷ b ∷ c ∷ []) rest n long = absurd (omega (arith, long))
never-parts (Cap x ∷ b ∷ c ∷ d ∷ front) rest zero long = absurd (omega (arith, long))
never-parts (Cap x ∷ b ∷ c ∷ d ∷ front) rest (suc n) long = never-parts front rest n (omega (arith, long))
never-parts (Data m ∷ b ∷ c ∷ d ∷ front) rest zero long = absurd (omega (arith, long))
never-parts (Data m ∷ b ∷ c ∷ d ∷ front) rest (suc n) long = by (eqb m 0) (never-parts front rest n (omega (arith, long)))
  where
    by : (t : Bool) → has_never (front ++ rest) ≡ (has_never front || has_never rest) → cond t true (has_never (front ++ rest)) ≡ (cond t true (has_never front) || has_never rest)
    by true later = refl
    by false later = later

-- ---- the last slot

-- where all slots were never used, and there is one, words tell of one
all-never : (words : List Word) (slots : List Slot) → slots_of words ≡ Some slots → are_never slots ≡ true → 0 < length words → has_never words ≡ true
unfolding slots_of
all-never [] slots e never some = absurd (omega arith)
all-never (a ∷ []) slots e never some = absurd (none-some slots e)
all-never (a ∷ b ∷ []) slots e never some = absurd (none-some slots e)
all-never (a ∷ b ∷ c ∷ []) slots e never some = absurd (none-some slots e)
all-never (a ∷ b ∷ c ∷ d ∷ rest) slots e never some =
    let s = slots-split a b c d rest slots e in
    let P : Word → Word → Word → Word → Slot → Type 0 = λ a b c d slot. are_never (slot ∷ s.later) ≡ true → has_never (a ∷ b ∷ c ∷ d ∷ rest) ≡ true in
    by_slot P (λ h. refl) (λ h. absurd (true≢false (sym h))) (λ h l cap kept filled never. absurd (true≢false (sym never)))
    a b c d s.slot s.here (subst (λ (l : List Slot). are_never l ≡ true) s.is never)

-- where nothing used stands after a slot that was never used, the last slot tells whether there is one
never-last : (n : ℕ) (words : List Word) (slots : List Slot) → length words ≡ 4 * suc n → slots_of words ≡ Some slots → are_in_order slots ≡ true → has_never words ≡ is_never (word_at words (4 * n))
unfolding slots_of
never-last n [] slots long e order = absurd (omega (arith, long))
never-last n (a ∷ []) slots long e order = absurd (omega (arith, long))
never-last n (a ∷ b ∷ []) slots long e order = absurd (omega (arith, long))
never-last n (a ∷ b ∷ c ∷ []) slots long e order = absurd (omega (arith, long))
never-last zero (a ∷ b ∷ c ∷ d ∷ x ∷ rest) slots long e order = absurd (omega (arith, long))
never-last zero (a ∷ b ∷ c ∷ d ∷ []) slots long e order = never-cons a b c d [] ∙ by (is_never a)
  where
    by : (t : Bool) → cond t true false ≡ t
    by true = refl
    by false = refl
never-last (suc n) (a ∷ b ∷ c ∷ d ∷ rest) slots long e order =
    let s = slots-split a b c d rest slots e in
    let in_order : are_in_order (s.slot ∷ s.later) ≡ true = subst (λ (l : List Slot). are_in_order l ≡ true) s.is order in
    let later = never-last n rest s.later (omega (arith, long)) s.after (order-later s.slot s.later in_order) in
    let P : Word → Word → Word → Word → Slot → Type 0 = λ a b c d slot. are_in_order (slot ∷ s.later) ≡ true → has_never (a ∷ b ∷ c ∷ d ∷ rest) ≡ is_never (word_at rest (4 * n)) in
    by_slot P
    (λ order. sym (all-never rest s.later s.after order (omega (arith, long))) ∙ later)
    (λ order. later)
    (λ h l cap kept filled order. used_adds_none kept (Data h) (Data l) (Cap cap) rest ∙ later)
    a b c d s.slot s.here in_order
    ∙ ap (λ (i : ℕ). is_never (word_at (a ∷ b ∷ c ∷ d ∷ rest) i)) {x = suc (suc (suc (suc (4 * n))))} {y = 4 * suc n} (omega arith)

-- and so it is on a page of a directory
pub page-last : (page : List Word) → length page ≡ 64 → AreSlots page → is_never (word_at page 60) ≡ has_never page
page-last page long h = sym (never-last 15 page (slots_in page) long h.slots h.in_order)
