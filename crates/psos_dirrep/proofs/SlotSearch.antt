-- A search of words is a search of the slots that they are.
use Rattle.std.proofs.Common.{◌≡◌, ℕ, ◌+◌, Bool, true, false, cond, eqb, List, [], ◌∷◌, Option, Some, None, refl, sym, ap, subst, ◌∙◌}
use Rattle.std.specs.Prelude.{option_map}
use Rattle.std.proofs.lemmas.Bool.{true≢false}
use Rattle.std.proofs.lemmas.Option.{same_Some, none-some}
use Rattle.std.proofs.lemmas.Slice.Eq.{bytes_eq-Decides}
use Rattle.std.specs.List.{before_first}
use Rattle.psos_caps.specs.Capability.{Capability}
use Rattle.psos_text.specs.declared.name.Name.{Name}
use Rattle.psos_text.specs.Name.{is_name, name_text, IsName}
use Rattle.psos_words.specs.declared.word.Word.{Word}
use Rattle.psos_words.specs.declared.word.Word.TheVariants.{Data, Cap}
use Rattle.psos_words.specs.Directory.{Slot, Never, Gone, Used, Found as SlotFound, mark_of, name_from, name_high, name_low, slots_of, same_name, are_never, are_in_order, found_here, find, find_from, free_from}
use Rattle.psos_dirrep.specs.declared.found.Found.{Found}
use Rattle.psos_dirrep.specs.Entries.{as_found}
use Rattle.psos_dirrep.specs.Pages.{slots_in, AreSlots}
use Rattle.psos_dirrep.specs.Scan.{entry_at, has_halves, scan, scan_free}
use Rattle.psos_dirrep.proofs.NameBytes.{name_of_halves}
use Rattle.psos_dirrep.proofs.Slots.{by_slot, slots-split}

-- ---- slots that were never used

-- nothing is found among them
pub never-find : (k : ℕ) (slots : List Slot) (name : Name) → are_never slots ≡ true → find_from k slots name ≡ None
never-find k [] name e = refl
never-find k (Never ∷ rest) name e = never-find (k + 1) rest name e
never-find k (Gone ∷ rest) name e = absurd (true≢false (sym e))
never-find k (Used x ∷ rest) name e = absurd (true≢false (sym e))

-- they are in order
pub never-in_order : (slots : List Slot) → are_never slots ≡ true → are_in_order slots ≡ true
never-in_order [] e = refl
never-in_order (Never ∷ rest) e = e
never-in_order (Gone ∷ rest) e = absurd (true≢false (sym e))
never-in_order (Used x ∷ rest) e = absurd (true≢false (sym e))

-- what follows a slot in order is in order
pub order-later : (slot : Slot) (later : List Slot) → are_in_order (slot ∷ later) ≡ true → are_in_order later ≡ true
order-later Never later e = never-in_order later e
order-later Gone later e = e
order-later (Used x) later e = e

-- ---- a name

-- two numbers that are 0 are no name
zeros_name_none : (name : Name) → IsName name → same_name (name_from 0 0) name ≡ false
zeros_name_none name named = by (same_name (name_from 0 0) name) refl
  where
    by : (t : Bool) → same_name (name_from 0 0) name ≡ t → t ≡ false
    by false e = refl
    by true e =
        let is : (name_from 0 0).bytes ≡ name.bytes = (bytes_eq-Decides (name_from 0 0).bytes name.bytes).0 e in
        let no : false ≡ is_name (name_text name) = ap (λ (b : List ℕ). is_name (before_first (λ x. eqb x 0) b)) is in
        absurd (true≢false (sym (no ∙ named.named)))

abbrev Agrees : ℕ → Name → List Word → List Slot → Type 0
Agrees k name words slots = scan k (name_high name) (name_low name) words ≡ option_map as_found (find_from k slots name)

unused_slot_passed : (k : ℕ) (name : Name) (a d : Word) (later : Option Found) → IsName name → cond (has_halves (name_high name) (name_low name) (Data 0) (Data 0)) (entry_at k a d) later ≡ later
unused_slot_passed k name a d later named =
    ap (λ (n : Name). cond (same_name (name_from 0 0) n) (entry_at k a d) later) (name_of_halves name named) ∙ ap (λ (t : Bool). cond t (entry_at k a d) later) (zeros_name_none name named)

used_slot_found : (k : ℕ) (name : Name) (h l : ℕ) (cap : Capability) (kept : Bool) (words : Option Found) (slots : Option SlotFound) → IsName name → words ≡ option_map as_found slots
    → cond (has_halves (name_high name) (name_low name) (Data h) (Data l)) (entry_at k (Data (mark_of kept)) (Cap cap)) words ≡ option_map as_found (found_here k name (Used (record { name = name_from h l; cap = cap; kept = kept })) slots)
used_slot_found k name h l cap kept words slots named later =
    ap (λ (n : Name). cond (same_name (name_from h l) n) (entry_at k (Data (mark_of kept)) (Cap cap)) words) (name_of_halves name named) ∙ by (same_name (name_from h l) name) kept
  where
    by : (t b : Bool) → cond t (entry_at k (Data (mark_of b)) (Cap cap)) words ≡ option_map as_found (cond t (Some (record { slot = k; entry = record { name = name_from h l; cap = cap; kept = b } })) slots)
    by true true = refl
    by true false = refl
    by false b = later

-- the entry of a name by its words is that by its slots
pub scan-find : (k : ℕ) (name : Name) (words : List Word) (slots : List Slot) → IsName name → slots_of words ≡ Some slots → Agrees k name words slots
unfolding slots_of
scan-find k name [] slots named e = subst (Agrees k name []) (same_Some _ _ e) refl
scan-find k name (a ∷ []) slots named e = absurd (none-some slots e)
scan-find k name (a ∷ b ∷ []) slots named e = absurd (none-some slots e)
scan-find k name (a ∷ b ∷ c ∷ []) slots named e = absurd (none-some slots e)
scan-find k name (a ∷ b ∷ c ∷ d ∷ rest) slots named e =
    let s = slots-split a b c d rest slots e in
    let later = scan-find (k + 1) name rest s.later named s.after in
    let left = scan (k + 1) (name_high name) (name_low name) rest in
    let P : Word → Word → Word → Word → Slot → Type 0 = λ a b c d slot. Agrees k name (a ∷ b ∷ c ∷ d ∷ rest) (slot ∷ s.later) in
    subst (Agrees k name (a ∷ b ∷ c ∷ d ∷ rest)) (sym s.is) (by_slot P
    (unused_slot_passed k name (Data 0) (Data 0) left named ∙ later)
    (unused_slot_passed k name (Data 3) (Data 0) left named ∙ later)
    (λ h l cap kept filled. used_slot_found k name h l cap kept left (find_from (k + 1) s.later name) named later)
    a b c d s.slot s.here)

-- ---- a place

-- the least slot that is not used by its words is that by its slots
pub scan-free : (k : ℕ) (words : List Word) (slots : List Slot) → slots_of words ≡ Some slots → scan_free k words ≡ free_from k slots
unfolding slots_of
scan-free k [] slots e = subst (λ (l : List Slot). None ≡ free_from k l) (same_Some _ _ e) refl
scan-free k (a ∷ []) slots e = absurd (none-some slots e)
scan-free k (a ∷ b ∷ []) slots e = absurd (none-some slots e)
scan-free k (a ∷ b ∷ c ∷ []) slots e = absurd (none-some slots e)
scan-free k (a ∷ b ∷ c ∷ d ∷ rest) slots e =
    let s = slots-split a b c d rest slots e in
    let later = scan-free (k + 1) rest s.later s.after in
    let P : Word → Word → Word → Word → Slot → Type 0 = λ a b c d slot. scan_free k (a ∷ b ∷ c ∷ d ∷ rest) ≡ free_from k (slot ∷ s.later) in
    subst (λ (l : List Slot). scan_free k (a ∷ b ∷ c ∷ d ∷ rest) ≡ free_from k l) (sym s.is) (by_slot P refl refl (λ h l cap kept filled. later) a b c d s.slot s.here)

-- the entry of a name on a page, by the two numbers of the name
pub page-find : (high low : ℕ) (name : Name) (page : List Word) → IsName name → high ≡ name_high name → low ≡ name_low name → AreSlots page → option_map as_found (find (slots_in page) name) ≡ scan 0 high low page
page-find high low name page named is too h =
    sym (ap (λ (x : ℕ). scan 0 x low page) is ∙ ap (λ (x : ℕ). scan 0 (name_high name) x page) too ∙ scan-find 0 name page (slots_in page) named h.slots)
