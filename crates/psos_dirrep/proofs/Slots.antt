-- Slots and the words that they are.
use Rattle.std.proofs.Common.{◌≡◌, ℕ, Bool, true, false, cond, List, ◌∷◌, Option, Some, None, refl, sym, ap, subst, ◌∙◌, inl, inr}
use Rattle.std.specs.Prelude.{option_map}
use Rattle.std.specs.Option.{option_and_then}
use Rattle.std.proofs.lemmas.Bool.{cases_eq, eq-eqb, ne_eqb}
use Rattle.std.proofs.lemmas.Option.{same_Some, none-some}
use Rattle.psos_caps.specs.Capability.{Capability}
use Rattle.psos_text.specs.declared.name.Name.{Name}
use Rattle.psos_words.specs.declared.word.Word.{Word}
use Rattle.psos_words.specs.declared.word.Word.TheVariants.{Data, Cap}
use Rattle.psos_words.specs.Directory.{Slot, Never, Gone, Used, mark_of, name_from, is_filled_name, used_slot, slot_of, slots_of}

-- ---- one slot

-- what holds of a used slot that is a name's, holds of what `used_slot` gives
used_is : (P : Slot → Type 0) (name : Name) (cap : Capability) (kept : Bool) (slot : Slot) → used_slot name cap kept ≡ Some slot
    → (is_filled_name name ≡ true → P (Used (record { name = name; cap = cap; kept = kept }))) → P slot
used_is P name cap kept slot e used = by (is_filled_name name) refl e
  where
    by : (b : Bool) → is_filled_name name ≡ b → cond b (Some (Used (record { name = name; cap = cap; kept = kept }))) None ≡ Some slot → P slot
    by true is e = subst P (same_Some _ _ e) (used is)
    by false is e = absurd (none-some slot e)

-- the four kinds of slots, by their words
pub by_slot : (P : Word → Word → Word → Word → Slot → Type 0)
    → P (Data 0) (Data 0) (Data 0) (Data 0) Never
    → P (Data 3) (Data 0) (Data 0) (Data 0) Gone
    → ((h l : ℕ) (cap : Capability) (kept : Bool) → is_filled_name (name_from h l) ≡ true → P (Data (mark_of kept)) (Data h) (Data l) (Cap cap) (Used (record { name = name_from h l; cap = cap; kept = kept })))
    → (a b c d : Word) (slot : Slot) → slot_of a b c d ≡ Some slot → P a b c d slot
by_slot P never gone used (Cap x) b c d slot e = absurd (none-some slot e)
by_slot P never gone used (Data mark) (Cap x) c d slot e = absurd (none-some slot e)
by_slot P never gone used (Data mark) (Data h) (Cap x) d slot e = absurd (none-some slot e)
by_slot P never gone used (Data mark) (Data h) (Data l) (Cap cap) slot e = elim (cases_eq mark 1) [
  | inl one ↦
      let e1 : used_slot (name_from h l) cap false ≡ Some slot = rw (eq-eqb mark 1 one) at e in
      subst (λ (m : ℕ). P (Data m) (Data h) (Data l) (Cap cap) slot) (sym one) (used_is (P (Data 1) (Data h) (Data l) (Cap cap)) (name_from h l) cap false slot e1 (used h l cap false))
  | inr other ↦ elim (cases_eq mark 2) [
    | inl two ↦
        let e2 : used_slot (name_from h l) cap true ≡ Some slot = rw (ne_eqb mark 1 other, eq-eqb mark 2 two) at e in
        subst (λ (m : ℕ). P (Data m) (Data h) (Data l) (Cap cap) slot) (sym two) (used_is (P (Data 2) (Data h) (Data l) (Cap cap)) (name_from h l) cap true slot e2 (used h l cap true))
    | inr neither ↦
        let e3 : None ≡ Some slot = rw (ne_eqb mark 1 other, ne_eqb mark 2 neither) at e in
        absurd (none-some slot e3)
  ]
]
by_slot P never gone used (Data mark) (Data h) (Data l) (Data n) slot e = elim (cases_eq h 0) [
  | inr high ↦ let e1 : None ≡ Some slot = rw (ne_eqb h 0 high) at e in absurd (none-some slot e1)
  | inl h0 ↦ elim (cases_eq l 0) [
    | inr low ↦ let e1 : None ≡ Some slot = rw (eq-eqb h 0 h0, ne_eqb l 0 low) at e in absurd (none-some slot e1)
    | inl l0 ↦ elim (cases_eq n 0) [
      | inr last ↦ let e1 : None ≡ Some slot = rw (eq-eqb h 0 h0, eq-eqb l 0 l0, ne_eqb n 0 last) at e in absurd (none-some slot e1)
      | inl n0 ↦
          let zeros_then : (m : ℕ) (s : Slot) → P (Data m) (Data 0) (Data 0) (Data 0) s → P (Data m) (Data h) (Data l) (Data n) s = λ m s p.
          subst (λ (i : ℕ). P (Data m) (Data i) (Data l) (Data n) s) (sym h0) (subst (λ (i : ℕ). P (Data m) (Data 0) (Data i) (Data n) s) (sym l0) (subst (λ (i : ℕ). P (Data m) (Data 0) (Data 0) (Data i) s) (sym n0) p)) in
          elim (cases_eq mark 0) [
            | inl m0 ↦
                let e1 : Some Never ≡ Some slot = rw (eq-eqb h 0 h0, eq-eqb l 0 l0, eq-eqb n 0 n0, eq-eqb mark 0 m0) at e in
                subst (λ (m : ℕ). P (Data m) (Data h) (Data l) (Data n) slot) (sym m0) (subst (P (Data 0) (Data h) (Data l) (Data n)) (same_Some _ _ e1) (zeros_then 0 Never never))
            | inr some ↦ elim (cases_eq mark 3) [
              | inl m3 ↦
                  let e1 : Some Gone ≡ Some slot = rw (eq-eqb h 0 h0, eq-eqb l 0 l0, eq-eqb n 0 n0, ne_eqb mark 0 some, eq-eqb mark 3 m3) at e in
                  subst (λ (m : ℕ). P (Data m) (Data h) (Data l) (Data n) slot) (sym m3) (subst (P (Data 3) (Data h) (Data l) (Data n)) (same_Some _ _ e1) (zeros_then 3 Gone gone))
              | inr neither ↦
                  let e1 : None ≡ Some slot = rw (eq-eqb h 0 h0, eq-eqb l 0 l0, eq-eqb n 0 n0, ne_eqb mark 0 some, ne_eqb mark 3 neither) at e in
                  absurd (none-some slot e1)
            ]
          ]
    ]
  ]
]

-- ---- the slots of words

-- the first slot and those after it
pub record Splits (a b c d : Word) (rest : List Word) (slots : List Slot) : Type 0 where
  pub slot : Slot
  pub later : List Slot
  pub here : slot_of a b c d ≡ Some slot
  pub after : slots_of rest ≡ Some later
  pub is : slots ≡ slot ∷ later

pub slots-split : (a b c d : Word) (rest : List Word) (slots : List Slot) → slots_of (a ∷ b ∷ c ∷ d ∷ rest) ≡ Some slots → Splits a b c d rest slots
unfolding slots_of
slots-split a b c d rest slots e = by (slot_of a b c d) refl (slots_of rest) refl e
  where
    by : (o : Option Slot) → slot_of a b c d ≡ o → (os : Option (List Slot)) → slots_of rest ≡ os → option_and_then (λ slot. option_map (λ later. slot ∷ later) os) o ≡ Some slots → Splits a b c d rest slots
    by None i os j e = absurd (none-some slots e)
    by (Some slot) i None j e = absurd (none-some slots e)
    by (Some slot) i (Some later) j e = record { slot = slot; later = later; here = i; after = j; is = sym (same_Some _ _ e) }

pub slots-cons : (a b c d : Word) (rest : List Word) (slot : Slot) (later : List Slot) → slot_of a b c d ≡ Some slot → slots_of rest ≡ Some later → slots_of (a ∷ b ∷ c ∷ d ∷ rest) ≡ Some (slot ∷ later)
unfolding slots_of
slots-cons a b c d rest slot later i j = ap (λ (o : Option Slot). option_and_then (λ s. option_map (λ l. s ∷ l) (slots_of rest)) o) i ∙ ap (λ (os : Option (List Slot)). option_map (λ l. slot ∷ l) os) j
