-- The words of a directory, and one slot of them written.
use Rattle.std.proofs.Common.{◌≡◌, ℕ, zero, suc, ◌+◌, ◌*◌, ◌-◌, ◌<◌, Bool, true, false, cond, ◌&&◌, eqb, List, [], ◌∷◌, ◌++◌, length, length-set, append-nil, take, drop, set, Option, Some, None, refl, sym, ap, ◌∙◌, arith}
use Rattle.std.specs.Option.{option_and_then}
use Rattle.std.proofs.lemmas.Bool.{true≢false}
use Rattle.std.proofs.lemmas.Bool.Decides.{nat_tests}
use Rattle.std.proofs.lemmas.Option.{same_Some, none-some}
use Rattle.psos_limits.specs.declared.TheConstants.{MOST_WORDS, MOST_ENTRIES}
use Rattle.psos_caps.specs.Capability.{Capability}
use Rattle.psos_text.specs.declared.name.Name.{Name}
use Rattle.psos_text.specs.Name.{IsName}
use Rattle.psos_words.specs.declared.word.Word.{Word}
use Rattle.psos_words.specs.declared.word.Word.TheVariants.{Data, Cap}
use Rattle.psos_words.specs.Words.{zeros}
use Rattle.psos_words.specs.Directory.{Slot, Used, mark_of, name_from, name_high, name_low, slot_of, slots_of, used_slot, are_never, are_in_order, are_apart, entry_slots, decode}
use Rattle.psos_dirrep.specs.Replacement.{with_words}
use Rattle.psos_dirrep.proofs.NameBytes.{name_of_halves, name_is_filled}
use Rattle.psos_dirrep.proofs.Slots.{slots-split, slots-cons}

-- ---- four words are written

-- four words in their places, each place by one more `suc`
abbrev set4 : List Word → ℕ → Word → Word → Word → Word → List Word
set4 words i a b c d = set (set (set (set words i a) (suc i) b) (suc (suc i)) c) (suc (suc (suc i))) d

with_four : (words : List Word) (i : ℕ) (a b c d : Word) → with_words words i (a ∷ b ∷ c ∷ d ∷ []) ≡ set4 words i a b c d
with_four words i a b c d =
    let e1 : i + 1 ≡ suc i = omega arith in
    let e2 : i + 1 + 1 ≡ suc (suc i) = omega arith in
    let e3 : i + 1 + 1 + 1 ≡ suc (suc (suc i)) = omega arith in
    ap (λ (n : ℕ). set (set (set (set words i a) n b) (i + 1 + 1) c) (i + 1 + 1 + 1) d) e1
    ∙ ap (λ (n : ℕ). set (set (set (set words i a) (suc i) b) n c) (i + 1 + 1 + 1) d) e2
    ∙ ap (λ (n : ℕ). set (set (set (set words i a) (suc i) b) (suc (suc i)) c) n d) e3

-- in words that are slots they are one slot
set4-slots : (words : List Word) (k : ℕ) (slots : List Slot) (a b c d : Word) (slot : Slot) → slots_of words ≡ Some slots → k < length slots → slot_of a b c d ≡ Some slot
    → slots_of (set4 words (4 * k) a b c d) ≡ Some (set slots k slot)
unfolding slots_of
set4-slots [] k slots a b c d slot e within is =
    let none : [] ≡ slots = same_Some _ _ e in
    let zero_long = ap length none in
    absurd (omega (arith, zero_long))
set4-slots (x ∷ []) k slots a b c d slot e within is = absurd (none-some slots e)
set4-slots (x ∷ y ∷ []) k slots a b c d slot e within is = absurd (none-some slots e)
set4-slots (x ∷ y ∷ z ∷ []) k slots a b c d slot e within is = absurd (none-some slots e)
set4-slots (x ∷ y ∷ z ∷ w ∷ rest) zero slots a b c d slot e within is =
    let s = slots-split x y z w rest slots e in
    slots-cons a b c d rest slot s.later is s.after ∙ ap (λ (l : List Slot). Some (set l 0 slot)) (sym s.is)
set4-slots (x ∷ y ∷ z ∷ w ∷ rest) (suc k) slots a b c d slot e within is =
    let s = slots-split x y z w rest slots e in
    let at : 4 * suc k ≡ suc (suc (suc (suc (4 * k)))) = omega arith in
    let long = ap length s.is in
    let later = set4-slots rest k s.later a b c d slot s.after (omega (arith, long)) is in
    ap (λ (i : ℕ). slots_of (set4 (x ∷ y ∷ z ∷ w ∷ rest) i a b c d)) at ∙ slots-cons x y z w (set4 rest (4 * k) a b c d) s.slot (set s.later k slot) s.here later ∙ ap (λ (l : List Slot). Some (set l (suc k) slot)) (sym s.is)

pub slots-written : (words : List Word) (k : ℕ) (slots : List Slot) (a b c d : Word) (slot : Slot) → slots_of words ≡ Some slots → k < length slots → slot_of a b c d ≡ Some slot
    → slots_of (with_words words (4 * k) (a ∷ b ∷ c ∷ d ∷ [])) ≡ Some (set slots k slot)
slots-written words k slots a b c d slot e within is = ap slots_of (with_four words (4 * k) a b c d) ∙ set4-slots words k slots a b c d slot e within is

pub written-length : (words : List Word) (i : ℕ) (more : List Word) → length (with_words words i more) ≡ length words
written-length words i [] = refl
written-length words i (w ∷ more) = written-length (set words i w) (i + 1) more ∙ length-set words i w

-- the words of an entry are a slot
entry_kept : (kept : Bool) (h l : ℕ) (cap : Capability) → slot_of (Data (mark_of kept)) (Data h) (Data l) (Cap cap) ≡ used_slot (name_from h l) cap kept
entry_kept true h l cap = refl
entry_kept false h l cap = refl

pub entry-slot : (name : Name) (cap : Capability) (kept : Bool) → IsName name → slot_of (Data (mark_of kept)) (Data (name_high name)) (Data (name_low name)) (Cap cap) ≡ Some (Used (record { name = name; cap = cap; kept = kept }))
entry-slot name cap kept named =
    entry_kept kept (name_high name) (name_low name) cap
    ∙ ap (λ (n : Name). used_slot n cap kept) (name_of_halves name named)
    ∙ ap (λ (b : Bool). cond b (Some (Used (record { name = name; cap = cap; kept = kept }))) None) (name_is_filled name named)

-- ---- a directory

-- 512 words are a directory with these entry slots
pub record IsDirectory (words : List Word) (slots : List Slot) : Type 0 where
  pub all : List Slot
  pub are : slots_of words ≡ Some all
  pub count : length all ≡ 128
  pub last : are_never (drop MOST_ENTRIES all) ≡ true
  pub in_order : are_in_order all ≡ true
  pub apart : are_apart all ≡ true
  pub is : slots ≡ take MOST_ENTRIES all

-- words filled up to 512
pub decode-whole : (words : List Word) → length words ≡ MOST_WORDS → decode words ≡ option_and_then entry_slots (slots_of words)
unfolding decode
decode-whole words long = ap (λ (n : ℕ). option_and_then entry_slots (slots_of (words ++ zeros (MOST_WORDS - n)))) long ∙ ap (λ (l : List Word). option_and_then entry_slots (slots_of l)) (append-nil words)

all_four : (a b c d : Bool) → (a && b && c && d) ≡ true → (a ≡ true) × (b ≡ true) × (c ≡ true) × (d ≡ true)
all_four true true true true e = (refl, refl, refl, refl)
all_four false b c d e = absurd (true≢false (sym e))
all_four true false c d e = absurd (true≢false (sym e))
all_four true true false d e = absurd (true≢false (sym e))
all_four true true true false e = absurd (true≢false (sym e))

pub some_if : {X : Type 0} (b : Bool) (x y : X) → cond b (Some x) None ≡ Some y → (b ≡ true) × (x ≡ y)
some_if true x y e = (refl, same_Some x y e)
some_if false x y e = absurd (none-some y e)

pub decoded : (words : List Word) (slots : List Slot) → length words ≡ MOST_WORDS → decode words ≡ Some slots → IsDirectory words slots
decoded words slots long e = by (slots_of words) refl (sym (decode-whole words long) ∙ e)
  where
    by : (o : Option (List Slot)) → slots_of words ≡ o → option_and_then entry_slots o ≡ Some slots → IsDirectory words slots
    by None i h = absurd (none-some slots h)
    by (Some all) i h =
        let found = some_if (eqb (length all) 128 && are_never (drop MOST_ENTRIES all) && are_in_order all && are_apart all) (take MOST_ENTRIES all) slots h in
        let tests = all_four (eqb (length all) 128) (are_never (drop MOST_ENTRIES all)) (are_in_order all) (are_apart all) found.0 in
        let long = tests.0 in
        record { all = all; are = i; count = grind (arith, nat_tests); last = tests.1; in_order = tests.2; apart = tests.3; is = sym found.1 }

pub decodes : (words : List Word) (slots : List Slot) → length words ≡ MOST_WORDS → IsDirectory words slots → decode words ≡ Some slots
decodes words slots long d =
    let count : eqb (length d.all) 128 ≡ true = grind (arith, nat_tests, d.count) in
    let tests : (eqb (length d.all) 128 && are_never (drop MOST_ENTRIES d.all) && are_in_order d.all && are_apart d.all) ≡ true = rw (count, d.last, d.in_order, d.apart) refl in
    decode-whole words long ∙ ap (option_and_then entry_slots) d.are ∙ ap (λ (b : Bool). cond b (Some (take MOST_ENTRIES d.all)) None) tests ∙ ap (λ (l : List Slot). Some l) (sym d.is)
