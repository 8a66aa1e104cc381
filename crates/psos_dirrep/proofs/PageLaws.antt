-- The pages of a directory, up to one with a slot that was never used, are the whole of it.
use Rattle.std.proofs.Common.{◌≡◌, ℕ, zero, suc, ◌+◌, ◌*◌, ◌-◌, ◌<◌, ◌≤◌, Bool, true, false, cond, List, [], ◌∷◌, ◌++◌, length, length-append, take, drop, slice_get, Option, Some, None, refl, sym, ap, subst, ◌∙◌, arith}
use Rattle.std.specs.Prelude.{option_map, nat_lt}
use Rattle.std.specs.List.{list_any}
use Rattle.std.specs.Option.{unwrap_or, option_and_then}
use Rattle.std.proofs.lemmas.Bool.{true≢false}
use Rattle.std.proofs.lemmas.Bool.Decides.{nat_tests}
use Rattle.std.proofs.lemmas.List.{length-replicate}
use Rattle.std.proofs.lemmas.Option.{same_Some, none-some}
use Rattle.psos_limits.specs.declared.TheConstants.{MOST_WORDS, MOST_ENTRIES}
use Rattle.psos_text.specs.declared.name.Name.{Name}
use Rattle.psos_words.specs.declared.word.Word.{Word}
use Rattle.psos_words.specs.declared.word.Word.TheVariants.{Data, Cap}
use Rattle.psos_words.specs.Words.{zeros}
use Rattle.psos_words.specs.Directory.{Slot, Never, Gone, Used, Found, mark_of, slots_of, are_never, are_in_order, entry_slots, decode, has_never, find, find_from, slot_for, free_from}
use Rattle.psos_dirrep.specs.Changes.{IsWhole}
use Rattle.psos_dirrep.specs.Pages.{words_of, slots_in, AreSlots, ArePages, or_else, moved, find_on, slot_on, entry_slot, was_never}
use Rattle.psos_dirrep.proofs.SlotChanges.{FreeAt, never, gone, used, free-at}
use Rattle.psos_dirrep.proofs.Directories.{decoded, decode-whole}
use Rattle.psos_dirrep.proofs.SlotSearch.{never-find}
use Rattle.psos_dirrep.proofs.PageSlots.{halves, zeros-never, never-zeros, never-append, order-front, order-back, find-append, free-append, find-moved, free-moved}
use Rattle.psos_dirrep.proofs.EntryChanges.{find-take}
use Rattle.psos_dirrep.proofs.NeverUsedSlots.{never-slots}
use Rattle.psos_dirrep.proofs.Slots.{by_slot, slots-split}

-- ---- after a slot that was never used

used_not_never : (kept : Bool) (b c d : Word) (rest : List Word) → has_never (Data (mark_of kept) ∷ b ∷ c ∷ d ∷ rest) ≡ true → has_never rest ≡ true
used_not_never true b c d rest e = e
used_not_never false b c d rest e = e

never-rest : (words : List Word) (front back : List Slot) → slots_of words ≡ Some front → has_never words ≡ true → are_in_order (front ++ back) ≡ true → are_never back ≡ true
unfolding slots_of
never-rest [] front back e has order = absurd (true≢false (sym has))
never-rest (a ∷ []) front back e has order = absurd (none-some front e)
never-rest (a ∷ b ∷ []) front back e has order = absurd (none-some front e)
never-rest (a ∷ b ∷ c ∷ []) front back e has order = absurd (none-some front e)
never-rest (a ∷ b ∷ c ∷ d ∷ rest) front back e has order =
    let s = slots-split a b c d rest front e in
    let P : Word → Word → Word → Word → Slot → Type 0 = λ a b c d slot. has_never (a ∷ b ∷ c ∷ d ∷ rest) ≡ true → are_in_order (slot ∷ (s.later ++ back)) ≡ true → are_never back ≡ true in
    by_slot P
    (λ has order. never-append s.later back order)
    (λ has order. never-rest rest s.later back s.after has order)
    (λ h l cap kept filled has order. never-rest rest s.later back s.after (used_not_never kept (Data h) (Data l) (Cap cap) rest has) order)
    a b c d s.slot s.here has (ap (λ (l : List Slot). are_in_order (l ++ back)) (sym s.is) ∙ order)

-- a front with such a slot, and data 0 behind it, is the whole
pub front-whole : (front rest : List Word) (n : ℕ) (slots : List Slot) → IsWhole (front ++ rest) slots → length front ≡ 4 * n → has_never front ≡ true → decode front ≡ Some slots
unfolding decode
front-whole front rest n slots whole long has =
    let d = decoded (front ++ rest) slots whole.long whole.decoded in
    let h = halves n front rest d.all long d.are in
    let nothing = never-rest front h.front h.back h.first has (ap are_in_order (sym h.is) ∙ d.in_order) in
    let all = whole.long in
    let left : MOST_WORDS - length front ≡ length rest = omega (arith, length-append front rest, all) in
    let filled : zeros (MOST_WORDS - length front) ≡ rest = ap zeros left ∙ sym (never-zeros rest h.back h.second nothing) in
    ap (λ (l : List Word). option_and_then entry_slots (slots_of (front ++ l))) filled ∙ sym (decode-whole (front ++ rest) whole.long) ∙ whole.decoded

-- ---- the slots that were read, and those behind them

pub record Fronts (words : List Word) (n : ℕ) (slots : List Slot) : Type 0 where
  pub all : List Slot
  pub front : List Slot
  pub back : List Slot
  pub are : slots_of words ≡ Some front
  pub long : length front ≡ n
  pub nothing : are_never back ≡ true
  pub both : all ≡ front ++ back
  pub last : are_never (drop MOST_ENTRIES all) ≡ true
  pub in_order : are_in_order all ≡ true
  pub is : slots ≡ take MOST_ENTRIES all

pub fronts : (words : List Word) (n : ℕ) (slots : List Slot) → length words ≡ 4 * n → length words ≤ MOST_WORDS → decode words ≡ Some slots → Fronts words n slots
unfolding decode
fronts words n slots long few e =
    let filled = words ++ zeros (MOST_WORDS - length words) in
    let whole : length filled ≡ MOST_WORDS = length-append words (zeros (MOST_WORDS - length words)) ∙ omega (arith, length-replicate {A = Word} (MOST_WORDS - length words) (Data 0)) in
    let d = decoded filled slots whole (decode-whole filled whole ∙ e) in
    let h = halves n words (zeros (MOST_WORDS - length words)) d.all long d.are in
    record {
      all = d.all;
      front = h.front;
      back = h.back;
      are = h.first;
      long = h.long;
      nothing = zeros-never (MOST_WORDS - length words) h.back h.second;
      both = h.is;
      last = d.last;
      in_order = d.in_order;
      is = d.is;
    }

or_none : {X : Type 0} (o : Option X) → or_else o None ≡ o
or_none None = refl
or_none (Some x) = refl

-- ---- names

fronts-find : (words : List Word) (n : ℕ) (slots : List Slot) (name : Name) (f : Fronts words n slots) → find slots name ≡ find f.front name
fronts-find words n slots name f =
    ap (λ (l : List Slot). find_from 0 l name) f.is
    ∙ find-take 0 MOST_ENTRIES f.all name f.last
    ∙ ap (λ (l : List Slot). find_from 0 l name) f.both
    ∙ find-append 0 f.front f.back name
    ∙ ap (or_else (find_from 0 f.front name)) (never-find (0 + length f.front) f.back name f.nothing)
    ∙ or_none (find_from 0 f.front name)

pub slots-are : (words : List Word) (slots : List Slot) → slots_of words ≡ Some slots → slots_in words ≡ slots
slots-are words slots e = ap (λ (o : Option (List Slot)). unwrap_or o []) e

pages-find : (k : ℕ) (pages : List (List Word)) (front : List Slot) (name : Name) → ArePages pages → slots_of (words_of pages) ≡ Some front → find_from k front name ≡ find_on k pages name
unfolding slots_of
pages-find k [] front name are e = ap (λ (l : List Slot). find_from k l name) (sym (same_Some _ _ e))
pages-find k (page ∷ pages) front name are e =
    let long = are.0 in
    let h = halves 16 page (words_of pages) front long e in
    let here : k + 0 ≡ k = omega arith in
    let next : k + length h.front ≡ k + 16 = ap (λ (n : ℕ). k + n) h.long in
    ap (λ (l : List Slot). find_from k l name) h.is
    ∙ find-append k h.front h.back name
    ∙ ap (λ (o : Option Found). or_else o (find_from (k + length h.front) h.back name)) (ap (λ (n : ℕ). find_from n h.front name) (sym here) ∙ find-moved k 0 h.front name ∙ ap (λ (l : List Slot). option_map (moved k) (find l name)) (sym (slots-are page h.front h.first)))
    ∙ ap (or_else (option_map (moved k) (find (slots_in page) name))) (ap (λ (n : ℕ). find_from n h.back name) next ∙ pages-find (k + 16) pages h.back name are.1 h.second)

pub words-long : (pages : List (List Word)) → ArePages pages → length (words_of pages) ≡ 4 * (16 * length pages)
words-long [] are = refl
words-long (page ∷ pages) are =
    let one = are.0 in
    length-append page (words_of pages) ∙ omega (arith, one, words-long pages are.1)

pub pages-fronts : (pages : List (List Word)) (slots : List Slot) → ArePages pages → length pages ≤ 8 → decode (words_of pages) ≡ Some slots → Fronts (words_of pages) (16 * length pages) slots
pages-fronts pages slots are few e =
    let long = words-long pages are in
    fronts (words_of pages) (16 * length pages) slots long (omega arith) e

pub pages-names : (pages : List (List Word)) (slots : List Slot) (name : Name) → ArePages pages → length pages ≤ 8 → decode (words_of pages) ≡ Some slots → find slots name ≡ find_on 0 pages name
pages-names pages slots name are few e =
    let f = pages-fronts pages slots are few e in
    fronts-find (words_of pages) (16 * length pages) slots name f ∙ pages-find 0 pages f.front name are f.are

-- ---- each page

pages-each : (pages : List (List Word)) (front : List Slot) (i : ℕ) (page : List Word) → ArePages pages → slots_of (words_of pages) ≡ Some front → are_in_order front ≡ true → slice_get pages i ≡ Some page → AreSlots page
pages-each [] front i page are e order at = absurd (none-some page at)
pages-each (first ∷ pages) front zero page are e order at =
    let long = are.0 in
    let h = halves 16 first (words_of pages) front long e in
    let slots = slots-are first h.front h.first in
    let in_front = order-front h.front h.back (ap are_in_order (sym h.is) ∙ order) in
    subst AreSlots (same_Some first page at) (record { slots = h.first ∙ ap (λ (l : List Slot). Some l) (sym slots); in_order = ap are_in_order slots ∙ in_front })
pages-each (first ∷ pages) front (suc i) page are e order at =
    let long = are.0 in
    let h = halves 16 first (words_of pages) front long e in
    pages-each pages h.back i page are.1 h.second (order-back h.front h.back (ap are_in_order (sym h.is) ∙ order)) at

pub pages-slots : (pages : List (List Word)) (slots : List Slot) (i : ℕ) (page : List Word) → ArePages pages → length pages ≤ 8 → decode (words_of pages) ≡ Some slots → slice_get pages i ≡ Some page → AreSlots page
pages-slots pages slots i page are few e at =
    let f = pages-fronts pages slots are few e in
    pages-each pages f.front i page are f.are (order-front f.front f.back (ap are_in_order (sym f.both) ∙ f.in_order)) at

-- ---- places

-- a place is there
record HasPlace (o : Option ℕ) : Type 0 where
  place : ℕ
  is : o ≡ Some place

never-place : (k : ℕ) (slots : List Slot) → list_any was_never slots ≡ true → HasPlace (free_from k slots)
never-place k [] has = absurd (true≢false (sym has))
never-place k (Never ∷ rest) has = record { place = k; is = refl }
never-place k (Gone ∷ rest) has = record { place = k; is = refl }
never-place k (Used x ∷ rest) has = never-place (k + 1) rest has

pub pages-free : (k : ℕ) (pages : List (List Word)) (front : List Slot) → ArePages pages → slots_of (words_of pages) ≡ Some front → free_from k front ≡ slot_on k pages
unfolding slots_of
pages-free k [] front are e = ap (free_from k) (sym (same_Some _ _ e))
pages-free k (page ∷ pages) front are e =
    let long = are.0 in
    let h = halves 16 page (words_of pages) front long e in
    let here : k + 0 ≡ k = omega arith in
    let next : k + length h.front ≡ k + 16 = ap (λ (n : ℕ). k + n) h.long in
    ap (free_from k) h.is
    ∙ free-append k h.front h.back
    ∙ ap (λ (o : Option ℕ). or_else o (free_from (k + length h.front) h.back)) (ap (λ (n : ℕ). free_from n h.front) (sym here) ∙ free-moved k 0 h.front ∙ ap (λ (l : List Slot). option_map (λ i. k + i) (slot_for l)) (sym (slots-are page h.front h.first)))
    ∙ ap (or_else (option_map (λ i. k + i) (slot_for (slots_in page)))) (ap (λ (n : ℕ). free_from n h.back) next ∙ pages-free (k + 16) pages h.back are.1 h.second)

free-low : (n : ℕ) {j k : ℕ} {all : List Slot} → FreeAt j k all → k < n → free_from j (take n all) ≡ Some (j + k)
free-low zero h low = absurd (omega arith)
free-low (suc n) (never j rest) low = ap (λ (i : ℕ). Some i) {x = j} {y = j + 0} (omega arith)
free-low (suc n) (gone j rest) low = ap (λ (i : ℕ). Some i) {x = j} {y = j + 0} (omega arith)
free-low (suc n) (used j k x rest h) low = free-low n h (omega arith) ∙ ap (λ (i : ℕ). Some i) {x = (j + 1) + k} {y = j + suc k} (omega arith)

free-high : (n : ℕ) {j k : ℕ} {all : List Slot} → FreeAt j k all → n ≤ k → free_from j (take n all) ≡ None
free-high zero h high = refl
free-high (suc n) (never j rest) high = absurd (omega arith)
free-high (suc n) (gone j rest) high = absurd (omega arith)
free-high (suc n) (used j k x rest h) high = free-high n h (omega arith)

pub free-taken : (m : ℕ) (all : List Slot) → FreeAt 0 m all → free_from 0 (take MOST_ENTRIES all) ≡ entry_slot (Some m)
free-taken m all h = by (nat_lt m MOST_ENTRIES) refl
  where
    by : (t : Bool) → nat_lt m MOST_ENTRIES ≡ t → free_from 0 (take MOST_ENTRIES all) ≡ cond t (Some m) None
    by true e =
        let low : m < MOST_ENTRIES = grind (arith, nat_tests) in
        free-low MOST_ENTRIES h low ∙ ap (λ (i : ℕ). Some i) {x = 0 + m} {y = m} (omega arith)
    by false e =
        let high : MOST_ENTRIES ≤ m = grind (arith, nat_tests) in
        free-high MOST_ENTRIES h high

pub pages-places : (pages : List (List Word)) (slots : List Slot) → ArePages pages → length pages ≤ 8 → decode (words_of pages) ≡ Some slots → has_never (words_of pages) ≡ true → slot_for slots ≡ entry_slot (slot_on 0 pages)
pages-places pages slots are few e has =
    let f = pages-fronts pages slots are few e in
    let p = never-place 0 f.front (sym (never-slots (words_of pages) f.front f.are) ∙ has) in
    let here : free_from 0 f.front ≡ Some p.place = p.is in
    let all : free_from 0 f.all ≡ Some (0 + p.place) = ap (free_from 0) f.both ∙ free-append 0 f.front f.back ∙ ap (λ (o : Option ℕ). or_else o (free_from (0 + length f.front) f.back)) here ∙ ap (λ (i : ℕ). Some i) {x = p.place} {y = 0 + p.place} (omega arith) in
    ap (free_from 0) f.is ∙ free-taken p.place f.all (free-at 0 p.place f.all all) ∙ ap entry_slot (sym here ∙ pages-free 0 pages f.front are f.are)
