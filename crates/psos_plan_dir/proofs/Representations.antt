-- The pages of a directory's representation at level 7.
use Rattle.std.proofs.Common.{◌≡◌, ℕ, zero, suc, ◌+◌, ◌*◌, ◌/◌, ◌<◌, Bool, true, false, ◌||◌, List, [], ◌∷◌, ◌++◌, length, length-drop, take, drop, Option, Some, None, refl, sym, subst, ap, ◌∙◌, arith}
use Rattle.std.specs.Prelude.{slice_index_or, slice_get}
use Rattle.std.specs.List.{list_any}
use Rattle.std.proofs.Math.Seq.{take-add, take-length, drop-drop}
use Rattle.std.proofs.Math.ListN.{drop_of_length-le}
use Rattle.std.proofs.lemmas.Bool.{true≢false}
use Rattle.std.proofs.lemmas.List.{take-append-drop, length-take-le}
use Rattle.std.proofs.lemmas.Option.{none-some}
use Rattle.psos_limits.specs.declared.TheConstants.{SLOTS, MOST_WORDS, MOST_ENTRIES}
use Rattle.psos_table.specs.Table.{at}
use Rattle.psos_caps.specs.declared.rights.Rights.{Rights}
use Rattle.psos_words.specs.declared.word.Word.{Word}
use Rattle.psos_words.specs.Directory.{Slot, Never, Gone, Used, are_never, decode, has_never}
use Rattle.psos_dirrep.specs.Changes.{IsWhole}
use Rattle.psos_dirrep.specs.Pages.{words_of, was_never, ArePages, AreSlots}
use Rattle.psos_dirrep.proofs.Directories.{decoded}
use Rattle.psos_dirrep.proofs.PageLaws.{front-whole, pages-slots}
use Rattle.psos_dirrep.proofs.NeverUsedSlots.{never-parts, never-slots}
use Rattle.psos_calls.specs.declared.obj_row.ObjRow.{ObjRow}
use Rattle.psos_calls.specs.declared.seg_row.SegRow.{SegRow}
use Rattle.psos_calls.specs.Language.Tests.{if_there}
use Rattle.psos_calls.specs.Levels.Level7.{Pages, slot_words, place_in_slot, page_words}
use Rattle.psos_calls.specs.Levels.Level8.{slot_of}
use Rattle.psos_calls.specs.Levels.Level9.{rep_of}
use Rattle.psos_calls.specs.Levels.{Levels}
use Rattle.psos_calls.specs.Levels.Lists.{HasLists}

-- ---- an entry list has a slot that was never used

or_true : (b : Bool) → (b || true) ≡ true
or_true true = refl
or_true false = refl

any-never : (n : ℕ) (slots : List Slot) → n < length slots → are_never (drop n slots) ≡ true → list_any was_never slots ≡ true
any-never n [] short e = absurd (omega arith)
any-never zero (Never ∷ rest) short e = refl
any-never zero (Gone ∷ rest) short e = absurd (true≢false (sym e))
any-never zero (Used x ∷ rest) short e = absurd (true≢false (sym e))
any-never (suc n) (x ∷ rest) short e = ap (λ (b : Bool). was_never x || b) (any-never n rest (omega arith) e) ∙ or_true (was_never x)

pub list-never : (words : List Word) (slots : List Slot) → length words ≡ MOST_WORDS → decode words ≡ Some slots → has_never words ≡ true
list-never words slots long e =
    let d = decoded words slots long e in
    let count = d.count in
    never-slots words d.all d.are ∙ any-never MOST_ENTRIES d.all (omega arith) d.last

-- ---- page by page

pub page_of_number : (slot k : ℕ) → k < 8 → (8 * slot + k) / 8 ≡ slot
page_of_number slot k small = omega arith

place_of_page : (slot k : ℕ) → k < 8 → place_in_slot (8 * slot + k) 0 ≡ 64 * k
place_of_page slot k small = omega arith

-- the words of a slot are an entry list
pub record HoldsList (pages : Pages) (slot : ℕ) : Type 0 where
  pub low : slot < SLOTS
  pub long : length (slot_words pages slot) ≡ MOST_WORDS
  pub entry_slots : List Slot
  pub list : decode (slot_words pages slot) ≡ Some entry_slots

-- the words of the pages before page k of a slot
abbrev pub Before : Pages → ℕ → ℕ → List Word
Before pages slot k = take (64 * k) (slot_words pages slot)

module _ (pages : Pages) (slot : ℕ) (h : HoldsList pages slot) where
  page_is : (k : ℕ) → k < 8 → page_words pages (8 * slot + k) ≡ take 64 (drop (64 * k) (slot_words pages slot))
  page_is k small =
      ap (λ (n : ℕ). take 64 (drop (place_in_slot (8 * slot + k) 0) (slot_words pages n))) (page_of_number slot k small)
      ∙ ap (λ (n : ℕ). take 64 (drop n (slot_words pages slot))) (place_of_page slot k small)

  pub page-long : (k : ℕ) → k < 8 → length (page_words pages (8 * slot + k)) ≡ 64
  page-long k small =
      let long = h.long in
      let left = length-drop (64 * k) (slot_words pages slot) in
      ap length (page_is k small) ∙ length-take-le 64 (drop (64 * k) (slot_words pages slot)) (omega arith)

  -- the words of one page more
  pub front-is : (k : ℕ) → k < 8 → (words : List Word) → words ≡ Before pages slot k → words ++ page_words pages (8 * slot + k) ≡ Before pages slot (k + 1)
  front-is k small words e =
      ap (λ (ws : List Word). ws ++ page_words pages (8 * slot + k)) e
      ∙ ap (λ (ws : List Word). Before pages slot k ++ ws) (page_is k small)
      ∙ sym (take-add (64 * k) 64 (slot_words pages slot))
      ∙ ap (λ (n : ℕ). take n (slot_words pages slot)) {x = 64 * k + 64} {y = 64 * (k + 1)} (omega arith)

  words_long : (k : ℕ) → k < 8 → (words : List Word) → words ≡ Before pages slot k → length words ≡ 4 * (16 * k)
  words_long k small words e =
      let long = h.long in
      ap length e ∙ length-take-le (64 * k) (slot_words pages slot) (omega arith) ∙ omega arith

  pub front-never : (k : ℕ) → k < 8 → (words : List Word) → words ≡ Before pages slot k → has_never (page_words pages (8 * slot + k)) ≡ true → has_never (words ++ page_words pages (8 * slot + k)) ≡ true
  front-never k small words e seen =
      never-parts words (page_words pages (8 * slot + k)) (16 * k) (words_long k small words e) ∙ ap (λ (b : Bool). has_never words || b) seen ∙ or_true (has_never words)

  -- pages up to one with a slot that was never used are the whole directory
  pub front-decodes : (k : ℕ) → k < 8 → (words : List Word) → words ≡ Before pages slot k → has_never (page_words pages (8 * slot + k)) ≡ true
      → decode (words ++ page_words pages (8 * slot + k)) ≡ Some h.entry_slots
  front-decodes k small words e seen =
      let all = slot_words pages slot in
      let page = page_words pages (8 * slot + k) in
      let m = 64 * (k + 1) in
      let long = h.long in
      let front : words ++ page ≡ take m all = front-is k small words e in
      let front_long : length (words ++ page) ≡ 4 * (16 * (k + 1)) = ap length front ∙ length-take-le m all (omega arith) ∙ omega arith in
      let both : (words ++ page) ++ drop m all ≡ all = ap (λ (ws : List Word). ws ++ drop m all) front ∙ take-append-drop m all in
      let whole : IsWhole ((words ++ page) ++ drop m all) h.entry_slots = subst (λ (ws : List Word). IsWhole ws h.entry_slots) (sym both) (record { long = h.long; decoded = h.list }) in
      front-whole (words ++ page) (drop m all) (16 * (k + 1)) h.entry_slots whole front_long (front-never k small words e seen)

  -- and so are eight pages
  pub all-pages : (k : ℕ) → 8 ≡ k → (words : List Word) → words ≡ Before pages slot k → words ≡ slot_words pages slot
  all-pages k all words e =
      let long = h.long in
      let m : 64 * k ≡ length (slot_words pages slot) = omega arith in
      e ∙ ap (λ (n : ℕ). take n (slot_words pages slot)) m ∙ take-length (slot_words pages slot)

  -- ---- each page is one of a directory

  -- so many pages, from page k on
  abbrev from : ℕ → ℕ → List (List Word)
  from zero k = []
  from (suc n) k = page_words pages (8 * slot + k) ∷ from n (k + 1)

  from_words : (n k : ℕ) → n + k ≡ 8 → words_of (from n k) ≡ drop (64 * k) (slot_words pages slot)
  from_words zero k all =
      let long = h.long in
      sym (drop_of_length-le (slot_words pages slot) {i = 64 * k} (omega arith))
  from_words (suc n) k all =
      let words = drop (64 * k) (slot_words pages slot) in
      let next : drop (64 * (k + 1)) (slot_words pages slot) ≡ drop 64 words =
      ap (λ (i : ℕ). drop i (slot_words pages slot)) {x = 64 * (k + 1)} {y = 64 * k + 64} (omega arith) ∙ sym (drop-drop 64 (64 * k) (slot_words pages slot)) in
      ap (λ (page : List Word). page ++ words_of (from n (k + 1))) (page_is k (omega arith))
      ∙ ap (λ (rest : List Word). take 64 words ++ rest) (from_words n (k + 1) (omega arith) ∙ next)
      ∙ take-append-drop 64 words

  from_pages : (n k : ℕ) → n + k ≡ 8 → ArePages (from n k)
  from_pages zero k all = tt
  from_pages (suc n) k all = (page-long k (omega arith), from_pages n (k + 1) (omega arith))

  from_count : (n k : ℕ) → length (from n k) ≡ n
  from_count zero k = refl
  from_count (suc n) k = ap suc (from_count n (k + 1))

  from_at : (n k i : ℕ) → i < n → slice_get (from n k) i ≡ Some (page_words pages (8 * slot + (k + i)))
  from_at zero k i less = absurd (omega arith)
  from_at (suc n) k zero less = ap (λ (p : ℕ). Some (page_words pages (8 * slot + p))) {x = k} {y = k + 0} (omega arith)
  from_at (suc n) k (suc i) less = from_at n (k + 1) i (omega arith) ∙ ap (λ (p : ℕ). Some (page_words pages (8 * slot + p))) {x = (k + 1) + i} {y = k + suc i} (omega arith)

  pub page-slots : (k : ℕ) → k < 8 → AreSlots (page_words pages (8 * slot + k))
  page-slots k small =
      let count = from_count 8 0 in
      pages-slots (from 8 0) h.entry_slots k (page_words pages (8 * slot + k)) (from_pages 8 0 refl) (omega arith) (ap decode (from_words 8 0 refl) ∙ h.list)
      (from_at 8 0 k small ∙ ap (λ (p : ℕ). Some (page_words pages (8 * slot + p))) {x = 0 + k} {y = k} (omega arith))

-- ---- from a directory to its slot

taken_low : {X : Type 0} (pages : List (Option X)) (slot : ℕ) (x : X) → slice_index_or pages slot None ≡ Some x → slot < length pages
taken_low [] slot x e = absurd (none-some x e)
taken_low (p ∷ pages) zero x e = omega arith
taken_low (p ∷ pages) (suc slot) x e =
    let later = taken_low pages slot x e in
    omega arith

pub holds : (l : Levels) (lists : HasLists l) (dir : ℕ) (guard : Rights) → at l.dirs dir ≡ Some guard → HoldsList l.pages (slot_of l.segs (rep_of l.types dir))
holds l lists dir guard live =
    let h = lists.each dir guard live in
    let rep : rep_of l.types dir ≡ h.object.rep.uid = ap (λ (o : Option ObjRow). if_there o 0 (λ r. r.rep.uid)) h.there in
    let slot : slot_of l.segs (rep_of l.types dir) ≡ h.segment.slot = ap (slot_of l.segs) rep ∙ ap (λ (o : Option SegRow). if_there o 0 (λ r. r.slot)) h.live in
    let all = lists.slots in
    let low = taken_low l.pages h.segment.slot h.taken.0 h.taken.1 in
    let held : HoldsList l.pages h.segment.slot = record { low = omega arith; long = h.long; entry_slots = h.entry_slots; list = h.list } in
    subst (HoldsList l.pages) (sym slot) held
