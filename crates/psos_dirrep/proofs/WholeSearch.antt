-- A search of all pages, one after another.
use Rattle.std.proofs.Common.{◌≡◌, ℕ, zero, suc, ◌+◌, ◌*◌, ◌-◌, ◌<◌, ◌≤◌, Bool, true, false, cond, ◌&&◌, eqb, List, [], ◌∷◌, ◌++◌, length, take, drop, replicate, Option, Some, None, refl, sym, ap, ◌∙◌, arith}
use Rattle.std.specs.Prelude.{option_map, nat_lt, slice_get}
use Rattle.std.specs.List.{AllByRecursion}
use Rattle.std.proofs.lemmas.Bool.Decides.{nat_tests}
use Rattle.std.proofs.lemmas.Option.{same_Some, none-some}
use Rattle.psos_limits.specs.declared.TheConstants.{MOST_ENTRIES}
use Rattle.psos_text.specs.declared.name.Name.{Name}
use Rattle.psos_words.specs.declared.word.Word.{Word}
use Rattle.psos_words.specs.declared.word.Word.TheVariants.{Data, Cap}
use Rattle.psos_words.specs.Directory.{Slot, Never, Gone, Used, Found as SlotFound, slots_of, are_never, are_in_order, are_apart, find, slot_for, free_from}
use Rattle.psos_dirrep.specs.declared.found.Found.{Found}
use Rattle.psos_dirrep.specs.Entries.{as_found}
use Rattle.psos_dirrep.specs.Scan.{entry_at}
use Rattle.psos_dirrep.specs.EntryLists.{entry_list, IsEntryList}
use Rattle.psos_dirrep.specs.Pages.{words_of, AreSlots, or_else, moved, find_on, slot_on, entry_slot, behind}
use Rattle.psos_dirrep.proofs.SlotChanges.{free-at}
use Rattle.psos_dirrep.proofs.DecodeTests.{Filled, filled-up}
use Rattle.psos_dirrep.proofs.Directories.{some_if}
use Rattle.psos_dirrep.proofs.PageLaws.{pages-slots, pages-names, pages-fronts, pages-free, free-taken}
use Rattle.psos_dirrep.proofs.PageSlots.{free-append}

-- each page is slots in order
pub all-slots : (pages : List (List Word)) → ((i : ℕ) (page : List Word) → slice_get pages i ≡ Some page → AreSlots page) → AllByRecursion AreSlots pages
all-slots [] each = tt
all-slots (page ∷ pages) each = (each 0 page refl, all-slots pages (λ i p at. each (suc i) p at))

pub list-slots : (pages : List (List Word)) → IsEntryList pages → AllByRecursion AreSlots pages
list-slots pages e = all-slots pages (λ i page at. pages-slots pages (entry_list (words_of pages)) i page e.are e.few e.list at)

pub list-find : (pages : List (List Word)) (name : Name) → IsEntryList pages → find_on 0 pages name ≡ find (entry_list (words_of pages)) name
list-find pages name e = sym (pages-names pages (entry_list (words_of pages)) name e.are e.few e.list)

-- what is found on a page is found in the directory by its first slot
pub entry-moved : (here : Option SlotFound) (base k : ℕ) (a d : Word) → option_map as_found here ≡ entry_at k a d → entry_at (base + k) a d ≡ option_map as_found (option_map (moved base) here)
entry-moved None base k (Data m) (Cap x) e = absurd (none-some _ e)
entry-moved None base k (Data m) (Data n) e = refl
entry-moved None base k (Cap y) d e = refl
entry-moved (Some f) base k (Data m) (Data n) e = absurd (none-some (as_found f) (sym e))
entry-moved (Some f) base k (Cap y) d e = absurd (none-some (as_found f) (sym e))
entry-moved (Some f) base k (Data m) (Cap x) e = ap (λ (found : Found). (let moved_on : Found = record { slot = base + found.slot; cap = found.cap; kept = found.kept } in Some moved_on)) (sym (same_Some (as_found f) _ e))

pub none-moved : (here : Option SlotFound) (base : ℕ) → option_map as_found here ≡ None → ◌≡◌ {A = Option Found} None (option_map as_found (option_map (moved base) here))
none-moved None base e = refl
none-moved (Some f) base e = absurd (none-some (as_found f) (sym e))

-- ---- places

free-none : (j n : ℕ) (all : List Slot) → free_from j all ≡ None → free_from j (take n all) ≡ None
free-none j zero all e = refl
free-none j (suc n) [] e = refl
free-none j (suc n) (Never ∷ rest) e = absurd (none-some j (sym e))
free-none j (suc n) (Gone ∷ rest) e = absurd (none-some j (sym e))
free-none j (suc n) (Used x ∷ rest) e = free-none (j + 1) n rest e

-- the slots of a directory and those behind its pages
pub record AllSlots (pages : List (List Word)) : Type 0 where
  pub xs : List Slot
  pub are : slots_of (words_of pages) ≡ Some xs
  pub filled : Filled pages xs
  pub is : entry_list (words_of pages) ≡ take MOST_ENTRIES (xs ++ replicate filled.more Never)

pub list-all : (pages : List (List Word)) → IsEntryList pages → AllSlots pages
list-all pages e =
    let fr = pages-fronts pages (entry_list (words_of pages)) e.are e.few e.list in
    let f = filled-up pages fr.front e.are e.few fr.are in
    let all = fr.front ++ replicate f.more Never in
    let found = some_if (eqb (length all) 128 && are_never (drop MOST_ENTRIES all) && are_in_order all && are_apart all) (take MOST_ENTRIES all) (entry_list (words_of pages)) (sym f.decoded ∙ e.list) in
    record { xs = fr.front; are = fr.are; filled = f; is = sym found.1 }

behind-is : (pages : List (List Word)) (xs : List Slot) (f : Filled pages xs) → length pages ≤ 8 → free_from (0 + length xs) (replicate f.more Never) ≡ behind pages
behind-is pages xs f few = by (nat_lt (length pages) 8) refl
  where
    by : (t : Bool) → nat_lt (length pages) 8 ≡ t → free_from (0 + length xs) (replicate f.more Never) ≡ cond t (Some (16 * length pages)) None
    by true is =
        let less : length pages < 8 = grind (arith, nat_tests) in
        let count = f.count in
        let long = f.long in
        let some : f.more ≡ suc (f.more - 1) = omega arith in
        ap (λ (m : ℕ). free_from (0 + length xs) (replicate m Never)) some ∙ ap (λ (n : ℕ). Some n) {x = 0 + length xs} {y = 16 * length pages} (omega arith)
    by false is =
        let all : 8 ≤ length pages = grind (arith, nat_tests) in
        let count = f.count in
        let long = f.long in
        let none : f.more ≡ 0 = omega arith in
        ap (λ (m : ℕ). free_from (0 + length xs) (replicate m Never)) none

pub list-slot : (pages : List (List Word)) → IsEntryList pages → entry_slot (or_else (slot_on 0 pages) (behind pages)) ≡ slot_for (entry_list (words_of pages))
list-slot pages e =
    let a = list-all pages e in
    let all = a.xs ++ replicate a.filled.more Never in
    let place : free_from 0 all ≡ or_else (slot_on 0 pages) (behind pages) = free-append 0 a.xs (replicate a.filled.more Never) ∙ ap (or_else (free_from 0 a.xs)) (behind-is pages a.xs a.filled e.few) ∙ ap (λ (o : Option ℕ). or_else o (behind pages)) (pages-free 0 pages a.xs e.are a.are) in
    ap entry_slot (sym place) ∙ by all (free_from 0 all) refl ∙ ap (free_from 0) (sym a.is)
  where
    by : (l : List Slot) (o : Option ℕ) → free_from 0 l ≡ o → entry_slot o ≡ free_from 0 (take MOST_ENTRIES l)
    by l None is = sym (free-none 0 MOST_ENTRIES l is)
    by l (Some m) is = sym (free-taken m l (free-at 0 m l (is ∙ ap (λ (n : ℕ). Some n) {x = m} {y = 0 + m} (omega arith))))
