-- The entry in a slot of a directory.
use Rattle.std.proofs.Common.{◌≡◌, ℕ, ◌+◌, ◌*◌, ◌-◌, ◌<◌, ◌≤◌, Bool, true, false, cond, List, ◌++◌, length, drop, replicate, get_or, Some, None, refl, sym, ap, ◌∙◌, arith}
use Rattle.std.proofs.Math.ListN.{get_or-append}
use Rattle.std.proofs.lemmas.List.{get_or-take, get_or-drop, get_or-append_right, get_or-replicate}
use Rattle.psos_limits.specs.declared.TheConstants.{MOST_ENTRIES}
use Rattle.psos_caps.specs.Capability.{Capability}
use Rattle.psos_words.specs.declared.word.Word.{Word}
use Rattle.psos_words.specs.declared.word.Word.TheVariants.{Data, Cap}
use Rattle.psos_words.specs.Directory.{Slot, Never, mark_of, name_from, is_filled_name, slot_of}
use Rattle.psos_dirrep.specs.Entries.{entry_in, read_entry}
use Rattle.psos_dirrep.specs.EntryLists.{entry_list, IsEntryList}
use Rattle.psos_dirrep.specs.Lists.{FromSlot}
use Rattle.psos_dirrep.specs.Pages.{words_of}
use Rattle.psos_dirrep.proofs.DecodeTests.{slots-drop}
use Rattle.psos_dirrep.proofs.PageLaws.{slots-are}
use Rattle.psos_dirrep.proofs.Slots.{by_slot}
use Rattle.psos_dirrep.proofs.SlotSteps.{At, at-slot}
use Rattle.psos_dirrep.proofs.WholeSearch.{AllSlots, list-all}

entry_read : (h l : ℕ) (cap : Capability) (kept : Bool) → is_filled_name (name_from h l) ≡ true → read_entry (Data (mark_of kept)) (Data h) (Data l) (Cap cap) ≡ Some (record { name = name_from h l; cap = cap; kept = kept })
entry_read h l cap true filled = ap (λ (b : Bool). cond b (Some (record { name = name_from h l; cap = cap; kept = true })) None) filled
entry_read h l cap false filled = ap (λ (b : Bool). cond b (Some (record { name = name_from h l; cap = cap; kept = false })) None) filled

-- four words that are a slot are the entry in it
pub read-entry : (a b c d : Word) (slot : Slot) → slot_of a b c d ≡ Some slot → read_entry a b c d ≡ entry_in slot
read-entry a b c d slot e =
    let P : Word → Word → Word → Word → Slot → Type 0 = λ a b c d slot. read_entry a b c d ≡ entry_in slot in
    by_slot P refl refl (λ h l cap kept filled. entry_read h l cap kept filled) a b c d slot e

slot-at : (pages : List (List Word)) (k : ℕ) (a : AllSlots pages) → k < MOST_ENTRIES → get_or (entry_list (words_of pages)) k Never ≡ get_or (a.xs ++ replicate a.filled.more Never) k Never
slot-at pages k a low = ap (λ (l : List Slot). get_or l k Never) a.is ∙ get_or-take MOST_ENTRIES (a.xs ++ replicate a.filled.more Never) k Never low

-- behind the pages no slot was ever used
pub get-past : (pages : List (List Word)) (k : ℕ) → IsEntryList pages → 16 * length pages ≤ k → k < MOST_ENTRIES → get_or (entry_list (words_of pages)) k Never ≡ Never
get-past pages k e past low =
    let a = list-all pages e in
    let count = a.filled.count in
    let long = a.filled.long in
    slot-at pages k a low ∙ get_or-append_right a.xs (replicate a.filled.more Never) (length a.xs) k Never refl (omega arith) ∙ get_or-replicate a.filled.more (k - length a.xs) Never Never (omega arith)

-- on the pages slot k is the one that its words are
pub get-here : (pages : List (List Word)) (k : ℕ) → IsEntryList pages → k < 16 * length pages → k < MOST_ENTRIES
    → read_entry (At pages (4 * k)) (At pages (4 * k + 1)) (At pages (4 * k + 2)) (At pages (4 * k + 3)) ≡ entry_in (get_or (entry_list (words_of pages)) k Never)
get-here pages k e within low =
    let a = list-all pages e in
    let count = a.filled.count in
    let from : FromSlot pages k = record { are = e.are; few = e.few; within = omega arith } in
    let rest = slots-drop k (words_of pages) a.xs a.are in
    let in_rest = slots-are (drop (4 * k) (words_of pages)) (drop k a.xs) rest in
    let s = at-slot pages k from within (rest ∙ ap (λ (l : List Slot). Some l) (sym in_rest)) in
    let at : k + 0 ≡ k = omega arith in
    let first : get_or a.xs k Never ≡ s.slot =
    ap (λ (n : ℕ). get_or a.xs n Never) (sym at) ∙ sym (get_or-drop k a.xs 0 Never) ∙ ap (λ (l : List Slot). get_or l 0 Never) (sym in_rest ∙ s.is) in
    let slot = slot-at pages k a low ∙ get_or-append a.xs (replicate a.filled.more Never) Never k (omega arith) ∙ first in
    read-entry (At pages (4 * k)) (At pages (4 * k + 1)) (At pages (4 * k + 2)) (At pages (4 * k + 3)) s.slot s.here ∙ ap entry_in (sym slot)
