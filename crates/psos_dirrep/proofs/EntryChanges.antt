-- What writing one slot does to a directory.
use Rattle.std.proofs.Common.{◌≡◌, ◌≢◌, ℕ, zero, suc, ◌+◌, ◌*◌, ◌<◌, Bool, true, false, cond, not, ◌&&◌, ◌||◌, List, [], ◌∷◌, length, length-take, length-set, take, drop, set, slice_get, Option, Some, None, refl, sym, ap, ◌∙◌, arith}
use Rattle.std.proofs.Math.Seq.{take-set-lt}
use Rattle.std.proofs.lemmas.List.{drop-set-lt}
use Rattle.std.proofs.lemmas.Option.{none-some, slice_get_within}
use Rattle.std.specs.List.{list_any}
use Rattle.std.proofs.lemmas.Bool.{and_parts}
use Rattle.psos_limits.specs.declared.TheConstants.{MOST_ENTRIES}
use Rattle.psos_text.specs.declared.name.Name.{Name}
use Rattle.psos_words.specs.declared.word.Word.{Word}
use Rattle.psos_words.specs.declared.word.Word.TheVariants.{Data, Cap}
use Rattle.psos_words.specs.Directory.{Entry, Slot, Never, Gone, Used, Found, same_name, mark_of, name_high, name_low, slot_of, are_never, are_in_order, are_apart, has_name, entry_words, gone_words, find_from, free_from}
use Rattle.psos_dirrep.specs.Changes.{HasRoom, HasAdded, HasEntry, HasRemoved}
use Rattle.psos_dirrep.specs.Replacement.{with_words}
use Rattle.psos_dirrep.proofs.NameBytes.{bytes_differ}
use Rattle.psos_dirrep.proofs.SlotChanges.{or_parts, not-true, free-at, free-within, order-added, apart-added, found-added, others-added, order-removed, apart-removed, gone-removed, others-removed}
use Rattle.psos_dirrep.proofs.SlotSearch.{never-find}
use Rattle.psos_dirrep.proofs.Directories.{IsDirectory, decoded, decodes, slots-written, written-length, entry-slot}

-- another name has other bytes
other_name : (a b : Name) → b ≢ a → same_name a b ≡ false
other_name a b differ = bytes_differ a.bytes b.bytes (λ e. differ (ap (λ (bytes : List ℕ). (let n : Name = record { bytes = bytes } in n)) (sym e)))

-- the entry slots of a directory are its slots but the last
slots-long : (words : List Word) (slots : List Slot) (d : IsDirectory words slots) → length slots ≡ MOST_ENTRIES
slots-long words slots d =
    let count = d.count in
    ap length d.is ∙ omega (arith, length-take MOST_ENTRIES d.all)

-- what is free among the first slots is free among all
free-take : (j n m : ℕ) (all : List Slot) → free_from j (take n all) ≡ Some m → free_from j all ≡ Some m
free-take j zero m all e = absurd (none-some m e)
free-take j (suc n) m [] e = absurd (none-some m e)
free-take j (suc n) m (Never ∷ rest) e = e
free-take j (suc n) m (Gone ∷ rest) e = e
free-take j (suc n) m (Used x ∷ rest) e = free-take (j + 1) n m rest e

-- what is not found among the first is not found, where the others were never used
pub find-take : (j n : ℕ) (all : List Slot) (name : Name) → are_never (drop n all) ≡ true → find_from j (take n all) name ≡ find_from j all name
find-take j zero all name never = sym (never-find j all name never)
find-take j (suc n) [] name never = refl
find-take j (suc n) (Never ∷ rest) name never = find-take (j + 1) n rest name never
find-take j (suc n) (Gone ∷ rest) name never = find-take (j + 1) n rest name never
find-take j (suc n) (Used x ∷ rest) name never = ap (λ (o : Option Found). cond (same_name x.name name) (Some (record { slot = j; entry = x })) o) (find-take (j + 1) n rest name never)

get-take : (n k : ℕ) (all : List Slot) (slot : Slot) → slice_get (take n all) k ≡ Some slot → slice_get all k ≡ Some slot
get-take zero k all slot e = absurd (none-some slot e)
get-take (suc n) k [] slot e = absurd (none-some slot e)
get-take (suc n) zero (x ∷ rest) slot e = e
get-take (suc n) (suc k) (x ∷ rest) slot e = get-take n k rest slot e

-- no two of the first slots have one name, where no two of all have
any-take : (p : Slot → Bool) (n : ℕ) (all : List Slot) → list_any p all ≡ false → list_any p (take n all) ≡ false
any-take p zero all e = refl
any-take p (suc n) [] e = refl
any-take p (suc n) (x ∷ rest) e =
    let parts = or_parts (p x) (list_any p rest) e in
    ap (λ (b : Bool). b || list_any p (take n rest)) parts.0 ∙ any-take p n rest parts.1

apart-take : (n : ℕ) (all : List Slot) → are_apart all ≡ true → are_apart (take n all) ≡ true
apart-take zero all e = refl
apart-take (suc n) [] e = refl
apart-take (suc n) (Never ∷ rest) e = apart-take n rest e
apart-take (suc n) (Gone ∷ rest) e = apart-take n rest e
apart-take (suc n) (Used x ∷ rest) e =
    let parts = and_parts (not (list_any (has_name x.name) rest)) (are_apart rest) e in
    ap (λ (b : Bool). not b && are_apart (take n rest)) (any-take (has_name x.name) n rest (not-true (list_any (has_name x.name) rest) parts.0)) ∙ apart-take n rest parts.1

-- a slot of a directory is written
written-is : (words : List Word) (slots : List Slot) (k : ℕ) (a b c d : Word) (slot : Slot) (w : IsDirectory words slots) → k < MOST_ENTRIES → slot_of a b c d ≡ Some slot
    → are_in_order (set w.all k slot) ≡ true → are_apart (set w.all k slot) ≡ true → IsDirectory (with_words words (4 * k) (a ∷ b ∷ c ∷ d ∷ [])) (set slots k slot)
written-is words slots k a b c d slot w within is order apart =
    let count = w.count in
    record {
      all = set w.all k slot;
      are = slots-written words k w.all a b c d slot w.are (omega arith) is;
      count = length-set w.all k slot ∙ count;
      last = ap are_never (drop-set-lt MOST_ENTRIES w.all k slot within) ∙ w.last;
      in_order = order;
      apart = apart;
      is = ap (λ (l : List Slot). set l k slot) w.is ∙ sym (take-set-lt MOST_ENTRIES w.all k slot within);
    }

pub entry-added : (words : List Word) (slots : List Slot) (k : ℕ) (e : Entry) → HasRoom words slots k e → HasAdded (with_words words (4 * k) (entry_words e.name e.cap e.kept)) slots k e
entry-added words slots k e h =
    let w = decoded words slots h.whole.long h.whole.decoded in
    let at : k ≡ 0 + k = omega arith in
    let slot : free_from 0 slots ≡ Some (0 + k) = h.slot ∙ ap (λ (n : ℕ). Some n) at in
    let free = free-at 0 k slots slot in
    let long = slots-long words slots w in
    let within : k < MOST_ENTRIES = omega (arith, free-within free) in
    let free_all = free-at 0 k w.all (free-take 0 MOST_ENTRIES (0 + k) w.all (ap (free_from 0) (sym w.is) ∙ slot)) in
    let new_all : find_from 0 w.all e.name ≡ None = sym (find-take 0 MOST_ENTRIES w.all e.name w.last) ∙ ap (λ (l : List Slot). find_from 0 l e.name) (sym w.is) ∙ h.new in
    let after = with_words words (4 * k) (entry_words e.name e.cap e.kept) in
    let after_long = written-length words (4 * k) (entry_words e.name e.cap e.kept) ∙ h.whole.long in
    let dir = written-is words slots k (Data (mark_of e.kept)) (Data (name_high e.name)) (Data (name_low e.name)) (Cap e.cap) (Used e) w within (entry-slot e.name e.cap e.kept h.named) (order-added e free_all w.in_order) (apart-added e free_all new_all w.apart) in
    record {
      whole = record { long = after_long; decoded = decodes after (set slots k (Used e)) after_long dir };
      found = found-added e free h.new ∙ ap (λ (n : ℕ). (let f : Found = record { slot = n; entry = e } in Some f)) (sym at);
      others = λ name differ. others-added e name free (other_name e.name name differ);
    }

pub entry-removed : (words : List Word) (slots : List Slot) (k : ℕ) (e : Entry) → HasEntry words slots k e → HasRemoved (with_words words (4 * k) gone_words) slots k e
entry-removed words slots k e h =
    let w = decoded words slots h.whole.long h.whole.decoded in
    let long = slots-long words slots w in
    let in_slots = slice_get_within slots k (Used e) h.there in
    let within : k < MOST_ENTRIES = omega (arith, in_slots) in
    let there_all = get-take MOST_ENTRIES k w.all (Used e) (ap (λ (l : List Slot). slice_get l k) (sym w.is) ∙ h.there) in
    let after = with_words words (4 * k) gone_words in
    let after_long = written-length words (4 * k) gone_words ∙ h.whole.long in
    let dir = written-is words slots k (Data 3) (Data 0) (Data 0) (Data 0) Gone w within refl (order-removed w.all k e there_all w.in_order) (apart-removed w.all k w.apart) in
    record {
      whole = record { long = after_long; decoded = decodes after (set slots k Gone) after_long dir };
      gone = gone-removed 0 slots k e h.there (ap are_apart w.is ∙ apart-take MOST_ENTRIES w.all w.apart);
      others = λ name differ. others-removed 0 slots k e name h.there (other_name e.name name differ);
    }
