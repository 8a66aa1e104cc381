-- The words of pages, slot by slot.
use Rattle.std.proofs.Common.{◌≡◌, ℕ, zero, suc, ◌+◌, ◌*◌, ◌<◌, ◌≤◌, Bool, true, false, not, ◌&&◌, ◌||◌, List, [], ◌∷◌, ◌++◌, length, drop, get_or, slice_get, Option, Some, None, refl, sym, ap, ◌∙◌, arith}
use Rattle.std.proofs.Math.ListN.{get_or-append}
use Rattle.std.specs.Prelude.{is_some, option_map}
use Rattle.std.specs.Option.{option_and_then}
use Rattle.std.specs.List.{list_any}
use Rattle.std.proofs.lemmas.Bool.{true≢false}
use Rattle.std.proofs.lemmas.List.{get_or-append-add}
use Rattle.std.proofs.lemmas.Option.{same_Some, none-some, get_or_from_slice_get}
use Rattle.psos_words.specs.declared.word.Word.{Word}
use Rattle.psos_words.specs.declared.word.Word.TheVariants.{Data}
use Rattle.psos_words.specs.Words.{word_at}
use Rattle.psos_words.specs.Directory.{Slot, Never, mark_of, name_from, slot_of, slots_of, has_name, are_apart}
use Rattle.psos_dirrep.specs.Lists.{order_from, used_halves, is_named, FromSlot}
use Rattle.psos_dirrep.specs.Pages.{words_of, slots_in, ArePages}
use Rattle.psos_dirrep.specs.Scan.{is_never}
use Rattle.psos_dirrep.proofs.PageLaws.{words-long, slots-are}
use Rattle.psos_dirrep.proofs.PageSearch.{four}
use Rattle.psos_dirrep.proofs.Slots.{by_slot, slots-split}

-- ---- words of pages

pub flat-word : (pages : List (List Word)) (q r : ℕ) (page : List Word) (w : Word) → ArePages pages → q < length pages → r < 64 → page ≡ get_or pages q page → slice_get page r ≡ Some w → w ≡ word_at (words_of pages) (64 * q + r)
flat-word [] q r page w are within small is at = absurd (omega arith)
flat-word (first ∷ pages) zero r page w are within small is at =
    let long = are.0 in
    let here : 64 * 0 + r ≡ r = omega arith in
    let first_at : slice_get first r ≡ Some w = ap (λ (p : List Word). slice_get p r) (sym is) ∙ at in
    sym (ap (λ (i : ℕ). word_at (first ++ words_of pages) i) here ∙ get_or-append first (words_of pages) (Data 0) r (omega arith) ∙ get_or_from_slice_get first r w (Data 0) first_at)
flat-word (first ∷ pages) (suc q) r page w are within small is at =
    let long = are.0 in
    let there : 64 * suc q + r ≡ length first + (64 * q + r) = omega arith in
    flat-word pages q r page w are.1 (omega arith) small is at
    ∙ sym (ap (λ (i : ℕ). word_at (first ++ words_of pages) i) there ∙ get_or-append-add first (words_of pages) (64 * q + r) (Data 0))

drop_all : (n : ℕ) (l : List Word) → length l ≤ n → drop n l ≡ []
drop_all zero [] h = refl
drop_all zero (x ∷ l) h = absurd (omega arith)
drop_all (suc n) [] h = refl
drop_all (suc n) (x ∷ l) h = drop_all n l (omega arith)

-- past the last slot there is nothing
pub at-end : (pages : List (List Word)) (g : ℕ) → FromSlot pages g → 16 * length pages ≤ g → drop (4 * g) (words_of pages) ≡ []
at-end pages g from end =
    let long = words-long pages from.are in
    drop_all (4 * g) (words_of pages) (omega arith)

-- the slot after one is a place again
pub next-slot : (pages : List (List Word)) (g : ℕ) → FromSlot pages g → g < 16 * length pages → FromSlot pages (g + 1)
next-slot pages g from within = record { are = from.are; few = from.few; within = omega arith }

abbrev pub Later : List (List Word) → ℕ → List Word
Later pages g = drop (4 * (g + 1)) (words_of pages)

abbrev pub At : List (List Word) → ℕ → Word
At pages i = word_at (words_of pages) i

-- the four words of slot g, and those behind
pub four-of : (pages : List (List Word)) (g : ℕ) → FromSlot pages g → g < 16 * length pages
    → drop (4 * g) (words_of pages) ≡ At pages (4 * g) ∷ At pages (4 * g + 1) ∷ At pages (4 * g + 2) ∷ At pages (4 * g + 3) ∷ Later pages g
four-of pages g from within =
    let long = words-long pages from.are in
    four (words_of pages) g (omega arith)

-- ---- whether words are slots

pub slots-some : (a b c d : Word) (rest : List Word) → is_some (slots_of (a ∷ b ∷ c ∷ d ∷ rest)) ≡ (is_some (slot_of a b c d) && is_some (slots_of rest))
unfolding slots_of
slots-some a b c d rest = by (slot_of a b c d) (slots_of rest)
  where
    by : (o : Option Slot) (os : Option (List Slot)) → is_some (option_and_then (λ slot. option_map (λ later. slot ∷ later) os) o) ≡ (is_some o && is_some os)
    by None os = refl
    by (Some s) None = refl
    by (Some s) (Some l) = refl

pub slots-none : is_some (slots_of []) ≡ true
unfolding slots_of
slots-none = refl

pub nothing-in : slots_in [] ≡ []
unfolding slots_of
nothing-in = refl

-- ---- slot g

pub record AtSlot (pages : List (List Word)) (g : ℕ) : Type 0 where
  pub slot : Slot
  pub here : slot_of (At pages (4 * g)) (At pages (4 * g + 1)) (At pages (4 * g + 2)) (At pages (4 * g + 3)) ≡ Some slot
  pub after : slots_of (Later pages g) ≡ Some (slots_in (Later pages g))
  pub is : slots_in (drop (4 * g) (words_of pages)) ≡ slot ∷ slots_in (Later pages g)

pub at-slot : (pages : List (List Word)) (g : ℕ) → FromSlot pages g → g < 16 * length pages → slots_of (drop (4 * g) (words_of pages)) ≡ Some (slots_in (drop (4 * g) (words_of pages))) → AtSlot pages g
at-slot pages g from within slots =
    let e = four-of pages g from within in
    let s = slots-split (At pages (4 * g)) (At pages (4 * g + 1)) (At pages (4 * g + 2)) (At pages (4 * g + 3)) (Later pages g) (slots_in (drop (4 * g) (words_of pages))) (ap slots_of (sym e) ∙ slots) in
    let rest = slots-are (Later pages g) s.later s.after in
    record {
      slot = s.slot;
      here = s.here;
      after = s.after ∙ ap (λ (l : List Slot). Some l) (sym rest);
      is = s.is ∙ ap (λ (l : List Slot). s.slot ∷ l) (sym rest);
    }

-- ---- order

used_is_not_never : (kept : Bool) → is_never (Data (mark_of kept)) ≡ false
used_is_not_never true = refl
used_is_not_never false = refl

pub order-never : (a b c d : Word) (slot : Slot) (rest : List Slot) (ended : Bool) → slot_of a b c d ≡ Some slot → is_never a ≡ true → order_from ended (slot ∷ rest) ≡ order_from true rest
order-never a b c d slot rest ended e is =
    let P : Word → Word → Word → Word → Slot → Type 0 = λ a b c d slot. is_never a ≡ true → order_from ended (slot ∷ rest) ≡ order_from true rest in
    by_slot P (λ _. by ended) (λ is. absurd (true≢false (sym is))) (λ h l cap kept filled is. absurd (true≢false (sym is ∙ used_is_not_never kept))) a b c d slot e is
  where
    by : (t : Bool) → order_from t (Never ∷ rest) ≡ order_from true rest
    by true = refl
    by false = refl

pub order-ended : (a b c d : Word) (slot : Slot) (rest : List Slot) → slot_of a b c d ≡ Some slot → is_never a ≡ false → order_from true (slot ∷ rest) ≡ false
order-ended a b c d slot rest e is =
    let P : Word → Word → Word → Word → Slot → Type 0 = λ a b c d slot. is_never a ≡ false → order_from true (slot ∷ rest) ≡ false in
    by_slot P (λ is. absurd (true≢false is)) (λ is. refl) (λ h l cap kept filled is. refl) a b c d slot e is

pub order-going : (a b c d : Word) (slot : Slot) (rest : List Slot) → slot_of a b c d ≡ Some slot → is_never a ≡ false → order_from false (slot ∷ rest) ≡ order_from false rest
order-going a b c d slot rest e is =
    let P : Word → Word → Word → Word → Slot → Type 0 = λ a b c d slot. is_never a ≡ false → order_from false (slot ∷ rest) ≡ order_from false rest in
    by_slot P (λ is. absurd (true≢false is)) (λ is. refl) (λ h l cap kept filled is. refl) a b c d slot e is

-- ---- names

used_has_halves : (kept : Bool) (h l : ℕ) → used_halves (Data (mark_of kept)) (Data h) (Data l) ≡ Some (h, l)
used_has_halves true h l = refl
used_has_halves false h l = refl

pub apart-used : (a b c d : Word) (slot : Slot) (rest : List Slot) (p : ℕ × ℕ) → slot_of a b c d ≡ Some slot → used_halves a b c ≡ Some p → are_apart (slot ∷ rest) ≡ (not (list_any (has_name (name_from p.0 p.1)) rest) && are_apart rest)
apart-used a b c d slot rest p e is =
    let P : Word → Word → Word → Word → Slot → Type 0 = λ a b c d slot. used_halves a b c ≡ Some p → are_apart (slot ∷ rest) ≡ (not (list_any (has_name (name_from p.0 p.1)) rest) && are_apart rest) in
    by_slot P (λ is. absurd (none-some p is)) (λ is. absurd (none-some p is))
    (λ h l cap kept filled is. ap (λ (q : ℕ × ℕ). not (list_any (has_name (name_from q.0 q.1)) rest) && are_apart rest) (same_Some (h, l) p (sym (used_has_halves kept h l) ∙ is)))
    a b c d slot e is

pub apart-none : (a b c d : Word) (slot : Slot) (rest : List Slot) → slot_of a b c d ≡ Some slot → used_halves a b c ≡ None → are_apart (slot ∷ rest) ≡ are_apart rest
apart-none a b c d slot rest e is =
    let P : Word → Word → Word → Word → Slot → Type 0 = λ a b c d slot. used_halves a b c ≡ None → are_apart (slot ∷ rest) ≡ are_apart rest in
    by_slot P (λ is. refl) (λ is. refl) (λ h l cap kept filled is. absurd (none-some (h, l) (sym is ∙ used_has_halves kept h l))) a b c d slot e is

pub any-step : (a b c d : Word) (slot : Slot) (rest : List Slot) (high low : ℕ) → slot_of a b c d ≡ Some slot
    → list_any (has_name (name_from high low)) (slot ∷ rest) ≡ (is_named (used_halves a b c) high low || list_any (has_name (name_from high low)) rest)
any-step a b c d slot rest high low e =
    let any = list_any (has_name (name_from high low)) rest in
    let P : Word → Word → Word → Word → Slot → Type 0 = λ a b c d slot. list_any (has_name (name_from high low)) (slot ∷ rest) ≡ (is_named (used_halves a b c) high low || any) in
    by_slot P refl refl (λ h l cap kept filled. ap (λ (o : Option (ℕ × ℕ)). is_named o high low || any) (sym (used_has_halves kept h l))) a b c d slot e
