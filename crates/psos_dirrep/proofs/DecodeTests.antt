-- Pages are an entry list exactly where their slots are in order and apart, and the last of 128 was never used.
use Rattle.std.proofs.Common.{◌≡◌, ℕ, zero, suc, ◌+◌, ◌*◌, ◌-◌, ◌<◌, ◌≤◌, Bool, true, false, cond, not, ◌&&◌, ◌||◌, eqb, List, [], ◌∷◌, ◌++◌, length, length-append, append-nil, take, drop, replicate, Option, Some, None, refl, sym, ap, subst, ◌∙◌, arith}
use Rattle.std.specs.Prelude.{is_some, nat_lt}
use Rattle.std.specs.List.{list_any}
use Rattle.std.specs.Option.{unwrap_or, option_and_then}
use Rattle.std.proofs.Math.Seq.{drop-append-add}
use Rattle.std.proofs.lemmas.Bool.{true≢false}
use Rattle.std.proofs.lemmas.Bool.Decides.{nat_tests}
use Rattle.std.proofs.lemmas.List.{length-replicate, drop-replicate}
use Rattle.std.proofs.lemmas.Option.{same_Some, none-some}
use Rattle.psos_limits.specs.declared.TheConstants.{MOST_WORDS, MOST_ENTRIES}
use Rattle.psos_words.specs.declared.word.Word.{Word}
use Rattle.psos_words.specs.declared.word.Word.TheVariants.{Data}
use Rattle.psos_words.specs.Words.{zeros, word_at}
use Rattle.psos_words.specs.Directory.{Entry, Slot, Never, Gone, Used, mark_of, slot_of, slots_of, has_name, are_never, are_in_order, are_apart, entry_slots, decode}
use Rattle.psos_dirrep.specs.EntryLists.{entry_list, ends_never}
use Rattle.psos_dirrep.specs.Lists.{FromSlot}
use Rattle.psos_dirrep.specs.Pages.{words_of, slots_in, ArePages}
use Rattle.psos_dirrep.specs.Scan.{is_never}
use Rattle.psos_dirrep.proofs.PageLaws.{words-long, slots-are}
use Rattle.psos_dirrep.proofs.PageSlots.{halves}
use Rattle.psos_dirrep.proofs.Slots.{by_slot, slots-split, slots-cons}
use Rattle.psos_dirrep.proofs.SlotSteps.{At, at-slot, at-end, nothing-in}

-- ---- words and data 0 behind them

pub slots-append : (a b : List Word) (xs ys : List Slot) → slots_of a ≡ Some xs → slots_of b ≡ Some ys → slots_of (a ++ b) ≡ Some (xs ++ ys)
unfolding slots_of
slots-append [] b xs ys e f = f ∙ ap (λ (l : List Slot). Some (l ++ ys)) (same_Some _ _ e)
slots-append (x ∷ []) b xs ys e f = absurd (none-some xs e)
slots-append (x ∷ y ∷ []) b xs ys e f = absurd (none-some xs e)
slots-append (x ∷ y ∷ z ∷ []) b xs ys e f = absurd (none-some xs e)
slots-append (x ∷ y ∷ z ∷ w ∷ a) b xs ys e f =
    let s = slots-split x y z w a xs e in
    slots-cons x y z w (a ++ b) s.slot (s.later ++ ys) s.here (slots-append a b s.later ys s.after f) ∙ ap (λ (l : List Slot). Some (l ++ ys)) (sym s.is)

zeros-slots : (m : ℕ) → slots_of (zeros (4 * m)) ≡ Some (replicate m Never)
unfolding slots_of
zeros-slots zero = refl
zeros-slots (suc m) =
    let more : 4 * suc m ≡ suc (suc (suc (suc (4 * m)))) = omega arith in
    ap (λ (n : ℕ). slots_of (zeros n)) more ∙ slots-cons (Data 0) (Data 0) (Data 0) (Data 0) (zeros (4 * m)) Never (replicate m Never) refl (zeros-slots m)

never-nevers : (m : ℕ) → are_never (replicate m Never) ≡ true
never-nevers zero = refl
never-nevers (suc m) = never-nevers m

never-behind : (xs : List Slot) (m : ℕ) → are_never (xs ++ replicate m Never) ≡ are_never xs
never-behind [] m = never-nevers m
never-behind (Never ∷ xs) m = never-behind xs m
never-behind (Gone ∷ xs) m = refl
never-behind (Used x ∷ xs) m = refl

order-nevers : (m : ℕ) → are_in_order (replicate m Never) ≡ true
order-nevers zero = refl
order-nevers (suc m) = never-nevers m

order-behind : (xs : List Slot) (m : ℕ) → are_in_order (xs ++ replicate m Never) ≡ are_in_order xs
order-behind [] m = order-nevers m
order-behind (Never ∷ xs) m = never-behind xs m
order-behind (Gone ∷ xs) m = order-behind xs m
order-behind (Used x ∷ xs) m = order-behind xs m

any-nevers : (e : Entry) (m : ℕ) → list_any (has_name e.name) (replicate m Never) ≡ false
any-nevers e zero = refl
any-nevers e (suc m) = any-nevers e m

any-behind : (e : Entry) (xs : List Slot) (m : ℕ) → list_any (has_name e.name) (xs ++ replicate m Never) ≡ list_any (has_name e.name) xs
any-behind e [] m = any-nevers e m
any-behind e (x ∷ xs) m = ap (λ (b : Bool). has_name e.name x || b) (any-behind e xs m)

apart-nevers : (m : ℕ) → are_apart (replicate m Never) ≡ true
apart-nevers zero = refl
apart-nevers (suc m) = apart-nevers m

apart-behind : (xs : List Slot) (m : ℕ) → are_apart (xs ++ replicate m Never) ≡ are_apart xs
apart-behind [] m = apart-nevers m
apart-behind (Never ∷ xs) m = apart-behind xs m
apart-behind (Gone ∷ xs) m = apart-behind xs m
apart-behind (Used x ∷ xs) m =
    ap (λ (b : Bool). not b && are_apart (xs ++ replicate m Never)) (any-behind x xs m) ∙ ap (λ (b : Bool). not (list_any (has_name x.name) xs) && b) (apart-behind xs m)

-- ---- the last slot

pub slots-drop : (g : ℕ) (words : List Word) (xs : List Slot) → slots_of words ≡ Some xs → slots_of (drop (4 * g) words) ≡ Some (drop g xs)
unfolding slots_of
slots-drop zero words xs e = e
slots-drop (suc g) [] xs e = subst (λ (l : List Slot). slots_of (drop (4 * suc g) []) ≡ Some (drop (suc g) l)) (same_Some _ _ e) (ap (λ (n : ℕ). slots_of (drop n [])) {x = 4 * suc g} {y = suc (4 * g + 3)} (omega arith))
slots-drop (suc g) (a ∷ []) xs e = absurd (none-some xs e)
slots-drop (suc g) (a ∷ b ∷ []) xs e = absurd (none-some xs e)
slots-drop (suc g) (a ∷ b ∷ c ∷ []) xs e = absurd (none-some xs e)
slots-drop (suc g) (a ∷ b ∷ c ∷ d ∷ rest) xs e =
    let s = slots-split a b c d rest xs e in
    let more : 4 * suc g ≡ suc (suc (suc (suc (4 * g)))) = omega arith in
    ap (λ (n : ℕ). slots_of (drop n (a ∷ b ∷ c ∷ d ∷ rest))) more ∙ slots-drop g rest s.later s.after ∙ ap (λ (l : List Slot). Some (drop (suc g) l)) (sym s.is)

one-never : (a b c d : Word) (slot : Slot) → slot_of a b c d ≡ Some slot → are_never (slot ∷ []) ≡ is_never a
one-never a b c d slot e =
    let P : Word → Word → Word → Word → Slot → Type 0 = λ a b c d slot. are_never (slot ∷ []) ≡ is_never a in
    by_slot P refl refl (λ h l cap kept filled. by kept) a b c d slot e
  where
    by : (kept : Bool) → false ≡ is_never (Data (mark_of kept))
    by true = refl
    by false = refl

last-on : (pages : List (List Word)) (xs : List Slot) → ArePages pages → length pages ≡ 8 → slots_of (words_of pages) ≡ Some xs → are_never (drop MOST_ENTRIES xs) ≡ is_never (word_at (words_of pages) 508)
last-on pages xs are eight e =
    let from : FromSlot pages MOST_ENTRIES = record { are = are; few = omega arith; within = omega arith } in
    let past : FromSlot pages 128 = record { are = are; few = omega arith; within = omega arith } in
    let rest = slots-drop MOST_ENTRIES (words_of pages) xs e in
    let in_rest = slots-are (drop (4 * MOST_ENTRIES) (words_of pages)) (drop MOST_ENTRIES xs) rest in
    let s = at-slot pages MOST_ENTRIES from (omega arith) (rest ∙ ap (λ (l : List Slot). Some l) (sym in_rest)) in
    let nothing : slots_in (drop (4 * 128) (words_of pages)) ≡ [] = ap slots_in (at-end pages 128 past (omega arith)) ∙ nothing-in in
    ap are_never (sym in_rest ∙ s.is ∙ ap (λ (l : List Slot). s.slot ∷ l) nothing) ∙ one-never (At pages 508) (At pages 509) (At pages 510) (At pages 511) s.slot s.here

-- ---- the tests

four_tests : Bool → Bool → Bool → Bool → Bool
four_tests a b c d = a && b && c && d

is_some-cond : {X : Type 0} (b : Bool) (x : X) → is_some (cond b (Some x) None) ≡ b
is_some-cond true x = refl
is_some-cond false x = refl

-- the slots of pages filled up, and how many are added
pub record Filled (pages : List (List Word)) (xs : List Slot) : Type 0 where
  pub more : ℕ
  pub long : length xs + more ≡ 128
  pub count : length xs ≡ 16 * length pages
  pub decoded : decode (words_of pages) ≡ entry_slots (xs ++ replicate more Never)

pub filled-up : (pages : List (List Word)) (xs : List Slot) → ArePages pages → length pages ≤ 8 → slots_of (words_of pages) ≡ Some xs → Filled pages xs
unfolding decode
filled-up pages xs are few e =
    let long = words-long pages are in
    let h = halves (16 * length pages) (words_of pages) [] xs long (ap slots_of (append-nil (words_of pages)) ∙ e) in
    let is : h.front ≡ xs = same_Some h.front xs (sym h.first ∙ e) in
    let count : length xs ≡ 16 * length pages = ap length (sym is) ∙ h.long in
    let more = 128 - 16 * length pages in
    let left : MOST_WORDS - length (words_of pages) ≡ 4 * more = omega arith in
    record {
      more = more;
      long = omega arith;
      count = count;
      decoded = ap (λ (n : ℕ). option_and_then entry_slots (slots_of (words_of pages ++ zeros n))) left ∙ ap (option_and_then entry_slots) (slots-append (words_of pages) (zeros (4 * more)) xs (replicate more Never) e (zeros-slots more));
    }

last-is : (pages : List (List Word)) (xs : List Slot) → ArePages pages → length pages ≤ 8 → slots_of (words_of pages) ≡ Some xs → (f : Filled pages xs) → are_never (drop MOST_ENTRIES (xs ++ replicate f.more Never)) ≡ ends_never pages
last-is pages xs are few e f = by (nat_lt (length pages) 8) refl
  where
    by : (t : Bool) → nat_lt (length pages) 8 ≡ t → are_never (drop MOST_ENTRIES (xs ++ replicate f.more Never)) ≡ cond t true (is_never (word_at (words_of pages) 508))
    by true is =
        let less : length pages < 8 = grind (arith, nat_tests) in
        let count = f.count in
        let at : MOST_ENTRIES ≡ length xs + (MOST_ENTRIES - length xs) = omega arith in
        ap (λ (n : ℕ). are_never (drop n (xs ++ replicate f.more Never))) at
        ∙ ap are_never (drop-append-add xs (replicate f.more Never) (MOST_ENTRIES - length xs))
        ∙ ap are_never (drop-replicate (MOST_ENTRIES - length xs) f.more Never)
        ∙ never-nevers (f.more - (MOST_ENTRIES - length xs))
    by false is =
        let all : 8 ≤ length pages = grind (arith, nat_tests) in
        let count = f.count in
        let long = f.long in
        let none : f.more ≡ 0 = omega arith in
        ap (λ (n : ℕ). are_never (drop MOST_ENTRIES (xs ++ replicate n Never))) none ∙ ap (λ (l : List Slot). are_never (drop MOST_ENTRIES l)) (append-nil xs) ∙ last-on pages xs are (omega arith) e

pub decode-some : (pages : List (List Word)) (xs : List Slot) → ArePages pages → length pages ≤ 8 → slots_of (words_of pages) ≡ Some xs → is_some (decode (words_of pages)) ≡ (true && ends_never pages && are_in_order xs && are_apart xs)
decode-some pages xs are few e =
    let f = filled-up pages xs are few e in
    let all = xs ++ replicate f.more Never in
    let long : length all ≡ 128 = length-append xs (replicate f.more Never) ∙ ap (λ (n : ℕ). length xs + n) (length-replicate f.more Never) ∙ f.long in
    let count : eqb (length all) 128 ≡ true = grind (arith, nat_tests, long) in
    ap is_some f.decoded
    ∙ is_some-cond (eqb (length all) 128 && are_never (drop MOST_ENTRIES all) && are_in_order all && are_apart all) (take MOST_ENTRIES all)
    ∙ ap (λ (b : Bool). b && are_never (drop MOST_ENTRIES all) && are_in_order all && are_apart all) count
    ∙ ap (λ (b : Bool). true && b && are_in_order all && are_apart all) (last-is pages xs are few e f)
    ∙ ap (λ (b : Bool). true && ends_never pages && b && are_apart all) (order-behind xs f.more)
    ∙ ap (λ (b : Bool). true && ends_never pages && are_in_order xs && b) (apart-behind xs f.more)

pub decode-none : (pages : List (List Word)) → ArePages pages → is_some (slots_of (words_of pages)) ≡ false → is_some (decode (words_of pages)) ≡ false
unfolding decode
decode-none pages are none = by (slots_of (words_of pages ++ zeros (MOST_WORDS - length (words_of pages)))) refl
  where
    by : (o : Option (List Slot)) → slots_of (words_of pages ++ zeros (MOST_WORDS - length (words_of pages))) ≡ o → is_some (option_and_then entry_slots o) ≡ false
    by None e = refl
    by (Some all) e =
        let h = halves (16 * length pages) (words_of pages) (zeros (MOST_WORDS - length (words_of pages))) all (words-long pages are) e in
        absurd (true≢false (sym (ap is_some h.first) ∙ none))

-- ---- what the tests tell

pub some-slots : (words : List Word) → is_some (slots_of words) ≡ true → slots_of words ≡ Some (slots_in words)
some-slots words is = by (slots_of words) is
  where
    by : (o : Option (List Slot)) → is_some o ≡ true → o ≡ Some (unwrap_or o [])
    by None e = absurd (true≢false (sym e))
    by (Some l) e = refl

pub is-decoded : (words : List Word) → is_some (decode words) ≡ true → decode words ≡ Some (entry_list words)
is-decoded words is = by (decode words) is
  where
    by : (o : Option (List Slot)) → is_some o ≡ true → o ≡ Some (unwrap_or o [])
    by None e = absurd (true≢false (sym e))
    by (Some l) e = refl

pub not-decoded : (words : List Word) → is_some (decode words) ≡ false → decode words ≡ None
not-decoded words is = by (decode words) is
  where
    by : (o : Option (List Slot)) → is_some o ≡ false → o ≡ None
    by None e = refl
    by (Some l) e = absurd (true≢false e)
