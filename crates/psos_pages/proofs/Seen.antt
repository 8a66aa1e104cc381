-- The slots that the levels above see.
use Rattle.std.proofs.Common.{◌≡◌, ℕ, zero, suc, ◌+◌, ◌-◌, ◌*◌, ◌<◌, ◌≤◌, Bool, true, false, List, [], ◌∷◌, ◌++◌, ◌⊎◌, None, length, take, drop, get_or, set, refl, sym, ap, ◌∙◌, inl, inr, arith}
use Rattle.std.proofs.lemmas.List.{length-append, length-set, get_or_append_left, get_or-append_right, take_at, drop_at, drop-drop, set-append_left, set-append_right}
use Rattle.std.proofs.lemmas.Option.{none-some}
use Rattle.std.proofs.lemmas.Bool.{cases_lt}
use Rattle.psos_store.specs.Slots.{least_free}
use Rattle.psos_words.specs.declared.word.Word.{Word}
use Rattle.psos_words.specs.declared.word.Word.TheVariants.{Data}
use Rattle.psos_words.specs.Words.{word_at}
use Rattle.psos_calls.specs.Levels.Level7.{IsTaken, first_free, slot_words, words_in, written}
use Rattle.psos_pages.specs.Frames.{Paging, words_of}
use Rattle.psos_pages.specs.State.{pages_from, slot_with, slots_from, slots_of}

-- ---- the same words give the same slots

pub pages-same : (n : ℕ) (s t : Paging) (page : ℕ) → ((q : ℕ) → page ≤ q → q < page + n → words_of t q ≡ words_of s q) → pages_from n t page ≡ pages_from n s page
unfolding pages_from
pages-same zero s t page h = refl
pages-same (suc n) s t page h =
    ap (λ w. w ++ pages_from n t (page + 1)) (h page (omega arith) (omega arith))
    ∙ ap (λ r. words_of s page ++ r) (pages-same n s t (page + 1) (λ q l u. h q (omega (arith, l)) (omega (arith, u))))

pub slots-same : (taken : List Bool) (s t : Paging) (page : ℕ) → ((q : ℕ) → words_of t q ≡ words_of s q) → slots_from page taken t ≡ slots_from page taken s
slots-same [] s t page h = refl
slots-same (b ∷ taken) s t page h =
    ap (λ w. slot_with b w ∷ slots_from (page + 8) taken t) (pages-same 8 s t page (λ q l u. h q))
    ∙ ap (λ r. slot_with b (pages_from 8 s page) ∷ r) (slots-same taken s t (page + 8) h)

-- ---- which slots are taken

pub length-slots : (taken : List Bool) (s : Paging) (page : ℕ) → length (slots_from page taken s) ≡ length taken
length-slots [] s page = refl
length-slots (b ∷ taken) s page = ap suc (length-slots taken s (page + 8))

pub first_free-slots : (taken : List Bool) (s : Paging) (page : ℕ) → first_free (slots_from page taken s) ≡ least_free taken
first_free-slots [] s page = refl
first_free-slots (false ∷ taken) s page = refl
first_free-slots (true ∷ taken) s page = ap suc (first_free-slots taken s (page + 8))

-- a slot
pub slot-at : (taken : List Bool) (s : Paging) (page i : ℕ) → i < length taken → get_or (slots_from page taken s) i None ≡ slot_with (get_or taken i false) (pages_from 8 s (page + 8 * i))
slot-at [] s page i h = absurd (omega (arith, h))
slot-at (b ∷ taken) s page zero h = ap (λ n. slot_with b (pages_from 8 s n)) (here page)
  where
    here : (n : ℕ) → n ≡ n + 8 * zero
    here n = omega arith
slot-at (b ∷ taken) s page (suc i) h =
    slot-at taken s (page + 8) i (omega (arith, h)) ∙ ap (λ n. slot_with (get_or taken i false) (pages_from 8 s n)) (further page i)
  where
    further : (n i : ℕ) → n + 8 + 8 * i ≡ n + 8 * suc i
    further n i = omega arith

pub slot-past : (taken : List Bool) (s : Paging) (page i : ℕ) → length taken ≤ i → get_or (slots_from page taken s) i None ≡ None
slot-past [] s page i h = refl
slot-past (b ∷ taken) s page zero h = absurd (omega (arith, h))
slot-past (b ∷ taken) s page (suc i) h = slot-past taken s (page + 8) i (omega (arith, h))

-- a slot that is seen as taken is taken, with the words of its pages
pub record TakenAt (taken : List Bool) (s : Paging) (i : ℕ) : Type 0 where
  pub within : i < length taken
  pub is_taken : get_or taken i false ≡ true
  pub words : slot_words (slots_of taken s) i ≡ pages_from 8 s (8 * i)

pub taken-at : (taken : List Bool) (s : Paging) (i : ℕ) → IsTaken (slots_of taken s) i → TakenAt taken s i
taken-at taken s i t = by (cases_lt i (length taken))
  where
    is : (b : Bool) → get_or taken i false ≡ b → (l : i < length taken) → TakenAt taken s i
    is false e l = absurd (none-some t.0 (sym (slot-at taken s 0 i l ∙ ap (λ b. slot_with b (pages_from 8 s (0 + 8 * i))) e) ∙ t.1))
    is true e l = record {
      within = l;
      is_taken = e;
      words = ap words_in (slot-at taken s 0 i l ∙ ap (λ b. slot_with b (pages_from 8 s (0 + 8 * i))) e) ∙ ap (pages_from 8 s) (none i);
    }
      where
        none : (i : ℕ) → 0 + 8 * i ≡ 8 * i
        none i = omega arith

    by : (i < length taken) ⊎ (length taken ≤ i) → TakenAt taken s i
    by (inl l) = is (get_or taken i false) refl l
    by (inr g) = absurd (none-some t.0 (sym (slot-past taken s 0 i g) ∙ t.1))

-- ---- words in the words of a slot

module _ (s : Paging) (long : (q : ℕ) → length (words_of s q) ≡ 64) where
  pub length-pages : (n page : ℕ) → length (pages_from n s page) ≡ 64 * n
  unfolding pages_from
  length-pages zero page = refl
  length-pages (suc n) page = omega (arith, length-append (words_of s page) (pages_from n s (page + 1)), long page, length-pages n (page + 1))

  -- a word
  pub word-in : (n page k off : ℕ) → k < n → off < 64 → word_at (pages_from n s page) (k * 64 + off) ≡ word_at (words_of s (page + k)) off
  unfolding pages_from
  word-in zero page k off h l = absurd (omega (arith, h))
  word-in (suc n) page zero off h l =
      ap (word_at (words_of s page ++ pages_from n s (page + 1))) (start off) ∙
      get_or_append_left (words_of s page) (pages_from n s (page + 1)) (Data 0) off (omega (arith, l, long page)) ∙ ap (λ q. word_at (words_of s q) off) (none page)
    where
      none : (p : ℕ) → p ≡ p + zero
      none p = omega arith

      start : (off : ℕ) → zero * 64 + off ≡ off
      start off = omega arith
  word-in (suc n) page (suc k) off h l =
      get_or-append_right (words_of s page) (pages_from n s (page + 1)) 64 (suc k * 64 + off) (Data 0) (long page) (omega arith)
      ∙ ap (word_at (pages_from n s (page + 1))) (less k off)
      ∙ word-in n (page + 1) k off (omega (arith, h)) l
      ∙ ap (λ q. word_at (words_of s q) off) (further page k)
    where
      less : (k off : ℕ) → suc k * 64 + off - 64 ≡ k * 64 + off
      less k off = omega arith

      further : (p k : ℕ) → p + 1 + k ≡ p + suc k
      further p k = omega arith

  -- a page
  pub page-in : (n page k : ℕ) → k < n → take 64 (drop (k * 64 + 0) (pages_from n s page)) ≡ words_of s (page + k)
  unfolding pages_from
  page-in zero page k h = absurd (omega (arith, h))
  page-in (suc n) page zero h = take_at (words_of s page) (pages_from n s (page + 1)) 64 (long page) ∙ ap (words_of s) (none page)
    where
      none : (p : ℕ) → p ≡ p + zero
      none p = omega arith
  page-in (suc n) page (suc k) h =
      ap (λ m. take 64 (drop m (words_of s page ++ pages_from n s (page + 1)))) (further k)
      ∙ ap (take 64) (sym (drop-drop (k * 64 + 0) 64 (words_of s page ++ pages_from n s (page + 1))) ∙ ap (drop (k * 64 + 0)) (drop_at (words_of s page) (pages_from n s (page + 1)) 64 (long page)))
      ∙ page-in n (page + 1) k (omega (arith, h))
      ∙ ap (words_of s) (onward page k)
    where
      further : (k : ℕ) → suc k * 64 + 0 ≡ 64 + (k * 64 + 0)
      further k = omega arith

      onward : (p k : ℕ) → p + 1 + k ≡ p + suc k
      onward p k = omega arith

-- words written over the front, or over what is behind it
written-left : (xs ys : List Word) (at : ℕ) (new : List Word) → at + length new ≤ length xs → written (xs ++ ys) at new ≡ written xs at new ++ ys
written-left xs ys at [] h = refl
written-left xs ys at (w ∷ new) h =
    ap (λ l. written l (at + 1) new) (set-append_left xs ys at w (omega (arith, h))) ∙ written-left (set xs at w) ys (at + 1) new (omega (arith, h, length-set xs at w))

written-right : (xs ys : List Word) (n at : ℕ) (new : List Word) → length xs ≡ n → written (xs ++ ys) (n + at) new ≡ xs ++ written ys at new
written-right xs ys n at [] e = refl
written-right xs ys n at (w ∷ new) e =
    ap (λ l. written l (n + at + 1) new) (set-append_right xs ys n (n + at) w e (omega arith) ∙ ap (λ m. xs ++ set ys m w) (less n at))
    ∙ ap (λ m. written (xs ++ set ys at w) m new) (further n at)
    ∙ written-right xs (set ys at w) n (at + 1) new e
  where
    less : (n at : ℕ) → n + at - n ≡ at
    less n at = omega arith

    further : (n at : ℕ) → n + at + 1 ≡ n + (at + 1)
    further n at = omega arith

-- words are written into one page, and no other changes
pub written-in : (s t : Paging) → ((q : ℕ) → length (words_of s q) ≡ 64) → (n page k off : ℕ) (new : List Word) → k < n → off + length new ≤ 64 → words_of t (page + k) ≡ written (words_of s (page + k)) off new
    → ((q : ℕ) → (q ≡ page + k → ⊥) → words_of t q ≡ words_of s q) → pages_from n t page ≡ written (pages_from n s page) (k * 64 + off) new
unfolding pages_from
written-in s t long zero page k off new h l e same = absurd (omega (arith, h))
written-in s t long (suc n) page zero off new h l e same =
    ap (λ w. w ++ pages_from n t (page + 1)) (ap (words_of t) (none page) ∙ e ∙ ap (λ q. written (words_of s q) off new) (sym (none page)))
    ∙ ap (λ r. written (words_of s page) off new ++ r) (pages-same n s t (page + 1) (λ q a b. same q (λ x. absurd (omega (arith, a, x)))))
    ∙ sym (written-left (words_of s page) (pages_from n s (page + 1)) off new (omega (arith, l, long page)))
    ∙ ap (λ m. written (words_of s page ++ pages_from n s (page + 1)) m new) (start off)
  where
    none : (p : ℕ) → p ≡ p + zero
    none p = omega arith

    start : (off : ℕ) → off ≡ zero * 64 + off
    start off = omega arith
written-in s t long (suc n) page (suc k) off new h l e same =
    ap (λ w. w ++ pages_from n t (page + 1)) (same page (λ x. absurd (omega (arith, x))))
    ∙ ap (λ r. words_of s page ++ r) (written-in s t long n (page + 1) k off new (omega (arith, h)) l
    (ap (words_of t) (sym (onward page k)) ∙ e ∙ ap (λ q. written (words_of s q) off new) (onward page k)) (λ q d. same q (λ x. d (x ∙ onward page k))))
    ∙ sym (written-right (words_of s page) (pages_from n s (page + 1)) 64 (k * 64 + off) new (long page))
    ∙ ap (λ m. written (words_of s page ++ pages_from n s (page + 1)) m new) (further k off)
  where
    onward : (p k : ℕ) → p + suc k ≡ p + 1 + k
    onward p k = omega arith

    further : (k off : ℕ) → 64 + (k * 64 + off) ≡ suc k * 64 + off
    further k off = omega arith

-- ---- one slot changes

pub slots-set : (taken : List Bool) (s t : Paging) (page i : ℕ) (b : Bool) → i < length taken → ((q : ℕ) → (q < page + 8 * i) ⊎ (page + 8 * i + 8 ≤ q) → words_of t q ≡ words_of s q)
    → slots_from page (set taken i b) t ≡ set (slots_from page taken s) i (slot_with b (pages_from 8 t (page + 8 * i)))
slots-set [] s t page i b h same = absurd (omega (arith, h))
slots-set (x ∷ taken) s t page zero b h same =
    ap (λ n. slot_with b (pages_from 8 t n) ∷ slots_from (page + 8) taken t) (none page)
    ∙ ap (λ r. slot_with b (pages_from 8 t (page + 8 * zero)) ∷ r) (rest taken (page + 8) (omega arith))
  where
    none : (p : ℕ) → p ≡ p + 8 * zero
    none p = omega arith

    rest : (taken : List Bool) (p : ℕ) → page + 8 ≤ p → slots_from p taken t ≡ slots_from p taken s
    rest [] p l = refl
    rest (y ∷ taken) p l =
        ap (λ w. slot_with y w ∷ slots_from (p + 8) taken t) (pages-same 8 s t p (λ q a b. same q (inr (omega (arith, a, l)))))
        ∙ ap (λ r. slot_with y (pages_from 8 s p) ∷ r) (rest taken (p + 8) (omega (arith, l)))
slots-set (x ∷ taken) s t page (suc i) b h same =
    ap (λ w. slot_with x w ∷ slots_from (page + 8) (set taken i b) t) (pages-same 8 s t page (λ q a b. same q (inl (omega (arith, b)))))
    ∙ ap (λ r. slot_with x (pages_from 8 s page) ∷ r)
    (slots-set taken s t (page + 8) i b (omega (arith, h)) (λ q o. same q (shifted q o)) ∙ ap (λ n. set (slots_from (page + 8) taken s) i (slot_with b (pages_from 8 t n))) (further page i))
  where
    further : (p i : ℕ) → p + 8 + 8 * i ≡ p + 8 * suc i
    further p i = omega arith

    shifted : (q : ℕ) → (q < page + 8 + 8 * i) ⊎ (page + 8 + 8 * i + 8 ≤ q) → (q < page + 8 * suc i) ⊎ (page + 8 * suc i + 8 ≤ q)
    shifted q (inl a) = inl (omega (arith, a))
    shifted q (inr a) = inr (omega (arith, a))
