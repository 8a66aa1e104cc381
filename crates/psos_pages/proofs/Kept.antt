-- The columns of frames and the table of pages, read and changed.
use Rattle.std.proofs.Common.{◌≡◌, ℕ, zero, suc, ◌+◌, ◌-◌, ◌<◌, ◌≤◌, Bool, true, false, List, [], ◌⊎◌, Option, Some, None, length, replicate, get_or, set, refl, sym, ap, ◌∙◌, inl, inr, arith, subst}
use Rattle.std.proofs.lemmas.List.{length-set, get_or_read, get_or-set_same, get_or-set_other, get_or-replicate, length-replicate, length_push}
use Rattle.std.proofs.lemmas.Option.{none-some, same_Some}
use Rattle.std.proofs.lemmas.Bool.{cases_eq, cases_lt, ne_eqb, false≢true}
use Rattle.std.specs.Prelude.{is_some, option_map, if◌then◌else◌, min, ◌==◌}
use Rattle.psos_words.specs.declared.word.Word.{Word}
use Rattle.psos_words.specs.Words.{zeros}
use Rattle.psos_pages.specs.declared.held.Held.{Held}
use Rattle.psos_pages.specs.Frames.{Frame, frame_at, free_frame, frame_of, frame_words, holds, is_used, swept, at_frame, unmarked, next_frame}
use Rattle.psos_pages.specs.Kept.{frame_with, frames_of, IsReached, IsOne, IsTable, IsKept, IsHeld, FramesState}
use Rattle.psos_pages.proofs.Columns.{length-frames, frames-none, get_or-frames, frames-held, frames-put, frames-longer, frame_of-set, free-length, free_le, free-held, free-filled, free-emptied, free-none, before-free}
use Rattle.psos_pages.proofs.Machine.{FoundAt, found-at, AfterSet, after-set, is-within, not-found, no-frame, frame-of}
use Rattle.psos_pages.proofs.Machine.AfterSet.{Here, Apart}

-- ---- reading

-- a frame, by what was read
pub read-held : (held : List (Option Held)) (words : List (List Word)) (i : ℕ) (x : Option Held) → i < length held → x ≡ get_or held i x → frame_at (frames_of held words) i ≡ frame_with x (get_or words i [])
read-held held words i x l e = get_or-frames held words i ∙ ap (λ o. frame_with o (get_or words i [])) (sym (get_or_read held i x l e None))

-- ---- at first

pub kept-new : (n : ℕ) → 0 < n → n ≤ 256 → IsKept (replicate n None) [] (replicate 4168 None) (replicate 4168 false) 0 0
kept-new n some few = record {
  few = omega (arith, length-replicate {A = Option Held} n None, few);
  stands = omega (arith, length-replicate {A = Option Held} n None, some);
  marks = length-replicate {A = Bool} 4168 false;
  there = λ i e. absurd (no-held n i e);
  kept = record {
    least = omega arith;
    below = λ i f e. absurd (no-frame_at i f e);
    one = record { one = λ i j f g e d s. absurd (no-frame_at i f e) };
    pages = length-replicate {A = Option ℕ} 4168 None;
    table = λ page h. get_or-replicate {A = Option ℕ} 4168 page None None h ∙ sym (ap (λ s. frame_of s page) (frames-none n) ∙ nowhere n page);
  };
}
  where
    no-held : (n i : ℕ) → is_some (get_or (replicate {A = Option Held} n None) i None) ≡ true → ⊥
    no-held zero i e = grind (arith, e)
    no-held (suc n) zero e = grind (arith, e)
    no-held (suc n) (suc i) e = no-held n i e

    free-at : (n i : ℕ) (f : Frame) → get_or (replicate {A = Option Frame} n None) i None ≡ Some f → ⊥
    free-at zero i f e = none-some f e
    free-at (suc n) zero f e = none-some f e
    free-at (suc n) (suc i) f e = free-at n i f e

    no-frame_at : (i : ℕ) (f : Frame) → get_or (frames_of (replicate n None) []) i None ≡ Some f → ⊥
    no-frame_at i f e = free-at n i f (ap (λ s. get_or s i None) (sym (frames-none n)) ∙ e)

    nowhere : (n page : ℕ) → frame_of (replicate n None) page ≡ None
    nowhere zero page = refl
    nowhere (suc n) page = ap (option_map suc) (nowhere n page)

-- ---- the sweep

pub swept-more : (n : ℕ) (frames : List (Option Frame)) (hand : ℕ) → 0 < n → is_used (frame_at frames hand) ≡ true
    → swept (n - 1) (at_frame unmarked frames hand) (next_frame (length frames) hand) ≡ swept n frames hand
unfolding swept
swept-more zero frames hand h e = absurd (omega (arith, h))
swept-more (suc n) frames hand h e =
    let less : suc n - 1 ≡ n = omega arith in
    ap (λ m. swept m (at_frame unmarked frames hand) (next_frame (length frames) hand)) less
    ∙ sym (ap (λ b. if b then swept n (at_frame unmarked frames hand) (next_frame (length frames) hand) else (frames, hand)) e)

pub swept-end : (n : ℕ) (frames : List (Option Frame)) (hand : ℕ) → is_used (frame_at frames hand) ≡ false → (frames, hand) ≡ swept n frames hand
unfolding swept
swept-end zero frames hand e = refl
swept-end (suc n) frames hand e = sym (ap (λ b. if b then swept n (at_frame unmarked frames hand) (next_frame (length frames) hand) else (frames, hand)) e)

-- ---- the search for a free frame

-- a held frame
pub held-more : (held : List (Option Held)) (words : List (List Word)) (i : ℕ) (x : Option Held) → i < length held → x ≡ get_or held i x → is_some x ≡ true → i ≤ free_frame (frames_of held words) → i + 1 ≤ free_frame (frames_of held words)
held-more held words i None l e s h = grind (arith, s)
held-more held words i (Some x) l e s h = free-held (frames_of held words) i _ h (read-held held words i (Some x) l e)

-- a free one, behind held ones
pub free-here : (held : List (Option Held)) (words : List (List Word)) (i : ℕ) (x : Option Held) → i < length held → x ≡ get_or held i x → is_some x ≡ false → i ≤ free_frame (frames_of held words) → i ≡ free_frame (frames_of held words)
free-here held words i (Some x) l e s h = grind (arith, s)
free-here held words i None l e s h =
    let behind : free_frame (frames_of held words) ≤ i = free_le (frames_of held words) i (omega (arith, l, length-frames held words)) (read-held held words i None l e) in
    omega (arith, behind, h)

-- none is free
pub free-past : (held : List (Option Held)) (words : List (List Word)) (i : ℕ) → length held ≤ i → i ≤ free_frame (frames_of held words) → i ≡ free_frame (frames_of held words)
free-past held words i l h = omega (arith, l, h, free-length (frames_of held words), length-frames held words)

-- ---- a frame is accessed

-- a frame that is another
pub frames-marked : (held : List (Option Held)) (words : List (List Word)) (i : ℕ) (h to : Held) (change : Frame → Frame) → get_or held i None ≡ Some h
    → ((w : List Word) → option_map change (frame_with (Some h) w) ≡ frame_with (Some to) w)
    → frames_of (set held i (Some to)) words ≡ at_frame change (frames_of held words) i
frames-marked held words i h to change e c =
    frames-held held words i (Some to)
    ∙ ap (λ x. set (frames_of held words) i x) (sym (ap (option_map change) (get_or-frames held words i ∙ ap (λ o. frame_with o (get_or words i [])) e) ∙ c (get_or words i [])))

pub frames-changed : (held : List (Option Held)) (words : List (List Word)) (i : ℕ) (h to : Held) (change : Frame → Frame) (write : List Word → List Word) → i < length words → get_or held i None ≡ Some h
    → ((w : List Word) → option_map change (frame_with (Some h) w) ≡ frame_with (Some to) (write w))
    → frames_of (set held i (Some to)) (set words i (write (get_or words i []))) ≡ at_frame change (frames_of held words) i
frames-changed held words i h to change write l e c =
    frames-put held words i (Some to) (write (get_or words i [])) l
    ∙ ap (λ x. set (frames_of held words) i x) (sym (ap (option_map change) (get_or-frames held words i ∙ ap (λ o. frame_with o (get_or words i [])) e) ∙ c (get_or words i [])))

-- ---- the table after a change

-- one page a frame, where a frame gets a page that no other has
pub one-set : {s : List (Option Frame)} → IsOne s → (i : ℕ) (g : Frame) → ((j : ℕ) (f : Frame) → get_or s j None ≡ Some f → f.page ≡ g.page → j ≡ i) → IsOne (set s i (Some g))
one-set {s} k i g only = record { one = λ a b x y p q e. by a b x y (after-set s i (Some g) a x p) (after-set s i (Some g) b y q) e }
  where
    by : (a b : ℕ) (x y : Frame) → AfterSet s i (Some g) a x → AfterSet s i (Some g) b y → x.page ≡ y.page → a ≡ b
    by a b x y (Here p r) (Here q u) e = p ∙ sym q
    by a b x y (Here p r) (Apart q u) e = p ∙ sym (only b y u (sym e ∙ ap (λ (z : Frame). z.page) (sym (same_Some g x r))))
    by a b x y (Apart p r) (Here q u) e = only a x r (e ∙ ap (λ (z : Frame). z.page) (sym (same_Some g y u))) ∙ sym q
    by a b x y (Apart p r) (Apart q u) e = k.one a b x y r u e

pub one-none : {s : List (Option Frame)} → IsOne s → (i : ℕ) → IsOne (set s i None)
one-none {s} k i = record { one = λ a b x y p q e. k.one a b x y (by a x (after-set s i None a x p)) (by b y (after-set s i None b y q)) e }
  where
    by : (a : ℕ) (x : Frame) → AfterSet s i None a x → get_or s a None ≡ Some x
    by a x (Here p r) = absurd (none-some x r)
    by a x (Apart p r) = r

-- a frame has another state of its page
pub table-changed : {s : List (Option Frame)} {at : List (Option ℕ)} {first : ℕ} → IsTable s at first → (i : ℕ) (f g : Frame) → get_or s i None ≡ Some f → g.page ≡ f.page → IsTable (set s i (Some g)) at first
table-changed {s} {at} {first} k i f g t e = record {
  least = omega (arith, k.least, free-filled s i g);
  below = λ j x p. below j x (after-set s i (Some g) j x p);
  one = one-set k.one i g (λ j x p q. k.one.one j i x f p t (q ∙ e));
  pages = k.pages;
  table = λ page h. k.table page h ∙ sym (frame_of-set s i page (Some g) (ap (holds page) t ∙ ap (λ n. n == page) (sym e)));
}
  where
    below : (j : ℕ) (x : Frame) → AfterSet s i (Some g) j x → x.page < 4168
    below j x (Here p r) = omega (arith, ap (λ (z : Frame). z.page) (same_Some g x r), e, k.below i f t)
    below j x (Apart p r) = k.below j x r

-- a frame is emptied
pub table-emptied : {s : List (Option Frame)} {at : List (Option ℕ)} {first : ℕ} → IsTable s at first → (i : ℕ) (f : Frame) → get_or s i None ≡ Some f → IsTable (set s i None) (set at f.page None) (min first i)
table-emptied {s} {at} {first} k i f t = record {
  least = free-emptied s i (min first i) (omega (arith, k.least)) (omega arith);
  below = λ j x p. below j x (after-set s i None j x p);
  one = one-none k.one i;
  pages = length-set at f.page None ∙ k.pages;
  table = λ page h. table page h (cases_eq page f.page);
}
  where
    below : (j : ℕ) (x : Frame) → AfterSet s i None j x → x.page < 4168
    below j x (Here p r) = absurd (none-some x r)
    below j x (Apart p r) = k.below j x r

    out : (page : ℕ) → page ≡ f.page → (j : ℕ) (x : Frame) → AfterSet s i None j x → x.page ≡ page → ⊥
    out page e j x (Here p r) q = none-some x r
    out page e j x (Apart p r) q = p (k.one.one j i x f r t (q ∙ e))

    table : (page : ℕ) → page < 4168 → (page ≡ f.page) ⊎ (page ≡ f.page → ⊥) → get_or (set at f.page None) page None ≡ frame_of (set s i None) page
    table page h (inl e) =
        ap (λ n. get_or (set at f.page None) n None) e ∙ get_or-set_same at f.page None None (omega (arith, k.below i f t, k.pages))
        ∙ sym (no-frame (set s i None) page (λ j x p q. out page e j x (after-set s i None j x p) q))
    table page h (inr d) =
        get_or-set_other at f.page page None None d ∙ k.table page h
        ∙ sym (frame_of-set s i page None (ap (holds page) t ∙ ne_eqb f.page page (λ e. d (sym e))))

-- a free frame is filled
pub table-filled : {s : List (Option Frame)} {at : List (Option ℕ)} {first : ℕ} → IsTable s at first → (i : ℕ) (g : Frame) → get_or s i None ≡ None → i < length s → frame_of s g.page ≡ None → g.page < 4168
    → IsTable (set s i (Some g)) (set at g.page (Some i)) first
table-filled {s} {at} {first} k i g free within away b = record {
  least = omega (arith, k.least, free-filled s i g);
  below = λ j x p. below j x (after-set s i (Some g) j x p);
  one = one;
  pages = length-set at g.page (Some i) ∙ k.pages;
  table = λ page h. table page h (cases_eq page g.page);
}
  where
    below : (j : ℕ) (x : Frame) → AfterSet s i (Some g) j x → x.page < 4168
    below j x (Here p r) = omega (arith, ap (λ (z : Frame). z.page) (same_Some g x r), b)
    below j x (Apart p r) = k.below j x r

    one : IsOne (set s i (Some g))
    one = one-set k.one i g (λ j x p q. absurd (not-found s g.page away j x p q))

    table : (page : ℕ) → page < 4168 → (page ≡ g.page) ⊎ (page ≡ g.page → ⊥) → get_or (set at g.page (Some i)) page None ≡ frame_of (set s i (Some g)) page
    table page h (inl e) =
        ap (λ n. get_or (set at g.page (Some i)) n None) e ∙ get_or-set_same at g.page (Some i) None (omega (arith, b, k.pages))
        ∙ sym (ap (frame_of (set s i (Some g))) e ∙ frame-of one i g (get_or-set_same s i (Some g) None within))
    table page h (inr d) =
        get_or-set_other at g.page page (Some i) None d ∙ k.table page h
        ∙ sym (frame_of-set s i page (Some g) (ap (holds page) free ∙ sym (ne_eqb g.page page (λ e. d (sym e)))))

-- ---- the columns after a change

abbrev pub frame-page : Held → List Word → Frame
frame-page h w = record { page = h.page; words = w; used = h.used; changed = h.changed }

pub frame-read : (held : List (Option Held)) (words : List (List Word)) (i : ℕ) (h : Held) → get_or held i None ≡ Some h → get_or (frames_of held words) i None ≡ Some (frame-page h (get_or words i []))
frame-read held words i h e = get_or-frames held words i ∙ ap (λ o. frame_with o (get_or words i [])) e

still-there : (held : List (Option Held)) (i n : ℕ) (h to : Held) → get_or held i None ≡ Some h → ((j : ℕ) → is_some (get_or held j None) ≡ true → j < n) → (j : ℕ) → is_some (get_or (set held i (Some to)) j None) ≡ true → j < n
still-there held i n h to e k j s = by (cases_eq j i)
  where
    by : (j ≡ i) ⊎ (j ≡ i → ⊥) → j < n
    by (inl q) = k j (ap (λ m. is_some (get_or held m None)) q ∙ ap (λ (o : Option Held). is_some o) e)
    by (inr d) = k j (ap (λ (o : Option Held). is_some o) (sym (get_or-set_other held i j (Some to) None d)) ∙ s)

module _ {held : List (Option Held)} {words : List (List Word)} {at : List (Option ℕ)} {stored : List Bool} {hand first : ℕ} (k : IsKept held words at stored hand first) where
  pub kept-hand : (to : ℕ) → to < length held → IsKept held words at stored to first
  kept-hand to h = record { few = k.few; stands = h; marks = k.marks; there = k.there; kept = k.kept }

  pub kept-first : (to : ℕ) → to ≤ free_frame (frames_of held words) → IsKept held words at stored hand to
  kept-first to h = record { few = k.few; stands = k.stands; marks = k.marks; there = k.there; kept = record { least = h; below = k.kept.below; one = k.kept.one; pages = k.kept.pages; table = k.kept.table } }

  pub kept-stored : (page : ℕ) (b : Bool) → IsKept held words at (set stored page b) hand first
  kept-stored page b = record { few = k.few; stands = k.stands; marks = length-set stored page b ∙ k.marks; there = k.there; kept = k.kept }

  pub below-held : (i : ℕ) (h : Held) → get_or held i None ≡ Some h → h.page < 4168
  below-held i h e = k.kept.below i (frame-page h (get_or words i [])) (frame-read held words i h e)

  -- a frame is accessed
  pub kept-marked : (i : ℕ) (h to : Held) → get_or held i None ≡ Some h → to.page ≡ h.page → IsKept (set held i (Some to)) words at stored hand first
  kept-marked i h to e p = record {
    few = omega (arith, length-set held i (Some to), k.few);
    stands = omega (arith, length-set held i (Some to), k.stands);
    marks = k.marks;
    there = still-there held i (length words) h to e k.there;
    kept = subst (λ s. IsTable s at first) (sym (frames-held held words i (Some to))) (table-changed k.kept i (frame-page h (get_or words i [])) (frame-page to (get_or words i [])) (frame-read held words i h e) p);
  }

  -- and changed
  pub kept-changed : (i : ℕ) (h to : Held) (these : List Word) → get_or held i None ≡ Some h → to.page ≡ h.page → IsKept (set held i (Some to)) (set words i these) at stored hand first
  kept-changed i h to these e p = record {
    few = omega (arith, length-set held i (Some to), k.few);
    stands = omega (arith, length-set held i (Some to), k.stands);
    marks = k.marks;
    there = λ j s. omega (arith, length-set words i these, still-there held i (length words) h to e k.there j s);
    kept = subst (λ s. IsTable s at first) (sym (frames-put held words i (Some to) these (k.there i (ap (λ (o : Option Held). is_some o) e)))) (table-changed k.kept i (frame-page h (get_or words i [])) (frame-page to these) (frame-read held words i h e) p);
  }

-- what is read of a frame is there
pub here-held : (held : List (Option Held)) (i : ℕ) (x : Option Held) (h : Held) → i < length held → x ≡ get_or held i x → x ≡ Some h → get_or held i None ≡ Some h
here-held held i x h l e s = sym (get_or_read held i x l e None) ∙ s

module _ (held : List (Option Held)) (words : List (List Word)) {hand : ℕ} {stored : List Bool} {v : FramesState} (seen : ◌≡◌ {A = FramesState} (record { frames = frames_of held words; hand = hand; stored = stored }) v) where
  pub count-here : length v.frames ≡ length held
  count-here = sym (ap (λ w. length w.frames) seen) ∙ length-frames held words

  -- a frame that is seen is held
  pub within-held : (i : ℕ) → IsHeld v.frames i → i < length held
  within-held i h = omega (arith, is-within v.frames i h.frame h.there, count-here)

  pub never-free : (i : ℕ) (x : Option Held) → IsHeld v.frames i → x ≡ get_or held i x → x ≡ None → ⊥
  never-free i x h e s =
      let seen_here : get_or v.frames i None ≡ frame_with x (get_or words i []) = sym (ap (λ w. get_or w.frames i None) seen) ∙ read-held held words i x (within-held i h) e in
      none-some h.frame (sym (ap (λ o. frame_with o (get_or words i [])) s) ∙ sym seen_here ∙ h.there)

  -- it has its words
  pub held-some : (i : ℕ) → IsHeld v.frames i → is_some (get_or held i None) ≡ true
  held-some i h = by (get_or held i None) refl
    where
      by : (o : Option Held) → get_or held i None ≡ o → is_some (get_or held i None) ≡ true
      by (Some x) e = ap (λ (o : Option Held). is_some o) e
      by None e = absurd (none-some h.frame (sym (ap (λ o. frame_with o (get_or words i [])) e) ∙ sym (get_or-frames held words i) ∙ ap (λ w. get_or w.frames i None) seen ∙ h.there))

  pub read-words : (i : ℕ) → IsHeld v.frames i → i < length words → (w : List Word) → w ≡ get_or words i w → w ≡ frame_words (frame_at v.frames i)
  read-words i h l w e = by (get_or held i None) refl
    where
      by : (o : Option Held) → get_or held i None ≡ o → w ≡ frame_words (frame_at v.frames i)
      by None o = absurd (false≢true (ap (λ (x : Option Held). is_some x) (sym o) ∙ held-some i h))
      by (Some x) o =
          get_or_read words i w l e []
          ∙ sym (ap frame_words (sym (ap (λ u. get_or u.frames i None) seen) ∙ get_or-frames held words i ∙ ap (λ q. frame_with q (get_or words i [])) o))

  -- its mark used
  pub read-held-here : (i : ℕ) (x : Option Held) → i < length held → x ≡ get_or held i x → get_or v.frames i None ≡ frame_with x (get_or words i [])
  read-held-here i x l e = sym (ap (λ u. get_or u.frames i None) seen) ∙ read-held held words i x l e

  -- the frame of a page
  pub found-held : (page i : ℕ) → frame_of v.frames page ≡ Some i → (h : Held) × (get_or held i None ≡ Some h) × (h.page ≡ page)
  found-held page i e = by (get_or held i None) refl
    where
      it : FoundAt v.frames page i
      it = found-at v.frames page i e

      by : (o : Option Held) → get_or held i None ≡ o → (h : Held) × (get_or held i None ≡ Some h) × (h.page ≡ page)
      by None o = absurd (none-some it.frame (sym (ap (λ q. frame_with q (get_or words i [])) o) ∙ sym (get_or-frames held words i) ∙ ap (λ w. get_or w.frames i None) seen ∙ it.there))
      by (Some h) o =
          (h, o, ap (λ (f : Frame). f.page) (same_Some (frame-page h (get_or words i [])) it.frame (sym (ap (λ q. frame_with q (get_or words i [])) o) ∙ sym (get_or-frames held words i) ∙ ap (λ w. get_or w.frames i None) seen ∙ it.there)) ∙ it.same)

module _ {held : List (Option Held)} {words : List (List Word)} {at : List (Option ℕ)} {stored : List Bool} {hand first : ℕ} (k : IsKept held words at stored hand first) where
  -- a frame is emptied
  pub kept-emptied : (i : ℕ) (h : Held) (page : ℕ) → get_or held i None ≡ Some h → h.page ≡ page → IsKept (set held i None) words (set at page None) stored hand (min first i)
  kept-emptied i h page e p = record {
    few = omega (arith, length-set held i None, k.few);
    stands = omega (arith, length-set held i None, k.stands);
    marks = k.marks;
    there = λ j s. there j (cases_eq j i) s;
    kept = subst (λ q. IsTable (frames_of (set held i None) words) (set at q None) (min first i)) p
        (subst (λ s. IsTable s (set at h.page None) (min first i)) (sym (frames-held held words i None)) (table-emptied k.kept i (frame-page h (get_or words i [])) (frame-read held words i h e)));
  }
    where
      there : (j : ℕ) → (j ≡ i) ⊎ (j ≡ i → ⊥) → is_some (get_or (set held i None) j None) ≡ true → j < length words
      there j (inl q) s = k.there j (ap (λ m. is_some (get_or held m None)) q ∙ ap (λ (o : Option Held). is_some o) e)
      there j (inr d) s = k.there j (ap (λ (o : Option Held). is_some o) (sym (get_or-set_other held i j None None d)) ∙ s)

  -- where a free frame has no words yet, all before it have theirs
  pub next-words : (i : ℕ) → i ≡ free_frame (frames_of held words) → length words ≤ i → i ≡ length words
  next-words i e l = by (cases_lt (length words) i)
    where
      some : (o : Option Held) (w : List Word) → is_some (frame_with o w) ≡ true → is_some o ≡ true
      some None w h = h
      some (Some x) w h = refl

      by : (length words < i) ⊎ (i ≤ length words) → i ≡ length words
      by (inr h) = omega (arith, h, l)
      by (inl h) =
          let seen = before-free (frames_of held words) (length words) (omega (arith, h, e)) in
          let wrong : length words < length words = k.there (length words) (some (get_or held (length words) None) (get_or words (length words) []) (ap (λ (o : Option Frame). is_some o) (sym (get_or-frames held words (length words))) ∙ seen)) in
          absurd (omega (arith, wrong))

  pub words-reach : (i : ℕ) → i ≡ free_frame (frames_of held words) → i ≤ length words
  words-reach i e = by (cases_lt i (length words))
    where
      by : (i < length words) ⊎ (length words ≤ i) → i ≤ length words
      by (inl h) = omega (arith, h)
      by (inr h) = omega (arith, next-words i e h)

  -- a frame gets words, which are not seen
  unseen : get_or held (length words) None ≡ None
  unseen = by (get_or held (length words) None) refl
    where
      by : (o : Option Held) → get_or held (length words) None ≡ o → get_or held (length words) None ≡ None
      by None e = e
      by (Some x) e =
          let wrong : length words < length words = k.there (length words) (ap (λ (o : Option Held). is_some o) e) in
          absurd (omega (arith, wrong))

  pub reached : (new : List (List Word)) → IsReached words new → (frames_of held new ≡ frames_of held words) × IsKept held new at stored hand first
  reached new (inl e) = (ap (frames_of held) e, subst (λ w. IsKept held w at stored hand first) (sym e) k)
  reached new (inr e) =
      let same = frames-longer held words (zeros 64) unseen in (
        ap (frames_of held) e ∙ same,
        subst (λ w. IsKept held w at stored hand first) (sym e) (record {
          few = k.few;
          stands = k.stands;
          marks = k.marks;
          there = λ j s. omega (arith, k.there j s, length_push words (zeros 64));
          kept = subst (λ f. IsTable f at first) (sym same) k.kept;
        }),
      )

  module _ (i : ℕ) (to : Held) (these : List Word) (free : i ≡ free_frame (frames_of held words)) (within : i < length held) (away : frame_of (frames_of held words) to.page ≡ None) (b : to.page < 4168) where
    empty-here : get_or (frames_of held words) i None ≡ None
    empty-here = ap (λ n. get_or (frames_of held words) n None) free ∙ free-none (frames_of held words) (omega (arith, sym free, within, length-frames held words))

    table-here : IsTable (set (frames_of held words) i (Some (frame-page to these))) (set at to.page (Some i)) first
    table-here = table-filled k.kept i (frame-page to these) empty-here (omega (arith, within, length-frames held words)) away b

    there-here : (n : ℕ) → length words ≤ n → i < n → (j : ℕ) → is_some (get_or (set held i (Some to)) j None) ≡ true → j < n
    there-here n l h j s = by (cases_eq j i)
      where
        by : (j ≡ i) ⊎ (j ≡ i → ⊥) → j < n
        by (inl q) = omega (arith, q, h)
        by (inr d) = omega (arith, l, k.there j (ap (λ (o : Option Held). is_some o) (sym (get_or-set_other held i j (Some to) None d)) ∙ s))

    pub kept-filled : i < length words → IsKept (set held i (Some to)) (set words i these) (set at to.page (Some i)) stored hand first
    kept-filled l = record {
      few = omega (arith, length-set held i (Some to), k.few);
      stands = omega (arith, length-set held i (Some to), k.stands);
      marks = k.marks;
      there = λ j s. there-here (length (set words i these)) (omega (arith, length-set words i these)) (omega (arith, l, length-set words i these)) j s;
      kept = subst (λ s. IsTable s (set at to.page (Some i)) first) (sym (frames-put held words i (Some to) these l)) table-here;
    }

-- a free frame, which was given words, is filled
pub record FilledIn (held : List (Option Held)) (words new : List (List Word)) (at : List (Option ℕ)) (stored : List Bool) (hand first i : ℕ) (to : Held) (these : List Word) : Type 0 where
  pub kept : IsKept (set held i (Some to)) (set new i these) (set at to.page (Some i)) stored hand first
  pub frames : frames_of (set held i (Some to)) (set new i these) ≡ set (frames_of held words) i (Some (frame-page to these))

pub filled-in : {held : List (Option Held)} {words : List (List Word)} {at : List (Option ℕ)} {stored : List Bool} {hand first : ℕ} → IsKept held words at stored hand first → (new : List (List Word)) → IsReached words new → (i : ℕ) (to : Held) (these : List Word)
    → i ≡ free_frame (frames_of held words) → i < length held → frame_of (frames_of held words) to.page ≡ None → to.page < 4168 → i < length new → FilledIn held words new at stored hand first i to these
filled-in {held} {words} k new longer i to these free within away b there =
    let r = reached k new longer in
    record {
      kept = kept-filled r.1 i to these (free ∙ sym (ap free_frame r.0)) within (ap (λ s. frame_of s to.page) r.0 ∙ away) b there;
      frames = frames-put held new i (Some to) these there ∙ ap (λ s. set s i (Some (frame-page to these))) r.0;
    }
