-- What the machine of frames keeps.
use Rattle.std.proofs.Common.{◌≡◌, ℕ, zero, suc, ◌<◌, ◌≤◌, ◌/◌, Bool, true, false, List, [], ◌∷◌, ◌⊎◌, Option, Some, None, length, get_or, set, refl, sym, ap, ◌∙◌, inl, inr, if◌then◌else◌, ◌==◌}
use Rattle.std.proofs.lemmas.List.{get_or-set_same, get_or-set_other, set_past, get_or_past}
use Rattle.std.proofs.lemmas.Option.{none-some, same_Some}
use Rattle.std.proofs.lemmas.Bool.{cases_eq, cases_lt, eqb-true, eqb-false}
use Rattle.std.specs.Prelude.{option_map}
use Rattle.psos_words.specs.declared.word.Word.{Word}
use Rattle.psos_words.specs.Words.{zeros}
use Rattle.psos_calls.specs.Language.Tests.{if_there}
use Rattle.psos_pages.specs.Kept.{IsOne}
use Rattle.psos_pages.specs.State.{IsSound}
use Rattle.psos_pages.specs.Frames.{Frame, Paging, frame_at, frame_of, frame_words, block_words, words_of}

-- ---- the frame of a page

-- the search finds one, or there is none
pub record FoundAt (frames : List (Option Frame)) (page i : ℕ) : Type 0 where
  pub frame : Frame
  pub there : get_or frames i None ≡ Some frame
  pub same : frame.page ≡ page

pub found-at : (frames : List (Option Frame)) (page i : ℕ) → frame_of frames page ≡ Some i → FoundAt frames page i
found-at [] page i e = absurd (none-some i e)
found-at (x ∷ rest) page i e = first (λ j f. found-at rest page j f) x e
  where
    later : ((j : ℕ) → frame_of rest page ≡ Some j → FoundAt rest page j) → (x : Option Frame) (o : Option ℕ) → frame_of rest page ≡ o → option_map suc o ≡ Some i → FoundAt (x ∷ rest) page i
    later found x None is e = absurd (none-some i e)
    later found x (Some j) is e =
        let r = found j is in
        let at : suc j ≡ i = same_Some (suc j) i e in
        record { frame = r.frame; there = ap (λ k. get_or (x ∷ rest) k None) (sym at) ∙ r.there; same = r.same }

    here : ((j : ℕ) → frame_of rest page ≡ Some j → FoundAt rest page j) → (f : Frame) (b : Bool) → (f.page == page) ≡ b → (if b then Some 0 else option_map suc (frame_of rest page)) ≡ Some i → FoundAt (Some f ∷ rest) page i
    here found f true is e = record { frame = f; there = ap (λ k. get_or (Some f ∷ rest) k None) (sym (same_Some 0 i e)); same = eqb-true f.page page is }
    here found f false is e = later found (Some f) (frame_of rest page) refl e

    first : ((j : ℕ) → frame_of rest page ≡ Some j → FoundAt rest page j) → (x : Option Frame) → frame_of (x ∷ rest) page ≡ Some i → FoundAt (x ∷ rest) page i
    first found None e = later found None (frame_of rest page) refl e
    first found (Some f) e = here found f (f.page == page) refl e

pub not-found : (frames : List (Option Frame)) (page : ℕ) → frame_of frames page ≡ None → (i : ℕ) (f : Frame) → get_or frames i None ≡ Some f → f.page ≡ page → ⊥
not-found [] page e i f t s = none-some f t
not-found (x ∷ rest) page e i f t s = first (λ d j h. not-found rest page d j f h s) x e i t
  where
    is-none : (o : Option ℕ) → option_map suc o ≡ None → o ≡ None
    is-none None e = refl
    is-none (Some j) e = absurd (none-some (suc j) (sym e))

    later : (frame_of rest page ≡ None → (j : ℕ) → get_or rest j None ≡ Some f → ⊥) → (i : ℕ) → option_map suc (frame_of rest page) ≡ None → get_or rest i None ≡ Some f → ⊥
    later rec i e t = rec (is-none (frame_of rest page) e) i t

    here : (frame_of rest page ≡ None → (j : ℕ) → get_or rest j None ≡ Some f → ⊥) → (g : Frame) (b : Bool) → (g.page == page) ≡ b → (if b then Some 0 else option_map suc (frame_of rest page)) ≡ None → (i : ℕ) → get_or (Some g ∷ rest) i None ≡ Some f → ⊥
    here rec g true is e i t = none-some 0 (sym e)
    here rec g false is e zero t = eqb-false g.page page is (ap (λ (h : Frame). h.page) (same_Some g f t) ∙ s)
    here rec g false is e (suc i) t = later rec i e t

    first : (frame_of rest page ≡ None → (j : ℕ) → get_or rest j None ≡ Some f → ⊥) → (x : Option Frame) → frame_of (x ∷ rest) page ≡ None → (i : ℕ) → get_or (x ∷ rest) i None ≡ Some f → ⊥
    first rec None e zero t = none-some f t
    first rec None e (suc i) t = later rec i e t
    first rec (Some g) e i t = here rec g (g.page == page) refl e i t

-- the search finds the one
pub frame-of : {frames : List (Option Frame)} → IsOne frames → (i : ℕ) (f : Frame) → get_or frames i None ≡ Some f → frame_of frames f.page ≡ Some i
frame-of {frames} o i f t = by (frame_of frames f.page) refl
  where
    by : (r : Option ℕ) → frame_of frames f.page ≡ r → frame_of frames f.page ≡ Some i
    by None e = absurd (not-found frames f.page e i f t refl)
    by (Some j) e = let h = found-at frames f.page j e in e ∙ ap Some (o.one j i h.frame f h.there t h.same)

-- the search finds none
pub no-frame : (frames : List (Option Frame)) (page : ℕ) → ((i : ℕ) (f : Frame) → get_or frames i None ≡ Some f → f.page ≡ page → ⊥) → frame_of frames page ≡ None
no-frame frames page away = by (frame_of frames page) refl
  where
    by : (r : Option ℕ) → frame_of frames page ≡ r → frame_of frames page ≡ None
    by None e = e
    by (Some j) e = let h = found-at frames page j e in absurd (away j h.frame h.there h.same)

-- the words of a page that is in a frame, and of one that is not
pub words-in : (s : Paging) → IsOne s.frames → (i : ℕ) (f : Frame) → get_or s.frames i None ≡ Some f → words_of s f.page ≡ f.words
words-in s o i f t =
    ap (λ r. if_there r (block_words s.blocks f.page) (λ i. frame_words (frame_at s.frames i))) (frame-of o i f t) ∙ ap frame_words t

pub words-out : (s : Paging) (page : ℕ) → ((i : ℕ) (f : Frame) → get_or s.frames i None ≡ Some f → f.page ≡ page → ⊥) → words_of s page ≡ block_words s.blocks page
words-out s page away =
    ap (λ r. if_there r (block_words s.blocks page) (λ i. frame_words (frame_at s.frames i))) (no-frame s.frames page away)

-- a page of one machine has the words that it has in another: the same frame's, or the same block's
pub data Stays (s t : Paging) (page : ℕ) : Type 0 where
  Framed : (i j : ℕ) (f g : Frame) → get_or s.frames i None ≡ Some f → get_or t.frames j None ≡ Some g → f.page ≡ page → g.page ≡ page → g.words ≡ f.words → Stays s t page
  Stored : ((i : ℕ) (f : Frame) → get_or s.frames i None ≡ Some f → f.page ≡ page → ⊥) → ((i : ℕ) (f : Frame) → get_or t.frames i None ≡ Some f → f.page ≡ page → ⊥) → block_words t.blocks page ≡ block_words s.blocks page → Stays s t page
  Fetched : (j : ℕ) (g : Frame) → ((i : ℕ) (f : Frame) → get_or s.frames i None ≡ Some f → f.page ≡ page → ⊥) → get_or t.frames j None ≡ Some g → g.page ≡ page → g.words ≡ block_words s.blocks page → Stays s t page
  Evicted : (i : ℕ) (f : Frame) → get_or s.frames i None ≡ Some f → f.page ≡ page → ((i : ℕ) (f : Frame) → get_or t.frames i None ≡ Some f → f.page ≡ page → ⊥) → block_words t.blocks page ≡ f.words → Stays s t page

pub words-stay : (s t : Paging) (page : ℕ) → IsOne s.frames → IsOne t.frames → Stays s t page → words_of t page ≡ words_of s page
words-stay s t page a b (Framed i j f g x y e h w) =
    ap (words_of t) (sym h) ∙ words-in t b j g y ∙ w ∙ sym (words-in s a i f x) ∙ ap (words_of s) e
words-stay s t page a b (Stored away none w) = words-out t page none ∙ w ∙ sym (words-out s page away)
words-stay s t page a b (Fetched j g away y h w) = ap (words_of t) (sym h) ∙ words-in t b j g y ∙ w ∙ sym (words-out s page away)
words-stay s t page a b (Evicted i f x e none w) = words-out t page none ∙ w ∙ sym (words-in s a i f x) ∙ ap (words_of s) e

-- ---- what always holds

-- an element after a write
pub data AfterSet {X : Type 0} (xs : List (Option X)) (i : ℕ) (x : Option X) (j : ℕ) (y : X) : Type 0 where
  Here : j ≡ i → x ≡ Some y → AfterSet xs i x j y
  Apart : (j ≡ i → ⊥) → get_or xs j None ≡ Some y → AfterSet xs i x j y

pub after-set : {X : Type 0} (xs : List (Option X)) (i : ℕ) (x : Option X) (j : ℕ) (y : X) → get_or (set xs i x) j None ≡ Some y → AfterSet xs i x j y
after-set xs i x j y e = by (cases_eq j i)
  where
    within : j ≡ i → (i < length xs) ⊎ (length xs ≤ i) → AfterSet xs i x j y
    within s (inl h) = Here s (sym (get_or-set_same xs i x None h) ∙ ap (λ k. get_or (set xs i x) k None) (sym s) ∙ e)
    within s (inr h) = absurd (none-some y (sym (get_or_past xs i None h) ∙ ap (λ k. get_or xs k None) (sym s) ∙ ap (λ l. get_or l j None) (sym (set_past xs i x h)) ∙ e))

    by : (j ≡ i) ⊎ (j ≡ i → ⊥) → AfterSet xs i x j y
    by (inl s) = within s (cases_lt i (length xs))
    by (inr d) = Apart d (sym (get_or-set_other xs i j x None d) ∙ e)

-- where an element is, the list has its place
pub is-within : {X : Type 0} (xs : List (Option X)) (i : ℕ) (x : X) → get_or xs i None ≡ Some x → i < length xs
is-within xs i x e = by (cases_lt i (length xs))
  where
    by : (i < length xs) ⊎ (length xs ≤ i) → i < length xs
    by (inl h) = h
    by (inr h) = absurd (none-some x (sym (get_or_past xs i None h) ∙ e))

-- the words of a block after a write
pub block-apart : (blocks : List (Option (List Word))) (p : ℕ) (x : Option (List Word)) (q : ℕ) → (q ≡ p → ⊥) → block_words (set blocks p x) q ≡ block_words blocks q
block-apart blocks p x q d = ap (λ o. if_there o (zeros 64) (λ (words : List Word). words)) (get_or-set_other blocks p q x None d)

-- ---- a frame gets another state of its page

module _ {taken : List Bool} {frames : List (Option Frame)} {blocks : List (Option (List Word))} (k : IsSound taken frames blocks) (i : ℕ) (f : Frame) (t : get_or frames i None ≡ Some f) where
  pub sound-put : (g : Frame) → g.page ≡ f.page → length g.words ≡ 64 → (g.changed ≡ false → g.words ≡ block_words blocks f.page) → IsSound taken (set frames i (Some g)) blocks
  sound-put g e w c = record {
    one = record { one = λ a b x y p q s. one a b x y (after-set frames i (Some g) a x p) (after-set frames i (Some g) b y q) s };
    whole = λ a x p. whole a x (after-set frames i (Some g) a x p);
    full = k.full;
    clean = λ a x p. clean a x (after-set frames i (Some g) a x p);
    live = λ a x p. live a x (after-set frames i (Some g) a x p);
    kept = k.kept;
  }
    where
      one : (a b : ℕ) (x y : Frame) → AfterSet frames i (Some g) a x → AfterSet frames i (Some g) b y → x.page ≡ y.page → a ≡ b
      one a b x y (Here p r) (Here q u) s = p ∙ sym q
      one a b x y (Here p r) (Apart q u) s = p ∙ k.one.one i b f y t u (sym e ∙ ap (λ (z : Frame). z.page) (same_Some g x r) ∙ s)
      one a b x y (Apart p r) (Here q u) s = k.one.one a i x f r t (s ∙ ap (λ (z : Frame). z.page) (sym (same_Some g y u)) ∙ e) ∙ sym q
      one a b x y (Apart p r) (Apart q u) s = k.one.one a b x y r u s

      whole : (a : ℕ) (x : Frame) → AfterSet frames i (Some g) a x → length x.words ≡ 64
      whole a x (Here p r) = ap (λ (z : Frame). length z.words) (sym (same_Some g x r)) ∙ w
      whole a x (Apart p r) = k.whole a x r

      clean : (a : ℕ) (x : Frame) → AfterSet frames i (Some g) a x → x.changed ≡ false → x.words ≡ block_words blocks x.page
      clean a x (Here p r) h =
          let is : g ≡ x = same_Some g x r in
          ap (λ (z : Frame). z.words) (sym is) ∙ c (ap (λ (z : Frame). z.changed) is ∙ h) ∙ ap (block_words blocks) (sym e ∙ ap (λ (z : Frame). z.page) is)
      clean a x (Apart p r) h = k.clean a x r h

      live : (a : ℕ) (x : Frame) → AfterSet frames i (Some g) a x → get_or taken (x.page / 8) false ≡ true
      live a x (Here p r) = ap (λ n. get_or taken (n / 8) false) (ap (λ (z : Frame). z.page) (sym (same_Some g x r)) ∙ e) ∙ k.live i f t
      live a x (Apart p r) = k.live a x r

  -- the others stay as they are
  pub words-put_apart : (h hand : ℕ) (g : Frame) → g.page ≡ f.page → IsOne (set frames i (Some g)) → (q : ℕ) → (q ≡ f.page → ⊥)
      → words_of (record { frames = set frames i (Some g); hand = hand; blocks = blocks }) q ≡ words_of (record { frames = frames; hand = h; blocks = blocks }) q
  words-put_apart h hand g e o q d =
      words-stay (record { frames = frames; hand = h; blocks = blocks }) (record { frames = set frames i (Some g); hand = hand; blocks = blocks }) q k.one o (by (frame_of frames q) refl)
    where
      none : (frame_of frames q ≡ None) → (a : ℕ) (x : Frame) → AfterSet frames i (Some g) a x → x.page ≡ q → ⊥
      none z a x (Here p r) s = d (sym s ∙ ap (λ (z : Frame). z.page) (sym (same_Some g x r)) ∙ e)
      none z a x (Apart p r) s = not-found frames q z a x r s

      by : (r : Option ℕ) → frame_of frames q ≡ r → Stays (record { frames = frames; hand = h; blocks = blocks }) (record { frames = set frames i (Some g); hand = hand; blocks = blocks }) q
      by None z = Stored (λ a x p s. not-found frames q z a x p s) (λ a x p s. none z a x (after-set frames i (Some g) a x p) s) refl
      by (Some j) z =
          let it = found-at frames q j z in
          let far : j ≡ i → ⊥ = λ same. d (sym it.same ∙ ap (λ (z : Frame). z.page) (same_Some it.frame f (sym it.there ∙ ap (λ n. get_or frames n None) same ∙ t))) in
          Framed j j it.frame it.frame it.there (get_or-set_other frames i j (Some g) None far ∙ it.there) it.same it.same refl

  -- this one has the new words
  pub words-put_here : (hand : ℕ) (g : Frame) → g.page ≡ f.page → IsOne (set frames i (Some g))
      → words_of (record { frames = set frames i (Some g); hand = hand; blocks = blocks }) f.page ≡ g.words
  words-put_here hand g e o =
      ap (words_of (record { frames = set frames i (Some g); hand = hand; blocks = blocks })) (sym e)
      ∙ words-in (record { frames = set frames i (Some g); hand = hand; blocks = blocks }) o i g (get_or-set_same frames i (Some g) None (is-within frames i f t))

  -- a frame whose words stay
  pub words-marked : (h hand : ℕ) (g : Frame) → g.page ≡ f.page → g.words ≡ f.words → IsOne (set frames i (Some g)) → (q : ℕ)
      → words_of (record { frames = set frames i (Some g); hand = hand; blocks = blocks }) q ≡ words_of (record { frames = frames; hand = h; blocks = blocks }) q
  words-marked h hand g e w o q = by (cases_eq q f.page)
    where
      by : (q ≡ f.page) ⊎ (q ≡ f.page → ⊥) → words_of (record { frames = set frames i (Some g); hand = hand; blocks = blocks }) q ≡ words_of (record { frames = frames; hand = h; blocks = blocks }) q
      by (inl s) =
          ap (words_of (record { frames = set frames i (Some g); hand = hand; blocks = blocks })) s
          ∙ words-put_here hand g e o ∙ w ∙ sym (words-in (record { frames = frames; hand = h; blocks = blocks }) k.one i f t) ∙ ap (words_of (record { frames = frames; hand = h; blocks = blocks })) (sym s)
      by (inr d) = words-put_apart h hand g e o q d

-- ---- a frame is emptied

module _ {taken : List Bool} {frames : List (Option Frame)} {blocks : List (Option (List Word))} (k : IsSound taken frames blocks) (i : ℕ) where
  apart-empty : (a : ℕ) (x : Frame) → AfterSet frames i None a x → get_or frames a None ≡ Some x
  apart-empty a x (Here p r) = absurd (none-some x r)
  apart-empty a x (Apart p r) = r

  pub in-empty : (a : ℕ) (x : Frame) → get_or (set frames i None) a None ≡ Some x → get_or frames a None ≡ Some x
  in-empty a x p = apart-empty a x (after-set frames i None a x p)

  pub one-empty : IsOne (set frames i None)
  one-empty = record { one = λ a b x y p q s. k.one.one a b x y (in-empty a x p) (in-empty b y q) s }

  -- its page is held by no other
  pub out-empty : (f : Frame) → get_or frames i None ≡ Some f → (a : ℕ) (x : Frame) → get_or (set frames i None) a None ≡ Some x → x.page ≡ f.page → ⊥
  out-empty f t a x p s = by (after-set frames i None a x p)
    where
      by : AfterSet frames i None a x → ⊥
      by (Here q r) = none-some x r
      by (Apart q r) = q (k.one.one a i x f r t s)

  pub sound-empty : IsSound taken (set frames i None) blocks
  sound-empty = record {
    one = one-empty;
    whole = λ a x p. k.whole a x (in-empty a x p);
    full = k.full;
    clean = λ a x p. k.clean a x (in-empty a x p);
    live = λ a x p. k.live a x (in-empty a x p);
    kept = k.kept;
  }

  -- its page is written to the block
  pub sound-saved : (f : Frame) → get_or frames i None ≡ Some f → IsSound taken (set frames i None) (set blocks f.page (Some f.words))
  sound-saved f t = record {
    one = one-empty;
    whole = λ a x p. k.whole a x (in-empty a x p);
    full = λ p w e. full p w (after-set blocks f.page (Some f.words) p w e);
    clean = λ a x p c. k.clean a x (in-empty a x p) c ∙ sym (block-apart blocks f.page (Some f.words) x.page (out-empty f t a x p));
    live = λ a x p. k.live a x (in-empty a x p);
    kept = λ p w e. kept p w (after-set blocks f.page (Some f.words) p w e);
  }
    where
      full : (p : ℕ) (w : List Word) → AfterSet blocks f.page (Some f.words) p w → length w ≡ 64
      full p w (Here q r) = ap (λ (z : List Word). length z) (sym (same_Some f.words w r)) ∙ k.whole i f t
      full p w (Apart q r) = k.full p w r

      kept : (p : ℕ) (w : List Word) → AfterSet blocks f.page (Some f.words) p w → get_or taken (p / 8) false ≡ true
      kept p w (Here q r) = ap (λ n. get_or taken (n / 8) false) q ∙ k.live i f t
      kept p w (Apart q r) = k.kept p w r

  -- the words stay, if the block has those of the page
  pub words-emptied : (h hand : ℕ) (f : Frame) → get_or frames i None ≡ Some f → (to : List (Option (List Word))) → block_words to f.page ≡ f.words → ((q : ℕ) → (q ≡ f.page → ⊥) → block_words to q ≡ block_words blocks q)
      → (q : ℕ) → words_of (record { frames = set frames i None; hand = hand; blocks = to }) q ≡ words_of (record { frames = frames; hand = h; blocks = blocks }) q
  words-emptied h hand f t to here apart q =
      words-stay (record { frames = frames; hand = h; blocks = blocks }) (record { frames = set frames i None; hand = hand; blocks = to }) q k.one one-empty (by (cases_eq q f.page) (frame_of frames q) refl)
    where
      by : (q ≡ f.page) ⊎ (q ≡ f.page → ⊥) → (r : Option ℕ) → frame_of frames q ≡ r → Stays (record { frames = frames; hand = h; blocks = blocks }) (record { frames = set frames i None; hand = hand; blocks = to }) q
      by (inl s) r z = Evicted i f t (sym s) (λ a x p e. out-empty f t a x p (e ∙ s)) (ap (block_words to) s ∙ here)
      by (inr d) None z = Stored (λ a x p e. not-found frames q z a x p e) (λ a x p e. not-found frames q z a x (in-empty a x p) e) (apart q d)
      by (inr d) (Some j) z =
          let it = found-at frames q j z in
          let far : j ≡ i → ⊥ = λ same. d (sym it.same ∙ ap (λ (x : Frame). x.page) (same_Some it.frame f (sym it.there ∙ ap (λ n. get_or frames n None) same ∙ t))) in
          Framed j j it.frame it.frame it.there (get_or-set_other frames i j None None far ∙ it.there) it.same it.same refl

-- ---- a free frame is filled

module _ {taken : List Bool} {frames : List (Option Frame)} {blocks : List (Option (List Word))} (k : IsSound taken frames blocks) (i : ℕ) (g : Frame)
    (away : frame_of frames g.page ≡ None) (w : g.words ≡ block_words blocks g.page) (l : get_or taken (g.page / 8) false ≡ true) where
  block-long : (p : ℕ) → length (block_words blocks p) ≡ 64
  block-long p = by (get_or blocks p None) refl
    where
      by : (o : Option (List Word)) → get_or blocks p None ≡ o → length (block_words blocks p) ≡ 64
      by None e = ap (λ o. length (if_there o (zeros 64) (λ (words : List Word). words))) e
      by (Some words) e = ap (λ o. length (if_there o (zeros 64) (λ (words : List Word). words))) e ∙ k.full p words e

  pub sound-filled : IsSound taken (set frames i (Some g)) blocks
  sound-filled = record {
    one = record { one = λ a b x y p q s. one a b x y (after-set frames i (Some g) a x p) (after-set frames i (Some g) b y q) s };
    whole = λ a x p. whole a x (after-set frames i (Some g) a x p);
    full = k.full;
    clean = λ a x p. clean a x (after-set frames i (Some g) a x p);
    live = λ a x p. live a x (after-set frames i (Some g) a x p);
    kept = k.kept;
  }
    where
      one : (a b : ℕ) (x y : Frame) → AfterSet frames i (Some g) a x → AfterSet frames i (Some g) b y → x.page ≡ y.page → a ≡ b
      one a b x y (Here p r) (Here q u) s = p ∙ sym q
      one a b x y (Here p r) (Apart q u) s = absurd (not-found frames g.page away b y u (sym s ∙ ap (λ (z : Frame). z.page) (sym (same_Some g x r))))
      one a b x y (Apart p r) (Here q u) s = absurd (not-found frames g.page away a x r (s ∙ ap (λ (z : Frame). z.page) (sym (same_Some g y u))))
      one a b x y (Apart p r) (Apart q u) s = k.one.one a b x y r u s

      whole : (a : ℕ) (x : Frame) → AfterSet frames i (Some g) a x → length x.words ≡ 64
      whole a x (Here p r) = ap (λ (z : Frame). length z.words) (sym (same_Some g x r)) ∙ ap (λ (z : List Word). length z) w ∙ block-long g.page
      whole a x (Apart p r) = k.whole a x r

      clean : (a : ℕ) (x : Frame) → AfterSet frames i (Some g) a x → x.changed ≡ false → x.words ≡ block_words blocks x.page
      clean a x (Here p r) h =
          let is : g ≡ x = same_Some g x r in
          ap (λ (z : Frame). z.words) (sym is) ∙ w ∙ ap (λ (z : Frame). block_words blocks z.page) is
      clean a x (Apart p r) h = k.clean a x r h

      live : (a : ℕ) (x : Frame) → AfterSet frames i (Some g) a x → get_or taken (x.page / 8) false ≡ true
      live a x (Here p r) = ap (λ (z : Frame). get_or taken (z.page / 8) false) (sym (same_Some g x r)) ∙ l
      live a x (Apart p r) = k.live a x r

  pub words-filled : (h hand : ℕ) → i < length frames → get_or frames i None ≡ None → (q : ℕ)
      → words_of (record { frames = set frames i (Some g); hand = hand; blocks = blocks }) q ≡ words_of (record { frames = frames; hand = h; blocks = blocks }) q
  words-filled h hand b free q =
      words-stay (record { frames = frames; hand = h; blocks = blocks }) (record { frames = set frames i (Some g); hand = hand; blocks = blocks }) q k.one sound-filled.one (by (cases_eq q g.page) (frame_of frames q) refl)
    where
      none : (q ≡ g.page → ⊥) → (frame_of frames q ≡ None) → (a : ℕ) (x : Frame) → AfterSet frames i (Some g) a x → x.page ≡ q → ⊥
      none d z a x (Here p r) s = d (sym s ∙ ap (λ (z : Frame). z.page) (sym (same_Some g x r)))
      none d z a x (Apart p r) s = not-found frames q z a x r s

      by : (q ≡ g.page) ⊎ (q ≡ g.page → ⊥) → (r : Option ℕ) → frame_of frames q ≡ r → Stays (record { frames = frames; hand = h; blocks = blocks }) (record { frames = set frames i (Some g); hand = hand; blocks = blocks }) q
      by (inl s) r z =
          Fetched i g (λ a x p e. not-found frames g.page away a x p (e ∙ s)) (get_or-set_same frames i (Some g) None b) (sym s) (w ∙ ap (block_words blocks) (sym s))
      by (inr d) None z = Stored (λ a x p e. not-found frames q z a x p e) (λ a x p e. none d z a x (after-set frames i (Some g) a x p) e) refl
      by (inr d) (Some j) z =
          let it = found-at frames q j z in
          let far : j ≡ i → ⊥ = λ same. none-some it.frame (sym free ∙ ap (λ n. get_or frames n None) (sym same) ∙ it.there) in
          Framed j j it.frame it.frame it.there (get_or-set_other frames i j (Some g) None far ∙ it.there) it.same it.same refl

-- ---- a block is given up

module _ {taken : List Bool} {frames : List (Option Frame)} {blocks : List (Option (List Word))} (k : IsSound taken frames blocks) where
  in-less : (p : ℕ) (q : ℕ) (w : List Word) → get_or (set blocks p None) q None ≡ Some w → get_or blocks q None ≡ Some w
  in-less p q w e = by (after-set blocks p None q w e)
    where
      by : AfterSet blocks p None q w → get_or blocks q None ≡ Some w
      by (Here a r) = absurd (none-some w r)
      by (Apart a r) = r

  -- where no clean frame holds its page
  pub sound-less : (p : ℕ) → ((a : ℕ) (x : Frame) → get_or frames a None ≡ Some x → x.changed ≡ false → x.page ≡ p → ⊥) → IsSound taken frames (set blocks p None)
  sound-less p off = record {
    one = k.one;
    whole = k.whole;
    full = λ q w e. k.full q w (in-less p q w e);
    clean = λ a x e c. k.clean a x e c ∙ sym (block-apart blocks p None x.page (off a x e c));
    live = k.live;
    kept = λ q w e. k.kept q w (in-less p q w e);
  }

  -- a changed page is in its frame whatever its block has
  pub words-less : (h hand : ℕ) (i : ℕ) (f : Frame) → get_or frames i None ≡ Some f → (q : ℕ)
      → words_of (record { frames = frames; hand = hand; blocks = set blocks f.page None }) q ≡ words_of (record { frames = frames; hand = h; blocks = blocks }) q
  words-less h hand i f t q =
      words-stay (record { frames = frames; hand = h; blocks = blocks }) (record { frames = frames; hand = hand; blocks = set blocks f.page None }) q k.one k.one (by (cases_eq q f.page) (frame_of frames q) refl)
    where
      by : (q ≡ f.page) ⊎ (q ≡ f.page → ⊥) → (r : Option ℕ) → frame_of frames q ≡ r → Stays (record { frames = frames; hand = h; blocks = blocks }) (record { frames = frames; hand = hand; blocks = set blocks f.page None }) q
      by (inl s) r z = Framed i i f f t t (sym s) (sym s) refl
      by (inr d) None z = Stored (λ a x p e. not-found frames q z a x p e) (λ a x p e. not-found frames q z a x p e) (block-apart blocks f.page None q d)
      by (inr d) (Some j) z = let it = found-at frames q j z in Framed j j it.frame it.frame it.there it.there it.same it.same refl
