-- Pages that go with their slot, and a slot that is taken.
use Rattle.std.proofs.Common.{◌≡◌, ℕ, zero, suc, ◌+◌, ◌-◌, ◌*◌, ◌<◌, ◌≤◌, ◌/◌, Bool, true, false, List, [], ◌∷◌, ◌++◌, ◌⊎◌, Option, Some, None, length, replicate, get_or, set, refl, sym, ap, ◌∙◌, inl, inr, arith, subst}
use Rattle.std.proofs.lemmas.List.{length-set, get_or-set_same, get_or-set_other, get_or_past, set_past, length-replicate, replicate-append-replicate}
use Rattle.std.proofs.lemmas.Option.{none-some, same_Some}
use Rattle.std.proofs.lemmas.Bool.{cases_eq, cases_lt, false≢true}
use Rattle.psos_store.specs.Slots.{least_free}
use Rattle.psos_words.specs.declared.word.Word.{Word}
use Rattle.psos_words.specs.declared.word.Word.TheVariants.{Data}
use Rattle.psos_words.specs.Words.{zeros}
use Rattle.psos_calls.specs.Language.Tests.{if_there}
use Rattle.psos_pages.specs.Frames.{Frame, Paging, frame_of, block_words, words_of, without_page, forgotten, dropped}
use Rattle.psos_pages.specs.Kept.{FramesState}
use Rattle.psos_pages.specs.State.{IsSound, IsPaged, AreStored, paging_of, blocks_of, slots_of, slots_from, pages_from, without, without_pages}
use Rattle.psos_pages.proofs.Machine.{found-at, not-found, no-frame, words-out, sound-empty, sound-less, words-stay, Stays, block-apart, in-empty, out-empty}
use Rattle.psos_pages.proofs.Machine.Stays.{Framed, Stored}
use Rattle.psos_pages.proofs.Stored.{blocks-set, stored-less}
use Rattle.psos_pages.proofs.Room.{same-paging}
use Rattle.psos_pages.proofs.Seen.{slots-set}

-- ---- a page is forgotten

pub record Forgot (taken : List Bool) (s : Paging) (page : ℕ) : Type 0 where
  pub sound : IsSound taken (forgotten s page).frames (forgotten s page).blocks
  pub long : length (forgotten s page).frames ≡ length s.frames
  pub away : frame_of (forgotten s page).frames page ≡ None
  pub none : get_or (forgotten s page).blocks page None ≡ None
  pub fewer : (a : ℕ) (x : Frame) → get_or (forgotten s page).frames a None ≡ Some x → get_or s.frames a None ≡ Some x
  pub words : (q : ℕ) → (q ≡ page → ⊥) → words_of (forgotten s page) q ≡ words_of s q

pub forgot : {taken : List Bool} (s : Paging) (page : ℕ) → IsSound taken s.frames s.blocks → Forgot taken s page
forgot {taken} s page k = by (frame_of s.frames page) refl
  where
    gone : (b : ℕ) → get_or (set s.blocks page None) page None ≡ None
    gone b = in_or_past (cases_lt page (length s.blocks))
      where
        in_or_past : (page < length s.blocks) ⊎ (length s.blocks ≤ page) → get_or (set s.blocks page None) page None ≡ None
        in_or_past (inl h) = get_or-set_same s.blocks page None None h
        in_or_past (inr h) = ap (λ l. get_or l page None) (set_past s.blocks page None h) ∙ get_or_past s.blocks page None h

    by : (r : Option ℕ) → frame_of s.frames page ≡ r → Forgot taken s page
    by None e =
        let same : without_page s.frames page ≡ s.frames = ap (λ r. if_there r s.frames (λ i. set s.frames i None)) e in
        let t : Paging = record { frames = s.frames; hand = s.hand; blocks = set s.blocks page None } in
        let is : forgotten s page ≡ t = same-paging {f = without_page s.frames page} same refl refl in
        let sound = sound-less k page (λ a x p c q. not-found s.frames page e a x p q) in
        record {
          sound = subst (λ u. IsSound taken u (set s.blocks page None)) (sym same) sound;
          long = ap (λ (u : List (Option Frame)). length u) same;
          away = ap (λ u. frame_of u page) same ∙ e;
          none = gone 0;
          fewer = λ a x p. ap (λ u. get_or u a None) (sym same) ∙ p;
          words = λ q d. ap (λ u. words_of u q) is ∙ words-stay s t q k.one k.one (stays q d (frame_of s.frames q) refl);
        }
      where
        stays : (q : ℕ) → (q ≡ page → ⊥) → (r : Option ℕ) → frame_of s.frames q ≡ r → Stays s (record { frames = s.frames; hand = s.hand; blocks = set s.blocks page None }) q
        stays q d None z = Stored (λ a x p w. not-found s.frames q z a x p w) (λ a x p w. not-found s.frames q z a x p w) (block-apart s.blocks page None q d)
        stays q d (Some j) z = let it = found-at s.frames q j z in Framed j j it.frame it.frame it.there it.there it.same it.same refl
    by (Some i) e =
        let it = found-at s.frames page i e in
        let same : without_page s.frames page ≡ set s.frames i None = ap (λ r. if_there r s.frames (λ i. set s.frames i None)) e in
        let t : Paging = record { frames = set s.frames i None; hand = s.hand; blocks = set s.blocks page None } in
        let is : forgotten s page ≡ t = same-paging {f = without_page s.frames page} same refl refl in
        let empty = sound-empty k i in
        let off : (a : ℕ) (x : Frame) → get_or (set s.frames i None) a None ≡ Some x → x.page ≡ page → ⊥ = λ a x p q. out-empty k i it.frame it.there a x p (q ∙ sym it.same) in
        let sound = sound-less empty page (λ a x p c q. off a x p q) in
        record {
          sound = subst (λ u. IsSound taken u (set s.blocks page None)) (sym same) sound;
          long = ap (λ (u : List (Option Frame)). length u) same ∙ length-set s.frames i None;
          away = ap (λ u. frame_of u page) same ∙ no-frame (set s.frames i None) page off;
          none = gone 0;
          fewer = λ a x p. in-empty k i a x (ap (λ u. get_or u a None) (sym same) ∙ p);
          words = λ q d. ap (λ u. words_of u q) is ∙ words-stay s t q k.one empty.one (stays i q d e (frame_of s.frames q) refl);
        }
      where
        stays : (i q : ℕ) → (q ≡ page → ⊥) → frame_of s.frames page ≡ Some i → (r : Option ℕ) → frame_of s.frames q ≡ r → Stays s (record { frames = set s.frames i None; hand = s.hand; blocks = set s.blocks page None }) q
        stays i q d e None z =
            Stored (λ a x p w. not-found s.frames q z a x p w) (λ a x p w. not-found s.frames q z a x (in-empty k i a x p) w) (block-apart s.blocks page None q d)
        stays i q d e (Some j) z =
            let it = found-at s.frames q j z in
            let other = found-at s.frames page i e in
            let far : j ≡ i → ⊥ = λ x. d (sym it.same ∙ ap (λ (f : Frame). f.page) (same_Some it.frame other.frame (sym it.there ∙ ap (λ n. get_or s.frames n None) x ∙ other.there)) ∙ other.same) in
            Framed j j it.frame it.frame it.there (get_or-set_other s.frames i j None None far ∙ it.there) it.same it.same refl

-- ---- so many pages are

-- a page has neither a frame nor a block
pub record IsGone (s : Paging) (page : ℕ) : Type 0 where
  pub away : frame_of s.frames page ≡ None
  pub none : get_or s.blocks page None ≡ None

pub record Dropped (taken : List Bool) (s t : Paging) (page n : ℕ) : Type 0 where
  pub sound : IsSound taken t.frames t.blocks
  pub long : length t.frames ≡ length s.frames
  pub hand : t.hand ≡ s.hand
  pub gone : (q : ℕ) → page ≤ q → q < page + n → IsGone t q
  pub words : (q : ℕ) → (q < page) ⊎ (page + n ≤ q) → words_of t q ≡ words_of s q
  pub fewer : (a : ℕ) (x : Frame) → get_or t.frames a None ≡ Some x → get_or s.frames a None ≡ Some x
  pub less : (q : ℕ) → get_or s.blocks q None ≡ None → get_or t.blocks q None ≡ None

pub all-dropped : {taken : List Bool} (n : ℕ) (s : Paging) (page : ℕ) → IsSound taken s.frames s.blocks → Dropped taken s (dropped n s page) page n
unfolding dropped
all-dropped zero s page k =
    record { sound = k; long = refl; hand = refl; gone = λ q a b. absurd (omega (arith, a, b)); words = λ q o. refl; fewer = λ a x p. p; less = λ q e. e }
all-dropped (suc n) s page k =
    let one = forgot s page k in
    let rest = all-dropped n (forgotten s page) (page + 1) one.sound in
    record {
      sound = rest.sound;
      long = rest.long ∙ one.long;
      hand = rest.hand;
      gone = λ q a b. gone one.away one.none (λ a x p. rest.fewer a x p) (λ q e. rest.less q e) (λ q a b. rest.gone q a b) q a b (cases_eq q page);
      words = λ q o. rest.words q (nearer q o) ∙ one.words q (apart q o);
      fewer = λ a x p. one.fewer a x (rest.fewer a x p);
      less = λ q e. rest.less q (gone_block q e (cases_eq q page));
    }
  where
    apart : (q : ℕ) → (q < page) ⊎ (page + suc n ≤ q) → q ≡ page → ⊥
    apart q (inl a) e = absurd (omega (arith, a, e))
    apart q (inr a) e = absurd (omega (arith, a, e))

    nearer : (q : ℕ) → (q < page) ⊎ (page + suc n ≤ q) → (q < page + 1) ⊎ (page + 1 + n ≤ q)
    nearer q (inl a) = inl (omega (arith, a))
    nearer q (inr a) = inr (omega (arith, a))

    gone_block : (q : ℕ) → get_or s.blocks q None ≡ None → (q ≡ page) ⊎ (q ≡ page → ⊥) → get_or (set s.blocks page None) q None ≡ None
    gone_block q e (inl x) = after (cases_lt page (length s.blocks))
      where
        after : (page < length s.blocks) ⊎ (length s.blocks ≤ page) → get_or (set s.blocks page None) q None ≡ None
        after (inl h) = ap (λ m. get_or (set s.blocks page None) m None) x ∙ get_or-set_same s.blocks page None None h
        after (inr h) = ap (λ l. get_or l q None) (set_past s.blocks page None h) ∙ e
    gone_block q e (inr d) = get_or-set_other s.blocks page q None None d ∙ e

    gone : frame_of (forgotten s page).frames page ≡ None → get_or (forgotten s page).blocks page None ≡ None
        → ((a : ℕ) (x : Frame) → get_or (dropped n (forgotten s page) (page + 1)).frames a None ≡ Some x → get_or (forgotten s page).frames a None ≡ Some x)
        → ((q : ℕ) → get_or (forgotten s page).blocks q None ≡ None → get_or (dropped n (forgotten s page) (page + 1)).blocks q None ≡ None)
        → ((q : ℕ) → page + 1 ≤ q → q < page + 1 + n → IsGone (dropped n (forgotten s page) (page + 1)) q)
        → (q : ℕ) → page ≤ q → q < page + suc n → (q ≡ page) ⊎ (q ≡ page → ⊥) → IsGone (dropped n (forgotten s page) (page + 1)) q
    gone away none fewer less rest q a b (inl e) = record {
      away = ap (frame_of (dropped n (forgotten s page) (page + 1)).frames) e
          ∙ no-frame (dropped n (forgotten s page) (page + 1)).frames page (λ a x p w. not-found (forgotten s page).frames page away a x (fewer a x p) w);
      none = ap (λ m. get_or (dropped n (forgotten s page) (page + 1)).blocks m None) e ∙ less page none;
    }
    gone away none fewer less rest q a b (inr d) = rest q (omega (arith, a, d)) (omega (arith, b))

-- ---- the same of the frames and the store's bytes

pub paging-without : (n : ℕ) (f : FramesState) (bytes : List (List ℕ)) (page : ℕ) → paging_of (without_pages n f page) bytes ≡ dropped n (paging_of f bytes) page
unfolding without_pages dropped
paging-without zero f bytes page = refl
paging-without (suc n) f bytes page =
    paging-without n (without f page) bytes (page + 1)
    ∙ ap (λ s. dropped n s (page + 1)) (same-paging {f = without_page f.frames page} refl refl (blocks-set f.stored bytes page false))

pub marks-without : (n : ℕ) (f : FramesState) (page : ℕ) → length (without_pages n f page).stored ≡ length f.stored
unfolding without_pages
marks-without zero f page = refl
marks-without (suc n) f page = marks-without n (without f page) (page + 1) ∙ length-set f.stored page false

pub stored-without : (n : ℕ) (f : FramesState) (bytes : List (List ℕ)) (page : ℕ) → page + n ≤ length f.stored → AreStored f.stored bytes → AreStored (without_pages n f page).stored bytes
unfolding without_pages
stored-without zero f bytes page h k = k
stored-without (suc n) f bytes page h k =
    stored-without n (without f page) bytes (page + 1) (omega (arith, h, length-set f.stored page false)) (stored-less f.stored bytes bytes page (omega (arith, h)) (refl, λ i d. refl) k)

-- one step of the loop over them
pub without-more : (n : ℕ) (f g : FramesState) (page : ℕ) → 0 < n → g.frames ≡ without_page f.frames page → g.hand ≡ f.hand → g.stored ≡ set f.stored page false → without_pages (n - 1) g (page + 1) ≡ without_pages n f page
unfolding without_pages
without-more zero f g page h a b d = absurd (omega (arith, h))
without-more (suc n) f g page h a b d =
    let less : suc n - 1 ≡ n = omega arith in
    let is : g ≡ without f page = ap (λ u. record { frames = u; hand = g.hand; stored = g.stored }) a ∙ ap (λ u. record { frames = without_page f.frames page; hand = u; stored = g.stored }) b ∙ ap (λ u. record { frames = without_page f.frames page; hand = f.hand; stored = u }) d in
    ap (λ m. without_pages m g (page + 1)) less ∙ ap (λ u. without_pages n u (page + 1)) is

-- ---- a slot is freed

pub record Freed (taken : List Bool) (f h : FramesState) (bytes : List (List ℕ)) (slot : ℕ) : Type 0 where
  pub paged : IsPaged (set taken slot false) h bytes
  pub slots : slots_of (set taken slot false) (paging_of h bytes) ≡ set (slots_of taken (paging_of f bytes)) slot None
  pub paging : paging_of h bytes ≡ dropped 8 (paging_of f bytes) (8 * slot)
  pub long : length h.frames ≡ length f.frames

pub freed-here : {taken : List Bool} {f h : FramesState} {bytes : List (List ℕ)} {slot : ℕ} → IsPaged taken f bytes → slot < length taken → h ≡ without_pages 8 f (8 * slot) → Freed taken f h bytes slot
freed-here {taken} {f} {h} {bytes} {slot} k l e =
    let s = paging_of f bytes in
    let is : paging_of h bytes ≡ dropped 8 s (8 * slot) = ap (λ u. paging_of u bytes) e ∙ paging-without 8 f bytes (8 * slot) in
    let d : Dropped taken s (paging_of h bytes) (8 * slot) 8 = subst (λ t. Dropped taken s t (8 * slot) 8) (sym is) (all-dropped 8 s (8 * slot) k.sound) in
    record {
      paged = record {
        slots = length-set taken slot false ∙ k.slots;
        marks = ap (λ u. length u.stored) e ∙ marks-without 8 f (8 * slot) ∙ k.marks;
        some = omega (arith, k.some, d.long);
        stands = omega (arith, k.stands, d.long, d.hand);
        sound = sound-freed d;
        stored = subst (λ u. AreStored u.stored bytes) (sym e) (stored-without 8 f bytes (8 * slot) (omega (arith, l, k.slots, k.marks)) k.stored);
      };
      slots = slots-set taken s (paging_of h bytes) 0 slot false l (λ q o. d.words q (same q o));
      paging = is;
      long = d.long;
    }
  where
    same : (q : ℕ) → (q < 0 + 8 * slot) ⊎ (0 + 8 * slot + 8 ≤ q) → (q < 8 * slot) ⊎ (8 * slot + 8 ≤ q)
    same q (inl a) = inl (omega (arith, a))
    same q (inr a) = inr (omega (arith, a))

    live : Dropped taken (paging_of f bytes) (paging_of h bytes) (8 * slot) 8 → (p : ℕ) → (IsGone (paging_of h bytes) p → ⊥) → get_or taken (p / 8) false ≡ true → get_or (set taken slot false) (p / 8) false ≡ true
    live d p here t = by (cases_eq (p / 8) slot)
      where
        by : (p / 8 ≡ slot) ⊎ (p / 8 ≡ slot → ⊥) → get_or (set taken slot false) (p / 8) false ≡ true
        by (inl x) = absurd (here (d.gone p (omega (arith, x)) (omega (arith, x))))
        by (inr a) = get_or-set_other taken slot (p / 8) false false a ∙ t

    sound-freed : Dropped taken (paging_of f bytes) (paging_of h bytes) (8 * slot) 8 → IsSound (set taken slot false) h.frames (blocks_of h.stored bytes)
    sound-freed d = record {
      one = d.sound.one;
      whole = d.sound.whole;
      full = d.sound.full;
      clean = d.sound.clean;
      live = λ a x p. live d x.page (λ gone. not-found h.frames x.page gone.away a x p refl) (d.sound.live a x p);
      kept = λ p w e. live d p (λ gone. none-some w (sym gone.none ∙ e)) (d.sound.kept p w e);
    }

-- ---- a slot is taken

free-behind : (taken : List Bool) → least_free taken < length taken → get_or taken (least_free taken) false ≡ false
free-behind [] h = refl
free-behind (false ∷ rest) h = refl
free-behind (true ∷ rest) h = free-behind rest (omega (arith, h))

-- the pages of a free slot are zero
zero-pages : (n : ℕ) (s : Paging) (page : ℕ) → ((q : ℕ) → page ≤ q → q < page + n → words_of s q ≡ zeros 64) → pages_from n s page ≡ zeros (n * 64)
unfolding pages_from
zero-pages zero s page h = refl
zero-pages (suc n) s page h =
    ap (λ w. w ++ pages_from n s (page + 1)) (h page (omega arith) (omega arith))
    ∙ ap (λ r. zeros 64 ++ r) (zero-pages n s (page + 1) (λ q a b. h q (omega (arith, a)) (omega (arith, b))))
    ∙ replicate-append-replicate 64 (n * 64) (Data 0) ∙ ap zeros (more n)
  where
    more : (n : ℕ) → 64 + n * 64 ≡ suc n * 64
    more n = omega arith

pub zero-here : {taken : List Bool} (s : Paging) → IsSound taken s.frames s.blocks → (page : ℕ) → get_or taken (page / 8) false ≡ false → words_of s page ≡ zeros 64
zero-here {taken} s k page e =
    words-out s page (λ a x p q. false≢true (sym e ∙ ap (λ n. get_or taken (n / 8) false) (sym q) ∙ k.live a x p)) ∙ by (get_or s.blocks page None) refl
  where
    by : (o : Option (List Word)) → get_or s.blocks page None ≡ o → block_words s.blocks page ≡ zeros 64
    by None r = ap (λ o. if_there o (zeros 64) (λ (words : List Word). words)) r
    by (Some w) r = absurd (false≢true (sym e ∙ k.kept page w r))

pub record Took (taken : List Bool) (f : FramesState) (bytes : List (List ℕ)) : Type 0 where
  pub paged : IsPaged (set taken (least_free taken) true) f bytes
  pub slots : slots_of (set taken (least_free taken) true) (paging_of f bytes) ≡ set (slots_of taken (paging_of f bytes)) (least_free taken) (Some (zeros 512))

pub took-here : {taken : List Bool} {f : FramesState} {bytes : List (List ℕ)} → IsPaged taken f bytes → least_free taken < length taken → Took taken f bytes
took-here {taken} {f} {bytes} k l =
    let s = paging_of f bytes in
    let i = least_free taken in
    record {
      paged = record {
        slots = length-set taken i true ∙ k.slots;
        marks = k.marks;
        some = k.some;
        stands = k.stands;
        sound = record {
          one = k.sound.one;
          whole = k.sound.whole;
          full = k.sound.full;
          clean = k.sound.clean;
          live = λ a x p. more (x.page / 8) (k.sound.live a x p);
          kept = λ p w e. more (p / 8) (k.sound.kept p w e);
        };
        stored = k.stored;
      };
      slots =
          slots-set taken s s 0 i true l (λ q o. refl)
          ∙ ap (λ w. set (slots_of taken s) i (Some w))
          (zero-pages 8 s (0 + 8 * i) (λ q a b. zero-here s k.sound q (ap (λ n. get_or taken n false) (within q a b) ∙ free-behind taken l)));
    }
  where
    more : (j : ℕ) → get_or taken j false ≡ true → get_or (set taken (least_free taken) true) j false ≡ true
    more j e = by (cases_eq j (least_free taken))
      where
        by : (j ≡ least_free taken) ⊎ (j ≡ least_free taken → ⊥) → get_or (set taken (least_free taken) true) j false ≡ true
        by (inl x) = ap (λ n. get_or (set taken (least_free taken) true) n false) x ∙ get_or-set_same taken (least_free taken) true false l
        by (inr d) = get_or-set_other taken (least_free taken) j true false d ∙ e

    within : (q : ℕ) → 0 + 8 * least_free taken ≤ q → q < 0 + 8 * least_free taken + 8 → q / 8 ≡ least_free taken
    within q a b = omega (arith, a, b)

-- ---- at first

pub record Fresh (f : FramesState) (bytes : List (List ℕ)) (n : ℕ) : Type 0 where
  pub paged : IsPaged (replicate 521 false) f bytes
  pub slots : slots_of (replicate 521 false) (paging_of f bytes) ≡ replicate 521 None
  pub paging : paging_of f bytes ≡ record { frames = replicate n None; hand = 0; blocks = replicate 4168 None }

no-slots : (n page : ℕ) (s : Paging) → slots_from page (replicate n false) s ≡ replicate n None
no-slots zero page s = refl
no-slots (suc n) page s = ap (λ r. None ∷ r) (no-slots n (page + 8) s)

no-blocks : (n : ℕ) (bytes : List (List ℕ)) → blocks_of (replicate n false) bytes ≡ replicate n None
no-blocks zero bytes = refl
no-blocks (suc n) [] = ap (λ r. None ∷ r) (no-blocks n [])
no-blocks (suc n) (b ∷ bytes) = ap (λ r. None ∷ r) (no-blocks n bytes)

none-at : {X : Type 0} (n i : ℕ) (x : X) → get_or (replicate {A = Option X} n None) i None ≡ Some x → ⊥
none-at zero i x e = none-some x e
none-at (suc n) zero x e = none-some x e
none-at (suc n) (suc i) x e = none-at n i x e

false-at : (n i : ℕ) → get_or (replicate n false) i false ≡ true → ⊥
false-at zero i e = false≢true e
false-at (suc n) zero e = false≢true e
false-at (suc n) (suc i) e = false-at n i e

pub fresh : {f : FramesState} {bytes : List (List ℕ)} {n : ℕ} → 8 ≤ n → f.frames ≡ replicate n None → f.hand ≡ 0 → f.stored ≡ replicate 4168 false → Fresh f bytes n
fresh {f} {bytes} {n} some fs hd st =
    let blocks : blocks_of f.stored bytes ≡ replicate 4168 None = ap (λ t. blocks_of t bytes) st ∙ no-blocks 4168 bytes in
    let long : length f.frames ≡ n = ap (λ (t : List (Option Frame)). length t) fs ∙ length-replicate {A = Option Frame} n None in
    let out : (a : ℕ) (x : Frame) → get_or f.frames a None ≡ Some x → ⊥ = λ a x p. none-at n a x (ap (λ t. get_or t a None) (sym fs) ∙ p) in
    let off : (p : ℕ) (w : List Word) → get_or (blocks_of f.stored bytes) p None ≡ Some w → ⊥ = λ p w e. none-at 4168 p w (ap (λ t. get_or t p None) (sym blocks) ∙ e) in
    record {
      paged = record {
        slots = length-replicate {A = Bool} 521 false;
        marks = ap (λ (t : List Bool). length t) st ∙ length-replicate {A = Bool} 4168 false;
        some = omega (arith, some, long);
        stands = omega (arith, hd, some, long);
        sound = record {
          one = record { one = λ i j x y p q s. absurd (out i x p) };
          whole = λ a x p. absurd (out a x p);
          full = λ p w e. absurd (off p w e);
          clean = λ a x p c. absurd (out a x p);
          live = λ a x p. absurd (out a x p);
          kept = λ p w e. absurd (off p w e);
        };
        stored = record { is_page = λ p e. absurd (false-at 4168 p (ap (λ t. get_or t p false) (sym st) ∙ e)) };
      };
      slots = no-slots 521 0 (paging_of f bytes);
      paging = same-paging fs hd blocks;
    }
