-- Room for a page: what holds of the frames after each step.
use Rattle.std.proofs.Common.{◌≡◌, ℕ, zero, suc, ◌<◌, ◌≤◌, Bool, true, false, List, Option, Some, None, length, get_or, set, refl, sym, ap, ◌∙◌, arith, subst, if◌then◌else◌, ◌==◌}
use Rattle.std.proofs.lemmas.List.{length-set, get_or-set_same, get_or-set_other}
use Rattle.std.specs.Prelude.{option_map, ◌/◌, not, ◌&&◌}
use Rattle.std.proofs.lemmas.Option.{none-some, same_Some}
use Rattle.std.proofs.lemmas.Bool.{false≢true, le-ltb, lt-ltb}
use Rattle.psos_words.specs.declared.word.Word.{Word}
use Rattle.psos_pages.specs.Frames.{Frame, Paging, holds, unmarked, at_frame, is_used, block_words, filled, fetched, frame_at, frame_of, free_frame, next_frame, swept, saved, page_in, evicted, has_free, chosen, with_room, is_changed, writes}
use Rattle.psos_pages.specs.Kept.{FramesState, IsHeld}
use Rattle.psos_pages.specs.State.{IsSound, IsPaged, AreStored, paging_of, blocks_of}
use Rattle.psos_pages.proofs.Columns.{free-one, free-none, frame_of-set}
use Rattle.psos_pages.proofs.Machine.{sound-less, words-less, sound-filled, words-filled, frame-of, no-frame, not-found, AfterSet, after-set}
use Rattle.psos_pages.proofs.Machine.AfterSet.{Here, Apart}
use Rattle.psos_pages.proofs.Stored.{length-blocks}
use Rattle.psos_pages.proofs.Keeps.{Keeps, keeps-more, swept-keeps, swept-free, held-full, evicted-keeps}

pub same-paging : {f g : List (Option Frame)} {h i : ℕ} {b d : List (Option (List Word))} → f ≡ g → h ≡ i → b ≡ d
    → ◌≡◌ {A = Paging} (record { frames = f; hand = h; blocks = b }) (record { frames = g; hand = i; blocks = d })
same-paging {f} {g} {h} {i} {b} {d} x y z =
    ap (λ u. record { frames = u; hand = h; blocks = b }) x ∙ ap (λ u. record { frames = g; hand = u; blocks = b }) y ∙ ap (λ u. record { frames = g; hand = i; blocks = u }) z

-- another state of frames and store with the same words
pub paged-on : {taken : List Bool} {f g : FramesState} {old new : List (List ℕ)} → IsPaged taken f old → Keeps taken (paging_of f old) (paging_of g new) → length g.stored ≡ 4168 → AreStored g.stored new → IsPaged taken g new
paged-on k keeps marks stored = record { slots = k.slots; marks = marks; some = omega (arith, k.some, keeps.long); stands = keeps.stands; sound = keeps.sound; stored = stored }

-- ---- after the sweep, where no frame was free

pub record Chosen (taken : List Bool) (f : FramesState) (bytes : List (List ℕ)) (g : FramesState) : Type 0 where
  pub held : IsHeld g.frames g.hand
  pub keeps : Keeps taken (paging_of f bytes) (paging_of g bytes)
  pub marks : length g.stored ≡ 4168
  pub is : paging_of g bytes ≡ chosen (paging_of f bytes)
  pub full : length g.frames ≤ free_frame g.frames
  pub stored : AreStored g.stored bytes

pub chosen-here : {taken : List Bool} {f g : FramesState} {bytes : List (List ℕ)} → IsPaged taken f bytes → length f.frames ≤ free_frame f.frames
    → ◌≡◌ {A = List (Option Frame) × ℕ} (g.frames, g.hand) (swept (length f.frames) f.frames f.hand) → g.stored ≡ f.stored → Chosen taken f bytes g
chosen-here {taken} {f} {g} {bytes} k full e s =
    let c = swept (length f.frames) f.frames f.hand in
    let frames : g.frames ≡ c.0 = ap (λ (p : List (Option Frame) × ℕ). p.0) e in
    let hand : g.hand ≡ c.1 = ap (λ (p : List (Option Frame) × ℕ). p.1) e in
    let is : paging_of g bytes ≡ chosen (paging_of f bytes) = same-paging frames hand (ap (λ t. blocks_of t bytes) s) in
    let keeps : Keeps taken (paging_of f bytes) (paging_of g bytes) = subst (Keeps taken (paging_of f bytes)) (sym is) (swept-keeps (length f.frames) (paging_of f bytes) k.sound k.stands) in
    let all : length g.frames ≤ free_frame g.frames = omega (arith, full, keeps.long, ap free_frame frames, swept-free (length f.frames) f.frames f.hand) in
    record {
      held = held-full g.frames g.hand keeps.stands all;
      keeps = keeps;
      marks = ap (λ (t : List Bool). length t) s ∙ k.marks;
      is = is;
      full = all;
      stored = subst (λ t. AreStored t bytes) (sym s) k.stored;
    }

-- ---- where the victim's write failed, it stays

pub stays-here : {taken : List Bool} {f g : FramesState} {old : List (List ℕ)} (h : FramesState) (new : List (List ℕ)) → IsPaged taken f old → Chosen taken f old g → h.frames ≡ g.frames → h.hand ≡ g.hand
    → blocks_of h.stored new ≡ set (blocks_of g.stored old) (page_in (frame_at g.frames g.hand)) None → is_changed (frame_at g.frames g.hand) ≡ true → Keeps taken (paging_of f old) (paging_of h new)
stays-here {taken} {f} {g} {old} h new k c fs hd bs changed = keeps-more c.keeps (by (frame_at g.frames g.hand) refl changed bs)
  where
    at : Frame → Paging
    at v = record { frames = g.frames; hand = g.hand; blocks = set (blocks_of g.stored old) v.page None }

    by : (o : Option Frame) → frame_at g.frames g.hand ≡ o → is_changed o ≡ true → blocks_of h.stored new ≡ set (blocks_of g.stored old) (page_in o) None → Keeps taken (paging_of g old) (paging_of h new)
    by None e is b = absurd (false≢true is)
    by (Some v) e is b =
        let off : (a : ℕ) (x : Frame) → get_or g.frames a None ≡ Some x → x.changed ≡ false → x.page ≡ v.page → ⊥ =
        λ a x p clean s.
        let same : a ≡ g.hand = c.keeps.sound.one.one a g.hand x v p e s in
        let it : x ≡ v = same_Some x v (sym p ∙ ap (λ n. get_or g.frames n None) same ∙ e) in
        false≢true (sym clean ∙ ap (λ (z : Frame). z.changed) it ∙ is) in
        subst (Keeps taken (paging_of g old)) (sym (same-paging {f = h.frames} {g = g.frames} fs hd b))
        (record { sound = sound-less c.keeps.sound v.page off; words = words-less c.keeps.sound g.hand g.hand g.hand v e; long = refl; stands = c.keeps.stands })

-- ---- the victim goes

pub record Evicted (taken : List Bool) (f : FramesState) (old : List (List ℕ)) (h : FramesState) (new : List (List ℕ)) (i : ℕ) : Type 0 where
  pub keeps : Keeps taken (paging_of f old) (paging_of h new)
  pub is : paging_of h new ≡ evicted (chosen (paging_of f old))
  pub free : i ≡ free_frame h.frames
  pub within : i < length h.frames

pub evicted-here : {taken : List Bool} {f g h : FramesState} {old new : List (List ℕ)} → IsPaged taken f old → Chosen taken f old g → (i : ℕ) → i ≡ g.hand → h.frames ≡ set g.frames g.hand None → h.hand ≡ next_frame (length g.frames) g.hand
    → blocks_of h.stored new ≡ saved (blocks_of g.stored old) (frame_at g.frames g.hand) → Evicted taken f old h new i
evicted-here {taken} {f} {g} {h} {old} {new} k c i at fs hd bs =
    let goes : paging_of h new ≡ evicted (paging_of g old) = same-paging {f = h.frames} fs hd bs in
    let keeps = evicted-keeps {s = paging_of g old} k.slots (length-blocks g.stored old ∙ c.marks) c.keeps.sound c.keeps.stands c.held in
    record {
      keeps = keeps-more c.keeps (subst (Keeps taken (paging_of g old)) (sym goes) keeps);
      is = goes ∙ ap evicted c.is;
      free = at ∙ sym (ap free_frame fs ∙ free-one g.frames g.hand c.keeps.stands c.full);
      within = omega (arith, at, c.keeps.stands, ap (λ (s : List (Option Frame)). length s) fs, length-set g.frames g.hand None);
    }

-- ---- where a frame is free, nothing is done; where none is, the victim goes

pub room-free : (s : Paging) → free_frame s.frames < length s.frames → s ≡ with_room s
room-free s h = sym (ap (λ b. if b then s else evicted (chosen s)) (lt-ltb (free_frame s.frames) (length s.frames) h))

pub room-full : (s : Paging) → length s.frames ≤ free_frame s.frames → evicted (chosen s) ≡ with_room s
room-full s h = sym (ap (λ b. if b then s else evicted (chosen s)) (le-ltb (free_frame s.frames) (length s.frames) h))

-- ---- a page that is not resident

-- a change of a frame that keeps its page changes no answer to the search
pub at_frame-found : (change : Frame → Frame) (frames : List (Option Frame)) (i q : ℕ) → ((f : Frame) → (change f).page ≡ f.page) → frame_of (at_frame change frames i) q ≡ frame_of frames q
at_frame-found change frames i q same = frame_of-set frames i q (option_map change (frame_at frames i)) (by (frame_at frames i))
  where
    by : (o : Option Frame) → holds q o ≡ holds q (option_map change o)
    by None = refl
    by (Some f) = ap (λ n. n == q) (sym (same f))

pub swept-away : (n : ℕ) (frames : List (Option Frame)) (hand q : ℕ) → frame_of (swept n frames hand).0 q ≡ frame_of frames q
unfolding swept
swept-away zero frames hand q = refl
swept-away (suc n) frames hand q = by (λ s h. swept-away n s h q) (is_used (frame_at frames hand))
  where
    by : ((s : List (Option Frame)) (h : ℕ) → frame_of (swept n s h).0 q ≡ frame_of s q) → (b : Bool)
        → frame_of (if b then swept n (at_frame unmarked frames hand) (next_frame (length frames) hand) else (frames, hand)).0 q ≡ frame_of frames q
    by more false = refl
    by more true = more (at_frame unmarked frames hand) (next_frame (length frames) hand) ∙ at_frame-found unmarked frames hand q (λ f. refl)

-- is brought into no frame by making room, and its block stays as it is
pub record Away (s : Paging) (page : ℕ) : Type 0 where
  pub away : frame_of (with_room s).frames page ≡ None
  pub block : get_or (with_room s).blocks page None ≡ get_or s.blocks page None

pub room-away : (s : Paging) (page : ℕ) → frame_of s.frames page ≡ None → Away s page
room-away s page e = by (has_free s) refl
  where
    c : Paging
    c = chosen s

    out : frame_of (chosen s).frames page ≡ None
    out = swept-away (length s.frames) s.frames s.hand page ∙ e

    gone : frame_of (set (chosen s).frames (chosen s).hand None) page ≡ None
    gone = no-frame (set (chosen s).frames (chosen s).hand None) page (λ a x p q. on a x q (after-set (chosen s).frames (chosen s).hand None a x p))
      where
        on : (a : ℕ) (x : Frame) → x.page ≡ page → AfterSet (chosen s).frames (chosen s).hand None a x → ⊥
        on a x q (Here i r) = none-some x r
        on a x q (Apart i r) = not-found (chosen s).frames page out a x r q

    block : (o : Option Frame) → frame_at (chosen s).frames (chosen s).hand ≡ o → get_or (saved s.blocks o) page None ≡ get_or s.blocks page None
    block None r = refl
    block (Some f) r = changed f.changed
      where
        changed : (b : Bool) → get_or (if b then set s.blocks f.page (Some f.words) else s.blocks) page None ≡ get_or s.blocks page None
        changed false = refl
        changed true = get_or-set_other s.blocks f.page page (Some f.words) None (λ q. not-found (chosen s).frames page out (chosen s).hand f r (sym q))

    by : (b : Bool) → has_free s ≡ b → Away s page
    by true h =
        let is : with_room s ≡ s = ap (λ b. if b then s else evicted (chosen s)) h in
        record { away = ap (λ (t : Paging). frame_of t.frames page) is ∙ e; block = ap (λ (t : Paging). get_or t.blocks page None) is }
    by false h =
        let is : with_room s ≡ evicted (chosen s) = ap (λ b. if b then s else evicted (chosen s)) h in
        record { away = ap (λ (t : Paging). frame_of t.frames page) is ∙ gone; block = ap (λ (t : Paging). get_or t.blocks page None) is ∙ block (frame_at (chosen s).frames (chosen s).hand) refl }

-- a page is put into the least free frame
pub record Filled (taken : List Bool) (s : Paging) (page : ℕ) : Type 0 where
  pub keeps : Keeps taken s (filled s (free_frame s.frames) page)
  pub found : frame_of (filled s (free_frame s.frames) page).frames page ≡ Some (free_frame s.frames)

pub filled-here : {taken : List Bool} (s : Paging) (page : ℕ) → IsSound taken s.frames s.blocks → s.hand < length s.frames → free_frame s.frames < length s.frames → frame_of s.frames page ≡ None → get_or taken (page / 8) false ≡ true → Filled taken s page
filled-here {taken} s page k stands within away live =
    let i = free_frame s.frames in
    let g : Frame = record { page = page; words = block_words s.blocks page; used = true; changed = false } in
    let sound = sound-filled k i g away refl live in
    record {
      keeps = record { sound = sound; words = words-filled k i g away refl live s.hand s.hand within (free-none s.frames within); long = length-set s.frames i (Some g); stands = omega (arith, stands, length-set s.frames i (Some g)) };
      found = frame-of sound.one i g (get_or-set_same s.frames i (Some g) None within);
    }

pub record Fetched (taken : List Bool) (f : FramesState) (old : List (List ℕ)) (h : FramesState) (new : List (List ℕ)) (page i : ℕ) : Type 0 where
  pub keeps : Keeps taken (paging_of f old) (paging_of h new)
  pub paged : IsPaged taken h new
  pub is : ◌≡◌ {A = Paging × ℕ} (paging_of h new, i) (fetched (paging_of f old) page)
  pub found : frame_of h.frames page ≡ Some i

pub fetched-here : {taken : List Bool} {f h : FramesState} {old new : List (List ℕ)} {page i : ℕ} (words : List Word) → IsPaged taken f old → i ≡ free_frame f.frames → i < length f.frames → frame_of f.frames page ≡ None → get_or taken (page / 8) false ≡ true
    → h.frames ≡ set f.frames i (Some (record { page = page; words = words; used = true; changed = false })) → h.hand ≡ f.hand → h.stored ≡ f.stored → new ≡ old → words ≡ block_words (blocks_of f.stored old) page → Fetched taken f old h new page i
fetched-here {taken} {f} {h} {old} {new} {page} {i} words k free within away live fs hd st same w =
    let s = paging_of f old in
    let done = filled-here s page k.sound k.stands (omega (arith, within, free)) away live in
    let frames : h.frames ≡ (filled s (free_frame s.frames) page).frames =
    fs ∙ ap (λ n. set f.frames n (Some (record { page = page; words = words; used = true; changed = false }))) free
    ∙ ap (λ x. set f.frames (free_frame f.frames) (Some (record { page = page; words = x; used = true; changed = false }))) w in
    let blocks : blocks_of h.stored new ≡ blocks_of f.stored old = ap (λ t. blocks_of t new) st ∙ ap (blocks_of f.stored) same in
    let is : paging_of h new ≡ filled s (free_frame s.frames) page = same-paging frames hd blocks in
    let keeps : Keeps taken s (paging_of h new) = subst (Keeps taken s) (sym is) done.keeps in
    record {
      keeps = keeps;
      paged = paged-on k keeps (ap (λ (t : List Bool). length t) st ∙ k.marks) (subst (λ t. AreStored t new) (sym st) (subst (AreStored f.stored) (sym same) k.stored));
      is = ap (λ t. (t, i)) is ∙ ap (λ n. (filled s (free_frame s.frames) page, n)) free;
      found = ap (λ t. frame_of t page) frames ∙ done.found ∙ ap Some (sym free);
    }

-- ---- when a block is written

pub writes-here : (s : Paging) → length s.frames ≤ free_frame s.frames → is_changed (frame_at (chosen s).frames (chosen s).hand) ≡ true → writes s ≡ true
writes-here s full e = ap (λ b. not b && is_changed (frame_at (chosen s).frames (chosen s).hand)) (le-ltb (free_frame s.frames) (length s.frames) full) ∙ e
