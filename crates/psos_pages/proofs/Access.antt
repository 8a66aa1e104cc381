-- What an access does to the words that are seen.
use Rattle.std.proofs.Common.{◌≡◌, ℕ, ◌+◌, ◌*◌, ◌<◌, ◌≤◌, ◌/◌, ◌%◌, Bool, true, false, List, [], ◌∷◌, ◌⊎◌, Option, Some, None, length, take, drop, get_or, set, refl, sym, ap, ◌∙◌, inl, inr, arith, subst}
use Rattle.std.specs.Prelude.{option_map}
use Rattle.std.proofs.lemmas.List.{length-set, set-get_or}
use Rattle.std.proofs.lemmas.Option.{none-some}
use Rattle.std.proofs.lemmas.Bool.{true≢false}
use Rattle.psos_words.specs.declared.word.Word.{Word}
use Rattle.psos_words.specs.Words.{zeros, word_at}
use Rattle.psos_calls.specs.Language.Tests.{if_there}
use Rattle.psos_calls.specs.Levels.Level7.{IsTaken, around, place_in_slot, page_words, with_words, written}
use Rattle.psos_pages.specs.Frames.{Frame, Paging, frame_at, frame_of, frame_words, block_words, words_of, at_frame, looked_at, put_in}
use Rattle.psos_pages.specs.Kept.{FramesState, IsHeld}
use Rattle.psos_pages.specs.State.{IsSound, IsPaged, AreStored, paging_of, blocks_of, slots_of, slots_from, pages_from, ShowsWords, HoldsBlocks}
use Rattle.psos_pages.proofs.Machine.{found-at, words-in, sound-put, words-marked, words-put_here, words-put_apart}
use Rattle.psos_pages.proofs.Keeps.{Keeps}
use Rattle.psos_pages.proofs.Room.{same-paging, paged-on}
use Rattle.psos_words.specs.Block.{page_of}
use Rattle.psos_pages.proofs.Stored.{block-none, block-some}
use Rattle.psos_pages.proofs.Seen.{TakenAt, taken-at, slots-set, word-in, page-in, written-in}

-- every page has 64 words
pub words-long : {taken : List Bool} (s : Paging) → IsSound taken s.frames s.blocks → (q : ℕ) → length (words_of s q) ≡ 64
words-long s k q = by (frame_of s.frames q) refl
  where
    in-block : (o : Option (List Word)) → get_or s.blocks q None ≡ o → length (block_words s.blocks q) ≡ 64
    in-block None e = ap (λ o. length (if_there o (zeros 64) (λ (words : List Word). words))) e
    in-block (Some words) e = ap (λ o. length (if_there o (zeros 64) (λ (words : List Word). words))) e ∙ k.full q words e

    by : (r : Option ℕ) → frame_of s.frames q ≡ r → length (words_of s q) ≡ 64
    by None e = ap (λ r. length (if_there r (block_words s.blocks q) (λ i. frame_words (frame_at s.frames i)))) e ∙ in-block (get_or s.blocks q None) refl
    by (Some i) e =
        let it = found-at s.frames q i e in
        ap (λ r. length (if_there r (block_words s.blocks q) (λ i. frame_words (frame_at s.frames i)))) e ∙ ap (λ o. length (frame_words o)) it.there ∙ k.whole i it.frame it.there

-- the words of a resident page are its frame's
pub words-there : {taken : List Bool} (s : Paging) → IsSound taken s.frames s.blocks → (page i : ℕ) → frame_of s.frames page ≡ Some i → frame_words (frame_at s.frames i) ≡ words_of s page
words-there s k page i e = sym (ap (λ r. if_there r (block_words s.blocks page) (λ i. frame_words (frame_at s.frames i))) e)

-- a resident page has its frame
pub held-there : (frames : List (Option Frame)) (page i : ℕ) → frame_of frames page ≡ Some i → IsHeld frames i
held-there frames page i e = let it = found-at frames page i e in record { frame = it.frame; there = it.there }

-- ---- a frame is accessed

pub record Looked (taken : List Bool) (f h : FramesState) (bytes : List (List ℕ)) : Type 0 where
  pub keeps : Keeps taken (paging_of f bytes) (paging_of h bytes)
  pub paged : IsPaged taken h bytes

pub looked-here : {taken : List Bool} {f h : FramesState} {bytes : List (List ℕ)} → IsPaged taken f bytes → (page i : ℕ) → frame_of f.frames page ≡ Some i → h.frames ≡ at_frame looked_at f.frames i → h.hand ≡ f.hand → h.stored ≡ f.stored → Looked taken f h bytes
looked-here {taken} {f} {h} {bytes} k page i e fs hd st =
    let it = found-at f.frames page i e in
    let g : Frame = looked_at it.frame in
    let sound = sound-put k.sound i it.frame it.there g refl (k.sound.whole i it.frame it.there) (λ c. k.sound.clean i it.frame it.there c) in
    let frames : h.frames ≡ set f.frames i (Some g) = fs ∙ ap (λ o. set f.frames i (option_map looked_at o)) it.there in
    let is : paging_of h bytes ≡ record { frames = set f.frames i (Some g); hand = f.hand; blocks = blocks_of f.stored bytes } = same-paging frames hd (ap (λ t. blocks_of t bytes) st) in
    let keeps : Keeps taken (paging_of f bytes) (paging_of h bytes) =
    subst (Keeps taken (paging_of f bytes)) (sym is)
    (record { sound = sound; words = words-marked k.sound i it.frame it.there f.hand f.hand g refl refl sound.one; long = length-set f.frames i (Some g); stands = omega (arith, k.stands, length-set f.frames i (Some g)) }) in
    record { keeps = keeps; paged = paged-on k keeps (ap (λ (t : List Bool). length t) st ∙ k.marks) (subst (λ t. AreStored t bytes) (sym st) k.stored) }

-- ---- a frame is changed

pub record Changed (taken : List Bool) (f h : FramesState) (bytes : List (List ℕ)) (page : ℕ) (change : List Word → List Word) : Type 0 where
  pub here : words_of (paging_of h bytes) page ≡ change (words_of (paging_of f bytes) page)
  pub apart : (q : ℕ) → (q ≡ page → ⊥) → words_of (paging_of h bytes) q ≡ words_of (paging_of f bytes) q
  pub paged : IsPaged taken h bytes

pub changed-here : {taken : List Bool} {f h : FramesState} {bytes : List (List ℕ)} → IsPaged taken f bytes → (page i : ℕ) → frame_of f.frames page ≡ Some i → (change : List Word → List Word) → ((w : List Word) → length (change w) ≡ length w)
    → h.frames ≡ at_frame (put_in change) f.frames i → h.hand ≡ f.hand → h.stored ≡ f.stored → Changed taken f h bytes page change
changed-here {taken} {f} {h} {bytes} k page i e change long fs hd st =
    let it = found-at f.frames page i e in
    let g : Frame = put_in change it.frame in
    let sound = sound-put k.sound i it.frame it.there g refl (long it.frame.words ∙ k.sound.whole i it.frame it.there) (λ c. absurd (true≢false c)) in
    let frames : h.frames ≡ set f.frames i (Some g) = fs ∙ ap (λ o. set f.frames i (option_map (put_in change) o)) it.there in
    let is : paging_of h bytes ≡ record { frames = set f.frames i (Some g); hand = f.hand; blocks = blocks_of f.stored bytes } = same-paging frames hd (ap (λ t. blocks_of t bytes) st) in
    record {
      here =
          ap (λ s. words_of s page) is ∙ ap (words_of (record { frames = set f.frames i (Some g); hand = f.hand; blocks = blocks_of f.stored bytes })) (sym it.same)
          ∙ words-put_here k.sound i it.frame it.there f.hand g refl sound.one
          ∙ ap change (sym (words-in (paging_of f bytes) k.sound.one i it.frame it.there) ∙ ap (words_of (paging_of f bytes)) it.same);
      apart = λ q d. ap (λ s. words_of s q) is ∙ words-put_apart k.sound i it.frame it.there f.hand f.hand g refl sound.one q (λ x. d (x ∙ it.same));
      paged = record {
        slots = k.slots;
        marks = ap (λ (t : List Bool). length t) st ∙ k.marks;
        some = omega (arith, k.some, ap (λ (t : List (Option Frame)). length t) frames, length-set f.frames i (Some g));
        stands = omega (arith, k.stands, hd, ap (λ (t : List (Option Frame)). length t) frames, length-set f.frames i (Some g));
        sound = subst (λ s. IsSound taken s (blocks_of h.stored bytes)) (sym frames) (subst (λ t. IsSound taken (set f.frames i (Some g)) (blocks_of t bytes)) (sym st) sound);
        stored = subst (λ t. AreStored t bytes) (sym st) k.stored;
      };
    }

-- ---- seen by the levels above

-- a page among those of its slot
in-slot : (page : ℕ) → 8 * (page / 8) + page % 8 ≡ page
in-slot page = omega arith

module _ (taken : List Bool) (s : Paging) (k : IsSound taken s.frames s.blocks) (page : ℕ) (t : IsTaken (slots_of taken s) (page / 8)) where
  it : TakenAt taken s (page / 8)
  it = taken-at taken s (page / 8) t

  -- a word
  pub seen-word : (off : ℕ) → off < 64 → word_at (words_of s page) off ≡ word_at (around (slots_of taken s) page) (place_in_slot page off)
  seen-word off l =
      sym (ap (λ w. word_at w (page % 8 * 64 + off)) it.words ∙ word-in s (words-long s k) 8 (8 * (page / 8)) (page % 8) off (omega arith) l ∙ ap (λ q. word_at (words_of s q) off) (in-slot page))

  -- a page
  pub seen-page : words_of s page ≡ page_words (slots_of taken s) page
  seen-page = sym (ap (λ w. take 64 (drop (page % 8 * 64 + 0) w)) it.words ∙ page-in s (words-long s k) 8 (8 * (page / 8)) (page % 8) (omega arith) ∙ ap (words_of s) (in-slot page))

  -- words that are written
  pub seen-written : (u : Paging) (off : ℕ) (new : List Word) → off + length new ≤ 64 → words_of u page ≡ written (words_of s page) off new → ((q : ℕ) → (q ≡ page → ⊥) → words_of u q ≡ words_of s q)
      → slots_of taken u ≡ with_words (slots_of taken s) page (written (around (slots_of taken s) page) (place_in_slot page off) new)
  seen-written u off new l here apart =
      let i = page / 8 in
      let same : set taken i true ≡ taken = ap (set taken i) (sym it.is_taken) ∙ set-get_or taken i false in
      ap (λ b. slots_from 0 b u) (sym same)
      ∙ slots-set taken s u 0 i true it.within (λ q o. apart q (far q o))
      ∙ ap (λ n. set (slots_of taken s) i (Some (pages_from 8 u n))) (none i)
      ∙ ap (λ w. set (slots_of taken s) i (Some w))
      (written-in s u (words-long s k) 8 (8 * i) (page % 8) off new (omega arith) l
      (ap (words_of u) (in-slot page) ∙ here ∙ ap (λ q. written (words_of s q) off new) (sym (in-slot page)))
      (λ q d. apart q (λ x. d (x ∙ sym (in-slot page))))
      ∙ ap (λ w. written w (place_in_slot page off) new) (sym it.words))
    where
      none : (i : ℕ) → 0 + 8 * i ≡ 8 * i
      none i = omega arith

      far : (q : ℕ) → (q < 0 + 8 * (page / 8)) ⊎ (0 + 8 * (page / 8) + 8 ≤ q) → q ≡ page → ⊥
      far q (inl a) e = absurd (omega (arith, a, e))
      far q (inr a) e = absurd (omega (arith, a, e))

pub length-written : (words : List Word) (at : ℕ) (new : List Word) → length (written words at new) ≡ length words
length-written words at [] = refl
length-written words at (w ∷ new) = length-written (set words at w) (at + 1) new ∙ length-set words at w

-- ---- what is told of all states

pub shows-words : {taken : List Bool} (s : Paging) → IsSound taken s.frames s.blocks → ShowsWords (slots_of taken s) s
shows-words {taken} s k = record { shown = λ page t. sym (seen-page taken s k page t) }

pub holds-blocks : (stored : List Bool) (bytes : List (List ℕ)) → HoldsBlocks (blocks_of stored bytes) bytes
holds-blocks stored bytes = record { held = λ page words e. by page words (get_or stored page false) refl e }
  where
    by : (page : ℕ) (words : List Word) (b : Bool) → get_or stored page false ≡ b → get_or (blocks_of stored bytes) page None ≡ Some words → page_of (get_or bytes page []) ≡ Some words
    by page words false h e = absurd (none-some words (sym (block-none stored bytes page h) ∙ e))
    by page words true h e = sym (block-some stored bytes page h) ∙ e
