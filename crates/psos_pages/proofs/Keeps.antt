-- What each step of the machine of frames keeps: the words of all pages.
use Rattle.std.proofs.Common.{◌≡◌, ℕ, zero, suc, ◌+◌, ◌<◌, ◌≤◌, ◌/◌, Bool, true, false, List, [], ◌∷◌, ◌⊎◌, Option, Some, None, length, get_or, set, refl, sym, ap, ◌∙◌, inl, inr, arith, if◌then◌else◌, ◌==◌}
use Rattle.std.proofs.lemmas.List.{length-set, get_or-set_same, get_or_past}
use Rattle.std.proofs.lemmas.Option.{none-some}
use Rattle.std.proofs.lemmas.Bool.{cases_lt, false≢true, eqb-false}
use Rattle.std.specs.Prelude.{option_map, is_some}
use Rattle.psos_words.specs.declared.word.Word.{Word}
use Rattle.psos_words.specs.Words.{zeros}
use Rattle.psos_calls.specs.Language.Tests.{if_there}
use Rattle.psos_pages.specs.Frames.{Frame, Paging, frame_at, free_frame, words_of, next_frame, is_used, unmarked, at_frame, swept, saved, evicted}
use Rattle.psos_pages.specs.Kept.{IsHeld}
use Rattle.psos_pages.specs.State.{IsSound}
use Rattle.psos_pages.proofs.Columns.{before-free}
use Rattle.psos_pages.proofs.Machine.{sound-put, words-marked, sound-empty, sound-saved, words-emptied, block-apart}

-- another state with the same words
pub record Keeps (taken : List Bool) (s t : Paging) : Type 0 where
  pub sound : IsSound taken t.frames t.blocks
  pub words : (q : ℕ) → words_of t q ≡ words_of s q
  pub long : length t.frames ≡ length s.frames
  pub stands : t.hand < length t.frames

pub keeps-more : {taken : List Bool} {s t u : Paging} → Keeps taken s t → Keeps taken t u → Keeps taken s u
keeps-more a b = record { sound = b.sound; words = λ q. b.words q ∙ a.words q; long = b.long ∙ a.long; stands = b.stands }

pub next-below : (n i : ℕ) → i < n → next_frame n i < n
next-below n i h = by (i + 1 == n) refl
  where
    by : (b : Bool) → (i + 1 == n) ≡ b → (if b then 0 else i + 1) < n
    by true e = omega (arith, h)
    by false e = let far = eqb-false (i + 1) n e in by_order (cases_lt (i + 1) n) far
      where
        by_order : (i + 1 < n) ⊎ (n ≤ i + 1) → (i + 1 ≡ n → ⊥) → i + 1 < n
        by_order (inl l) far = l
        by_order (inr g) far = absurd (far (omega (arith, g, h)))

-- ---- the sweep

length-at_frame : (change : Frame → Frame) (s : List (Option Frame)) (i : ℕ) → length (at_frame change s i) ≡ length s
length-at_frame change s i = length-set s i (option_map change (frame_at s i))

pub unmarked-keeps : {taken : List Bool} {s : Paging} → IsSound taken s.frames s.blocks → s.hand < length s.frames → is_used (frame_at s.frames s.hand) ≡ true
    → Keeps taken s (record s { frames = at_frame unmarked s.frames s.hand; hand = next_frame (length s.frames) s.hand })
unmarked-keeps {taken} {s} k h u = by (frame_at s.frames s.hand) refl
  where
    to : Option Frame → Paging
    to o = record s { frames = set s.frames s.hand (option_map unmarked o); hand = next_frame (length s.frames) s.hand }

    by : (o : Option Frame) → frame_at s.frames s.hand ≡ o → Keeps taken s (record s { frames = set s.frames s.hand (option_map unmarked o); hand = next_frame (length s.frames) s.hand })
    by None e = absurd (false≢true (ap is_used (sym e) ∙ u))
    by (Some f) e =
        let sound = sound-put k s.hand f e (unmarked f) refl (k.whole s.hand f e) (λ c. k.clean s.hand f e c) in
        record {
          sound = sound;
          words = λ q. words-marked k s.hand f e s.hand (next_frame (length s.frames) s.hand) (unmarked f) refl refl sound.one q;
          long = length-set s.frames s.hand (Some (unmarked f));
          stands = omega (arith, next-below (length s.frames) s.hand h, length-set s.frames s.hand (Some (unmarked f)));
        }

pub swept-keeps : {taken : List Bool} (n : ℕ) (s : Paging) → IsSound taken s.frames s.blocks → s.hand < length s.frames
    → Keeps taken s (record s { frames = (swept n s.frames s.hand).0; hand = (swept n s.frames s.hand).1 })
unfolding swept
swept-keeps zero s k h = record { sound = k; words = λ q. refl; long = refl; stands = h }
swept-keeps {taken} (suc n) s k h =
    by (λ t sound stands. swept-keeps n t sound stands) (is_used (frame_at s.frames s.hand)) refl
  where
    after : List (Option Frame) × ℕ → Paging
    after p = record s { frames = p.0; hand = p.1 }

    by : ((t : Paging) → IsSound taken t.frames t.blocks → t.hand < length t.frames → Keeps taken t (record t { frames = (swept n t.frames t.hand).0; hand = (swept n t.frames t.hand).1 }))
        → (b : Bool) → is_used (frame_at s.frames s.hand) ≡ b
        → Keeps taken s (record s { frames = (if b then swept n (at_frame unmarked s.frames s.hand) (next_frame (length s.frames) s.hand) else (s.frames, s.hand)).0; hand = (if b then swept n (at_frame unmarked s.frames s.hand) (next_frame (length s.frames) s.hand) else (s.frames, s.hand)).1 })
    by more false e = record { sound = k; words = λ q. refl; long = refl; stands = h }
    by more true e =
        let one = unmarked-keeps {s = s} k h e in
        keeps-more one (more (record s { frames = at_frame unmarked s.frames s.hand; hand = next_frame (length s.frames) s.hand }) one.sound one.stands)

-- where no frame is free, none is after it
free-at_frame : (change : Frame → Frame) (s : List (Option Frame)) (i : ℕ) → free_frame (at_frame change s i) ≡ free_frame s
free-at_frame change [] i = refl
free-at_frame change (None ∷ s) zero = refl
free-at_frame change (None ∷ s) (suc i) = refl
free-at_frame change (Some f ∷ s) zero = refl
free-at_frame change (Some f ∷ s) (suc i) = ap suc (free-at_frame change s i)

pub swept-free : (n : ℕ) (frames : List (Option Frame)) (hand : ℕ) → free_frame (swept n frames hand).0 ≡ free_frame frames
unfolding swept
swept-free zero frames hand = refl
swept-free (suc n) frames hand = by (λ s h. swept-free n s h) (is_used (frame_at frames hand))
  where
    by : ((s : List (Option Frame)) (h : ℕ) → free_frame (swept n s h).0 ≡ free_frame s) → (b : Bool) → free_frame (if b then swept n (at_frame unmarked frames hand) (next_frame (length frames) hand) else (frames, hand)).0 ≡ free_frame frames
    by more false = refl
    by more true = more (at_frame unmarked frames hand) (next_frame (length frames) hand) ∙ free-at_frame unmarked frames hand

-- a frame where none is free
pub held-full : (s : List (Option Frame)) (i : ℕ) → i < length s → length s ≤ free_frame s → IsHeld s i
held-full s i l h = by (get_or s i None) refl
  where
    by : (o : Option Frame) → get_or s i None ≡ o → IsHeld s i
    by None e = absurd (false≢true (ap (λ (o : Option Frame). is_some o) (sym e) ∙ before-free s i (omega (arith, l, h))))
    by (Some f) e = record { frame = f; there = e }

-- ---- the victim goes

pub page-below : (taken : List Bool) (page : ℕ) → length taken ≡ 521 → get_or taken (page / 8) false ≡ true → page < 4168
page-below taken page long e = by (cases_lt (page / 8) 521)
  where
    by : (page / 8 < 521) ⊎ (521 ≤ page / 8) → page < 4168
    by (inl h) = omega (arith, h)
    by (inr h) = absurd (false≢true (sym (get_or_past taken (page / 8) false (omega (arith, h, long))) ∙ e))

pub evicted-keeps : {taken : List Bool} {s : Paging} → length taken ≡ 521 → length s.blocks ≡ 4168 → IsSound taken s.frames s.blocks → s.hand < length s.frames → IsHeld s.frames s.hand → Keeps taken s (evicted s)
evicted-keeps {taken} {s} slots marks k h held = by (frame_at s.frames s.hand) refl
  where
    kept : (f : Frame) → frame_at s.frames s.hand ≡ Some f → (b : Bool) → f.changed ≡ b
        → Keeps taken s (record { frames = set s.frames s.hand None; hand = next_frame (length s.frames) s.hand; blocks = if b then set s.blocks f.page (Some f.words) else s.blocks })
    kept f e true c =
        let below : f.page < length s.blocks = omega (arith, page-below taken f.page slots (k.live s.hand f e), marks) in
        record {
          sound = sound-saved k s.hand f e;
          words = words-emptied k s.hand s.hand (next_frame (length s.frames) s.hand) f e (set s.blocks f.page (Some f.words))
              (ap (λ o. if_there o (zeros 64) (λ (words : List Word). words)) (get_or-set_same s.blocks f.page (Some f.words) None below)) (block-apart s.blocks f.page (Some f.words));
          long = length-set s.frames s.hand None;
          stands = omega (arith, next-below (length s.frames) s.hand h, length-set s.frames s.hand None);
        }
    kept f e false c = record {
      sound = sound-empty k s.hand;
      words = words-emptied k s.hand s.hand (next_frame (length s.frames) s.hand) f e s.blocks (sym (k.clean s.hand f e c)) (λ q d. refl);
      long = length-set s.frames s.hand None;
      stands = omega (arith, next-below (length s.frames) s.hand h, length-set s.frames s.hand None);
    }

    by : (o : Option Frame) → frame_at s.frames s.hand ≡ o → Keeps taken s (record { frames = set s.frames s.hand None; hand = next_frame (length s.frames) s.hand; blocks = saved s.blocks o })
    by None e = absurd (none-some held.frame (sym e ∙ held.there))
    by (Some f) e = kept f e f.changed refl
