-- The hand stops at the first frame that is not marked used.
use Rattle.std.proofs.Common.{◌≡◌, ℕ, zero, suc, ◌+◌, ◌<◌, ◌≤◌, Bool, true, false, List, ◌⊎◌, Option, Some, None, length, refl, sym, ap, ◌∙◌, inl, inr, arith, if◌then◌else◌, ◌==◌}
use Rattle.std.proofs.lemmas.List.{length-set, get_or-set_same, get_or-set_other}
use Rattle.std.proofs.lemmas.Bool.{false≢true, eqb-true}
use Rattle.std.specs.Prelude.{option_map}
use Rattle.psos_pages.specs.Frames.{Frame, frame_at, next_frame, is_used, unmarked, at_frame, swept}
use Rattle.psos_pages.specs.SecondChance.{StandsAfter, SecondChance}
use Rattle.psos_pages.proofs.Keeps.{next-below}

-- what at most n looks find
record Found (n : ℕ) (frames : List (Option Frame)) (hand : ℕ) (r : List (Option Frame) × ℕ) : Type 0 where
  pub passed : ℕ
  pub few : passed ≤ n
  pub place : StandsAfter (length frames) hand passed r.1
  pub used : (k i : ℕ) → k < passed → StandsAfter (length frames) hand k i → is_used (frame_at frames i) ≡ true
  pub spared : (k i : ℕ) → k < passed → StandsAfter (length frames) hand k i → frame_at r.0 i ≡ option_map unmarked (frame_at frames i)
  pub others : (i : ℕ) → ((k : ℕ) → k < passed → StandsAfter (length frames) hand k i → ⊥) → frame_at r.0 i ≡ frame_at frames i
  pub first : ((passed < n) × (is_used (frame_at frames r.1) ≡ false)) ⊎ (passed ≡ n)

-- no look
stopped : (n : ℕ) (frames : List (Option Frame)) (hand : ℕ) → hand < length frames → ((0 < n) × (is_used (frame_at frames hand) ≡ false)) ⊎ (0 ≡ n) → Found n frames hand (frames, hand)
stopped n frames hand h first = record {
  passed = 0;
  few = omega arith;
  place = (h, inl (omega arith));
  used = λ k i l _. absurd (omega (arith, l));
  spared = λ k i l _. absurd (omega (arith, l));
  others = λ i _. refl;
  first = first;
}

-- the frame after a frame
next-is : (count hand : ℕ) → ((next_frame count hand ≡ 0) × (hand + 1 ≡ count)) ⊎ (next_frame count hand ≡ hand + 1)
next-is count hand = by (hand + 1 == count) refl
  where
    by : (b : Bool) → (hand + 1 == count) ≡ b → (((if b then 0 else hand + 1) ≡ 0) × (hand + 1 ≡ count)) ⊎ ((if b then 0 else hand + 1) ≡ hand + 1)
    by true e = inl (refl, eqb-true (hand + 1) count e)
    by false e = inr refl

module _ (frames : List (Option Frame)) (hand : ℕ) (h : hand < length frames) (marked : is_used (frame_at frames hand) ≡ true) where
  -- the frames after the look at the hand
  abbrev these : List (Option Frame)
  these = at_frame unmarked frames hand

  long : length these ≡ length frames
  long = length-set frames hand (option_map unmarked (frame_at frames hand))

  here : frame_at these hand ≡ option_map unmarked (frame_at frames hand)
  here = get_or-set_same frames hand (option_map unmarked (frame_at frames hand)) None h

  far : (i : ℕ) → (i ≡ hand → ⊥) → frame_at these i ≡ frame_at frames i
  far i d = get_or-set_other frames hand i (option_map unmarked (frame_at frames hand)) None d

  unused-here : is_used (frame_at these hand) ≡ false
  unused-here = ap is_used here ∙ by (frame_at frames hand)
    where
      by : (o : Option Frame) → is_used (option_map unmarked o) ≡ false
      by None = refl
      by (Some f) = refl

  -- a frame that is still marked is another
  other : (i : ℕ) → is_used (frame_at these i) ≡ true → i ≡ hand → ⊥
  other i u e = false≢true (sym unused-here ∙ ap (λ n. is_used (frame_at these n)) (sym e) ∙ u)

  -- places after the next frame, and after this one
  onward : (k i : ℕ) → k < length frames → StandsAfter (length these) (next_frame (length frames) hand) k i → StandsAfter (length frames) hand (suc k) i
  onward k i l (w, p) = (omega (arith, w, long), by (next-is (length frames) hand) p)
    where
      by : ((next_frame (length frames) hand ≡ 0) × (hand + 1 ≡ length frames)) ⊎ (next_frame (length frames) hand ≡ hand + 1)
          → (i ≡ next_frame (length frames) hand + k) ⊎ (i + length these ≡ next_frame (length frames) hand + k) → (i ≡ hand + suc k) ⊎ (i + length frames ≡ hand + suc k)
      by (inl (z, e)) (inl q) = inr (omega (arith, z, e, q))
      by (inl (z, e)) (inr q) = absurd (omega (arith, z, e, q, long, l))
      by (inr z) (inl q) = inl (omega (arith, z, q))
      by (inr z) (inr q) = inr (omega (arith, z, q, long))

  back : (k i : ℕ) → StandsAfter (length frames) hand (suc k) i → StandsAfter (length these) (next_frame (length frames) hand) k i
  back k i (w, p) = (omega (arith, w, long), by (next-is (length frames) hand) p)
    where
      by : ((next_frame (length frames) hand ≡ 0) × (hand + 1 ≡ length frames)) ⊎ (next_frame (length frames) hand ≡ hand + 1)
          → (i ≡ hand + suc k) ⊎ (i + length frames ≡ hand + suc k) → (i ≡ next_frame (length frames) hand + k) ⊎ (i + length these ≡ next_frame (length frames) hand + k)
      by (inl (z, e)) (inl q) = absurd (omega (arith, e, q, w))
      by (inl (z, e)) (inr q) = inl (omega (arith, z, e, q))
      by (inr z) (inl q) = inl (omega (arith, z, q))
      by (inr z) (inr q) = inr (omega (arith, z, q, long))

  at-hand : (i : ℕ) → StandsAfter (length frames) hand 0 i → i ≡ hand
  at-hand i (w, inl q) = omega (arith, q)
  at-hand i (w, inr q) = absurd (omega (arith, q, h))

  -- one look more
  passed-more : (n : ℕ) (r : List (Option Frame) × ℕ) → suc n ≤ length frames → Found n these (next_frame (length frames) hand) r → Found (suc n) frames hand r
  passed-more n r few f = record {
    passed = suc f.passed;
    few = omega (arith, f.few);
    place = place;
    used = used;
    spared = spared;
    others = others;
    first = first f.first;
  }
    where
      place : StandsAfter (length frames) hand (suc f.passed) r.1
      place = onward f.passed r.1 (omega (arith, f.few, few)) f.place

      used : (k i : ℕ) → k < suc f.passed → StandsAfter (length frames) hand k i → is_used (frame_at frames i) ≡ true
      used zero i l p = ap (λ n. is_used (frame_at frames n)) (at-hand i p) ∙ marked
      used (suc k) i l p =
          let u = f.used k i (omega (arith, l)) (back k i p) in
          ap is_used (sym (far i (other i u))) ∙ u

      spared : (k i : ℕ) → k < suc f.passed → StandsAfter (length frames) hand k i → frame_at r.0 i ≡ option_map unmarked (frame_at frames i)
      spared zero i l p =
          let e = at-hand i p in
          f.others i (λ j s q. other i (f.used j i s q) e) ∙ ap (frame_at these) e ∙ here ∙ ap (λ n. option_map unmarked (frame_at frames n)) (sym e)
      spared (suc k) i l p =
          let u = f.used k i (omega (arith, l)) (back k i p) in
          f.spared k i (omega (arith, l)) (back k i p) ∙ ap (option_map unmarked) (far i (other i u))

      others : (i : ℕ) → ((k : ℕ) → k < suc f.passed → StandsAfter (length frames) hand k i → ⊥) → frame_at r.0 i ≡ frame_at frames i
      others i off =
          let apart : i ≡ hand → ⊥ = λ e. off 0 (omega arith) (omega (arith, e, h), inl (omega (arith, e))) in
          f.others i (λ k l p. off (suc k) (omega (arith, l)) (onward k i (omega (arith, l, f.few, few)) p)) ∙ far i apart

      away : (victim : ℕ) → f.passed < n → StandsAfter (length frames) hand (suc f.passed) victim → victim ≡ hand → ⊥
      away victim l (w, inl q) e = absurd (omega (arith, q, e))
      away victim l (w, inr q) e = absurd (omega (arith, q, e, l, few))

      first : ((f.passed < n) × (is_used (frame_at these r.1) ≡ false)) ⊎ (f.passed ≡ n) → ((suc f.passed < suc n) × (is_used (frame_at frames r.1) ≡ false)) ⊎ (suc f.passed ≡ suc n)
      first (inl (l, u)) = inl (omega (arith, l), ap is_used (sym (far r.1 (away r.1 l place))) ∙ u)
      first (inr e) = inr (ap suc e)

swept-finds : (n : ℕ) (frames : List (Option Frame)) (hand : ℕ) → hand < length frames → n ≤ length frames → Found n frames hand (swept n frames hand)
unfolding swept
swept-finds zero frames hand h few = stopped zero frames hand h (inr refl)
swept-finds (suc n) frames hand h few = by (λ s i. swept-finds n s i) (is_used (frame_at frames hand)) refl
  where
    by : ((s : List (Option Frame)) (i : ℕ) → i < length s → n ≤ length s → Found n s i (swept n s i)) → (b : Bool) → is_used (frame_at frames hand) ≡ b
        → Found (suc n) frames hand (if b then swept n (at_frame unmarked frames hand) (next_frame (length frames) hand) else (frames, hand))
    by more false e = stopped (suc n) frames hand h (inl (omega arith, e))
    by more true e =
        passed-more frames hand h e n (swept n (at_frame unmarked frames hand) (next_frame (length frames) hand)) few
        (more (at_frame unmarked frames hand) (next_frame (length frames) hand) (omega (arith, next-below (length frames) hand h, long frames hand h e)) (omega (arith, few, long frames hand h e)))

pub second-chance : SecondChance
second-chance = record {
  victim = λ s h.
      let f = swept-finds (length s.frames) s.frames s.hand h (omega arith) in
      record { passed = f.passed; place = f.place; used = f.used; spared = f.spared; others = f.others; first = f.first };
}
