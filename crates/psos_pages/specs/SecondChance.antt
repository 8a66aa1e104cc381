-- Which page is the victim: the first after the hand that was not used since the hand last passed it. States docs/levels.md, "Frames".
use Rattle.std.specs.Prelude.{◌≡◌, ◌<◌, ◌⊎◌, ℕ, ◌+◌, true, false, List, Option, length, option_map}
use Rattle.psos_pages.specs.Frames.{Frame, Paging, frame_at, is_used, unmarked, chosen}

-- of so many frames, this one stands k places after the hand, in a circle
abbrev pub StandsAfter : ℕ → ℕ → ℕ → ℕ → Type 0
StandsAfter count hand k i = (i < count) × ((i ≡ hand + k) ⊎ (i + count ≡ hand + k))

-- The hand passes over frames that were used since it last passed them, and they lose that mark; no other frame changes. The victim is
-- the first that was not used; where all were, the one from which the hand started.
pub record IsSecondChance (frames : List (Option Frame)) (hand : ℕ) (after : List (Option Frame)) (victim : ℕ) : Type 0 where
  pub passed : ℕ
  pub place : StandsAfter (length frames) hand passed victim
  pub used : (k i : ℕ) → k < passed → StandsAfter (length frames) hand k i → is_used (frame_at frames i) ≡ true
  pub spared : (k i : ℕ) → k < passed → StandsAfter (length frames) hand k i → frame_at after i ≡ option_map unmarked (frame_at frames i)
  pub others : (i : ℕ) → ((k : ℕ) → k < passed → StandsAfter (length frames) hand k i → ⊥) → frame_at after i ≡ frame_at frames i
  pub first : ((passed < length frames) × (is_used (frame_at frames victim) ≡ false)) ⊎ (passed ≡ length frames)

-- so the victim is chosen, whatever the frames
pub record SecondChance : Type 0 where
  pub victim : (s : Paging) → s.hand < length s.frames → IsSecondChance s.frames s.hand (chosen s).frames (chosen s).hand
