-- How many requests of each user stand before a phase.
use Rattle.std.proofs.Common.{◌≡◌, ℕ, ◌+◌, ◌<◌, ◌≤◌, ◌⊎◌, inl, inr, List, [], length, get_or, set, replicate, sym, subst, ◌∙◌, arith}
use Rattle.std.proofs.lemmas.Bool.{cases_eq}
use Rattle.std.proofs.lemmas.List.{get_or-replicate, get_or-set_same, get_or-set_other}
use Rattle.psos_calls.specs.Language.Script.{Script, user_script, IsWellFormed}
use Rattle.psos_core.specs.UnderWay.{asked_before, AreCounted}
use Rattle.psos_core.proofs.PhaseRequests.{asked_more, asked_few}
use Rattle.psos_core.proofs.ScriptPhases.{user_few}

-- none before the first
pub counted_first : (s : Script) → length s.users ≤ 8 → AreCounted s 0 0 (replicate 8 0)
counted_first s few = record {
  behind = λ v less below. absurd (omega (arith, less));
  ahead = λ v least below. get_or-replicate 8 v 0 0 (omega (arith, few, below));
}

-- the next user's requests up to the phase
pub counted_here : (s : Script) (p u asked : ℕ) (counts : List ℕ) → AreCounted s p u counts → u < length s.users → asked ≡ length (get_or (user_script s u).phases p [])
    → get_or counts u 0 + asked ≡ asked_before (user_script s u).phases (p + 1)
counted_here s p u asked counts h below is = omega (arith, h.ahead u (omega arith) below, is, asked_more (user_script s u).phases p)

-- which are few
pub counted_few : (s : Script) (p u : ℕ) → IsWellFormed s → u < length s.users → asked_before (user_script s u).phases (p + 1) ≤ 241
counted_few s p u w below = omega (arith, asked_few (user_script s u).phases (p + 1), user_few s u w below)

-- one user more
pub counted_more : (s : Script) (p u count : ℕ) (counts : List ℕ) → AreCounted s p u counts → u < length counts → count ≡ asked_before (user_script s u).phases (p + 1) → AreCounted s p (u + 1) (set counts u count)
counted_more s p u count counts h room is = record {
  behind = λ v less below. by_user v less below (cases_eq v u);
  ahead = λ v least below. get_or-set_other counts u v count 0 (λ same. omega (arith, least, same)) ∙ h.ahead v (omega (arith, least)) below;
}
  where
    by_user : (v : ℕ) → v < u + 1 → v < length s.users → (v ≡ u) ⊎ (v ≡ u → ⊥) → get_or (set counts u count) v 0 ≡ asked_before (user_script s v).phases (p + 1)
    by_user v less below (inl same) =
        let P : ℕ → Type 0 = λ w. get_or (set counts u count) w 0 ≡ asked_before (user_script s w).phases (p + 1) in
        subst P (sym same) (get_or-set_same counts u count 0 room ∙ is)
    by_user v less below (inr apart) = get_or-set_other counts u v count 0 apart ∙ h.behind v (omega (arith, less, apart)) below

-- all users: a phase more
pub counted_phase : (s : Script) (p u : ℕ) (counts : List ℕ) → AreCounted s p u counts → length s.users ≤ u → AreCounted s (p + 1) 0 counts
counted_phase s p u counts h all = record {
  behind = λ v less below. absurd (omega (arith, less));
  ahead = λ v least below. h.behind v (omega (arith, all, below)) below;
}
