-- Frames at boot, while homes are brought into them. States docs/system.md, "Boot", and docs/levels.md, "Frames".
use Rattle.std.proofs.Common.{◌≡◌, ℕ, suc, ◌+◌, ◌-◌, ◌<◌, ◌≤◌, ◌∙◌, sym, subst, arith}
use Rattle.psos_pages.specs.Frames.{Paging, at_first}
use Rattle.psos_pages.specs.Quiet.{IsQuiet}
use Rattle.psos_pages.proofs.Quiet.{quiet-new}

-- before user i there is a frame for it, and one for each user after it
pub one_more : (i : ℕ) (s : Paging) → i < 8 → IsQuiet (8 - i) s → IsQuiet (suc (8 - (i + 1))) s
one_more i s h k = subst (λ n. IsQuiet n s) (more i h) k
  where
    more : (i : ℕ) → i < 8 → 8 - i ≡ suc (8 - (i + 1))
    more i h = omega (arith, h)

-- at first there is one for each user
pub enough_frames : (n : ℕ) (new old : Paging) → 8 ≤ n → old ≡ at_first n → new ≡ old → IsQuiet 8 new
enough_frames n new old h e same =
    let k = quiet-new n in
    subst (IsQuiet 8) (sym (same ∙ e)) (record { room = omega (arith, h, k.room); none = k.none })
