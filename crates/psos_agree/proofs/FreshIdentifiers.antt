-- Identifiers that were not given yet.
use Rattle.std.proofs.Common.{◌≡◌, ℕ, ◌<◌, ◌≤◌, Option, Some, None, refl, subst, ap, ◌∙◌, inl, inr, arith}
use Rattle.psos_table.specs.Table.{Table, at}
use Rattle.psos_calls.specs.declared.seg_row.SegRow.{SegRow}
use Rattle.psos_calls.specs.declared.win_row.WinRow.{WinRow}
use Rattle.psos_calls.specs.Language.Script.{Script}
use Rattle.psos_calls.specs.Levels.Level8.{IsNew}
use Rattle.psos_model.specs.Flat.{Flat}
use Rattle.psos_model.specs.Replay.{System}
use Rattle.psos_model.specs.Sound.{IsSound}
use Rattle.psos_model.specs.Replay.StandsFor.{StandsFor}

-- what only numbers below n have, none from n on has
pub absent : {X : Type 0} (t : Table X) (n : ℕ) → ((u : ℕ) (r : X) → at t u ≡ Some r → u < n) → (u : ℕ) → n ≤ u → at t u ≡ None
absent {X} t n below u past = by_row (at t u) refl
  where
    by_row : (o : Option X) → at t u ≡ o → o ≡ None
    by_row None e = refl
    by_row (Some r) e = let small : u < n = below u r e in absurd (omega (arith, small, past))

module _ {s : Script} {y : System} {f : Flat} (h : StandsFor y f) (sound : IsSound s f) where
  row_below : (u : ℕ) (r : SegRow) → at y.levels.segs.segments u ≡ Some r → u < f.next
  row_below u r is = elim (h.no_other u r is) [
    | inl flat ↦ (sound.segments u flat.0 flat.1).below
    | inr rep ↦ subst (λ (v : ℕ). v < f.next) rep.1.2 (sound.dirs rep.0 rep.1.0 rep.1.1).rep_below
  ]

  -- an identifier that the flat state has not given is neither a segment nor a window of level 8
  pub new_at : (u : ℕ) → f.next ≤ u → IsNew y.levels.segs u
  new_at u past = (
    absent y.levels.segs.segments f.next row_below u past,
    ap (λ (t : Table WinRow). at t u) h.windows ∙ absent f.windows f.next (λ v w is. (sound.windows v w is).below) u past,
  )

  -- the next identifier of level 0 is such a one
  pub next_new : IsNew y.levels.segs y.levels.next
  next_new = new_at y.levels.next (omega (arith, h.next))
