-- The origins that are kept with a legal run. States docs/promises.md, "Origins".
use Rattle.std.proofs.Common.{◌≡◌, ℕ, ◌+◌, ◌<◌, List, [], ◌∷◌, length, slice_get, sym, ap, subst, ◌∙◌, arith}
use Rattle.std.specs.Prelude.{◌^◌}
use Rattle.psos_calls.specs.Language.Script.{Script, IsWellFormed}
use Rattle.psos_model.specs.Flat.{Flat}
use Rattle.psos_model.specs.Answer.{answer}
use Rattle.psos_model.specs.Flat.Boot.{boot}
use Rattle.psos_model.specs.Run.{IsLegalFrom, run}
use Rattle.psos_model.specs.Sound.{IsSound}
use Rattle.psos_laws.specs.declared.origins.Origins.{Origins}
use Rattle.psos_laws.specs.History.{Transition, transition_at, past_after, history}
use Rattle.psos_laws.specs.Arrivals.{AreFull, Tells}
use Rattle.psos_laws.proofs.OriginTables.{are_full, tells_boot}
use Rattle.psos_laws.proofs.BootSoundness.{boot_start}
use Rattle.psos_laws.proofs.OrderLengths.{orders_end}
use Rattle.psos_laws.proofs.SoundRuns.{runs_kept}

-- ---- a legal run

run_sound : (s : Script) (order : List ℕ) (f : Flat) → IsWellFormed s → f ≡ run s order → IsSound s f
run_sound s order f w state = subst (IsSound s) (sym state) (runs_kept s (boot s) order w (boot_start s w).sound)

pub run_full : (s : Script) (order : List ℕ) (f : Flat) → IsWellFormed s → f ≡ run s order → AreFull f.users
run_full s order f w state = are_full s f w (run_sound s order f w state)

past_length : (s : Script) (order : List ℕ) (f : Flat) (past : List Transition) → length (past_after s f past order) ≡ length order + length past
past_length s [] f past = omega arith
past_length s (u ∷ us) f past = let rest = past_length s us (answer s f u).0 (transition_at s f u ∷ past) in omega (arith, rest)

-- so many requests were kept at most
pub kept_few : (s : Script) (order : List ℕ) (f : Flat) (o : Origins) → IsWellFormed s → IsLegalFrom s (boot s) order → Tells (history s order) f o → length o.past.items < 2 ^ 32
kept_few s order f o w legal tells =
    let few = orders_end s (boot s) order w (boot_start s w) legal in
    let count = tells.count in
    let past = past_length s order (boot s) [] in
    omega (arith, few, count, past)

-- ---- boot

pub record AreBooted (s : Script) (order : List ℕ) (f : Flat) (o : Origins) : Type 0 where
  pub formed : IsWellFormed s
  pub legal : IsLegalFrom s (boot s) order
  pub state : f ≡ run s order
  pub tells : Tells (history s order) f o

pub boot_kept : (s t : Script) (order : List ℕ) (f : Flat) (o : Origins) → IsWellFormed s → t ≡ s → order ≡ [] → f ≡ boot s → o.past.items ≡ [] → length o.callers.items ≡ 32 → AreBooted t order f o
boot_kept s t order f o w scripts orders states past room =
    subst (λ us. AreBooted t us f o) (sym orders) (subst (λ r. AreBooted r [] f o) (sym scripts) (record {
      formed = w;
      legal = tt;
      state = states;
      tells = tells_boot s f o (λ u x e. ((boot_start s w).users u x (ap (λ (g : Flat). slice_get g.users u) (sym states) ∙ e)).frames) past room;
    }))
