-- A legal run with one request more. States docs/promises.md, "Runs".
use Rattle.std.proofs.Common.{◌≡◌, ℕ, ◌+◌, ◌*◌, ◌≤◌, List, [], ◌∷◌, ◌++◌, length, refl, sym, ap, subst, ◌∙◌, arith}
use Rattle.std.specs.Prelude.{IsTrue}
use Rattle.psos_text.specs.declared.name.Name.{Name}
use Rattle.psos_calls.specs.Language.Script.{Script, IsWellFormed}
use Rattle.psos_model.specs.Flat.{Flat}
use Rattle.psos_model.specs.Answer.{answer}
use Rattle.psos_model.specs.Flat.Boot.{boot}
use Rattle.psos_model.specs.Answer.CanStep.{CanStep}
use Rattle.psos_model.specs.Sound.Kept.{IsKept}
use Rattle.psos_model.specs.Run.{IsLegalFrom, run_from, run, has_left}
use Rattle.psos_model.specs.Sound.{IsSound}
use Rattle.psos_model.proofs.AnswerBounds.{at_most_two}
use Rattle.psos_model.proofs.Orders.{run_append, legal_more}
use Rattle.psos_laws.specs.History.{history}
use Rattle.psos_laws.specs.Trails.{IsConfined}
use Rattle.psos_laws.specs.Laws.{IsLawful}
use Rattle.psos_laws.specs.Watched.{Watched, IsWatched, script_of, order_of, flat_of}
use Rattle.psos_laws.proofs.BootSoundness.{boot_start}
use Rattle.psos_laws.proofs.OrderLengths.{orders_end}
use Rattle.psos_laws.proofs.PlacesLaws.{confined_stays_once}
use Rattle.psos_laws.proofs.PlacesRuns.{run_is_lawful}
use Rattle.psos_laws.proofs.SoundRuns.{runs_kept}
use Rattle.psos_laws.proofs.RoomToStep.{can_step}

-- each request uses two identifiers at most
pub next_most : (s : Script) (order : List ℕ) (f : Flat) → (run_from s f order).next ≤ f.next + 2 * length order
next_most s [] f = omega arith
next_most s (u ∷ us) f =
    let rest = next_most s us (answer s f u).0 in
    let few = at_most_two s f u in
    omega (arith, rest, few)

-- ---- the state of a legal order of a well-formed script

-- t is the script, and f the state after the order
pub record AreLaws (t : Script) (order : List ℕ) (f : Flat) : Type 0 where
  pub formed : IsWellFormed t
  pub legal : IsLegalFrom t (boot t) order
  pub state : f ≡ run t order
  pub sound : IsSound t f
  pub lawful : IsLawful (boot t) (history t order) f

laws_by : (t : Script) (order : List ℕ) → IsWellFormed t → IsLegalFrom t (boot t) order → (f : Flat) → f ≡ run t order → AreLaws t order f
laws_by t order formed legal f state = record {
  formed = formed;
  legal = legal;
  state = state;
  sound = subst (IsSound t) (sym state) (runs_kept t (boot t) order formed (boot_start t formed).sound);
  lawful = subst (IsLawful (boot t) (history t order)) (sym state) (run_is_lawful t (boot t) order formed (boot_start t formed).sound);
}

-- of what a `Watched` keeps, and of a script that is the one that boot took
pub watched_laws : (w : Watched) (t : Script) → IsWatched w → script_of w ≡ t → AreLaws t (order_of w) (flat_of w)
watched_laws w t h script = subst (λ x. AreLaws x (order_of w) (flat_of w)) script (laws_by (script_of w) (order_of w) h.formed h.legal (flat_of w) h.state)

-- and of the script that boot took
pub laws_back : (s t : Script) (order : List ℕ) (f : Flat) → s ≡ t → AreLaws t order f → AreLaws s order f
laws_back s t order f script h = subst (λ x. AreLaws x order f) (sym script) h

-- the same state, told otherwise
pub laws_same : (t : Script) (order later : List ℕ) (f g : Flat) → later ≡ order → g ≡ f → AreLaws t order f → AreLaws t later g
laws_same t order later f g orders states h = subst (λ o. AreLaws t o g) (sym orders) (subst (AreLaws t order) (sym states) h)

-- the state after one request more
pub laws_more : (t : Script) (order later : List ℕ) (f g : Flat) (u : ℕ) → IsTrue (has_left t f.users u) → later ≡ order ++ u ∷ [] → g ≡ (answer t f u).0
    → AreLaws t order f → AreLaws t later g
laws_more t order later f g u left orders states h =
    let here : IsTrue (has_left t (run t order).users u) = subst (λ (x : Flat). IsTrue (has_left t x.users u)) h.state left in
    let after : g ≡ run t (order ++ u ∷ []) = states ∙ (ap (λ x. (answer t x u).0) h.state ∙ sym (run_append t order (u ∷ []) (boot t))) in
    laws_same t (order ++ u ∷ []) later g g orders refl (laws_by t (order ++ u ∷ []) h.formed (legal_more t (boot t) order u h.legal here) g after)

-- so many requests at most were answered
pub laws_few : (t : Script) (order : List ℕ) (f : Flat) → AreLaws t order f → length order ≤ 32768
laws_few t order f h = orders_end t (boot t) order h.formed (boot_start t h.formed) h.legal

-- whoever has a request left can be answered
pub laws_step : (t : Script) (order : List ℕ) (f : Flat) (u : ℕ) → IsTrue (has_left t f.users u) → AreLaws t order f → CanStep f u
laws_step t order f u left h =
    let next : f.next ≡ (run t order).next = ap (λ (x : Flat). x.next) h.state in
    let most = next_most t order (boot t) in
    let start = (boot_start t h.formed).next in
    let few = laws_few t order f h in
    can_step t f u h.formed h.sound (omega (arith, next, most, start, few)) left

-- user objects are kept
pub laws_kept : (t : Script) (order : List ℕ) (f : Flat) → AreLaws t order f → (home : ℕ → ℕ × Name) × IsKept home f
laws_kept t order f h = (h.sound.home, h.sound.kept)

-- what was confined before a request is so after it
pub laws_confined : (t : Script) (order : List ℕ) (f g : Flat) (u : ℕ) → g ≡ (answer t f u).0 → AreLaws t order f
    → (v x m : ℕ) → IsConfined f v x m → IsConfined g v x m
laws_confined t order f g u states h v x m before = subst (λ e. IsConfined e v x m) (sym states) (confined_stays_once t f u v x m h.sound before)
