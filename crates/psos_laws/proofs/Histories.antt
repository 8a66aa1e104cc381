-- What a history leads to, and how a run makes one.
use Rattle.std.proofs.Common.{◌≡◌, ◌≢◌, ◌⊎◌, ◌<◌, ℕ, Bool, true, false, List, [], ◌∷◌, Some, refl, sym, ap, subst, ◌∙◌, inl, inr}
use Rattle.std.proofs.lemmas.Bool.{false≢true}
use Rattle.psos_table.specs.Table.{at}
use Rattle.psos_calls.specs.declared.win_row.WinRow.{WinRow}
use Rattle.psos_calls.specs.Language.Script.{Script}
use Rattle.psos_model.specs.Flat.{Flat, Directory}
use Rattle.psos_model.specs.Answer.{answer}
use Rattle.psos_model.specs.Sound.Roles.{Role}
use Rattle.psos_model.specs.Sound.Roles as roles
use Rattle.psos_model.specs.Run.{run_from}
use Rattle.psos_model.specs.Sound.Rows.{IsPart}
use Rattle.psos_model.specs.Sound.{IsSound}
use Rattle.psos_laws.specs.History.{Transition, transition_at, past_after}
use Rattle.psos_laws.specs.SoundParts.{IsSoundPlaces}
use Rattle.psos_laws.proofs.StepLaws.{Ground}
use Rattle.psos_laws.proofs.AnswerSteps.{LeadsTo, ground_of, transition_is, answer_leads}

-- what the laws use of a sound state
pub record Firm (f : Flat) : Type 0 where
  pub ground : Ground f
  pub places : IsSoundPlaces f
  pub no_windows : (d : ℕ) (x : Directory) → at f.dirs d ≡ Some x → (w : ℕ) (y : WinRow) → at f.windows w ≡ Some y → y.seg.0 ≢ x.rep
  pub windows_below : (w : ℕ) (y : WinRow) → at f.windows w ≡ Some y → w < f.next

abbrev is_hidden : Role → Bool
is_hidden (roles.HiddenIn d) = true
is_hidden _ = false

pub firm_of : (s : Script) (f : Flat) → IsSound s f → Firm f
firm_of s f sound = record {
  ground = ground_of s f sound;
  places = record { below = sound.below; guarded = sound.guarded; hidden = sound.hidden };
  no_windows = λ d x live w y there same.
      let window = sound.windows w y there in
      let segment = sound.segments y.seg.0 window.under window.live in
      not_both y.seg.0 d (ap sound.role same ∙ (sound.dirs d x live).hidden) segment.role-is;
  windows_below = λ w y there. (sound.windows w y there).below;
}
  where
    not_both : (u d : ℕ) → sound.role u ≡ roles.HiddenIn d → (sound.role u ≡ roles.Segment) ⊎ IsPart sound.role f u → ⊥
    not_both u d hidden (inl plain) = false≢true (ap is_hidden (sym plain ∙ hidden))
    not_both u d hidden (inr part) = false≢true (ap is_hidden (sym part.part ∙ hidden))

-- from the start each transition leads to the state of the next, and the last to this one
abbrev pub IsLedTo : Flat → List Transition → Flat → Type 0
IsLedTo start [] g = Firm g × (g ≡ start)
IsLedTo start (e ∷ past) g = LeadsTo e g × Firm g × IsLedTo start past e.flat

pub firm_at : (start : Flat) (past : List Transition) (g : Flat) → IsLedTo start past g → Firm g
firm_at start [] g led = led.0
firm_at start (e ∷ past) g led = led.1

-- an answer keeps a state sound
abbrev pub KeepsSound : Script → Type 0
KeepsSound s = (f : Flat) (u : ℕ) → IsSound s f → IsSound s (answer s f u).0

-- an order from a sound state leads to the state of its run
pub run_led : (s : Script) → KeepsSound s → (start : Flat) (order : List ℕ) (f : Flat) (past : List Transition) → IsSound s f → IsLedTo start past f
    → IsLedTo start (past_after s f past order) (run_from s f order)
run_led s keeps start [] f past sound led = led
run_led s keeps start (u ∷ us) f past sound led =
    let next : IsSound s (answer s f u).0 = keeps f u sound in
    let before : IsLedTo start past (transition_at s f u).flat = subst (IsLedTo start past) (sym (transition_is s f u).0) led in
    run_led s keeps start us (answer s f u).0 (transition_at s f u ∷ past) next (answer_leads s f u sound, firm_of s (answer s f u).0 next, before)

-- a sound state leads to itself
pub start_led : (s : Script) (f : Flat) → IsSound s f → IsLedTo f [] f
start_led s f sound = (firm_of s f sound, refl)
