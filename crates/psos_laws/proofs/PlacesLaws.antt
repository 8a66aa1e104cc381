-- The laws of places, of one answer and of whole runs.
use Rattle.std.proofs.Common.{◌≡◌, ◌⊎◌, inl, inr, ℕ, zero, suc, ◌≤◌, List, [], ◌∷◌, ◌++◌, slice_get, Option, Some, None, sym, subst}
use Rattle.std.specs.List.{AllByRecursion}
use Rattle.std.proofs.lemmas.Option.{same_Some, none-some}
use Rattle.psos_caps.specs.Capability.{Capability}
use Rattle.psos_calls.specs.Language.Script.{Script}
use Rattle.psos_model.specs.Flat.{Flat}
use Rattle.psos_model.specs.Answer.Outcomes.{Source}
use Rattle.psos_model.specs.Answer.{answer}
use Rattle.psos_model.specs.Run.{run_from}
use Rattle.psos_model.specs.Sound.{IsSound}
use Rattle.psos_model.proofs.Orders.{run_append}
use Rattle.psos_laws.specs.Landings.{Landing}
use Rattle.psos_laws.specs.History.{transition_at, history_from}
use Rattle.psos_laws.specs.Trails.{IsConfined}
use Rattle.psos_laws.specs.Laws.{IsLawful, LandingsAreAll, UnreadIsNew}
use Rattle.psos_laws.proofs.StepLaws.{Lawful, IsNew, IsCopyFrom}
use Rattle.psos_laws.proofs.AnswerSteps.{ground_of, answer_steps}
use Rattle.psos_laws.proofs.Histories.{KeepsSound, firm_at, run_led, start_led}
use Rattle.psos_laws.proofs.SoundOrigins.{sound_origins, all_landed, is_sealed}
use Rattle.psos_laws.proofs.Trails.{is_held_back, keeps_confined}

-- ---- one answer

pub landings_are_all : LandingsAreAll
landings_are_all s f u p cap formed sound e = (answer_steps s f u sound).nothing_else p cap e

each_at : (P : Landing → Type 0) (ls : List Landing) (i : ℕ) (l : Landing) → AllByRecursion P ls → slice_get ls i ≡ Some l → P l
each_at P [] i l h e = absurd (none-some l e)
each_at P (k ∷ ls) zero l h e = subst P (same_Some k l e) h.0
each_at P (k ∷ ls) (suc i) l h e = each_at P ls i l h.1 e

new_from : (f : Flat) (next u : ℕ) (cap : Capability) (source : Option Source) → source ≡ None → IsNew f next cap ⊎ IsCopyFrom f u cap source → f.next ≤ cap.uid
new_from f next u cap source none (inl new) = new.0
new_from f next u cap None none (inr bad) = absurd bad
new_from f next u cap (Some q) none (inr copy) = absurd (none-some q (sym none))

pub unread_is_new : UnreadIsNew
unread_is_new s f u i l cap formed sound at_i word none =
    let st = answer_steps s f u sound in
    new_from f (answer s f u).0.next u cap l.source none (each_at (Lawful f (answer s f u).0.next u) (transition_at s f u).landings i l st.lawful at_i cap word).from

-- what is confined in a sound state is confined after the answer
pub confined_stays_once : (s : Script) (f : Flat) (u v x m : ℕ) → IsSound s f → IsConfined f v x m → IsConfined (answer s f u).0 v x m
confined_stays_once s f u v x m sound h =
    keeps_confined f (answer s f u).0 u (transition_at s f u).landings (transition_at s f u).moved (answer_steps s f u sound) (ground_of s f sound) v x m h

-- ---- whole runs from a sound start, where each answer keeps a state sound

pub run_is_lawful : (s : Script) → KeepsSound s → (start : Flat) → IsSound s start → (order : List ℕ) → IsLawful start (history_from s start order) (run_from s start order)
run_is_lawful s keeps start sound order =
    let past = history_from s start order in
    let now = run_from s start order in
    let led = run_led s keeps start order start [] sound (start_led s start sound) in
    record {
      landed = all_landed start past now led;
      origins = sound_origins start past now led;
      guarded = (firm_at start past now led).places.guarded;
      sealed = is_sealed start past now led;
      held_back = is_held_back start past now led;
    }

-- a run keeps a state sound
pub run_keeps : (s : Script) → KeepsSound s → (order : List ℕ) (f : Flat) → IsSound s f → IsSound s (run_from s f order)
run_keeps s keeps [] f sound = sound
run_keeps s keeps (u ∷ us) f sound = run_keeps s keeps us (answer s f u).0 (keeps f u sound)

confined_from : (s : Script) → KeepsSound s → (order : List ℕ) (f : Flat) (v x m : ℕ) → IsSound s f → IsConfined f v x m → IsConfined (run_from s f order) v x m
confined_from s keeps [] f v x m sound h = h
confined_from s keeps (u ∷ us) f v x m sound h = confined_from s keeps us (answer s f u).0 v x m (keeps f u sound) (confined_stays_once s f u v x m sound h)

pub confined_stays : (s : Script) → KeepsSound s → (start : Flat) → IsSound s start → (order more : List ℕ) (v x m : ℕ)
    → IsConfined (run_from s start order) v x m → IsConfined (run_from s start (order ++ more)) v x m
confined_stays s keeps start sound order more v x m h =
    subst (λ f. IsConfined f v x m) (sym (run_append s order more start))
    (confined_from s keeps more (run_from s start order) v x m (run_keeps s keeps order start sound) h)
