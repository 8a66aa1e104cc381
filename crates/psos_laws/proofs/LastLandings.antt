-- What lands last at a place that is there is what an answer leaves there.
use Rattle.std.proofs.Common.{◌≡◌, ℕ, Bool, true, false, List, slice_get, slice_set, Option, Some, None, refl, sym, ap, subst, ◌∙◌}
use Rattle.std.proofs.lemmas.Option.{same_Some, none-some}
use Rattle.std.proofs.lemmas.Bool.{eqb-true, false≢true}
use Rattle.psos_caps.specs.Capability.{Capability, full}
use Rattle.psos_calls.specs.declared.request.Request.{Request}
use Rattle.psos_calls.specs.Language.Script.{Script}
use Rattle.psos_calls.specs.Language.User.{User, next_request, after}
use Rattle.psos_model.specs.declared.place.Place.{Place}
use Rattle.psos_model.specs.declared.place.Place.TheVariants.{Reg, FrameReg, PathAt}
use Rattle.psos_model.specs.Flat.{Flat}
use Rattle.psos_model.specs.Flat.Places.{cap_in, cap_at, own_cap, is_own}
use Rattle.psos_model.specs.Flat.Changes.{changed_all}
use Rattle.psos_model.specs.Answer.Outcomes.{Outcome}
use Rattle.psos_model.specs.Answer.{outcome, answer_to}
use Rattle.psos_model.specs.Sound.{IsSound}
use Rattle.psos_model.proofs.AnswerBounds.{users_stay}
use Rattle.psos_laws.specs.Landings.{Landing, changes_put, effect_puts, end_puts, found, landed, IsOwnThere, IsThere}
use Rattle.psos_laws.specs.History.{transition_by}
use Rattle.psos_laws.specs.Laws.{LandingsStay}
use Rattle.psos_laws.proofs.OwnArrivals.{closing, effect_apart, end_apart}
use Rattle.psos_laws.proofs.OwnLandings.{after_there}
use Rattle.psos_laws.proofs.StepLaws.{Fair, first_puts}
use Rattle.psos_laws.proofs.UnchangedPlaces.{shared_apart, set_here, set_apart, cap_own, other_places, not_same}
use Rattle.psos_laws.proofs.OutcomeSteps.{closed, all_puts, parts}
use Rattle.psos_laws.proofs.AnswerSteps.{ground_of, transition_of, answer_of}
use Rattle.psos_laws.proofs.FairRequests.{fair}
use Rattle.psos_laws.proofs.FairLandings.{found_landed, none_landed, changes_there}

-- a user's own place that is there is there in its own part
own_there : (g : Flat) (u : ℕ) (y : User) (p : Place) → slice_get g.users u ≡ Some y → is_own p u ≡ true → IsThere g p → IsOwnThere y p
own_there g u y (Reg v i) is own there = subst (λ z. IsOwnThere z (Reg v i)) (same_Some there.0 y (sym there.1 ∙ (ap (slice_get g.users) (eqb-true v u own) ∙ is))) there.2
own_there g u y (FrameReg v d i) is own there = subst (λ z. IsOwnThere z (FrameReg v d i)) (same_Some there.0 y (sym there.1 ∙ (ap (slice_get g.users) (eqb-true v u own) ∙ is))) there.2
own_there g u y (PathAt v i) is own there = subst (λ z. IsOwnThere z (PathAt v i)) (same_Some there.0 y (sym there.1 ∙ (ap (slice_get g.users) (eqb-true v u own) ∙ is))) there.2
own_there g u y _ is own there = absurd (false≢true own)

-- and any other is there whatever that part is
other_there : (f : Flat) (us : List User) (u : ℕ) (p : Place) → ((v : ℕ) → (v ≡ u → ⊥) → slice_get us v ≡ slice_get f.users v) → is_own p u ≡ false → IsThere (record f { users = us }) p → IsThere f p
other_there f us u (Reg v i) same out there = (there.0, sym (same v (not_same v u out)) ∙ there.1, there.2)
other_there f us u (FrameReg v d i) same out there = (there.0, sym (same v (not_same v u out)) ∙ there.1, there.2)
other_there f us u (PathAt v i) same out there = (there.0, sym (same v (not_same v u out)) ∙ there.1, there.2)
other_there f us u _ same out there = there

module _ (s : Script) (f : Flat) (x : User) (o : Outcome) (is : slice_get f.users x.number ≡ Some x) (good : Fair f x o) (p : Place) (l : Landing) where
  at_own : is_own p x.number ≡ true → found (all_puts s f x o) p ≡ Some l → IsThere (closed s f x o) p → cap_at (closed s f x o) p ≡ cap_in l.word
  at_own own e there =
      let g = closed s f x o in
      let y = after s x o.effect in
      let ends = end_puts s x (closing x o.effect).frames (first_puts f x o) in
      let has : slice_get g.users x.number ≡ Some y = set_here f.users x.number y x is in
      cap_own g x.number y p has own
      ∙ (after_there s x o.effect o.source (first_puts f x o) p own (own_there g x.number y p has own there)
      ∙ (ap (λ q. landed ends p (landed (effect_puts x o.source o.effect) p q)) (sym (shared_apart f o.source o.changes p x.number (own_cap x p) own))
      ∙ (sym (parts s f x o is p (own_cap x p)) ∙ found_landed (all_puts s f x o) p l (own_cap x p) e)))

  -- elsewhere the changes alone land
  changes_alone : is_own p x.number ≡ false → (old : Option Capability) → landed (all_puts s f x o) p old ≡ landed (changes_put f o.source o.changes) p old
  changes_alone out old =
      parts s f x o is p old
      ∙ (end_apart s x (closing x o.effect).frames (first_puts f x o) p _ out ∙ effect_apart x o.effect o.source p _ out)

  at_other : is_own p x.number ≡ false → found (all_puts s f x o) p ≡ Some l → IsThere (closed s f x o) p → cap_at (closed s f x o) p ≡ cap_in l.word
  at_other out e there = by_changes (found (changes_put f o.source o.changes) p) refl
    where
      h : Flat
      h = changed_all f o.changes

      users : List User
      users = slice_set f.users x.number (after s x o.effect)

      others : (v : ℕ) → (v ≡ x.number → ⊥) → slice_get users v ≡ slice_get h.users v
      others v n = set_apart f.users x.number v (after s x o.effect) n ∙ ap (λ (us : List User). slice_get us v) (sym (users_stay f o.changes))

      word : (old : Option Capability) → landed (changes_put f o.source o.changes) p old ≡ cap_in l.word
      word old = sym (changes_alone out old) ∙ found_landed (all_puts s f x o) p l old e

      by_changes : (k : Option Landing) → found (changes_put f o.source o.changes) p ≡ k → cap_at (closed s f x o) p ≡ cap_in l.word
      by_changes None none =
          let stays : (old : Option Capability) → old ≡ cap_in l.word = λ old. sym (none_landed (changes_put f o.source o.changes) p old none) ∙ word old in
          absurd (none-some (full 0) (stays None ∙ sym (stays (Some (full 0)))))
      by_changes (Some k) some =
          other_places h users x.number p others out
          ∙ (changes_there f o.source o.changes good.safe good.short p k some (other_there h users x.number p others out there)
          ∙ (sym (found_landed (changes_put f o.source o.changes) p k None some) ∙ word None))

  pub at_any : found (all_puts s f x o) p ≡ Some l → IsThere (closed s f x o) p → cap_at (closed s f x o) p ≡ cap_in l.word
  at_any e there = by_bool (is_own p x.number) refl
    where
      by_bool : (b : Bool) → is_own p x.number ≡ b → cap_at (closed s f x o) p ≡ cap_in l.word
      by_bool true own = at_own own e there
      by_bool false out = at_other out e there

asked : (s : Script) (f : Flat) (u : ℕ) (x : User) (p : Place) (l : Landing) → IsSound s f → slice_get f.users u ≡ Some x → (r : Option Request)
    → found (transition_by s f u x r).landings p ≡ Some l → IsThere (answer_to s f u x r).0 p → cap_at (answer_to s f u x r).0 p ≡ cap_in l.word
asked s f u x p l sound there None e live = absurd (none-some l e)
asked s f u x p l sound there (Some r) e live =
    let number : x.number ≡ u = (sound.users u x there).number in
    let is : slice_get f.users x.number ≡ Some x = ap (slice_get f.users) number ∙ there in
    let o = outcome f x r in
    let P : ℕ → Type 0 = λ v. IsThere (record (changed_all f o.changes) { users = slice_set f.users v (after s x o.effect) }) p
    → cap_at (record (changed_all f o.changes) { users = slice_set f.users v (after s x o.effect) }) p ≡ cap_in l.word in
    subst P number (at_any s f x o is (fair f x is (ground_of s f sound) r) p l e) live

pub landings_stay : LandingsStay
landings_stay s f u p l formed sound e live = by_user (slice_get f.users u) refl e live
  where
    by_user : (o : Option User) → slice_get f.users u ≡ o → found (transition_of s f u o).landings p ≡ Some l → IsThere (answer_of s f u o) p → cap_at (answer_of s f u o) p ≡ cap_in l.word
    by_user None there e live = absurd (none-some l e)
    by_user (Some x) there e live = asked s f u x p l sound there (next_request s x) e live
