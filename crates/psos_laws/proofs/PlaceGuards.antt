-- What a step keeps of the places.
use Rattle.std.proofs.Common.{◌≡◌, ◌⊎◌, ℕ, ◌<◌, Bool, true, false, List, Option, Some, None, option_map, option_and_then, refl, sym, ap, subst, ◌∙◌, inl, inr, arith}
use Rattle.std.proofs.lemmas.Option.{none-some}
use Rattle.std.proofs.lemmas.Bool.{eq-eqb, false≢true}
use Rattle.psos_table.specs.Table.{at}
use Rattle.psos_caps.specs.Capability.{Capability}
use Rattle.psos_words.specs.declared.word.Word.TheVariants.{Cap}
use Rattle.psos_words.specs.Words.{word_at}
use Rattle.psos_words.specs.Guard.{missing}
use Rattle.psos_calls.specs.declared.right.Right.{Right}
use Rattle.psos_calls.specs.Language.Capabilities.{uid}
use Rattle.psos_calls.specs.Language.Script.{Script, IsWellFormed}
use Rattle.psos_model.specs.declared.place.Place.{Place}
use Rattle.psos_model.specs.declared.place.Place.TheVariants.{Reg, FrameReg, PathAt, SegWord, DirName, BoxAt, Link, ImplOf}
use Rattle.psos_model.specs.Flat.{Flat, Segment, Directory, Named, named}
use Rattle.psos_model.specs.Flat.Places.{cap_in, cap_at, is_own, guard_at}
use Rattle.psos_model.specs.Answer.Outcomes.{Source}
use Rattle.psos_model.specs.Answer.{answer}
use Rattle.psos_model.specs.Sound.{IsSound}
use Rattle.psos_laws.specs.Landings.{Landing, found}
use Rattle.psos_laws.specs.History.{transition_at}
use Rattle.psos_laws.specs.Reads.{MayRead}
use Rattle.psos_laws.specs.SoundParts.{IsSoundPlaces}
use Rattle.psos_laws.proofs.Landings.{landed_found, each_found}
use Rattle.psos_laws.proofs.StepLaws.{Step, Ground, Lawful, LawfulCap, IsNew, IsCopyFrom, Admits, OnlyImpl, OldDir}
use Rattle.psos_laws.proofs.AnswerSteps.{ground_of, answer_steps}

-- a capability landed, lawfully
pub record Came (f : Flat) (next u : ℕ) (ls : List Landing) (p : Place) (c : Capability) : Type 0 where
  pub landing : Landing
  pub is : found ls p ≡ Some landing
  pub here : p ≡ landing.place
  pub word : landing.word ≡ Cap c
  pub lawful : LawfulCap f next u p landing.source c

-- a capability in a store is under a guard
pub has_guard : (f : Flat) (p : Place) (c : Capability) → cap_at f p ≡ Some c → ((u : ℕ) → is_own p u ≡ false) → (j : ℕ) × (guard_at f p ≡ Some j)
has_guard f (Reg v i) c e out = absurd (false≢true (sym (out v) ∙ eq-eqb v v refl))
has_guard f (FrameReg v d i) c e out = absurd (false≢true (sym (out v) ∙ eq-eqb v v refl))
has_guard f (PathAt v i) c e out = absurd (false≢true (sym (out v) ∙ eq-eqb v v refl))
has_guard f (SegWord v i) c e out = by_row (at f.segments v.0) e
  where
    by_row : (o : Option Segment) → option_and_then (λ (s : Segment). cap_in (word_at s.words i)) o ≡ Some c → (j : ℕ) × (option_map (λ (s : Segment). s.guard.0) o ≡ Some j)
    by_row None e = absurd (none-some c e)
    by_row (Some x) e = (x.guard.0, refl)
has_guard f (DirName v m) c e out = by_row (at f.dirs v.0) e
  where
    by_row : (o : Option Directory) → option_and_then (λ (d : Directory). option_map (λ (e : Named). e.cap) (named d m)) o ≡ Some c → (j : ℕ) × (option_map (λ (d : Directory). d.guard.0) o ≡ Some j)
    by_row None e = absurd (none-some c e)
    by_row (Some x) e = (x.guard.0, refl)
has_guard f (BoxAt v i) c e out = (1, refl)
has_guard f (Link v) c e out = (1, refl)
has_guard f (ImplOf v) c e out = (1, refl)

-- a place with a guard is nobody's own
pub stored : (g : Flat) (p : Place) (k : ℕ) → guard_at g p ≡ Some k → (v : ℕ) → is_own p v ≡ false
stored g (Reg w i) k e v = absurd (none-some k e)
stored g (FrameReg w d i) k e v = absurd (none-some k e)
stored g (PathAt w i) k e v = absurd (none-some k e)
stored g _ k e v = refl

abbrev pub is_impl : Place → Bool
is_impl (ImplOf o) = true
is_impl _ = false

module _ (f g : Flat) (u : ℕ) (ls : List Landing) (moved : Place → Place) (st : Step f g u ls moved) where
  -- a capability at a place landed there, or lay where the word of the place lay before
  pub came : (p : Place) (c : Capability) → cap_at g p ≡ Some c → Came f g.next u ls p c ⊎ ((found ls p ≡ None) × (cap_at f (moved p) ≡ Some c))
  came p c e = elim (landed_found ls p (cap_at f (moved p)) c (st.nothing_else p c e)) [
    | inl h ↦ inl (record {
      landing = h.landing;
      is = h.is;
      here = h.here;
      word = h.word;
      lawful = subst (λ q. LawfulCap f g.next u q h.landing.source c) (sym h.here) (each_found (Lawful f g.next u) ls p h.landing st.lawful h.is c h.word);
    })
    | inr h ↦ inr h
  ]

  admitted : (p : Place) (c : Capability) (k : ℕ) → Admits f u p c → guard_at g p ≡ Some k → missing k c.rights ≡ None
  admitted p c k (inl own) is = absurd (false≢true (sym (stored g p k is u) ∙ own))
  admitted p c k (inr h) is = subst (λ j. missing j c.rights ≡ None) (sym (st.guards p h.0 k h.1 is)) h.2

  keeps_guarded : IsSoundPlaces f → (p : Place) (c : Capability) (k : ℕ) → cap_at g p ≡ Some c → guard_at g p ≡ Some k → missing k c.rights ≡ None
  keeps_guarded places p c k e is = elim (came p c e) [
    | inl h ↦ admitted p c k h.lawful.admits is
    | inr h ↦
        let j = has_guard f (moved p) c h.1 (λ v. st.own p v ∙ stored g p k is v) in
        subst (λ q. missing q c.rights ≡ None) (sym (st.guards p j.0 k (sym (st.stores p) ∙ j.1) is)) (places.guarded.passes (moved p) c j.0 h.1 j.1)
  ]

  source_below : IsSoundPlaces f → (c : Capability) (source : Option Source) → IsNew f g.next c ⊎ IsCopyFrom f u c source → c.uid < g.next
  source_below places c source (inl new) = new.1
  source_below places c None (inr none) = absurd none
  source_below places c (Some q) (inr copy) = omega (arith, places.below q.place copy.old copy.held, copy.same, st.later)

  keeps_below : IsSoundPlaces f → (p : Place) (c : Capability) → cap_at g p ≡ Some c → c.uid < g.next
  keeps_below places p c e = elim (came p c e) [
    | inl h ↦ source_below places c h.landing.source h.lawful.from
    | inr h ↦ omega (arith, places.below (moved p) c h.1, st.later)
  ]

  -- nobody reads a directory's representation
  unread : Ground f → (d : ℕ) (x : Directory) → at f.dirs d ≡ Some x → (by : Option Right) → MayRead f u (ImplOf (uid d)) by → ⊥
  unread ground d x live None (inl own) = false≢true own
  unread ground d x live None (inr first) = false≢true (sym (ap is_impl first.2))
  unread ground d x live (Some right) h = none-some x (sym (ground.apart d h.1.leads.0 h.1.leads.1) ∙ live)

  not_copied : Ground f → IsSoundPlaces f → (d : ℕ) (c : Capability) (old : OldDir f d c.uid) (source : Option Source) → IsNew f g.next c ⊎ IsCopyFrom f u c source → ⊥
  not_copied ground places d c old source (inl new) = omega (arith, new.0, ground.reps d old.row old.live, old.same)
  not_copied ground places d c old None (inr none) = none
  not_copied ground places d c old (Some q) (inr copy) =
      let hidden : q.place ≡ ImplOf (uid d) = places.hidden d old.row old.live q.place copy.old copy.held (copy.same ∙ sym old.same) in
      unread ground d old.row old.live q.by (subst (λ z. MayRead f u z q.by) hidden copy.read)

  keeps_hidden : Ground f → IsSoundPlaces f → (d : ℕ) (x : Directory) → at g.dirs d ≡ Some x → (p : Place) (c : Capability) → cap_at g p ≡ Some c → c.uid ≡ x.rep → p ≡ ImplOf (uid d)
  keeps_hidden ground places d x live p c e same = elim (st.dirs d x live) [
    | inl old ↦ elim (came p c e) [
      | inl h ↦ absurd (not_copied ground places d c (subst (λ r. OldDir f d r) (sym same) old) h.landing.source h.lawful.from)
      | inr h ↦ st.impl p d (places.hidden d old.row old.live (moved p) c h.1 (same ∙ sym old.same))
    ]
    | inr new ↦ elim (came p c e) [
      | inl h ↦ h.here ∙ each_found (OnlyImpl d x.rep) ls p h.landing new.only h.is c h.word same
      | inr h ↦ absurd (omega (arith, places.below (moved p) c h.1, new.new, same))
    ]
  ]

  pub keeps_places : Ground f → IsSoundPlaces f → IsSoundPlaces g
  keeps_places ground places = record {
    below = keeps_below places;
    guarded = record { passes = keeps_guarded places };
    hidden = keeps_hidden ground places;
  }

-- the capabilities at places are sound after each answer to a sound state
pub places_kept : (s : Script) (f : Flat) (u : ℕ) → IsWellFormed s → IsSound s f → IsSoundPlaces (answer s f u).0
places_kept s f u formed sound =
    let places : IsSoundPlaces f = record { below = sound.below; guarded = sound.guarded; hidden = sound.hidden } in
    keeps_places f (answer s f u).0 u (transition_at s f u).landings (transition_at s f u).moved (answer_steps s f u sound) (ground_of s f sound) places
