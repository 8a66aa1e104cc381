-- An outcome that is fair is a step.
use Rattle.std.proofs.Common.{◌≡◌, ◌⊎◌, ℕ, ◌<◌, ◌≤◌, Bool, true, false, cond, List, [], ◌∷◌, ◌++◌, length, slice_get, slice_set, Option, Some, None, refl, sym, ap, subst, ◌∙◌, inl, inr, arith}
use Rattle.std.specs.List.{AllByRecursion}
use Rattle.std.proofs.lemmas.Bool.{eq-eqb, false≢true}
use Rattle.psos_caps.specs.Capability.{Capability}
use Rattle.psos_words.specs.declared.word.Word.TheVariants.{Cap}
use Rattle.psos_words.specs.Words.{word_at}
use Rattle.psos_calls.specs.declared.frame.Frame.{Frame}
use Rattle.psos_calls.specs.Language.Script.{Script}
use Rattle.psos_calls.specs.Language.Tests.{if_there}
use Rattle.psos_calls.specs.Language.User.{User, after}
use Rattle.psos_model.specs.declared.place.Place.{Place}
use Rattle.psos_model.specs.declared.place.Place.TheVariants.{Reg, FrameReg}
use Rattle.psos_model.specs.Flat.{Flat}
use Rattle.psos_model.specs.Flat.Places.{cap_in, cap_at, own_cap, is_own, guard_at}
use Rattle.psos_model.specs.Flat.Changes.{changed_all}
use Rattle.psos_model.specs.Answer.Outcomes.{Outcome, own}
use Rattle.psos_model.proofs.AnswerBounds.{users_stay}
use Rattle.psos_laws.specs.Landings.{Landing, lands, changes_put, effect_puts, is_over, outer_place, source_after, end_puts, before, found, landed}
use Rattle.psos_laws.specs.Reads.{IsCopy}
use Rattle.psos_laws.proofs.Landings.{Within, landed_append, Landed, landed_found, each_found, each_append}
use Rattle.psos_laws.proofs.ChangeArrivals.{AreSafe, arrives_all}
use Rattle.psos_laws.proofs.OwnArrivals.{closing, closing_in, after_in, effect_apart, end_apart}
use Rattle.psos_laws.proofs.StepLaws.{Step, Fair, Ground, Lawful, IsNew, IsCopyFrom, OnlyImpl, NewRep, first_puts}
use Rattle.psos_laws.proofs.UnchangedPlaces.{next_later, guards_stay, stores_stay, own_stays, impl_stays, before_own, shared_apart, dirs_from, objects_from, windows_from, set_here, set_apart, cap_own, other_places}

-- the state after the request of a user closes with an outcome, and all that it puts
abbrev pub closed : Script → Flat → User → Outcome → Flat
closed s f x o = record (changed_all f o.changes) { users = slice_set f.users x.number (after s x o.effect) }

abbrev pub all_puts : Script → Flat → User → Outcome → List Landing
all_puts s f x o = end_puts s x (closing x o.effect).frames (first_puts f x o) ++ first_puts f x o

module _ (s : Script) (f : Flat) (x : User) (o : Outcome) (is : slice_get f.users x.number ≡ Some x) where
  -- what was put, part by part
  pub parts : (p : Place) (old : Option Capability) → landed (all_puts s f x o) p old
      ≡ landed (end_puts s x (closing x o.effect).frames (first_puts f x o)) p (landed (effect_puts x o.source o.effect) p (landed (changes_put f o.source o.changes) p old))
  parts p old =
      landed_append (end_puts s x (closing x o.effect).frames (first_puts f x o)) (first_puts f x o) p old
      ∙ ap (landed (end_puts s x (closing x o.effect).frames (first_puts f x o)) p) (landed_append (effect_puts x o.source o.effect) (changes_put f o.source o.changes) p old)

  pub nothing_else : AreSafe f o.changes → (p : Place) → Within (cap_at (closed s f x o) p) (landed (all_puts s f x o) p (cap_at f (before o.changes p)))
  nothing_else safe p c e = by_bool (is_own p x.number) refl
    where
      ends : List Landing
      ends = end_puts s x (closing x o.effect).frames (first_puts f x o)

      users : List User
      users = slice_set f.users x.number (after s x o.effect)

      others : (v : ℕ) → (v ≡ x.number → ⊥) → slice_get users v ≡ slice_get (changed_all f o.changes).users v
      others v n = set_apart f.users x.number v (after s x o.effect) n ∙ ap (λ (us : List User). slice_get us v) (sym (users_stay f o.changes))

      by_bool : (b : Bool) → is_own p x.number ≡ b → landed (all_puts s f x o) p (cap_at f (before o.changes p)) ≡ Some c
      by_bool true own =
          parts p _
          ∙ (ap (λ q. landed ends p (landed (effect_puts x o.source o.effect) p q))
          (shared_apart f o.source o.changes p x.number _ own ∙ (ap (cap_at f) (before_own o.changes p x.number own) ∙ cap_own f x.number x p is own))
          ∙ after_in s x o.effect o.source (first_puts f x o) p own c
          (sym (cap_own (closed s f x o) x.number (after s x o.effect) p (set_here f.users x.number (after s x o.effect) x is) own) ∙ e))
      by_bool false out =
          parts p _
          ∙ (end_apart s x (closing x o.effect).frames (first_puts f x o) p _ out
          ∙ (effect_apart x o.effect o.source p _ out
          ∙ arrives_all f o.source o.changes safe p c (sym (other_places (changed_all f o.changes) users x.number p others out) ∙ e)))

  -- what the user's own part has before bodies end
  pub closing_from : (p : Place) → is_own p x.number ≡ true → Within (own_cap (closing x o.effect) p) (landed (first_puts f x o) p (cap_at f p))
  closing_from p own c e =
      landed_append (effect_puts x o.source o.effect) (changes_put f o.source o.changes) p (cap_at f p)
      ∙ (ap (landed (effect_puts x o.source o.effect) p) (shared_apart f o.source o.changes p x.number (cap_at f p) own ∙ cap_own f x.number x p is own)
      ∙ closing_in x o.effect o.source p own c e)

own_outer : (s : Script) (x : User) (frames : List Frame) → is_own (outer_place s x frames) x.number ≡ true
own_outer s x [] = eq-eqb x.number x.number refl
own_outer s x (q ∷ outer) = by_end (is_over s q) (own_outer s x outer)
  where
    by_end : (t : Bool) → is_own (outer_place s x outer) x.number ≡ true → is_own (cond t (outer_place s x outer) (FrameReg x.number (length outer) 4)) x.number ≡ true
    by_end true on = on
    by_end false on = eq-eqb x.number x.number refl

module _ (s : Script) (f : Flat) (x z : User) (ls : List Landing) where
  -- the result of a body is in its r4
  result_of : (q : Frame) (outer : List Frame) (c : Capability) → word_at q.regs 4 ≡ Cap c → own_cap (record z { frames = q ∷ outer }) (FrameReg x.number (length outer) 4) ≡ Some c
  result_of q outer c e = rw (eq-eqb (length outer) (length outer) refl) (ap cap_in e)

  -- what the end of a body puts is lawful, where what was put before is
  end_lawful : (next : ℕ) (frames : List Frame) → ((p : Place) → is_own p x.number ≡ true → Within (own_cap (record z { frames = frames }) p) (landed ls p (cap_at f p)))
      → AllByRecursion (Lawful f next x.number) ls → AllByRecursion (Lawful f next x.number) (end_puts s x frames ls)
  end_lawful next [] from h = tt
  end_lawful next (q ∷ outer) from h = by_bool (is_over s q)
    where
      out : Place
      out = FrameReg x.number (length outer) 4

      owned : is_own out x.number ≡ true
      owned = eq-eqb x.number x.number refl

      copied : (c : Capability) → cap_at f out ≡ Some c → IsCopy f x.number c out None
      copied c held = record { old = c; held = held; same = refl; rights = λ k t. t; read = inl owned }

      from_there : (c : Capability) → Landed ls out c ⊎ ((found ls out ≡ None) × (cap_at f out ≡ Some c)) → IsNew f next c ⊎ IsCopyFrom f x.number c (source_after ls out)
      from_there c (inl l) =
          subst (λ r. IsNew f next c ⊎ IsCopyFrom f x.number c (if_there r (own out) (λ l. l.source))) (sym l.is) (each_found (Lawful f next x.number) ls out l.landing h l.is c l.word).from
      from_there c (inr old) =
          subst (λ r. IsNew f next c ⊎ IsCopyFrom f x.number c (if_there r (own out) (λ l. l.source))) (sym old.0) (inr (copied c old.1))

      lawful : Lawful f next x.number (lands (outer_place s x outer) (word_at q.regs 4) (source_after ls out))
      lawful c e = record {
        from = from_there c (landed_found ls out (cap_at f out) c (from out owned c (result_of q outer c e)));
        admits = inl (own_outer s x outer);
      }

      by_bool : (b : Bool) → AllByRecursion (Lawful f next x.number) (cond b (lands (outer_place s x outer) (word_at q.regs 4) (source_after ls out) ∷ []) [])
      by_bool true = (lawful, tt)
      by_bool false = tt

  -- and has no new representation, where what was put before has none but at its own place
  end_only : (o rep : ℕ) (frames : List Frame) → ((p : Place) → is_own p x.number ≡ true → Within (own_cap (record z { frames = frames }) p) (landed ls p (cap_at f p)))
      → ((p : Place) (c : Capability) → cap_at f p ≡ Some c → c.uid < f.next) → f.next ≤ rep
      → AllByRecursion (OnlyImpl o rep) ls → AllByRecursion (OnlyImpl o rep) (end_puts s x frames ls)
  end_only o rep [] from below new h = tt
  end_only o rep (q ∷ outer) from below new h = by_bool (is_over s q)
    where
      out : Place
      out = FrameReg x.number (length outer) 4

      owned : is_own out x.number ≡ true
      owned = eq-eqb x.number x.number refl

      nowhere : (c : Capability) → c.uid ≡ rep → Landed ls out c ⊎ ((found ls out ≡ None) × (cap_at f out ≡ Some c)) → ⊥
      nowhere c same (inl l) = false≢true (sym (ap (λ p. is_own p x.number) (l.here ∙ each_found (OnlyImpl o rep) ls out l.landing h l.is c l.word same)) ∙ owned)
      nowhere c same (inr old) = omega (arith, below out c old.1, new, same)

      only : OnlyImpl o rep (lands (outer_place s x outer) (word_at q.regs 4) (source_after ls out))
      only c e same = absurd (nowhere c same (landed_found ls out (cap_at f out) c (from out owned c (result_of q outer c e))))

      by_bool : (b : Bool) → AllByRecursion (OnlyImpl o rep) (cond b (lands (outer_place s x outer) (word_at q.regs 4) (source_after ls out) ∷ []) [])
      by_bool true = (only, tt)
      by_bool false = tt

pub fair_steps : (s : Script) (f : Flat) (x : User) (o : Outcome) → slice_get f.users x.number ≡ Some x → Ground f → Fair f x o
    → Step f (closed s f x o) x.number (all_puts s f x o) (before o.changes)
fair_steps s f x o is ground fair = record {
  nothing_else = nothing_else s f x o is fair.safe;
  lawful = each_append (Lawful f next x.number) ends ls (end_lawful s f x z ls next z.frames from fair.lawful) fair.lawful;
  later = next_later f o.changes;
  guards = λ p j k a b. guards_stay f ground o.changes fair.safe p j k a (sym (same_guard p) ∙ b);
  stores = stores_stay f o.changes;
  own = own_stays o.changes;
  impl = impl_stays o.changes;
  dirs = λ d y e. elim (dirs_from f o.changes d y e) [
    | inl old ↦ inl old
    | inr made ↦ inr (all_only d y.rep (fair.dirs d y.rep made))
  ];
  objects = λ v y e. elim (objects_from f o.changes v y e) [
    | inl old ↦ inl old
    | inr made ↦ inr (all_only v y.rep (fair.objects v y made))
  ];
  windows = λ w y e. elim (windows_from f o.changes w y e) [
    | inl old ↦ inl old
    | inr made ↦ inr (fair.windows w y made)
  ];
}
  where
    ls : List Landing
    ls = first_puts f x o

    z : User
    z = closing x o.effect

    ends : List Landing
    ends = end_puts s x z.frames ls

    next : ℕ
    next = (changed_all f o.changes).next

    from : (p : Place) → is_own p x.number ≡ true → Within (own_cap z p) (landed ls p (cap_at f p))
    from = closing_from s f x o is

    all_only : (v rep : ℕ) → NewRep f ls v rep → NewRep f (all_puts s f x o) v rep
    all_only v rep h = record { new = h.new; only = each_append (OnlyImpl v rep) ends ls (end_only s f x z ls v rep z.frames from ground.below h.new h.only) h.only }

    same_guard : (p : Place) → guard_at (closed s f x o) p ≡ guard_at (changed_all f o.changes) p
    same_guard (Reg v i) = refl
    same_guard _ = refl
