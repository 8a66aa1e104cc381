-- Held back holds along a history, and what is confined stays so.
use Rattle.std.proofs.Common.{◌≡◌, ◌⊎◌, ℕ, zero, suc, ◌≤◌, ◌&&◌, Bool, true, false, not, cond, nat_le, List, [], ◌∷◌, slice_get, Option, Some, None, refl, sym, ap, subst, ◌∙◌, inl, inr, arith}
use Rattle.std.proofs.lemmas.Option.{same_Some, none-some}
use Rattle.std.proofs.lemmas.Bool.{eq-eqb, eqb-true, false≢true, le-leb}
use Rattle.psos_caps.specs.Capability.{Capability}
use Rattle.psos_words.specs.Guard.{has_bit, lacks_bit, missing}
use Rattle.psos_calls.specs.declared.right.Right.{Right}
use Rattle.psos_model.specs.declared.place.Place.{Place}
use Rattle.psos_model.specs.declared.place.Place.TheVariants.{Reg, FrameReg, PathAt, SegWord, DirName, BoxAt, Link, ImplOf}
use Rattle.psos_model.specs.Flat.{Flat}
use Rattle.psos_model.specs.Flat.Places.{cap_at, is_own}
use Rattle.psos_model.specs.Answer.Outcomes.{Source}
use Rattle.psos_laws.specs.Landings.{Landing}
use Rattle.psos_laws.specs.Reads.{Contains, Leads, MayRead, IsCopy}
use Rattle.psos_laws.specs.History.{Transition}
use Rattle.psos_laws.specs.When.{WhenFound, WhenTrue}
use Rattle.psos_laws.specs.Trails.{Held, holds, WalkBy, IsWalk, AreHeldBack, IsHeldBack, IsConfined}
use Rattle.psos_laws.proofs.StepLaws.{Step, Ground, Admits, IsNew, IsCopyFrom}
use Rattle.psos_laws.proofs.PlaceGuards.{came, has_guard}
use Rattle.psos_laws.proofs.Histories.{Firm, IsLedTo, firm_at}

-- ---- bit 0

not_true : (b : Bool) → (b ≡ true → ⊥) → b ≡ false
not_true true bad = absurd (bad refl)
not_true false bad = refl

-- a guard with bit 0 lets in what has bit 0 alone
passes_0 : (guard rights : ℕ) → has_bit guard 0 ≡ true → missing guard rights ≡ None → has_bit rights 0 ≡ true
passes_0 guard rights bit ok = by_bit (has_bit guard 0) (has_bit rights 0) bit ok
  where
    some_none : (o : Option ℕ) → o ≡ Some 0 → o ≡ None → ⊥
    some_none o is none = none-some 0 (sym none ∙ is)

    by_bit : (a b : Bool) → a ≡ true → cond {A = Option ℕ} (a && not b) (Some 0) (cond (lacks_bit guard rights 1) (Some 1) (cond (lacks_bit guard rights 2) (Some 2) None)) ≡ None → b ≡ true
    by_bit a true t h = refl
    by_bit true false t h = absurd (some_none _ refl h)
    by_bit false false t h = absurd (false≢true t)

-- a capability without bit 0 lands at a place of the request's user alone
own_landing : (f : Flat) (u : ℕ) → Ground f → (p : Place) (c : Capability) → Admits f u p c → has_bit c.rights 0 ≡ false → is_own p u ≡ true
own_landing f u ground p c (inl own) lacks = own
own_landing f u ground p c (inr h) lacks = absurd (false≢true (sym lacks ∙ passes_0 h.0 c.rights (ground.bit_0 p h.0 h.1) h.2))

one_owner : (q : Place) (v u : ℕ) → is_own q v ≡ true → is_own q u ≡ true → v ≡ u
one_owner (Reg w i) v u a b = sym (eqb-true w v a) ∙ eqb-true w u b
one_owner (FrameReg w d i) v u a b = sym (eqb-true w v a) ∙ eqb-true w u b
one_owner (PathAt w i) v u a b = sym (eqb-true w v a) ∙ eqb-true w u b
one_owner _ v u a b = absurd (false≢true a)

leads_to_store : (f : Flat) (n : ℕ) (q : Place) (v : ℕ) → Leads f n q → is_own q v ≡ true → ⊥
leads_to_store f n (Reg w i) v h own = h
leads_to_store f n (FrameReg w d i) v h own = h
leads_to_store f n (PathAt w i) v h own = h
leads_to_store f n _ v h own = false≢true own

-- a private place that a user reads is its own
own_read : (f : Flat) (u : ℕ) (q : Place) (v : ℕ) (by : Option Right) → MayRead f u q by → is_own q v ≡ true → v ≡ u
own_read f u q v None (inl own) is = one_owner q v u is own
own_read f u q v None (inr first) is = absurd (false≢true (sym (ap (λ z. is_own z v) first.2) ∙ is))
own_read f u q v (Some r) h is = absurd (leads_to_store f h.1.cap.uid q v h.1.leads is)

-- what lacks bit 0 lies at a private place
lacking_private : (f : Flat) → Firm f → (p : Place) (c : Capability) → cap_at f p ≡ Some c → has_bit c.rights 0 ≡ false → (u : ℕ) × (is_own p u ≡ true)
lacking_private f firm p c e lacks = by_place p e
  where
    bad : (p : Place) → cap_at f p ≡ Some c → ((u : ℕ) → is_own p u ≡ false) → ⊥
    bad p e out =
        let guard = has_guard f p c e out in
        false≢true (sym lacks ∙ passes_0 guard.0 c.rights (firm.ground.bit_0 p guard.0 guard.1) (firm.places.guarded.passes p c guard.0 e guard.1))

    by_place : (p : Place) → cap_at f p ≡ Some c → (u : ℕ) × (is_own p u ≡ true)
    by_place (Reg u i) e = (u, eq-eqb u u refl)
    by_place (FrameReg u d i) e = (u, eq-eqb u u refl)
    by_place (PathAt u i) e = (u, eq-eqb u u refl)
    by_place (SegWord s i) e = absurd (bad (SegWord s i) e (λ u. refl))
    by_place (DirName s i) e = absurd (bad (DirName s i) e (λ u. refl))
    by_place (BoxAt s i) e = absurd (bad (BoxAt s i) e (λ u. refl))
    by_place (Link s) e = absurd (bad (Link s) e (λ u. refl))
    by_place (ImplOf s) e = absurd (bad (ImplOf s) e (λ u. refl))

-- ---- the way back

-- all of a list from the first to one are private places of one user, and this is such a place
abbrev IsOwnTo : List Held → ℕ → Place → Type 0
IsOwnTo way i p = (u : ℕ) × (is_own p u ≡ true) × ((j : ℕ) (k : Held) → j ≤ i → slice_get way j ≡ Some k → is_own k.place u ≡ true)

-- all on the way back have a capability's rights, and where one lacks bit 0, it and all up to it are of one user, and so is the place
record IsBackFrom (way : List Held) (p : Place) (c : Capability) : Type 0 where
  more : (i : ℕ) (h : Held) → slice_get way i ≡ Some h → Contains h.cap.rights c.rights
  private : (i : ℕ) (h : Held) → slice_get way i ≡ Some h → has_bit h.cap.rights 0 ≡ false → IsOwnTo way i p

nothing_back : (p : Place) (c : Capability) → IsBackFrom [] p c
nothing_back p c = record { more = λ i h e. absurd (none-some h e); private = λ i h e. absurd (none-some h e) }

-- one more in front
one_more : (p : Place) (c : Capability) (rest : List Held) (u : ℕ) → is_own p u ≡ true → (i : ℕ) → ((j : ℕ) (k : Held) → j ≤ i → slice_get rest j ≡ Some k → is_own k.place u ≡ true)
    → (j : ℕ) (k : Held) → j ≤ suc i → slice_get (holds p c ∷ rest) j ≡ Some k → is_own k.place u ≡ true
one_more p c rest u own i all zero k le is = subst (λ (z : Held). is_own z.place u ≡ true) (same_Some (holds p c) k is) own
one_more p c rest u own i all (suc j) k le is = all j k (omega (arith, le)) is

first_only : (p : Place) (c : Capability) (rest : List Held) (u : ℕ) → is_own p u ≡ true → (j : ℕ) (k : Held) → j ≤ 0 → slice_get (holds p c ∷ rest) j ≡ Some k → is_own k.place u ≡ true
first_only p c rest u own zero k le is = subst (λ (z : Held). is_own z.place u ≡ true) (same_Some (holds p c) k is) own
first_only p c rest u own (suc j) k le is = absurd (omega (arith, le))

module _ (f : Flat) (v : ℕ) (firm : Firm f) (p : Place) (c : Capability) (q : Place) (by : Option Right) (admits : Admits f v p c) (copy : IsCopy f v c q by) (rest : List Held) (on : IsBackFrom rest q copy.old) where
  -- the user of the request has the place that it copied from, and the place where the copy landed
  own_too : (u : ℕ) → is_own q u ≡ true → has_bit c.rights 0 ≡ false → is_own p u ≡ true
  own_too u own lacks = subst (λ w. is_own p w ≡ true) (sym (own_read f v q u by copy.read own)) (own_landing f v firm.ground p c admits lacks)

  more : (i : ℕ) (h : Held) → slice_get (holds q copy.old ∷ rest) i ≡ Some h → Contains h.cap.rights c.rights
  more zero h e k t = subst (λ (z : Held). has_bit z.cap.rights k ≡ true) (same_Some (holds q copy.old) h e) (copy.rights k t)
  more (suc i) h e k t = on.more i h e k (copy.rights k t)

  private : (i : ℕ) (h : Held) → slice_get (holds q copy.old ∷ rest) i ≡ Some h → has_bit h.cap.rights 0 ≡ false → IsOwnTo (holds q copy.old ∷ rest) i p
  private zero h e lacks =
      let old_lacks : has_bit copy.old.rights 0 ≡ false = ap (λ (z : Held). has_bit z.cap.rights 0) (same_Some (holds q copy.old) h e) ∙ lacks in
      let u = lacking_private f firm q copy.old copy.held old_lacks in
      (u.0, own_too u.0 u.1 (not_true _ (λ t. false≢true (sym old_lacks ∙ copy.rights 0 t))), first_only q copy.old rest u.0 u.1)
  private (suc i) h e lacks =
      let r = on.private i h e lacks in
      (r.0, own_too r.0 r.1 (not_true _ (λ t. false≢true (sym lacks ∙ more (suc i) h e 0 t))), one_more q copy.old rest r.0 r.1 i r.2)

  back_copy : IsBackFrom (holds q copy.old ∷ rest) p c
  back_copy = record { more = more; private = private }

-- the way back from a place
record Back (past : List Transition) (p : Place) (c : Capability) : Type 0 where
  way : List Held
  walk : IsWalk past p c way
  held : IsBackFrom way p c

module _ (x : Transition) (past : List Transition) (g : Flat) (firm : Firm x.flat) (p : Place) (c : Capability) where
  moved_back : (led : Step x.flat g x.user x.landings x.moved) (way : List Held) → IsBackFrom way (x.moved p) c → IsBackFrom way p c
  moved_back led way b = record { more = b.more; private = λ i h e lacks. let r = b.private i h e lacks in (r.0, sym (led.own p r.0) ∙ r.1, r.2) }

  back_source : (source : Option Source) → IsNew x.flat g.next c ⊎ IsCopyFrom x.flat x.user c source → Admits x.flat x.user p c
      → ((q : Place) (k : Capability) → cap_at x.flat q ≡ Some k → Back past q k) → (way : List Held) × WalkBy x.flat c source (IsWalk past) way × IsBackFrom way p c
  back_source None h admits on = ([], refl, nothing_back p c)
  back_source (Some q) h admits on = by_new (nat_le x.flat.next c.uid) refl h
    where
      by_new : (b : Bool) → nat_le x.flat.next c.uid ≡ b → IsNew x.flat g.next c ⊎ IsCopy x.flat x.user c q.place q.by
          → (way : List Held)
          × WhenTrue b (way ≡ []) ((old : Capability) × (rest : List Held) × (cap_at x.flat q.place ≡ Some old) × (old.uid ≡ c.uid) × IsWalk past q.place old rest × (way ≡ holds q.place old ∷ rest))
          × IsBackFrom way p c
      by_new true is h = ([], refl, nothing_back p c)
      by_new false is (inl new) = absurd (false≢true (sym is ∙ le-leb x.flat.next c.uid new.0))
      by_new false is (inr copy) =
          let b = on q.place copy.old copy.held in
          (holds q.place copy.old ∷ b.way, (copy.old, b.way, copy.held, copy.same, b.walk, refl), back_copy x.flat x.user firm p c q.place q.by admits copy b.way b.held)

back : (start : Flat) (past : List Transition) (g : Flat) → IsLedTo start past g → (p : Place) (c : Capability) → cap_at g p ≡ Some c → Back past p c
back start [] g led p c e = record { way = []; walk = refl; held = nothing_back p c }
back start (x ∷ past) g led p c e =
    let P : List Held → Option Landing → Type 0 = λ way l. WhenFound l (IsWalk past (x.moved p) c way) (λ l. WalkBy x.flat c l.source (IsWalk past) way) in
    let firm = firm_at start past x.flat led.2 in
    elim (came x.flat g x.user x.landings x.moved led.0 p c e) [
      | inl h ↦
          let b = back_source x past g firm p c h.landing.source h.lawful.from h.lawful.admits (λ q k held. back start past x.flat led.2 q k held) in
          record { way = b.0; walk = subst (P b.0) (sym h.is) b.1; held = b.2 }
      | inr h ↦
          let b = back start past x.flat led.2 (x.moved p) c h.1 in
          record { way = b.way; walk = subst (P b.way) (sym h.0) b.walk; held = moved_back x past g firm p c led.0 b.way b.held }
    ]

back_from : (g : Flat) → Firm g → (p : Place) (c : Capability) → cap_at g p ≡ Some c → (way : List Held) → IsBackFrom way p c → AreHeldBack (holds p c ∷ way)
back_from g firm p c e way b zero h is lacks =
    let own_lacks : has_bit c.rights 0 ≡ false = ap (λ (z : Held). has_bit z.cap.rights 0) (same_Some (holds p c) h is) ∙ lacks in
    let u = lacking_private g firm p c e own_lacks in
    (u.0, first_only p c way u.0 u.1)
back_from g firm p c e way b (suc i) h is lacks =
    let r = b.private i h is lacks in
    (r.0, one_more p c way r.0 r.1 i r.2)

pub is_held_back : (start : Flat) (past : List Transition) (g : Flat) → IsLedTo start past g → IsHeldBack past g
is_held_back start past g led p c e =
    let b = back start past g led p c e in
    (b.way, b.walk, back_from g (firm_at start past g led) p c e b.way b.held)

-- ---- confined

module _ (f g : Flat) (u : ℕ) (ls : List Landing) (moved : Place → Place) (st : Step f g u ls moved) (ground : Ground f) (v x m : ℕ) (h : IsConfined f v x m) where
  by_source : (p : Place) (c : Capability) (source : Option Source) (k : ℕ) → c.uid ≡ x → has_bit m k ≡ true → has_bit c.rights k ≡ true → IsNew f g.next c ⊎ IsCopyFrom f u c source → Admits f u p c
      → (is_own p v ≡ true) × (has_bit c.rights 0 ≡ false)
  by_source p c source k same wanted has_k (inl new) admits = absurd (omega (arith, new.0, h.below, same))
  by_source p c None k same wanted has_k (inr none) admits = absurd none
  by_source p c (Some q) k same wanted has_k (inr copy) admits =
      let was = h.kept q.place copy.old copy.held (copy.same ∙ same) k wanted (copy.rights k has_k) in
      let lacks : has_bit c.rights 0 ≡ false = not_true (has_bit c.rights 0) (λ t. false≢true (sym was.1 ∙ copy.rights 0 t)) in
      (subst (λ w. is_own p w ≡ true) (sym (own_read f u q.place v q.by copy.read was.0)) (own_landing f u ground p c admits lacks), lacks)

  -- a copy of what is confined is confined, and so is what stays
  pub keeps_confined : IsConfined g v x m
  keeps_confined = record {
    below = omega (arith, h.below, st.later);
    kept = λ p c e same k wanted has_k. elim (came f g u ls moved st p c e) [
      | inl l ↦ by_source p c l.landing.source k same wanted has_k l.lawful.from l.lawful.admits
      | inr old ↦ let was = h.kept (moved p) c old.1 same k wanted has_k in (sym (st.own p v) ∙ was.0, was.1)
    ];
  }
