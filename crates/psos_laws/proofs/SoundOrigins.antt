-- Each capability has a sound origin and landed, and sealed holds, along a history.
use Rattle.std.proofs.Common.{◌≡◌, ◌⊎◌, ℕ, ◌<◌, Bool, true, false, cond, nat_le, List, [], ◌∷◌, length, Option, Some, None, refl, sym, ap, subst, ◌∙◌, inl, inr, arith}
use Rattle.std.proofs.lemmas.Option.{same_Some, none-some}
use Rattle.std.proofs.lemmas.Bool.{cases_eq, eq-eqb, ne_eqb, false≢true, le-leb, leb-true}
use Rattle.psos_table.specs.Table.{at}
use Rattle.psos_caps.specs.Capability.{Capability}
use Rattle.psos_calls.specs.declared.right.Right.{Right}
use Rattle.psos_calls.specs.declared.right.Right.TheVariants.{Impl}
use Rattle.psos_calls.specs.declared.win_row.WinRow.{WinRow}
use Rattle.psos_calls.specs.Language.Capabilities.{uid}
use Rattle.psos_calls.specs.Language.Tests.{if_there}
use Rattle.psos_model.specs.declared.place.Place.{Place}
use Rattle.psos_model.specs.declared.place.Place.TheVariants.{ImplOf}
use Rattle.psos_model.specs.Flat.{Flat, Object}
use Rattle.psos_model.specs.Flat.Places.{cap_at, is_own, right_of}
use Rattle.psos_model.specs.Answer.Outcomes.{Source}
use Rattle.psos_laws.specs.declared.origin.Origin.{Origin}
use Rattle.psos_laws.specs.declared.way.Way.{Way}
use Rattle.psos_laws.specs.declared.way.Way.TheVariants.{Boot, Made, Copied}
use Rattle.psos_laws.specs.Landings.{Landing}
use Rattle.psos_laws.specs.Reads.{IsCopy, HasRight, MayRead, MayWindow}
use Rattle.psos_laws.specs.When.{WhenFound, WhenTrue}
use Rattle.psos_laws.specs.History.{Transition, entry_at, origin_by, origin_of, IsSoundWay, AreSoundOrigins, HaveAllLanded}
use Rattle.psos_laws.specs.Sealed.{ThroughSource, Through, MadeBy, IsSealed}
use Rattle.psos_laws.proofs.Landings.{each_found}
use Rattle.psos_laws.proofs.StepLaws.{IsNew, IsCopyFrom, OnlyImpl, NewRep}
use Rattle.psos_laws.proofs.PlaceGuards.{came, is_impl}
use Rattle.psos_laws.proofs.Histories.{IsLedTo, firm_at}

-- ---- origins

-- a stamp is below the number of entries
entry_below : (past : List Transition) (t : ℕ) (e : Transition) → entry_at past t ≡ Some e → t < length past
entry_below [] t e is = absurd (none-some e is)
entry_below (x ∷ past) t e is = elim (cases_eq t (length past)) [
  | inl same ↦ omega (arith, same)
  | inr apart ↦ omega (arith, entry_below past t e (sym (ap (λ b. cond b (Some x) (entry_at past t)) (ne_eqb t (length past) apart)) ∙ is))
]

-- an entry has its stamp still when others come
entry_stays : (x : Transition) (past : List Transition) (t : ℕ) (e : Transition) → entry_at past t ≡ Some e → entry_at (x ∷ past) t ≡ Some e
entry_stays x past t e is =
    ap (λ b. cond b (Some x) (entry_at past t)) (ne_eqb t (length past) (λ same. omega (arith, same, entry_below past t e is))) ∙ is

way_stays : (start : Flat) (x : Transition) (past : List Transition) (p : Place) (c : Capability) (stamp : Option ℕ) (way : Way)
    → IsSoundWay start past (x.moved p) c stamp way → IsSoundWay start (x ∷ past) p c stamp way
way_stays start x past p c (Some t) (Copied q by) h = (h.0, entry_stays x past t h.0 h.1, h.2)
way_stays start x past p c (Some t) Made h = (h.0, entry_stays x past t h.0 h.1, h.2)
way_stays start x past p c (Some t) Boot h = h
way_stays start x past p c None Boot h = h
way_stays start x past p c None (Copied q by) h = h
way_stays start x past p c None Made h = h

abbrev IsSoundOrigin : Flat → List Transition → Place → Capability → Origin → Type 0
IsSoundOrigin start past p c o = IsSoundWay start past p c o.stamp o.way

module _ (start : Flat) (x : Transition) (past : List Transition) (next : ℕ) (p : Place) (c : Capability) where
  now : entry_at (x ∷ past) (length past) ≡ Some x
  now = ap (λ b. cond b (Some x) (entry_at past (length past))) (eq-eqb (length past) (length past) refl)

  by_new : (b : Bool) (q : Source) → nat_le x.flat.next c.uid ≡ b → IsNew x.flat next c ⊎ IsCopy x.flat x.user c q.place q.by → IsSoundWay start (x ∷ past) p c (Some (length past)) (cond b Made (Copied q.place q.by))
  by_new true q is h = (x, now, leb-true x.flat.next c.uid is)
  by_new false q is (inl new) = absurd (false≢true (sym is ∙ le-leb x.flat.next c.uid new.0))
  by_new false q is (inr copy) = (x, now, copy)

  landing : (source : Option Source) → IsNew x.flat next c ⊎ IsCopyFrom x.flat x.user c source → IsSoundOrigin start (x ∷ past) p c (origin_by (length past) x.flat.next c source)
  landing None (inl new) = (x, now, new.0)
  landing None (inr none) = absurd none
  landing (Some q) h = by_new (nat_le x.flat.next c.uid) q refl h

pub sound_origins : (start : Flat) (past : List Transition) (g : Flat) → IsLedTo start past g → AreSoundOrigins start past g
sound_origins start [] g led p c e = subst (λ f. cap_at f p ≡ Some c) led.1 e
sound_origins start (x ∷ past) g led p c e =
    let P : Option Landing → Type 0 = λ o. IsSoundOrigin start (x ∷ past) p c (if_there o (origin_of past (x.moved p) c) (λ l. origin_by (length past) x.flat.next c l.source)) in
    elim (came x.flat g x.user x.landings x.moved led.0 p c e) [
      | inl h ↦ subst P (sym h.is) (landing start x past g.next p c h.landing.source h.lawful.from)
      | inr h ↦ subst P (sym h.0) (way_stays start x past p c (origin_of past (x.moved p) c).stamp (origin_of past (x.moved p) c).way (sound_origins start past x.flat led.2 (x.moved p) c h.1))
    ]

-- ---- what landed

pub all_landed : (start : Flat) (past : List Transition) (g : Flat) → IsLedTo start past g → HaveAllLanded start past g
all_landed start [] g led = led.1
all_landed start (e ∷ past) g led = (λ p c held. led.0.nothing_else p c held, all_landed start past e.flat led.2)

-- ---- sealed

-- what is read at a representation's place is read by the right impl
by_impl : (f : Flat) (u o : ℕ) (q : Place) (by : Option Right) → MayRead f u q by → q ≡ ImplOf (uid o) → (by ≡ Some Impl) × HasRight f u Impl q
by_impl f u o q None (inl own) is = absurd (false≢true (sym (ap (λ z. is_own z u) is) ∙ own))
by_impl f u o q None (inr first) is = absurd (false≢true (sym (ap is_impl (sym is ∙ first.2))))
by_impl f u o q (Some r) h is =
    let same : r ≡ Impl = same_Some r Impl (sym h.0 ∙ ap right_of is) in
    (ap Some same, subst (λ z. HasRight f u z q) same h.1)

module _ (start : Flat) (v : Transition) (past : List Transition) (g : Flat) (led : IsLedTo start (v ∷ past) g) (o : ℕ) (x : Object) (p : Place) (c : Capability) (e : cap_at g p ≡ Some c) (same : c.uid ≡ x.rep) where
  abbrev Earlier : Type 0
  Earlier = (q : Place) (k : Capability) → cap_at v.flat q ≡ Some k → k.uid ≡ x.rep → (q ≡ ImplOf (uid o)) ⊎ Through start past q k o

  by_source : at v.flat.objects o ≡ Some x → Earlier → (source : Option Source) → IsNew v.flat g.next c ⊎ IsCopyFrom v.flat v.user c source → ThroughSource v o c source (λ q k. Through start past q k o)
  by_source old on source (inl new) = absurd (omega (arith, new.0, same, (firm_at start past v.flat led.2).ground.parts o x old))
  by_source old on None (inr none) = absurd none
  by_source old on (Some q) (inr copy) = elim (on q.place copy.old copy.held (copy.same ∙ same)) [
    | inl at_rep ↦ let r = by_impl v.flat v.user o q.place q.by copy.read at_rep in inl (at_rep, r.0, r.1)
    | inr through ↦ inr (copy.old, copy.held, copy.same, through)
  ]

  old_object : at v.flat.objects o ≡ Some x → Earlier → (p ≡ ImplOf (uid o)) ⊎ Through start (v ∷ past) p c o
  old_object old on =
      let P : Option Landing → Type 0 = λ l. WhenFound l (Through start past (v.moved p) c o) (λ l. ThroughSource v o c l.source (λ q k. Through start past q k o)) in
      elim (came v.flat g v.user v.landings v.moved led.0 p c e) [
        | inl h ↦ inr (subst P (sym h.is) (by_source old on h.landing.source h.lawful.from))
        | inr h ↦ elim (on (v.moved p) c h.1 same) [
          | inl at_rep ↦ inl (led.0.impl p o at_rep)
          | inr through ↦ inr (subst P (sym h.0) through)
        ]
      ]

  new_object : NewRep v.flat v.landings o x.rep → (p ≡ ImplOf (uid o)) ⊎ Through start (v ∷ past) p c o
  new_object new = elim (came v.flat g v.user v.landings v.moved led.0 p c e) [
    | inl h ↦ inl (h.here ∙ each_found (OnlyImpl o x.rep) v.landings p h.landing new.only h.is c h.word same)
    | inr h ↦ absurd (omega (arith, (firm_at start past v.flat led.2).places.below (v.moved p) c h.1, new.new, same))
  ]

-- capabilities on representations of objects came by the right impl, or lay there at the start
sealed_objects : (start : Flat) (past : List Transition) (g : Flat) → IsLedTo start past g → (o : ℕ) (x : Object) → at g.objects o ≡ Some x → (p : Place) (c : Capability) → cap_at g p ≡ Some c → c.uid ≡ x.rep
    → (p ≡ ImplOf (uid o)) ⊎ Through start past p c o
sealed_objects start [] g led o x live p c e same = inr (x, subst (λ (f : Flat). at f.objects o ≡ Some x) led.1 live, same, subst (λ f. cap_at f p ≡ Some c) led.1 e)
sealed_objects start (v ∷ past) g led o x live p c e same = elim (led.0.objects o x live) [
  | inl old ↦ old_object start v past g led o x p c e same old (λ q k held is. sealed_objects start past v.flat led.2 o x old q k held is)
  | inr new ↦ new_object start v past g led o x p c e same new
]

-- every window was made by a user that could, or was there at the start
windows_made : (start : Flat) (past : List Transition) (g : Flat) → IsLedTo start past g → (w : ℕ) (y : WinRow) → at g.windows w ≡ Some y → MadeBy start past w y.seg.0
windows_made start [] g led w y live = (y, subst (λ (f : Flat). at f.windows w ≡ Some y) led.1 live, refl)
windows_made start (e ∷ past) g led w y live =
    let P : Bool → Type 0 = λ b. WhenTrue b (MayWindow e.flat e.user y.seg.0) (MadeBy start past w y.seg.0) in
    elim (led.0.windows w y live) [
      | inl old ↦
          let below = (firm_at start past e.flat led.2).windows_below w y old in
          subst P (sym (ne_eqb e.flat.next w (λ same. omega (arith, below, same)))) (windows_made start past e.flat led.2 w y old)
      | inr new ↦ subst P (sym (eq-eqb e.flat.next w new.0)) new.1
    ]

pub is_sealed : (start : Flat) (past : List Transition) (g : Flat) → IsLedTo start past g → IsSealed start past g
is_sealed start past g led =
    let firm = firm_at start past g led in
    record {
      objects = sealed_objects start past g led;
      windows = λ o x live w y there same. subst (MadeBy start past w) same (windows_made start past g led w y there);
      dirs = firm.places.hidden;
      no_windows = firm.no_windows;
    }
