-- A process that its user confines with its first request. States docs/promises.md, "Held back, confined".
use Rattle.std.proofs.Common.{◌≡◌, ℕ, zero, suc, ◌≤◌, Bool, true, false, cond, List, [], ◌∷◌, length, Option, Some, None, refl, sym, ap, subst, ◌∙◌, inl, inr, arith}
use Rattle.std.specs.Prelude.{slice_get}
use Rattle.std.specs.Option.{option_map, option_and_then}
use Rattle.std.proofs.lemmas.Option.{same_Some, none-some}
use Rattle.psos_table.specs.Table.{at}
use Rattle.psos_table.proofs.Tables.{at-empty}
use Rattle.psos_caps.specs.Capability.{Capability, full, restricted}
use Rattle.psos_text.specs.declared.name.Name.{Name}
use Rattle.psos_words.specs.declared.word.Word.{Word}
use Rattle.psos_words.specs.declared.word.Word.TheVariants.{Cap}
use Rattle.psos_words.specs.Words.{word_at}
use Rattle.psos_words.specs.Guard.{has_bit}
use Rattle.psos_calls.specs.declared.request.Request.TheVariants.{Restrict}
use Rattle.psos_calls.specs.declared.code_row.CodeRow.{CodeRow}
use Rattle.psos_calls.specs.Language.Script.{Script, UserScript, IsWellFormed, requests_of, user_script}
use Rattle.psos_calls.specs.Language.User.{User}
use Rattle.psos_model.specs.declared.place.Place.{Place}
use Rattle.psos_model.specs.declared.place.Place.TheVariants.{Reg, FrameReg, PathAt, SegWord, DirName, BoxAt, Link, ImplOf}
use Rattle.psos_model.specs.Flat.{Flat, Segment, Directory, Named, named}
use Rattle.psos_model.specs.Flat.Places.{cap_in, own_cap, rep_cap, cap_at, is_own, same_place}
use Rattle.psos_model.specs.Flat.Changes.{kept_entry}
use Rattle.psos_model.specs.Answer.Outcomes.{own}
use Rattle.psos_model.specs.Answer.{answer}
use Rattle.psos_model.specs.Flat.Boot.{boot, boot_user, boot_users, boot_regs, process_of, home_rep_of, scratch_of}
use Rattle.psos_laws.specs.Landings.{Landing, lands, found}
use Rattle.psos_laws.specs.History.{Transition, transition_by}
use Rattle.psos_laws.specs.Laws.{all_but_bit_0, AProcessIsConfined}
use Rattle.psos_laws.proofs.StepLaws.{Step}
use Rattle.psos_laws.proofs.AnswerSteps.{transition_of, answer_steps}
use Rattle.psos_laws.proofs.PlaceGuards.{Came, came}
use Rattle.psos_laws.proofs.BootSoundness.{boot_start}
use Rattle.psos_laws.proofs.BootSoundUsers.{boot_user_is}
use Rattle.psos_laws.proofs.BootSoundPlaces.{IsBootRow, RootRow, HomeRow, directory_row, segment_row, box_row, home_entry, root_has, no_cap, by_row, by_entry}

-- ---- where the capability on the first process lies at boot

the_uid : (a c : Capability) → Some a ≡ Some c → a.uid ≡ c.uid
the_uid a c e = ap (λ (c : Capability). c.uid) (same_Some a c e)

in_reg : (u i : ℕ) (c : Capability) → cap_in (word_at (boot_regs u) i) ≡ Some c → c.uid ≡ process_of 0 → Reg u i ≡ Reg 0 1
in_reg u zero c e same = absurd (omega (arith, the_uid _ c e, same))
in_reg u (suc zero) c e same =
    let first : u ≡ 0 = omega (arith, the_uid _ c e, same) in
    ap (λ v. Reg v 1) first
in_reg u (suc (suc zero)) c e same = absurd (omega (arith, the_uid _ c e, same))
in_reg u (suc (suc (suc zero))) c e same = absurd (omega (arith, the_uid _ c e, same))
in_reg u (suc (suc (suc (suc i)))) c e same = no_cap 12 i c e

in_path : (u : ℕ) (text : UserScript) (i : ℕ) (c : Capability) → slice_get (boot_user u text).path i ≡ Some c → c.uid ≡ process_of 0 → ⊥
in_path u text zero c e same = omega (arith, the_uid _ c e, same)
in_path u text (suc zero) c e same = omega (arith, the_uid _ c e, same)
in_path u text (suc (suc i)) c e same = none-some c e

-- of a user's own part
in_own : (s : Script) (u : ℕ) (p q : Place) (c : Capability) → option_and_then (λ (x : User). own_cap x p) (slice_get (boot s).users u) ≡ Some c
    → ((text : UserScript) → own_cap (boot_user u text) p ≡ Some c → p ≡ q) → p ≡ q
in_own s u p q c e go = by_row (λ (x : User). own_cap x p) (slice_get (boot s).users u) c e (λ x there is.
    let h = boot_user_is s u x there in
    go h.text (ap (λ (x : User). own_cap x p) h.is ∙ is))

in_entry : (s : Script) (v : ℕ) (name : Name) (d : Directory) (c : Capability) → IsBootRow s v d → option_map (λ (e : Named). e.cap) (named d name) ≡ Some c → c.uid ≡ process_of 0 → ⊥
in_entry s v name d c (RootRow at-is row) is same = by_entry (named d name) c is (λ e entry cap. root_has name e (ap (λ (d : Directory). named d name) row ∙ entry))
in_entry s v name d c (HomeRow i h at-is row) is same = by_entry (named d name) c is (λ e entry cap.
    let one = home_entry i name e (ap (λ (d : Directory). named d name) row ∙ entry) in
    let uid : (kept_entry (scratch_of i)).cap.uid ≡ c.uid = ap (λ (e : Named). e.cap.uid) one.0 ∙ ap (λ (c : Capability). c.uid) cap in
    omega (arith, uid, same))

in_rep : (s : Script) (v : ℕ) (d : Directory) → IsBootRow s v d → d.rep ≡ process_of 0 → ⊥
in_rep s v d (RootRow at-is row) same =
    let rep : 2 ≡ d.rep = ap (λ (d : Directory). d.rep) row in
    omega (arith, rep, same)
in_rep s v d (HomeRow i h at-is row) same =
    let rep : home_rep_of i ≡ d.rep = ap (λ (d : Directory). d.rep) row in
    omega (arith, rep, same)

in_impl : (s : Script) (v : ℕ) (c : Capability) → rep_cap (at (boot s).objects v) (at (boot s).dirs v) ≡ Some c → c.uid ≡ process_of 0 → ⊥
in_impl s v c e same = by_dir (at (boot s).dirs v) refl (sym (ap (λ o. rep_cap o (at (boot s).dirs v)) none) ∙ e)
  where
    none : at (boot s).objects v ≡ None
    none = at-empty v

    by_dir : (o : Option Directory) → at (boot s).dirs v ≡ o → rep_cap None o ≡ Some c → ⊥
    by_dir None there e = none-some c e
    by_dir (Some d) there e = in_rep s v d (directory_row s v d there) (the_uid (full d.rep) c e ∙ same)

-- its user's register alone has it
lies_in_r1 : (s : Script) (p : Place) (c : Capability) → cap_at (boot s) p ≡ Some c → c.uid ≡ process_of 0 → p ≡ Reg 0 1
lies_in_r1 s (Reg u i) c e same = in_own s u (Reg u i) (Reg 0 1) c e (λ text is. in_reg u i c is same)
lies_in_r1 s (FrameReg u depth i) c e same = in_own s u (FrameReg u depth i) (Reg 0 1) c e (λ text is. absurd (none-some c is))
lies_in_r1 s (PathAt u i) c e same = in_own s u (PathAt u i) (Reg 0 1) c e (λ text is. absurd (in_path u text i c is same))
lies_in_r1 s (SegWord v i) c e same = by_row (λ (x : Segment). cap_in (word_at x.words i)) (at (boot s).segments v.0) c e (λ x there is.
    no_cap 64 i c (ap (λ (x : Segment). cap_in (word_at x.words i)) (segment_row s v.0 x there) ∙ is))
lies_in_r1 s (DirName v name) c e same = by_row (λ (d : Directory). option_map (λ (e : Named). e.cap) (named d name)) (at (boot s).dirs v.0) c e (λ d there is.
    absurd (in_entry s v.0 name d c (directory_row s v.0 d there) is same))
lies_in_r1 s (BoxAt v i) c e same = by_row (λ (box : List Word). cap_in (word_at box i)) (at (boot s).boxes v.0) c e (λ box there is.
    no_cap 0 i c (ap (λ (box : List Word). cap_in (word_at box i)) (box_row s v.0 box there) ∙ is))
lies_in_r1 s (Link v) c e same = by_row (λ (code : CodeRow). cap_in code.link) (at (boot s).codes v.0) c e (λ code there is. absurd (none-some code (sym (at-empty v.0) ∙ there)))
lies_in_r1 s (ImplOf v) c e same = absurd (in_impl s v.0 c e same)

-- ---- what the first request leaves

-- the capability on the process without bit 0, in the register where it was
the_landing : Landing
the_landing = lands (Reg 0 1) (Cap (restricted (full (process_of 0)) 0xfffe)) (own (Reg 0 1))

first_user : (users : List UserScript) → 1 ≤ length users → (text : UserScript) × (slice_get (boot_users 0 users) 0 ≡ Some (boot_user 0 text))
first_user [] some = absurd (omega (arith, some))
first_user (text ∷ users) some = (text, refl)

abbrev TheTransition : Script → Transition
TheTransition s = record { flat = boot s; user = 0; landings = the_landing ∷ []; moved = λ p. p }

is_the_transition : (s : Script) → IsWellFormed s → slice_get (requests_of (user_script s 0)) 0 ≡ Some (Restrict 1 1 all_but_bit_0) → transition_of s (boot s) 0 (slice_get (boot s).users 0) ≡ TheTransition s
unfolding the_landing
is_the_transition s formed asked =
    let first = first_user s.users formed.some_users in
    ap (transition_of s (boot s) 0) first.1 ∙ ap (transition_by s (boot s) 0 (boot_user 0 first.0)) asked

found_one : (l k : Landing) (p : Place) → found (l ∷ []) p ≡ Some k → l ≡ k
found_one l k p e = by_test (same_place p l.place) e
  where
    by_test : (b : Bool) → cond b (Some l) None ≡ Some k → l ≡ k
    by_test true e = same_Some l k e
    by_test false e = absurd (none-some k e)

module _ (s : Script) (g : Flat) (st : Step (boot s) g 0 (the_landing ∷ []) (λ p. p)) (p : Place) (c : Capability) where
  abbrev Kept : Type 0
  Kept = (is_own p 0 ≡ true) × (has_bit c.rights 0 ≡ false)

  landed_here : Came (boot s) g.next 0 (the_landing ∷ []) p c → Kept
  unfolding the_landing
  landed_here h =
      let one = found_one the_landing h.landing p h.is in
      let place : p ≡ Reg 0 1 = h.here ∙ sym (ap (λ (l : Landing). l.place) one) in
      let word : Cap (restricted (full (process_of 0)) 0xfffe) ≡ Cap c = ap (λ (l : Landing). l.word) one ∙ h.word in
      let cap : restricted (full (process_of 0)) 0xfffe ≡ c = same_Some _ c (ap cap_in word) in
      (ap (λ p. is_own p 0) place, ap (λ (c : Capability). has_bit c.rights 0) (sym cap))

  lay_here : found (the_landing ∷ []) p ≡ None → cap_at (boot s) p ≡ Some c → c.uid ≡ process_of 0 → Kept
  unfolding the_landing
  lay_here not there same = absurd (none-some the_landing (sym (subst (λ p. found (the_landing ∷ []) p ≡ None) (lies_in_r1 s p c there same) not)))

  kept_by_step : cap_at g p ≡ Some c → c.uid ≡ process_of 0 → Kept
  kept_by_step e same = elim (came (boot s) g 0 (the_landing ∷ []) (λ p. p) st p c e) [
    | inl h ↦ landed_here h
    | inr h ↦ lay_here h.0 h.1 same
  ]

pub a_process_is_confined : AProcessIsConfined
a_process_is_confined s formed asked =
    let g = (answer s (boot s) 0).0 in
    let P : Transition → Type 0 = λ e. Step (boot s) g 0 e.landings e.moved in
    let st : P (TheTransition s) = subst P (is_the_transition s formed asked) (answer_steps s (boot s) 0 (boot_start s formed).sound) in
    record {
      below = omega (arith, st.later, formed.some_users);
      kept = λ p c e same bit wanted has. kept_by_step s g st p c e same;
    }
