-- What identifiers lead to, at level 8 and in the flat state.
use Rattle.std.proofs.Common.{◌≡◌, ℕ, ◌+◌, ◌≤◌, Option, Some, None, List, [], ◌∷◌, length, refl, sym, subst, ap, ◌∙◌, inl, inr, Bool, true, false, arith}
use Rattle.std.specs.Prelude.{slice_get}
use Rattle.std.specs.Option.{option_map, option_or, option_and_then}
use Rattle.std.proofs.lemmas.Option.{same_Some, none-some}
use Rattle.std.proofs.lemmas.Bool.{false≢true, eq-eqb}
use Rattle.psos_limits.specs.declared.TheConstants.{MOST_WORDS}
use Rattle.psos_caps.specs.Capability.{Capability}
use Rattle.psos_caps.specs.declared.rights.Rights.{Rights}
use Rattle.psos_table.specs.Table.{Table, at}
use Rattle.psos_words.specs.declared.word.Word.{Word}
use Rattle.psos_words.specs.declared.word.Word.TheVariants.{Cap}
use Rattle.psos_words.specs.Words.{word_at}
use Rattle.psos_calls.specs.declared.frame.Frame.{Frame}
use Rattle.psos_calls.specs.declared.seg_row.SegRow.{SegRow}
use Rattle.psos_calls.specs.declared.win_row.WinRow.{WinRow}
use Rattle.psos_calls.specs.Language.Script.{Script}
use Rattle.psos_calls.specs.Language.User.{User, here}
use Rattle.psos_calls.specs.Levels.Level8.{view, shape_of, shapes}
use Rattle.psos_calls.specs.Language.Views.{Shape, View, whole, through}
use Rattle.psos_model.specs.declared.place.Place.{Place}
use Rattle.psos_model.specs.declared.place.Place.TheVariants.{ImplOf}
use Rattle.psos_model.specs.Flat.{Flat, Segment, Directory, flat_view, flat_shape, flat_shapes}
use Rattle.psos_model.specs.Flat.Places.{cap_at, cap_in, reg_place}
use Rattle.psos_model.specs.Replay.{System}
use Rattle.psos_model.specs.Sound.{IsSound}
use Rattle.psos_model.specs.Replay.StandsFor.{StandsFor}

-- ---- a capability in a register

-- the register that a request names is a place of its user, with what the user finds there
reg_held : (f : Flat) (u : ℕ) (x : User) (frames : List Frame) (own : List Word) (i : ℕ) (c : Capability) → slice_get f.users u ≡ Some x → x.number ≡ u → x.frames ≡ frames
    → word_at (here x) i ≡ Cap c → cap_at f (reg_place x frames i) ≡ Some c
reg_held f u x [] own i c is number bare e =
    rw (number, is) (ap (λ (qs : List Frame). cap_in (word_at (here (record x { frames = qs })) i)) (sym bare) ∙ ap cap_in e)
reg_held f u x (q ∷ outer) own i c is number bare e =
    rw (number, is, bare, eq-eqb (length outer) (length outer) refl) (ap (λ (qs : List Frame). cap_in (word_at (here (record x { frames = qs })) i)) (sym bare) ∙ ap cap_in e)

-- no live directory is represented by it
abbrev pub IsSeen : Flat → ℕ → Type 0
IsSeen f u = (d : ℕ) (row : Directory) → at f.dirs d ≡ Some row → u ≡ row.rep → ⊥

abbrev is_rep : Place → Bool
is_rep (ImplOf d) = true
is_rep _ = false

reg_is_no_rep : (x : User) (frames : List Frame) (i d : ℕ) → reg_place x frames i ≡ ImplOf (record { 0 = d }) → ⊥
reg_is_no_rep x [] i d e = absurd (false≢true (ap is_rep e))
reg_is_no_rep x (q ∷ outer) i d e = absurd (false≢true (ap is_rep e))

pub reg_seen : (s : Script) (f : Flat) (u : ℕ) (x : User) (i : ℕ) (c : Capability) → IsSound s f → slice_get f.users u ≡ Some x → word_at (here x) i ≡ Cap c → IsSeen f c.uid
reg_seen s f u x i c sound is e d row live rep =
    reg_is_no_rep x x.frames i d (sound.hidden d row live (reg_place x x.frames i) c (reg_held f u x x.frames x.regs i c is (sound.users u x is).number refl e) rep)

-- ---- the shapes of segments

same_rights : (a b : Rights) → a.0 ≡ b.0 → a ≡ b
same_rights a b e = ap (λ (n : ℕ). (let r : Rights = record { 0 = n } in r)) e

same_shape : (r : SegRow) (s : Segment) → r.len ≡ length s.words → r.guard.0 ≡ s.guard.0 → shape_of r ≡ flat_shape s
same_shape r s len guard = ap (λ (n : ℕ). (let a : Shape = record { len = n; guard = r.guard } in a)) len ∙ ap (λ (g : Rights). (let a : Shape = record { len = length s.words; guard = g } in a)) (same_rights r.guard s.guard guard)

module _ {y : System} {f : Flat} (h : StandsFor y f) where
  -- a flat segment has its shape at level 8
  live_shape : (u : ℕ) (s : Segment) → at f.segments u ≡ Some s → shapes y.levels.segs u ≡ Some (flat_shape s)
  live_shape u s is =
      let live = h.segments u s is in
      ap (option_map shape_of) live.1 ∙ ap (λ (a : Shape). Some a) (same_shape live.0 s live.2 live.3)

  row_absent : (u : ℕ) → at f.segments u ≡ None → IsSeen f u → (o : Option SegRow) → at y.levels.segs.segments u ≡ o → o ≡ None
  row_absent u is seen None e = refl
  row_absent u is seen (Some r) e = elim (h.no_other u r e) [
    | inl flat ↦ absurd (none-some flat.0 (sym is ∙ flat.1))
    | inr rep ↦ absurd (seen rep.0 rep.1.0 rep.1.1 (sym rep.1.2))
  ]

  -- what is no flat segment and represents no directory is no segment of level 8
  pub no_row : (u : ℕ) → at f.segments u ≡ None → IsSeen f u → at y.levels.segs.segments u ≡ None
  no_row u is seen = row_absent u is seen (at y.levels.segs.segments u) refl

  shapes_by : (u : ℕ) → IsSeen f u → (o : Option Segment) → at f.segments u ≡ o → shapes y.levels.segs u ≡ option_map flat_shape o
  shapes_by u seen None is = ap (option_map shape_of) (no_row u is seen)
  shapes_by u seen (Some s) is = live_shape u s is

  same_shapes : (u : ℕ) → IsSeen f u → shapes y.levels.segs u ≡ flat_shapes f u
  same_shapes u seen = shapes_by u seen (at f.segments u) refl

  window_alike : (s : Script) → IsSound s f → (u : ℕ) (o : Option WinRow) → at f.windows u ≡ o
      → option_and_then (λ (w : WinRow). option_map (through w) (shapes y.levels.segs w.seg.0)) o ≡ option_and_then (λ (w : WinRow). option_map (through w) (flat_shapes f w.seg.0)) o
  window_alike s sound u None is = refl
  window_alike s sound u (Some w) is =
      let good = sound.windows u w is in
      ap (option_map (through w)) (live_shape w.seg.0 good.under good.live ∙ sym (ap (option_map flat_shape) good.live))

  -- an identifier leads to the same words at level 8 and in the flat state
  pub same_view : (s : Script) → IsSound s f → (u : ℕ) → IsSeen f u → view y.levels.segs u ≡ flat_view f u
  same_view s sound u seen =
      ap (λ (a : Option Shape). option_or (option_map (whole u) a) (option_and_then (λ (w : WinRow). option_map (through w) (shapes y.levels.segs w.seg.0)) (at y.levels.segs.windows u))) (same_shapes u seen)
      ∙ ap (λ (t : Table WinRow). option_or (option_map (whole u) (flat_shapes f u)) (option_and_then (λ (w : WinRow). option_map (through w) (shapes y.levels.segs w.seg.0)) (at t u))) h.windows
      ∙ ap (λ (v : Option View). option_or (option_map (whole u) (flat_shapes f u)) v) (window_alike s sound u (at f.windows u) refl)

-- ---- what a view is

-- a view lies within a live segment of at most 512 words
pub record IsWithin (f : Flat) (v : View) : Type 0 where
  pub segment : Segment
  pub live : at f.segments v.seg ≡ Some segment
  pub fits : v.base + v.len ≤ length segment.words
  pub few : length segment.words ≤ MOST_WORDS

module _ {s : Script} {f : Flat} (sound : IsSound s f) where
  window_within : (w : WinRow) (t : Segment) → at f.segments w.seg.0 ≡ Some t → w.base + w.len ≤ length t.words
      → (o : Option Segment) → at f.segments w.seg.0 ≡ o → (v : View) → option_map (through w) (option_map flat_shape o) ≡ Some v → IsWithin f v
  window_within w t live fits None is v e = absurd (none-some v e)
  window_within w t live fits (Some r) is v e =
      let it : through w (flat_shape r) ≡ v = same_Some _ _ e in
      subst (IsWithin f) it (record { segment = t; live = live; fits = fits; few = (sound.segments w.seg.0 t live).few })

  within_by : (u : ℕ) (so : Option Segment) → at f.segments u ≡ so → (wo : Option WinRow) → at f.windows u ≡ wo
      → (v : View) → option_or (option_map (whole u) (option_map flat_shape so)) (option_and_then (λ (w : WinRow). option_map (through w) (flat_shapes f w.seg.0)) wo) ≡ Some v → IsWithin f v
  within_by u (Some t) is_s wo is_w v e =
      let it : whole u (flat_shape t) ≡ v = same_Some _ _ e in
      subst (IsWithin f) it (record { segment = t; live = is_s; fits = omega arith; few = (sound.segments u t is_s).few })
  within_by u None is_s None is_w v e = absurd (none-some v e)
  within_by u None is_s (Some w) is_w v e =
      let good = sound.windows u w is_w in
      window_within w good.under good.live good.within (at f.segments w.seg.0) refl v e

  pub view_within : (u : ℕ) (v : View) → flat_view f u ≡ Some v → IsWithin f v
  view_within u v e = within_by u (at f.segments u) refl (at f.windows u) refl v e
