-- What an answer leaves of the open bodies but the innermost, and that this is kept.
use Rattle.std.proofs.Common.{◌≡◌, ℕ, zero, suc, ◌+◌, ◌-◌, ◌*◌, ◌<◌, inl, inr, Bool, true, false, cond, List, [], ◌∷◌, length, slice_get, slice_set, Some, refl, sym, ap, subst, ◌∙◌, arith}
use Rattle.std.specs.Prelude.{⊤, slice_index_or}
use Rattle.std.proofs.lemmas.Bool.{cases_eq, eq-eqb, ne_eqb}
use Rattle.std.proofs.lemmas.List.{get_or-set_other}
use Rattle.std.proofs.lemmas.Grind.{get_or-set_at}
use Rattle.std.proofs.lemmas.Option.{same_Some, none-some, slice_get_within}
use Rattle.psos_words.specs.declared.word.Word.{Word}
use Rattle.psos_words.specs.Words.{word_at}
use Rattle.psos_calls.specs.declared.frame.Frame.{Frame}
use Rattle.psos_calls.specs.declared.effect.Effect.{Effect}
use Rattle.psos_calls.specs.declared.effect.Effect.TheVariants.{Nothing, Put, Push, Enter}
use Rattle.psos_calls.specs.Language.Script.{Script}
use Rattle.psos_calls.specs.Language.User.{User, regs_in, here, counted, with_reg, settled, outward, ended, after}
use Rattle.psos_model.specs.Flat.Places.{frame_at}
use Rattle.psos_laws.specs.Landings.{is_over}
use Rattle.psos_laws.specs.Arrivals.{AreFull, AreCallers}
use Rattle.psos_laws.proofs.OwnArrivals.{closing}
use Rattle.psos_laws.proofs.UnchangedPlaces.{set_here, set_apart}

-- ---- bodies by their depth

frame_below : (frames : List Frame) (d : ℕ) (q : Frame) → frame_at frames d ≡ Some q → d < length frames
frame_below [] d q e = absurd (none-some q e)
frame_below (r ∷ outer) d q e = elim (cases_eq d (length outer)) [
  | inl same ↦ omega (arith, same)
  | inr apart ↦
      let rest = frame_below outer d q (sym (ap (λ b. cond b (Some r) (frame_at outer d)) (ne_eqb d (length outer) apart)) ∙ e) in
      omega (arith, rest)
]

-- below the innermost, what is there is there without it
outer_at : (r : Frame) (outer : List Frame) (d : ℕ) → d < length outer → frame_at (r ∷ outer) d ≡ frame_at outer d
outer_at r outer d below = ap (λ b. cond b (Some r) (frame_at outer d)) (ne_eqb d (length outer) (λ e. omega (arith, e, below)))

-- the innermost
inner_at : (r : Frame) (outer : List Frame) (d : ℕ) → d ≡ length outer → frame_at (r ∷ outer) d ≡ Some r
inner_at r outer d e = ap (λ b. cond b (Some r) (frame_at outer d)) (eq-eqb d (length outer) e)

pub record HasRegs (frames : List Frame) (d : ℕ) (regs : List Word) : Type 0 where
  pub row : Frame
  pub there : frame_at frames d ≡ Some row
  pub same : row.regs ≡ regs

-- these bodies are there, with the same registers
pub record AreIn (a frames : List Frame) : Type 0 where
  pub each : (d : ℕ) (q : Frame) → frame_at frames d ≡ Some q → HasRegs a d q.regs

are_all : (a : List Frame) → AreIn a a
are_all a = record { each = λ d q e. record { row = q; there = e; same = refl } }

are_outer : (a : List Frame) (r : Frame) (outer : List Frame) → AreIn a (r ∷ outer) → AreIn a outer
are_outer a r outer h = record { each = λ d q e. h.each d q (outer_at r outer d (frame_below outer d q e) ∙ e) }

-- the innermost one is another, with the same registers
are_line : (r t : Frame) (outer : List Frame) → r.regs ≡ t.regs → AreIn (r ∷ outer) (t ∷ outer)
are_line r t outer regs = record {
  each = λ d q e. elim (cases_eq d (length outer)) [
    | inl same ↦ record { row = r; there = inner_at r outer d same; same = regs ∙ ap (λ (k : Frame). k.regs) (same_Some t q (sym (inner_at t outer d same) ∙ e)) }
    | inr apart ↦
        let below : d < length outer = frame_below outer d q (sym (ap (λ b. cond b (Some t) (frame_at outer d)) (ne_eqb d (length outer) apart)) ∙ e) in
        record { row = q; there = outer_at r outer d below ∙ (sym (outer_at t outer d below) ∙ e); same = refl }
  ];
}

-- all but the innermost are there
abbrev pub AreBelow : List Frame → List Frame → Type 0
AreBelow a [] = ⊤
AreBelow a (r ∷ outer) = AreIn a outer

below_of : (a frames : List Frame) → AreIn a frames → AreBelow a frames
below_of a [] h = tt
below_of a (r ∷ outer) h = are_outer a r outer h

-- ---- an answer

counted_in : (x : User) (frames : List Frame) → x.frames ≡ frames → AreIn x.frames (counted x frames).frames
counted_in x [] is = are_all x.frames
counted_in x (q ∷ outer) is = subst (λ a. AreIn a (record q { line = q.line + 1 } ∷ outer)) (sym is) (are_line q (record q { line = q.line + 1 }) outer refl)

put_in : (a : List Frame) (y : User) (frames : List Frame) (i : ℕ) (w : Word) → y.frames ≡ frames → AreIn a y.frames → AreBelow a (with_reg y frames i w).frames
put_in a y [] i w is h = below_of a y.frames h
put_in a y (q ∷ outer) i w is h = are_outer a q outer (subst (AreIn a) is h)

settled_in : (a : List Frame) (y : User) (e : Effect) → AreIn a y.frames → AreBelow a (settled y e).frames
settled_in a y Nothing h = below_of a y.frames h
settled_in a y (Put i w) h = put_in a y y.frames i w refl h
settled_in a y (Push c) h = below_of a y.frames h
settled_in a y (Enter label link) h = h

outward_in : (a : List Frame) (s : Script) (x : User) (frames : List Frame) (w : Word) → AreIn a frames → AreBelow a (outward s x frames w).frames
outward_in a s x [] w h = tt
outward_in a s x (q ∷ outer) w h = by_end (is_over s q) (outward_in a s x outer w (are_outer a q outer h))
  where
    by_end : (t : Bool) → AreBelow a (outward s x outer w).frames → AreBelow a (cond t (outward s x outer w) (record x { frames = record q { regs = slice_set q.regs 4 w } ∷ outer })).frames
    by_end true rest = rest
    by_end false rest = are_outer a q outer h

ended_in : (a : List Frame) (s : Script) (z : User) (frames : List Frame) → z.frames ≡ frames → AreBelow a z.frames → AreBelow a (ended s z frames).frames
ended_in a s z [] is h = h
ended_in a s z (q ∷ outer) is h = by_end (is_over s q)
  where
    by_end : (t : Bool) → AreBelow a (cond t (outward s z outer (word_at q.regs 4)) z).frames
    by_end true = outward_in a s z outer (word_at q.regs 4) (subst (AreBelow a) is h)
    by_end false = h

pub after_in : (s : Script) (x : User) (e : Effect) → AreBelow x.frames (after s x e).frames
after_in s x e =
    let z = closing x e in
    ended_in x.frames s z z.frames refl (settled_in x.frames (counted x x.frames) e (counted_in x x.frames refl))

regs_below : (a frames : List Frame) (d : ℕ) (q : Frame) → AreBelow a frames → frame_at frames d ≡ Some q → d + 1 < length frames → HasRegs a d q.regs
regs_below a [] d q h e below = absurd (none-some q e)
regs_below a (r ∷ outer) d q h e below = h.each d q (sym (outer_at r outer d (omega (arith, below))) ∙ e)

here_is : (frames : List Frame) (own : List Word) (d : ℕ) (q : Frame) → frame_at frames d ≡ Some q → d + 1 ≡ length frames → regs_in frames own ≡ q.regs
here_is [] own d q e last = absurd (none-some q e)
here_is (r ∷ outer) own d q e last = ap (λ (k : Frame). k.regs) (same_Some r q (sym (inner_at r outer d (omega (arith, last))) ∙ e))

-- ---- what is kept

-- the registers that were named before an answer are kept, where a body was open
pub record Keeps (u bodies : ℕ) (caller : List Word) (old new : List (List Word)) : Type 0 where
  pub outside : bodies ≡ 0 → new ≡ old
  pub inside : 0 < bodies → new ≡ slice_set old (4 * u + (bodies - 1)) caller

module _ (users : List User) (u : ℕ) (caller : List Word) (old new : List (List Word)) (x : User) (keeps : Keeps u (length x.frames) caller old new)
    (here-is : (i : ℕ) → i < 16 → word_at caller i ≡ word_at (here x) i) (room : length old ≡ 32) (full : AreFull users) (there : slice_get users u ≡ Some x) where
  -- other users' are as they were
  apart : (v d : ℕ) → (v ≡ u → ⊥) → d < 4 → slice_index_or new (4 * v + d) [] ≡ slice_index_or old (4 * v + d) []
  apart v d other low = by_bodies (length x.frames) refl
    where
      by_bodies : (n : ℕ) → length x.frames ≡ n → slice_index_or new (4 * v + d) [] ≡ slice_index_or old (4 * v + d) []
      by_bodies zero e = ap (λ (ws : List (List Word)). slice_index_or ws (4 * v + d) []) (keeps.outside e)
      by_bodies (suc n) e =
          let few = (full.each u x there).few in
          ap (λ (ws : List (List Word)). slice_index_or ws (4 * v + d) []) (keeps.inside (omega (arith, e)))
          ∙ get_or-set_other old (4 * u + (length x.frames - 1)) (4 * v + d) caller [] (λ same. other (omega (arith, same, few, low, e)))

  module _ (y : User) (below : AreBelow x.frames y.frames) (are : AreCallers users old) where
    own : (d : ℕ) (q : Frame) → frame_at y.frames d ≡ Some q → d + 1 < length y.frames → (i : ℕ) → i < 16 → word_at (slice_index_or new (4 * u + d) []) i ≡ word_at q.regs i
    own d q there-q inner i low =
        let has = regs_below x.frames y.frames d q below there-q inner in
        let under = frame_below x.frames d has.row has.there in
        let few = (full.each u x there).few in
        let eight = full.few in
        let user = slice_get_within users u x there in
        ap (λ (ws : List (List Word)). word_at (slice_index_or ws (4 * u + d) []) i) (keeps.inside (omega (arith, under)))
        ∙ elim (cases_eq (d + 1) (length x.frames)) [
          | inl last ↦
              ap (λ (ws : List Word). word_at ws i) (get_or-set_at old (4 * u + (length x.frames - 1)) (4 * u + d) caller [] (omega (arith, last)) (omega (arith, user, few, eight, room, under)))
              ∙ (here-is i low ∙ ap (λ (ws : List Word). word_at ws i) (here_is x.frames x.regs d has.row has.there last ∙ has.same))
          | inr more ↦
              ap (λ (ws : List Word). word_at ws i) (get_or-set_other old (4 * u + (length x.frames - 1)) (4 * u + d) caller [] (λ e. more (omega (arith, e, under))))
              ∙ (are u d x has.row there has.there (omega (arith, under, more)) i low ∙ ap (λ (ws : List Word). word_at ws i) has.same)
        ]

    pub callers_kept : AreCallers (slice_set users u y) new
    callers_kept v d z q there-z there-q inner i low = elim (cases_eq v u) [
      | inl same ↦
          let is : y ≡ z = same_Some y z (sym (set_here users u y x there) ∙ (ap (slice_get (slice_set users u y)) (sym same) ∙ there-z)) in
          ap (λ (k : ℕ). word_at (slice_index_or new (4 * k + d) []) i) same
          ∙ own d q (ap (λ (k : User). frame_at k.frames d) is ∙ there-q) (subst (λ (k : User). d + 1 < length k.frames) (sym is) inner) i low
      | inr other ↦
          let was : slice_get users v ≡ Some z = sym (set_apart users u v y other) ∙ there-z in
          let few = (full.each v z was).few in
          ap (λ (ws : List Word). word_at ws i) (apart v d other (omega (arith, inner, few))) ∙ are v d z q was there-q inner i low
    ]
