-- At a place of a user's own part that is there, what lands last is what is there.
use Rattle.std.proofs.Common.{◌≡◌, ℕ, zero, suc, ◌+◌, ◌<◌, ◌≤◌, ◌==◌, ◌&&◌, Bool, true, false, cond, List, [], ◌∷◌, ◌++◌, length, slice_get, slice_set, Option, Some, None, option_and_then, refl, sym, ap, subst, ◌∙◌, inl, inr, arith, get_or-set_same, get_or-set_other}
use Rattle.std.proofs.lemmas.List.{length-set}
use Rattle.std.proofs.lemmas.Option.{none-some}
use Rattle.std.proofs.lemmas.Bool.{eqb-true, ne_eqb, cases_eq}
use Rattle.psos_caps.specs.Capability.{Capability}
use Rattle.psos_words.specs.declared.word.Word.{Word}
use Rattle.psos_words.specs.declared.word.Word.TheVariants.{Data}
use Rattle.psos_words.specs.Words.{word_at, zeros}
use Rattle.psos_calls.specs.declared.frame.Frame.{Frame}
use Rattle.psos_calls.specs.declared.effect.Effect.{Effect}
use Rattle.psos_calls.specs.declared.effect.Effect.TheVariants.{Nothing, Put, Push, Enter}
use Rattle.psos_calls.specs.Language.Script.{Script}
use Rattle.psos_calls.specs.Language.User.{User, here, counted, with_reg, entered_regs, settled, outward, ended, after}
use Rattle.psos_model.specs.declared.place.Place.{Place}
use Rattle.psos_model.specs.declared.place.Place.TheVariants.{Reg, FrameReg, PathAt}
use Rattle.psos_model.specs.Flat.Places.{cap_in, own_cap, frame_at, is_own, same_place, reg_place}
use Rattle.psos_model.specs.Answer.Outcomes.{Source}
use Rattle.psos_laws.specs.Landings.{Landing, lands, effect_puts, is_over, outer_place, source_after, end_puts, landed, IsOwnThere}
use Rattle.psos_laws.proofs.Landings.{by_test, got_here, got_apart}
use Rattle.psos_laws.proofs.OwnArrivals.{frame_cap, no_frame, same_puts, same_outer, same_ends, number_counted, closing, number_closing}

-- ---- lists

-- a word of a list with one word set, where that place is in the list
pub set_word : (ws : List Word) (i j : ℕ) (w : Word) → (j ≡ i → i < length ws) → cap_in (word_at (slice_set ws i w) j) ≡ cond (j == i) (cap_in w) (cap_in (word_at ws j))
set_word ws i j w within = by_test (λ b. cap_in (word_at (slice_set ws i w) j) ≡ cond b (cap_in w) (cap_in (word_at ws j))) j i
    (λ same. ap (λ (k : ℕ). cap_in (word_at (slice_set ws i w) k)) same ∙ ap cap_in (get_or-set_same ws i w (Data 0) (within same)))
    (λ other. ap cap_in (get_or-set_other ws i j w (Data 0) other))

pub set_there : (ws : List Word) (i j : ℕ) (w : Word) → j < length (slice_set ws i w) → cap_in (word_at (slice_set ws i w) j) ≡ cond (j == i) (cap_in w) (cap_in (word_at ws j))
set_there ws i j w there = set_word ws i j w (λ same. omega (arith, same, there, length-set ws i w))

zeros_cap : (n j : ℕ) → cap_in (word_at (zeros n) j) ≡ None
zeros_cap zero j = refl
zeros_cap (suc n) zero = refl
zeros_cap (suc n) (suc j) = zeros_cap n j

pushed : (xs : List Capability) (x : Capability) (j : ℕ) → slice_get (xs ++ (x ∷ [])) j ≡ cond (j == length xs) (Some x) (slice_get xs j)
pushed xs x j = by_test (λ b. slice_get (xs ++ (x ∷ [])) j ≡ cond b (Some x) (slice_get xs j)) j (length xs)
    (λ same. ap (slice_get (xs ++ (x ∷ []))) same ∙ got_here xs x) (λ other. got_apart xs x j other)

-- ---- frames

frame_depth : (frames : List Frame) (d : ℕ) (q : Frame) → frame_at frames d ≡ Some q → d < length frames
frame_depth [] d q e = absurd (none-some q e)
frame_depth (r ∷ outer) d q e = elim (cases_eq d (length outer)) [
  | inl same ↦ omega (arith, same)
  | inr apart ↦ omega (arith, frame_depth outer d q (sym (ap (λ b. cond b (Some r) (frame_at outer d)) (ne_eqb d (length outer) apart)) ∙ e))
]

-- a frame that is there is there with one more inside of it
still_frame : (q : Frame) (outer : List Frame) (d : ℕ) (r : Frame) → frame_at outer d ≡ Some r → frame_at (q ∷ outer) d ≡ frame_at outer d
still_frame q outer d r e =
    let deep = frame_depth outer d r e in
    ap (λ b. cond b (Some q) (frame_at outer d)) (ne_eqb d (length outer) (λ same. omega (arith, same, deep)))

-- ---- one register

abbrev option_length : Option Frame → ℕ → Type 0
option_length None j = ⊥
option_length (Some r) j = j < length r.regs

module _ (x : User) (i : ℕ) (w : Word) where
  frame_set : (b : Bool) (q : Frame) (o : Option Frame) (j : ℕ) → ((r : Frame) × (cond b (Some (record q { regs = slice_set q.regs i w })) o ≡ Some r) × (j < length r.regs))
      → option_and_then (frame_cap j) (cond b (Some (record q { regs = slice_set q.regs i w })) o) ≡ cond (b && (j == i)) (cap_in w) (option_and_then (frame_cap j) (cond b (Some q) o))
  frame_set true q o j there =
      let within : j < length (slice_set q.regs i w) = subst (λ (r : Option Frame). option_length r j) (sym there.1) there.2 in
      set_there q.regs i j w within
  frame_set false q o j there = refl

  frame_was : (b : Bool) (q : Frame) (o : Option Frame) (j : ℕ) → ((r : Frame) × (cond b (Some (record q { regs = slice_set q.regs i w })) o ≡ Some r) × (j < length r.regs))
      → (r : Frame) × (cond b (Some q) o ≡ Some r) × (j < length r.regs)
  frame_was true q o j there =
      let within : j < length (slice_set q.regs i w) = subst (λ (r : Option Frame). option_length r j) (sym there.1) there.2 in
      (q, refl, omega (arith, within, length-set q.regs i w))
  frame_was false q o j there = there

  reg_set : (frames : List Frame) (p : Place) → is_own p x.number ≡ true → IsOwnThere (with_reg (record x { frames = frames }) frames i w) p
      → own_cap (with_reg (record x { frames = frames }) frames i w) p ≡ cond (same_place p (reg_place (record x { frames = frames }) frames i)) (cap_in w) (own_cap (record x { frames = frames }) p)
  reg_set [] (Reg v j) own there = rw own (set_there x.regs i j w there)
  reg_set (q ∷ outer) (FrameReg v d j) own there = rw own (frame_set (d == length outer) q (frame_at outer d) j there)
  reg_set [] _ own there = refl
  reg_set (q ∷ outer) _ own there = refl

  reg_was : (frames : List Frame) (p : Place) → IsOwnThere (with_reg (record x { frames = frames }) frames i w) p → IsOwnThere (record x { frames = frames }) p
  reg_was [] (Reg v j) there = omega (arith, there, length-set x.regs i w)
  reg_was (q ∷ outer) (FrameReg v d j) there = frame_was (d == length outer) q (frame_at outer d) j there
  reg_was [] _ there = there
  reg_was (q ∷ outer) _ there = there

-- ---- effects

fresh_regs : (r : List Word) (link : Word) (j : ℕ) → cap_in (word_at (entered_regs r link) j)
    ≡ cond (j == 14) (cap_in link) (cond (j == 7) (cap_in (word_at r 7)) (cond (j == 6) (cap_in (word_at r 6)) (cond (j == 5) (cap_in (word_at r 5)) (cond (j == 4) (cap_in (word_at r 4)) None))))
fresh_regs r link j =
    let one = slice_set (zeros 16) 4 (word_at r 4) in
    let two = slice_set one 5 (word_at r 5) in
    let three = slice_set two 6 (word_at r 6) in
    let four = slice_set three 7 (word_at r 7) in
    set_word four 14 j link (λ _. omega arith)
    ∙ ap (cond (j == 14) (cap_in link)) (set_word three 7 j (word_at r 7) (λ _. omega arith)
    ∙ ap (cond (j == 7) (cap_in (word_at r 7))) (set_word two 6 j (word_at r 6) (λ _. omega arith)
    ∙ ap (cond (j == 6) (cap_in (word_at r 6))) (set_word one 5 j (word_at r 5) (λ _. omega arith)
    ∙ ap (cond (j == 5) (cap_in (word_at r 5))) (set_word (zeros 16) 4 j (word_at r 4) (λ _. omega arith)
    ∙ ap (cond (j == 4) (cap_in (word_at r 4))) (zeros_cap 16 j)))))

entered_there : (b : Bool) (r : List Word) (link : Word) (label j : ℕ) (o : Option Frame) → (b ≡ true → o ≡ None)
    → option_and_then (frame_cap j) (cond b (Some (record { regs = entered_regs r link; label = label; line = 0 })) o)
    ≡ cond (b && (j == 14)) (cap_in link) (cond (b && (j == 7)) (cap_in (word_at r 7)) (cond (b && (j == 6)) (cap_in (word_at r 6)) (cond (b && (j == 5)) (cap_in (word_at r 5)) (cond (b && (j == 4)) (cap_in (word_at r 4)) (option_and_then (frame_cap j) o)))))
entered_there true r link label j o none =
    let P : Option Capability → Type 0 = λ z. cap_in (word_at (entered_regs r link) j)
    ≡ cond (j == 14) (cap_in link) (cond (j == 7) (cap_in (word_at r 7)) (cond (j == 6) (cap_in (word_at r 6)) (cond (j == 5) (cap_in (word_at r 5)) (cond (j == 4) (cap_in (word_at r 4)) z)))) in
    subst P (sym (ap (option_and_then (frame_cap j)) (none refl))) (fresh_regs r link j)
entered_there false r link label j o none = refl

settled_there : (x : User) (eff : Effect) (source : Option Source) (p : Place) → is_own p x.number ≡ true → IsOwnThere (settled x eff) p
    → own_cap (settled x eff) p ≡ landed (effect_puts x source eff) p (own_cap x p)
settled_there x Nothing source p own there = refl
settled_there x (Put i w) source p own there = reg_set x i w x.frames p own there
settled_there x (Push cap) source (PathAt v j) own there = rw own (pushed x.path cap j)
settled_there x (Enter label link) source (FrameReg v d j) own there =
    rw own (entered_there (d == length x.frames) (here x) link label j (frame_at x.frames d) (λ same. no_frame x.frames d (at_end same)))
  where
    at_end : (d == length x.frames) ≡ true → length x.frames ≤ d
    at_end same = omega (arith, eqb-true d (length x.frames) same)
settled_there x (Push cap) source _ own there = refl
settled_there x (Enter label link) source _ own there = refl

counted_same : (x : User) (frames : List Frame) (p : Place) → own_cap (counted (record x { frames = frames }) frames) p ≡ own_cap (record x { frames = frames }) p
counted_same x (q ∷ outer) (FrameReg v d j) = by_bool (d == length outer)
  where
    by_bool : (t : Bool) → option_and_then (frame_cap j) (cond t (Some (record q { line = q.line + 1 })) (frame_at outer d)) ≡ option_and_then (frame_cap j) (cond t (Some q) (frame_at outer d))
    by_bool true = refl
    by_bool false = refl
counted_same x [] (FrameReg v d j) = refl
counted_same x [] _ = refl
counted_same x (q ∷ outer) _ = refl

closing_there : (x : User) (eff : Effect) (source : Option Source) (p : Place) → is_own p x.number ≡ true → IsOwnThere (closing x eff) p
    → own_cap (closing x eff) p ≡ landed (effect_puts x source eff) p (own_cap x p)
closing_there x eff source p own there =
    let y = counted x x.frames in
    settled_there y eff source p (ap (is_own p) (number_counted x x.frames) ∙ own) there
    ∙ (ap (λ ls. landed ls p (own_cap y p)) (same_puts x x.frames source eff) ∙ ap (landed (effect_puts x source eff) p) (counted_same x x.frames p))

-- ---- ends of bodies

-- what is there outside of a body is there with the body
inner_was : (x : User) (q : Frame) (outer : List Frame) (p : Place) → IsOwnThere (record x { frames = outer }) p → IsOwnThere (record x { frames = q ∷ outer }) p
inner_was x q outer (FrameReg v d j) there = (there.0, still_frame q outer d there.0 there.1 ∙ there.1, there.2)
inner_was x q outer _ there = there

inner_same : (x : User) (q : Frame) (outer : List Frame) (p : Place) → IsOwnThere (record x { frames = outer }) p → own_cap (record x { frames = outer }) p ≡ own_cap (record x { frames = q ∷ outer }) p
inner_same x q outer (FrameReg v d j) there = ap (option_and_then (frame_cap j)) (sym (still_frame q outer d there.0 there.1))
inner_same x q outer _ there = refl

last_was : (x : User) (w : Word) (p : Place) → IsOwnThere (record x { regs = slice_set x.regs 4 w; frames = [] }) p → IsOwnThere (record x { frames = [] }) p
last_was x w (Reg v j) there = omega (arith, there, length-set x.regs 4 w)
last_was x w _ there = there

last_there : (x : User) (w : Word) (p : Place) → is_own p x.number ≡ true → IsOwnThere (record x { regs = slice_set x.regs 4 w; frames = [] }) p
    → own_cap (record x { regs = slice_set x.regs 4 w; frames = [] }) p ≡ cond (same_place p (Reg x.number 4)) (cap_in w) (own_cap (record x { frames = [] }) p)
last_there x w (Reg v j) own there = rw own (set_there x.regs 4 j w there)
last_there x w _ own there = refl

outward_was : (s : Script) (x : User) (frames : List Frame) (w : Word) (p : Place) → IsOwnThere (outward s x frames w) p → IsOwnThere (record x { frames = frames }) p
outward_was s x [] w p there = last_was x w p there
outward_was s x (q ∷ outer) w p there = by_bool (is_over s q) (outward_was s x outer w p) there
  where
    by_bool : (t : Bool) → (IsOwnThere (outward s x outer w) p → IsOwnThere (record x { frames = outer }) p)
        → IsOwnThere (cond t (outward s x outer w) (record x { frames = record q { regs = slice_set q.regs 4 w } ∷ outer })) p → IsOwnThere (record x { frames = q ∷ outer }) p
    by_bool true on there = inner_was x q outer p (on there)
    by_bool false on there = reg_was x 4 w (q ∷ outer) p there

outward_there : (s : Script) (x : User) (frames : List Frame) (w : Word) (p : Place) → is_own p x.number ≡ true → IsOwnThere (outward s x frames w) p
    → own_cap (outward s x frames w) p ≡ cond (same_place p (outer_place s x frames)) (cap_in w) (own_cap (record x { frames = frames }) p)
outward_there s x [] w p own there = last_there x w p own there
outward_there s x (q ∷ outer) w p own there = by_bool (is_over s q) (outward_there s x outer w p own) there
  where
    by_bool : (t : Bool) → (IsOwnThere (outward s x outer w) p → own_cap (outward s x outer w) p ≡ cond (same_place p (outer_place s x outer)) (cap_in w) (own_cap (record x { frames = outer }) p))
        → IsOwnThere (cond t (outward s x outer w) (record x { frames = record q { regs = slice_set q.regs 4 w } ∷ outer })) p
        → own_cap (cond t (outward s x outer w) (record x { frames = record q { regs = slice_set q.regs 4 w } ∷ outer })) p
        ≡ cond (same_place p (cond t (outer_place s x outer) (FrameReg x.number (length outer) 4))) (cap_in w) (own_cap (record x { frames = q ∷ outer }) p)
    by_bool true on there = on there ∙ ap (cond (same_place p (outer_place s x outer)) (cap_in w)) (inner_same x q outer p (outward_was s x outer w p there))
    by_bool false on there = reg_set x 4 w (q ∷ outer) p own there

ended_was : (s : Script) (x : User) (frames : List Frame) (p : Place) → IsOwnThere (ended s (record x { frames = frames }) frames) p → IsOwnThere (record x { frames = frames }) p
ended_was s x [] p there = there
ended_was s x (q ∷ outer) p there = by_bool (is_over s q) there
  where
    by_bool : (t : Bool) → IsOwnThere (cond t (outward s (record x { frames = q ∷ outer }) outer (word_at q.regs 4)) (record x { frames = q ∷ outer })) p → IsOwnThere (record x { frames = q ∷ outer }) p
    by_bool true there = inner_was x q outer p (outward_was s (record x { frames = q ∷ outer }) outer (word_at q.regs 4) p there)
    by_bool false there = there

ended_there : (s : Script) (x : User) (frames : List Frame) (ls : List Landing) (p : Place) → is_own p x.number ≡ true → IsOwnThere (ended s (record x { frames = frames }) frames) p
    → own_cap (ended s (record x { frames = frames }) frames) p ≡ landed (end_puts s x frames ls) p (own_cap (record x { frames = frames }) p)
ended_there s x [] ls p own there = refl
ended_there s x (q ∷ outer) ls p own there = by_bool (is_over s q) there
  where
    by_bool : (t : Bool) → IsOwnThere (cond t (outward s (record x { frames = q ∷ outer }) outer (word_at q.regs 4)) (record x { frames = q ∷ outer })) p
        → own_cap (cond t (outward s (record x { frames = q ∷ outer }) outer (word_at q.regs 4)) (record x { frames = q ∷ outer })) p
        ≡ landed (cond t (lands (outer_place s x outer) (word_at q.regs 4) (source_after ls (FrameReg x.number (length outer) 4)) ∷ []) []) p (own_cap (record x { frames = q ∷ outer }) p)
    by_bool true there =
        let y = record x { frames = q ∷ outer } in
        let w = word_at q.regs 4 in
        outward_there s y outer w p own there
        ∙ (ap (λ l. cond (same_place p l) (cap_in w) (own_cap (record x { frames = outer }) p)) (same_outer s x y outer refl)
        ∙ ap (cond (same_place p (outer_place s x outer)) (cap_in w)) (inner_same x q outer p (outward_was s y outer w p there)))
    by_bool false there = refl

-- ---- all together

pub after_there : (s : Script) (x : User) (eff : Effect) (source : Option Source) (ls : List Landing) (p : Place) → is_own p x.number ≡ true → IsOwnThere (after s x eff) p
    → own_cap (after s x eff) p ≡ landed (end_puts s x (closing x eff).frames ls) p (landed (effect_puts x source eff) p (own_cap x p))
after_there s x eff source ls p own there =
    let z = closing x eff in
    ended_there s z z.frames ls p (ap (is_own p) (number_closing x eff) ∙ own) there
    ∙ (ap (λ es. landed es p (own_cap z p)) (same_ends s x z z.frames ls (number_closing x eff))
    ∙ ap (landed (end_puts s x z.frames ls) p) (closing_there x eff source p own (ended_was s z z.frames p there)))
