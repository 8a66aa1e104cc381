-- What the close of a request brings to its user's own places.
use Rattle.std.proofs.Common.{◌≡◌, ℕ, ◌+◌, ◌≤◌, ◌==◌, ◌&&◌, Bool, true, false, cond, List, [], ◌∷◌, length, slice_set, Option, Some, None, option_and_then, refl, sym, ap, subst, ◌∙◌, arith}
use Rattle.std.proofs.lemmas.Option.{none-some}
use Rattle.std.proofs.lemmas.Bool.{ne_eqb, false≢true}
use Rattle.psos_caps.specs.Capability.{Capability}
use Rattle.psos_words.specs.declared.word.Word.{Word}
use Rattle.psos_words.specs.Words.{word_at, zeros}
use Rattle.psos_calls.specs.declared.frame.Frame.{Frame}
use Rattle.psos_calls.specs.declared.effect.Effect.{Effect}
use Rattle.psos_calls.specs.declared.effect.Effect.TheVariants.{Nothing, Put, Push, Enter}
use Rattle.psos_calls.specs.Language.Script.{Script}
use Rattle.psos_calls.specs.Language.User.{User, here, counted, with_reg, entered_regs, settled, outward, ended, after}
use Rattle.psos_model.specs.declared.place.Place.{Place}
use Rattle.psos_model.specs.declared.place.Place.TheVariants.{Reg, FrameReg, PathAt}
use Rattle.psos_model.specs.Flat.Places.{cap_in, own_cap, frame_at, is_own, same_place, reg_place}
use Rattle.psos_model.specs.Answer.Outcomes.{Source}
use Rattle.psos_laws.specs.Landings.{Landing, lands, effect_puts, is_over, outer_place, source_after, end_puts, landed}
use Rattle.psos_laws.proofs.Landings.{Within, within_trans, by_test, in_set, in_pushed, zeros_none, if_within, landed_within}

-- ---- effects

abbrev pub frame_cap : ℕ → Frame → Option Capability
frame_cap j q = cap_in (word_at q.regs j)

in_frame : (b : Bool) (q : Frame) (o : Option Frame) (i j : ℕ) (w : Word)
    → Within (option_and_then (frame_cap j) (cond b (Some (record q { regs = slice_set q.regs i w })) o)) (cond (b && (j == i)) (cap_in w) (option_and_then (frame_cap j) (cond b (Some q) o)))
in_frame true q o i j w c e = in_set q.regs i j w c e
in_frame false q o i j w c e = e

pub with_reg_in : (x : User) (frames : List Frame) (i : ℕ) (w : Word) (p : Place) → is_own p x.number ≡ true
    → Within (own_cap (with_reg (record x { frames = frames }) frames i w) p) (cond (same_place p (reg_place (record x { frames = frames }) frames i)) (cap_in w) (own_cap (record x { frames = frames }) p))
with_reg_in x [] i w (Reg v j) own c e = rw own (in_set x.regs i j w c e)
with_reg_in x (q ∷ outer) i w (FrameReg v d j) own c e = rw own (in_frame (d == length outer) q (frame_at outer d) i j w c e)
with_reg_in x [] i w _ own c e = e
with_reg_in x (q ∷ outer) i w _ own c e = e

in_fresh : (r : List Word) (link : Word) (j : ℕ) (o : Option Capability)
    → Within (cap_in (word_at (entered_regs r link) j))
    (cond (j == 14) (cap_in link) (cond (j == 7) (cap_in (word_at r 7)) (cond (j == 6) (cap_in (word_at r 6)) (cond (j == 5) (cap_in (word_at r 5)) (cond (j == 4) (cap_in (word_at r 4)) o)))))
in_fresh r link j o c e =
    let one = slice_set (zeros 16) 4 (word_at r 4) in
    let two = slice_set one 5 (word_at r 5) in
    let three = slice_set two 6 (word_at r 6) in
    let four = slice_set three 7 (word_at r 7) in
    within_trans (in_set four 14 j link) (if_within (j == 14) _ _ _ (within_trans (in_set three 7 j (word_at r 7)) (if_within (j == 7) _ _ _ (within_trans (in_set two 6 j (word_at r 6)) (if_within (j == 6) _ _ _
    (within_trans (in_set one 5 j (word_at r 5)) (if_within (j == 5) _ _ _ (within_trans (in_set (zeros 16) 4 j (word_at r 4)) (if_within (j == 4) _ _ o (λ k g. absurd (zeros_none 16 j k g))))))))))) c e

in_entered : (b : Bool) (r : List Word) (link : Word) (label j : ℕ) (o : Option Frame)
    → Within (option_and_then (frame_cap j) (cond b (Some (record { regs = entered_regs r link; label = label; line = 0 })) o))
    (cond (b && (j == 14)) (cap_in link) (cond (b && (j == 7)) (cap_in (word_at r 7)) (cond (b && (j == 6)) (cap_in (word_at r 6)) (cond (b && (j == 5)) (cap_in (word_at r 5)) (cond (b && (j == 4)) (cap_in (word_at r 4)) (option_and_then (frame_cap j) o))))))
in_entered true r link label j o c e = in_fresh r link j _ c e
in_entered false r link label j o c e = e

settled_in : (x : User) (eff : Effect) (source : Option Source) (p : Place) → is_own p x.number ≡ true
    → Within (own_cap (settled x eff) p) (landed (effect_puts x source eff) p (own_cap x p))
settled_in x Nothing source p own c e = e
settled_in x (Put i w) source p own c e = with_reg_in x x.frames i w p own c e
settled_in x (Push cap) source (PathAt v j) own c e = rw own (in_pushed x.path cap j c e)
settled_in x (Enter label link) source (FrameReg v d j) own c e = rw own (in_entered (d == length x.frames) (here x) link label j (frame_at x.frames d) c e)
settled_in x (Push cap) source _ own c e = e
settled_in x (Enter label link) source _ own c e = e

-- ---- the line that is counted

counted_in : (x : User) (frames : List Frame) (p : Place) → Within (own_cap (counted (record x { frames = frames }) frames) p) (own_cap (record x { frames = frames }) p)
counted_in x (q ∷ outer) (FrameReg v d j) c e = by_bool (d == length outer) e
  where
    by_bool : (t : Bool) → option_and_then (frame_cap j) (cond t (Some (record q { line = q.line + 1 })) (frame_at outer d)) ≡ Some c → option_and_then (frame_cap j) (cond t (Some q) (frame_at outer d)) ≡ Some c
    by_bool true g = g
    by_bool false g = g
counted_in x [] (FrameReg v d j) c e = e
counted_in x [] _ c e = e
counted_in x (q ∷ outer) _ c e = e

pub same_puts : (x : User) (frames : List Frame) (source : Option Source) (eff : Effect)
    → effect_puts (counted (record x { frames = frames }) frames) source eff ≡ effect_puts (record x { frames = frames }) source eff
same_puts x [] source Nothing = refl
same_puts x [] source (Put i w) = refl
same_puts x [] source (Push w) = refl
same_puts x [] source (Enter l w) = refl
same_puts x (q ∷ outer) source Nothing = refl
same_puts x (q ∷ outer) source (Put i w) = refl
same_puts x (q ∷ outer) source (Push w) = refl
same_puts x (q ∷ outer) source (Enter l w) = refl

pub number_counted : (x : User) (frames : List Frame) → (counted x frames).number ≡ x.number
number_counted x [] = refl
number_counted x (q ∷ outer) = refl

number_reg : (x : User) (frames : List Frame) (i : ℕ) (w : Word) → (with_reg x frames i w).number ≡ x.number
number_reg x [] i w = refl
number_reg x (q ∷ outer) i w = refl

number_settled : (x : User) (eff : Effect) → (settled x eff).number ≡ x.number
number_settled x Nothing = refl
number_settled x (Put i w) = number_reg x x.frames i w
number_settled x (Push cap) = refl
number_settled x (Enter label link) = refl

-- the user's part before bodies end
abbrev pub closing : User → Effect → User
closing x eff = settled (counted x x.frames) eff

pub number_closing : (x : User) (eff : Effect) → (closing x eff).number ≡ x.number
number_closing x eff = number_settled (counted x x.frames) eff ∙ number_counted x x.frames

pub closing_in : (x : User) (eff : Effect) (source : Option Source) (p : Place) → is_own p x.number ≡ true
    → Within (own_cap (closing x eff) p) (landed (effect_puts x source eff) p (own_cap x p))
closing_in x eff source p own =
    let y = counted x x.frames in
    let still : is_own p y.number ≡ true = ap (is_own p) (number_counted x x.frames) ∙ own in
    within_trans (settled_in y eff source p still)
    (subst (λ ls. Within (landed (effect_puts y source eff) p (own_cap y p)) (landed ls p (own_cap x p))) (same_puts x x.frames source eff)
    (landed_within (effect_puts y source eff) p (own_cap y p) (own_cap x p) (counted_in x x.frames p)))

-- ---- ends of bodies

pub no_frame : (frames : List Frame) (d : ℕ) → length frames ≤ d → frame_at frames d ≡ None
no_frame [] d le = refl
no_frame (q ∷ outer) d le = rw (ne_eqb d (length outer) (λ e. omega (arith, e, le))) (no_frame outer d (omega (arith, le)))

outer_frame : (q : Frame) (outer : List Frame) (d j : ℕ) → Within (option_and_then (frame_cap j) (frame_at outer d)) (option_and_then (frame_cap j) (cond (d == length outer) (Some q) (frame_at outer d)))
outer_frame q outer d j c e = by_test (λ b. option_and_then (frame_cap j) (cond b (Some q) (frame_at outer d)) ≡ Some c) d (length outer)
    (λ same. absurd (none-some c (sym (ap (option_and_then (frame_cap j)) (no_frame outer d (omega (arith, same)))) ∙ e)))
    (λ other. e)

inner_gone : (x : User) (q : Frame) (outer : List Frame) (p : Place) → Within (own_cap (record x { frames = outer }) p) (own_cap (record x { frames = q ∷ outer }) p)
inner_gone x q outer (FrameReg v d j) c e = outer_frame q outer d j c e
inner_gone x q outer _ c e = e

last_end : (x : User) (w : Word) (p : Place) → is_own p x.number ≡ true
    → Within (own_cap (record x { regs = slice_set x.regs 4 w; frames = [] }) p) (cond (same_place p (Reg x.number 4)) (cap_in w) (own_cap (record x { frames = [] }) p))
last_end x w (Reg v j) own c e = rw own (in_set x.regs 4 j w c e)
last_end x w _ own c e = e

outward_in : (s : Script) (x : User) (frames : List Frame) (w : Word) (p : Place) → is_own p x.number ≡ true
    → Within (own_cap (outward s x frames w) p) (cond (same_place p (outer_place s x frames)) (cap_in w) (own_cap (record x { frames = frames }) p))
outward_in s x [] w p own c e = last_end x w p own c e
outward_in s x (q ∷ outer) w p own c e = by_bool (is_over s q) (outward_in s x outer w p own c) e
  where
    by_bool : (t : Bool) → (own_cap (outward s x outer w) p ≡ Some c → cond (same_place p (outer_place s x outer)) (cap_in w) (own_cap (record x { frames = outer }) p) ≡ Some c)
        → own_cap (cond t (outward s x outer w) (record x { frames = record q { regs = slice_set q.regs 4 w } ∷ outer })) p ≡ Some c
        → cond (same_place p (cond t (outer_place s x outer) (FrameReg x.number (length outer) 4))) (cap_in w) (own_cap (record x { frames = q ∷ outer }) p) ≡ Some c
    by_bool true on g = if_within (same_place p (outer_place s x outer)) _ _ _ (inner_gone x q outer p) c (on g)
    by_bool false on g = with_reg_in x (q ∷ outer) 4 w p own c g

ended_in : (s : Script) (x : User) (frames : List Frame) (ls : List Landing) (p : Place) → is_own p x.number ≡ true
    → Within (own_cap (ended s (record x { frames = frames }) frames) p) (landed (end_puts s x frames ls) p (own_cap (record x { frames = frames }) p))
ended_in s x [] ls p own c e = e
ended_in s x (q ∷ outer) ls p own c e = by_bool (is_over s q) e
  where
    by_bool : (t : Bool) → own_cap (cond t (outward s (record x { frames = q ∷ outer }) outer (word_at q.regs 4)) (record x { frames = q ∷ outer })) p ≡ Some c
        → landed (cond t (lands (outer_place s x outer) (word_at q.regs 4) (source_after ls (FrameReg x.number (length outer) 4)) ∷ []) []) p (own_cap (record x { frames = q ∷ outer }) p) ≡ Some c
    by_bool true g = at_outer (outer_place s (record x { frames = q ∷ outer }) outer) (same_outer outer) c (outward_in s (record x { frames = q ∷ outer }) outer (word_at q.regs 4) p own c g)
      where
        same_outer : (fs : List Frame) → outer_place s (record x { frames = q ∷ outer }) fs ≡ outer_place s x fs
        same_outer [] = refl
        same_outer (r ∷ fs) = ap (λ l. cond (is_over s r) l (FrameReg x.number (length fs) 4)) (same_outer fs)

        at_outer : (l : Place) → l ≡ outer_place s x outer
            → Within (cond (same_place p l) (cap_in (word_at q.regs 4)) (own_cap (record x { frames = outer }) p)) (cond (same_place p (outer_place s x outer)) (cap_in (word_at q.regs 4)) (own_cap (record x { frames = q ∷ outer }) p))
        at_outer l is = subst (λ l. Within (cond (same_place p l) (cap_in (word_at q.regs 4)) (own_cap (record x { frames = outer }) p)) (cond (same_place p (outer_place s x outer)) (cap_in (word_at q.regs 4)) (own_cap (record x { frames = q ∷ outer }) p)))
            (sym is) (if_within (same_place p (outer_place s x outer)) _ _ _ (inner_gone x q outer p))
    by_bool false g = g

pub same_outer : (s : Script) (x z : User) (frames : List Frame) → z.number ≡ x.number → outer_place s z frames ≡ outer_place s x frames
same_outer s x z [] e = ap (λ (n : ℕ). Reg n 4) e
same_outer s x z (q ∷ outer) e =
    ap (λ l. cond (is_over s q) l (FrameReg z.number (length outer) 4)) (same_outer s x z outer e)
    ∙ ap (λ (n : ℕ). cond (is_over s q) (outer_place s x outer) (FrameReg n (length outer) 4)) e

-- the ends of bodies depend on the user's number alone
pub same_ends : (s : Script) (x z : User) (frames : List Frame) (ls : List Landing) → z.number ≡ x.number → end_puts s z frames ls ≡ end_puts s x frames ls
same_ends s x z [] ls e = refl
same_ends s x z (q ∷ outer) ls e =
    ap (λ l. cond (is_over s q) (lands l (word_at q.regs 4) (source_after ls (FrameReg z.number (length outer) 4)) ∷ []) []) (same_outer s x z outer e)
    ∙ ap (λ (n : ℕ). cond (is_over s q) (lands (outer_place s x outer) (word_at q.regs 4) (source_after ls (FrameReg n (length outer) 4)) ∷ []) []) e

-- ---- all together

pub after_in : (s : Script) (x : User) (eff : Effect) (source : Option Source) (ls : List Landing) (p : Place) → is_own p x.number ≡ true
    → Within (own_cap (after s x eff) p) (landed (end_puts s x (closing x eff).frames ls) p (landed (effect_puts x source eff) p (own_cap x p)))
after_in s x eff source ls p own =
    let z = closing x eff in
    let still : is_own p z.number ≡ true = ap (is_own p) (number_closing x eff) ∙ own in
    within_trans (ended_in s z z.frames ls p still)
    (subst (λ es. Within (landed (end_puts s z z.frames ls) p (own_cap z p)) (landed es p (landed (effect_puts x source eff) p (own_cap x p)))) (same_ends s x z z.frames ls (number_closing x eff))
    (landed_within (end_puts s z z.frames ls) p (own_cap z p) _ (closing_in x eff source p own)))

-- ---- other places

if_false : (b : Bool) (x y : Option Capability) → b ≡ false → cond b x y ≡ y
if_false true x y e = absurd (false≢true (sym e))
if_false false x y e = refl

not_reg : (p : Place) (x : User) (frames : List Frame) (i : ℕ) → is_own p x.number ≡ false → same_place p (reg_place x frames i) ≡ false
not_reg (Reg v j) x [] i out = rw out refl
not_reg (FrameReg v d j) x (q ∷ outer) i out = rw out refl
not_reg _ x [] i out = refl
not_reg _ x (q ∷ outer) i out = refl

not_frame : (p : Place) (u d i : ℕ) → is_own p u ≡ false → same_place p (FrameReg u d i) ≡ false
not_frame (FrameReg v e j) u d i out = rw out refl
not_frame _ u d i out = refl

-- an effect lands on no other place than its user's
pub effect_apart : (x : User) (eff : Effect) (source : Option Source) (p : Place) (o : Option Capability) → is_own p x.number ≡ false → landed (effect_puts x source eff) p o ≡ o
effect_apart x Nothing source p o out = refl
effect_apart x (Put i w) source p o out = if_false _ _ _ (not_reg p x x.frames i out)
effect_apart x (Push cap) source (PathAt v j) o out = rw out refl
effect_apart x (Push cap) source _ o out = refl
effect_apart x (Enter label link) source p o out =
    let d = length x.frames in
    rw (not_frame p x.number d 14 out, not_frame p x.number d 7 out, not_frame p x.number d 6 out, not_frame p x.number d 5 out, not_frame p x.number d 4 out) refl

not_outer : (s : Script) (p : Place) (x : User) (frames : List Frame) → is_own p x.number ≡ false → same_place p (outer_place s x frames) ≡ false
not_outer s p x [] out = not_reg p x [] 4 out
not_outer s p x (q ∷ outer) out = by_bool (is_over s q) (not_outer s p x outer out)
  where
    by_bool : (t : Bool) → same_place p (outer_place s x outer) ≡ false → same_place p (cond t (outer_place s x outer) (FrameReg x.number (length outer) 4)) ≡ false
    by_bool true on = on
    by_bool false on = not_frame p x.number (length outer) 4 out

-- nor does the end of a body
pub end_apart : (s : Script) (x : User) (frames : List Frame) (ls : List Landing) (p : Place) (o : Option Capability) → is_own p x.number ≡ false → landed (end_puts s x frames ls) p o ≡ o
end_apart s x [] ls p o out = refl
end_apart s x (q ∷ outer) ls p o out = by_bool (is_over s q)
  where
    by_bool : (t : Bool) → landed (cond t (lands (outer_place s x outer) (word_at q.regs 4) (source_after ls (FrameReg x.number (length outer) 4)) ∷ []) []) p o ≡ o
    by_bool true = if_false _ _ _ (not_outer s p x outer out)
    by_bool false = refl
