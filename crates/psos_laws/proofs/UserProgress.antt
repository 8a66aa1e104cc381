-- A user's own part on its way: each request that it asks is counted, and pays. States docs/promises.md, "Runs".
use Rattle.std.proofs.Common.{◌≡◌, ℕ, ◌+◌, ◌-◌, ◌<◌, ◌≤◌, Bool, true, false, cond, List, [], ◌∷◌, length, nat_le, refl, sym, ap, subst, ◌∙◌, arith}
use Rattle.std.specs.Prelude.{slice_set}
use Rattle.std.proofs.lemmas.Bool.{leb-false}
use Rattle.psos_limits.specs.declared.TheConstants.{MOST_CHARGE}
use Rattle.psos_words.specs.declared.word.Word.{Word}
use Rattle.psos_words.specs.Words.{word_at}
use Rattle.psos_calls.specs.declared.effect.Effect.{Effect}
use Rattle.psos_calls.specs.declared.effect.Effect.TheVariants.{Nothing, Put, Push, Enter}
use Rattle.psos_calls.specs.declared.frame.Frame.{Frame}
use Rattle.psos_calls.specs.Language.Script.{Script, IsWellFormed, body_of, requests_of, user_script}
use Rattle.psos_calls.specs.Language.User.{User, counted, with_reg, settled, outward, ended, after}
use Rattle.psos_model.specs.Flat.{Flat}
use Rattle.psos_model.specs.Sound.Users.{HasLine, lines_left}
use Rattle.psos_model.proofs.OutcomeWalk.{FindsRoom}
use Rattle.psos_model.proofs.RequestRanges.{body_fits}

-- what a body's end and an effect keep: who it is, and how many script requests are answered
record IsSame (x y : User) : Type 0 where
  number : y.number ≡ x.number
  answered : y.answered ≡ x.answered

-- ---- the ends of bodies: no line more is left, and the innermost body has one

record Ends (s : Script) (x : User) (frames : List Frame) (y : User) : Type 0 where
  same : IsSame x y
  charge : y.charge ≡ x.charge
  line : HasLine s y.frames
  fewer : lines_left s y.frames ≤ lines_left s frames

outward_ends : (s : Script) (x : User) (frames : List Frame) (w : Word) → Ends s x frames (outward s x frames w)
outward_ends s x [] w = record { same = record { number = refl; answered = refl }; charge = refl; line = tt; fewer = omega arith }
outward_ends s x (q ∷ outer) w = by_test (outward_ends s x outer w) (nat_le (length (body_of s q.label)) q.line) refl
  where
    by_test : Ends s x outer (outward s x outer w) → (b : Bool) → nat_le (length (body_of s q.label)) q.line ≡ b
        → Ends s x (q ∷ outer) (cond b (outward s x outer w) (record x { frames = record q { regs = slice_set q.regs 4 w } ∷ outer }))
    by_test past true e = record { same = past.same; charge = past.charge; line = past.line; fewer = omega (arith, past.fewer) }
    by_test past false e = record {
      same = record { number = refl; answered = refl };
      charge = refl;
      line = leb-false (length (body_of s q.label)) q.line e;
      fewer = omega arith;
    }

ended_ends : (s : Script) (x : User) (frames : List Frame) → x.frames ≡ frames → Ends s x frames (ended s x frames)
ended_ends s x [] is = record {
  same = record { number = refl; answered = refl };
  charge = refl;
  line = subst (HasLine s) (sym is) tt;
  fewer = subst (λ fs. lines_left s fs ≤ 0) (sym is) (omega arith);
}
ended_ends s x (q ∷ outer) is = by_test (nat_le (length (body_of s q.label)) q.line) refl
  where
    by_test : (b : Bool) → nat_le (length (body_of s q.label)) q.line ≡ b → Ends s x (q ∷ outer) (cond b (outward s x outer (word_at q.regs 4)) x)
    by_test true e =
        let past = outward_ends s x outer (word_at q.regs 4) in
        record { same = past.same; charge = past.charge; line = past.line; fewer = omega (arith, past.fewer) }
    by_test false e = record {
      same = record { number = refl; answered = refl };
      charge = refl;
      line = subst (HasLine s) (sym is) (leb-false (length (body_of s q.label)) q.line e);
      fewer = subst (λ fs. lines_left s fs ≤ lines_left s (q ∷ outer)) (sym is) (omega arith);
    }

-- ---- the effect: lines come with as much charge, and the charge stays within its limit

record Settles (s : Script) (x y : User) : Type 0 where
  same : IsSame x y
  most : x.charge ≤ MOST_CHARGE → y.charge ≤ MOST_CHARGE
  lines : lines_left s y.frames + x.charge ≤ lines_left s x.frames + y.charge

put_settles : (s : Script) (x : User) (frames : List Frame) (i : ℕ) (w : Word) → x.frames ≡ frames → Settles s x (with_reg x frames i w)
put_settles s x [] i w is = record { same = record { number = refl; answered = refl }; most = λ h. h; lines = omega arith }
put_settles s x (q ∷ outer) i w is = record {
  same = record { number = refl; answered = refl };
  most = λ h. h;
  lines = subst (λ fs. lines_left s (q ∷ outer) + x.charge ≤ lines_left s fs + x.charge) (sym is) (omega arith);
}

settled_settles : (s : Script) → IsWellFormed s → (f : Flat) (x : User) (e : Effect) → (y : User) → y.charge ≡ x.charge → FindsRoom f x e → Settles s y (settled y e)
settled_settles s w f x Nothing y is room = record { same = record { number = refl; answered = refl }; most = λ h. h; lines = omega arith }
settled_settles s w f x (Put i word) y is room = put_settles s y y.frames i word refl
settled_settles s w f x (Push c) y is room = record { same = record { number = refl; answered = refl }; most = λ h. h; lines = omega arith }
settled_settles s w f x (Enter label link) y is room =
    let block = (body_fits s w label).1 in
    record {
      same = record { number = refl; answered = refl };
      most = λ h. omega (arith, room.1, is);
      lines = omega (arith, block);
    }

-- ---- the whole

-- what a user may still ask at most: what is left, and what its charge can still grow by
abbrev pub may_ask : Script → User → ℕ
may_ask s x = (MOST_CHARGE + ((length (requests_of (user_script s x.number)) - x.answered) + lines_left s x.frames)) - x.charge

-- how many script requests the close of one more request counts
abbrev pub one_if_outside : List Frame → ℕ
one_if_outside [] = 1
one_if_outside (q ∷ outer) = 0

-- a part on its way: user u's, with a line left in its innermost body, a charge within the limit, and no more answered than it asks
pub record IsGoing (s : Script) (u : ℕ) (x : User) : Type 0 where
  pub number : x.number ≡ u
  pub line : HasLine s x.frames
  pub most : x.charge ≤ MOST_CHARGE
  pub few : x.answered ≤ length (requests_of (user_script s u))

-- one step of it: a script request is counted, or a line, and less may be asked from then on
pub record GoesOn (s : Script) (u : ℕ) (x y : User) : Type 0 where
  pub going : IsGoing s u y
  pub count : y.answered ≡ x.answered + one_if_outside x.frames
  pub less : may_ask s y + 1 ≤ may_ask s x

-- a count of a line, or of a script request
record Counts (s : Script) (x : User) (frames : List Frame) (y : User) : Type 0 where
  number : y.number ≡ x.number
  charge : y.charge ≡ x.charge
  count : y.answered ≡ x.answered + one_if_outside frames
  lines : lines_left s y.frames + 1 ≡ lines_left s frames + one_if_outside frames

counted_counts : (s : Script) (x : User) (frames : List Frame) → x.frames ≡ frames → HasLine s frames → Counts s x frames (counted x frames)
counted_counts s x [] is line = record {
  number = refl;
  charge = refl;
  count = refl;
  lines = subst (λ fs. lines_left s fs + 1 ≡ 0 + 1) (sym is) refl;
}
counted_counts s x (q ∷ outer) is line = record { number = refl; charge = refl; count = omega arith; lines = omega (arith, line) }

one_at_most : (frames : List Frame) → one_if_outside frames ≤ 1
one_at_most [] = omega arith
one_at_most (q ∷ outer) = omega arith

-- outside of bodies a script request is left
abbrev pub AsksIn : Script → User → List Frame → Type 0
AsksIn s x [] = x.answered < length (requests_of (user_script s x.number))
AsksIn s x (q ∷ outer) = Unit {0}

counts_within : (s : Script) (x : User) (frames : List Frame) → AsksIn s x frames → x.answered ≤ length (requests_of (user_script s x.number))
    → x.answered + one_if_outside frames ≤ length (requests_of (user_script s x.number))
counts_within s x [] asks few = omega (arith, asks)
counts_within s x (q ∷ outer) asks few = omega (arith, few)

-- the close of a request of a part on its way
pub goes_on : (s : Script) → IsWellFormed s → (f : Flat) (u : ℕ) (x : User) (e : Effect) → FindsRoom f x e → IsGoing s u x → AsksIn s x x.frames → GoesOn s u x (after s x e)
goes_on s w f u x e room h asks =
    let R = length (requests_of (user_script s x.number)) in
    let y = counted x x.frames in
    let z = settled y e in
    let one = counted_counts s x x.frames refl h.line in
    let two = settled_settles s w f x e y one.charge room in
    let end = ended_ends s z z.frames refl in
    let last = after s x e in
    let number : last.number ≡ x.number = end.same.number ∙ (two.same.number ∙ one.number) in
    let answered : last.answered ≡ x.answered + one_if_outside x.frames = end.same.answered ∙ (two.same.answered ∙ one.count) in
    let asked : length (requests_of (user_script s last.number)) ≡ R = ap (λ n. length (requests_of (user_script s n))) number in
    let own : R ≡ length (requests_of (user_script s u)) = ap (λ n. length (requests_of (user_script s n))) h.number in
    let within : x.answered + one_if_outside x.frames ≤ R = counts_within s x x.frames asks (omega (arith, h.few, own)) in
    let most : last.charge ≤ MOST_CHARGE = omega (arith, end.charge, two.most (omega (arith, one.charge, h.most))) in
    let small = one_at_most x.frames in
    record {
      going = record {
        number = number ∙ h.number;
        line = end.line;
        most = most;
        few = omega (arith, answered, within, own);
      };
      count = answered;
      less = omega (arith, answered, asked, within, most, h.most, small, end.charge, end.fewer, two.lines, one.charge, one.lines);
    }
