-- Complete orders have each user's script requests once and in order. States docs/promises.md, "Runs".
use Rattle.std.proofs.Common.{◌≡◌, ℕ, zero, suc, ◌+◌, ◌<◌, ◌==◌, min, nat_le, Bool, true, false, cond, List, [], ◌∷◌, length, map, Option, Some, None, refl, sym, ap, subst, ◌∙◌, ◌⊎◌, inl, inr, arith}
use Rattle.std.specs.Prelude.{⊤, ◌||◌, ◌&&◌, filter, slice_get, slice_set}
use Rattle.std.proofs.lemmas.Bool.{cases_eq, eq-eqb, ne_eqb, leb-true, leb-false}
use Rattle.std.proofs.lemmas.Option.{same_Some, none-some}
use Rattle.psos_calls.specs.declared.frame.Frame.{Frame}
use Rattle.psos_calls.specs.Language.Script.{Script, IsWellFormed, requests_of, user_script}
use Rattle.psos_calls.specs.Language.Tests.{if_there}
use Rattle.psos_calls.specs.Language.User.{User, place_in}
use Rattle.psos_model.specs.Flat.{Flat}
use Rattle.psos_model.specs.Answer.{Answered, answer}
use Rattle.psos_model.specs.Flat.Boot.{boot}
use Rattle.psos_model.specs.Run.{IsLegalFrom, IsComplete, run_from, answers, answers_from, phase_in, phase_of, current_phase, earlier, is_now, is_open, is_left, has_left}
use Rattle.psos_model.specs.Sound.{IsStart}
use Rattle.psos_model.specs.Laws.{numbers, script_numbers}
use Rattle.psos_laws.proofs.RequestsLeft.{phase_past}
use Rattle.psos_laws.proofs.UserProgress.{IsGoing, one_if_outside}
use Rattle.psos_laws.proofs.AnswerProgress.{pick, AreGoing, Turn, turn, turn_going, start_going}

-- ---- a list with one element set

get_set_here : {X : Type 0} (xs : List X) (u : ℕ) (x y : X) → slice_get xs u ≡ Some x → slice_get (slice_set xs u y) u ≡ Some y
get_set_here [] u x y e = absurd (none-some x e)
get_set_here (z ∷ zs) zero x y e = refl
get_set_here (z ∷ zs) (suc u) x y e = get_set_here zs u x y e

get_set_apart : {X : Type 0} (xs : List X) (u v : ℕ) (y : X) → (u ≡ v → ⊥) → slice_get (slice_set xs v y) u ≡ slice_get xs u
get_set_apart [] u v y apart = refl
get_set_apart (z ∷ zs) zero zero y apart = absurd (apart refl)
get_set_apart (z ∷ zs) zero (suc v) y apart = refl
get_set_apart (z ∷ zs) (suc u) zero y apart = refl
get_set_apart (z ∷ zs) (suc u) (suc v) y apart = get_set_apart zs u v y (λ e. apart (ap suc e))

-- ---- the numbers of one user's script requests

abbrev is_own_script : ℕ → Answered → Bool
is_own_script u a = (a.user == u) && (a.m == 0)

-- a script request of the user joins them
keeps : (u : ℕ) (a : Answered) (rest : List Answered) → a.user ≡ u → a.m ≡ 0 → script_numbers u (a ∷ rest) ≡ a.n ∷ script_numbers u rest
keeps u a rest own outside =
    let test : is_own_script u a ≡ true = ap (λ b. b && (a.m == 0)) (eq-eqb a.user u own) ∙ eq-eqb a.m 0 outside in
    ap (λ b. map (λ (a : Answered). a.n) (cond b (a ∷ filter (is_own_script u) rest) (filter (is_own_script u) rest))) test

and_false : (b : Bool) → (b && false) ≡ false
and_false true = refl
and_false false = refl

-- a line of a body, and another user's request, do not
skips_line : (u : ℕ) (a : Answered) (rest : List Answered) → (a.m ≡ 0 → ⊥) → script_numbers u (a ∷ rest) ≡ script_numbers u rest
skips_line u a rest inside =
    let test : is_own_script u a ≡ false = ap (λ b. (a.user == u) && b) (ne_eqb a.m 0 inside) ∙ and_false (a.user == u) in
    ap (λ b. map (λ (a : Answered). a.n) (cond b (a ∷ filter (is_own_script u) rest) (filter (is_own_script u) rest))) test

skips_other : (u : ℕ) (a : Answered) (rest : List Answered) → (a.user ≡ u → ⊥) → script_numbers u (a ∷ rest) ≡ script_numbers u rest
skips_other u a rest other =
    let test : is_own_script u a ≡ false = ap (λ b. b && (a.m == 0)) (ne_eqb a.user u other) in
    ap (λ b. map (λ (a : Answered). a.n) (cond b (a ∷ filter (is_own_script u) rest) (filter (is_own_script u) rest))) test

-- ---- a run

-- user u's part after a run, and what it has answered on the way: k script requests more, in order
record Went (s : Script) (f : Flat) (order : List ℕ) (u : ℕ) (x : User) : Type 0 where
  last : User
  there : slice_get (run_from s f order).users u ≡ Some last
  k : ℕ
  count : last.answered ≡ x.answered + k
  list : script_numbers u (answers_from s f order) ≡ numbers k (x.answered + 1)

-- its own turn comes first
own_turn : (s : Script) (f : Flat) (u : ℕ) (us : List ℕ) (t : Turn s f u) (frames : List Frame) → t.x.frames ≡ frames → Went s (answer s f u).0 us u t.y → Went s f (u ∷ us) u t.x
own_turn s f u us t [] is rest =
    let a = (answer s f u).1 in
    let outside : a.m ≡ 0 = t.m ∙ ap (λ fs. (place_in t.x fs).1) is in
    let n : a.n ≡ t.x.answered + 1 = t.n ∙ ap (λ fs. (place_in t.x fs).0) is in
    let one : t.y.answered ≡ t.x.answered + 1 = t.on.count ∙ ap (λ fs. t.x.answered + one_if_outside fs) is in
    record {
      last = rest.last;
      there = rest.there;
      k = suc rest.k;
      count = omega (arith, rest.count, one);
      list = keeps u a (answers_from s (answer s f u).0 us) t.user outside
          ∙ ap (λ m. m ∷ script_numbers u (answers_from s (answer s f u).0 us)) n
          ∙ ap (λ ms. (t.x.answered + 1) ∷ ms) (rest.list ∙ ap (λ m. numbers rest.k (m + 1)) one);
    }
own_turn s f u us t (q ∷ outer) is rest =
    let a = (answer s f u).1 in
    let m : a.m ≡ t.x.within + 1 = t.m ∙ ap (λ fs. (place_in t.x fs).1) is in
    let same : t.y.answered ≡ t.x.answered + 0 = t.on.count ∙ ap (λ fs. t.x.answered + one_if_outside fs) is in
    let stays : t.y.answered ≡ t.x.answered = omega (arith, same) in
    record {
      last = rest.last;
      there = rest.there;
      k = rest.k;
      count = omega (arith, rest.count, stays);
      list = skips_line u a (answers_from s (answer s f u).0 us) (λ e. omega (arith, m, e)) ∙ (rest.list ∙ ap (λ n. numbers rest.k (n + 1)) stays);
    }

other_turn : (s : Script) (f : Flat) (u v : ℕ) (us : List ℕ) (x : User) → Turn s f v → (u ≡ v → ⊥) → Went s (answer s f v).0 us u x → Went s f (v ∷ us) u x
other_turn s f u v us x t apart rest = record {
  last = rest.last;
  there = rest.there;
  k = rest.k;
  count = rest.count;
  list = skips_other u (answer s f v).1 (answers_from s (answer s f v).0 us) (λ e. apart (sym e ∙ t.user)) ∙ rest.list;
}

went : (s : Script) → IsWellFormed s → (order : List ℕ) (f : Flat) (u : ℕ) (x : User) → AreGoing s f.users → IsLegalFrom s f order → slice_get f.users u ≡ Some x → Went s f order u x
went s w [] f u x h legal there = record { last = x; there = there; k = 0; count = omega arith; list = refl }
went s w (v ∷ us) f u x h legal there =
    let t = turn s w f v h legal.0 in
    let g = (answer s f v).0 in
    let later = turn_going s f v h t in
    elim (cases_eq u v) [
      | inl same ↦ own s f u v x us there t (λ y here. went s w us g u y later legal.1 here) same
      | inr apart ↦ other_turn s f u v us x t apart (went s w us g u x later legal.1 (ap (λ xs. slice_get xs u) t.users ∙ (get_set_apart f.users u v t.y apart ∙ there)))
    ]
  where
    own : (s : Script) (f : Flat) (u v : ℕ) (x : User) (us : List ℕ) → slice_get f.users u ≡ Some x → (t : Turn s f v)
        → ((y : User) → slice_get (answer s f v).0.users u ≡ Some y → Went s (answer s f v).0 us u y) → u ≡ v → Went s f (v ∷ us) u x
    own s f u v x us there t rest same =
        let mine : t.x ≡ x = same_Some t.x x (sym t.there ∙ (ap (slice_get f.users) (sym same) ∙ there)) in
        let here : slice_get (answer s f v).0.users u ≡ Some t.y = ap (λ xs. slice_get xs u) t.users ∙ (ap (slice_get (slice_set f.users v t.y)) same ∙ get_set_here f.users v t.x t.y t.there) in
        let P : ℕ → Type 0 = λ n. Went s (answer s f v).0 us n t.y in
        let Q : ℕ → Type 0 = λ n. Went s f (v ∷ us) n x in
        subst Q (sym same) (subst (λ z. Went s f (v ∷ us) v z) mine (own_turn s f v us t t.x.frames refl (subst P same (rest t.y here))))

-- after a run all users are on their way
pub run_going : (s : Script) → IsWellFormed s → (order : List ℕ) (f : Flat) → AreGoing s f.users → IsLegalFrom s f order → AreGoing s (run_from s f order).users
run_going s w [] f h legal = h
run_going s w (v ∷ us) f h legal = run_going s w us (answer s f v).0 (turn_going s f v h (turn s w f v h legal.0)) legal.1

-- ---- where nobody has a request left

-- a user whose phase this is
record HasPhase (s : Script) (users : List User) (p : ℕ) : Type 0 where
  user : ℕ
  row : User
  there : slice_get users user ≡ Some row
  phase : phase_of s row ≡ Some p

behind : (s : Script) (x : User) (users : List User) (p : ℕ) → HasPhase s users p → HasPhase s (x ∷ users) p
behind s x users p h = record { user = suc h.user; row = h.row; there = h.there; phase = h.phase }

one_of_two : (a b : ℕ) → (min a b ≡ a) ⊎ (min a b ≡ b)
one_of_two a b = by_test (nat_le a b) refl
  where
    by_test : (t : Bool) → nat_le a b ≡ t → (min a b ≡ a) ⊎ (min a b ≡ b)
    by_test true e = let below = leb-true a b e in inl (omega (arith, below))
    by_test false e = let above = leb-false a b e in inr (omega (arith, above))

-- the current phase is some user's
someones : (s : Script) (users : List User) (p : ℕ) → current_phase s users ≡ Some p → HasPhase s users p
someones s [] p e = absurd (none-some p e)
someones s (x ∷ users) p e = by_both (phase_of s x) (current_phase s users) refl (someones s users) e
  where
    first : (n : ℕ) → phase_of s x ≡ Some n → n ≡ p → HasPhase s (x ∷ users) p
    first n is same = record { user = zero; row = x; there = refl; phase = is ∙ ap Some same }

    later : (m : ℕ) → HasPhase s users m → m ≡ p → HasPhase s (x ∷ users) p
    later m h same = behind s x users p (subst (HasPhase s users) same h)

    by_both : (a b : Option ℕ) → phase_of s x ≡ a → ((q : ℕ) → b ≡ Some q → HasPhase s users q) → earlier a b ≡ Some p → HasPhase s (x ∷ users) p
    by_both None b is rest e = behind s x users p (rest p e)
    by_both (Some n) None is rest e = first n is (same_Some n p e)
    by_both (Some n) (Some m) is rest e = elim (one_of_two n m) [
      | inl same ↦ first n is (sym same ∙ same_Some (min n m) p e)
      | inr same ↦ later m (rest m refl) (sym same ∙ same_Some (min n m) p e)
    ]

or_right : (b c : Bool) → c ≡ true → (b || c) ≡ true
or_right true c e = refl
or_right false c e = e

not_both : {A : Type 0} (b : Bool) → b ≡ true → b ≡ false → A
not_both b yea nay = absurd (subst (λ b. cond b ⊤ ⊥) (sym yea ∙ nay) tt)

-- who has the current phase has a request left
now_left : (s : Script) (users : List User) (p : ℕ) → current_phase s users ≡ Some p → (h : HasPhase s users p) → has_left s users h.user ≡ true
now_left s users p e h =
    let now : is_now (phase_of s h.row) (current_phase s users) ≡ true = ap (λ o. is_now o (current_phase s users)) h.phase ∙ (ap (is_now (Some p)) e ∙ eq-eqb p p refl) in
    ap (λ o. if_there o false (λ x. is_left s users x)) h.there ∙ or_right (is_open h.row.frames) (is_now (phase_of s h.row) (current_phase s users)) now

-- so there is no current phase where nobody has one left
no_phase : (s : Script) (users : List User) → ((u : ℕ) → has_left s users u ≡ false) → current_phase s users ≡ None
no_phase s users over = by_phase (current_phase s users) refl
  where
    by_phase : (o : Option ℕ) → current_phase s users ≡ o → o ≡ None
    by_phase None e = refl
    by_phase (Some p) e =
        let h = someones s users p e in
        not_both (has_left s users h.user) (now_left s users p e h) (over h.user)

-- and then no user has a phase
nobodys : (s : Script) (users : List User) (u : ℕ) (x : User) → current_phase s users ≡ None → slice_get users u ≡ Some x → phase_of s x ≡ None
nobodys s [] u x e there = absurd (none-some x there)
nobodys s (z ∷ zs) u x e there = by_user u there (both (phase_of s z) (current_phase s zs) e) (λ v. nobodys s zs v x)
  where
    both : (a b : Option ℕ) → earlier a b ≡ None → (a ≡ None) × (b ≡ None)
    both None b e = (refl, e)
    both (Some n) None e = absurd (none-some n (sym e))
    both (Some n) (Some m) e = absurd (none-some (min n m) (sym e))

    by_user : (u : ℕ) → slice_get (z ∷ zs) u ≡ Some x → (phase_of s z ≡ None) × (current_phase s zs ≡ None)
        → ((v : ℕ) → current_phase s zs ≡ None → slice_get zs v ≡ Some x → phase_of s x ≡ None) → phase_of s x ≡ None
    by_user zero there h rest = ap (phase_of s) (sym (same_Some z x there)) ∙ h.0
    by_user (suc v) there h rest = rest v h.1 there

-- a user with no request left has answered all
all_answered : (s : Script) (users : List User) (u : ℕ) (x : User) (frames : List Frame) → x.frames ≡ frames → IsGoing s u x → phase_in s x frames ≡ None → is_open frames ≡ false
    → x.answered ≡ length (requests_of (user_script s u))
all_answered s users u x [] is h none closed =
    let past = phase_past (user_script s x.number).phases x.answered none in
    let own : length (requests_of (user_script s x.number)) ≡ length (requests_of (user_script s u)) = ap (λ n. length (requests_of (user_script s n))) h.number in
    omega (arith, past, own, h.few)
all_answered s users u x (q ∷ outer) is h none closed = absurd (subst (λ b. cond b ⊤ ⊥) closed tt)

or_left : (b c : Bool) → (b || c) ≡ false → b ≡ false
or_left false c e = refl
or_left true c e = e

-- ---- the law

pub all_from : (s : Script) → IsWellFormed s → IsStart s (boot s) → (order : List ℕ) → IsComplete s order → (u : ℕ) → u < length s.users
    → script_numbers u (answers s order) ≡ numbers (length (requests_of (user_script s u))) 1
all_from s w start order done u within =
    let going = start_going s (boot s) start in
    let is = pick (boot s).users u (omega (arith, within, going.all)) in
    let x = is.0 in
    let run = went s w order (boot s) u x going done.legal is.1 in
    let users = (run_from s (boot s) order).users in
    let end = (run_going s w order (boot s) going done.legal).each u run.last run.there in
    let left : is_left s users run.last ≡ false = sym (ap (λ o. if_there o false (λ x. is_left s users x)) run.there) ∙ done.over u in
    let closed = or_left (is_open run.last.frames) (is_now (phase_of s run.last) (current_phase s users)) left in
    let none = nobodys s users u run.last (no_phase s users done.over) run.there in
    let whole = all_answered s users u run.last run.last.frames refl end none closed in
    let fresh = (start.users u x is.1).answered in
    let k : run.k ≡ length (requests_of (user_script s u)) = omega (arith, run.count, fresh, whole) in
    run.list ∙ ap (λ n. numbers run.k (n + 1)) fresh ∙ ap (λ n. numbers n 1) k
