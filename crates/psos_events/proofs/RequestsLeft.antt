-- Who has a request left has one left when another user's request closes. States docs/promises.md, "Runs".
use Rattle.std.proofs.Common.{◌≡◌, ℕ, zero, suc, ◌+◌, ◌-◌, ◌≤◌, inl, inr, Bool, true, false, cond, List, [], ◌∷◌, length, nat_le, nat_lt, Option, Some, None, refl, sym, ap, ◌∙◌, subst, arith}
use Rattle.std.specs.Prelude.{slice_get, slice_set, option_map}
use Rattle.std.proofs.lemmas.Bool.{true≢false, ltb-true, ltb-false, eq-eqb, eqb-true, or_left, or_right, or_cases}
use Rattle.std.proofs.lemmas.Option.{same_Some, none-some}
use Rattle.psos_words.specs.declared.word.Word.{Word}
use Rattle.psos_words.specs.Words.{word_at}
use Rattle.psos_calls.specs.declared.request.Request.{Request}
use Rattle.psos_calls.specs.declared.effect.Effect.{Effect}
use Rattle.psos_calls.specs.declared.effect.Effect.TheVariants.{Nothing, Put, Push, Enter}
use Rattle.psos_calls.specs.declared.frame.Frame.{Frame}
use Rattle.psos_calls.specs.Language.Script.{Script, user_script, body_of}
use Rattle.psos_calls.specs.Language.User.{User, counted, with_reg, settled, outward, ended, after}
use Rattle.psos_calls.specs.Language.Tests.{if_there}
use Rattle.psos_model.specs.Run.{phase_at, phase_in, phase_of, earlier, current_phase, is_now, is_open, is_left, has_left}
use Rattle.psos_laws.proofs.UnchangedPlaces.{set_apart}
use Rattle.psos_laws.proofs.UserSoundness.{each_set}

-- ---- phases from one on

-- it is this phase, or a later one, or none
abbrev pub AtLeast : ℕ → Option ℕ → Type 0
AtLeast p None = Unit {0}
AtLeast p (Some q) = p ≤ q

at_least_first : (o : Option ℕ) → AtLeast 0 o
at_least_first None = tt
at_least_first (Some q) = omega arith

one_later : (p : ℕ) (o : Option ℕ) → AtLeast (p - 1) o → AtLeast p (option_map (λ q. q + 1) o)
one_later p None h = tt
one_later p (Some q) h = omega (arith, h)

one_earlier : (p : ℕ) (o : Option ℕ) → AtLeast p (option_map (λ q. q + 1) o) → AtLeast (p - 1) o
one_earlier p None h = tt
one_earlier p (Some q) h = omega (arith, h)

-- the phase of a request that is in the first, or not
abbrev phase_if : List (List Request) → List Request → Bool → ℕ → Option ℕ
phase_if later phase b n = cond b (Some 0) (option_map (λ q. q + 1) (phase_at later (n - length phase)))

-- a later request is in no earlier phase
phase_rises : (phases : List (List Request)) (p j k : ℕ) → j ≤ k → AtLeast p (phase_at phases j) → AtLeast p (phase_at phases k)
phase_rises [] p j k up h = tt
phase_rises (phase ∷ later) p j k up h = by_tests (phase_rises later (p - 1) (j - length phase) (k - length phase)) (nat_lt j (length phase)) refl (nat_lt k (length phase)) refl h
  where
    by_tests : (j - length phase ≤ k - length phase → AtLeast (p - 1) (phase_at later (j - length phase)) → AtLeast (p - 1) (phase_at later (k - length phase)))
        → (a : Bool) → nat_lt j (length phase) ≡ a → (b : Bool) → nat_lt k (length phase) ≡ b → AtLeast p (phase_if later phase a j) → AtLeast p (phase_if later phase b k)
    by_tests rest true ea true eb h = h
    by_tests rest true ea false eb h =
        let none : p ≡ 0 = omega (arith, h) in
        subst (λ (n : ℕ). AtLeast n (phase_if later phase false k)) (sym none) (at_least_first (phase_if later phase false k))
    by_tests rest false ea true eb h = absurd (omega (arith, up, ltb-false j (length phase) ea, ltb-true k (length phase) eb))
    by_tests rest false ea false eb h =
        one_later p (phase_at later (k - length phase)) (rest (omega (arith, up)) (one_earlier p (phase_at later (j - length phase)) h))

-- ---- a user's own part after a close

-- it is the same user's, and no less is answered
record IsOn (x z : User) (answered : ℕ) : Type 0 where
  number : z.number ≡ x.number
  count : z.answered ≡ answered

outward_on : (s : Script) (x : User) (frames : List Frame) (w : Word) → IsOn x (outward s x frames w) x.answered
outward_on s x [] w = record { number = refl; count = refl }
outward_on s x (q ∷ outer) w = by_test (outward_on s x outer w) (nat_le (length (body_of s q.label)) q.line)
  where
    by_test : IsOn x (outward s x outer w) x.answered → (b : Bool) → IsOn x (cond b (outward s x outer w) (record x { frames = record q { regs = slice_set q.regs 4 w } ∷ outer })) x.answered
    by_test past true = past
    by_test past false = record { number = refl; count = refl }

ended_on : (s : Script) (x : User) (frames : List Frame) → IsOn x (ended s x frames) x.answered
ended_on s x [] = record { number = refl; count = refl }
ended_on s x (q ∷ outer) = by_test (nat_le (length (body_of s q.label)) q.line)
  where
    by_test : (b : Bool) → IsOn x (cond b (outward s x outer (word_at q.regs 4)) x) x.answered
    by_test true = outward_on s x outer (word_at q.regs 4)
    by_test false = record { number = refl; count = refl }

put_on : (x : User) (frames : List Frame) (i : ℕ) (w : Word) → IsOn x (with_reg x frames i w) x.answered
put_on x [] i w = record { number = refl; count = refl }
put_on x (q ∷ outer) i w = record { number = refl; count = refl }

settled_on : (x : User) (e : Effect) → IsOn x (settled x e) x.answered
settled_on x Nothing = record { number = refl; count = refl }
settled_on x (Put i w) = put_on x x.frames i w
settled_on x (Push cap) = record { number = refl; count = refl }
settled_on x (Enter label link) = record { number = refl; count = refl }

-- one more outside of bodies
abbrev one_more : List Frame → ℕ → ℕ
one_more [] n = n + 1
one_more (q ∷ outer) n = n

counted_on : (x : User) (frames : List Frame) → IsOn x (counted x frames) (one_more frames x.answered)
counted_on x [] = record { number = refl; count = refl }
counted_on x (q ∷ outer) = record { number = refl; count = refl }

after_on : (s : Script) (x : User) (e : Effect) → IsOn x (after s x e) (one_more x.frames x.answered)
after_on s x e =
    let y = counted x x.frames in
    let one = counted_on x x.frames in
    let two = settled_on y e in
    let three = ended_on s (settled y e) (settled y e).frames in
    record { number = three.number ∙ (two.number ∙ one.number); count = three.count ∙ (two.count ∙ one.count) }

-- ---- its phase

-- the number of the request whose phase it is in
abbrev index_in : List Frame → ℕ → ℕ
index_in [] n = n
index_in (q ∷ outer) n = n - 1

phase_is : (s : Script) (x : User) (frames : List Frame) → phase_in s x frames ≡ phase_at (user_script s x.number).phases (index_in frames x.answered)
phase_is s x [] = refl
phase_is s x (q ∷ outer) = refl

index_up : (old new : List Frame) (n : ℕ) → index_in old n ≤ index_in new (one_more old n)
index_up [] [] n = omega arith
index_up [] (q ∷ outer) n = omega arith
index_up (r ∷ others) [] n = omega arith
index_up (r ∷ others) (q ∷ outer) n = omega arith

pub user_rises : (s : Script) (x : User) (e : Effect) (p : ℕ) → AtLeast p (phase_of s x) → AtLeast p (phase_of s (after s x e))
user_rises s x e p h =
    let z = after s x e in
    let on = after_on s x e in
    let own = (user_script s x.number).phases in
    let before : AtLeast p (phase_at own (index_in x.frames x.answered)) = subst (AtLeast p) (phase_is s x x.frames) h in
    let later : AtLeast p (phase_at own (index_in z.frames (one_more x.frames x.answered))) =
    phase_rises own p (index_in x.frames x.answered) (index_in z.frames (one_more x.frames x.answered)) (index_up x.frames z.frames x.answered) before in
    let same : phase_of s z ≡ phase_at own (index_in z.frames (one_more x.frames x.answered)) =
    phase_is s z z.frames ∙ (ap (λ (n : ℕ). phase_at (user_script s n).phases (index_in z.frames z.answered)) on.number ∙ ap (λ (n : ℕ). phase_at own (index_in z.frames n)) on.count) in
    subst (AtLeast p) (sym same) later

-- while it is in a body, its phase is that of the request that opened the first
pub open_stays : (s : Script) (x : User) (e : Effect) → is_open (after s x e).frames ≡ true → phase_of s (after s x e) ≡ phase_of s x
open_stays s x e h =
    let z = after s x e in
    let on = after_on s x e in
    let own = (user_script s x.number).phases in
    phase_is s z z.frames ∙ (ap (λ (n : ℕ). phase_at (user_script s n).phases (index_in z.frames z.answered)) on.number
    ∙ (ap (phase_at own) (ap (index_in z.frames) on.count ∙ same_index x.frames z.frames x.answered h) ∙ sym (phase_is s x x.frames)))
  where
    same_index : (old new : List Frame) (n : ℕ) → is_open new ≡ true → index_in new (one_more old n) ≡ index_in old n
    same_index old [] n none = absurd (true≢false (sym none))
    same_index [] (q ∷ outer) n some = omega arith
    same_index (r ∷ others) (q ∷ outer) n some = refl

-- ---- the current phase

both_least : (p : ℕ) (a b : Option ℕ) → AtLeast p (earlier a b) → AtLeast p a × AtLeast p b
both_least p None b h = (tt, h)
both_least p (Some q) None h = (h, tt)
both_least p (Some q) (Some r) h = (omega (arith, h), omega (arith, h))

least_of : (p : ℕ) (a b : Option ℕ) → AtLeast p a → AtLeast p b → AtLeast p (earlier a b)
least_of p None b h g = g
least_of p (Some q) None h g = h
least_of p (Some q) (Some r) h g = omega (arith, h, g)

-- no user is in an earlier phase
abbrev pub NoneEarlier : Script → ℕ → ℕ → User → Type 0
NoneEarlier s p v x = AtLeast p (phase_of s x)

pub each_least : (s : Script) (users : List User) (p : ℕ) → AtLeast p (current_phase s users) → (v : ℕ) (x : User) → slice_get users v ≡ Some x → NoneEarlier s p v x
each_least s [] p h v x here = absurd (none-some x here)
each_least s (y ∷ ys) p h zero x here = subst (λ (z : User). AtLeast p (phase_of s z)) (same_Some y x here) (both_least p (phase_of s y) (current_phase s ys) h).0
each_least s (y ∷ ys) p h (suc v) x here = each_least s ys p (both_least p (phase_of s y) (current_phase s ys) h).1 v x here

pub all_least : (s : Script) (users : List User) (p : ℕ) → ((v : ℕ) (x : User) → slice_get users v ≡ Some x → NoneEarlier s p v x) → AtLeast p (current_phase s users)
all_least s [] p h = tt
all_least s (y ∷ ys) p h = least_of p (phase_of s y) (current_phase s ys) (h zero y refl) (all_least s ys p (λ v x here. h (suc v) x here))

-- a phase that somebody is in, and nobody is in an earlier one, is the current one
current_by : (p : ℕ) (o : Option ℕ) → AtLeast p o → ((q : ℕ) → AtLeast q o → q ≤ p) → o ≡ Some p
current_by p None h most = absurd (omega (arith, most (p + 1) tt))
current_by p (Some r) h most = ap (λ (n : ℕ). Some n) {x = r} {y = p} (omega (arith, h, most r (omega arith)))

pub current_is : (s : Script) (users : List User) (p v : ℕ) (x : User) → slice_get users v ≡ Some x → phase_of s x ≡ Some p → AtLeast p (current_phase s users) → current_phase s users ≡ Some p
current_is s users p v x here mine low =
    current_by p (current_phase s users) low (λ q least. subst (AtLeast q) mine (each_least s users q least v x here))

-- ---- who has a request left

-- two phases that are the same
pub record AreNow (a b : Option ℕ) : Type 0 where
  pub phase : ℕ
  pub first : a ≡ Some phase
  pub second : b ≡ Some phase

pub now_parts : (a b : Option ℕ) → is_now a b ≡ true → AreNow a b
now_parts None b h = absurd (true≢false (sym h))
now_parts (Some p) None h = absurd (true≢false (sym h))
now_parts (Some p) (Some q) h = record { phase = p; first = refl; second = ap (λ (n : ℕ). Some n) (sym (eqb-true p q h)) }

pub now_from : (a b : Option ℕ) → AreNow a b → is_now a b ≡ true
now_from a b h =
    ap (λ (o : Option ℕ). is_now o b) h.first ∙ (ap (λ (o : Option ℕ). is_now (Some h.phase) o) h.second ∙ eq-eqb h.phase h.phase refl)

module _ (s : Script) (users : List User) (u : ℕ) (x : User) (here : slice_get users u ≡ Some x) (e : Effect) (v : ℕ) (apart : v ≡ u → ⊥) where
  abbrev closed : List User
  closed = slice_set users u (after s x e)

  now_stays : (z : User) → slice_get users v ≡ Some z → AreNow (phase_of s z) (current_phase s users) → AreNow (phase_of s z) (current_phase s closed)
  now_stays z there h =
      let p = h.phase in
      let low : AtLeast p (current_phase s users) = subst (AtLeast p) (sym h.second) (omega arith) in
      let each = each_least s users p low in
      let later = all_least s closed p (each_set (NoneEarlier s p) users u (after s x e) each (user_rises s x e p (each u x here))) in
      record { phase = p; first = h.first; second = current_is s closed p v z (set_apart users u v (after s x e) apart ∙ there) h.first later }

  is_left_stays : (z : User) → slice_get users v ≡ Some z → is_left s users z ≡ true → is_left s closed z ≡ true
  is_left_stays z there left = elim (or_cases (is_open z.frames) (is_now (phase_of s z) (current_phase s users)) left) [
    | inl open_body ↦ or_left (is_open z.frames) (is_now (phase_of s z) (current_phase s closed)) open_body
    | inr now ↦
        or_right (is_open z.frames) (is_now (phase_of s z) (current_phase s closed))
        (now_from (phase_of s z) (current_phase s closed) (now_stays z there (now_parts (phase_of s z) (current_phase s users) now)))
  ]

  -- the close of another user's request leaves it that
  pub left_stays : has_left s users v ≡ true → has_left s closed v ≡ true
  left_stays left = by_user (slice_get users v) refl left
    where
      by_user : (o : Option User) → slice_get users v ≡ o → if_there o false (λ z. is_left s users z) ≡ true → has_left s closed v ≡ true
      by_user None there left = absurd (true≢false (sym left))
      by_user (Some z) there left =
          ap (λ (o : Option User). if_there o false (λ y. is_left s closed y)) (set_apart users u v (after s x e) apart ∙ there) ∙ is_left_stays z there left
