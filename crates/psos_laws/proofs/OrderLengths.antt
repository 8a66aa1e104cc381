-- Legal orders end. States docs/promises.md, "Runs".
use Rattle.std.proofs.Common.{◌≡◌, ℕ, zero, suc, ◌+◌, ◌*◌, ◌≤◌, List, [], ◌∷◌, length, Some, refl, ap, arith}
use Rattle.std.specs.Prelude.{slice_get, slice_set}
use Rattle.std.proofs.lemmas.Option.{same_Some, none-some}
use Rattle.psos_limits.specs.declared.TheConstants.{MOST_CHARGE}
use Rattle.psos_calls.specs.Language.Script.{Script, IsWellFormed, requests_of, user_script}
use Rattle.psos_calls.specs.Language.User.{User}
use Rattle.psos_model.specs.Flat.{Flat}
use Rattle.psos_model.specs.Answer.{answer}
use Rattle.psos_model.specs.Sound.Users.{lines_left}
use Rattle.psos_model.specs.Run.{IsLegalFrom}
use Rattle.psos_model.specs.Sound.{IsStart, IsFresh}
use Rattle.psos_laws.proofs.UserProgress.{may_ask}
use Rattle.psos_laws.proofs.AnswerProgress.{AreGoing, turn, turn_going, start_going}

-- what all users may still ask at most
abbrev pub all_may_ask : Script → List User → ℕ
all_may_ask s [] = 0
all_may_ask s (x ∷ xs) = may_ask s x + all_may_ask s xs

-- it gets less where one user may ask less
less_by : (s : Script) (users : List User) (u : ℕ) (x y : User) → slice_get users u ≡ Some x → may_ask s y + 1 ≤ may_ask s x → all_may_ask s (slice_set users u y) + 1 ≤ all_may_ask s users
less_by s [] u x y there less = absurd (none-some x there)
less_by s (z ∷ zs) zero x y there less =
    let same : may_ask s z ≡ may_ask s x = ap (may_ask s) (same_Some z x there) in
    omega (arith, less, same)
less_by s (z ∷ zs) (suc u) x y there less = omega (arith, less_by s zs u x y there less)

at_most : (s : Script) (users : List User) → ((u : ℕ) (x : User) → slice_get users u ≡ Some x → may_ask s x ≤ MOST_CHARGE) → all_may_ask s users ≤ MOST_CHARGE * length users
at_most s [] h = omega arith
at_most s (x ∷ xs) h =
    let first : may_ask s x ≤ MOST_CHARGE = h zero x refl in
    let rest = at_most s xs (λ u y e. h (suc u) y e) in
    omega (arith, first, rest)

-- each request of a legal order is paid
paid : (s : Script) → IsWellFormed s → (order : List ℕ) (f : Flat) → AreGoing s f.users → IsLegalFrom s f order → length order ≤ all_may_ask s f.users
paid s w [] f h legal = omega arith
paid s w (u ∷ us) f h legal =
    let t = turn s w f u h legal.0 in
    let rest = paid s w us (answer s f u).0 (turn_going s f u h t) legal.1 in
    let users : all_may_ask s (answer s f u).0.users ≡ all_may_ask s (slice_set f.users u t.y) = ap (all_may_ask s) t.users in
    let less = less_by s f.users u t.x t.y t.there t.on.less in
    omega (arith, rest, users, less)

-- a user that has asked nothing may ask so much
fresh_may : (s : Script) (u : ℕ) (x : User) → x.number ≡ u → IsFresh s u x → may_ask s x ≤ MOST_CHARGE
fresh_may s u x number fresh =
    let asked : length (requests_of (user_script s x.number)) ≡ length (requests_of (user_script s u)) = ap (λ n. length (requests_of (user_script s n))) number in
    let lines : lines_left s x.frames ≡ 0 = ap (lines_left s) fresh.frames in
    omega (arith, asked, lines, fresh.charge, fresh.answered)

pub orders_end : (s : Script) (f : Flat) (order : List ℕ) → IsWellFormed s → IsStart s f → IsLegalFrom s f order → length order ≤ 32768
orders_end s f order w start legal =
    let going = start_going s f start in
    let steps = paid s w order f going legal in
    let most = at_most s f.users (λ u x there. fresh_may s u x (start.sound.users u x there).number (start.users u x there)) in
    omega (arith, steps, most, going.all, w.few_users)
