-- Each answer of a legal order goes on with its user's own part, and leaves the others. States docs/promises.md, "Runs".
use Rattle.std.proofs.Common.{◌≡◌, ℕ, zero, suc, ◌<◌, true, false, cond, List, [], ◌∷◌, length, Option, Some, None, refl, sym, ap, subst, ◌∙◌, arith}
use Rattle.std.specs.Prelude.{⊤, slice_get, slice_set, IsTrue}
use Rattle.std.proofs.lemmas.List.{length-set}
use Rattle.psos_calls.specs.declared.frame.Frame.{Frame}
use Rattle.psos_calls.specs.declared.request.Request.{Request}
use Rattle.psos_calls.specs.Language.Script.{Script, IsWellFormed, body_of, requests_of, user_script}
use Rattle.psos_calls.specs.Language.Tests.{if_there}
use Rattle.psos_calls.specs.Language.User.{User, next_in, place_of, after}
use Rattle.psos_model.specs.Flat.{Flat}
use Rattle.psos_model.specs.Answer.{outcome, answer}
use Rattle.psos_model.specs.Sound.Users.{HasLine}
use Rattle.psos_model.specs.Run.{is_left, has_left}
use Rattle.psos_model.specs.Sound.{IsStart}
use Rattle.psos_model.proofs.OutcomeWalk.{FindsRoom, by_outcome}
use Rattle.psos_model.proofs.FlatStep.{answer_is}
use Rattle.psos_laws.proofs.UserSoundness.{each_set}
use Rattle.psos_laws.proofs.RequestsLeft.{left_within, has_user}
use Rattle.psos_laws.proofs.UserProgress.{IsGoing, GoesOn, AsksIn, goes_on}

-- all users are on their way
pub record AreGoing (s : Script) (users : List User) : Type 0 where
  pub each : (u : ℕ) (x : User) → slice_get users u ≡ Some x → IsGoing s u x
  pub all : length users ≡ length s.users

-- a user that is there
pub record HasUser (users : List User) (u : ℕ) : Type 0 where
  pub row : User
  pub there : slice_get users u ≡ Some row

-- who has a request left is there
pub left_there : (s : Script) (users : List User) (u : ℕ) → has_left s users u ≡ true → HasUser users u
left_there s users u left = by_user (slice_get users u) refl left
  where
    by_user : (o : Option User) → slice_get users u ≡ o → if_there o false (λ x. is_left s users x) ≡ true → HasUser users u
    by_user None e h = absurd (subst (λ b. cond b ⊥ ⊤) h tt)
    by_user (Some x) e h = record { row = x; there = e }

pub asks_in : (s : Script) (users : List User) (x : User) (frames : List Frame) → x.frames ≡ frames → is_left s users x ≡ true → AsksIn s x frames
asks_in s users x [] is left = left_within s users x is left
asks_in s users x (q ∷ outer) is left = tt

-- a place within a list has an element
pub pick : {X : Type 0} (xs : List X) (k : ℕ) → k < length xs → (x : X) × (slice_get xs k ≡ Some x)
pick [] k h = absurd (omega (arith, h))
pick (x ∷ xs) zero h = (x, refl)
pick (x ∷ xs) (suc k) h = pick xs k (omega (arith, h))

-- so it asks something
pub asks : (s : Script) (x : User) (frames : List Frame) → HasLine s frames → AsksIn s x frames → (r : Request) × (next_in s x frames ≡ Some r)
asks s x [] line h = pick (requests_of (user_script s x.number)) x.answered h
asks s x (q ∷ outer) line h = pick (body_of s q.label) q.line line

-- ---- one answer of a legal order: user u's part was x, and is y after it
pub record Turn (s : Script) (f : Flat) (u : ℕ) : Type 0 where
  pub x : User
  pub y : User
  pub there : slice_get f.users u ≡ Some x
  pub on : GoesOn s u x y
  pub users : (answer s f u).0.users ≡ slice_set f.users u y
  pub user : (answer s f u).1.user ≡ u
  pub n : (answer s f u).1.n ≡ (place_of x).0
  pub m : (answer s f u).1.m ≡ (place_of x).1

pub turn : (s : Script) → IsWellFormed s → (f : Flat) (u : ℕ) → AreGoing s f.users → IsTrue (has_left s f.users u) → Turn s f u
turn s w f u h left =
    let is = left_there s f.users u left in
    let x = is.row in
    let going = h.each u x is.there in
    let in_body = asks_in s f.users x x.frames refl (has_user s f.users u x is.there left) in
    let ask = asks s x x.frames going.line in_body in
    let o = outcome f x ask.0 in
    let answers = answer_is s f u x ask.0 is.there ask.1 in
    record {
      x = x;
      y = after s x o.effect;
      there = is.there;
      on = goes_on s w f u x o.effect (by_outcome f x (λ o. FindsRoom f x o.effect) (λ r. tt) (λ o d. d.effect) ask.0) going in_body;
      users = ap (λ a. a.0.users) answers;
      user = ap (λ a. a.1.user) answers;
      n = ap (λ a. a.1.n) answers;
      m = ap (λ a. a.1.m) answers;
    }

-- after it all users are on their way
pub turn_going : (s : Script) (f : Flat) (u : ℕ) → AreGoing s f.users → Turn s f u → AreGoing s (answer s f u).0.users
turn_going s f u h t = subst (AreGoing s) (sym t.users) (record {
  each = each_set (IsGoing s) f.users u t.y h.each t.on.going;
  all = length-set f.users u t.y ∙ h.all;
})

-- from a start all are
pub start_going : (s : Script) (f : Flat) → IsStart s f → AreGoing s f.users
start_going s f h = record {
  each = λ u x there.
      let sound = h.sound.users u x there in
      let fresh = h.users u x there in
      record { number = sound.number; line = sound.line; most = sound.most; few = omega (arith, fresh.answered) };
  all = h.sound.all_users;
}
