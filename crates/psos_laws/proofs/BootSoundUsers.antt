-- The users of boot are sound, and have asked nothing. States docs/promises.md, "Sound states".
use Rattle.std.proofs.Common.{◌≡◌, ℕ, zero, suc, ◌+◌, List, [], ◌∷◌, length, Some, refl, sym, ap, subst, ◌∙◌, arith}
use Rattle.std.specs.Prelude.{slice_get}
use Rattle.std.proofs.lemmas.Option.{same_Some, none-some, get_or_from_slice_get}
use Rattle.psos_calls.specs.Language.Script.{Script, UserScript, IsWellFormed, requests_of}
use Rattle.psos_calls.specs.Language.User.{User}
use Rattle.psos_model.specs.Flat.Boot.{boot, boot_user, boot_users}
use Rattle.psos_model.specs.Flat.Within.{IsShort}
use Rattle.psos_model.specs.Sound.Users.{IsSoundUser}
use Rattle.psos_model.specs.Sound.{IsFresh}
use Rattle.psos_model.proofs.RequestRanges.{all_get}
use Rattle.psos_model.proofs.RequestsLeft.{are_short}

-- user u of a list that is counted from i, and its text
record IsFrom (i : ℕ) (users : List UserScript) (u : ℕ) (x : User) : Type 0 where
  text : UserScript
  asked : slice_get users u ≡ Some text
  is : boot_user (i + u) text ≡ x

from_list : (i : ℕ) (users : List UserScript) (u : ℕ) (x : User) → slice_get (boot_users i users) u ≡ Some x → IsFrom i users u x
from_list i [] u x e = absurd (none-some x e)
from_list i (user ∷ users) zero x e =
    let same : i + 0 ≡ i = omega arith in
    record { text = user; asked = refl; is = ap (λ n. boot_user n user) same ∙ same_Some (boot_user i user) x e }
from_list i (user ∷ users) (suc u) x e =
    let rest = from_list (i + 1) users u x e in
    let same : i + suc u ≡ i + 1 + u = omega arith in
    record { text = rest.text; asked = rest.asked; is = ap (λ n. boot_user n rest.text) same ∙ rest.is }

-- user u of boot, and its text
pub record IsBootUser (s : Script) (u : ℕ) (x : User) : Type 0 where
  pub text : UserScript
  pub asked : slice_get s.users u ≡ Some text
  pub is : boot_user u text ≡ x

pub boot_user_is : (s : Script) (u : ℕ) (x : User) → slice_get (boot s).users u ≡ Some x → IsBootUser s u x
boot_user_is s u x e =
    let h = from_list 0 s.users u x e in
    let same : u ≡ 0 + u = omega arith in
    record { text = h.text; asked = h.asked; is = ap (λ n. boot_user n h.text) same ∙ h.is }

user_sound : (s : Script) → IsWellFormed s → (u : ℕ) (text : UserScript) → slice_get s.users u ≡ Some text → IsSoundUser s u (boot_user u text)
user_sound s w u text e =
    let few = all_get IsShort s.users u text (are_short (length s.codes) s.users w.users) e in
    record {
      number = refl;
      process = refl;
      regs = refl;
      path = omega arith;
      frames = tt;
      few = omega arith;
      line = tt;
      most = omega (arith, few);
      paid = omega arith;
    }

pub boot_users_sound : (s : Script) → IsWellFormed s → (u : ℕ) (x : User) → slice_get (boot s).users u ≡ Some x → IsSoundUser s u x
boot_users_sound s w u x e =
    let h = boot_user_is s u x e in
    subst (IsSoundUser s u) h.is (user_sound s w u h.text h.asked)

pub boot_users_fresh : (s : Script) (u : ℕ) (x : User) → slice_get (boot s).users u ≡ Some x → IsFresh s u x
boot_users_fresh s u x e =
    let h = boot_user_is s u x e in
    let text = get_or_from_slice_get s.users u h.text (record { name = []; phases = [] }) h.asked in
    subst (IsFresh s u) h.is (record { answered = refl; within = refl; frames = refl; charge = ap (λ user. length (requests_of user)) (sym text) })

pub users_count : (i : ℕ) (users : List UserScript) → length (boot_users i users) ≡ length users
users_count i [] = refl
users_count i (user ∷ users) = ap suc (users_count (i + 1) users)
