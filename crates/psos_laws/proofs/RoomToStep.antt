-- A sound state has room for the next request. States docs/requests.md, "Answers".
use Rattle.std.proofs.Common.{◌≡◌, ℕ, ◌+◌, ◌<◌, ◌≤◌, true, List, [], ◌∷◌, length, refl, sym, subst, ◌∙◌, arith}
use Rattle.std.specs.Prelude.{◌^◌, IsTrue}
use Rattle.std.proofs.lemmas.Option.{same_Some}
use Rattle.psos_calls.specs.declared.frame.Frame.{Frame}
use Rattle.psos_calls.specs.Language.Script.{Script, IsWellFormed, requests_of, user_script}
use Rattle.psos_calls.specs.Language.User.{User}
use Rattle.psos_model.specs.Flat.{Flat, Segment}
use Rattle.psos_model.specs.Flat.Within.{IsWithin, IsShort}
use Rattle.psos_model.specs.Answer.CanStep.{CanStep, HasRoom}
use Rattle.psos_model.specs.Run.{is_left, has_left}
use Rattle.psos_model.specs.Sound.Users.{IsSoundUser}
use Rattle.psos_model.specs.Sound.{IsSound}
use Rattle.psos_model.proofs.RequestRanges.{all_index}
use Rattle.psos_model.proofs.RequestsLeft.{are_short}
use Rattle.psos_laws.proofs.RequestsLeft.{left_within, has_user}

-- a user of a script asks at most 241 requests
pub few_requests : (s : Script) → IsWellFormed s → (u : ℕ) → length (requests_of (user_script s u)) ≤ 241
few_requests s w u = all_index IsShort s.users u (record { name = []; phases = [] }) (are_short (length s.codes) s.users w.users) (omega arith)

windows_within : (s : Script) (f : Flat) → IsSound s f → IsWithin f
windows_within s f h = record {
  segments = λ u x there. (h.segments u x there).few;
  windows = λ u w x there under.
      let row = h.windows u w there in
      let same : row.under ≡ x = same_Some row.under x (sym row.live ∙ under) in
      subst (λ (y : Segment). w.base + w.len ≤ length y.words) same row.within;
}

has_room : (s : Script) → IsWellFormed s → (f : Flat) (u : ℕ) (x : User) (frames : List Frame) → x.frames ≡ frames → IsSoundUser s u x → is_left s f.users x ≡ true → HasRoom x frames
has_room s w f u x [] none h left =
    let asked = left_within s f.users x none left in
    let few = few_requests s w x.number in
    omega (arith, asked, few)
has_room s w f u x (q ∷ outer) opened h left = omega (arith, h.paid, h.most)

pub can_step : (s : Script) (f : Flat) (u : ℕ) → IsWellFormed s → IsSound s f → f.next + 2 < 2 ^ 64 → IsTrue (has_left s f.users u) → CanStep f u
can_step s f u w h few left = record {
  identifiers = few;
  within = windows_within s f h;
  counts = λ x there. has_room s w f u x x.frames refl (h.users u x there) (has_user s f.users u x there left);
}
