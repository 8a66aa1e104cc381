-- Where a user's next request can be answered. States docs/requests.md, "Answers".
use Rattle.std.specs.Prelude.{◌≡◌, ℕ, ◌+◌, ◌<◌, ◌^◌, List, [], ◌∷◌, slice_get, Some}
use Rattle.psos_calls.specs.declared.answer.Answer.{Answer}
use Rattle.psos_calls.specs.declared.frame.Frame.{Frame}
use Rattle.psos_calls.specs.Language.User.{User}
use Rattle.psos_model.specs.Flat.{Flat}
use Rattle.psos_model.specs.Answer.{Answered}
use Rattle.psos_model.specs.Flat.Within.{IsWithin}

-- the count that the next request raises has room in its type: of lines in an open body, else of script requests
abbrev pub HasRoom : User → List Frame → Type 0
HasRoom x [] = x.answered + 1 < 2 ^ 16
HasRoom x (q ∷ outer) = x.within + 1 < 2 ^ 16

-- two identifiers are left, windows lie within their segments, and the user's next count has room
pub record CanStep (f : Flat) (u : ℕ) : Type 0 where
  pub identifiers : f.next + 2 < 2 ^ 64
  pub within : IsWithin f
  pub counts : (x : User) → slice_get f.users u ≡ Some x → HasRoom x x.frames

-- the answer of code is that of the definitions
pub record IsAnswer (a : Answer) (b : Answered) : Type 0 where
  pub n : a.n ≡ b.n
  pub m : a.m ≡ b.m
  pub reply : a.reply ≡ b.reply
