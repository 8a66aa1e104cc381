-- What each request answers and changes. States docs/requests.md, "Answers".
pub mod Outcomes
pub mod Segments
pub mod Directories
pub mod Objects
pub mod Processes
pub mod CanStep
use Rattle.std.specs.Prelude.{ℕ, slice_get, slice_set, Option, Some, None}
use Rattle.std.specs.Option.{option_map}
use Rattle.psos_calls.specs.declared.request.Request.{Request}
use Rattle.psos_calls.specs.declared.request.Request.TheVariants.{Mint, Restrict, Set, Move, Add, Read, Write, Window, Length, Lookup, Bind, Unbind, List, Impl, MkSeg, MkDir, MkType, MkObj, MkCode, Delete, Send, Recv, Call, Path, Find}
use Rattle.psos_calls.specs.declared.reply.Reply.{Reply}
use Rattle.psos_calls.specs.declared.reply.Reply.TheVariants.{Fine}
use Rattle.psos_calls.specs.Language.Script.{Script}
use Rattle.psos_calls.specs.Language.User.{User, next_request, place_of, after}
use Rattle.psos_calls.specs.Language.Tests.{if_there}
use Rattle.psos_model.specs.Flat.{Flat}
use Rattle.psos_model.specs.Flat.Changes.{changed_all}
use Rattle.psos_model.specs.Answer.Outcomes.{Outcome}
use Rattle.psos_model.specs.Answer.Segments.{answer_mint, answer_restrict, answer_set, answer_move, answer_add, answer_read, answer_write, answer_window, answer_length}
use Rattle.psos_model.specs.Answer.Directories.{answer_lookup, answer_bind, answer_unbind, answer_list, answer_path, answer_find}
use Rattle.psos_model.specs.Answer.Objects.{answer_impl, answer_mkseg, answer_mkdir, answer_mktype, answer_mkobj, answer_mkcode, answer_delete}
use Rattle.psos_model.specs.Answer.Processes.{answer_send, answer_recv, answer_call}

-- the outcome of a request of user x
abbrev pub outcome : Flat → User → Request → Outcome
outcome f x (Mint rd) = answer_mint f rd
outcome f x (Restrict rd rs keep) = answer_restrict x rd rs keep.0
outcome f x (Set rd n) = answer_set rd n
outcome f x (Move rd rs) = answer_move x rd rs
outcome f x (Add rd ra rb) = answer_add x rd ra rb
outcome f x (Read rd rs n) = answer_read f x rd rs n
outcome f x (Write rs n rv) = answer_write f x rs n rv
outcome f x (Window rd rs base len) = answer_window f x rd rs base len
outcome f x (Length rd rs) = answer_length f x rd rs
outcome f x (Lookup rd rs name) = answer_lookup f x rd rs name
outcome f x (Bind rs name rv) = answer_bind f x rs name rv
outcome f x (Unbind rs name) = answer_unbind f x rs name
outcome f x (List rs) = answer_list f x rs
outcome f x (Impl rd rt ro) = answer_impl f x rd rt ro
outcome f x (MkSeg rd rs name len guard) = answer_mkseg f x rd rs name len guard
outcome f x (MkDir rd rs name guard) = answer_mkdir f x rd rs name guard
outcome f x (MkType rd rs name) = answer_mktype f x rd rs name
outcome f x (MkObj rd rt rs name len) = answer_mkobj f x rd rt rs name len
outcome f x (MkCode rd rs name label rl) = answer_mkcode f x rd rs name label rl
outcome f x (Delete rs name) = answer_delete f x rs name
outcome f x (Send rp rv) = answer_send f x rp rv
outcome f x (Recv rd) = answer_recv f x rd
outcome f x (Call rp) = answer_call f x rp
outcome f x (Path rs) = answer_path f x rs
outcome f x (Find rd name) = answer_find f x rd name

-- a request that was answered: its user, its place n or n/m, and the reply
pub record Answered : Type 0 where
  pub user : ℕ
  pub n : ℕ
  pub m : ℕ
  pub reply : Reply

-- no user, or no request: nothing is answered. No legal order asks for it
abbrev pub silence : ℕ → Answered
silence u = record { user = u; n = 0; m = 0; reply = Fine }

abbrev pub answer_to : Script → Flat → ℕ → User → Option Request → Flat × Answered
answer_to s f u x None = (f, silence u)
answer_to s f u x (Some request) =
    let o = outcome f x request in (
      record (changed_all f o.changes) { users = slice_set f.users u (after s x o.effect) },
      record { user = u; n = (place_of x).0; m = (place_of x).1; reply = o.reply },
    )

-- user u's next request is answered
abbrev pub answer : Script → Flat → ℕ → Flat × Answered
answer s f u = if_there (slice_get f.users u) (f, silence u) (λ x. answer_to s f u x (next_request s x))

-- what user u's next request will do
abbrev pub next_outcome : Script → Flat → ℕ → Option Outcome
next_outcome s f u = if_there (slice_get f.users u) None (λ x. option_map (outcome f x) (next_request s x))
