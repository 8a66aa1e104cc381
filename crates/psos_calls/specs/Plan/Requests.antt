-- The plan of each request. States docs/requests.md, "Plans".
use Rattle.psos_calls.specs.declared.request.Request.{Request}
use Rattle.psos_calls.specs.declared.request.Request.TheVariants.{Mint, Restrict, Set, Move, Add, Read, Write, Window, Length, Lookup, Bind, Unbind, List, Impl, MkSeg, MkDir, MkType, MkObj, MkCode, Delete, Send, Recv, Call, Path, Find}
use Rattle.psos_calls.specs.Language.User.{User, here}
use Rattle.psos_calls.specs.Plan.{Plan}
use Rattle.psos_calls.specs.Plan.Segments.{plan_mint, plan_restrict, plan_set, plan_move, plan_add, plan_read, plan_write, plan_window, plan_length}
use Rattle.psos_calls.specs.Plan.Directories.{plan_lookup, plan_bind, plan_unbind, plan_list, plan_path, plan_find}
use Rattle.psos_calls.specs.Plan.Objects.{plan_impl, plan_mkseg, plan_mkdir, plan_mktype, plan_mkobj, plan_mkcode, plan_delete}
use Rattle.psos_calls.specs.Plan.Processes.{plan_send, plan_recv, plan_call}

-- the plan of a request of this user
abbrev pub plan_of : User → Request → Plan
plan_of me (Mint rd) = plan_mint rd
plan_of me (Restrict rd rs keep) = plan_restrict (here me) rd rs keep.0
plan_of me (Set rd n) = plan_set rd n
plan_of me (Move rd rs) = plan_move (here me) rd rs
plan_of me (Add rd ra rb) = plan_add (here me) rd ra rb
plan_of me (Read rd rs n) = plan_read (here me) rd rs n
plan_of me (Write rs n rv) = plan_write (here me) rs n rv
plan_of me (Window rd rs base len) = plan_window (here me) rd rs base len
plan_of me (Length rd rs) = plan_length (here me) rd rs
plan_of me (Lookup rd rs name) = plan_lookup (here me) rd rs name
plan_of me (Bind rs name rv) = plan_bind (here me) rs name rv
plan_of me (Unbind rs name) = plan_unbind (here me) rs name
plan_of me (List rs) = plan_list (here me) rs
plan_of me (Impl rd rt ro) = plan_impl (here me) rd rt ro
plan_of me (MkSeg rd rs name len guard) = plan_mkseg (here me) rd rs name len guard
plan_of me (MkDir rd rs name guard) = plan_mkdir (here me) rd rs name guard
plan_of me (MkType rd rs name) = plan_mktype (here me) rd rs name
plan_of me (MkObj rd rt rs name len) = plan_mkobj (here me) rd rt rs name len
plan_of me (MkCode rd rs name label rl) = plan_mkcode (here me) rd rs name label rl
plan_of me (Delete rs name) = plan_delete (here me) rs name
plan_of me (Send rp rv) = plan_send (here me) rp rv
plan_of me (Recv rd) = plan_recv me.process rd
plan_of me (Call rp) = plan_call me (here me) rp
plan_of me (Path rs) = plan_path (here me) me.path rs
plan_of me (Find rd name) = plan_find me.path rd name
