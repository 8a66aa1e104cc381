-- A user's next request, by its plan and by its answer.
use Rattle.std.proofs.Common.{◌≡◌, ℕ, ◌+◌, ◌^◌, ◌≤◌, List, [], Option, Some, None, refl, sym, ap, ◌∙◌, subst}
use Rattle.std.specs.Prelude.{slice_get, slice_set}
use Rattle.psos_calls.specs.declared.request.Request.{Request}
use Rattle.psos_calls.specs.declared.request.Request.TheVariants.{Mint, Restrict, Set, Move, Add, Read, Write, Window, Length, Lookup, Bind, Unbind, Impl, MkSeg, MkDir, MkType, MkObj, MkCode, Delete, Send, Recv, Call, Path, Find}
use Rattle.psos_calls.specs.declared.request.Request.TheVariants as requests
use Rattle.psos_calls.specs.declared.reply.Reply.{Reply}
use Rattle.psos_calls.specs.declared.reply.Reply.TheVariants as replies
use Rattle.psos_calls.specs.declared.effect.Effect.{Effect}
use Rattle.psos_calls.specs.declared.entry.Entry.{Entry}
use Rattle.psos_calls.specs.Language.Script.{Script, IsWellFormed}
use Rattle.psos_calls.specs.Language.User.{User, next_request, place_of, after}
use Rattle.psos_calls.specs.Levels.{Levels, act}
use Rattle.psos_calls.specs.Plan.{Plan, Close, Ask, Runs, run_plan}
use Rattle.psos_calls.specs.Plan.Requests.{plan_of}
use Rattle.psos_calls.specs.Language.Tests.{if_there}
use Rattle.psos_model.specs.Flat.{Flat}
use Rattle.psos_model.specs.Answer.{Answered, outcome, answer_to, answer, silence}
use Rattle.psos_model.specs.Replay.{System, replay_to, answered_of}
use Rattle.psos_model.specs.Sound.{IsSound}
use Rattle.psos_model.specs.Replay.StandsFor.{StandsFor}
use Rattle.psos_model.proofs.RequestRanges.{in_range}
use Rattle.psos_agree.specs.Agreement.{Ready, Meets, Agrees, KeepsIfNo, RequestsAgree}
use Rattle.psos_agree.proofs.TablesStand.{tables_stand}
use Rattle.psos_agree.proofs.SegmentsAgree.{mint_agrees, restrict_agrees, set_agrees, move_agrees, add_agrees, read_agrees, write_agrees, window_agrees, length_agrees}
use Rattle.psos_agree.proofs.DirectoriesAgree.{lookup_agrees, bind_agrees, unbind_agrees, list_agrees, path_agrees, find_agrees}
use Rattle.psos_agree.proofs.TypeAndCodeCreation.{mktype_agrees, mkcode_agrees}
use Rattle.psos_agree.proofs.CreationsAgree.{mkseg_agrees, mkdir_agrees, mkobj_agrees}
use Rattle.psos_agree.proofs.DeletionsAgree.{delete_agrees}
use Rattle.psos_agree.proofs.ProcessesAgree.{impl_agrees, send_agrees, recv_agrees, call_agrees}

-- each request
pub all_agree : (request : Request) → Agrees request
all_agree (Mint rd) = mint_agrees rd
all_agree (Restrict rd rs keep) = restrict_agrees rd rs keep
all_agree (Set rd n) = set_agrees rd n
all_agree (Move rd rs) = move_agrees rd rs
all_agree (Add rd ra rb) = add_agrees rd ra rb
all_agree (Read rd rs n) = read_agrees rd rs n
all_agree (Write rs n rv) = write_agrees rs n rv
all_agree (Window rd rs base span) = window_agrees rd rs base span
all_agree (Length rd rs) = length_agrees rd rs
all_agree (Lookup rd rs name) = lookup_agrees rd rs name
all_agree (Bind rs name rv) = bind_agrees rs name rv
all_agree (Unbind rs name) = unbind_agrees rs name
all_agree (requests.List rs) = list_agrees rs
all_agree (Impl rd rt ro) = impl_agrees rd rt ro
all_agree (MkSeg rd rs name len guard) = mkseg_agrees rd rs name len guard
all_agree (MkDir rd rs name guard) = mkdir_agrees rd rs name guard
all_agree (MkType rd rs name) = mktype_agrees rd rs name
all_agree (MkObj rd rt rs name len) = mkobj_agrees rd rt rs name len
all_agree (MkCode rd rs name label rl) = mkcode_agrees rd rs name label rl
all_agree (Delete rs name) = delete_agrees rs name
all_agree (Send rp rv) = send_agrees rp rv
all_agree (Recv rd) = recv_agrees rd
all_agree (Call rp) = call_agrees rp
all_agree (Path rs) = path_agrees rs
all_agree (Find rd name) = find_agrees rd name

-- what holds where a plan's calls are made one after another holds of its run
pub runs_run : (plan : Plan) (l : Levels) (P : Levels → Reply → Effect → Type 0) → Runs plan l P
    → P (run_plan plan l).levels (run_plan plan l).reply (run_plan plan l).effect
runs_run (Close reply effect) l P h = h
runs_run (Ask call go) l P h = runs_run (go (act l call).1) (act l call).0 P h.1

-- the users' own parts stand apart
pub with_users : {y : System} {f : Flat} → StandsFor y f → (us vs : List User) → us ≡ vs → StandsFor (record y { users = us }) (record f { users = vs })
with_users h us vs e =
    tables_stand h h.next h.codes h.boxes h.life h.types h.windows e h.objects

-- ---- one step

-- a step of the replay and the answer to the same request
record Step (y : System) (r : System × Entry) (a : Flat × Answered) : Type 0 where
  stands : StandsFor r.0 a.0
  answered : answered_of r.1 ≡ a.1
  kept : KeepsIfNo r.1.reply y.levels r.0.levels

step_by : (s : Script) (y : System) (f : Flat) (u : ℕ) (x : User) (request : Request) → Ready s y f u x request
    → Step y (replay_to s y u x (Some request)) (answer_to s f u x (Some request))
step_by s y f u x request ready =
    let o = outcome f x request in
    let met = runs_run (plan_of x request) y.levels (Meets x y f o) (all_agree request s y f u x ready) in
    record {
      stands = with_users met.stands _ _ (ap (λ (e : Effect). slice_set y.users u (after s x e)) met.effect-is ∙ ap (λ (xs : List User). slice_set xs u (after s x o.effect)) ready.stands.users);
      answered = ap (λ (r : Reply). (let a : Answered = record { user = u; n = (place_of x).0; m = (place_of x).1; reply = r } in a)) met.reply-is;
      kept = met.kept;
    }

step_to : (s : Script) (y : System) (f : Flat) (u : ℕ) (x : User) (o : Option Request) → next_request s x ≡ o → IsWellFormed s
    → StandsFor y f → IsSound s f → f.next + 3 ≤ 2 ^ 64 → slice_get f.users u ≡ Some x
    → Step y (replay_to s y u x o) (answer_to s f u x o)
step_to s y f u x None asks well h sound room here = record { stands = h; answered = refl; kept = tt }
step_to s y f u x (Some request) asks well h sound room here =
    step_by s y f u x request (record { well = well; stands = h; sound = sound; room = room; here = here; asks = asks; in_range = in_range s well x request asks })

step_of : (s : Script) (y : System) (f : Flat) (u : ℕ) (o : Option User) → slice_get f.users u ≡ o → IsWellFormed s
    → StandsFor y f → IsSound s f → f.next + 3 ≤ 2 ^ 64
    → Step y (if_there o (y, record { user = u; n = 0; m = 0; steps = []; reply = replies.Fine }) (λ x. replay_to s y u x (next_request s x)))
    (if_there o (f, silence u) (λ x. answer_to s f u x (next_request s x)))
step_of s y f u None here well h sound room = record { stands = h; answered = refl; kept = tt }
step_of s y f u (Some x) here well h sound room = step_to s y f u x (next_request s x) refl well h sound room here

pub step_agrees : RequestsAgree
step_agrees s y f u well h sound room =
    let P : Option User → Type 0 = λ o. Step y (if_there o (y, record { user = u; n = 0; m = 0; steps = []; reply = replies.Fine }) (λ x. replay_to s y u x (next_request s x))) (answer s f u) in
    let same : slice_get f.users u ≡ slice_get y.users u = ap (λ (xs : List User). slice_get xs u) (sym h.users) in
    let one = subst P same (step_of s y f u (slice_get f.users u) refl well h sound room) in
    record { stands = one.stands; answered = one.answered; kept = one.kept }
