use Rattle.std.proofs.Common.{false, ◌+◌, ◌*◌, ◌/◌, ◌%◌, List, ap, sym, subst, ◌∙◌}
use Rattle.psos_words.specs.declared.word.Word.{Word}
use Rattle.psos_words.specs.Directory.{entry_words}
use Rattle.psos_calls.specs.declared.level.Level.TheVariants.{L7}
use Rattle.psos_calls.specs.declared.level_call.LevelCall.TheVariants.{FourPut}
use Rattle.psos_calls.specs.declared.next.Next.TheVariants.{Call}
use Rattle.psos_calls.specs.declared.step.Step.{Step}
use Rattle.psos_calls.specs.Language.User.{here}
use Rattle.psos_calls.specs.Plan.{refuse, if_done}
use Rattle.psos_calls.specs.Plan.Parts.{put_slot, fine}
use Rattle.psos_calls.specs.Plan.Trace.{followed, next_of}
use Rattle.psos_plan_dir.specs.Reads.{IsRun}
use Rattle.psos_plan_dir.proofs.DirectoryPlans.{bind-front, bind-next, bind-read, bind-run, bind_in, bind-ends, written-is, asks-next, next-by, room-ok, room-err}
use Rattle.psos_plan_dir.proofs.directories.next_bind.Goals as goal

pub read_dir-requires : goal.read_dir-requires
read_dir-requires c =
    bind-front (here c.args.me.now) c.args.rs c.args.name.now c.args.rv c.in-Cap.cap c.in-Cap-here.value (c.here.ensures.at ∙ c.in-Cap.is) (c.here-2.ensures.at ∙ c.in-Cap-here.is) c.args.trace
    c.in-Some.a c.in-Some.rest c.in-Some.ensures c.in-Guard.guard c.in-Guard.is c.in_default-admits.ensures.passes c.uid.result.0 c.uid.ensures c.requires.run

pub returns-in-Next : goal.returns-in-Next
returns-in-Next c =
    bind-next (here c.args.me.now) c.args.rs c.args.name.now c.args.rv c.in-Cap.cap c.in-Cap-here.value (c.here.ensures.at ∙ c.in-Cap.is) (c.here-2.ensures.at ∙ c.in-Cap-here.is) c.args.trace
    c.in-Some.a c.in-Some.rest c.in-Some.ensures c.in-Guard.guard c.in-Guard.is c.in_default-admits.ensures.passes c.uid.result.0 c.uid.ensures c.in-Next.next c.in-Next.ensures

pub returns-in-Some-split_first : goal.returns-in-Some-split_first
returns-in-Some-split_first c =
    let name = c.args.name.now in
    let value = c.in-Cap-here.value in
    let d = c.in-Done.open in
    let cases = c.in-Some-split_first.ensures in
    let run =
    bind-run (here c.args.me.now) c.args.rs name c.args.rv c.in-Cap.cap value (c.here.ensures.at ∙ c.in-Cap.is) (c.here-2.ensures.at ∙ c.in-Cap-here.is) c.args.trace
    c.in-Some.a c.in-Some.rest c.in-Some.ensures c.in-Guard.guard c.in-Guard.is c.in_default-admits.ensures.passes c.uid.result.0 c.uid.ensures d c.in-Done.rest c.in-Done.ensures c.requires.run in
    c.done.ensures
    ∙ written-is (bind-ends name value d) c.in-Some-split_first.written _ (subst (IsRun (bind_in name value d)) cases run)
    ∙ ap (λ (t : List Step). next_of (followed (bind_in name value d) t)) (sym cases)
    ∙ bind-read (here c.args.me.now) c.args.rs name c.args.rv c.in-Cap.cap value (c.here.ensures.at ∙ c.in-Cap.is) (c.here-2.ensures.at ∙ c.in-Cap-here.is) c.args.trace
    c.in-Some.a c.in-Some.rest c.in-Some.ensures c.in-Guard.guard c.in-Guard.is c.in_default-admits.ensures.passes c.uid.result.0 c.uid.ensures d c.in-Done.rest c.in-Done.ensures

pub returns-in-Ok : goal.returns-in-Ok
returns-in-Ok c =
    let name = c.args.name.now in
    let value = c.in-Cap-here.value in
    let d = c.in-Done.open in
    let k = c.in-Ok.k in
    let room = room-ok d name k (λ i. put_slot d i (entry_words name value false) fine) (sym c.in-Ok.is ∙ c.room_for.ensures) in
    c.write.ensures ∙ ap (λ (ws : List Word). Call L7 (FourPut (8 * d.slot + k / 16) (4 * (k % 16)) ws)) c.entry_words.ensures
    ∙ asks-next (bind_in name value d) (FourPut (8 * d.slot + k / 16) (4 * (k % 16)) (entry_words name value false)) (λ a. if_done a fine) c.in-Done.rest room c.in_default-split_first-2.ensures
    ∙ bind-read (here c.args.me.now) c.args.rs name c.args.rv c.in-Cap.cap value (c.here.ensures.at ∙ c.in-Cap.is) (c.here-2.ensures.at ∙ c.in-Cap-here.is) c.args.trace
    c.in-Some.a c.in-Some.rest c.in-Some.ensures c.in-Guard.guard c.in-Guard.is c.in_default-admits.ensures.passes c.uid.result.0 c.uid.ensures d c.in-Done.rest c.in-Done.ensures

pub returns-in-Err-room_for : goal.returns-in-Err-room_for
returns-in-Err-room_for c =
    let name = c.args.name.now in
    let value = c.in-Cap-here.value in
    let d = c.in-Done.open in
    let refusal = c.in-Err-room_for.refusal in
    let room = room-err d name refusal (λ i. put_slot d i (entry_words name value false) fine) (sym c.in-Err-room_for.is ∙ c.room_for.ensures) in
    c.refuse-in-Err-room_for.ensures ∙ next-by (bind_in name value d) (refuse refusal) c.in-Done.rest room
    ∙ bind-read (here c.args.me.now) c.args.rs name c.args.rv c.in-Cap.cap value (c.here.ensures.at ∙ c.in-Cap.is) (c.here-2.ensures.at ∙ c.in-Cap-here.is) c.args.trace
    c.in-Some.a c.in-Some.rest c.in-Some.ensures c.in-Guard.guard c.in-Guard.is c.in_default-admits.ensures.passes c.uid.result.0 c.uid.ensures d c.in-Done.rest c.in-Done.ensures
