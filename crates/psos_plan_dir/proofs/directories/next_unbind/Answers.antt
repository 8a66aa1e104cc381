use Rattle.std.proofs.Common.{Bool, not, ℕ, List, ap, sym, subst, ◌∙◌}
use Rattle.psos_caps.specs.Capability.{Capability}
use Rattle.psos_words.specs.Words.{word_at}
use Rattle.psos_words.specs.Directory.{find, gone_words}
use Rattle.psos_calls.specs.declared.refusal.Refusal.TheVariants.{UnknownName, Distinguished}
use Rattle.psos_calls.specs.declared.right.Right.TheVariants.{Unbind}
use Rattle.psos_calls.specs.declared.step.Step.{Step}
use Rattle.psos_calls.specs.Language.User.{here}
use Rattle.psos_calls.specs.Plan.{refuse}
use Rattle.psos_calls.specs.Plan.Parts.{put_slot, fine}
use Rattle.psos_calls.specs.Language.Tests.{if_holds}
use Rattle.psos_calls.specs.Plan.Trace.{followed, next_of}
use Rattle.psos_plan_dir.specs.Reads.{IsRun}
use Rattle.psos_plan_dir.proofs.DirectoryPlans.{opens-front, opens-next, opens-read, opens-run, unbind_in, unbind-ends, writing-apart, written-is, if-found, if-missing, next-by, followed-none}
use Rattle.psos_plan_dir.proofs.directories.next_unbind.Goals as goal

pub open_dir-requires : goal.open_dir-requires
open_dir-requires c =
    let name = c.args.name.now in
    opens-front (word_at (here c.args.me.now) c.args.rs) c.in-Cap.cap Unbind (unbind_in name) c.args.trace (c.here.ensures.at ∙ c.in-Cap.is) (λ d. writing-apart (unbind-ends name d)) c.requires.run

pub returns-in-Next : goal.returns-in-Next
returns-in-Next c =
    opens-next (word_at (here c.args.me.now) c.args.rs) c.in-Cap.cap Unbind (unbind_in c.args.name.now) c.args.trace (c.here.ensures.at ∙ c.in-Cap.is) c.in-Next.next c.in-Next.ensures

pub returns-in-Some : goal.returns-in-Some
returns-in-Some c =
    let w = word_at (here c.args.me.now) c.args.rs in
    let go = unbind_in c.args.name.now in
    let e = c.here.ensures.at ∙ c.in-Cap.is in
    let d = c.in-Done.open in
    let rest = c.in-Done.rest in
    let cases = c.in-Some.ensures in
    let run = opens-run w c.in-Cap.cap Unbind go c.args.trace e d rest c.in-Done.ensures c.requires.run in
    c.done.ensures
    ∙ written-is (unbind-ends c.args.name.now d) c.in-Some.written _ (subst (IsRun (go d)) cases run)
    ∙ ap (λ (t : List Step). next_of (followed (go d) t)) (sym cases)
    ∙ opens-read w c.in-Cap.cap Unbind go c.args.trace e d rest c.in-Done.ensures

pub returns-in-Some-find : goal.returns-in-Some-find
returns-in-Some-find c =
    let name = c.args.name.now in
    let d = c.in-Done.open in
    let found = c.in-Some-find.found in
    let left = if_holds (not found.kept) (refuse Distinguished) (put_slot d found.slot gone_words fine) in
    let there = if-found (find d.slots name) found (refuse UnknownName) (λ (k : ℕ) (cap : Capability) (kept : Bool). if_holds (not kept) (refuse Distinguished) (put_slot d k gone_words fine)) c.in-Some-find.ensures in
    c.remove.ensures ∙ ap next_of (sym (followed-none left)) ∙ ap (λ (t : List Step). next_of (followed left t)) (sym c.in_default-split_first.ensures)
    ∙ next-by (unbind_in name d) left c.in-Done.rest there
    ∙ opens-read (word_at (here c.args.me.now) c.args.rs) c.in-Cap.cap Unbind (unbind_in name) c.args.trace (c.here.ensures.at ∙ c.in-Cap.is) d c.in-Done.rest c.in-Done.ensures

pub returns-in-None : goal.returns-in-None
returns-in-None c =
    let name = c.args.name.now in
    let d = c.in-Done.open in
    let missing = if-missing (find d.slots name) (refuse UnknownName) (λ found. if_holds (not found.entry.kept) (refuse Distinguished) (put_slot d found.slot gone_words fine)) c.in-None.ensures in
    c.refuse-in-None.ensures ∙ next-by (unbind_in name d) (refuse UnknownName) c.in-Done.rest missing
    ∙ opens-read (word_at (here c.args.me.now) c.args.rs) c.in-Cap.cap Unbind (unbind_in name) c.args.trace (c.here.ensures.at ∙ c.in-Cap.is) d c.in-Done.rest c.in-Done.ensures
