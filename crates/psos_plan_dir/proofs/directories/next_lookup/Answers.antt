use Rattle.std.proofs.Common.{Bool, ℕ, ◌∙◌}
use Rattle.psos_caps.specs.Capability.{Capability}
use Rattle.psos_words.specs.declared.word.Word.TheVariants.{Cap}
use Rattle.psos_words.specs.Words.{word_at}
use Rattle.psos_words.specs.Directory.{find}
use Rattle.psos_calls.specs.Language.User.{here}
use Rattle.psos_calls.specs.declared.refusal.Refusal.TheVariants.{UnknownName}
use Rattle.psos_calls.specs.declared.right.Right.TheVariants.{Lookup}
use Rattle.psos_calls.specs.Plan.{refuse, give}
use Rattle.psos_plan_dir.proofs.DirectoryPlans.{opens-front, opens-next, opens-read, lookup_in, lookup-apart, if-found, if-missing, next-by}
use Rattle.psos_plan_dir.proofs.directories.next_lookup.Goals as goal

pub open_dir-requires : goal.open_dir-requires
open_dir-requires c =
    let rd = c.args.rd in
    let name = c.args.name.now in
    opens-front (word_at (here c.args.me.now) c.args.rs) c.in-Cap.cap Lookup (lookup_in rd name) c.args.trace (c.here.ensures.at ∙ c.in-Cap.is) (lookup-apart rd name) c.requires.run

pub returns-in-Next : goal.returns-in-Next
returns-in-Next c =
    opens-next (word_at (here c.args.me.now) c.args.rs) c.in-Cap.cap Lookup (lookup_in c.args.rd c.args.name.now) c.args.trace (c.here.ensures.at ∙ c.in-Cap.is) c.in-Next.next c.in-Next.ensures

pub returns-in-Some : goal.returns-in-Some
returns-in-Some c =
    let rd = c.args.rd in
    let name = c.args.name.now in
    let rest = c.in-Done.field-1 in
    let found = if-found (find c.in-Done.open.slots name) c.in-Some.found (refuse UnknownName) (λ (k : ℕ) (cap : Capability) (kept : Bool). give rd (Cap cap)) c.in-Some.ensures in
    c.give.ensures ∙ next-by (lookup_in rd name c.in-Done.open) (give rd (Cap c.in-Some.found.cap)) rest found
    ∙ opens-read (word_at (here c.args.me.now) c.args.rs) c.in-Cap.cap Lookup (lookup_in rd name) c.args.trace (c.here.ensures.at ∙ c.in-Cap.is) c.in-Done.open rest c.in-Done.ensures

pub returns-in-None : goal.returns-in-None
returns-in-None c =
    let rd = c.args.rd in
    let name = c.args.name.now in
    let rest = c.in-Done.field-1 in
    let missing = if-missing (find c.in-Done.open.slots name) (refuse UnknownName) (λ found. give rd (Cap found.entry.cap)) c.in-None.ensures in
    c.refuse-in-None.ensures ∙ next-by (lookup_in rd name c.in-Done.open) (refuse UnknownName) rest missing
    ∙ opens-read (word_at (here c.args.me.now) c.args.rs) c.in-Cap.cap Lookup (lookup_in rd name) c.args.trace (c.here.ensures.at ∙ c.in-Cap.is) c.in-Done.open rest c.in-Done.ensures
