use Rattle.std.proofs.Common.{List, sym, ap, subst, ◌∙◌}
use Rattle.psos_text.specs.declared.name.Name.{Name}
use Rattle.psos_words.specs.Words.{word_at}
use Rattle.psos_calls.specs.declared.effect.Effect.TheVariants.{Nothing}
use Rattle.psos_calls.specs.declared.next.Next.TheVariants.{Close}
use Rattle.psos_calls.specs.declared.reply.Reply.TheVariants.{Names}
use Rattle.psos_calls.specs.declared.right.Right.TheVariants as rights
use Rattle.psos_calls.specs.Language.User.{here}
use Rattle.psos_plan_dir.specs.Listing.{TellsNames}
use Rattle.psos_plan_dir.proofs.NameLists.{err-then}
use Rattle.psos_plan_dir.proofs.DirectoryPlans.{opens-front, opens-left, opens-next, opens-read, list_in}
use Rattle.psos_plan_dir.proofs.listing.next_list.Goals as goal

pub open_dir-requires : goal.open_dir-requires
open_dir-requires c = opens-front (word_at (here c.args.me.now) c.args.rs) c.in-Cap.cap rights.List list_in c.args.trace (c.here.ensures.at ∙ c.in-Cap.is) (λ d. tt) c.requires.run

pub returns-in-Next-clause-answer : goal.returns-in-Next-clause-answer
returns-in-Next-clause-answer c = opens-next (word_at (here c.args.me.now) c.args.rs) c.in-Cap.cap rights.List list_in c.args.trace (c.here.ensures.at ∙ c.in-Cap.is) c.in-Next.next c.in-Next.ensures

pub returns-in_err-names-clause-memory : goal.returns-in_err-names-clause-memory
returns-in_err-names-clause-memory c =
    let left = opens-left (word_at (here c.args.me.now) c.args.rs) c.in-Cap.cap rights.List list_in c.args.trace (c.here.ensures.at ∙ c.in-Cap.is) c.in-Done.open c.in-Done.field-1 c.in-Done.ensures in
    err-then c.from_residual.result _ (subst TellsNames (sym left) tt)

pub returns-clause-answer : goal.returns-clause-answer
returns-clause-answer c =
    ap (λ (names : List Name). Close (Names names) Nothing) c.in_ok-names.ensures
    ∙ opens-read (word_at (here c.args.me.now) c.args.rs) c.in-Cap.cap rights.List list_in c.args.trace (c.here.ensures.at ∙ c.in-Cap.is) c.in-Done.open c.in-Done.field-1 c.in-Done.ensures
