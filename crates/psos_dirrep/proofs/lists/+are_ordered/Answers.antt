use Rattle.std.proofs.Common.{◌≡◌, Bool, true, false, [], refl, ap, sym, ◌∙◌, arith}
use Rattle.psos_dirrep.specs.Lists.{order_from}
use Rattle.psos_dirrep.specs.Scan.{is_never}
use Rattle.psos_dirrep.proofs.SlotSteps.{next-slot}
use Rattle.psos_dirrep.proofs.ListSteps.{SlotsFrom, none-from, slots-after, order-step_never, order-step_ended, order-step_going}
use Rattle.psos_dirrep.proofs.lists.+are_ordered.Goals as goal

order_none : (ended : Bool) → order_from ended [] ≡ true
order_none true = refl
order_none false = refl

pub returns-then-g-pages : goal.returns-then-g-pages
returns-then-g-pages t c = sym (ap (order_from c.args.ended) (none-from c.args.pages.now c.args.g c.requires.from (omega arith)) ∙ order_none c.args.ended)

pub are_ordered-requires : goal.are_ordered-requires
are_ordered-requires t c = (omega arith, (next-slot c.args.pages.now c.args.g c.requires.from (omega arith), slots-after c.args.pages.now c.args.g c.requires.from (omega arith) c.requires.slots))

pub returns-then-is_never : goal.returns-then-is_never
returns-then-is_never t c =
    let is = ap is_never (sym c.word_of.ensures) ∙ sym c.is_never.ensures ∙ c.if-is_never.true in
    c.are_ordered.ensures ∙ order-step_never c.args.pages.now c.args.g c.args.ended c.requires.from (omega arith) c.requires.slots is

pub returns-then-ended : goal.returns-then-ended
returns-then-ended t c =
    let is = ap is_never (sym c.word_of.ensures) ∙ sym c.is_never.ensures ∙ c.if-is_never.false in
    sym (ap (λ (b : Bool). order_from b (SlotsFrom c.args.pages.now c.args.g)) c.if-ended.true ∙ order-step_ended c.args.pages.now c.args.g c.requires.from (omega arith) c.requires.slots is)

pub are_ordered-requires-2 : goal.are_ordered-requires-2
are_ordered-requires-2 t c = (omega arith, (next-slot c.args.pages.now c.args.g c.requires.from (omega arith), slots-after c.args.pages.now c.args.g c.requires.from (omega arith) c.requires.slots))

pub returns : goal.returns
returns t c =
    let is = ap is_never (sym c.word_of.ensures) ∙ sym c.is_never.ensures ∙ c.if-is_never.false in
    c.are_ordered-2.ensures ∙ order-step_going c.args.pages.now c.args.g c.requires.from (omega arith) c.requires.slots is ∙ ap (λ (b : Bool). order_from b (SlotsFrom c.args.pages.now c.args.g)) (sym c.if-ended.false)
