use Rattle.std.proofs.Common.{◌+◌, ◌&&◌, not, Bool, ap, sym, ◌∙◌, arith}
use Rattle.psos_words.specs.Directory.{are_apart}
use Rattle.psos_dirrep.proofs.SlotSteps.{next-slot}
use Rattle.psos_dirrep.proofs.ListSteps.{SlotsFrom, none-from, slots-after, apart-step_used, apart-step_none}
use Rattle.psos_dirrep.proofs.lists.+are_apart.Goals as goal

pub returns-then-g-pages : goal.returns-then-g-pages
returns-then-g-pages t c = sym (ap are_apart (none-from c.args.pages.now c.args.g c.requires.from (omega arith)))

pub has_later-requires-clause-slots : goal.has_later-requires-clause-slots
has_later-requires-clause-slots t c = slots-after c.args.pages.now c.args.g c.requires.from (omega arith) c.requires.slots

pub are_apart-requires : goal.are_apart-requires
are_apart-requires t c = (omega arith, (next-slot c.args.pages.now c.args.g c.requires.from (omega arith), slots-after c.args.pages.now c.args.g c.requires.from (omega arith) c.requires.slots))

pub are_apart-requires-in-None : goal.are_apart-requires-in-None
are_apart-requires-in-None t c = (omega arith, (next-slot c.args.pages.now c.args.g c.requires.from (omega arith), slots-after c.args.pages.now c.args.g c.requires.from (omega arith) c.requires.slots))

pub returns-then-has_later : goal.returns-then-has_later
returns-then-has_later t c =
    let pages = c.args.pages.now in
    let is = sym c.halves_at.ensures ∙ c.in-Some.is in
    sym (apart-step_used pages c.args.g (c.in-Some.high, c.in-Some.low) c.requires.from (omega arith) c.requires.slots is
    ∙ ap (λ (b : Bool). not b && are_apart (SlotsFrom pages (c.args.g + 1))) (sym c.has_later.ensures ∙ c.if-has_later.true))

pub returns-else-has_later : goal.returns-else-has_later
returns-else-has_later t c =
    let pages = c.args.pages.now in
    let is = sym c.halves_at.ensures ∙ c.in-Some.is in
    c.are_apart.ensures
    ∙ sym (apart-step_used pages c.args.g (c.in-Some.high, c.in-Some.low) c.requires.from (omega arith) c.requires.slots is
    ∙ ap (λ (b : Bool). not b && are_apart (SlotsFrom pages (c.args.g + 1))) (sym c.has_later.ensures ∙ c.if-has_later.false))

pub returns-in-None : goal.returns-in-None
returns-in-None t c =
    let pages = c.args.pages.now in
    let is = sym c.halves_at.ensures ∙ c.in-None.is in
    c.are_apart-in-None.ensures ∙ sym (apart-step_none pages c.args.g c.requires.from (omega arith) c.requires.slots is)
