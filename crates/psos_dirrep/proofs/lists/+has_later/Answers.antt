use Rattle.std.proofs.Common.{◌+◌, ◌||◌, ℕ, Bool, Option, ap, sym, ◌∙◌, arith}
use Rattle.std.specs.List.{list_any}
use Rattle.psos_words.specs.Directory.{has_name, name_from}
use Rattle.psos_dirrep.specs.Lists.{is_named}
use Rattle.psos_dirrep.proofs.SlotSteps.{next-slot}
use Rattle.psos_dirrep.proofs.ListSteps.{SlotsFrom, none-from, slots-after, any-from}
use Rattle.psos_dirrep.proofs.lists.+has_later.Goals as goal

pub returns-then-g-pages : goal.returns-then-g-pages
returns-then-g-pages t c = sym (ap (list_any (has_name (name_from c.args.high c.args.low))) (none-from c.args.pages.now c.args.g c.requires.from (omega arith)))

pub returns-then-is_named : goal.returns-then-is_named
returns-then-is_named t c =
    let rest = list_any (has_name (name_from c.args.high c.args.low)) (SlotsFrom c.args.pages.now (c.args.g + 1)) in
    let is = ap (λ (o : Option (ℕ × ℕ)). is_named o c.args.high c.args.low) (sym c.halves_at.ensures) ∙ sym c.is_named.ensures ∙ c.if-is_named.true in
    sym (any-from c.args.pages.now c.args.g c.args.high c.args.low c.requires.from (omega arith) c.requires.slots ∙ ap (λ (b : Bool). b || rest) is)

pub has_later-requires : goal.has_later-requires
has_later-requires t c = (omega arith, (next-slot c.args.pages.now c.args.g c.requires.from (omega arith), slots-after c.args.pages.now c.args.g c.requires.from (omega arith) c.requires.slots))

pub returns : goal.returns
returns t c =
    let rest = list_any (has_name (name_from c.args.high c.args.low)) (SlotsFrom c.args.pages.now (c.args.g + 1)) in
    let is = ap (λ (o : Option (ℕ × ℕ)). is_named o c.args.high c.args.low) (sym c.halves_at.ensures) ∙ sym c.is_named.ensures ∙ c.if-is_named.false in
    c.has_later.ensures ∙ sym (any-from c.args.pages.now c.args.g c.args.high c.args.low c.requires.from (omega arith) c.requires.slots ∙ ap (λ (b : Bool). b || rest) is)
