use Rattle.std.proofs.Common.{◌&&◌, Bool, refl, ap, sym, ◌∙◌, arith}
use Rattle.std.specs.Prelude.{is_some}
use Rattle.psos_words.specs.Directory.{slots_of}
use Rattle.psos_dirrep.proofs.SlotSteps.{Later}
use Rattle.psos_dirrep.proofs.ListSteps.{all-slots, all-slots-end}
use Rattle.psos_dirrep.proofs.lists.+are_slots.Goals as goal

pub returns-then-g-pages : goal.returns-then-g-pages
returns-then-g-pages t c = sym (all-slots-end c.args.pages.now c.args.g c.requires (omega arith))

pub returns-then-not-is_slot : goal.returns-then-not-is_slot
returns-then-not-is_slot t c =
    let rest = is_some (slots_of (Later c.args.pages.now c.args.g)) in
    ap (λ (b : Bool). b && rest) (sym c.if-not-is_slot.true) ∙ all-slots c.args.pages.now c.args.g c.word_of-a.result c.word_of-b.result c.word_of-c.result c.word_of-d.result c.is_slot.result rest c.requires (omega arith) c.word_of-a.ensures c.word_of-b.ensures c.word_of-c.ensures c.word_of-d.ensures c.is_slot.ensures refl

pub returns : goal.returns
returns t c =
    ap (λ (b : Bool). b && c.are_slots.result) (sym c.if-not-is_slot.false) ∙ all-slots c.args.pages.now c.args.g c.word_of-a.result c.word_of-b.result c.word_of-c.result c.word_of-d.result c.is_slot.result c.are_slots.result c.requires (omega arith) c.word_of-a.ensures c.word_of-b.ensures c.word_of-c.ensures c.word_of-d.ensures c.is_slot.ensures c.are_slots.ensures
