use Rattle.std.proofs.Common.{◌&&◌, Bool, true, sym, ap, ◌∙◌}
use Rattle.psos_words.specs.Directory.{are_in_order, are_apart}
use Rattle.psos_dirrep.specs.Pages.{words_of, slots_in}
use Rattle.psos_dirrep.proofs.DecodeTests.{decode-some, decode-none, some-slots}
use Rattle.psos_dirrep.proofs.lists.is_list.Goals as goal

pub returns-then-not-are_slots : goal.returns-then-not-are_slots
returns-then-not-are_slots c = sym (decode-none c.args.pages.now c.requires.are (sym c.are_slots.ensures ∙ c.if-not-are_slots.true))

pub returns-then-not-ends_never : goal.returns-then-not-ends_never
returns-then-not-ends_never c =
    let words = words_of c.args.pages.now in
    let xs = slots_in words in
    let slots = some-slots words (sym c.are_slots.ensures ∙ c.if-not-are_slots.false) in
    sym (decode-some c.args.pages.now xs c.requires.are c.requires.few slots ∙ ap (λ (b : Bool). true && b && are_in_order xs && are_apart xs) (sym c.ends_never.ensures ∙ c.if-not-ends_never.true))

pub returns-then-not-are_ordered : goal.returns-then-not-are_ordered
returns-then-not-are_ordered c =
    let words = words_of c.args.pages.now in
    let xs = slots_in words in
    let slots = some-slots words (sym c.are_slots.ensures ∙ c.if-not-are_slots.false) in
    sym (decode-some c.args.pages.now xs c.requires.are c.requires.few slots
    ∙ ap (λ (b : Bool). true && b && are_in_order xs && are_apart xs) (sym c.ends_never.ensures ∙ c.if-not-ends_never.false)
    ∙ ap (λ (b : Bool). true && true && b && are_apart xs) (sym c.are_ordered.ensures ∙ c.if-not-are_ordered.true))

pub returns : goal.returns
returns c =
    let words = words_of c.args.pages.now in
    let xs = slots_in words in
    let slots = some-slots words (sym c.are_slots.ensures ∙ c.if-not-are_slots.false) in
    c.are_apart.ensures
    ∙ sym (decode-some c.args.pages.now xs c.requires.are c.requires.few slots
    ∙ ap (λ (b : Bool). true && b && are_in_order xs && are_apart xs) (sym c.ends_never.ensures ∙ c.if-not-ends_never.false)
    ∙ ap (λ (b : Bool). true && true && b && are_apart xs) (sym c.are_ordered.ensures ∙ c.if-not-are_ordered.false))
