use Rattle.std.proofs.Common.{◌≡◌, ◌<◌, ◌≤◌, length, slice_get, refl, sym, ap, ◌∙◌, Vec, Global, ℕ, ◌+◌, ◌-◌, arith}
use Rattle.std.proofs.lemmas.Option.{slice_get_read}
use Rattle.psos_calls.specs.declared.request.Request.{Request}
use Rattle.psos_calls.proofs.PhasePlaces.{from, from-within, from-past}
use Rattle.psos_calls.proofs.user_text.UserText.request.Goals as goal

pub returns-then-left-len : goal.returns-then-left-len
returns-then-left-len c =
    let within : c.phases.left < length c.phase-item.result.items = omega (arith, c.len.ensures, c.if-left-len.true) in
    sym (c.phases.invariant ∙ from-within (λ (p : Vec Request Global). p.items) c.deref-phase-items.result.now c.phases.phase-index c.phases.left c.phase-item.result c.phases-test.true c.phase-item.is within
    ∙ slice_get_read c.phase-item.result.items (length c.phase-item.result.items) c.phases.left c.index.result.now refl within c.index.ensures)

pub phases-preserved : goal.phases-preserved
phases-preserved c =
    let past : length c.phase-item.result.items ≤ c.phases.left = omega (arith, c.len.ensures, c.if-left-len.false) in
    let lower : length c.phase-item.result.items ≡ c.len-left.result = omega (arith, c.len-left.ensures) in
    c.phases.invariant ∙ from-past (λ (p : Vec Request Global). p.items) c.deref-phase-items.result.now c.phases.phase-index c.phases.left c.phase-item.result c.phases-test.true c.phase-item.is past
    ∙ ap (λ (n : ℕ). slice_get (from (λ (p : Vec Request Global). p.items) c.deref-phase-items.result.now (c.phases.phase-index + 1)) (c.phases.left - n)) lower
