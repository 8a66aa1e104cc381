use Rattle.std.proofs.Common.{◌≡◌, ◌≤◌, ◌+◌, List, [], ◌∷◌, ◌++◌, sym, subst, arith}
use Rattle.std.proofs.lemmas.Grind.{common_steps}
use Rattle.psos_calls.specs.declared.line.Line.{Line}
use Rattle.psos_model.specs.Flat.{Flat}
use Rattle.psos_model.specs.Flat.Boot.{boot}
use Rattle.psos_rows.proofs.SerialRun.{IsSerialSoFar, serial_start, serial_next, serial_whole, serial_end}
use Rattle.psos_rows.proofs.serial.serial_lines.Goals as goal

pub turns-init : goal.turns-init
turns-init c =
    let s = c.args.script.now in
    let F : Flat → Type 0 = λ f. IsSerialSoFar s f c.new-lines.result.items 0 in
    let L : List Line → Type 0 = λ ls. IsSerialSoFar s (boot s) ls 0 in
    subst F (sym c.in_ok-flat.ensures) (subst L (sym c.new-lines.ensures.items) (serial_start s c.requires))

pub returns-in_default : goal.returns-in_default
returns-in_default c =
    serial_whole c.args.script.now c.turns.flat c.turns.lines.items c.turns.stamp c.turns.invariant c.in_default.ensures.none

pub turns-preserved : goal.turns-preserved
turns-preserved c =
    let s = c.args.script.now in
    let L : List Line → Type 0 = λ ls. IsSerialSoFar s c.next_line.new.flat ls (c.turns.stamp + 1) in
    let pushed : c.push.new.self.items ≡ c.turns.lines.items ++ c.in_ok-next_line.field-0 ∷ [] = grind (arith, common_steps) in
    subst L (sym pushed) (serial_next s c.requires c.turns.flat c.next_line.new.flat c.turns.lines.items c.turns.stamp c.in-Some.user c.in_ok-next_line.field-0
    c.turns.invariant c.in-Some.ensures.some c.in_ok-next_line.ensures)

pub returns : goal.returns
returns c =
    let s = c.args.script.now in
    let all : 32768 ≤ c.turns.stamp = omega (arith, c.turns-test.false) in
    serial_whole s c.turns.flat c.turns.lines.items c.turns.stamp c.turns.invariant
    (serial_end s c.requires c.turns.flat c.turns.lines.items c.turns.stamp c.turns.invariant all)
