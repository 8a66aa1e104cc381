use Rattle.std.proofs.Common.{◌≡◌, ◌+◌, List, [], ◌∷◌, ◌++◌, length, sym, subst, ◌∙◌, arith}
use Rattle.std.proofs.lemmas.Grind.{common_steps}
use Rattle.psos_calls.specs.declared.line.Line.{Line}
use Rattle.psos_model.specs.Flat.{Flat}
use Rattle.psos_model.specs.Flat.Boot.{boot}
use Rattle.psos_rows.proofs.OrderRun.{IsAtPlace, place_start, place_few, place_next, place_stops, place_done, whole_told}
use Rattle.psos_rows.proofs.order.order_lines.Goals as goal

pub users-init : goal.users-init
users-init c =
    let s = c.args.script.now in
    let F : Flat → Type 0 = λ f. IsAtPlace s f c.args.order.now c.new-lines.result.items 0 in
    let L : List Line → Type 0 = λ ls. IsAtPlace s (boot s) c.args.order.now ls 0 in
    subst F (sym c.in_ok-flat.ensures) (subst L (sym c.new-lines.ensures.items) (place_start s c.requires c.args.order.now))

-- ---- the next user

pub overflow_cast-stamp : goal.overflow_cast-stamp
overflow_cast-stamp c =
    let count : c.len-stamp.result ≡ length c.users.lines.items = omega (arith, c.len-stamp.ensures) in
    let few = place_few c.args.script.now c.requires c.users.flat c.args.order.now c.users.lines.items c.users.user-index c.len-stamp.result c.users.invariant count
    (sym c.left.ensures ∙ c.if-not-left.false) in
    omega (arith, few)

pub next_line-requires-clause-few : goal.next_line-requires-clause-few
next_line-requires-clause-few c =
    let count : c.len-stamp.result ≡ length c.users.lines.items = omega (arith, c.len-stamp.ensures) in
    place_few c.args.script.now c.requires c.users.flat c.args.order.now c.users.lines.items c.users.user-index c.len-stamp.result c.users.invariant count
    (sym c.left.ensures ∙ c.if-not-left.false)

pub users-preserved : goal.users-preserved
users-preserved c =
    let s = c.args.script.now in
    let i = c.users.user-index in
    let L : List Line → Type 0 = λ ls. IsAtPlace s c.next_line.new.flat c.args.order.now ls (i + 1) in
    let count : c.len-stamp.result ≡ length c.users.lines.items = omega (arith, c.len-stamp.ensures) in
    let pushed : c.push.new.self.items ≡ c.users.lines.items ++ c.in_ok-next_line.field-0 ∷ [] = grind (arith, common_steps) in
    subst L (sym pushed) (place_next s c.requires c.users.flat c.next_line.new.flat c.args.order.now c.users.lines.items i c.len-stamp.result c.in_ok-next_line.field-0
    c.users.invariant c.users-test.true count (sym c.left.ensures ∙ c.if-not-left.false) c.in_ok-next_line.ensures)

-- ---- where the run ends

pub returns-then-not-left-clause-front : goal.returns-then-not-left-clause-front
returns-then-not-left-clause-front c =
    place_stops c.args.script.now c.users.flat c.args.order.now c.users.lines.items c.users.user-index c.users.invariant c.users-test.true
    (sym c.left.ensures ∙ c.if-not-left.true)

pub returns-then-not-left-clause-whole : goal.returns-then-not-left-clause-whole
returns-then-not-left-clause-whole c = whole_told c.args.script.now c.args.order.now c.users.lines.items (returns-then-not-left-clause-front c)

pub returns-clause-front : goal.returns-clause-front
returns-clause-front c =
    place_done c.args.script.now c.users.flat c.args.order.now c.users.lines.items c.users.user-index c.users.invariant c.users-test.false

pub returns-clause-whole : goal.returns-clause-whole
returns-clause-whole c = whole_told c.args.script.now c.args.order.now c.users.lines.items (returns-clause-front c)
