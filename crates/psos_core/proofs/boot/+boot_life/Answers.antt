use Rattle.std.proofs.Common.{sym, length, ◌≤◌, subst, ◌+◌, ◌<◌, arith}
use Rattle.std.proofs.lemmas.Grind.{common_steps}
use Rattle.psos_limits.specs.declared.TheConstants.{MOST_WORDS}
use Rattle.psos_table.specs.Table.{Table, size}
use Rattle.psos_calls.specs.declared.kind.Kind.{Kind}
use Rattle.psos_core.proofs.BootTables.{new_under, next_life, few_life}
use Rattle.psos_core.proofs.boot.+boot_life.Goals as goal

pub enrol-requires-clause-new : goal.enrol-requires-clause-new
enrol-requires-clause-new t c = new_under _ _ 6 c.from.result c.args.i c.in_ok-life.ensures c.from.ensures (next_life c.args.i c.in-Some.rest.now)

pub enrol-requires-clause-room : goal.enrol-requires-clause-room
enrol-requires-clause-room t c =
    let short : length c.in-Some.rest.now ≤ 8 = grind (arith, common_steps) in
    subst (λ (m : Table Kind). size m < MOST_WORDS) (sym c.in_ok-life.ensures) (few_life (c.args.i + 1) c.in-Some.rest.now short)
