use Rattle.std.proofs.Common.{◌<◌, nat_lt, length, ap₂, ◌∙◌, arith}
use Rattle.std.proofs.lemmas.List.{get_or_default}
use Rattle.psos_sysproc.proofs.LockTables.{users-are, lowest-is}
use Rattle.psos_sysproc.proofs.table.Table.are_earlier.Goals as goal

pub index-requires : goal.index-requires
index-requires c =
    let users = users-are c.self.inside.owners.items c.self.inside.lowest.items c.self.invariant.1 c.args.self.now c.self.view_is in
    omega (arith, users, c.self.inside.lowest.ok.0, c.requires)

pub returns : goal.returns
returns c =
    let users = users-are c.self.inside.owners.items c.self.inside.lowest.items c.self.invariant.1 c.args.self.now c.self.view_is in
    let below : c.args.user < length c.self.inside.lowest.items = omega (arith, users, c.requires) in
    let look = c.index.ensures ∙ get_or_default c.self.inside.lowest.items c.args.user c.index.result.now 14 below in
    ap₂ nat_lt c.rank.ensures.value look ∙ lowest-is c.self.inside.owners.items c.self.inside.lowest.items c.self.invariant.1 c.args.self.now c.self.view_is c.args.lock c.args.user below
