use Rattle.std.proofs.Common.{◌≡◌, arith, rules, length}
use Rattle.std.specs.Prelude.{vec_items}
use Rattle.std.proofs.lemmas.List.{length-set}
use Rattle.psos_store.proofs.MemoryStore.{sized-set}
use Rattle.psos_store.proofs.mem_store.MemStoreStore.write.Goals as goal

pub invariant_of-self-2 : goal.invariant_of-self-2
invariant_of-self-2 c =
    let long : length c.args.from.now ≡ 1032 = search rules in
    record { room = c.reach.new.self.room; few = omega (arith, c.reach.new.self.few, length-set (vec_items c.reach.new.self.first) c.args.block c.args.from.now); sized = sized-set (vec_items c.reach.new.self.first) c.args.block c.args.from.now (omega (arith, c.reach.ensures.long)) c.reach.new.self.sized long }
