use Rattle.std.proofs.Common.{◌≡◌, ◌∙◌, ap, sym, arith, rules, length, replicate}
use Rattle.std.specs.Prelude.{vec_items}
use Rattle.psos_io.specs.Blocks.{block_at}
use Rattle.psos_store.specs.MemoryBlocks.{memory_blocks}
use Rattle.psos_store.proofs.MemoryStore.{behind}
use Rattle.psos_store.proofs.mem_store.MemStoreStore.read.Goals as goal

pub returns-else-block-len-clause-given : goal.returns-else-block-len-clause-given
returns-else-block-len-clause-given c =
    let long : length c.args.out.now ≡ 1032 = search rules in
    c.fill.ensures.after (λ y e. e) ∙ ap (λ n. replicate n 0) long
    ∙ sym (behind (vec_items c.is_failing.new.self.first) c.args.block (omega (arith, c.if-block-len.false, c.len.ensures, c.is_failing.new.self.first.ok.0)) c.requires)
    ∙ ap (λ v. block_at (memory_blocks (vec_items v)) c.args.block) c.if-is_failing.ensures.blocks
