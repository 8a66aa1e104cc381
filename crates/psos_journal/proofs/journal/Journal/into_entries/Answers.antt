use Rattle.std.proofs.Common.{arith}
use Rattle.std.proofs.lemmas.Option.{slice_get_within}
use Rattle.psos_journal.proofs.MetMembers.{met_next}
use Rattle.psos_journal.proofs.journal.Journal.into_entries.Goals as goal

pub loop-k-preserved : goal.loop-k-preserved
loop-k-preserved g c =
    let met = c.meets.ensures in
    met_next c.loop-k.k c.args.self c.loop-k.self c.meets.new.self c.args.members.items c.loop-k.members.items c.index_mut-member.result.now c.meets.new.member
    c.loop-k.invariant c.index_mut-member.ensures.value met.same.0 met.same.1 (record { lists = met.meets; told = met.told })

pub returns-clause-lists : goal.returns-clause-lists
returns-clause-lists g c k m at =
    let within = slice_get_within c.args.members.items k m at in
    (c.loop-k.invariant.shown k m (omega (arith, within, c.loop-k-test.false, c.len-k-end.ensures, c.args.members.ok)) at).lists

pub returns-clause-told : goal.returns-clause-told
returns-clause-told g c k m at =
    let within = slice_get_within c.args.members.items k m at in
    (c.loop-k.invariant.shown k m (omega (arith, within, c.loop-k-test.false, c.len-k-end.ensures, c.args.members.ok)) at).told
