use Rattle.std.proofs.Common.{◌^◌, ◌*◌, ◌%◌}
use Rattle.psos_calls.specs.declared.level.Level.TheVariants.{L13, L12, L11, L10, L9, L8, L7, L0}
use Rattle.psos_journal.proofs.JournalInvariant.{bit_shifted}
use Rattle.psos_locks.proofs.PlaceOfLevel.{at_level, behind}
use Rattle.psos_locks.proofs.Settling.{names_next}
use Rattle.psos_locks.proofs.hands.Hands.names.Goals as goal

pub returns : goal.returns
returns g c =
    let h = c.args.self.now in
    let u = c.args.user in
    let n1 = names_next u ((1 * 2 ^ u) % 2 ^ 64) c.name_one-names.result (at_level L13 h) (behind L13 h) (bit_shifted u c.requires.user) c.name_one-names.ensures in
    let n2 = names_next u c.name_one-names.result c.name_one-names-2.result (at_level L12 h) (behind L12 h) (n1) c.name_one-names-2.ensures in
    let n3 = names_next u c.name_one-names-2.result c.name_one-names-3.result (at_level L11 h) (behind L11 h) (n2) c.name_one-names-3.ensures in
    let n4 = names_next u c.name_one-names-3.result c.name_one-names-4.result (at_level L10 h) (behind L10 h) (n3) c.name_one-names-4.ensures in
    let n5 = names_next u c.name_one-names-4.result c.name_one-names-5.result (at_level L9 h) (behind L9 h) (n4) c.name_one-names-5.ensures in
    let n6 = names_next u c.name_one-names-5.result c.name_one-names-6.result (at_level L8 h) (behind L8 h) (n5) c.name_one-names-6.ensures in
    let n7 = names_next u c.name_one-names-6.result c.name_one-names-7.result (at_level L7 h) (behind L7 h) (n6) c.name_one-names-7.ensures in
    let n8 = names_next u c.name_one-names-7.result c.name_one.result (at_level L0 h) (behind L0 h) (n7) c.name_one.ensures in
    n8
