use Rattle.std.proofs.Common.{ap, refl}
use Rattle.psos_calls.specs.declared.entry.Entry.{Entry}
use Rattle.psos_calls.specs.declared.level.Level.TheVariants.{L13, L12, L11, L10, L9, L8, L7, L0}
use Rattle.psos_journal.specs.Views.{JournalState}
use Rattle.psos_locks.proofs.PlaceOfLevel.{at_level, behind}
use Rattle.psos_locks.proofs.Settling.{left_next, ready_next}
use Rattle.psos_locks.proofs.hands.Hands.settle.Goals as goal

pub settle_one-requires-clause-ready : goal.settle_one-requires-clause-ready
settle_one-requires-clause-ready g c = c.requires.ready.0

pub settle_one-requires-2-clause-ready : goal.settle_one-requires-2-clause-ready
settle_one-requires-2-clause-ready g c =
    let s = g.T.Run.script in
    let h = c.args.self.now in
    let r2 = ready_next s c.args.journal.now.entries c.settle_one.new.journal.entries c.args.pen.now c.settle_one.new.pen (at_level L0 h) (behind L0 h) (ap (λ (j : JournalState Entry). j.entries) c.settle_one.ensures.journal) c.settle_one.ensures.pen c.requires.ready in
    r2.0

pub settle_one-requires-3-clause-ready : goal.settle_one-requires-3-clause-ready
settle_one-requires-3-clause-ready g c =
    let s = g.T.Run.script in
    let h = c.args.self.now in
    let r2 = ready_next s c.args.journal.now.entries c.settle_one.new.journal.entries c.args.pen.now c.settle_one.new.pen (at_level L0 h) (behind L0 h) (ap (λ (j : JournalState Entry). j.entries) c.settle_one.ensures.journal) c.settle_one.ensures.pen c.requires.ready in
    let r3 = ready_next s c.settle_one.new.journal.entries c.settle_one-2.new.journal.entries c.settle_one.new.pen c.settle_one-2.new.pen (at_level L7 h) (behind L7 h) (ap (λ (j : JournalState Entry). j.entries) c.settle_one-2.ensures.journal) c.settle_one-2.ensures.pen r2 in
    r3.0

pub settle_one-requires-4-clause-ready : goal.settle_one-requires-4-clause-ready
settle_one-requires-4-clause-ready g c =
    let s = g.T.Run.script in
    let h = c.args.self.now in
    let r2 = ready_next s c.args.journal.now.entries c.settle_one.new.journal.entries c.args.pen.now c.settle_one.new.pen (at_level L0 h) (behind L0 h) (ap (λ (j : JournalState Entry). j.entries) c.settle_one.ensures.journal) c.settle_one.ensures.pen c.requires.ready in
    let r3 = ready_next s c.settle_one.new.journal.entries c.settle_one-2.new.journal.entries c.settle_one.new.pen c.settle_one-2.new.pen (at_level L7 h) (behind L7 h) (ap (λ (j : JournalState Entry). j.entries) c.settle_one-2.ensures.journal) c.settle_one-2.ensures.pen r2 in
    let r4 = ready_next s c.settle_one-2.new.journal.entries c.settle_one-3.new.journal.entries c.settle_one-2.new.pen c.settle_one-3.new.pen (at_level L8 h) (behind L8 h) (ap (λ (j : JournalState Entry). j.entries) c.settle_one-3.ensures.journal) c.settle_one-3.ensures.pen r3 in
    r4.0

pub settle_one-requires-5-clause-ready : goal.settle_one-requires-5-clause-ready
settle_one-requires-5-clause-ready g c =
    let s = g.T.Run.script in
    let h = c.args.self.now in
    let r2 = ready_next s c.args.journal.now.entries c.settle_one.new.journal.entries c.args.pen.now c.settle_one.new.pen (at_level L0 h) (behind L0 h) (ap (λ (j : JournalState Entry). j.entries) c.settle_one.ensures.journal) c.settle_one.ensures.pen c.requires.ready in
    let r3 = ready_next s c.settle_one.new.journal.entries c.settle_one-2.new.journal.entries c.settle_one.new.pen c.settle_one-2.new.pen (at_level L7 h) (behind L7 h) (ap (λ (j : JournalState Entry). j.entries) c.settle_one-2.ensures.journal) c.settle_one-2.ensures.pen r2 in
    let r4 = ready_next s c.settle_one-2.new.journal.entries c.settle_one-3.new.journal.entries c.settle_one-2.new.pen c.settle_one-3.new.pen (at_level L8 h) (behind L8 h) (ap (λ (j : JournalState Entry). j.entries) c.settle_one-3.ensures.journal) c.settle_one-3.ensures.pen r3 in
    let r5 = ready_next s c.settle_one-3.new.journal.entries c.settle_one-4.new.journal.entries c.settle_one-3.new.pen c.settle_one-4.new.pen (at_level L9 h) (behind L9 h) (ap (λ (j : JournalState Entry). j.entries) c.settle_one-4.ensures.journal) c.settle_one-4.ensures.pen r4 in
    r5.0

pub settle_one-requires-6-clause-ready : goal.settle_one-requires-6-clause-ready
settle_one-requires-6-clause-ready g c =
    let s = g.T.Run.script in
    let h = c.args.self.now in
    let r2 = ready_next s c.args.journal.now.entries c.settle_one.new.journal.entries c.args.pen.now c.settle_one.new.pen (at_level L0 h) (behind L0 h) (ap (λ (j : JournalState Entry). j.entries) c.settle_one.ensures.journal) c.settle_one.ensures.pen c.requires.ready in
    let r3 = ready_next s c.settle_one.new.journal.entries c.settle_one-2.new.journal.entries c.settle_one.new.pen c.settle_one-2.new.pen (at_level L7 h) (behind L7 h) (ap (λ (j : JournalState Entry). j.entries) c.settle_one-2.ensures.journal) c.settle_one-2.ensures.pen r2 in
    let r4 = ready_next s c.settle_one-2.new.journal.entries c.settle_one-3.new.journal.entries c.settle_one-2.new.pen c.settle_one-3.new.pen (at_level L8 h) (behind L8 h) (ap (λ (j : JournalState Entry). j.entries) c.settle_one-3.ensures.journal) c.settle_one-3.ensures.pen r3 in
    let r5 = ready_next s c.settle_one-3.new.journal.entries c.settle_one-4.new.journal.entries c.settle_one-3.new.pen c.settle_one-4.new.pen (at_level L9 h) (behind L9 h) (ap (λ (j : JournalState Entry). j.entries) c.settle_one-4.ensures.journal) c.settle_one-4.ensures.pen r4 in
    let r6 = ready_next s c.settle_one-4.new.journal.entries c.settle_one-5.new.journal.entries c.settle_one-4.new.pen c.settle_one-5.new.pen (at_level L10 h) (behind L10 h) (ap (λ (j : JournalState Entry). j.entries) c.settle_one-5.ensures.journal) c.settle_one-5.ensures.pen r5 in
    r6.0

pub settle_one-requires-7-clause-ready : goal.settle_one-requires-7-clause-ready
settle_one-requires-7-clause-ready g c =
    let s = g.T.Run.script in
    let h = c.args.self.now in
    let r2 = ready_next s c.args.journal.now.entries c.settle_one.new.journal.entries c.args.pen.now c.settle_one.new.pen (at_level L0 h) (behind L0 h) (ap (λ (j : JournalState Entry). j.entries) c.settle_one.ensures.journal) c.settle_one.ensures.pen c.requires.ready in
    let r3 = ready_next s c.settle_one.new.journal.entries c.settle_one-2.new.journal.entries c.settle_one.new.pen c.settle_one-2.new.pen (at_level L7 h) (behind L7 h) (ap (λ (j : JournalState Entry). j.entries) c.settle_one-2.ensures.journal) c.settle_one-2.ensures.pen r2 in
    let r4 = ready_next s c.settle_one-2.new.journal.entries c.settle_one-3.new.journal.entries c.settle_one-2.new.pen c.settle_one-3.new.pen (at_level L8 h) (behind L8 h) (ap (λ (j : JournalState Entry). j.entries) c.settle_one-3.ensures.journal) c.settle_one-3.ensures.pen r3 in
    let r5 = ready_next s c.settle_one-3.new.journal.entries c.settle_one-4.new.journal.entries c.settle_one-3.new.pen c.settle_one-4.new.pen (at_level L9 h) (behind L9 h) (ap (λ (j : JournalState Entry). j.entries) c.settle_one-4.ensures.journal) c.settle_one-4.ensures.pen r4 in
    let r6 = ready_next s c.settle_one-4.new.journal.entries c.settle_one-5.new.journal.entries c.settle_one-4.new.pen c.settle_one-5.new.pen (at_level L10 h) (behind L10 h) (ap (λ (j : JournalState Entry). j.entries) c.settle_one-5.ensures.journal) c.settle_one-5.ensures.pen r5 in
    let r7 = ready_next s c.settle_one-5.new.journal.entries c.settle_one-6.new.journal.entries c.settle_one-5.new.pen c.settle_one-6.new.pen (at_level L11 h) (behind L11 h) (ap (λ (j : JournalState Entry). j.entries) c.settle_one-6.ensures.journal) c.settle_one-6.ensures.pen r6 in
    r7.0

pub settle_one-requires-8-clause-ready : goal.settle_one-requires-8-clause-ready
settle_one-requires-8-clause-ready g c =
    let s = g.T.Run.script in
    let h = c.args.self.now in
    let r2 = ready_next s c.args.journal.now.entries c.settle_one.new.journal.entries c.args.pen.now c.settle_one.new.pen (at_level L0 h) (behind L0 h) (ap (λ (j : JournalState Entry). j.entries) c.settle_one.ensures.journal) c.settle_one.ensures.pen c.requires.ready in
    let r3 = ready_next s c.settle_one.new.journal.entries c.settle_one-2.new.journal.entries c.settle_one.new.pen c.settle_one-2.new.pen (at_level L7 h) (behind L7 h) (ap (λ (j : JournalState Entry). j.entries) c.settle_one-2.ensures.journal) c.settle_one-2.ensures.pen r2 in
    let r4 = ready_next s c.settle_one-2.new.journal.entries c.settle_one-3.new.journal.entries c.settle_one-2.new.pen c.settle_one-3.new.pen (at_level L8 h) (behind L8 h) (ap (λ (j : JournalState Entry). j.entries) c.settle_one-3.ensures.journal) c.settle_one-3.ensures.pen r3 in
    let r5 = ready_next s c.settle_one-3.new.journal.entries c.settle_one-4.new.journal.entries c.settle_one-3.new.pen c.settle_one-4.new.pen (at_level L9 h) (behind L9 h) (ap (λ (j : JournalState Entry). j.entries) c.settle_one-4.ensures.journal) c.settle_one-4.ensures.pen r4 in
    let r6 = ready_next s c.settle_one-4.new.journal.entries c.settle_one-5.new.journal.entries c.settle_one-4.new.pen c.settle_one-5.new.pen (at_level L10 h) (behind L10 h) (ap (λ (j : JournalState Entry). j.entries) c.settle_one-5.ensures.journal) c.settle_one-5.ensures.pen r5 in
    let r7 = ready_next s c.settle_one-5.new.journal.entries c.settle_one-6.new.journal.entries c.settle_one-5.new.pen c.settle_one-6.new.pen (at_level L11 h) (behind L11 h) (ap (λ (j : JournalState Entry). j.entries) c.settle_one-6.ensures.journal) c.settle_one-6.ensures.pen r6 in
    let r8 = ready_next s c.settle_one-6.new.journal.entries c.settle_one-7.new.journal.entries c.settle_one-6.new.pen c.settle_one-7.new.pen (at_level L12 h) (behind L12 h) (ap (λ (j : JournalState Entry). j.entries) c.settle_one-7.ensures.journal) c.settle_one-7.ensures.pen r7 in
    r8.0

pub returns-clause-pen : goal.returns-clause-pen
returns-clause-pen g c =
    let h = c.args.self.now in
    let end = c.settle_one-8.new.pen in
    let l8 = left_next c.settle_one-7.new.pen c.settle_one-8.new.pen end (at_level L13 h) (behind L13 h) c.settle_one-8.ensures.pen refl in
    let l7 = left_next c.settle_one-6.new.pen c.settle_one-7.new.pen end (at_level L12 h) (behind L12 h) c.settle_one-7.ensures.pen l8 in
    let l6 = left_next c.settle_one-5.new.pen c.settle_one-6.new.pen end (at_level L11 h) (behind L11 h) c.settle_one-6.ensures.pen l7 in
    let l5 = left_next c.settle_one-4.new.pen c.settle_one-5.new.pen end (at_level L10 h) (behind L10 h) c.settle_one-5.ensures.pen l6 in
    let l4 = left_next c.settle_one-3.new.pen c.settle_one-4.new.pen end (at_level L9 h) (behind L9 h) c.settle_one-4.ensures.pen l5 in
    let l3 = left_next c.settle_one-2.new.pen c.settle_one-3.new.pen end (at_level L8 h) (behind L8 h) c.settle_one-3.ensures.pen l4 in
    let l2 = left_next c.settle_one.new.pen c.settle_one-2.new.pen end (at_level L7 h) (behind L7 h) c.settle_one-2.ensures.pen l3 in
    let l1 = left_next c.args.pen.now c.settle_one.new.pen end (at_level L0 h) (behind L0 h) c.settle_one.ensures.pen l2 in
    l1
