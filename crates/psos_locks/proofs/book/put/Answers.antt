use Rattle.std.proofs.Common.{◌≡◌, ℕ, ◌++◌, ◌∷◌, [], length, Option, None, Some, sym, ap, ◌∙◌, arith, length-append}
use Rattle.std.specs.Int.{bit_at}
use Rattle.std.specs.Int.Bits.{bit_xor}
use Rattle.std.specs.Prelude.{◌^◌}
use Rattle.psos_calls.specs.declared.entry.Entry.{Entry}
use Rattle.psos_journal.specs.Views.{JournalState, Side}
use Rattle.psos_locks.specs.Grips.{slots_of}
use Rattle.psos_locks.specs.Places.{left_by}
use Rattle.psos_locks.proofs.Settling.{ready_same}
use Rattle.psos_locks.proofs.book.put.Goals as goal

pub settle-requires-clause-pen : goal.settle-requires-clause-pen
settle-requires-clause-pen g c = ap (λ (j : JournalState Entry). j.left) c.in-Ok.ensures.ok.1 ∙ ap (λ (p : ℕ). Some p) (sym c.in-Ok.ensures.ok.0)

pub settle-requires-clause-ready : goal.settle-requires-clause-ready
settle-requires-clause-ready g c =
    ready_same g.T.Run.script (c.args.journal.now.entries ++ (c.args.entry, c.args.names) ∷ []) c.begin.new.self.entries c.args.names c.in-Ok.pen (slots_of c.args.hands.now)
    (ap (λ (j : JournalState Entry). j.entries) c.in-Ok.ensures.ok.1) c.in-Ok.ensures.ok.0 c.requires.closes.ready

pub enter-requires-clause-pen : goal.enter-requires-clause-pen
enter-requires-clause-pen g c = ap (λ (j : JournalState Entry). j.left) c.settle.ensures.journal

pub enter-requires-clause-named : goal.enter-requires-clause-named
enter-requires-clause-named g c =
    ap (λ (p : ℕ). bit_at p c.args.member.now.number) (c.settle.ensures.pen ∙ ap (left_by (slots_of c.args.hands.now)) c.in-Ok.ensures.ok.0) ∙ c.requires.closes.named

pub finish-requires-clause-pen : goal.finish-requires-clause-pen
finish-requires-clause-pen g c = ap (λ (j : JournalState Entry). j.left) c.enter.ensures.journal

pub finish-requires-clause-entered : goal.finish-requires-clause-entered
finish-requires-clause-entered g c =
    c.enter.ensures.pen
    ∙ ap (λ (p : ℕ). bit_xor p (2 ^ c.args.member.now.number)) (c.settle.ensures.pen ∙ ap (left_by (slots_of c.args.hands.now)) c.in-Ok.ensures.ok.0)
    ∙ c.requires.closes.only

pub returns-clause-put : goal.returns-clause-put
returns-clause-put g c =
    let shut : JournalState Entry → JournalState Entry = λ j. record j { left = None } in
    let more = c.args.journal.now.entries ++ (c.args.entry, c.args.names) ∷ [] in
    let old : JournalState Entry = c.args.journal.now in
    let closed : JournalState Entry = record old { entries = more } in
    let listed = ap (λ (j : JournalState Entry). j.entries) c.settle.ensures.journal ∙ ap (λ (j : JournalState Entry). j.entries) c.in-Ok.ensures.ok.1 in
    let all : c.finish.new.self ≡ closed =
    c.finish.ensures.journal ∙ ap shut c.enter.ensures.journal ∙ ap shut c.settle.ensures.journal ∙ ap shut c.in-Ok.ensures.ok.1
    ∙ ap (λ (l : Option ℕ). (let j : JournalState Entry = record closed { left = l } in j)) (sym c.requires.spent) in
    record {
      going = c.in-Ok.ensures.open;
      journal = all;
      member = c.enter.ensures.member ∙ ap (λ es. (let m : Side Entry = record c.args.member.now { past = es } in m)) listed;
      last = omega (arith, c.finish.ensures.stamp, ap (λ (j : JournalState Entry). length j.entries) all, length-append c.args.journal.now.entries ((c.args.entry, c.args.names) ∷ []));
    }
