use Rattle.std.proofs.Common.{◌≡◌, ℕ, length, ap, ◌∙◌, arith}
use Rattle.psos_calls.specs.declared.entry.Entry.{Entry}
use Rattle.psos_journal.specs.Views.{Side, new_side}
use Rattle.psos_histories.specs.Names.{member_of}
use Rattle.psos_locks.proofs.ListPlaces.{popped, each_front, each_last}
use Rattle.psos_locks.proofs.opening.new_lock.Goals as goal

pub new-requires-clause-member : goal.new-requires-clause-member
new-requires-clause-member g c =
    let front = c.pop.new.self.items in
    let whole = popped c.args.members.now.items front c.pop.result c.in-Some.member c.pop.ensures.items c.in-Some.is in
    let last = each_last (λ i (m : Side Entry). m ≡ new_side i) c.args.members.now.items front c.in-Some.member whole c.requires.order.each in
    let number : length front ≡ member_of (length g.T.Run.script.users) (g.K.Part.lock c.args.state) = omega (arith, c.in-Some.ensures.len, c.in-Some.ensures.cases, c.requires.last, c.pop.new.self.ok) in
    last ∙ ap (λ (k : ℕ). new_side {A = Entry} k) number

pub returns-clause-order : goal.returns-clause-order
returns-clause-order g c =
    let front = c.pop.new.self.items in
    let whole = popped c.args.members.now.items front c.pop.result c.in-Some.member c.pop.ensures.items c.in-Some.is in
    record { each = each_front (λ i (m : Side Entry). m ≡ new_side i) c.args.members.now.items front c.in-Some.member whole c.requires.order.each }
