use Rattle.std.proofs.Common.{◌∷◌, ℕ, IsTrue, length, slice_set, Some, sym, ap, ap₂, ◌∙◌, subst, arith}
use Rattle.std.proofs.lemmas.List.{length-set}
use Rattle.psos_calls.specs.Locks.Held.{is_lock}
use Rattle.psos_sysproc.specs.Owners.{place, holdings}
use Rattle.psos_sysproc.specs.Wants.{locks_of}
use Rattle.psos_sysproc.proofs.LockTables.{users-are, take-table, take-holdings}
use Rattle.psos_sysproc.proofs.table.Table.take.Goals as goal

pub place-at-requires-clause-lock : goal.place-at-requires-clause-lock
place-at-requires-clause-lock c =
    let users = users-are c.self.inside.owners.items c.self.inside.lowest.items c.self.invariant.1 c.args.self.now c.self.view_is in
    subst (λ (n : ℕ). IsTrue (is_lock n c.args.lock)) (users ∙ (sym c.self.inside.lowest.ok.0 ∙ sym c.len.ensures)) c.requires.lock

pub index_mut-requires-2 : goal.index_mut-requires-2
index_mut-requires-2 c =
    let users = users-are c.self.inside.owners.items c.self.inside.lowest.items c.self.invariant.1 c.args.self.now c.self.view_is in
    omega (arith, users, c.self.inside.lowest.ok.0, c.requires.user)

pub invariant_of-self : goal.invariant_of-self
invariant_of-self c =
    let users = users-are c.self.inside.owners.items c.self.inside.lowest.items c.self.invariant.1 c.args.self.now c.self.view_is in
    let known : IsTrue (is_lock (length c.self.inside.lowest.items) c.args.lock) = subst (λ (n : ℕ). IsTrue (is_lock n c.args.lock)) users c.requires.lock in
    let there = c.place-at.ensures.value ∙ ap (λ (n : ℕ). place n c.args.lock) (c.len.ensures ∙ c.self.inside.lowest.ok.0) in
    let same = length-set c.self.inside.lowest.items c.args.user c.rank.result in (
      omega (arith, same, c.self.invariant.0),
      rw (there, c.rank.ensures.value)
          (take-table c.self.inside.owners.items c.self.inside.lowest.items c.self.invariant.1 c.args.self.now c.self.view_is
          c.args.user c.args.lock (omega (arith, users, c.requires.user)) known c.requires.enabled),
    )

pub returns-clause-held : goal.returns-clause-held
returns-clause-held c =
    let users = users-are c.self.inside.owners.items c.self.inside.lowest.items c.self.invariant.1 c.args.self.now c.self.view_is in
    let known : IsTrue (is_lock (length c.self.inside.lowest.items) c.args.lock) = subst (λ (n : ℕ). IsTrue (is_lock n c.args.lock)) users c.requires.lock in
    let there = c.place-at.ensures.value ∙ ap (λ (n : ℕ). place n c.args.lock) (c.len.ensures ∙ c.self.inside.lowest.ok.0) in
    ap₂ (λ (i r : ℕ). holdings (length (slice_set c.self.inside.lowest.items c.args.user r)) (slice_set c.self.inside.owners.items i (Some c.args.user))) there c.rank.ensures.value
    ∙ take-holdings c.self.inside.owners.items c.self.inside.lowest.items c.self.invariant.1 c.args.self.now c.self.view_is
    c.args.user c.args.lock (omega (arith, users, c.requires.user)) known c.requires.enabled

pub returns-clause-users : goal.returns-clause-users
returns-clause-users c = ap length (returns-clause-held c) ∙ length-set c.args.self.now c.args.user (c.args.lock ∷ locks_of c.args.self.now c.args.user)
