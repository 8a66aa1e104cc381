use Rattle.std.proofs.Common.{◌≡◌, ℕ, ◌<◌, IsTrue, length, is_none, slice_index_or, Option, None, sym, ap, ◌∙◌, subst, arith}
use Rattle.std.proofs.lemmas.List.{get_or_default}
use Rattle.psos_calls.specs.Locks.Held.{is_lock}
use Rattle.psos_sysproc.specs.Owners.{place, is_owner}
use Rattle.psos_sysproc.proofs.LockTables.{users-are, owner-is, none-is}
use Rattle.psos_sysproc.proofs.table.Table.owner.Goals as goal

pub place-requires-clause-lock : goal.place-requires-clause-lock
place-requires-clause-lock c =
    let users = users-are c.self.inside.owners.items c.self.inside.lowest.items c.self.invariant.1 c.args.self.now c.self.view_is in
    subst (λ (n : ℕ). IsTrue (is_lock n c.args.lock)) (users ∙ (sym c.self.inside.lowest.ok.0 ∙ sym c.len.ensures)) c.requires

pub returns : goal.returns
returns c =
    let users = users-are c.self.inside.owners.items c.self.inside.lowest.items c.self.invariant.1 c.args.self.now c.self.view_is in
    let known : IsTrue (is_lock (length c.self.inside.lowest.items) c.args.lock) = subst (λ (n : ℕ). IsTrue (is_lock n c.args.lock)) users c.requires in
    let there = c.place.ensures.value ∙ ap (λ (n : ℕ). place n c.args.lock) (c.len.ensures ∙ c.self.inside.lowest.ok.0) in
    let within : c.place.result < length c.self.inside.owners.items = omega (arith, c.self.invariant.1.all, c.self.inside.lowest.ok.0, c.len.ensures) in
    let look : c.index.result.now ≡ slice_index_or c.self.inside.owners.items (place (length c.self.inside.lowest.items) c.args.lock) None =
    c.index.ensures ∙ (get_or_default c.self.inside.owners.items c.place.result c.index.result.now None within ∙ ap (λ (i : ℕ). slice_index_or c.self.inside.owners.items i None) there) in
    record {
      held = λ user below.
          ap (is_owner user) look ∙ owner-is c.self.inside.owners.items c.self.inside.lowest.items c.self.invariant.1 c.args.self.now c.self.view_is c.args.lock known user (omega (arith, users));
      free = ap (λ (o : Option ℕ). is_none o) look ∙ none-is c.self.inside.owners.items c.self.inside.lowest.items c.self.invariant.1 c.args.self.now c.self.view_is c.args.lock known;
    }
