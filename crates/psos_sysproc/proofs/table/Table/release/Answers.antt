use Rattle.std.proofs.Common.{◌≡◌, ℕ, cond, List, [], Vec, length, slice_set, Option, None, sym, ap, ◌∙◌, subst, arith}
use Rattle.std.specs.Vec.{with_items}
use Rattle.std.proofs.lemmas.List.{length-set, length-map, with_items_is}
use Rattle.psos_sysproc.specs.Owners.{is_owner, holdings, without_user, IsTable}
use Rattle.psos_sysproc.proofs.LockTables.{users-are, release-table, release-holdings}
use Rattle.psos_sysproc.proofs.table.Table.release.Goals as goal

pub index_mut-requires : goal.index_mut-requires
index_mut-requires c =
    let users = users-are c.self.inside.owners.items c.self.inside.lowest.items c.self.invariant.1 c.args.self.now c.self.view_is in
    omega (arith, users, c.self.inside.lowest.ok.0, c.requires)

-- what the slice of the owners became
left : {Z : Type 0} (owners : Vec (Option ℕ) Z) (slice now : List (Option ℕ)) (u : ℕ) → now ≡ without_user u slice → slice ≡ owners.items → (with_items owners now).items ≡ without_user u owners.items
left owners slice now u is was =
    let all = is ∙ ap (without_user u) was in
    with_items_is owners now (ap length all ∙ (length-map owners.items (λ (o : Option ℕ). cond (is_owner u o) None o) ∙ sym owners.ok.0)) ∙ all

pub invariant_of-self : goal.invariant_of-self
invariant_of-self c =
    let users = users-are c.self.inside.owners.items c.self.inside.lowest.items c.self.invariant.1 c.args.self.now c.self.view_is in (
      omega (arith, length-set {A = ℕ}, c.self.invariant.0),
      subst (λ (owners : List (Option ℕ)). IsTable owners (slice_set c.self.inside.lowest.items c.args.user 14))
          (sym (left c.self.inside.owners c.deref_mut.result.now c.free_all.new.owners c.args.user c.free_all.ensures c.deref_mut.ensures.value))
          (release-table c.self.inside.owners.items c.self.inside.lowest.items c.self.invariant.1 c.args.self.now c.self.view_is c.args.user (omega (arith, users, c.requires))),
    )

pub returns-clause-held : goal.returns-clause-held
returns-clause-held c =
    let users = users-are c.self.inside.owners.items c.self.inside.lowest.items c.self.invariant.1 c.args.self.now c.self.view_is in
    ap (holdings (length (slice_set c.self.inside.lowest.items c.args.user 14)))
    (left c.self.inside.owners c.deref_mut.result.now c.free_all.new.owners c.args.user c.free_all.ensures c.deref_mut.ensures.value)
    ∙ release-holdings c.self.inside.owners.items c.self.inside.lowest.items c.self.invariant.1 c.args.self.now c.self.view_is c.args.user (omega (arith, users, c.requires))

pub returns-clause-users : goal.returns-clause-users
returns-clause-users c = ap length (returns-clause-held c) ∙ length-set c.args.self.now c.args.user []
