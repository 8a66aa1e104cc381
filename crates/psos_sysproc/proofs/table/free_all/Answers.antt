use Rattle.std.proofs.Common.{◌≡◌, ℕ, ◌+◌, ◌<◌, Bool, cond, List, ◌++◌, length, take, drop, slice_index_or, slice_set, Option, None, sym, ap, ◌∙◌, arith}
use Rattle.std.proofs.lemmas.List.{set-get_or, get_or_default}
use Rattle.std.proofs.lemmas.List.Edits.{map_over_more}
use Rattle.psos_sysproc.specs.Owners.{is_owner, without_user}
use Rattle.psos_sysproc.proofs.table.free_all.Goals.{then-is_user, else-is_user}
use Rattle.psos_sysproc.proofs.table.free_all.Goals as goal

-- this one's owner is looked at, and those after it are as they were
one-more : (u : ℕ) (before now : List (Option ℕ)) (i : ℕ) → i < length before → length now ≡ length before → now ≡ without_user u (take i before) ++ drop i before
    → slice_set now i (cond (is_owner u (slice_index_or now i None)) None (slice_index_or now i None)) ≡ without_user u (take (i + 1) before) ++ drop (i + 1) before
one-more u before now i below long is =
    map_over_more (λ (o : Option ℕ). cond (is_owner u o) None o) before now i (slice_index_or now i None) below is (get_or_default now i None (slice_index_or now i None) (omega arith))

pub locks-preserved : goal.locks-preserved
locks-preserved c =
    let all = one-more c.args.user c.args.owners.now c.locks.owners c.locks.i c.locks-test.true c.locks.auto.owners c.locks.invariant in
    let this : Option ℕ = slice_index_or c.locks.owners c.locks.i None in
    elim c.if-is_user.branch [
      | then-is_user w ↦ w.owners-is ∙ (ap (λ (b : Bool). slice_set c.locks.owners c.locks.i (cond b None this)) (sym w.if-is_user.true ∙ c.is_user.ensures) ∙ all)
      | else-is_user w ↦
          w.owners-is
          ∙ (sym (set-get_or c.locks.owners c.locks.i None)
          ∙ (ap (λ (b : Bool). slice_set c.locks.owners c.locks.i (cond b None this)) (sym w.if-is_user.false ∙ c.is_user.ensures) ∙ all))
    ]
