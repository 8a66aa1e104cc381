use Rattle.std.proofs.Common.{◌≡◌, ℕ, List, length, take, drop, ◌++◌, sym, ap, ◌∙◌, subst}
use Rattle.std.proofs.Math.Seq.{take-append_seam}
use Rattle.psos_locks.specs.Users.{AreUsers}
use Rattle.psos_locks.specs.Ends.{HasEnded}
use Rattle.psos_locks.proofs.WholeRuns.{has_run}
use Rattle.psos_locks.proofs.threads.run_on.Goals as goal

-- where all of a vector is lent, and as many come back, it has those
come_back : {A : Type 0} (n count : ℕ) (lent old new : List A) → length lent ≡ n → lent ≡ old → length old ≡ count → length new ≡ count → take n (new ++ drop (length new) old) ≡ new
come_back n count lent old new whole same before after =
    ap (λ k. take k (new ++ drop (length new) old)) (sym whole ∙ (ap (λ xs. length xs) same ∙ (before ∙ sym after))) ∙ take-append_seam new (drop (length new) old)

pub into_parts-requires-clause-users : goal.into_parts-requires-clause-users
into_parts-requires-clause-users g c =
    let are = c.run_phases.ensures.users in
    subst (AreUsers g.T.Run.script) (sym (come_back _ _ _ _ c.run_phases.new.users c.deref_mut.ensures.len c.deref_mut.ensures.value c.in_ok-locks.ensures.all are.all)) are

pub returns-clause-ran : goal.returns-clause-ran
returns-clause-ran g c =
    let are = c.run_phases.ensures.users in
    has_run g.B.Store.faults g.T.Run.script c.run_phases.new.users c.into_parts.result c.requires.well_formed are c.run_phases.ensures.over
    (subst (λ users. HasEnded g.T.Run.script users c.into_parts.result) (come_back _ _ _ _ c.run_phases.new.users c.deref_mut.ensures.len c.deref_mut.ensures.value c.in_ok-locks.ensures.all are.all) c.into_parts.ensures.ended)
    c.into_parts.ensures.given
