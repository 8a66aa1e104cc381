use Rattle.std.proofs.Common.{◌≡◌, None, sym, ap, ◌∙◌, subst, arith}
use Rattle.std.specs.Prelude.{IfSome}
use Rattle.psos_io.specs.Causes.{Rose}
use Rattle.psos_calls.specs.declared.level.Level.TheVariants.{L13, L11, L10, L9, L8, L7, L0}
use Rattle.psos_histories.specs.Pieces.{Codes, Life, Dirs, Types, Segs, Slots, Next}
use Rattle.psos_locks.specs.Ending.{IsLeft, IsProcsLeft}
use Rattle.psos_locks.specs.Grips.{level_lock}
use Rattle.psos_locks.proofs.LeftLevels.{as_it_was, same_entries, not_before, then_stopped, left_later, levels_given, all_parts, has_ended}
use Rattle.psos_locks.proofs.locks.Locks.into_parts.Goals as goal

-- the run may have been stopped behind each of these
pub into_parts-requires : goal.into_parts-requires
into_parts-requires g c =
    let last = c.end_lock-issuer.new.book in
    let t7 = then_stopped c.end_lock-segs.new.book c.end_lock-pages.new.book last c.end_lock-pages.ensures.book c.end_lock-issuer.ensures.book in
    let t6 = then_stopped c.end_lock-types.new.book c.end_lock-segs.new.book last c.end_lock-segs.ensures.book t7 in
    let t5 = then_stopped c.end_lock-dirs.new.book c.end_lock-types.new.book last c.end_lock-types.ensures.book t6 in
    let t4 = then_stopped c.end_lock-life.new.book c.end_lock-dirs.new.book last c.end_lock-dirs.ensures.book t5 in
    let t3 = then_stopped c.end_lock-codes.new.book c.end_lock-life.new.book last c.end_lock-life.ensures.book t4 in
    let t2 = then_stopped c.end_procs-procs.new.book c.end_lock-codes.new.book last c.end_lock-codes.ensures.book t3 in
    record { some = λ none. c.end_procs-procs.ensures.some (not_before c.end_procs-procs.new.book last t2 (sym c.end-entries.ensures.stopped ∙ none)) }

pub returns-clause-ended : goal.returns-clause-ended
returns-clause-ended g c =
    let s = g.T.Run.script in
    let first = c.into_inner-book.result in
    let between = c.end_users.new.book in
    let last = c.end_lock-issuer.new.book in
    let t8 = c.end_lock-issuer.ensures.book in
    let t7 = then_stopped c.end_lock-segs.new.book c.end_lock-pages.new.book last c.end_lock-pages.ensures.book t8 in
    let t6 = then_stopped c.end_lock-types.new.book c.end_lock-segs.new.book last c.end_lock-segs.ensures.book t7 in
    let t5 = then_stopped c.end_lock-dirs.new.book c.end_lock-types.new.book last c.end_lock-types.ensures.book t6 in
    let t4 = then_stopped c.end_lock-life.new.book c.end_lock-dirs.new.book last c.end_lock-dirs.ensures.book t5 in
    let t3 = then_stopped c.end_lock-codes.new.book c.end_lock-life.new.book last c.end_lock-life.ensures.book t4 in
    let t2 = then_stopped c.end_procs-procs.new.book c.end_lock-codes.new.book last c.end_lock-codes.ensures.book t3 in
    let t1 = then_stopped between c.end_procs-procs.new.book last c.end_procs-procs.ensures.book t2 in
    let well = c.requires.well_formed in
    let users = c.args.users.items in
    let recorded = c.end-entries.ensures.run in
    let going : c.end-entries.result.1 ≡ None → last.stopped ≡ None = λ none. sym c.end-entries.ensures.stopped ∙ none in
    has_ended s well users c.requires.users first between last c.end_users.ensures.ended c.end_users.ensures.book t1 recorded c.into_parts.result (c.into_parts.ensures.entries ∙ c.end-entries.ensures.entries)
    (c.into_parts.ensures.stopped ∙ c.end-entries.ensures.stopped)
    (levels_given s well last.entries recorded _ c.end_procs-procs.result c.end-entries.result.1 c.into_parts.result.levels c.into_parts.ensures.levels
    (subst (λ log. IfSome c.end_procs-procs.result (IsProcsLeft s log)) (sym (same_entries between last t1)) c.end_procs-procs.ensures.left) (λ none. record {
      codes = left_later s c.end_procs-procs.new.book c.end_lock-codes.new.book last (level_lock L13) (Codes c.end_lock-codes.result) c.end_lock-codes.ensures.left c.end_lock-codes.ensures.book t3 (going none);
      life = left_later s c.end_lock-codes.new.book c.end_lock-life.new.book last (level_lock L11) (Life c.end_lock-life.result) c.end_lock-life.ensures.left c.end_lock-life.ensures.book t4 (going none);
      dirs = left_later s c.end_lock-life.new.book c.end_lock-dirs.new.book last (level_lock L10) (Dirs c.end_lock-dirs.result) c.end_lock-dirs.ensures.left c.end_lock-dirs.ensures.book t5 (going none);
      types = left_later s c.end_lock-dirs.new.book c.end_lock-types.new.book last (level_lock L9) (Types c.end_lock-types.result) c.end_lock-types.ensures.left c.end_lock-types.ensures.book t6 (going none);
      segs = left_later s c.end_lock-types.new.book c.end_lock-segs.new.book last (level_lock L8) (Segs c.end_lock-segs.result) c.end_lock-segs.ensures.left c.end_lock-segs.ensures.book t7 (going none);
      pages = subst (λ p. IsLeft s last.entries (level_lock L7) (Slots p.slots)) (sym c.end.ensures.pages)
          (left_later s c.end_lock-segs.new.book c.end_lock-pages.new.book last (level_lock L7) (Slots c.end_lock-pages.result.0.slots) c.end_lock-pages.ensures.left c.end_lock-pages.ensures.book t8 (going none));
      issuer = left_later s c.end_lock-pages.new.book last last (level_lock L0) (Next c.end_lock-issuer.result) c.end_lock-issuer.ensures.left c.end_lock-issuer.ensures.book (as_it_was last) (going none);
      users = c.end_users.ensures.parts ∙ all_parts s well users c.requires.users first between last c.end_users.ensures.ended c.end_users.ensures.book t1 recorded;
    }))

pub returns-clause-counted : goal.returns-clause-counted
returns-clause-counted g c =
    let count = c.into_parts.ensures.store_faults ∙ ap (λ p. g.B.Store.faults p.store) c.end.ensures.pages in
    record {
      later = omega (arith, count, c.end.ensures.later);
      rose = λ is. subst (Rose g.T.Run.faults_before) (sym count) (c.end.ensures.rose (c.end-entries.ensures.faults (sym c.end-entries.ensures.stopped ∙ (sym c.into_parts.ensures.stopped ∙ is))));
    }
