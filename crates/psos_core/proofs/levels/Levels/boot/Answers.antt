use Rattle.std.proofs.Common.{length, sym, ap, ◌∙◌, subst, arith}
use Rattle.std.specs.List.{AllByRecursion}
use Rattle.psos_model.specs.Flat.Within.{IsShort}
use Rattle.psos_model.proofs.RequestsLeft.{are_short}
use Rattle.psos_core.proofs.BootTables.{ok_is, all_booted}
use Rattle.psos_core.proofs.levels.Levels.boot.Goals as goal

pub push_users-requires-clause-few : goal.push_users-requires-clause-few
push_users-requires-clause-few g c =
    let s = c.args.script.now in
    subst (AllByRecursion IsShort) (sym c.users-texts.ensures) (are_short (length s.codes) s.users c.requires.script.users)

pub returns-clause-booted : goal.returns-clause-booted
returns-clause-booted g c =
    let counted = all_booted c.args.script.now c.users-texts.result.now _ _ _ _ _ _ _ _ _ _ _ c.users-texts.ensures c.in_ok-boot_pages.ensures.slots c.in_ok-boot_segs.ensures c.in_ok-boot_types.ensures c.in_ok-boot_dirs.ensures
    c.in_ok-boot_life.ensures c.in_ok-new.ensures (ok_is _ _ c.in_ok-new-2.ensures) c.push_users.ensures (ap (λ p. p.items) (c.deref_mut.ensures.value ∙ c.in_ok-privates.ensures.ok) ∙ c.new.ensures) in
    counted (omega arith) (omega arith)
