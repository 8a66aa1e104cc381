use Rattle.std.proofs.Common.{refl, ◌+◌, length, ap, ◌∙◌}
use Rattle.psos_locks.proofs.threads.run_threads.Goals as goal

pub run_on-requires-clause-script : goal.run_on-requires-clause-script
run_on-requires-clause-script g c κs within = refl

pub run_on-requires-clause-well_formed : goal.run_on-requires-clause-well_formed
run_on-requires-clause-well_formed g c κs within = c.requires.well_formed

pub run_on-requires-clause-booted : goal.run_on-requires-clause-booted
run_on-requires-clause-booted g c κs within = c.requires.booted

pub run_on-requires-clause-store : goal.run_on-requires-clause-store
run_on-requires-clause-store g c κs within = refl

pub run_on-requires-clause-ground : goal.run_on-requires-clause-ground
run_on-requires-clause-ground g c κs within = record { called = record { cells = refl; each = λ i few. refl; tales = refl; store = refl }; members_are = c.in_ok-ground.ensures.0 ∙ ap (λ us. length us + 7 + length us) c.users.ensures; room_is = c.in_ok-ground.ensures.1 }

pub returns-clause-ran : goal.returns-clause-ran
returns-clause-ran g c = c.run_on.ensures.ran

pub returns-clause-counted : goal.returns-clause-counted
returns-clause-counted g c = c.run_on.ensures.counted
