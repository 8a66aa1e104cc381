use Rattle.psos_events.proofs.Progress as progress
use Rattle.psos_events.proofs.laws.never_stuck.Goals as goal

pub returns : goal.returns
returns c = progress.never_stuck
