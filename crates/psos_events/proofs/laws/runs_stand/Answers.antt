use Rattle.psos_events.proofs.Replays.{runs_stand}
use Rattle.psos_events.proofs.laws.runs_stand.Goals as goal

pub returns : goal.returns
returns c = runs_stand
