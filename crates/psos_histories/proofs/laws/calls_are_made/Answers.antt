use Rattle.psos_histories.proofs.Requests.{calls_are_made}
use Rattle.psos_histories.proofs.laws.calls_are_made.Goals as goal

pub returns : goal.returns
returns c = calls_are_made
