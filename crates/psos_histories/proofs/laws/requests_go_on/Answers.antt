use Rattle.psos_histories.proofs.Requests.{requests_go_on}
use Rattle.psos_histories.proofs.laws.requests_go_on.Goals as goal

pub returns : goal.returns
returns c = requests_go_on
