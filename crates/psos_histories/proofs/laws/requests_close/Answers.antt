use Rattle.psos_histories.proofs.Closes.{requests_close}
use Rattle.psos_histories.proofs.laws.requests_close.Goals as goal

pub returns : goal.returns
returns c = requests_close
