use Rattle.psos_histories.proofs.Requests.{requests_begin}
use Rattle.psos_histories.proofs.laws.requests_begin.Goals as goal

pub returns : goal.returns
returns c = requests_begin
