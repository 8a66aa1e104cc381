use Rattle.psos_histories.proofs.Requests.{locks_are_taken}
use Rattle.psos_histories.proofs.laws.locks_are_taken.Goals as goal

pub returns : goal.returns
returns c = locks_are_taken
