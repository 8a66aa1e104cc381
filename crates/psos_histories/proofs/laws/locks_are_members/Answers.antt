use Rattle.psos_histories.proofs.Members.{locks_are_members}
use Rattle.psos_histories.proofs.laws.locks_are_members.Goals as goal

pub returns : goal.returns
returns c = locks_are_members
