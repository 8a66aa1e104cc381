use Rattle.psos_procs.proofs.Calls.{act12-part}
use Rattle.psos_procs.proofs.laws.mailboxes_are_parts.Goals as goal

pub returns : goal.returns
returns c = act12-part
