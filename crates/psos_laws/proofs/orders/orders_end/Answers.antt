use Rattle.psos_laws.proofs.OrderLengths.{orders_end}
use Rattle.psos_laws.proofs.orders.orders_end.Goals as goal

pub returns : goal.returns
returns c = orders_end
