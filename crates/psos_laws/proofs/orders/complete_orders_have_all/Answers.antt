use Rattle.psos_laws.proofs.BootSoundness.{boot_start}
use Rattle.psos_laws.proofs.CompleteOrders.{all_from}
use Rattle.psos_laws.proofs.orders.complete_orders_have_all.Goals as goal

pub returns : goal.returns
returns c = λ s order w done u within. all_from s w (boot_start s w) order done u within
