use Rattle.std.proofs.Common.{get_or}
use Rattle.psos_core.proofs.UserSlots.{nobody}
use Rattle.psos_core.proofs.serve.serve.Given as goal

abbrev pub ghost-perform : goal.ghost-perform
ghost-perform g a = get_or a.levels.now.privates.value.items a.u nobody
