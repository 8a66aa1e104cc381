use Rattle.psos_top.proofs.ReadScripts.{script_read}
use Rattle.psos_top.proofs.opening.read_input.Goals as goal

pub returns : goal.returns
returns g c =
    script_read _ _ _ c.read_script.result c.found.result c.found.ensures c.deref.ensures.value c.in-Ok.ensures.bytes c.in-Ok.ensures.end
    c.read_script.ensures.found c.read_script.ensures.fault c.read_script.ensures.none c.in-Ok.ensures.later
