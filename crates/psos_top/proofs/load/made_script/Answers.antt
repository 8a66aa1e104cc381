use Rattle.psos_top.proofs.LoadEndings.{no_fault}
use Rattle.psos_top.proofs.load.made_script.Goals as goal

pub unreachable-requires : goal.unreachable-requires
unreachable-requires c = no_fault _ _ _ _ _ c.deref.ensures.value c.in-Err-Script.field-0-is c.in-Err-Script.ensures.none c.in_ok-text.ensures.spells
