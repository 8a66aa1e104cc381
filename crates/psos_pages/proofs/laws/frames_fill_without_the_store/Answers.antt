use Rattle.psos_pages.proofs.Quiet.{quiet-frames}
use Rattle.psos_pages.proofs.laws.frames_fill_without_the_store.Goals as goal

pub returns : goal.returns
returns c = quiet-frames
