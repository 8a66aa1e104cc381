use Rattle.psos_calls.proofs.Capabilities.{capabilities-append, all_stay}
use Rattle.psos_calls.proofs.path.Path.push.Goals as goal

pub invariant_of-self : goal.invariant_of-self
invariant_of-self c = rw c.push.ensures.items (all_stay c.self.inside.words.items c.args.cap c.self.invariant)

pub returns : goal.returns
returns c = rw (c.push.ensures.items, ← c.self.view_is) (capabilities-append c.self.inside.words.items c.args.cap)
