use Rattle.std.proofs.Common.{◌<◌, length, ap, sym, arith}
use Rattle.psos_calls.proofs.Capabilities.{capabilities-get, capabilities-no_data}
use Rattle.psos_calls.proofs.path.Path.get.Goals as goal

pub unreachable-requires : goal.unreachable-requires
unreachable-requires c =
    let within : c.args.i < length c.self.inside.words.items = omega (arith, sym c.self.invariant, ap length c.self.view_is, c.requires) in
    capabilities-no_data c.self.inside.words.items c.args.i c.in-Data.field-0 c.self.invariant within (rw c.deref.ensures.0 at c.in-Data.is)

pub returns : goal.returns
returns c =
    let within : c.args.i < length c.self.inside.words.items = omega (arith, sym c.self.invariant, ap length c.self.view_is, c.requires) in
    rw (← c.self.view_is) (capabilities-get c.self.inside.words.items c.args.i c.in-Cap.cap c.self.invariant within (rw c.deref.ensures.0 at c.in-Cap.is))
