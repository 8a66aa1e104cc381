use Rattle.std.proofs.Common.{◌≡◌, ◌+◌, ◌≤◌, length}
use Rattle.std.specs.Prelude.{reverse}
use Rattle.psos_laws.specs.Arrivals.{told, raised}
use Rattle.psos_laws.proofs.origins.Origins.told.Given as goal

abbrev pub invariant-past : goal.invariant-past
invariant-past l = record {
  same : told (reverse l.rest) (raised l.place l.drawn) l.cap ≡ told (reverse l.self.past.items) l.place l.cap;
  few : l.drawn + length l.rest ≤ length l.self.past.items;
}

abbrev pub decreases-past : goal.decreases-past
decreases-past l = length l.rest
