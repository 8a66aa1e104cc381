-- Capabilities that the guards of their stores let in. States docs/promises.md, "Guarded, kept, sealed".
use Rattle.std.specs.Prelude.{◌≡◌, ℕ, Some, None}
use Rattle.psos_caps.specs.Capability.{Capability}
use Rattle.psos_words.specs.Guard.{missing}
use Rattle.psos_model.specs.declared.place.Place.{Place}
use Rattle.psos_model.specs.Flat.{Flat}
use Rattle.psos_model.specs.Flat.Places.{cap_at, guard_at}

-- each capability at a place of a store has all bits of that store's guard
pub record IsGuarded (f : Flat) : Type 0 where
  pub passes : (p : Place) (cap : Capability) (guard : ℕ) → cap_at f p ≡ Some cap → guard_at f p ≡ Some guard → missing guard cap.rights ≡ None
