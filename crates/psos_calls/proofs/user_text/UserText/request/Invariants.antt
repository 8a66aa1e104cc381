use Rattle.std.proofs.Common.{◌≡◌, map, drop, slice_get}
use Rattle.std.specs.List.{flat_map}
use Rattle.psos_calls.specs.Language.Script.{requests_of}
use Rattle.psos_calls.proofs.user_text.UserText.request.Given as goal

-- what is asked for stands among the phases that are left
abbrev pub invariant-phases : goal.invariant-phases
invariant-phases l = slice_get (requests_of l.fn.self) l.fn.k ≡ slice_get (flat_map (λ p. p) (map (λ p. p.items) (drop l.phase-index l.phase-items))) l.left
