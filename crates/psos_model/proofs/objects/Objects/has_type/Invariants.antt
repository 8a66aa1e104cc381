use Rattle.std.proofs.Common.{◌≡◌, ◌==◌}
use Rattle.std.specs.List.{list_any}
use Rattle.psos_model.specs.declared.object.Object.{Object}
use Rattle.psos_model.proofs.objects.Objects.has_type.Given as goal

-- one of all has the type where one of those that are left has
abbrev pub invariant-objects : goal.invariant-objects
invariant-objects l = list_any (λ (o : Object). o.of == l.of) l.initial.object-iterator ≡ list_any (λ (o : Object). o.of == l.of) l.object-iterator
