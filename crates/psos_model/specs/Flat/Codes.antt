-- How names, what they stand for, and objects are stored.
use Rattle.std.specs.Prelude.{ℕ, Bool, List, refl}
use Rattle.std.specs.Coded.{Coded, code_by, coded×, coded_ℕ, coded_bool, coded_list}
use Rattle.psos_text.specs.declared.name.Name.{Name}
use Rattle.psos_model.specs.declared.named.Named.{Named}
use Rattle.psos_model.specs.declared.object.Object.{Object}

-- a name is stored as its bytes
abbrev pub name_code : Coded Name
name_code = code_by (List ℕ) (coded_list coded_ℕ) (λ n. n.bytes) (λ b. record { bytes = b }) (λ _. refl)

-- what a name stands for is stored as the capability's two numbers and the mark
abbrev pub named_code : Coded Named
named_code =
    code_by ((ℕ × ℕ) × Bool) (coded× (coded× coded_ℕ coded_ℕ) coded_bool) (λ e. ((e.cap.uid, e.cap.rights), e.kept))
    (λ p. record { cap = record { uid = p.0.0; rights = p.0.1 }; kept = p.1 }) (λ _. refl)

-- an object is stored as its two numbers
abbrev pub object_code : Coded Object
object_code = code_by (ℕ × ℕ) (coded× coded_ℕ coded_ℕ) (λ o. (o.of, o.rep)) (λ p. record { of = p.0; rep = p.1 }) (λ _. refl)
