-- The order of names, for tables of them.
use Rattle.std.proofs.Common.{ℕ, List, ap}
use Rattle.std.specs.Cmp.{IsTotalOrder}
use Rattle.std.specs.FinMap.{IsAntisymmetric, nat_cmp-IsAntisymmetric, slice_cmp-IsAntisymmetric}
use Rattle.std.proofs.lemmas.Cmp.{nat_list_cmp_total}
use Rattle.psos_text.specs.declared.name.Name.{Name}
use Rattle.psos_calls.specs.Language.Names.{name_cmp}

pub name_cmp_total : IsTotalOrder name_cmp
name_cmp_total = record {
  antisymm = λ x y. nat_list_cmp_total.antisymm x.bytes y.bytes;
  trans = λ x y z. nat_list_cmp_total.trans x.bytes y.bytes z.bytes;
  congr = λ x y z. nat_list_cmp_total.congr x.bytes y.bytes z.bytes;
}

pub same_name : IsAntisymmetric name_cmp
same_name x y e = let named : List ℕ → Name = λ b. record { bytes = b } in ap named (slice_cmp-IsAntisymmetric nat_cmp-IsAntisymmetric x.bytes y.bytes e)
