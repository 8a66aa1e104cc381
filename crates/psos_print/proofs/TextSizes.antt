-- How long texts are.
use Rattle.std.proofs.Common.{◌≡◌, ◌≤◌, eqb, length, arith}
use Rattle.std.specs.List.{position_or_len}
use Rattle.std.proofs.lemmas.List.{length-take-le}
use Rattle.psos_text.proofs.FirstPlaces.{position_or_len-le}
use Rattle.psos_text.specs.declared.name.Name.{Name}
use Rattle.psos_text.specs.Name.{name_text}

-- a name's text is no longer than its bytes
pub name_few : (n : Name) → length n.bytes ≡ 16 → length (name_text n) ≤ 16
name_few n h =
    let place = position_or_len-le (λ b. eqb b 0) n.bytes in
    omega (arith, h, place, length-take-le (position_or_len (λ b. eqb b 0) n.bytes) n.bytes place)
