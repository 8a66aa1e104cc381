-- One list that grows.
use Rattle.std.proofs.Common.{◌≡◌, ℕ, ◌<◌, List, [], ◌∷◌, ◌++◌, length, map, get_or, sym, ap, ◌∙◌}
use Rattle.std.specs.Prelude.{slice_set}
use Rattle.std.proofs.lemmas.List.{map-set, length-set, get_or-set_same, get_or-set_other, get_or-map}
use Rattle.psos_print.specs.Positions.{IsNoted}

pub noted : {X : Type 0} (f : X → List ℕ) (lists : List X) (user position : ℕ) (old new : X)
    → user < length lists → get_or lists user old ≡ old → f new ≡ f old ++ position ∷ [] → IsNoted (map f lists) (map f (slice_set lists user new)) user position
noted f lists user position old new within is grown =
    let whole : map f (slice_set lists user new) ≡ slice_set (map f lists) user (f new) = map-set f lists user new in
    let was : get_or (map f lists) user [] ≡ f old = get_or-map f lists user old [] within ∙ ap f is in
    record {
      count = ap length whole ∙ length-set (map f lists) user (f new);
      here = λ h. ap (λ l. get_or l user []) whole ∙ get_or-set_same (map f lists) user (f new) [] h ∙ grown ∙ ap (λ l. l ++ position ∷ []) (sym was);
      others = λ u apart. ap (λ l. get_or l u []) whole ∙ get_or-set_other (map f lists) user u (f new) [] apart;
    }
