use Rattle.std.proofs.Common.{List, ℕ, sym, subst}
use Rattle.psos_text.specs.Name.{with_bytes, IsName}
use Rattle.psos_words.specs.Directory.{name_from}
use Rattle.psos_dirrep.proofs.NameBytes.{filled-is_name}
use Rattle.psos_dirrep.proofs.names.name_from.Goals as goal

pub from_bytes-requires : goal.from_bytes-requires
from_bytes-requires c =
    subst (λ (bytes : List ℕ). IsName (with_bytes bytes)) (sym c.sixteen.ensures) (filled-is_name (name_from c.args.high c.args.low) c.requires)
