use Rattle.std.proofs.Common.{◌≡◌, sym, subst, ◌∙◌}
use Rattle.psos_text.specs.declared.name.Name.{Name}
use Rattle.psos_text.specs.Name.{name_text, IsName}
use Rattle.psos_text.proofs.NameLaws.{IsName-name_of, text-name_of}
use Rattle.psos_text.proofs.name.Name.read.Goals as goal

pub returns-clause-name : goal.returns-clause-name
returns-clause-name c =
    let P : Name → Type 0 = λ n. IsName n in
    subst P (sym c.filled.ensures) (IsName-name_of c.args.b.now (sym c.is_name.ensures.value ∙ c.if-not-is_name.false))

pub returns-clause-text : goal.returns-clause-text
returns-clause-text c =
    let P : Name → Type 0 = λ n. name_text n ≡ c.args.b.now in
    subst P (sym c.filled.ensures) (text-name_of c.args.b.now (sym c.is_name.ensures.value ∙ c.if-not-is_name.false))
