use Rattle.std.proofs.Common.{eqb, List, Result, Ok, Err, cond, ℕ, ap, ◌∙◌}
use Rattle.std.specs.List.{before_first}
use Rattle.psos_text.specs.declared.name.Name.{Name}
use Rattle.psos_text.specs.declared.fault.TextFault.{TextFault}
use Rattle.psos_text.specs.declared.fault.TextFault.TheVariants as faults
use Rattle.psos_text.specs.Name.{is_name, name_of}
use Rattle.psos_dirrep.proofs.names.read.Goals as goal

pub returns-clause-value : goal.returns-clause-value
returns-clause-value c =
    let whole = λ (text : List ℕ). (let r : Result Name TextFault = cond (is_name text) (Ok (name_of text)) (Err faults.Name) in r) in
    c.read.ensures.value ∙ ap whole (c.text_of.ensures ∙ ap (before_first (λ b. eqb b 0)) c.sixteen-bytes.ensures)
