use Rattle.std.proofs.Common.{rules, arith, ◌≡◌, ◌<◌, length, List, true, get_or, sym, ap, subst, ◌∙◌}
use Rattle.std.specs.Str.{bytes_eq}
use Rattle.psos_text.specs.declared.name.Name.{Name}
use Rattle.psos_text.specs.Name.{name_text}
use Rattle.psos_model.specs.Text.Operands.{Text}
use Rattle.psos_script.specs.Values.{number_among}
use Rattle.psos_script.proofs.Lists.{first_is, none_is, blank}
use Rattle.psos_script.proofs.name_list.NameList.number.Goals as goal

pub returns-then-eq : goal.returns-then-eq
returns-then-eq c =
    let P : List Text → Type 0 = λ x. c.names.i ≡ number_among x c.args.word.now in
    let names = c.self.inside.names.items in
    let lt : c.names.i < length names = search rules in
    let here : bytes_eq (name_text (get_or names c.names.i blank)) c.args.word.now ≡ true =
    ap (λ (x : Text). bytes_eq x c.args.word.now) (sym (c.as_bytes.ensures ∙ ap (λ (ns : List Name). name_text (get_or ns c.names.i blank)) c.deref-name-items.ensures.value)) ∙ sym c.eq.ensures ∙ c.if-eq.true in
    subst P c.self.view_is (first_is names c.args.word.now c.names.i lt here c.names.invariant)

pub returns : goal.returns
returns c =
    let P : List Text → Type 0 = λ x. c.len.result ≡ number_among x c.args.word.now in
    let names = c.self.inside.names.items in
    let le : length names ≡ c.len.result = search rules in
    subst P c.self.view_is (sym le ∙ none_is names c.args.word.now c.names.i (grind arith) c.names.invariant)
