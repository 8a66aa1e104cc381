use Rattle.std.proofs.Common.{◌≡◌, ℕ, ◌-◌, List, ◌++◌, ap, sym, ◌∙◌, subst, append-nil, arith}
use Rattle.psos_model.specs.Text.Load.{load_users, load_text}
use Rattle.psos_model.specs.Text.Spelling.{IsScript}
use Rattle.psos_load.specs.Made.{made_script}
use Rattle.psos_load.proofs.LinesLeft.{users_next}
use Rattle.psos_load.proofs.Users.{text_spells_script}
use Rattle.psos_load.proofs.script.script_text.Goals as goal

pub users-preserved : goal.users-preserved
users-preserved c = users_next c.args.lines c.users.turns c.users.text.items c.users-test.true c.in_ok-put_user.ensures.drawn c.in_ok-put_user.ensures.text c.users.invariant

pub returns-clause-spells : goal.returns-clause-spells
returns-clause-spells c =
    let none : c.args.users - c.users.number ≡ 0 = omega arith in
    let written = c.users.text.items in
    let whole : written ≡ load_text c.args.users c.args.lines c.args.seed =
    sym (append-nil written) ∙ ap (λ n. written ++ load_users n c.args.lines c.users.number c.users.turns) (sym none) ∙ c.users.invariant in
    let P : List ℕ → Type 0 = λ text. IsScript text (made_script c.args.users c.args.lines c.args.seed) in
    subst P (sym whole) (text_spells_script c.args.users c.args.lines c.args.seed c.requires.some_users c.requires.few_users c.requires.few_lines)
