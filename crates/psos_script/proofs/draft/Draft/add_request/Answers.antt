use Rattle.std.proofs.Common.{rules, arith, ◌≡◌, ◌≤◌, Ok, Err}
use Rattle.std.proofs.lemmas.Grind.{common_steps}
use Rattle.psos_text.specs.Lines.{words_of}
use Rattle.psos_script.specs.Values.{row_of}
use Rattle.psos_script.specs.Draft.{read, seen_in}
use Rattle.psos_script.proofs.RowLaws.{row_fault, row_full, row_fine}
use Rattle.psos_script.proofs.draft.Draft.add_request.Goals as goal

pub returns-in-Err : goal.returns-in-Err
returns-in-Err c =
    let is : row_of (read c.args.self.now).labels c.args.verb (words_of c.args.text.now) ≡ Err c.in-Err.c = grind (arith, common_steps) in
    row_fault (seen_in (read c.args.self.now)) c.args.verb (words_of c.args.text.now) c.args.limit c.in-Err.c is

pub returns-then-count-limit : goal.returns-then-count-limit
returns-then-count-limit c =
    let is : row_of (read c.args.self.now).labels c.args.verb (words_of c.args.text.now) ≡ Ok c.in-Ok.r = grind (arith, common_steps) in
    let full : c.args.limit ≤ c.count.result = c.if-count-limit.true in
    row_full (seen_in (read c.args.self.now)) c.args.verb (words_of c.args.text.now) c.args.limit c.in-Ok.r is (search rules)

pub returns-in_ok-add-in-Ok : goal.returns-in_ok-add-in-Ok
returns-in_ok-add-in-Ok c =
    let is : row_of (read c.args.self.now).labels c.args.verb (words_of c.args.text.now) ≡ Ok c.in-Ok.r = grind (arith, common_steps) in
    let fine = row_fine (seen_in (read c.args.self.now)) c.args.verb (words_of c.args.text.now) c.args.limit c.in-Ok.r is (search rules) in
    grind (arith, common_steps)
