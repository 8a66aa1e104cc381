use Rattle.std.proofs.Common.{sym, ◌∙◌}
use Rattle.psos_model.proofs.Registration.{from_err, life_there, entry_there, taken_is}
use Rattle.psos_model.proofs.flat.Flat.make_told.Goals as goal

pub take_back-requires-clause-life : goal.take_back-requires-clause-life
take_back-requires-clause-life c =
    let same = from_err c.apply.result c.apply.ensures.err (sym c.if-is_err.ensures.value) in
    life_there c.args.self.now c.apply.new.self c.args.uid c.args.dir c.args.name c.args.kind (same ∙ c.in_ok-register.ensures.ok)

pub take_back-requires-clause-entry : goal.take_back-requires-clause-entry
take_back-requires-clause-entry c =
    let same = from_err c.apply.result c.apply.ensures.err (sym c.if-is_err.ensures.value) in
    entry_there c.args.self.now c.apply.new.self c.args.uid c.args.dir c.args.name c.args.kind (same ∙ c.in_ok-register.ensures.ok)

pub returns-then-is_err-clause-err : goal.returns-then-is_err-clause-err
returns-then-is_err-clause-err c =
    let same = from_err c.apply.result c.apply.ensures.err (sym c.if-is_err.ensures.value) in
    c.take_back.ensures
    ∙ taken_is c.args.self.now c.apply.new.self c.args.uid c.args.dir c.args.name c.args.kind c.copied-was_kind.result c.entry_at-was_entry.result
    (same ∙ c.in_ok-register.ensures.ok) (c.copied-was_kind.ensures ∙ c.get.ensures) c.entry_at-was_entry.ensures
