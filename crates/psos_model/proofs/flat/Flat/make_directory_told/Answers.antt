use Rattle.std.proofs.Common.{sym, ap, ◌∙◌}
use Rattle.psos_model.proofs.Registration.{from_ok, from_err, with_dirs, life_there, entry_there, taken_is, directory_told}
use Rattle.psos_model.proofs.flat.Flat.make_directory_told.Goals as goal

pub take_back-requires-clause-life : goal.take_back-requires-clause-life
take_back-requires-clause-life c =
    life_there c.args.self.now c.register.new.self c.args.uid c.args.dir c.args.name c.args.kind c.in_ok-register.ensures.ok

pub take_back-requires-clause-entry : goal.take_back-requires-clause-entry
take_back-requires-clause-entry c =
    let same = from_err c.put.result c.put.ensures.err (sym c.if-is_err.ensures.value) in
    entry_there c.args.self.now (with_dirs c.register.new.self c.put.new.self) c.args.uid c.args.dir c.args.name c.args.kind
    (ap (with_dirs c.register.new.self) same ∙ c.in_ok-register.ensures.ok)

pub returns-then-is_err-clause-err : goal.returns-then-is_err-clause-err
returns-then-is_err-clause-err c =
    let same = from_err c.put.result c.put.ensures.err (sym c.if-is_err.ensures.value) in
    c.take_back.ensures
    ∙ taken_is c.args.self.now (with_dirs c.register.new.self c.put.new.self) c.args.uid c.args.dir c.args.name c.args.kind c.copied-was_kind.result c.entry_at-was_entry.result
    (ap (with_dirs c.register.new.self) same ∙ c.in_ok-register.ensures.ok) (c.copied-was_kind.ensures ∙ c.get.ensures) c.entry_at-was_entry.ensures

pub returns-clause-ok : goal.returns-clause-ok
returns-clause-ok c =
    directory_told c.args.self.now c.register.new.self c.args.made c.args.uid c.args.dir c.args.name c.args.kind _ c.in_ok-directory.directory c.put.new.self
    c.in_ok-register.ensures.ok c.in_ok-directory.ensures (from_ok c.put.result c.put.ensures.ok (sym c.if-is_err.ensures.value))
