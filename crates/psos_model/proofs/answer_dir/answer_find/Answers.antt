use Rattle.psos_model.proofs.answer_dir.answer_find.Goals as goal

pub returns-clause-fits : goal.returns-clause-fits
returns-clause-fits c = c.find_from.ensures.fits c.args.me.now
