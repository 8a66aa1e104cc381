use Rattle.psos_text.proofs.NameLaws.{name_of-text, text-name_of, IsName-name_of}
use Rattle.psos_text.proofs.laws.names_are_read_back.Goals as goal

pub returns-clause-name : goal.returns-clause-name
returns-clause-name c = name_of-text

pub returns-clause-text : goal.returns-clause-text
returns-clause-text c = text-name_of

pub returns-clause-named : goal.returns-clause-named
returns-clause-named c = IsName-name_of
