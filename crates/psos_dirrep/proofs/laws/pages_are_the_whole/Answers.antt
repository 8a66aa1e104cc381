use Rattle.psos_dirrep.proofs.PageLaws.{pages-names, pages-places, pages-slots}
use Rattle.psos_dirrep.proofs.laws.pages_are_the_whole.Goals as goal

pub returns-clause-names : goal.returns-clause-names
returns-clause-names c pages slots name d = pages-names pages slots name d.are d.few d.decoded

pub returns-clause-places : goal.returns-clause-places
returns-clause-places c pages slots d = pages-places pages slots d.are d.few d.decoded

pub returns-clause-each : goal.returns-clause-each
returns-clause-each c pages slots i page d = pages-slots pages slots i page d.are d.few d.decoded
