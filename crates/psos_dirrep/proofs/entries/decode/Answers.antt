use Rattle.std.proofs.Common.{sym, ◌∙◌}
use Rattle.psos_dirrep.specs.Pages.{words_of}
use Rattle.psos_dirrep.proofs.DecodeTests.{not-decoded}
use Rattle.psos_dirrep.proofs.entries.decode.Goals as goal

pub returns-then-not-is_list : goal.returns-then-not-is_list
returns-then-not-is_list c = sym (not-decoded (words_of c.args.pages.now) (sym c.is_list.ensures ∙ c.if-not-is_list.true))
