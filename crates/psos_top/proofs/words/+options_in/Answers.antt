use Rattle.std.specs.Prelude.{string_bytes}
use Rattle.psos_top.proofs.OptionPairs.{pair_read}
use Rattle.psos_top.proofs.words.+options_in.Goals as goal

pub returns-in-Some-with_option-clause-options : goal.returns-in-Some-with_option-clause-options
returns-in-Some-with_option-clause-options t c =
    pair_read string_bytes c.args.command c.args.given c.in-Some-with_option.more c.args.words.now c.in-Some.others.now c.in-Some-split_first.others.now c.in-Some.option.now c.in-Some-split_first.number.now
    c.as_str-2.result.now c.as_str.result.now c.number_in-number.result c.with_option.result c.options_in.result
    c.in-Some.ensures.cases.0 c.in-Some-split_first.ensures.cases.0 c.as_str-2.ensures.value c.as_str.ensures.value c.number_in-number.ensures c.with_option.ensures.options c.in-Some-with_option.is c.options_in.ensures.options
