use Rattle.std.proofs.Common.{arith, ◌≡◌, sym, ap}
use Rattle.std.specs.Prelude.{codes}
use Rattle.psos_script.specs.Table.{head_of}
use Rattle.psos_script.proofs.LongWords.{five, six, eight}
use Rattle.psos_script.proofs.head.Head.of.Goals as goal

pub returns-in-phase : goal.returns-in-phase
unfolding head_of
returns-in-phase c =
    let is : c.args.word.now ≡ codes "phase" = grind (arith, five) in
    sym (ap head_of is)

pub returns-in-write : goal.returns-in-write
unfolding head_of
returns-in-write c =
    let is : c.args.word.now ≡ codes "write" = grind (arith, five) in
    sym (ap head_of is)

pub returns-in-mkseg : goal.returns-in-mkseg
unfolding head_of
returns-in-mkseg c =
    let is : c.args.word.now ≡ codes "mkseg" = grind (arith, five) in
    sym (ap head_of is)

pub returns-in-mkdir : goal.returns-in-mkdir
unfolding head_of
returns-in-mkdir c =
    let is : c.args.word.now ≡ codes "mkdir" = grind (arith, five) in
    sym (ap head_of is)

pub returns-in-mkobj : goal.returns-in-mkobj
unfolding head_of
returns-in-mkobj c =
    let is : c.args.word.now ≡ codes "mkobj" = grind (arith, five) in
    sym (ap head_of is)

pub returns-in-window : goal.returns-in-window
unfolding head_of
returns-in-window c =
    let is : c.args.word.now ≡ codes "window" = grind (arith, six) in
    sym (ap head_of is)

pub returns-in-length : goal.returns-in-length
unfolding head_of
returns-in-length c =
    let is : c.args.word.now ≡ codes "length" = grind (arith, six) in
    sym (ap head_of is)

pub returns-in-lookup : goal.returns-in-lookup
unfolding head_of
returns-in-lookup c =
    let is : c.args.word.now ≡ codes "lookup" = grind (arith, six) in
    sym (ap head_of is)

pub returns-in-unbind : goal.returns-in-unbind
unfolding head_of
returns-in-unbind c =
    let is : c.args.word.now ≡ codes "unbind" = grind (arith, six) in
    sym (ap head_of is)

pub returns-in-mktype : goal.returns-in-mktype
unfolding head_of
returns-in-mktype c =
    let is : c.args.word.now ≡ codes "mktype" = grind (arith, six) in
    sym (ap head_of is)

pub returns-in-mkcode : goal.returns-in-mkcode
unfolding head_of
returns-in-mkcode c =
    let is : c.args.word.now ≡ codes "mkcode" = grind (arith, six) in
    sym (ap head_of is)

pub returns-in-delete : goal.returns-in-delete
unfolding head_of
returns-in-delete c =
    let is : c.args.word.now ≡ codes "delete" = grind (arith, six) in
    sym (ap head_of is)

pub returns-in-restrict : goal.returns-in-restrict
unfolding head_of
returns-in-restrict c =
    let is : c.args.word.now ≡ codes "restrict" = grind (arith, eight) in
    sym (ap head_of is)
