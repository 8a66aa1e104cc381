use Rattle.std.proofs.Common.{◌≡◌, length}
use Rattle.psos_words.specs.declared.word.Word.{Word}
use Rattle.psos_calls.specs.Language.User.{User, outward}
use Rattle.psos_calls.proofs.bodies.Bodies.leave_ended.Given as goal

-- what is left of the open bodies makes the same of a word that goes outward
abbrev pub invariant-bodies : goal.invariant-bodies
invariant-bodies l = (x : User) (word : Word) → outward l.script x l.self word ≡ outward l.script x l.initial.self word

abbrev pub decreases-bodies : goal.decreases-bodies
decreases-bodies l = length l.self
