-- The ends of open bodies.
use Rattle.std.proofs.Common.{◌≡◌, true, false, List, [], ◌∷◌, refl, sym, ◌∙◌}
use Rattle.psos_words.specs.declared.word.Word.{Word}
use Rattle.psos_words.specs.Words.{word_at}
use Rattle.psos_calls.specs.declared.frame.Frame.{Frame}
use Rattle.psos_calls.specs.Language.Script.{Script}
use Rattle.psos_calls.specs.Language.User.{User, is_over, outward, ended, with_reg, regs_in}

-- where the innermost is not over, it is the one that the word goes to
outward_stays : (s : Script) (x : User) (frames : List Frame) (w : Word) → is_over s frames ≡ false → outward s x frames w ≡ with_reg (record x { frames = frames }) frames 4 w
outward_stays s x [] w stays = refl
outward_stays s x (q ∷ outer) w stays = rw stays

-- the end of bodies is its r4's way outward
ended_over : (s : Script) (x : User) (frames : List Frame) (w : Word) → is_over s frames ≡ true → word_at (regs_in frames x.regs) 4 ≡ w → ended s x frames ≡ outward s x frames w
ended_over s x [] w over is = cc
ended_over s x (q ∷ outer) w over is = rw (over, is) refl

-- the whole: what goes on is named, and the word is put there
pub ended_is : (s : Script) (x : User) (rest : List Frame) (w : Word) → is_over s x.frames ≡ true → word_at (regs_in x.frames x.regs) 4 ≡ w → ((y : User) (v : Word) → outward s y rest v ≡ outward s y x.frames v) → is_over s rest ≡ false → with_reg (record x { frames = rest }) rest 4 w ≡ ended s x x.frames
ended_is s x rest w over word same stays =
    sym (outward_stays s x rest w stays) ∙ same x w ∙ sym (ended_over s x x.frames w over word)
