-- Pairs of words that are an option and its number.
use Rattle.std.proofs.Common.{◌≡◌, ℕ, List, ◌∷◌, map, Option, Some, sym, ap, ◌∙◌}
use Rattle.std.specs.Option.{option_and_then}
use Rattle.psos_text.specs.Number.{number_of}
use Rattle.psos_top.specs.declared.command.Command.{Command}
use Rattle.psos_top.specs.declared.words.Options.{Options}
use Rattle.psos_top.specs.Words.{with_option, options_in}

-- a pair was read, and then the others
pub pair_read : {S : Type 0} (spelled : S → List ℕ) (command : Command) (given more : Options) (words others rest : List S) (o n : S) (option number : List ℕ) (read : Option ℕ) (named result : Option Options)
    → words ≡ o ∷ others → others ≡ n ∷ rest → option ≡ spelled o → number ≡ spelled n → read ≡ number_of number → named ≡ with_option command given option read → named ≡ Some more
    → result ≡ options_in command (map spelled rest) more → result ≡ options_in command (map spelled words) given
pair_read {S} spelled command given more words others rest o n option number read named result first second option-is number-is read-is named-is some done =
    let next : Option Options → Option Options = option_and_then (options_in command (map spelled rest)) in
    let told : with_option command given (spelled o) (number_of (spelled n)) ≡ Some more =
    ap (λ (w : List ℕ). with_option command given w (number_of (spelled n))) (sym option-is)
    ∙ (ap (λ (w : List ℕ). with_option command given option (number_of w)) (sym number-is)
    ∙ (ap (with_option command given option) (sym read-is) ∙ (sym named-is ∙ some))) in
    done
    ∙ (ap next (sym told)
    ∙ ap (λ (ws : List S). options_in command (map spelled ws) given) (sym (first ∙ ap (λ (ws : List S). o ∷ ws) second)))
