-- What the program printed, by the command that its words ask for.
use Rattle.std.proofs.Common.{◌≡◌, ℕ, List, Option, Some, None, refl, sym, ◌∙◌, subst}
use Rattle.std.specs.Prelude.{IfSome, IsSomeAnd}
use Rattle.psos_calls.specs.Language.Script.{Script}
use Rattle.psos_top.specs.declared.command.Command.{Command}
use Rattle.psos_top.specs.declared.words.Asked.{Asked}
use Rattle.psos_top.specs.Words.{words_asked}
use Rattle.psos_top.specs.Outcome.{Stream, Given}
use Rattle.psos_top.specs.Program.{IsPrintedBy, PrintsAsAsked}

-- what is there is not missing
pub not_none : {A : Type 0} (o : Option A) (a : A) → o ≡ Some a → o ≡ None → ⊥
not_none {A} o a is none =
    let P : Option A → Type 0 = λ q. IsSomeAnd q (λ b. Unit {0}) in
    subst P (sym is ∙ none) tt

-- it is one only
pub same : {A : Type 0} (o : Option A) (a b : A) → o ≡ Some a → o ≡ Some b → a ≡ b
same {A} o a b is also =
    let P : Option A → Type 0 = λ q. IfSome q (λ c. a ≡ c) in
    subst P (sym is ∙ also) refl

-- a run was printed in whole
pub prints_asked : (words : List (List ℕ)) (asked : Asked) (command : Command) (input out : Stream) (given : Given) → words_asked words ≡ Some asked → asked.command ≡ command
    → (s : Script) × IsPrintedBy command input out given s → PrintsAsAsked words input out given
prints_asked words asked command input out given is named h = record {
  asked = asked;
  asked-is = is;
  script = h.0;
  printed = subst (λ c. IsPrintedBy c input out given h.0) (sym named) h.1;
}
