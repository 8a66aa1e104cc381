-- A user's own part that is found among the slots.
use Rattle.std.proofs.Common.{◌≡◌, ℕ, ◌<◌, List, [], length, Some, get_or, sym, ap, ◌∙◌}
use Rattle.std.specs.Prelude.{slice_get}
use Rattle.std.proofs.lemmas.Option.{get_or_from_slice_get, slice_get-get_or}
use Rattle.psos_calls.specs.declared.next.Next.{Next}
use Rattle.psos_calls.specs.declared.request.Request.{Request}
use Rattle.psos_calls.specs.declared.step.Step.{Step}
use Rattle.psos_calls.specs.Language.User.{User}
use Rattle.psos_calls.specs.Plan.Requests.{plan_of}
use Rattle.psos_calls.specs.Plan.Trace.{followed, next_of}

-- what is found is the part that was told
pub found_is : (old now slots : List User) (u : ℕ) (found me : User) → slice_get old u ≡ Some me → now ≡ old → slots ≡ now → found ≡ get_or slots u found → found ≡ me
found_is old now slots u found me there same read is =
    is ∙ ap (λ (xs : List User). get_or xs u found) (read ∙ same) ∙ get_or_from_slice_get old u me found there

-- it is there
pub found_there : (slots now : List User) (u : ℕ) (found : User) → slots ≡ now → found ≡ get_or slots u found → u < length now → slice_get now u ≡ Some found
found_there slots now u found same is lt = slice_get-get_or now u found lt ∙ ap (λ (x : User). Some x) (sym (is ∙ ap (λ (xs : List User). get_or xs u found) same))

-- what its plan does next is what is done
pub asked_is : (found me : User) (request : Request) (trace : List Step) (then next : Next) → found ≡ me → then ≡ next_of (followed (plan_of found request) trace) → then ≡ next
    → next_of (followed (plan_of me request) trace) ≡ next
asked_is found me request trace then next same told is =
    ap (λ (x : User). next_of (followed (plan_of x request) trace)) (sym same) ∙ (sym told ∙ is)

-- where both are read off
pub asks_next : (old now slots : List User) (u : ℕ) (found me : User) (request : Request) (trace : List Step) (then next : Next) → slice_get old u ≡ Some me → now ≡ old → slots ≡ now → found ≡ get_or slots u found
    → then ≡ next_of (followed (plan_of found request) trace) → then ≡ next → next_of (followed (plan_of me request) trace) ≡ next
asks_next old now slots u found me request trace then next there same read is told asked =
    asked_is found me request trace then next (found_is old now slots u found me there same read is) told asked

-- where there is no user
abbrev pub nobody : User
nobody = record { number = 0; process = 0; answered = 0; charge = 0; within = 0; regs = []; frames = []; path = [] }
