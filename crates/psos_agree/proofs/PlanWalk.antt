-- Rules to walk a plan by, beside the outcome of its request.
use Rattle.std.proofs.Common.{◌≡◌, ℕ, ◌<◌, Bool, true, false, Option, Some, None, List, refl, sym, subst, ap}
use Rattle.psos_caps.specs.Capability.{Capability}
use Rattle.psos_words.specs.declared.word.Word.{Word}
use Rattle.psos_words.specs.declared.word.Word.TheVariants.{Data, Cap}
use Rattle.psos_calls.specs.declared.refusal.Refusal.{Refusal}
use Rattle.psos_calls.specs.declared.reply.Reply.TheVariants as replies
use Rattle.psos_calls.specs.declared.effect.Effect.TheVariants.{Nothing, Put}
use Rattle.psos_calls.specs.Levels.Answers.{LevelAnswer}
use Rattle.psos_calls.specs.declared.level_answer.LevelAnswer.TheVariants.{No}
use Rattle.psos_calls.specs.Language.User.{User}
use Rattle.psos_calls.specs.Language.Tests.{if_there, if_none, if_cap, if_data, if_holds}
use Rattle.psos_calls.specs.Levels.{Levels}
use Rattle.psos_calls.specs.Plan.{Plan, Close, Runs, give}
use Rattle.psos_calls.specs.Language.Replies.{word_reply}
use Rattle.psos_calls.specs.Plan as plans
use Rattle.psos_model.specs.Flat.{Flat}
use Rattle.psos_model.specs.Flat.Changes.{changed_all}
use Rattle.psos_model.specs.declared.change.Change.{Change}
use Rattle.psos_model.specs.Answer.Outcomes.{Outcome, Source, refuse, gives, does}
use Rattle.psos_model.specs.Replay.{System}
use Rattle.psos_model.specs.Replay.StandsFor.{StandsFor}
use Rattle.psos_agree.specs.Agreement.{KeepsIfNo, Meets}

-- the levels after a word is told are free
kept_word : (w : Word) (old new : Levels) → KeepsIfNo (word_reply w) old new
kept_word (Data n) old new = tt
kept_word (Cap c) old new = tt

-- from levels that stand for a flat state
module _ (x : User) {y : System} {f : Flat} (h : StandsFor y f) where
  -- a refusal of the plan is that of the request
  pub refused : (r : Refusal) → Meets x y f (refuse r) y.levels (replies.No r) Nothing
  refused r = record { reply-is = refl; effect-is = refl; stands = h; kept = refl; makes = tt }

  -- ---- tests of the plan's own

  -- an operand that is to be a capability
  pub runs_cap : (w : Word) (r : Refusal) (go : Capability → Plan) (res : Capability → Outcome)
      → ((cap : Capability) → w ≡ Cap cap → Runs (go cap) y.levels (Meets x y f (res cap)))
      → Runs (if_cap w (plans.refuse r) go) y.levels (Meets x y f (if_cap w (refuse r) res))
  runs_cap (Data n) r go res k = refused r
  runs_cap (Cap c) r go res k = k c refl

  -- an operand that is to be data
  pub runs_data : (w : Word) (r : Refusal) (go : ℕ → Plan) (res : ℕ → Outcome)
      → ((n : ℕ) → w ≡ Data n → Runs (go n) y.levels (Meets x y f (res n)))
      → Runs (if_data w (plans.refuse r) go) y.levels (Meets x y f (if_data w (refuse r) res))
  runs_data (Data n) r go res k = k n refl
  runs_data (Cap c) r go res k = refused r

  -- a test
  pub runs_holds : (b : Bool) (r : Refusal) (go : Plan) (res : Outcome)
      → (b ≡ true → Runs go y.levels (Meets x y f res))
      → Runs (if_holds b (plans.refuse r) go) y.levels (Meets x y f (if_holds b (refuse r) res))
  runs_holds true r go res k = k refl
  runs_holds false r go res k = refused r

  -- ---- what a level answers, where its refusal is the request's

  module _ (k : LevelAnswer → Plan) (refuses : (r : Refusal) → k (No r) ≡ plans.refuse r) where
    pub answers_no : (r : Refusal) → Runs (k (No r)) y.levels (Meets x y f (refuse r))
    answers_no r = subst (λ p. Runs p y.levels (Meets x y f (refuse r))) (sym (refuses r)) (refused r)

    -- what a level looks up is there
    pub answers_there : {X : Type 0} (o p : Option X) → o ≡ p → (r : Refusal) (a : X → LevelAnswer) (res : X → Outcome)
        → ((v : X) → p ≡ Some v → Runs (k (a v)) y.levels (Meets x y f (res v)))
        → Runs (k (if_there o (No r) a)) y.levels (Meets x y f (if_there p (refuse r) res))
    answers_there o None e r a res go = subst (λ q. Runs (k (if_there q (No r) a)) y.levels (Meets x y f (refuse r))) (sym e) (answers_no r)
    answers_there o (Some v) e r a res go = subst (λ q. Runs (k (if_there q (No r) a)) y.levels (Meets x y f (res v))) (sym e) (go v refl)

    -- a level's test
    pub answers_holds : (b c : Bool) → b ≡ c → (r : Refusal) (a : LevelAnswer) (res : Outcome)
        → (c ≡ true → Runs (k a) y.levels (Meets x y f res))
        → Runs (k (if_holds b (No r) a)) y.levels (Meets x y f (if_holds c (refuse r) res))
    answers_holds b true e r a res go = subst (λ q. Runs (k (if_holds q (No r) a)) y.levels (Meets x y f res)) (sym e) (go refl)
    answers_holds b false e r a res go = subst (λ q. Runs (k (if_holds q (No r) a)) y.levels (Meets x y f (refuse r))) (sym e) (answers_no r)

    -- a word that a guard lets in
    pub answers_none : {X : Type 0} (o : Option X) (r : X → Refusal) (a : LevelAnswer) (res : Outcome)
        → (o ≡ None → Runs (k a) y.levels (Meets x y f res))
        → Runs (k (if_none o (λ b. No (r b)) a)) y.levels (Meets x y f (if_none o (λ b. refuse (r b)) res))
    answers_none None r a res go = go refl
    answers_none (Some b) r a res go = answers_no (r b)

-- ---- closes

-- a word goes into a register, and is the reply
pub word_given : {x : User} {y : System} {f : Flat} {l : Levels} (changes : List Change) (rd : ℕ) (v w : Word) (source : Option Source) → v ≡ w → rd < 16
    → StandsFor (record y { levels = l }) (changed_all f changes)
    → Meets x y f (gives changes rd w source) l (word_reply v) (Put rd v)
word_given {y = y} {l = l} changes rd v w source e small h =
    record { reply-is = ap word_reply e; effect-is = ap (λ (u : Word). Put rd u) e; stands = h; kept = kept_word v y.levels l; makes = small }

-- changes alone
pub changes_made : {x : User} {y : System} {f : Flat} {l : Levels} (changes : List Change) (source : Option Source)
    → StandsFor (record y { levels = l }) (changed_all f changes)
    → Meets x y f (does changes source) l replies.Fine Nothing
changes_made changes source h = record { reply-is = refl; effect-is = refl; stands = h; kept = tt; makes = tt }
