-- The plan of `window`, where its calls were made and none was refused.
use Rattle.std.proofs.Common.{◌≡◌, ℕ, ◌<◌, ◌^◌, List, ◌∷◌, sym, ap, subst, ◌∙◌}
use Rattle.std.specs.Prelude.{bit_and}
use Rattle.std.proofs.Math.Nat.{mod-eq_of_lt}
use Rattle.std.proofs.lemmas.Nat.{and_comm, and_mask}
use Rattle.psos_caps.specs.Capability.{Capability, full, restricted}
use Rattle.psos_words.specs.declared.word.Word.{Word}
use Rattle.psos_words.specs.declared.word.Word.TheVariants.{Cap}
use Rattle.psos_words.specs.Words.{word_at}
use Rattle.psos_calls.specs.declared.refusal.Refusal.TheVariants.{NotCap}
use Rattle.psos_calls.specs.declared.level_call.LevelCall.TheVariants.{WinRoom, WinMake}
use Rattle.psos_calls.specs.declared.level_answer.LevelAnswer.TheVariants.{New}
use Rattle.psos_calls.specs.declared.step.Step.{Step}
use Rattle.psos_calls.specs.Levels.Answers.{LevelAnswer}
use Rattle.psos_calls.specs.Language.Capabilities.{uid}
use Rattle.psos_calls.specs.Language.Tests.{if_cap}
use Rattle.psos_calls.specs.Levels.{Levels, act}
use Rattle.psos_calls.specs.Plan.{Plan, Ask, refuse, give, if_done, if_new}
use Rattle.psos_calls.specs.Plan.Parts.{with_fresh}
use Rattle.psos_calls.specs.Plan.Segments.{plan_window}
use Rattle.psos_calls.specs.Plan.Trace.{followed, IsTraceOf}
use Rattle.psos_calls.proofs.MadeCalls.{IsNotRefused, done_goes_on, made_leads}

-- rights of which none is missing keep what others have
kept_by_all : (rights : ℕ) → rights < 2 ^ 16 → bit_and 65535 rights ≡ rights
kept_by_all rights small = and_comm 65535 rights ∙ and_mask rights 16 ∙ mod-eq_of_lt small

-- what the plan ends with, and what it is behind the new identifier, and behind the register
abbrev Named : ℕ → Capability → Capability → Plan
Named rd cap new = give rd (Cap (record { uid = new.uid; rights = cap.rights }))

abbrev Made : ℕ → ℕ → ℕ → Capability → Capability → Plan
Made rd base len cap new = Ask (WinMake (uid new.uid) cap base len) (λ x. if_done x (Named rd cap new))

abbrev Roomed : ℕ → ℕ → ℕ → Capability → Plan
Roomed rd base len cap = Ask (WinRoom cap base len) (λ x. if_done x (with_fresh (Made rd base len cap)))

module _ (rd base len : ℕ) (cap new : Capability) (a b s : Step) (rest : List Step) (first : IsNotRefused a.answer) (second : b.answer ≡ New new) (third : IsNotRefused s.answer) where
  -- where no call was refused, it ends so
  gives_named : followed (Roomed rd base len cap) (a ∷ b ∷ s ∷ rest) ≡ Named rd cap new
  gives_named =
      ap (λ (p : Plan). followed p (b ∷ s ∷ rest)) (done_goes_on a.answer first (with_fresh (Made rd base len cap)))
      ∙ ap (λ (x : LevelAnswer). followed (if_new x (Made rd base len cap)) (s ∷ rest)) second
      ∙ ap (λ (p : Plan). followed p rest) (done_goes_on s.answer third (Named rd cap new))

  -- a new capability has all rights
  all_rights : (l : Levels) → IsTraceOf (Roomed rd base len cap) l (a ∷ b ∷ s ∷ rest) → new.rights ≡ 65535
  all_rights l front =
      let made = made_leads (WinRoom cap base len) a (b ∷ s ∷ rest) first l (with_fresh (Made rd base len cap)) front in
      let answer : New (full (act l (WinRoom cap base len)).0.next) ≡ New new = sym (ap (λ (x : Step). x.answer) made.0) ∙ second in
      let same : full (act l (WinRoom cap base len)).0.next ≡ new = cc in
      sym (ap (λ (x : Capability). x.rights) same)

  -- and so the window has those of the capability that it was made by
  pub window_named : (r : List Word) (rs : ℕ) (trace : List Step) (l : Levels) → word_at r rs ≡ Cap cap → trace ≡ a ∷ b ∷ s ∷ rest → IsTraceOf (plan_window r rd rs base len) l trace
      → cap.rights < 2 ^ 16 → followed (plan_window r rd rs base len) trace ≡ give rd (Cap (restricted new cap.rights))
  window_named r rs trace l at is front small =
      let whole : plan_window r rd rs base len ≡ Roomed rd base len cap = ap (λ (w : Word). if_cap w (refuse NotCap) (Roomed rd base len)) at in
      let P : Plan → Type 0 = λ p. IsTraceOf p l trace in
      let Q : List Step → Type 0 = λ t. IsTraceOf (Roomed rd base len cap) l t in
      let all = all_rights l (subst Q is (subst P whole front)) in
      let kept : cap.rights ≡ bit_and new.rights cap.rights = sym (ap (λ (n : ℕ). bit_and n cap.rights) all ∙ kept_by_all cap.rights small) in
      ap (λ (p : Plan). followed p trace) whole ∙ ap (followed (Roomed rd base len cap)) is ∙ gives_named
      ∙ ap (λ (n : ℕ). give rd (Cap (record { uid = new.uid; rights = n }))) kept
