-- The members that a journal met so far.
use Rattle.std.proofs.Common.{◌≡◌, ℕ, ◌+◌, ◌<◌, true, List, get_or, set, slice_get, Some, ap, sym, ◌∙◌, subst, arith, inl, inr}
use Rattle.std.proofs.lemmas.Bool.{cases_eq}
use Rattle.std.proofs.lemmas.List.{set-get_or}
use Rattle.std.proofs.lemmas.Option.{get_or_from_slice_get}
use Rattle.psos_journal.specs.declared.stop_cause.StopCause.TheVariants.{Store}
use Rattle.psos_journal.specs.Members.{named}
use Rattle.psos_journal.specs.Views.{JournalState, Side, list_of}

-- what a journal shows of a member
pub record Shown {A : Type 0} (journal : JournalState A) (m : Side A) : Type 0 where
  pub lists : list_of m ≡ named m.number journal.entries
  pub told : m.told ≡ true → journal.stopped ≡ Some Store

-- neither the journal nor its members changed, and the first of them are shown
pub record Met {A : Type 0} (k : ℕ) (first now : JournalState A) (before items : List (Side A)) : Type 0 where
  pub journal : now ≡ first
  pub members : items ≡ before
  pub shown : (i : ℕ) (m : Side A) → i < k → slice_get before i ≡ Some m → Shown first m

-- one more is met
pub met_next : {A : Type 0} (k : ℕ) (first now after : JournalState A) (before items : List (Side A)) (m n : Side A) → Met k first now before items → m ≡ get_or items k m → after ≡ now → n ≡ m → Shown now m
    → Met (k + 1) first after before (set items k n)
met_next {A = A} k first now after before items m n met at same_journal same_member shown = record {
  journal = same_journal ∙ met.journal;
  members = ap (λ x. set items k x) (same_member ∙ at) ∙ (set-get_or items k m ∙ met.members);
  shown = λ i x less found.
      elim (cases_eq i k) as (λ _. Shown first x) [
        | inl same ↦
            let here : m ≡ x = at ∙ (ap (λ l. get_or l k m) met.members ∙ get_or_from_slice_get before k x m (ap (slice_get before) (sym same) ∙ found)) in
            subst (λ y. Shown first y) here (subst (λ j. Shown j m) met.journal shown)
        | inr other ↦ met.shown i x (omega (arith, other)) found
      ];
}
