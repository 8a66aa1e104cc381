-- What a user of a run of threads knows of itself and of others. States docs/levels.md, "Phases".
use Rattle.std.proofs.Common.{◌≡◌, ℕ, ◌+◌, ◌<◌, ◌≤◌, ◌==◌, inl, inr, Bool, true, false, cond, List, [], ◌∷◌, length, Option, Some, None, refl, sym, ap, ◌∙◌, arith}
use Rattle.std.specs.Prelude.{slice_set}
use Rattle.std.specs.Int.{bit_at}
use Rattle.std.proofs.lemmas.Bool.{cases_eq, eq-eqb, or_left, or_right, true≢false}
use Rattle.std.proofs.lemmas.List.{get_or-set_same, get_or-set_other}
use Rattle.psos_limits.specs.declared.TheConstants.{MOST_REQUESTS}
use Rattle.psos_calls.specs.declared.entry.Entry.{Entry}
use Rattle.psos_calls.specs.Language.Script.{Script, IsWellFormed}
use Rattle.psos_model.specs.Flat.Boot.{boot}
use Rattle.psos_model.specs.Run.{phase_of, is_open, is_now}
use Rattle.psos_model.specs.Replay.{boot_system}
use Rattle.psos_journal.specs.Members.{named}
use Rattle.psos_journal.specs.Views.{Known, list_of}
use Rattle.psos_histories.proofs.RecordLimits.{records_are_few}
use Rattle.psos_locks.specs.Users.{OwnView, past_of, past_in, ShowsPast, IsUser, IsAhead, has_more}
use Rattle.psos_locks.proofs.Working.{start}

-- ---- phases

-- who asks nothing more of its phase asks nothing of it next
pub not_now : (s : Script) (o : OwnView) → has_more s o ≡ false → phase_of s o.own ≡ Some o.phase → ⊥
not_now s o through e =
    let now : is_now (phase_of s o.own) (Some o.phase) ≡ true = ap (λ (q : Option ℕ). is_now q (Some o.phase)) e ∙ eq-eqb o.phase o.phase refl in
    true≢false (sym (or_right (is_open o.own.frames) (is_now (phase_of s o.own) (Some o.phase)) now) ∙ through)

-- and has no open body
pub not_open : (s : Script) (o : OwnView) → has_more s o ≡ false → is_open o.own.frames ≡ false
not_open s o through = by_test (is_open o.own.frames) refl
  where
    by_test : (b : Bool) → is_open o.own.frames ≡ b → b ≡ false
    by_test false e = refl
    by_test true e = sym (or_left (is_open o.own.frames) (is_now (phase_of s o.own) (Some o.phase)) e) ∙ through

-- so what it asks next is of a later one
pub is_later : (s : Script) (o : OwnView) → IsAhead s o → has_more s o ≡ false → (q : ℕ) → phase_of s o.own ≡ Some q → o.phase + 1 ≤ q
is_later s o ahead through q e = elim (cases_eq q o.phase) [
  | inl same ↦ absurd (not_now s o through (e ∙ ap (λ (k : ℕ). Some k) same))
  | inr apart ↦ omega (arith, ahead q e, apart)
]

-- it shows the same of each earlier phase
pub shows_less : (s : Script) (p r v : ℕ) (past : List (Entry × ℕ)) → p ≤ r → ShowsPast s r v past → ShowsPast s p v past
shows_less s p r v past less h x there q e = omega (arith, less, h x there q e)

-- ---- entries

named_few : (i : ℕ) (log : List (Entry × ℕ)) → length (named i log) ≤ length log
named_few i [] = omega arith
named_few i (x ∷ log) =
    let more = named_few i log in
    let M : Bool → Type 0 = λ b. length (cond b (x.0 ∷ named i log) (named i log)) ≤ length (x ∷ log) in
    elim (bit_at x.1 i == 1) as M [ true ↦ omega (arith, more) | false ↦ omega (arith, more) ]

-- a user has few entries
pub few_entries : (s : Script) → IsWellFormed s → (o : OwnView) → IsUser s o → length (list_of o.side) ≤ MOST_REQUESTS
few_entries s well o is =
    let few : length o.side.past ≤ MOST_REQUESTS = records_are_few s (boot_system s) (boot s) o.side.past (start s well) is.own_is.recorded in
    omega (arith, few, named_few o.side.number o.side.past)

-- ---- receipts

-- one more is kept
pub kept_here : (receipts : List (Option (Known Entry))) (v : ℕ) (r : Option (Known Entry)) → v < length receipts → past_in (slice_set receipts v r) v ≡ past_of r
kept_here receipts v r room = ap past_of (get_or-set_same receipts v r None room)

pub kept_other : (receipts : List (Option (Known Entry))) (v w : ℕ) (r : Option (Known Entry)) → (w ≡ v → ⊥) → past_in (slice_set receipts v r) w ≡ past_in receipts w
kept_other receipts v w r apart = ap past_of (get_or-set_other receipts v w r None apart)
