-- The locks that a request holds, place by place.
use Rattle.std.proofs.Common.{◌≡◌, ℕ, suc, ◌||◌, Bool, true, false, cond, List, [], ◌∷◌, ◌++◌, Option, Some, None, refl, sym, ap, ◌∙◌, inl, inr}
use Rattle.std.specs.Prelude.{IfSome}
use Rattle.std.proofs.lemmas.Bool.{true≢false, or_cases}
use Rattle.psos_calls.specs.declared.entry.Entry.{Entry}
use Rattle.psos_calls.specs.declared.lock_id.LockId.{LockId}
use Rattle.psos_calls.specs.Locks.Held.{same_lock, is_held}
use Rattle.psos_calls.specs.Levels.Calls.{LevelCall}
use Rattle.psos_histories.specs.Pieces.{act_piece, can_piece}
use Rattle.psos_histories.specs.Grips.{Grip, locks_of}
use Rattle.psos_histories.specs.Requests.{called_one, called, answer_in, CanIn}
use Rattle.psos_journal.specs.Members.{named}
use Rattle.psos_journal.specs.Views.{Side, list_of}
use Rattle.psos_locks.specs.Grips.{grips_in}
use Rattle.psos_locks.specs.Runs.{Knows}

-- ---- what a member knows

-- where no entry names a member, it knows none
pub none_known : (m : Side Entry) (log : List (Entry × ℕ)) → (list_of m ≡ [] → m.past ≡ []) → list_of m ≡ [] → list_of m ≡ named m.number log → Knows m log
none_known m log latest none met = record { prefix = (log, ap (λ (xs : List (Entry × ℕ)). xs ++ log) (latest none)); met = met }

-- ---- a call is made under a lock that is held

-- what is held here is another lock
abbrev pub IsOther : LockId → Option Grip → Type 0
IsOther lock o = IfSome o (λ g. same_lock g.lock lock ≡ false)

abbrev pub AreOther : LockId → List (Option Grip) → Type 0
AreOther lock [] = Unit {0}
AreOther lock (o ∷ slots) = IsOther lock o × AreOther lock slots

-- the lock is held here
pub record IsThere (lock : LockId) (o : Option Grip) : Type 0 where
  pub grip : Grip
  pub is : o ≡ Some grip
  pub same : same_lock grip.lock lock ≡ true

pub none_other : (lock : LockId) (slots : List (Option Grip)) → AreOther lock slots → is_held (locks_of (grips_in slots)) lock ≡ false
none_other lock [] h = refl
none_other lock (None ∷ slots) h = none_other lock slots h.1
none_other lock (Some g ∷ slots) h = ap (λ (b : Bool). b || is_held (locks_of (grips_in slots)) lock) h.0 ∙ none_other lock slots h.1

-- if it is held at all, since all that is held elsewhere are other locks
pub held_there : (lock : LockId) (front : List (Option Grip)) (o : Option Grip) (rest : List (Option Grip)) → AreOther lock front → AreOther lock rest
    → is_held (locks_of (grips_in (front ++ o ∷ rest))) lock ≡ true → IsThere lock o
held_there lock [] None rest before after held = absurd (true≢false (sym held ∙ none_other lock rest after))
held_there lock [] (Some g) rest before after held = elim (or_cases (same_lock g.lock lock) (is_held (locks_of (grips_in rest)) lock) held) [
  | inl same ↦ record { grip = g; is = refl; same = same }
  | inr more ↦ absurd (true≢false (sym more ∙ none_other lock rest after))
]
held_there lock (None ∷ front) o rest before after held = held_there lock front o rest before.1 after held
held_there lock (Some g ∷ front) o rest before after held =
    held_there lock front o rest before.1 after (sym (ap (λ (b : Bool). b || is_held (locks_of (grips_in (front ++ o ∷ rest))) lock) before.0) ∙ held)

-- the call is made there
pub called_there : (lock : LockId) (call : LevelCall) (front : List (Option Grip)) (g : Grip) (rest : List (Option Grip)) → AreOther lock front → same_lock g.lock lock ≡ true
    → grips_in (front ++ Some (called_one g call) ∷ rest) ≡ called (grips_in (front ++ Some g ∷ rest)) lock call
called_there lock call [] g rest before same = ap (λ (b : Bool). cond b (called_one g call ∷ grips_in rest) (g ∷ called (grips_in rest) lock call)) (sym same)
called_there lock call (None ∷ front) g rest before same = called_there lock call front g rest before.1 same
called_there lock call (Some q ∷ front) g rest before same =
    ap (λ (gs : List Grip). q ∷ gs) (called_there lock call front g rest before.1 same)
    ∙ ap (λ (b : Bool). cond b (called_one q call ∷ grips_in (front ++ Some g ∷ rest)) (q ∷ called (grips_in (front ++ Some g ∷ rest)) lock call)) (sym before.0)

-- and answered
pub answered_there : (lock : LockId) (call : LevelCall) (front : List (Option Grip)) (g : Grip) (rest : List (Option Grip)) → AreOther lock front → same_lock g.lock lock ≡ true
    → answer_in (grips_in (front ++ Some g ∷ rest)) lock call ≡ (act_piece g.piece call).1
answered_there lock call [] g rest before same = ap (λ (b : Bool). cond b (act_piece g.piece call).1 (answer_in (grips_in rest) lock call)) same
answered_there lock call (None ∷ front) g rest before same = answered_there lock call front g rest before.1 same
answered_there lock call (Some q ∷ front) g rest before same =
    ap (λ (b : Bool). cond b (act_piece q.piece call).1 (answer_in (grips_in (front ++ Some g ∷ rest)) lock call)) before.0 ∙ answered_there lock call front g rest before.1 same

-- what can be called among those that are held can be called there
pub can_there : (lock : LockId) (call : LevelCall) (front : List (Option Grip)) (g : Grip) (rest : List (Option Grip)) → same_lock g.lock lock ≡ true
    → CanIn (grips_in (front ++ Some g ∷ rest)) lock call → can_piece g.piece call
can_there lock call [] g rest same can = can 0 g refl same
can_there lock call (None ∷ front) g rest same can = can_there lock call front g rest same can
can_there lock call (Some q ∷ front) g rest same can = can_there lock call front g rest same (λ i r there. can (suc i) r there)
