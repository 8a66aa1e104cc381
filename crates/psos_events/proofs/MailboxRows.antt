-- A call of level 12 reads and changes one row.
use Rattle.std.proofs.Common.{◌≡◌, ℕ, ◌-◌, ◌/◌, ◌%◌, ◌<◌, ◌&&◌, Bool, true, false, cond, eqb, leb, ltb, Option, Some, None, List, [], ◌∷◌, ◌++◌, length, refl, sym, ap, ◌∙◌, inl, inr, subst, arith}
use Rattle.std.specs.Prelude.{nat_lt, IsSome}
use Rattle.std.proofs.lemmas.Bool.{cases_eq}
use Rattle.std.proofs.lemmas.Bool.Decides.{nat_tests}
use Rattle.psos_caps.specs.Capability.{Capability}
use Rattle.psos_table.specs.Table.{at, put}
use Rattle.psos_table.proofs.Tables.{at-put_here, at-put_apart}
use Rattle.psos_words.specs.declared.word.Word.{Word}
use Rattle.psos_words.specs.Guard.{barred}
use Rattle.psos_calls.specs.declared.kind.Kind.TheVariants.{Process}
use Rattle.psos_calls.specs.declared.right.Right.TheVariants.{Send}
use Rattle.psos_calls.specs.declared.tab.Tab.TheVariants.{Mailbox}
use Rattle.psos_calls.specs.declared.refusal.Refusal.TheVariants.{Absent, Lacks, Guarded, Exhausted, Empty}
use Rattle.psos_calls.specs.Levels.Calls.{LevelCall}
use Rattle.psos_calls.specs.declared.level_call.LevelCall.TheVariants.{Post, Draw}
use Rattle.psos_calls.specs.Levels.Answers.{LevelAnswer}
use Rattle.psos_calls.specs.declared.level_answer.LevelAnswer.TheVariants.{Done, Got, No}
use Rattle.psos_calls.specs.Language.Rights.{has}
use Rattle.psos_calls.specs.Language.Tests.{if_there, if_none, if_holds}
use Rattle.psos_calls.specs.Levels.Level12.{BoxState, drawn_from, act12, Can12}
use Rattle.psos_calls.specs.Locks.{box_of, part_of}
use Rattle.psos_model.specs.Flat.Boot.{process_of}

-- ---- the row, and what becomes of it

-- the process that a call goes to
abbrev pub target : LevelCall → ℕ
target (Post to word) = to.uid
target (Draw uid) = uid.0
target _ = 0

abbrev posted_row : Capability → Word → List Word → Option (List Word) × LevelAnswer
posted_row to word box =
    if_holds (has to Send) (None, No (Lacks Send)) (
    if_none (barred 1 word) (λ b. (None, No (Guarded b))) (
    if_holds (nat_lt (length box) 8) (None, No (Exhausted Mailbox)) (Some (box ++ word ∷ []), Done)))

abbrev drawn_row : List Word → Option (List Word) × LevelAnswer
drawn_row [] = (None, No Empty)
drawn_row (word ∷ rest) = (Some rest, Got word)

-- the row that is put, if one is, and the answer
abbrev pub row_after : LevelCall → Option (List Word) → Option (List Word) × LevelAnswer
row_after (Post to word) o = if_there o (None, No (Absent Process)) (posted_row to word)
row_after (Draw uid) o = if_there o (None, No Empty) drawn_row
row_after _ o = (None, Done)

abbrev pub put_if : BoxState → ℕ → Option (List Word) → BoxState
put_if s p None = s
put_if s p (Some box) = put s p box

abbrev pub in_boxes : BoxState → ℕ → Option (List Word) × LevelAnswer → BoxState × LevelAnswer
in_boxes s p r = (put_if s p r.0, r.1)

posted_by : (s : BoxState) (p : ℕ) (box : List Word) (right : Bool) (guard : Option ℕ) (room : Bool)
    → if_holds right (s, No (Lacks Send)) (if_none guard (λ b. (s, No (Guarded b))) (if_holds room (s, No (Exhausted Mailbox)) (put s p box, Done)))
    ≡ in_boxes s p (if_holds right (None, No (Lacks Send)) (if_none guard (λ b. (None, No (Guarded b))) (if_holds room (None, No (Exhausted Mailbox)) (Some box, Done))))
posted_by s p box false guard room = refl
posted_by s p box true (Some b) room = refl
posted_by s p box true None false = refl
posted_by s p box true None true = refl

posted_is : (s : BoxState) (to : Capability) (word : Word) (o : Option (List Word))
    → if_there o (s, No (Absent Process)) (λ box. if_holds (has to Send) (s, No (Lacks Send)) (if_none (barred 1 word) (λ b. (s, No (Guarded b))) (if_holds (nat_lt (length box) 8) (s, No (Exhausted Mailbox)) (put s to.uid (box ++ word ∷ []), Done))))
    ≡ in_boxes s to.uid (if_there o (None, No (Absent Process)) (posted_row to word))
posted_is s to word None = refl
posted_is s to word (Some box) = posted_by s to.uid (box ++ word ∷ []) (has to Send) (barred 1 word) (nat_lt (length box) 8)

drawn_is : (s : BoxState) (u : ℕ) (o : Option (List Word)) → if_there o (s, No Empty) (λ box. drawn_from s u box) ≡ in_boxes s u (if_there o (None, No Empty) drawn_row)
drawn_is s u None = refl
drawn_is s u (Some []) = refl
drawn_is s u (Some (word ∷ rest)) = refl

pub act12_is : (s : BoxState) (call : LevelCall) → act12 s call ≡ in_boxes s (target call) (row_after call (at s (target call)))
act12_is s (Post to word) = posted_is s to word (at s to.uid)
act12_is s (Draw uid) = drawn_is s uid.0 (at s uid.0)
act12_is s _ = refl

-- a row that is not there is not put
pub absent_stays : (call : LevelCall) → (row_after call None).0 ≡ None
absent_stays (Post to word) = refl
absent_stays (Draw uid) = refl
absent_stays _ = refl

-- ---- the part of a call is that of its process

pub part_is : (users : ℕ) (call : LevelCall) → part_of users call ≡ box_of users (target call)
part_is users (Post to word) = refl
part_is users (Draw uid) = refl
part_is users _ = refl

pub box_of_process : (users k : ℕ) → k < users → box_of users (process_of k) ≡ k
box_of_process users k below =
    let rest : (process_of k - 3) % 4 ≡ 0 = omega arith in
    let quotient : (process_of k - 3) / 4 ≡ k = omega arith in
    let test : leb 3 (process_of k) && eqb ((process_of k - 3) % 4) 0 && ltb ((process_of k - 3) / 4) users ≡ true = rw (rest, quotient) (grind (arith, nat_tests)) in
    ap (λ b. cond b ((process_of k - 3) / 4) 0) test ∙ quotient

-- a part is a user, where there is one
pub box_below : (users uid : ℕ) → 0 < users → box_of users uid < users
box_below users uid some = by_test (leb 3 uid && eqb ((uid - 3) % 4) 0) (ltb ((uid - 3) / 4) users) refl
  where
    by_test : (a b : Bool) → ltb ((uid - 3) / 4) users ≡ b → cond (a && b) ((uid - 3) / 4) 0 < users
    by_test false b e = some
    by_test true false e = some
    by_test true true e = grind (arith, nat_tests)

-- ---- what a row becomes

-- where a row is put, it is there
abbrev pub row_if : Option (List Word) → Option (List Word) → Option (List Word)
row_if None old = old
row_if (Some box) old = Some box

pub put_if_here : (s : BoxState) (p : ℕ) (o : Option (List Word)) → at (put_if s p o) p ≡ row_if o (at s p)
put_if_here s p None = refl
put_if_here s p (Some box) = at-put_here s p box

pub put_if_apart : (s : BoxState) (p : ℕ) (o : Option (List Word)) (q : ℕ) → (q ≡ p → ⊥) → at (put_if s p o) q ≡ at s q
put_if_apart s p None q apart = refl
put_if_apart s p (Some box) q apart = at-put_apart s p box q apart

-- ---- boxes of users alone

-- a process that is no user's has no mailbox
pub record NoOthers (users : ℕ) (s : BoxState) : Type 0 where
  pub none : (uid : ℕ) → (uid ≡ process_of (box_of users uid) → ⊥) → at s uid ≡ None

pub others_none : (users : ℕ) (s : BoxState) (call : LevelCall) → NoOthers users s → NoOthers users (act12 s call).0
others_none users s call h = record {
  none = λ uid no. ap (λ (r : BoxState × LevelAnswer). at r.0 uid) (act12_is s call) ∙ elim (cases_eq uid (target call)) [
    | inl same ↦
        let nothing : at s (target call) ≡ None = ap (at s) (sym same) ∙ h.none uid no in
        ap (λ (o : Option (List Word)). at (put_if s (target call) (row_after call o).0) uid) nothing
        ∙ ap (λ (o : Option (List Word)). at (put_if s (target call) o) uid) (absent_stays call) ∙ h.none uid no
    | inr apart ↦ put_if_apart s (target call) (row_after call (at s (target call))).0 uid apart ∙ h.none uid no
  ];
}

-- what two states have in common at the mailbox of a call they have after it, and they answer the same
pub record BoxesAgree (part : ℕ) (r q : BoxState × LevelAnswer) : Type 0 where
  pub answer : r.1 ≡ q.1
  pub row : at r.0 (process_of part) ≡ at q.0 (process_of part)

-- the row of a call is the same in two states that have its mailbox in common
pub rows_agree : (users : ℕ) (s t : BoxState) (call : LevelCall) → NoOthers users s → NoOthers users t
    → at s (process_of (part_of users call)) ≡ at t (process_of (part_of users call)) → at s (target call) ≡ at t (target call)
rows_agree users s t call h g same =
    let p = target call in
    let part : process_of (box_of users p) ≡ process_of (part_of users call) = ap process_of (sym (part_is users call)) in
    elim (cases_eq p (process_of (box_of users p))) [
      | inl mine ↦ ap (at s) (mine ∙ part) ∙ same ∙ sym (ap (at t) (mine ∙ part))
      | inr other ↦ h.none p other ∙ sym (g.none p other)
    ]

pub boxes_agree : (users : ℕ) (s t : BoxState) (call : LevelCall) → NoOthers users s → NoOthers users t
    → at s (process_of (part_of users call)) ≡ at t (process_of (part_of users call)) → BoxesAgree (part_of users call) (act12 s call) (act12 t call)
boxes_agree users s t call h g same =
    let p = target call in
    let k = process_of (part_of users call) in
    let row = rows_agree users s t call h g same in
    let after = ap (λ (o : Option (List Word)). row_after call o) row in
    record {
      answer = ap (λ (r : BoxState × LevelAnswer). r.1) (act12_is s call) ∙ ap (λ (r : Option (List Word) × LevelAnswer). r.1) after ∙ sym (ap (λ (r : BoxState × LevelAnswer). r.1) (act12_is t call));
      row = ap (λ (r : BoxState × LevelAnswer). at r.0 k) (act12_is s call) ∙ elim (cases_eq k p) [
        | inl mine ↦
            ap (at (put_if s p (row_after call (at s p)).0)) mine ∙ put_if_here s p (row_after call (at s p)).0
            ∙ ap (λ (o : Option (List Word)). row_if (row_after call o).0 o) row
            ∙ sym (ap (at (put_if t p (row_after call (at t p)).0)) mine ∙ put_if_here t p (row_after call (at t p)).0)
        | inr other ↦ put_if_apart s p (row_after call (at s p)).0 k other ∙ same ∙ sym (put_if_apart t p (row_after call (at t p)).0 k other)
      ] ∙ sym (ap (λ (r : BoxState × LevelAnswer). at r.0 k) (act12_is t call));
    }

-- the mailboxes of other users stay
pub boxes_stay : (users : ℕ) (s : BoxState) (call : LevelCall) (k : ℕ) → k < users → (k ≡ part_of users call → ⊥) → at (act12 s call).0 (process_of k) ≡ at s (process_of k)
boxes_stay users s call k below apart =
    let p = target call in
    ap (λ (r : BoxState × LevelAnswer). at r.0 (process_of k)) (act12_is s call)
    ∙ put_if_apart s p (row_after call (at s p)).0 (process_of k) (λ e. apart (sym (box_of_process users k below) ∙ ap (box_of users) e ∙ sym (part_is users call)))

-- a call that can be made in one can be made in the other
pub boxes_can : (users : ℕ) (s t : BoxState) (call : LevelCall) → NoOthers users s → NoOthers users t
    → at s (process_of (part_of users call)) ≡ at t (process_of (part_of users call)) → Can12 s call → Can12 t call
boxes_can users s t (Post to word) h g same can = can
boxes_can users s t (Draw uid) h g same can = subst (λ (o : Option (List Word)). IsSome o) (rows_agree users s t (Draw uid) h g same) can
boxes_can users s t _ h g same can = can
