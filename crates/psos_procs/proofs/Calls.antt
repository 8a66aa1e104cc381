-- A call of level 12 is the call of one mailbox.
use Rattle.std.proofs.Common.{◌≡◌, ℕ, ◌+◌, ◌-◌, ◌/◌, ◌%◌, ◌<◌, ◌≤◌, Bool, true, false, cond, ◌&&◌, eqb, leb, ltb, List, [], ◌∷◌, ◌++◌, length, Option, Some, None, refl, sym, ap, ◌∙◌, inl, inr, get_or, set, arith, length-append, length-set}
use Rattle.std.specs.Prelude.{slice_get, nat_lt}
use Rattle.std.proofs.lemmas.Bool.{cases_eq, eq-eqb, ne_eqb}
use Rattle.std.proofs.lemmas.Bool.Decides.{nat_tests}
use Rattle.std.proofs.lemmas.Option.{slice_get_read, slice_get_within}
use Rattle.psos_caps.specs.Capability.{Capability}
use Rattle.psos_table.specs.Table.{at, put}
use Rattle.psos_words.specs.declared.word.Word.{Word}
use Rattle.psos_words.specs.Guard.{barred}
use Rattle.psos_calls.specs.declared.kind.Kind.TheVariants.{Process}
use Rattle.psos_calls.specs.declared.right.Right.TheVariants.{Send}
use Rattle.psos_calls.specs.declared.tab.Tab.TheVariants as tabs
use Rattle.psos_calls.specs.declared.refusal.Refusal.TheVariants.{Absent, Lacks, Guarded, Exhausted, Empty}
use Rattle.psos_calls.specs.Levels.Calls.{LevelCall}
use Rattle.psos_calls.specs.declared.level_call.LevelCall.TheVariants.{Post, Draw}
use Rattle.psos_calls.specs.Levels.Answers.{LevelAnswer}
use Rattle.psos_calls.specs.declared.level_answer.LevelAnswer.TheVariants.{Done, No}
use Rattle.psos_calls.specs.Language.Rights.{has}
use Rattle.psos_calls.specs.Language.Tests.{if_there, if_none, if_holds}
use Rattle.psos_calls.specs.Levels.Level12.{BoxState, posted, drawn_from, act12}
use Rattle.psos_calls.specs.Locks.{box_of, part_of}
use Rattle.psos_procs.specs.Mailbox.{Mailbox, process_of, box_posted, box_drawn, act_box}
use Rattle.psos_procs.specs.Mailboxes.{boxes_of, AreMailboxes}
use Rattle.psos_procs.proofs.Parts.{IsBoxAt, put_same, box_at, boxes-at, boxes-set, boxes-set_order, no_box}

-- ---- parts

-- the part of a process is its user
pub part_of_process : (users k : ℕ) → k < users → box_of users (process_of k) ≡ k
part_of_process users k below =
    let rest : (process_of k - 3) % 4 ≡ 0 = omega arith in
    let quotient : (process_of k - 3) / 4 ≡ k = omega arith in
    let test : leb 3 (process_of k) && eqb ((process_of k - 3) % 4) 0 && ltb ((process_of k - 3) / 4) users ≡ true = rw (rest, quotient) (grind (arith, nat_tests)) in
    ap (λ b. cond b ((process_of k - 3) / 4) 0) test ∙ quotient

-- ---- what a mailbox leaves and answers, as what its table leaves and answers
abbrev in_table : BoxState → ℕ → List Word × LevelAnswer → BoxState × LevelAnswer
in_table s p r = (put s p r.0, r.1)

-- where the words stay, the table stays
stays : (s : BoxState) (p : ℕ) (words : List Word) (answer : LevelAnswer) → at s p ≡ Some words → (s, answer) ≡ in_table s p (words, answer)
stays s p words answer here = ap (λ (m : BoxState). (let r : BoxState × LevelAnswer = (m, answer) in r)) (sym (put_same s p words here))

drawn_is : (s : BoxState) (p : ℕ) (words : List Word) → at s p ≡ Some words → drawn_from s p words ≡ in_table s p (box_drawn words)
drawn_is s p [] here = stays s p [] (No Empty) here
drawn_is s p (word ∷ rest) here = refl

-- where a mailbox is there, its row is
posted_here : (s : BoxState) (p : ℕ) (words : List Word) (word : Word) → at s p ≡ Some words → (right : Bool) (guard : Option ℕ) (room : Bool)
    → if_holds right (s, No (Lacks Send)) (if_none guard (λ b. (s, No (Guarded b))) (if_holds room (s, No (Exhausted tabs.Mailbox)) (put s p (words ++ word ∷ []), Done)))
    ≡ in_table s p (if_holds right (words, No (Lacks Send)) (if_none guard (λ b. (words, No (Guarded b))) (if_holds room (words, No (Exhausted tabs.Mailbox)) (words ++ word ∷ [], Done))))
posted_here s p words word here false guard room = stays s p words (No (Lacks Send)) here
posted_here s p words word here true (Some b) room = stays s p words (No (Guarded b)) here
posted_here s p words word here true None false = stays s p words (No (Exhausted tabs.Mailbox)) here
posted_here s p words word here true None true = refl

-- the same, where the mailbox was looked up
abbrev posted_row : BoxState → ℕ → Capability → Word → List Word → BoxState × LevelAnswer
posted_row s p to word words =
    if_holds (has to Send) (s, No (Lacks Send)) (if_none (barred 1 word) (λ b. (s, No (Guarded b))) (if_holds (nat_lt (length words) 8) (s, No (Exhausted tabs.Mailbox)) (put s p (words ++ word ∷ []), Done)))

abbrev box_row : Capability → Word → List Word → List Word × LevelAnswer
box_row to word words =
    if_holds (has to Send) (words, No (Lacks Send)) (if_none (barred 1 word) (λ b. (words, No (Guarded b))) (if_holds (nat_lt (length words) 8) (words, No (Exhausted tabs.Mailbox)) (words ++ word ∷ [], Done)))

posted_is : (s : BoxState) (p : ℕ) (words : List Word) (to : Capability) (word : Word) → at s p ≡ Some words → ((to.uid ≡ p → ⊥) → at s to.uid ≡ None)
    → posted s to word ≡ in_table s p (box_posted p words to word)
posted_is s p words to word here others = elim (cases_eq to.uid p) [
  | inl same ↦
      ap (λ o. if_there o (s, No (Absent Process)) (posted_row s to.uid to word)) (ap (at s) same ∙ here)
      ∙ ap (λ (k : ℕ). posted_row s k to word words) same
      ∙ posted_here s p words word here (has to Send) (barred 1 word) (nat_lt (length words) 8)
      ∙ sym (ap (λ b. in_table s p (if_holds b (words, No (Absent Process)) (box_row to word words))) (eq-eqb to.uid p same))
  | inr apart ↦
      ap (λ o. if_there o (s, No (Absent Process)) (posted_row s to.uid to word)) (others apart)
      ∙ stays s p words (No (Absent Process)) here
      ∙ sym (ap (λ b. in_table s p (if_holds b (words, No (Absent Process)) (box_row to word words))) (ne_eqb to.uid p apart))
]

drawn_from_is : (s : BoxState) (p uid : ℕ) (words : List Word) → at s p ≡ Some words → ((uid ≡ p → ⊥) → at s uid ≡ None)
    → if_there (at s uid) (s, No Empty) (drawn_from s uid) ≡ in_table s p (if_holds (eqb uid p) (words, No Empty) (box_drawn words))
drawn_from_is s p uid words here others = elim (cases_eq uid p) [
  | inl same ↦
      ap (λ o. if_there o (s, No Empty) (drawn_from s uid)) (ap (at s) same ∙ here)
      ∙ ap (λ (k : ℕ). drawn_from s k words) same
      ∙ drawn_is s p words here
      ∙ sym (ap (λ b. in_table s p (if_holds b (words, No Empty) (box_drawn words))) (eq-eqb uid p same))
  | inr apart ↦
      ap (λ o. if_there o (s, No Empty) (drawn_from s uid)) (others apart)
      ∙ stays s p words (No Empty) here
      ∙ sym (ap (λ b. in_table s p (if_holds b (words, No Empty) (box_drawn words))) (ne_eqb uid p apart))
]

-- ---- the law

-- the row of a mailbox
row_of : (boxes : List Mailbox) (k : ℕ) (box : Mailbox) → AreMailboxes boxes → slice_get boxes k ≡ Some box → at (boxes_of boxes) (process_of box.number) ≡ Some box.words
row_of boxes k box are is =
    let mine : process_of box.number ≡ process_of (0 + k) = ap process_of (box_at (length boxes) 0 boxes k box are.each is).number in
    ap (at (boxes_of boxes)) mine ∙ boxes-at (length boxes) 0 boxes k box are.each is

-- what is not the process of the mailbox of its part is no process
no_row : (boxes : List Mailbox) (uid : ℕ) (box : Mailbox) → AreMailboxes boxes → slice_get boxes (box_of (length boxes) uid) ≡ Some box
    → (uid ≡ process_of box.number → ⊥) → at (boxes_of boxes) uid ≡ None
no_row boxes uid box are is apart = no_box (length boxes) 0 boxes uid are.each (λ k low high e.
    let part : box_of (length boxes) uid ≡ k = ap (box_of (length boxes)) e ∙ part_of_process (length boxes) k high in
    let number = (box_at (length boxes) 0 boxes (box_of (length boxes) uid) box are.each is).number in
    apart (e ∙ ap process_of {x = k} {y = box.number} (omega (arith, part, number))))

pub act12-part : (boxes : List Mailbox) (box : Mailbox) (call : LevelCall) → AreMailboxes boxes → slice_get boxes (part_of (length boxes) call) ≡ Some box
    → act12 (boxes_of boxes) call ≡ in_table (boxes_of boxes) (process_of box.number) (act_box (process_of box.number) box.words call)
act12-part boxes box (Post to word) are is =
    posted_is (boxes_of boxes) (process_of box.number) box.words to word (row_of boxes (box_of (length boxes) to.uid) box are is) (no_row boxes to.uid box are is)
act12-part boxes box (Draw uid) are is =
    drawn_from_is (boxes_of boxes) (process_of box.number) uid.0 box.words (row_of boxes (box_of (length boxes) uid.0) box are is) (no_row boxes uid.0 box are is)
act12-part boxes box _ are is = stays (boxes_of boxes) (process_of box.number) box.words Done (row_of boxes 0 box are is)

-- ---- one mailbox among all makes a call

few_posted : (words : List Word) (word : Word) → length words ≤ 8 → (right : Bool) (guard : Option ℕ) (room : Bool) → room ≡ nat_lt (length words) 8
    → let r : List Word × LevelAnswer = if_holds right (words, No (Lacks Send)) (if_none guard (λ b. (words, No (Guarded b))) (if_holds room (words, No (Exhausted tabs.Mailbox)) (words ++ word ∷ [], Done))) in length r.0 ≤ 8
few_posted words word few false guard room e = few
few_posted words word few true (Some b) room e = few
few_posted words word few true None false e = few
few_posted words word few true None true e =
    let below : length words < 8 = grind (arith, nat_tests) in
    omega (arith, length-append words (word ∷ []))

few_if : (words : List Word) (answer : LevelAnswer) (r : List Word × LevelAnswer) (mine : Bool) → length words ≤ 8 → length r.0 ≤ 8 → length (if_holds mine (words, answer) r).0 ≤ 8
few_if words answer r false few h = few
few_if words answer r true few h = h

few_drawn : (words : List Word) → length words ≤ 8 → length (box_drawn words).0 ≤ 8
few_drawn [] few = few
few_drawn (word ∷ rest) few = omega arith

-- a mailbox keeps its limit
act_box-few : (p : ℕ) (words : List Word) (call : LevelCall) → length words ≤ 8 → length (act_box p words call).0 ≤ 8
act_box-few p words (Post to word) few =
    few_if words (No (Absent Process)) (box_row to word words) (eqb to.uid p) few (few_posted words word few (has to Send) (barred 1 word) (nat_lt (length words) 8) refl)
act_box-few p words (Draw uid) few = few_if words (No Empty) (box_drawn words) (eqb uid.0 p) few (few_drawn words few)
act_box-few p words _ few = few

-- the mailbox of a call's part, as it was
pub record IsPartOf (boxes : List Mailbox) (part : ℕ) (call : LevelCall) (box : Mailbox) : Type 0 where
  pub are : AreMailboxes boxes
  pub is_part : part ≡ part_of (length boxes) call
  pub there : slice_get boxes part ≡ Some box

-- the mailbox that is read at the part, where the number of users is that of the mailboxes
pub part-found : (boxes : List Mailbox) (users part : ℕ) (call : LevelCall) (box : Mailbox) → AreMailboxes boxes → users ≡ length boxes → part ≡ part_of users call → part < length boxes → box ≡ get_or boxes part box
    → IsPartOf boxes part call box
part-found boxes users part call box are long is_part within read = record {
  are = are;
  is_part = is_part ∙ ap (λ (n : ℕ). part_of n call) long;
  there = slice_get_read boxes (length boxes) part box refl within read;
}

-- its users and number are those that the call goes by
pub part-number : (boxes : List Mailbox) (part : ℕ) (call : LevelCall) (box : Mailbox) → IsPartOf boxes part call box → part_of box.users call ≡ box.number
part-number boxes part call box h =
    let at = box_at (length boxes) 0 boxes part box h.are.each h.there in
    let number : part ≡ box.number = omega (arith, at.number) in
    ap (λ (n : ℕ). part_of n call) at.users ∙ sym h.is_part ∙ number

-- the mailbox after the call, and its answer
pub record HasActed (box : Mailbox) (call : LevelCall) (after : Mailbox) (answer : LevelAnswer) : Type 0 where
  pub row : ◌≡◌ {A = List Word × LevelAnswer} (after.words, answer) (act_box (process_of box.number) box.words call)
  pub same_number : after.number ≡ box.number
  pub same_users : after.users ≡ box.users

-- all of them are mailboxes still
pub acted-are : (boxes : List Mailbox) (part : ℕ) (call : LevelCall) (box after : Mailbox) (answer : LevelAnswer) → IsPartOf boxes part call box → HasActed box call after answer → AreMailboxes (set boxes part after)
acted-are boxes part call box after answer h a =
    let at = box_at (length boxes) 0 boxes part box h.are.each h.there in
    let long = length-set boxes part after in
    let words : after.words ≡ (act_box (process_of box.number) box.words call).0 = ap (λ (r : List Word × LevelAnswer). r.0) a.row in
    let few : length after.words ≤ 8 = rw words (act_box-few (process_of box.number) box.words call at.few) in
    let is : IsBoxAt (length boxes) (0 + part) after = record { number = a.same_number ∙ at.number; users = a.same_users ∙ at.users; few = few } in
    let some = h.are.some in
    let most = h.are.few in
    record {
      some = omega arith;
      few = omega arith;
      each = rw long (boxes-set_order (length boxes) 0 boxes part after h.are.each is);
    }

-- and what the level leaves and answers is what this mailbox does
pub acted-is : (boxes : List Mailbox) (part : ℕ) (call : LevelCall) (box after : Mailbox) (answer : LevelAnswer) → IsPartOf boxes part call box → HasActed box call after answer
    → ◌≡◌ {A = BoxState × LevelAnswer} (boxes_of (set boxes part after), answer) (act12 (boxes_of boxes) call)
acted-is boxes part call box after answer h a =
    let at = box_at (length boxes) 0 boxes part box h.are.each h.there in
    let number : after.number ≡ 0 + part = a.same_number ∙ at.number in
    let within = slice_get_within boxes part box h.there in
    let named : process_of (0 + part) ≡ process_of box.number = ap process_of (sym at.number) in
    ap (λ (m : BoxState). (let r : BoxState × LevelAnswer = (m, answer) in r)) (boxes-set (length boxes) 0 boxes part after h.are.each within number ∙ ap (λ (k : ℕ). put (boxes_of boxes) k after.words) named)
    ∙ ap (in_table (boxes_of boxes) (process_of box.number)) a.row
    ∙ sym (act12-part boxes box call h.are (ap (slice_get boxes) (sym h.is_part) ∙ h.there))
