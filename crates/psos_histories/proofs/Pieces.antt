-- A call is the call of what lies under its lock, and what lies under the locks is all of the levels.
use Rattle.std.proofs.Common.{◌≡◌, ℕ, ◌<◌, Bool, true, false, eqb, List, [], ◌∷◌, ◌++◌, length, nat_lt, Option, Some, None, refl, sym, ap, ◌∙◌, inl, inr, subst}
use Rattle.std.specs.Prelude.{IsSome, is_some}
use Rattle.std.proofs.lemmas.Bool.{cases_eq, true≢false, eq-eqb, eqb-true, lt-ltb}
use Rattle.psos_table.specs.Table.{at}
use Rattle.psos_caps.specs.declared.cap.Uid.{Uid}
use Rattle.psos_words.specs.declared.word.Word.{Word}
use Rattle.psos_words.specs.Guard.{barred}
use Rattle.psos_calls.specs.declared.kind.Kind.TheVariants.{Process}
use Rattle.psos_calls.specs.declared.tab.Tab.TheVariants.{Mailbox}
use Rattle.psos_calls.specs.declared.refusal.Refusal.TheVariants.{Absent, Lacks, Guarded, Exhausted, Empty}
use Rattle.psos_calls.specs.declared.right.Right.TheVariants.{Send}
use Rattle.psos_calls.specs.declared.level.Level.{Level}
use Rattle.psos_calls.specs.declared.level.Level.TheVariants.{L13, L12, L11, L10, L9, L8, L7, L0}
use Rattle.psos_calls.specs.declared.lock_id.LockId.{LockId}
use Rattle.psos_calls.specs.Levels.Calls.{LevelCall}
use Rattle.psos_calls.specs.declared.level_call.LevelCall.TheVariants.{Post, Draw}
use Rattle.psos_calls.specs.Levels.Answers.{LevelAnswer}
use Rattle.psos_calls.specs.declared.level_answer.LevelAnswer.TheVariants.{Done, No}
use Rattle.psos_calls.specs.Language.Rights.{has}
use Rattle.psos_calls.specs.Language.Tests.{if_none, if_holds}
use Rattle.psos_calls.specs.Levels.Level7.{Pages}
use Rattle.psos_calls.specs.Levels.Level8.{SegState}
use Rattle.psos_calls.specs.Levels.Level9.{TypeState}
use Rattle.psos_calls.specs.Levels.Level10.{DirState}
use Rattle.psos_calls.specs.Levels.Level11.{LifeState}
use Rattle.psos_calls.specs.Levels.Level12.{BoxState, act12, Can12}
use Rattle.psos_calls.specs.Levels.Level13.{CodeState}
use Rattle.psos_calls.specs.Levels.{Levels, level_of, act_at, act, Can_at, Can}
use Rattle.psos_calls.specs.Locks.Held.{is_lock, same_lock}
use Rattle.psos_agree.proofs.LocksTaken.{lock_at}
use Rattle.psos_calls.specs.Locks.{box_of, part_of, lock_of}
use Rattle.psos_model.specs.Flat.Boot.{process_of}
use Rattle.psos_model.specs.Events.Serial.{SameAt}
use Rattle.psos_procs.specs.Mailbox.{box_drawn}
use Rattle.psos_histories.specs.Pieces.{Piece, Codes, Box, Life, Dirs, Types, Segs, Slots, Next, piece_in, piece_at, HasOwners, act_if_box, act_piece, can_box, can_piece, CallsAreOfPieces, PiecesAreAll}
use Rattle.psos_table.proofs.Tables.{same_table}
use Rattle.psos_events.proofs.MailboxRows.{NoOthers, target, row_after, row_if, put_if, put_if_here, put_if_apart, absent_stays, act12_is, part_is, box_below}
use Rattle.psos_events.proofs.LockScope.{Same, others_stay}
use Rattle.psos_events.proofs.EndState.{same_levels}

-- ---- the same under a lock

same_piece_in : (level : Level) (part : ℕ) (a b : Levels) → SameAt level part a b → piece_in level part a ≡ piece_in level part b
same_piece_in L13 part a b h = ap Codes h
same_piece_in L12 part a b h = ap (Box part) h
same_piece_in L11 part a b h = ap Life h
same_piece_in L10 part a b h = ap Dirs h
same_piece_in L9 part a b h = ap Types h
same_piece_in L8 part a b h = ap Segs h
same_piece_in L7 part a b h = ap Slots h
same_piece_in L0 part a b h = ap Next h

pub same_piece : {k : LockId} {a b : Levels} → Same k a b → piece_at k a ≡ piece_at k b
same_piece {k} {a} {b} h = same_piece_in k.level k.part a b h.at_lock

-- ---- one mailbox

abbrev told : ℕ → List Word × LevelAnswer → Piece × LevelAnswer
told part q = (Box part (Some q.0), q.1)

apart_eqb : (a b : ℕ) → (a ≡ b → ⊥) → eqb a b ≡ false
apart_eqb a b h = by_test (eqb a b) refl
  where
    by_test : (t : Bool) → eqb a b ≡ t → t ≡ false
    by_test false e = refl
    by_test true e = absurd (h (eqb-true a b e))

-- a row that is put, or stays, and the answer
abbrev left : ℕ → Option (List Word) → Option (List Word) × LevelAnswer → Piece × LevelAnswer
left part o r = (Box part (row_if r.0 o), r.1)

posted_there : (part : ℕ) (words more : List Word) (t right : Bool) (guard : Option ℕ) (room : Bool) → t ≡ true
    → left part (Some words) (if_holds right (None, No (Lacks Send)) (if_none guard (λ b. (None, No (Guarded b))) (if_holds room (None, No (Exhausted Mailbox)) (Some more, Done))))
    ≡ told part (if_holds t (words, No (Absent Process)) (if_holds right (words, No (Lacks Send)) (if_none guard (λ b. (words, No (Guarded b))) (if_holds room (words, No (Exhausted Mailbox)) (more, Done)))))
posted_there part words more false right guard room e = absurd (true≢false (sym e))
posted_there part words more true false guard room e = refl
posted_there part words more true true (Some b) room e = refl
posted_there part words more true true None false e = refl
posted_there part words more true true None true e = refl

drawn_there : (part : ℕ) (words : List Word) (uid : Uid) (t : Bool) → t ≡ true → left part (Some words) (row_after (Draw uid) (Some words)) ≡ told part (if_holds t (words, No Empty) (box_drawn words))
drawn_there part words uid false e = absurd (true≢false (sym e))
drawn_there part [] uid true e = refl
drawn_there part (w ∷ rest) uid true e = refl

-- a call that goes to its process
there : (part : ℕ) (o : Option (List Word)) (call : LevelCall) → target call ≡ process_of part → left part o (row_after call o) ≡ act_if_box part o call
there part None (Post to word) e = refl
there part None (Draw uid) e = refl
there part None _ e = refl
there part (Some words) (Post to word) e = posted_there part words (words ++ word ∷ []) (eqb to.uid (process_of part)) (has to Send) (barred 1 word) (nat_lt (length words) 8) (eq-eqb to.uid (process_of part) e)
there part (Some words) (Draw uid) e = drawn_there part words uid (eqb uid.0 (process_of part)) (eq-eqb uid.0 (process_of part) e)
there part (Some words) _ e = refl

-- and one that does not
elsewhere : (part : ℕ) (o : Option (List Word)) (call : LevelCall) → (target call ≡ process_of part → ⊥) → left part o (row_after call None) ≡ act_if_box part o call
elsewhere part None (Post to word) e = refl
elsewhere part None (Draw uid) e = refl
elsewhere part None _ e = refl
elsewhere part (Some words) (Post to word) e =
    let P : Bool → Type 0 = λ t. left part (Some words) (None, No (Absent Process)) ≡ told part (if_holds t (words, No (Absent Process)) (if_holds (has to Send) (words, No (Lacks Send)) (if_none (barred 1 word) (λ b. (words, No (Guarded b))) (if_holds (nat_lt (length words) 8) (words, No (Exhausted Mailbox)) (words ++ word ∷ [], Done))))) in
    subst P (sym (apart_eqb to.uid (process_of part) e)) refl
elsewhere part (Some words) (Draw uid) e =
    let P : Bool → Type 0 = λ t. left part (Some words) (None, No Empty) ≡ told part (if_holds t (words, No Empty) (box_drawn words)) in
    subst P (sym (apart_eqb uid.0 (process_of part) e)) refl
elsewhere part (Some words) _ e = refl

-- what lies under the lock of a call after it, and its answer
pub record IsCalled (level : Level) (part : ℕ) (l : Levels) (call : LevelCall) : Type 0 where
  pub piece : piece_in level part (act_at level l call).0 ≡ (act_piece (piece_in level part l) call).0
  pub answer : (act_at level l call).1 ≡ (act_piece (piece_in level part l) call).1

box_called : (n : ℕ) (l : Levels) (call : LevelCall) → NoOthers n l.boxes → IsCalled L12 (part_of n call) l call
box_called n l call h =
    let s = l.boxes in
    let part = part_of n call in
    let p = process_of part in
    let t = target call in
    let is = act12_is s call in
    let both : left part (at s p) (row_after call (at s t)) ≡ act_if_box part (at s p) call = elim (cases_eq t p) [
      | inl mine ↦ ap (λ (q : ℕ). left part (at s p) (row_after call (at s q))) mine ∙ there part (at s p) call mine
      | inr apart ↦
          ap (λ (o : Option (List Word)). left part (at s p) (row_after call o)) (h.none t (λ same. apart (same ∙ ap process_of (sym (part_is n call)))))
          ∙ elsewhere part (at s p) call apart
    ] in
    let row : at (act12 s call).0 p ≡ row_if (row_after call (at s t)).0 (at s p) =
    ap (λ (r : BoxState × LevelAnswer). at r.0 p) is ∙ elim (cases_eq p t) [
      | inl mine ↦
          ap (at (put_if s t (row_after call (at s t)).0)) mine ∙ put_if_here s t (row_after call (at s t)).0
          ∙ ap (λ (q : ℕ). row_if (row_after call (at s t)).0 (at s q)) (sym mine)
      | inr apart ↦
          let nothing : at s t ≡ None = h.none t (λ same. apart (sym (same ∙ ap process_of (sym (part_is n call))))) in
          put_if_apart s t (row_after call (at s t)).0 p apart
          ∙ sym (ap (λ (o : Option (List Word)). row_if (row_after call o).0 (at s p)) nothing ∙ ap (λ (o : Option (List Word)). row_if o (at s p)) (absent_stays call))
    ] in
    record {
      piece = ap (Box part) row ∙ ap (λ (r : Piece × LevelAnswer). r.0) both;
      answer = ap (λ (r : BoxState × LevelAnswer). r.1) is ∙ ap (λ (r : Piece × LevelAnswer). r.1) both;
    }

called_in : (n : ℕ) (l : Levels) (call : LevelCall) (level : Level) → NoOthers n l.boxes → IsCalled level (part_of n call) l call
called_in n l call L13 h = record { piece = refl; answer = refl }
called_in n l call L12 h = box_called n l call h
called_in n l call L11 h = record { piece = refl; answer = refl }
called_in n l call L10 h = record { piece = refl; answer = refl }
called_in n l call L9 h = record { piece = refl; answer = refl }
called_in n l call L8 h = record { piece = refl; answer = refl }
called_in n l call L7 h = record { piece = refl; answer = refl }
called_in n l call L0 h = record { piece = refl; answer = refl }

pub called_alone : (n : ℕ) (l : Levels) (call : LevelCall) → NoOthers n l.boxes → IsCalled (level_of call) (part_of n call) l call
called_alone n l call h = called_in n l call (level_of call) h

-- and under any other lock
pub stays_alone : (n : ℕ) → 0 < n → (l : Levels) (call : LevelCall) (k : LockId) → is_lock n k ≡ true → same_lock k (lock_of n call) ≡ false → piece_at k (act l call).0 ≡ piece_at k l
stays_alone n some l call k lock other = same_piece (others_stay n some l call k lock other)

-- ---- from the piece back to the levels

abbrev code_part : CodeState → Piece → CodeState
code_part d (Codes c) = c
code_part d _ = d

abbrev row_part : Piece → Option (List Word)
row_part (Box part row) = row
row_part _ = None

abbrev life_part : LifeState → Piece → LifeState
life_part d (Life c) = c
life_part d _ = d

abbrev dir_part : DirState → Piece → DirState
dir_part d (Dirs c) = c
dir_part d _ = d

abbrev type_part : TypeState → Piece → TypeState
type_part d (Types c) = c
type_part d _ = d

abbrev seg_part : SegState → Piece → SegState
seg_part d (Segs c) = c
seg_part d _ = d

abbrev slot_part : Pages → Piece → Pages
slot_part d (Slots c) = c
slot_part d _ = d

abbrev next_part : Piece → ℕ
next_part (Next c) = c
next_part _ = 0

same_in : (level : Level) (part : ℕ) (a b : Levels) → piece_in level part a ≡ piece_in level part b → SameAt level part a b
same_in L13 part a b h = ap (code_part a.codes) h
same_in L12 part a b h = ap row_part h
same_in L11 part a b h = ap (life_part a.life) h
same_in L10 part a b h = ap (dir_part a.dirs) h
same_in L9 part a b h = ap (type_part a.types) h
same_in L8 part a b h = ap (seg_part a.segs) h
same_in L7 part a b h = ap (slot_part a.pages) h
same_in L0 part a b h = ap next_part h

pub piece_same : (k : LockId) (a b : Levels) → piece_at k a ≡ piece_at k b → Same k a b
piece_same k a b h = record { at_lock = same_in k.level k.part a b h }

-- ---- where a call can be made

-- a process from which a word can be drawn has a mailbox, which is that of the call's part
box_there : (n : ℕ) (s : BoxState) (call : LevelCall) → NoOthers n s → Can12 s call → can_box (at s (process_of (part_of n call))) call
box_there n s (Draw uid) h can = elim (cases_eq uid.0 (process_of (box_of n uid.0))) [
  | inl mine ↦ subst (λ (q : ℕ). IsSome (at s q)) mine can
  | inr other ↦ absurd (true≢false (sym can ∙ ap is_some (h.none uid.0 other)))
]
box_there n s _ h can = tt

can_in : (n : ℕ) (l : Levels) (call : LevelCall) (level : Level) → NoOthers n l.boxes → Can_at level l call → can_piece (piece_in level (part_of n call) l) call
can_in n l call L13 h can = can
can_in n l call L12 h can = box_there n l.boxes call h can
can_in n l call L11 h can = can
can_in n l call L10 h can = can
can_in n l call L9 h can = can
can_in n l call L8 h can = can
can_in n l call L7 h can = can
can_in n l call L0 h can = can

pub can_alone : (n : ℕ) (l : Levels) (call : LevelCall) → NoOthers n l.boxes → Can l call → can_piece (piece_at (lock_of n call) l) call
can_alone n l call h can = can_in n l call (level_of call) h can

-- ---- laws

-- only users have mailboxes, as the laws of mailboxes say it
pub no_strangers_in : (n : ℕ) (l : Levels) → HasOwners n l → NoOthers n l.boxes
no_strangers_in n l h = record { none = h.none }

pub calls_are_of_pieces : CallsAreOfPieces
calls_are_of_pieces n l call some h =
    let alone = called_alone n l call (no_strangers_in n l h) in
    record { piece = alone.piece; answer = alone.answer; others = λ k lock other. stays_alone n some l call k lock other }

pub pieces_are_all : PiecesAreAll
pieces_are_all n a b some h g same =
    let under : (k : LockId) → is_lock n k ≡ true → Same k a b = λ k lock. piece_same k a b (same k lock) in
    same_levels a b (under (lock_at L0) refl).at_lock (under (lock_at L7) refl).at_lock (under (lock_at L8) refl).at_lock
    (under (lock_at L9) refl).at_lock (under (lock_at L10) refl).at_lock (under (lock_at L11) refl).at_lock
    (same_table a.boxes b.boxes (λ uid.
    let part = box_of n uid in
    let mailbox : Same (record { level = L12; part = part }) a b = under (record { level = L12; part = part }) (lt-ltb part n (box_below n uid some)) in
    elim (cases_eq uid (process_of part)) [
      | inl own ↦ ap (at a.boxes) own ∙ mailbox.at_lock ∙ sym (ap (at b.boxes) own)
      | inr other ↦ h.none uid other ∙ sym (g.none uid other)
    ]))
    (under (lock_at L13) refl).at_lock
