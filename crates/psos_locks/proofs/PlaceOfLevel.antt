-- The place of a level among those of all levels. States docs/levels.md, "Locks".
use Rattle.std.proofs.Common.{◌≡◌, ℕ, ◌<◌, ◌==◌, ◌||◌, Bool, true, false, cond, ltb, List, [], ◌∷◌, ◌++◌, Option, Some, None, refl, sym, ap, ◌∙◌, subst}
use Rattle.std.specs.Prelude.{is_some, option_map, IfSome, OnOk, IfErr, Result, Ok, Err}
use Rattle.std.proofs.lemmas.Bool.{true≢false, eqb-true, eq-eqb}
use Rattle.psos_calls.specs.declared.level.Level.{Level}
use Rattle.psos_calls.specs.declared.level.Level.TheVariants.{L13, L12, L11, L10, L9, L8, L7, L0}
use Rattle.psos_calls.specs.declared.lock_id.LockId.{LockId}
use Rattle.psos_calls.specs.declared.step.Step.{Step}
use Rattle.psos_calls.specs.Levels.{level_of}
use Rattle.psos_calls.specs.Levels.Calls.{LevelCall}
use Rattle.psos_calls.specs.Levels.Answers.{LevelAnswer}
use Rattle.psos_calls.specs.Locks.{part_of, lock_of}
use Rattle.psos_calls.specs.Locks.Held.{rank, same_lock, is_lock, is_held}
use Rattle.psos_agree.proofs.LocksTaken.{same_lock_refl}
use Rattle.psos_events.proofs.LockScope.{same_lock_is, lock_is_lock}
use Rattle.psos_histories.specs.Pieces.{act_piece}
use Rattle.psos_histories.specs.Grips.{Grip, locks_of}
use Rattle.psos_histories.specs.Requests.{called_one, called, answer_in, step_in, CanIn}
use Rattle.psos_locks.specs.declared.hands.Hands.{Hands}
use Rattle.psos_locks.specs.Grips.{grips_in, level_lock, next_grip, page_grip, seg_grip, type_grip, dir_grip, life_grip, box_grip, code_grip}
use Rattle.psos_locks.specs.Places.{holds_in, step_of, CanMake, IsSomeThat}
use Rattle.psos_locks.proofs.Gripped.{IsOther, AreOther, none_other, called_there, answered_there, can_there}

-- ---- the places before and behind it

abbrev pub at_level : {T B : Type 0} → Level → Hands T B → Option Grip
at_level L13 h = option_map code_grip h.codes
at_level L12 h = option_map box_grip h.mailbox
at_level L11 h = option_map life_grip h.life
at_level L10 h = option_map dir_grip h.dirs
at_level L9 h = option_map type_grip h.types
at_level L8 h = option_map seg_grip h.segs
at_level L7 h = option_map page_grip h.pages
at_level L0 h = option_map next_grip h.issuer

abbrev pub before : {T B : Type 0} → Level → Hands T B → List (Option Grip)
before L0 h = []
before L7 h = at_level L0 h ∷ []
before L8 h = at_level L0 h ∷ at_level L7 h ∷ []
before L9 h = at_level L0 h ∷ at_level L7 h ∷ at_level L8 h ∷ []
before L10 h = at_level L0 h ∷ at_level L7 h ∷ at_level L8 h ∷ at_level L9 h ∷ []
before L11 h = at_level L0 h ∷ at_level L7 h ∷ at_level L8 h ∷ at_level L9 h ∷ at_level L10 h ∷ []
before L12 h = at_level L0 h ∷ at_level L7 h ∷ at_level L8 h ∷ at_level L9 h ∷ at_level L10 h ∷ at_level L11 h ∷ []
before L13 h = at_level L0 h ∷ at_level L7 h ∷ at_level L8 h ∷ at_level L9 h ∷ at_level L10 h ∷ at_level L11 h ∷ at_level L12 h ∷ []

abbrev pub behind : {T B : Type 0} → Level → Hands T B → List (Option Grip)
behind L0 h = at_level L7 h ∷ at_level L8 h ∷ at_level L9 h ∷ at_level L10 h ∷ at_level L11 h ∷ at_level L12 h ∷ at_level L13 h ∷ []
behind L7 h = at_level L8 h ∷ at_level L9 h ∷ at_level L10 h ∷ at_level L11 h ∷ at_level L12 h ∷ at_level L13 h ∷ []
behind L8 h = at_level L9 h ∷ at_level L10 h ∷ at_level L11 h ∷ at_level L12 h ∷ at_level L13 h ∷ []
behind L9 h = at_level L10 h ∷ at_level L11 h ∷ at_level L12 h ∷ at_level L13 h ∷ []
behind L10 h = at_level L11 h ∷ at_level L12 h ∷ at_level L13 h ∷ []
behind L11 h = at_level L12 h ∷ at_level L13 h ∷ []
behind L12 h = at_level L13 h ∷ []
behind L13 h = []

-- what is held at it is not of another level
other : {G : Type 0} (grip : G → Grip) (lock : LockId) (o : Option G) → ((g : G) → same_lock (grip g).lock lock ≡ false) → IsOther lock (option_map grip o)
other grip lock None h = tt
other grip lock (Some g) h = h g

module _ {T B : Type 0} (h : Hands T B) (part : ℕ) where
  abbrev of : Level → LockId
  of level = record { level = level; part = part }

  next_other : (k : LockId) → ((g : _) → same_lock (next_grip g).lock k ≡ false) → IsOther k (at_level L0 h)
  next_other k e = other next_grip k h.issuer e

  page_other : (k : LockId) → ((g : _) → same_lock (page_grip {B = B} g).lock k ≡ false) → IsOther k (at_level L7 h)
  page_other k e = other (page_grip {B = B}) k h.pages e

  seg_other : (k : LockId) → ((g : _) → same_lock (seg_grip g).lock k ≡ false) → IsOther k (at_level L8 h)
  seg_other k e = other seg_grip k h.segs e

  type_other : (k : LockId) → ((g : _) → same_lock (type_grip g).lock k ≡ false) → IsOther k (at_level L9 h)
  type_other k e = other type_grip k h.types e

  dir_other : (k : LockId) → ((g : _) → same_lock (dir_grip g).lock k ≡ false) → IsOther k (at_level L10 h)
  dir_other k e = other dir_grip k h.dirs e

  life_other : (k : LockId) → ((g : _) → same_lock (life_grip g).lock k ≡ false) → IsOther k (at_level L11 h)
  life_other k e = other life_grip k h.life e

  box_other : (k : LockId) → ((g : _) → same_lock (box_grip g).lock k ≡ false) → IsOther k (at_level L12 h)
  box_other k e = other box_grip k h.mailbox e

  code_other : (k : LockId) → ((g : _) → same_lock (code_grip g).lock k ≡ false) → IsOther k (at_level L13 h)
  code_other k e = other code_grip k h.codes e

  front_other : (level : Level) → AreOther (of level) (before level h)
  front_other L0 = tt
  front_other L7 = (next_other (of L7) (λ g. refl), tt)
  front_other L8 = (next_other (of L8) (λ g. refl), (page_other (of L8) (λ g. refl), tt))
  front_other L9 = (next_other (of L9) (λ g. refl), (page_other (of L9) (λ g. refl), (seg_other (of L9) (λ g. refl), tt)))
  front_other L10 = (next_other (of L10) (λ g. refl), (page_other (of L10) (λ g. refl), (seg_other (of L10) (λ g. refl), (type_other (of L10) (λ g. refl), tt))))
  front_other L11 = (next_other (of L11) (λ g. refl), (page_other (of L11) (λ g. refl), (seg_other (of L11) (λ g. refl), (type_other (of L11) (λ g. refl), (dir_other (of L11) (λ g. refl), tt)))))
  front_other L12 = (next_other (of L12) (λ g. refl), (page_other (of L12) (λ g. refl), (seg_other (of L12) (λ g. refl), (type_other (of L12) (λ g. refl), (dir_other (of L12) (λ g. refl), (life_other (of L12) (λ g. refl), tt))))))
  front_other L13 = (next_other (of L13) (λ g. refl), (page_other (of L13) (λ g. refl), (seg_other (of L13) (λ g. refl), (type_other (of L13) (λ g. refl), (dir_other (of L13) (λ g. refl), (life_other (of L13) (λ g. refl), (box_other (of L13) (λ g. refl), tt)))))))

  rest_other : (level : Level) → AreOther (of level) (behind level h)
  rest_other L0 = (page_other (of L0) (λ g. refl), (seg_other (of L0) (λ g. refl), (type_other (of L0) (λ g. refl), (dir_other (of L0) (λ g. refl), (life_other (of L0) (λ g. refl), (box_other (of L0) (λ g. refl), (code_other (of L0) (λ g. refl), tt)))))))
  rest_other L7 = (seg_other (of L7) (λ g. refl), (type_other (of L7) (λ g. refl), (dir_other (of L7) (λ g. refl), (life_other (of L7) (λ g. refl), (box_other (of L7) (λ g. refl), (code_other (of L7) (λ g. refl), tt))))))
  rest_other L8 = (type_other (of L8) (λ g. refl), (dir_other (of L8) (λ g. refl), (life_other (of L8) (λ g. refl), (box_other (of L8) (λ g. refl), (code_other (of L8) (λ g. refl), tt)))))
  rest_other L9 = (dir_other (of L9) (λ g. refl), (life_other (of L9) (λ g. refl), (box_other (of L9) (λ g. refl), (code_other (of L9) (λ g. refl), tt))))
  rest_other L10 = (life_other (of L10) (λ g. refl), (box_other (of L10) (λ g. refl), (code_other (of L10) (λ g. refl), tt)))
  rest_other L11 = (box_other (of L11) (λ g. refl), (code_other (of L11) (λ g. refl), tt))
  rest_other L12 = (code_other (of L12) (λ g. refl), tt)
  rest_other L13 = tt

-- ---- the lock of a call at its level

module _ {T B : Type 0} (h : Hands T B) (users : ℕ) (call : LevelCall) (level : Level) (is : level_of call ≡ level) where
  abbrev lock : LockId
  lock = lock_of users call

  front : AreOther lock (before level h)
  front = subst (λ (l : Level). AreOther (record { level = l; part = part_of users call }) (before level h)) (sym is) (front_other h (part_of users call) level)

  rest : AreOther lock (behind level h)
  rest = subst (λ (l : Level). AreOther (record { level = l; part = part_of users call }) (behind level h)) (sym is) (rest_other h (part_of users call) level)

  abbrev all : List (Option Grip)
  all = before level h ++ at_level level h ∷ behind level h

  -- all that is held elsewhere are other locks
  in_place : (lock : LockId) (before : List (Option Grip)) (o : Option Grip) (behind : List (Option Grip)) → AreOther lock before → AreOther lock behind
      → is_held (locks_of (grips_in (before ++ o ∷ behind))) lock ≡ holds_in lock o
  in_place lock [] None behind f r = none_other lock behind r
  in_place lock [] (Some g) behind f r = ap (λ (b : Bool). same_lock g.lock lock || b) (none_other lock behind r) ∙ or_none (same_lock g.lock lock)
    where
      or_none : (b : Bool) → b || false ≡ b
      or_none true = refl
      or_none false = refl
  in_place lock (None ∷ before) o behind f r = in_place lock before o behind f.1 r
  in_place lock (Some g ∷ before) o behind f r = ap (λ (b : Bool). b || is_held (locks_of (grips_in (before ++ o ∷ behind))) lock) f.0 ∙ in_place lock before o behind f.1 r

  pub held_at : is_held (locks_of (grips_in all)) lock ≡ holds_in lock (at_level level h)
  held_at = in_place lock (before level h) (at_level level h) (behind level h) front rest

  -- where it is held, the call may be made there
  pub can_make : is_held (locks_of (grips_in all)) lock ≡ true → CanIn (grips_in all) lock call → CanMake lock call (at_level level h)
  can_make held can = by_place (at_level level h) refl
    where
      by_place : (o : Option Grip) → at_level level h ≡ o → CanMake lock call o
      by_place None e = absurd (true≢false (sym held ∙ (held_at ∙ ap (holds_in lock) e)))
      by_place (Some g) e =
          let same : same_lock g.lock lock ≡ true = sym (ap (holds_in lock) e) ∙ (sym held_at ∙ held) in
          let at : CanIn (grips_in (before level h ++ Some g ∷ behind level h)) lock call = subst (λ (o : Option Grip). CanIn (grips_in (before level h ++ o ∷ behind level h)) lock call) e can in
          record { grip = g; there = refl; same = sym (same_lock_is g.lock lock same); can = can_there lock call (before level h) g (behind level h) same at }

  module _ (held : is_held (locks_of (grips_in all)) lock ≡ true) where
    -- what the call leaves
    pub called_at : (new : Option Grip) → new ≡ option_map (λ (g : Grip). called_one g call) (at_level level h) → grips_in (before level h ++ new ∷ behind level h) ≡ called (grips_in all) lock call
    called_at new left = by_place (at_level level h) refl
      where
        by_place : (o : Option Grip) → at_level level h ≡ o → grips_in (before level h ++ new ∷ behind level h) ≡ called (grips_in all) lock call
        by_place None e = absurd (true≢false (sym held ∙ (held_at ∙ ap (holds_in lock) e)))
        by_place (Some g) e =
            let same : same_lock g.lock lock ≡ true = sym (ap (holds_in lock) e) ∙ (sym held_at ∙ held) in
            let at : new ≡ Some (called_one g call) = left ∙ ap (option_map (λ (g : Grip). called_one g call)) e in
            ap (λ (o : Option Grip). grips_in (before level h ++ o ∷ behind level h)) at ∙ called_there lock call (before level h) g (behind level h) front same
            ∙ ap (λ (o : Option Grip). called (grips_in (before level h ++ o ∷ behind level h)) lock call) (sym e)

    -- and answers
    pub traced_at : (old new : List Step) → IfSome (at_level level h) (λ (g : Grip). new ≡ old ++ step_of g call ∷ []) → new ≡ old ++ step_in (grips_in all) lock call ∷ []
    traced_at old new said = by_place (at_level level h) refl
      where
        by_place : (o : Option Grip) → at_level level h ≡ o → new ≡ old ++ step_in (grips_in all) lock call ∷ []
        by_place None e = absurd (true≢false (sym held ∙ (held_at ∙ ap (holds_in lock) e)))
        by_place (Some g) e =
            let same : same_lock g.lock lock ≡ true = sym (ap (holds_in lock) e) ∙ (sym held_at ∙ held) in
            let answer : answer_in (grips_in all) lock call ≡ (act_piece g.piece call).1 =
            ap (λ (o : Option Grip). answer_in (grips_in (before level h ++ o ∷ behind level h)) lock call) e ∙ answered_there lock call (before level h) g (behind level h) front same in
            let leveled : g.lock.level ≡ level_of call = ap (λ (k : LockId). k.level) (same_lock_is g.lock lock same) in
            let at : new ≡ old ++ step_of g call ∷ [] = subst (λ (o : Option Grip). IfSome o (λ (g : Grip). new ≡ old ++ step_of g call ∷ [])) e said in
            at
            ∙ ap (λ (l : Level). old ++ (let t : Step = record { level = l; call = call; answer = (act_piece g.piece call).1 } in t) ∷ []) leveled
            ∙ ap (λ (a : LevelAnswer). old ++ (let t : Step = record { level = level_of call; call = call; answer = a } in t) ∷ []) (sym answer)

-- ---- whether it is held

-- a lock is held where something is, at a level that is one lock
pub some_held : {G : Type 0} (grip : G → Grip) (k : LockId) (o : Option G) → ((g : G) → same_lock (grip g).lock k ≡ true) → is_some o ≡ holds_in k (option_map grip o)
some_held grip k None h = refl
some_held grip k (Some g) h = sym (h g)

-- the lock of a call of a level other than 12
pub whole_lock : (users : ℕ) → 0 < users → (call : LevelCall) (level : Level) → level_of call ≡ level → (rank level == 12 ≡ false) → same_lock (level_lock level) (lock_of users call) ≡ true
whole_lock users some call level is apart =
    let lock = lock_of users call in
    let good : is_lock users lock ≡ true = lock_is_lock users some call in
    let rank_is : (rank lock.level == 12) ≡ false = ap (λ (l : Level). rank l == 12) is ∙ apart in
    let part : (lock.part == 0) ≡ true = sym (ap (λ (t : Bool). cond t (ltb lock.part users) (lock.part == 0)) rank_is) ∙ good in
    let zero_is : lock.part ≡ 0 = eqb-true lock.part 0 part in
    let whole : level_lock level ≡ lock = ap (λ (l : Level). (let k : LockId = record { level = l; part = 0 } in k)) (sym is) ∙ ap (λ (p : ℕ). (let k : LockId = record { level = level_of call; part = p } in k)) (sym zero_is) in
    ap (same_lock (level_lock level)) (sym whole) ∙ same_lock_refl (level_lock level)

-- ---- results

pub never_there : {X : Type 0} (o : Option X) → IsSomeThat o (λ x. ⊥) → ⊥
never_there None h = h
never_there (Some x) h = h

-- the lock of a mailbox
eqb_back : (a b : ℕ) → (a == b) ≡ (b == a)
eqb_back a b = by_test (a == b) refl
  where
    by_test : (t : Bool) → (a == b) ≡ t → (a == b) ≡ (b == a)
    by_test true e = e ∙ sym (eq-eqb b a (sym (eqb-true a b e)))
    by_test false e = e ∙ sym (not_back (b == a) refl)
      where
        not_back : (t : Bool) → (b == a) ≡ t → (b == a) ≡ false
        not_back false f = f
        not_back true f = absurd (true≢false (sym (eq-eqb a b (sym (eqb-true b a f))) ∙ e))

pub box_is : (users : ℕ) (call : LevelCall) (number : ℕ) → level_of call ≡ L12 → (part_of users call == number) ≡ same_lock (record { level = L12; part = number }) (lock_of users call)
box_is users call number is = eqb_back (part_of users call) number ∙ ap (λ (l : Level). same_lock (record { level = L12; part = number }) (record { level = l; part = part_of users call })) (sym is)

pub on_ok : {A E : Type 0} {P Q : Type 0} (r : Result A E) → (P → Q) → OnOk r P → OnOk r Q
on_ok (Ok a) f h = f h
on_ok (Err e) f h = tt

pub if_err : {A E : Type 0} {P Q : E → Type 0} (r : Result A E) → ((e : E) → P e → Q e) → IfErr r P → IfErr r Q
if_err (Ok a) f h = tt
if_err (Err e) f h = f e h

pub ok_when : {A E : Type 0} {P : Type 0} (r : Result A E) (a : A) → r ≡ Ok a → P → OnOk r P
ok_when {A} {E} {P} r a is h = subst (λ (q : Result A E). OnOk q P) (sym is) h

pub err_when : {A E : Type 0} (P : Type 0) (r : Result A E) (e : E) → r ≡ Err e → OnOk r P
err_when {A} {E} P r e is = subst (λ (q : Result A E). OnOk q P) (sym is) tt

pub on_ok_of : {A E : Type 0} {P : Type 0} (r : Result A E) (a : A) → r ≡ Ok a → OnOk r P → P
on_ok_of {A} {E} {P} r a is h = subst (λ (q : Result A E). OnOk q P) is h
