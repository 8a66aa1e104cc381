-- The mailboxes in order and the table that they are.
use Rattle.std.proofs.Common.{◌≡◌, ℕ, zero, suc, ◌+◌, ◌<◌, ◌≤◌, cond, eqb, List, [], ◌∷◌, length, set, Some, None, sym, ap, subst, ◌∙◌, inl, inr, arith}
use Rattle.std.specs.Prelude.{slice_get}
use Rattle.std.proofs.lemmas.Bool.{cases_eq}
use Rattle.psos_table.specs.Table.{Table, at, put, size}
use Rattle.psos_table.proofs.Tables.{same_table, at-empty, at-put, at-put_here, at-put_apart, size-empty, size-put_new}
use Rattle.psos_words.specs.declared.word.Word.{Word}
use Rattle.psos_procs.specs.Mailbox.{Mailbox, process_of}
use Rattle.psos_procs.specs.Mailboxes.{boxes_of, AreBoxesFrom}

-- ---- tables

-- a row put where it is
pub put_same : {X : Type 0} (m : Table X) (k : ℕ) (x : X) → at m k ≡ Some x → put m k x ≡ m
put_same m k x e = same_table (put m k x) m (λ q. elim (cases_eq q k) [
  | inl same ↦ ap (at (put m k x)) same ∙ at-put_here m k x ∙ sym e ∙ ap (at m) (sym same)
  | inr apart ↦ at-put_apart m k x q apart
])

-- of two rows put under one number the later counts
pub put_again : {X : Type 0} (m : Table X) (k : ℕ) (x y : X) → put (put m k x) k y ≡ put m k y
put_again m k x y = same_table (put (put m k x) k y) (put m k y) (λ q. elim (cases_eq q k) [
  | inl same ↦ ap (at (put (put m k x) k y)) same ∙ at-put_here (put m k x) k y ∙ sym (at-put_here m k y) ∙ ap (at (put m k y)) (sym same)
  | inr apart ↦ at-put_apart (put m k x) k y q apart ∙ at-put_apart m k x q apart ∙ sym (at-put_apart m k y q apart)
])

-- rows under two numbers may be put in either order
pub put_either : {X : Type 0} (m : Table X) (j k : ℕ) (x y : X) → (j ≡ k → ⊥) → put (put m j x) k y ≡ put (put m k y) j x
put_either m j k x y differ = same_table (put (put m j x) k y) (put (put m k y) j x) (λ q. elim (cases_eq q k) [
  | inl same ↦
      let apart : q ≡ j → ⊥ = λ e. differ (sym e ∙ same) in
      ap (at (put (put m j x) k y)) same ∙ at-put_here (put m j x) k y ∙ sym (at-put_here m k y) ∙ ap (at (put m k y)) (sym same) ∙ sym (at-put_apart (put m k y) j x q apart)
  | inr apart ↦ at-put_apart (put m j x) k y q apart ∙ at-put m j x q ∙ ap (cond (eqb q j) (Some x)) (sym (at-put_apart m k y q apart)) ∙ sym (at-put (put m k y) j x q)
])

-- ---- mailboxes in order

-- they go up to the last user
pub to_the_last : (users i : ℕ) (boxes : List Mailbox) → AreBoxesFrom users i boxes → i + length boxes ≡ users
to_the_last users i [] h = omega (arith, h)
to_the_last users i (box ∷ rest) h = omega (arith, to_the_last users (i + 1) rest h.3)

-- what holds of one mailbox among them
pub record IsBoxAt (all k : ℕ) (box : Mailbox) : Type 0 where
  pub number : box.number ≡ k
  pub users : box.users ≡ all
  pub few : length box.words ≤ 8

pub box_at : (users i : ℕ) (boxes : List Mailbox) (k : ℕ) (box : Mailbox) → AreBoxesFrom users i boxes → slice_get boxes k ≡ Some box → IsBoxAt users (i + k) box
box_at users i [] k box h e = absurd (cc)
box_at users i (first ∷ rest) zero box h e =
    let is : first ≡ box = cc in
    subst (IsBoxAt users (i + 0)) is (record { number = omega (arith, h.0); users = h.1; few = h.2 })
box_at users i (first ∷ rest) (suc k) box h e =
    let later = box_at users (i + 1) rest k box h.3 e in
    record { number = omega (arith, later.number); users = later.users; few = later.few }

-- a number that is no process of a user from i on has no mailbox
pub no_box : (users i : ℕ) (boxes : List Mailbox) (uid : ℕ) → AreBoxesFrom users i boxes → ((k : ℕ) → i ≤ k → k < users → uid ≡ process_of k → ⊥) → at (boxes_of boxes) uid ≡ None
no_box users i [] uid h others = at-empty uid
no_box users i (box ∷ rest) uid h others =
    let within = to_the_last users (i + 1) rest h.3 in
    let apart : uid ≡ process_of box.number → ⊥ = λ e. others i (omega arith) (omega arith) (e ∙ ap process_of h.0) in
    at-put_apart (boxes_of rest) (process_of box.number) box.words uid apart ∙ no_box users (i + 1) rest uid h.3 (λ k low high. others k (omega arith) high)

-- the first of them has no second mailbox
pub no_other : (users i : ℕ) (boxes : List Mailbox) → AreBoxesFrom users (i + 1) boxes → at (boxes_of boxes) (process_of i) ≡ None
no_other users i boxes h = no_box users (i + 1) boxes (process_of i) h (λ k low high e. omega (arith, e, low))

-- as many rows as mailboxes
pub boxes-size : (users i : ℕ) (boxes : List Mailbox) → AreBoxesFrom users i boxes → length boxes ≡ size (boxes_of boxes)
boxes-size users i [] h = sym (size-empty (List Word))
boxes-size users i (box ∷ rest) h =
    let new = ap (λ (n : ℕ). at (boxes_of rest) (process_of n)) h.0 ∙ no_other users i rest h.3 in
    let one_more = size-put_new (boxes_of rest) (process_of box.number) box.words new in
    omega (arith, one_more, boxes-size users (i + 1) rest h.3)

-- the row of a process is its mailbox
pub boxes-at : (users i : ℕ) (boxes : List Mailbox) (k : ℕ) (box : Mailbox) → AreBoxesFrom users i boxes → slice_get boxes k ≡ Some box → at (boxes_of boxes) (process_of (i + k)) ≡ Some box.words
boxes-at users i [] k box h e = absurd (cc)
boxes-at users i (first ∷ rest) zero box h e =
    let is : first ≡ box = cc in
    let here : process_of (i + 0) ≡ process_of first.number = omega (arith, h.0) in
    ap (at (boxes_of (first ∷ rest))) here ∙ at-put_here (boxes_of rest) (process_of first.number) first.words ∙ ap (λ (b : Mailbox). Some b.words) is
boxes-at users i (first ∷ rest) (suc k) box h e =
    let apart : process_of (i + suc k) ≡ process_of first.number → ⊥ = λ d. omega (arith, h.0, d) in
    let there : process_of (i + suc k) ≡ process_of ((i + 1) + k) = omega arith in
    at-put_apart (boxes_of rest) (process_of first.number) first.words (process_of (i + suc k)) apart ∙ ap (at (boxes_of rest)) there ∙ boxes-at users (i + 1) rest k box h.3 e

-- another mailbox in the place of one puts its words there
pub boxes-set : (users i : ℕ) (boxes : List Mailbox) (k : ℕ) (box : Mailbox) → AreBoxesFrom users i boxes → k < length boxes → box.number ≡ i + k
    → boxes_of (set boxes k box) ≡ put (boxes_of boxes) (process_of (i + k)) box.words
boxes-set users i [] k box h within is = absurd (omega arith)
boxes-set users i (first ∷ rest) zero box h within is =
    let mine : process_of box.number ≡ process_of first.number = omega (arith, h.0, is) in
    let here : process_of first.number ≡ process_of (i + 0) = omega (arith, h.0) in
    ap (λ (n : ℕ). put (boxes_of rest) n box.words) mine ∙ sym (put_again (boxes_of rest) (process_of first.number) first.words box.words) ∙ ap (λ (n : ℕ). put (boxes_of (first ∷ rest)) n box.words) here
boxes-set users i (first ∷ rest) (suc k) box h within is =
    let apart : process_of ((i + 1) + k) ≡ process_of first.number → ⊥ = λ d. omega (arith, h.0, d) in
    let there : process_of ((i + 1) + k) ≡ process_of (i + suc k) = omega arith in
    ap (λ (m : Table (List Word)). put m (process_of first.number) first.words) (boxes-set users (i + 1) rest k box h.3 (omega arith) (omega (arith, is)))
    ∙ put_either (boxes_of rest) (process_of ((i + 1) + k)) (process_of first.number) box.words first.words apart
    ∙ ap (λ (n : ℕ). put (boxes_of (first ∷ rest)) n box.words) there

-- and they are mailboxes in order still
pub boxes-set_order : (users i : ℕ) (boxes : List Mailbox) (k : ℕ) (box : Mailbox) → AreBoxesFrom users i boxes → IsBoxAt users (i + k) box → AreBoxesFrom users i (set boxes k box)
boxes-set_order users i [] k box h is = h
boxes-set_order users i (first ∷ rest) zero box h is = (omega (arith, is.number), is.users, is.few, h.3)
boxes-set_order users i (first ∷ rest) (suc k) box h is =
    (h.0, h.1, h.2, boxes-set_order users (i + 1) rest k box h.3 (record { number = omega (arith, is.number); users = is.users; few = is.few }))
