-- What a journal keeps holds after each call.
use Rattle.std.proofs.Common.{◌≡◌, ◌≢◌, ℕ, ◌+◌, ◌*◌, ◌<◌, ◌≤◌, ◌%◌, ◌^◌, List, [], ◌∷◌, ◌++◌, length, slice_index, slice_set, replicate, refl, ap, sym, ◌∙◌, subst, arith, inl, inr, append_assoc, length-append, Some, None}
use Rattle.std.specs.Int.{bit_at}
use Rattle.std.specs.Int.Bits.{bit_xor}
use Rattle.std.specs.declared.option.Option.{Option}
use Rattle.std.proofs.lemmas.Grind.{common_steps}
use Rattle.std.proofs.lemmas.Bool.{cases_eq}
use Rattle.std.proofs.lemmas.List.{get_or-set_same, get_or-set_other, set-get_or, map-append}
use Rattle.std.proofs.lemmas.Nat.Bits.{bit_at_xor, bit_at-pow_same, bit_at-pow_other, bit_at-lt}
use mathlib.Core.List.{IsPrefix}
use Rattle.psos_journal.specs.declared.stop_cause.StopCause.{StopCause}
use Rattle.psos_journal.specs.Members.{named}
use Rattle.psos_journal.specs.Holds.{Journals, IsOpen}
use Rattle.psos_journal.proofs.MemberEntries.{named_count, named_last, same_named}

-- the bit of a number is taken out, and the others stay
pub bit_out : (n k : ℕ) → bit_at n k ≡ 1 → bit_at (bit_xor n (2 ^ k)) k ≡ 0
bit_out n k is = bit_at_xor n (2 ^ k) k ∙ (ap (λ m. (m + bit_at (2 ^ k) k) % 2) is ∙ ap (λ m. (1 + m) % 2) (bit_at-pow_same k))

pub bit_stays : (n k i : ℕ) → i ≢ k → bit_at (bit_xor n (2 ^ k)) i ≡ bit_at n i
bit_stays n k i other = bit_at_xor n (2 ^ k) i ∙ (ap (λ m. (bit_at n i + m) % 2) (bit_at-pow_other k i other) ∙ omega (arith, bit_at-lt n i))

-- a bit that is left was there
pub bit_was : (n k i : ℕ) → bit_at n k ≡ 1 → bit_at (bit_xor n (2 ^ k)) i ≡ 1 → bit_at n i ≡ 1
bit_was n k i is left =
    elim (cases_eq i k) as (λ _. bit_at n i ≡ 1) [
      | inl same ↦ ap (bit_at n) same ∙ is
      | inr other ↦ sym (bit_stays n k i other) ∙ left
    ]

module _ {A : Type 0} (entries : List A) (full : ℕ) (past : List (A × ℕ)) (totals : List ℕ) (room told : ℕ) (stopped : Option StopCause) where
  -- an entry is begun
  pub begun : (e : A) (names : ℕ) → Journals entries full past totals room None told stopped → length past < room
      → Journals (entries ++ e ∷ []) (full + 1) (past ++ (e, names) ∷ []) totals room (Some names) told stopped
  begun e names h less = record {
    listed = ap (λ w. w ++ e ∷ []) h.listed ∙ sym (map-append (λ (x : A × ℕ). x.0) past ((e, names) ∷ []));
    filled = omega (arith, h.filled, length-append past ((e, names) ∷ []));
    within = omega (arith, less, length-append past ((e, names) ∷ []));
    limit = h.limit;
    counts = λ i small. omega (arith, h.counts i small, named_count i past (e, names));
    opened = record { front = past; last = (e, names); whole = refl; within = λ i is. is };
    tales = h.tales;
  }

  -- an entry is entered into a member
  pub entered : (left k amount : ℕ) → Journals entries full past totals room (Some left) told stopped → k < 24 → k < length totals → bit_at left k ≡ 1 → slice_index totals k ≡ amount
      → Journals entries full past (slice_set totals k (amount + 1)) room (Some (bit_xor left (2 ^ k))) told stopped
  entered left k amount h small within is meets = record {
    listed = h.listed;
    filled = h.filled;
    within = h.within;
    limit = h.limit;
    counts = λ i less.
        elim (cases_eq i k) as (λ _. slice_index (slice_set totals k (amount + 1)) i + bit_at (bit_xor left (2 ^ k)) i ≡ length (named i past)) [
          | inl same ↦
              let P : ℕ → Type 0 = λ j. slice_index (slice_set totals k (amount + 1)) j + bit_at (bit_xor left (2 ^ k)) j ≡ length (named j past) in
              subst P (sym same) (omega (arith, get_or-set_same totals k (amount + 1) 0 within, bit_out left k is, h.counts k small, meets, is))
          | inr other ↦ omega (arith, get_or-set_other totals k i (amount + 1) 0 other, bit_stays left k i other, h.counts i less)
        ];
    opened = record {
      front = h.opened.front;
      last = h.opened.last;
      whole = h.opened.whole;
      within = λ i now. h.opened.within i (bit_was left k i is now);
    };
    tales = h.tales;
  }

  -- a count that is compared stays
  pub compared : (left : Option ℕ) (k amount : ℕ) → Journals entries full past totals room left told stopped → slice_index totals k ≡ amount
      → Journals entries full past (slice_set totals k (amount + 0)) room left told stopped
  compared left k amount h meets =
      let same : slice_set totals k (amount + 0) ≡ totals = ap (λ n. slice_set totals k n) (omega (arith, meets)) ∙ set-get_or totals k 0 in
      subst (λ t. Journals entries full past t room left told stopped) (sym same) h

-- one last element, and what is before it
last_is : {A : Type 0} (xs ys : List A) (x y : A) → xs ++ x ∷ [] ≡ ys ++ y ∷ [] → (xs ≡ ys) × (x ≡ y)
last_is [] [] x y e = (refl, cc e)
last_is [] (b ∷ []) x y e = absurd (cc e)
last_is [] (b ∷ c ∷ ys) x y e = absurd (cc e)
last_is (a ∷ []) [] x y e = absurd (cc e)
last_is (a ∷ c ∷ xs) [] x y e = absurd (cc e)
last_is (a ∷ xs) (b ∷ ys) x y e =
    let rest = last_is xs ys x y (cc e) in
    let head : a ≡ b = cc e in
    (cc (head, rest.0), rest.1)

-- the member that is entered has the last entry behind its list
pub comes_last : {A : Type 0} (k left : ℕ) (before past both front : List (A × ℕ)) (last : A × ℕ) → IsOpen left past → bit_at left k ≡ 1 → IsPrefix past both → IsPrefix before both
    → length (named k before) + 1 ≡ length (named k past) → past ≡ front ++ last ∷ [] → named k past ≡ named k before ++ last.0 ∷ []
comes_last {A = A} k left before past both front last is_open is p q more whole =
    let is_last = last_is front is_open.front last is_open.last (sym whole ∙ is_open.whole) in
    let names : bit_at last.1 k ≡ 1 = ap (λ (x : A × ℕ). bit_at x.1 k) is_last.1 ∙ is_open.within k is in
    let pq : IsPrefix front both = (last ∷ p.0, sym (append_assoc front (last ∷ []) p.0) ∙ (ap (λ w. w ++ p.0) (sym whole) ∙ p.1)) in
    let here : length (named k (front ++ last ∷ [])) ≡ length (named k front) + bit_at last.1 k = named_count k front last in
    let count : length (named k front) ≡ length (named k before) = omega (arith, here, names, more, ap (λ w. length (named k w)) whole) in
    ap (named k) whole ∙ (named_last k front last names ∙ ap (λ w. w ++ last.0 ∷ []) (same_named k front before both pq q count))

-- a bit of a member, as code shifts it
pub bit_shifted : (k : ℕ) → k < 24 → (1 * 2 ^ k) % 2 ^ 64 ≡ 2 ^ k
bit_shifted k small = grind (arith, common_steps)

-- there is no entry at the start
pub starts : {A : Type 0} (entries : List A) (past : List (A × ℕ)) (totals : List ℕ) (room told : ℕ) → entries ≡ [] → past ≡ [] → totals ≡ replicate 24 0 → room ≤ 32768 → told ≡ 0
    → Journals entries 0 past totals room None told None
starts {A = A} entries past totals room told no_entry bare zeros limit none =
    let P : List (A × ℕ) → Type 0 = λ p. Journals entries 0 p totals room None told None in
    subst P (sym bare) (record {
      listed = no_entry;
      filled = refl;
      within = omega arith;
      limit = limit;
      counts = λ i less. ap (λ t. slice_index t i + 0) zeros ∙ grind (arith, common_steps);
      opened = tt;
      tales = λ some. absurd (omega (arith, some, none));
    })
