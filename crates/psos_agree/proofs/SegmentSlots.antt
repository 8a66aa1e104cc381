-- The slots of live segments, after a segment is made in a free one, and after one goes and frees its slot. States docs/levels.md, "Pages and slots".
use Rattle.std.proofs.Common.{◌≡◌, ℕ, zero, suc, ◌<◌, List, [], ◌∷◌, length, set, Option, Some, None, refl, sym, subst, ap, ◌∙◌, inl, inr, ◌⊎◌, arith, length-set, get_or-set_same}
use Rattle.std.specs.Prelude.{slice_index_or}
use Rattle.std.proofs.lemmas.Option.{same_Some, none-some}
use Rattle.std.proofs.lemmas.Bool.{cases_eq, cases_lt}
use Rattle.std.proofs.lemmas.List.{get_or_past}
use Rattle.psos_limits.specs.declared.TheConstants.{SLOTS, MOST_WORDS}
use Rattle.psos_caps.specs.declared.rights.Rights.{Rights}
use Rattle.psos_table.specs.Table.{Table, at, put, without, kept}
use Rattle.psos_table.proofs.Tables.{at-put_here, at-put_apart, at-without_apart, row-without}
use Rattle.psos_words.specs.declared.word.Word.{Word}
use Rattle.psos_words.specs.Words.{zeros}
use Rattle.psos_calls.specs.declared.seg_row.SegRow.{SegRow}
use Rattle.psos_calls.specs.Language.Tests.{if_there}
use Rattle.psos_calls.specs.Levels.Level7.{Pages, IsTaken, slot_words, words_in, first_free}
use Rattle.psos_calls.specs.Levels.Level8.{SegState, slot_of}
use Rattle.psos_calls.specs.Language.Views.{is_not_over}
use Rattle.psos_agree.proofs.SegmentWords.{slot_words-set_apart, taken-set_apart, taken-unset_apart}

-- ---- free slots

-- the least free slot is free
pub first_is_free : (p : Pages) → slice_index_or p (first_free p) None ≡ None
first_is_free [] = refl
first_is_free (None ∷ rest) = refl
first_is_free (Some words ∷ rest) = first_is_free rest

-- each slot before it is taken
pub before_is_taken : (p : Pages) (i : ℕ) → i < first_free p → IsTaken p i
before_is_taken [] i h = absurd (omega (arith, h))
before_is_taken (None ∷ rest) i h = absurd (omega (arith, h))
before_is_taken (Some words ∷ rest) zero h = (words, refl)
before_is_taken (Some words ∷ rest) (suc i) h = before_is_taken rest i (omega (arith, h))

-- ---- rows

-- a row of a table with one more is the new one, or one of the table's under another number
pub row_of_put : {X : Type 0} (m : Table X) (k : ℕ) (x : X) (u : ℕ) (r : X) → at (put m k x) u ≡ Some r → ((u ≡ k) × (r ≡ x)) ⊎ ((u ≡ k → ⊥) × (at m u ≡ Some r))
row_of_put m k x u r is = elim (cases_eq u k) [
  | inl e ↦ inl (e, same_Some r x (sym is ∙ (ap (at (put m k x)) e ∙ at-put_here m k x)))
  | inr apart ↦ inr (apart, sym (at-put_apart m k x u apart) ∙ is)
]

-- a live segment of a table, with this length and guard
abbrev pub IsLiveIn : Table SegRow → ℕ → ℕ → ℕ → Type 0
IsLiveIn segs u len guard = (r : SegRow) × (at segs u ≡ Some r) × (r.len ≡ len) × (r.guard.0 ≡ guard)

pub slot_is : (s : SegState) (u : ℕ) (r : SegRow) → at s.segments u ≡ Some r → slot_of s u ≡ r.slot
slot_is s u r live = ap (λ (o : Option SegRow). if_there o 0 (λ r. r.slot)) live

-- live segments have different slots, and these are exactly the taken slots
pub record IsSlotted (segs : Table SegRow) (pages : Pages) : Type 0 where
  pub apart : (u v : ℕ) (r t : SegRow) → at segs u ≡ Some r → at segs v ≡ Some t → r.slot ≡ t.slot → u ≡ v
  pub taken : (u : ℕ) (r : SegRow) → at segs u ≡ Some r → IsTaken pages r.slot × (length (slot_words pages r.slot) ≡ MOST_WORDS)
  pub used : (slot : ℕ) → IsTaken pages slot → (u : ℕ) × ((r : SegRow) × (at segs u ≡ Some r) × (r.slot ≡ slot))
  pub slots : length pages ≡ SLOTS

module _ (s : SegState) (pages : Pages) (k : IsSlotted s.segments pages) where
  abbrev segs : Table SegRow
  segs = s.segments

  -- ---- a segment is made in a free slot

  module _ (u slot len : ℕ) (guard : Rights) (new : at s.segments u ≡ None) (free : slice_index_or pages slot None ≡ None) (room : slot < length pages) where
    abbrev row : SegRow
    row = record { slot = slot; len = len; guard = guard }

    abbrev more : SegState
    more = record s { segments = put s.segments u row }

    abbrev filled : Pages
    filled = set pages slot (Some (zeros MOST_WORDS))

    -- no live segment has a free slot
    free_apart : (v : ℕ) (t : SegRow) → at segs v ≡ Some t → t.slot ≡ slot → ⊥
    free_apart v t is e =
        let there = (k.taken v t is).0 in
        none-some there.0 (sym free ∙ (ap (λ (i : ℕ). slice_index_or pages i None) (sym e) ∙ there.1))

    new_apart : (v : ℕ) (t : SegRow) → at segs v ≡ Some t → v ≡ u → ⊥
    new_apart v t is e = none-some t (sym new ∙ (ap (at segs) (sym e) ∙ is))

    filled_here : slice_index_or filled slot None ≡ Some (zeros MOST_WORDS)
    filled_here = get_or-set_same pages slot (Some (zeros MOST_WORDS)) None room

    made_apart : (v w : ℕ) (r t : SegRow) → at (put segs u row) v ≡ Some r → at (put segs u row) w ≡ Some t → r.slot ≡ t.slot → v ≡ w
    made_apart v w r t is_r is_t e = elim (row_of_put segs u row v r is_r) [
      | inl a ↦ elim (row_of_put segs u row w t is_t) [
        | inl b ↦ a.0 ∙ sym b.0
        | inr b ↦ absurd (free_apart w t b.1 (sym e ∙ ap (λ (x : SegRow). x.slot) a.1))
      ]
      | inr a ↦ elim (row_of_put segs u row w t is_t) [
        | inl b ↦ absurd (free_apart v r a.1 (e ∙ ap (λ (x : SegRow). x.slot) b.1))
        | inr b ↦ k.apart v w r t a.1 b.1 e
      ]
    ]

    abbrev IsFull : ℕ → Type 0
    IsFull i = IsTaken filled i × (length (slot_words filled i) ≡ MOST_WORDS)

    made_taken : (v : ℕ) (r : SegRow) → at (put segs u row) v ≡ Some r → IsFull r.slot
    made_taken v r is = elim (row_of_put segs u row v r is) [
      | inl a ↦
          let here : IsFull slot = ((zeros MOST_WORDS, filled_here), ap (λ (o : Option (List Word)). length (words_in o)) filled_here) in
          subst IsFull (sym (ap (λ (x : SegRow). x.slot) a.1)) here
      | inr a ↦
          let far : r.slot ≡ slot → ⊥ = free_apart v r a.1 in
          let old = k.taken v r a.1 in
          (taken-set_apart pages slot r.slot (Some (zeros MOST_WORDS)) far old.0, ap length (slot_words-set_apart pages slot r.slot (Some (zeros MOST_WORDS)) far) ∙ old.1)
    ]

    made_used : (i : ℕ) → IsTaken filled i → (v : ℕ) × ((r : SegRow) × (at (put segs u row) v ≡ Some r) × (r.slot ≡ i))
    made_used i taken = elim (cases_eq i slot) [
      | inl e ↦ (u, (row, at-put_here segs u row, sym e))
      | inr far ↦
          let old = k.used i (taken-unset_apart pages slot i (Some (zeros MOST_WORDS)) far taken) in
          (old.0, (old.1.0, at-put_apart segs u row old.0 (new_apart old.0 old.1.0 old.1.1) ∙ old.1.1, old.1.2))
    ]

    pub made_slotted : IsSlotted (put s.segments u (record { slot = slot; len = len; guard = guard })) (set pages slot (Some (zeros MOST_WORDS)))
    made_slotted = record { apart = made_apart; taken = made_taken; used = made_used; slots = length-set pages slot (Some (zeros MOST_WORDS)) ∙ k.slots }

    -- the new segment, and the words of its slot
    pub made_live_here : IsLiveIn (put s.segments u (record { slot = slot; len = len; guard = guard })) u len guard.0
    made_live_here = (row, at-put_here segs u row, refl, refl)

    pub made_words_here : slot_words (set pages slot (Some (zeros MOST_WORDS))) (slot_of (record s { segments = put s.segments u (record { slot = slot; len = len; guard = guard }) }) u) ≡ zeros MOST_WORDS
    made_words_here = ap (slot_words filled) (slot_is more u row (at-put_here segs u row)) ∙ ap words_in filled_here

    -- each other segment stays, with its words
    pub made_live_still : (v n g : ℕ) → IsLiveIn s.segments v n g → IsLiveIn (put s.segments u (record { slot = slot; len = len; guard = guard })) v n g
    made_live_still v n g live = (live.0, at-put_apart segs u row v (new_apart v live.0 live.1) ∙ live.1, live.2, live.3)

    pub made_words_still : (v n g : ℕ) → IsLiveIn s.segments v n g
        → slot_words (set pages slot (Some (zeros MOST_WORDS))) (slot_of (record s { segments = put s.segments u (record { slot = slot; len = len; guard = guard }) }) v) ≡ slot_words pages (slot_of s v)
    made_words_still v n g live =
        let old = slot_is s v live.0 live.1 in
        let new_slot = slot_is more v live.0 (at-put_apart segs u row v (new_apart v live.0 live.1) ∙ live.1) in
        ap (slot_words filled) new_slot ∙ (slot_words-set_apart pages slot live.0.slot (Some (zeros MOST_WORDS)) (free_apart v live.0 live.1) ∙ ap (slot_words pages) (sym old))

  -- ---- a segment goes, and frees its slot

  module _ (u : ℕ) (row : SegRow) (live : at s.segments u ≡ Some row) where
    abbrev fewer : SegState
    fewer = record { segments = without s.segments u; windows = kept (is_not_over u) s.windows }

    abbrev emptied : Pages
    emptied = set pages (slot_of s u) None

    slot_there : slot_of s u < length pages
    slot_there = elim (cases_lt (slot_of s u) (length pages)) [
      | inl inside ↦ inside
      | inr past ↦
          let there = (k.taken u row live).0 in
          absurd (none-some there.0 (sym (get_or_past pages (slot_of s u) None past) ∙ (ap (λ (i : ℕ). slice_index_or pages i None) (slot_is s u row live) ∙ there.1)))
    ]

    emptied_here : slice_index_or emptied (slot_of s u) None ≡ None
    emptied_here = get_or-set_same pages (slot_of s u) None None slot_there

    -- each other segment has another slot
    far_from : (v : ℕ) (r : SegRow) → at segs v ≡ Some r → (v ≡ u → ⊥) → r.slot ≡ slot_of s u → ⊥
    far_from v r is apart e = apart (k.apart v u r row is live (e ∙ slot_is s u row live))

    gone_taken : (v : ℕ) (r : SegRow) → at (without segs u) v ≡ Some r → IsTaken emptied r.slot × (length (slot_words emptied r.slot) ≡ MOST_WORDS)
    gone_taken v r is =
        let old = row-without segs u v r is in
        let far = far_from v r old.0 old.1 in
        let full = k.taken v r old.0 in
        (taken-set_apart pages (slot_of s u) r.slot None far full.0, ap length (slot_words-set_apart pages (slot_of s u) r.slot None far) ∙ full.1)

    gone_used : (i : ℕ) → IsTaken emptied i → (v : ℕ) × ((r : SegRow) × (at (without segs u) v ≡ Some r) × (r.slot ≡ i))
    gone_used i taken = elim (cases_eq i (slot_of s u)) [
      | inl e ↦ absurd (none-some taken.0 (sym emptied_here ∙ (ap (λ (j : ℕ). slice_index_or emptied j None) (sym e) ∙ taken.1)))
      | inr far ↦
          let old = k.used i (taken-unset_apart pages (slot_of s u) i None far taken) in
          let apart : old.0 ≡ u → ⊥ = λ e.
          far (sym old.1.2 ∙ (sym (slot_is s old.0 old.1.0 old.1.1) ∙ ap (slot_of s) e)) in
          (old.0, (old.1.0, at-without_apart segs u old.0 apart ∙ old.1.1, old.1.2))
    ]

    pub gone_slotted : IsSlotted (without s.segments u) (set pages (slot_of s u) None)
    gone_slotted = record {
      apart = λ v w r t is_r is_t e. k.apart v w r t (row-without segs u v r is_r).0 (row-without segs u w t is_t).0 e;
      taken = gone_taken;
      used = gone_used;
      slots = length-set pages (slot_of s u) None ∙ k.slots;
    }

    -- each other segment stays, with its words
    pub gone_live_still : (v n g : ℕ) → (v ≡ u → ⊥) → IsLiveIn s.segments v n g → IsLiveIn (without s.segments u) v n g
    gone_live_still v n g apart there = (there.0, at-without_apart segs u v apart ∙ there.1, there.2, there.3)

    pub gone_words_still : (v n g : ℕ) → (v ≡ u → ⊥) → IsLiveIn s.segments v n g
        → slot_words (set pages (slot_of s u) None) (slot_of (record { segments = without s.segments u; windows = kept (is_not_over u) s.windows }) v) ≡ slot_words pages (slot_of s v)
    gone_words_still v n g apart there =
        let old = slot_is s v there.0 there.1 in
        let new_slot = slot_is fewer v there.0 (at-without_apart segs u v apart ∙ there.1) in
        ap (slot_words emptied) new_slot ∙ (slot_words-set_apart pages (slot_of s u) there.0.slot None (far_from v there.0 there.1 apart) ∙ ap (slot_words pages) (sym old))
