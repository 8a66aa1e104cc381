-- The words of a segment, in the slot that level 8 tells and in the flat state.
use Rattle.std.proofs.Common.{◌≡◌, ℕ, ◌/◌, ◌%◌, ◌<◌, ◌≤◌, Bool, true, false, Option, Some, None, List, [], length, set, sym, subst, ap, ◌∙◌, inl, inr, ◌⊎◌, arith, length-set, get_or-set_same, get_or-set_other}
use Rattle.std.specs.Option.{option_map}
use Rattle.std.proofs.lemmas.Option.{same_Some, none-some}
use Rattle.std.proofs.lemmas.Bool.{cases_eq, cases_lt, false≢true}
use Rattle.std.proofs.lemmas.List.{get_or_past}
use Rattle.psos_limits.specs.declared.TheConstants.{MOST_WORDS}
use Rattle.psos_table.specs.Table.{at, edit}
use Rattle.psos_table.proofs.Tables.{at-edit_here, at-edit_apart}
use Rattle.psos_words.specs.declared.word.Word.{Word}
use Rattle.psos_words.specs.declared.word.Word.TheVariants.{Data}
use Rattle.psos_words.specs.Words.{word_at}
use Rattle.psos_calls.specs.declared.seg_row.SegRow.{SegRow}
use Rattle.psos_calls.specs.Language.Script.{Script}
use Rattle.psos_calls.specs.Language.Tests.{if_there}
use Rattle.psos_calls.specs.Levels.Level7.{Pages, IsTaken, slot_words, words_in, place_in_slot}
use Rattle.psos_calls.specs.Levels.Level8.{page_at, slot_of}
use Rattle.psos_calls.specs.Levels.{Levels}
use Rattle.psos_model.specs.Flat.{Flat, Segment, words_of}
use Rattle.psos_model.specs.Flat.Changes.{changed}
use Rattle.psos_model.specs.declared.change.Change.TheVariants.{PutWord}
use Rattle.psos_model.specs.Replay.{System}
use Rattle.psos_model.specs.Sound.Roles.{Role, HiddenIn}
use Rattle.psos_model.specs.Sound.{IsSound}
use Rattle.psos_model.specs.Replay.StandsFor.{StandsFor, IsLive, stored}
use Rattle.psos_agree.proofs.Views.{IsSeen}

-- ---- slots

-- a taken slot is one of the slots
taken_within : (p : Pages) (slot : ℕ) → IsTaken p slot → slot < length p
taken_within p slot taken = elim (cases_lt slot (length p)) [
  | inl inside ↦ inside
  | inr past ↦ absurd (none-some taken.0 (sym (get_or_past p slot None past) ∙ taken.1))
]

-- the words of a slot after a change of a slot
pub slot_words-set_here : (p : Pages) (slot : ℕ) (ws : List Word) → IsTaken p slot → slot_words (set p slot (Some ws)) slot ≡ ws
slot_words-set_here p slot ws taken = ap words_in (get_or-set_same p slot (Some ws) None (taken_within p slot taken))

pub slot_words-set_apart : (p : Pages) (slot t : ℕ) (o : Option (List Word)) → (t ≡ slot → ⊥) → slot_words (set p slot o) t ≡ slot_words p t
slot_words-set_apart p slot t o apart = ap words_in (get_or-set_other p slot t o None apart)

pub taken-set_apart : (p : Pages) (slot t : ℕ) (o : Option (List Word)) → (t ≡ slot → ⊥) → IsTaken p t → IsTaken (set p slot o) t
taken-set_apart p slot t o apart taken = (taken.0, get_or-set_other p slot t o None apart ∙ taken.1)

pub taken-unset_apart : (p : Pages) (slot t : ℕ) (o : Option (List Word)) → (t ≡ slot → ⊥) → IsTaken (set p slot o) t → IsTaken p t
taken-unset_apart p slot t o apart taken = (taken.0, sym (get_or-set_other p slot t o None apart) ∙ taken.1)

-- where a word of a segment lies
pub page_of_word : (slot i : ℕ) → i < MOST_WORDS → page_at slot i / 8 ≡ slot
page_of_word slot i small = omega arith

pub place_of_word : (slot i : ℕ) → i < MOST_WORDS → place_in_slot (page_at slot i) (i % 64) ≡ i
place_of_word slot i small = omega arith

-- ---- the rows of level 8

-- a live segment has a row, a slot of its own
pub record HasRow (y : System) (u : ℕ) : Type 0 where
  pub row : SegRow
  pub live : at y.levels.segs.segments u ≡ Some row
  pub slot : slot_of y.levels.segs u ≡ row.slot

pub row_of : (y : System) (u n guard : ℕ) → IsLive y u n guard → HasRow y u
row_of y u n guard live = record { row = live.0; live = live.1; slot = ap (λ (o : Option SegRow). if_there o 0 (λ r. r.slot)) live.1 }

abbrev is_hidden : Role → Bool
is_hidden (HiddenIn d) = true
is_hidden _ = false

-- a flat segment represents no directory
pub segment_seen : (s : Script) (f : Flat) (u : ℕ) (t : Segment) → IsSound s f → at f.segments u ≡ Some t → IsSeen f u
segment_seen s f u t sound is d row live e =
    let hidden : is_hidden (sound.role u) ≡ true = ap (λ (v : ℕ). is_hidden (sound.role v)) e ∙ ap is_hidden (sound.dirs d row live).hidden in
    elim (sound.segments u t is).role-is [
      | inl plain ↦ absurd (false≢true (sym (ap is_hidden plain) ∙ hidden))
      | inr part ↦ absurd (false≢true (sym (ap is_hidden part.part) ∙ hidden))
    ]

module _ {y : System} {f : Flat} (h : StandsFor y f) where
  -- the slot of a live segment is taken, with 512 words
  pub is_taken : (u n guard : ℕ) → IsLive y u n guard → IsTaken y.levels.pages (slot_of y.levels.segs u) × (length (stored y u) ≡ MOST_WORDS)
  is_taken u n guard live =
      let row = row_of y u n guard live in
      let P : ℕ → Type 0 = λ slot. IsTaken y.levels.pages slot × (length (slot_words y.levels.pages slot) ≡ MOST_WORDS) in
      subst P (sym row.slot) (h.taken u row.row row.live)

  -- live segments have slots of their own
  pub slots_apart : (u v n guard m other : ℕ) → IsLive y u n guard → IsLive y v m other → slot_of y.levels.segs u ≡ slot_of y.levels.segs v → u ≡ v
  slots_apart u v n guard m other at_u at_v e =
      let a = row_of y u n guard at_u in
      let b = row_of y v m other at_v in
      h.apart u v a.row b.row a.live b.live (sym a.slot ∙ e ∙ b.slot)

  -- the word that level 7 has where level 8 says
  pub word_there : (u : ℕ) (t : Segment) → at f.segments u ≡ Some t → (i : ℕ) → i < length t.words → length t.words ≤ MOST_WORDS
      → word_at (slot_words y.levels.pages (page_at (slot_of y.levels.segs u) i / 8)) (place_in_slot (page_at (slot_of y.levels.segs u) i) (i % 64)) ≡ word_at (words_of f u) i
  word_there u t live i inside small =
      let few : i < MOST_WORDS = omega arith in
      rw (page_of_word (slot_of y.levels.segs u) i few, place_of_word (slot_of y.levels.segs u) i few) (h.words u t live i inside ∙ ap (λ (o : Option Segment). word_at (if_there o [] (λ (s : Segment). s.words)) i) (sym live))

  pub can_reach : (u : ℕ) (t : Segment) → at f.segments u ≡ Some t → (i : ℕ) → i < length t.words → length t.words ≤ MOST_WORDS
      → IsTaken y.levels.pages (page_at (slot_of y.levels.segs u) i / 8) × (i % 64 < 64)
  can_reach u t live i inside small =
      let few : i < MOST_WORDS = omega arith in
      (rw (page_of_word (slot_of y.levels.segs u) i few) (is_taken u (length t.words) t.guard.0 (h.segments u t live)).0, omega arith)

-- ---- a word is put

-- two lists that agree at a place agree there after one write
alike-set : (xs zs : List Word) (i : ℕ) (w : Word) (j : ℕ) → i < length xs → i < length zs → word_at xs j ≡ word_at zs j → word_at (set xs i w) j ≡ word_at (set zs i w) j
alike-set xs zs i w j in_xs in_zs alike = elim (cases_eq j i) [
  | inl e ↦ rw e (get_or-set_same xs i w (Data 0) in_xs ∙ sym (get_or-set_same zs i w (Data 0) in_zs))
  | inr apart ↦ get_or-set_other xs i j w (Data 0) apart ∙ (alike ∙ sym (get_or-set_other zs i j w (Data 0) apart))
]

abbrev with_word : ℕ → Word → Segment → Segment
with_word i w t = record t { words = set t.words i w }

module _ (f : Flat) (u : ℕ) (t : Segment) (live : at f.segments u ≡ Some t) (i : ℕ) (w : Word) where
  -- the segment of the word after it was put, and the others
  put_here : at (edit f.segments u (with_word i w)) u ≡ Some (with_word i w t)
  put_here = at-edit_here f.segments u (with_word i w) ∙ ap (option_map (with_word i w)) live

  put_segment : (v : ℕ) (r : Segment) → at (edit f.segments u (with_word i w)) v ≡ Some r
      → ((v ≡ u) × (r ≡ with_word i w t)) ⊎ ((v ≡ u → ⊥) × (at f.segments v ≡ Some r))
  put_segment v r is = elim (cases_eq v u) [
    | inl e ↦ inl (e, same_Some _ _ (sym is ∙ (ap (at (edit f.segments u (with_word i w))) e ∙ put_here)))
    | inr apart ↦ inr (apart, sym (at-edit_apart f.segments u (with_word i w) v apart) ∙ is)
  ]

  put_still : (v : ℕ) (r : Segment) → at f.segments v ≡ Some r → (z : Segment) × (at (edit f.segments u (with_word i w)) v ≡ Some z)
  put_still v r is = elim (cases_eq v u) [
    | inl e ↦ (with_word i w t, ap (at (edit f.segments u (with_word i w))) e ∙ put_here)
    | inr apart ↦ (r, at-edit_apart f.segments u (with_word i w) v apart ∙ is)
  ]

-- the levels with a word put into the slot of a segment
abbrev pub put_word : System → ℕ → ℕ → Word → Levels
put_word y u i w = record y.levels { pages = set y.levels.pages (slot_of y.levels.segs u) (Some (set (stored y u) i w)) }

-- a word is put into a flat segment, and into the slot of its words
pub stands_put : {s : Script} {y : System} {f : Flat} → StandsFor y f → IsSound s f → (u : ℕ) (t : Segment) → at f.segments u ≡ Some t → (i : ℕ) → i < length t.words → length t.words ≤ MOST_WORDS → (w : Word)
    → StandsFor (record y { levels = put_word y u i w }) (changed f (PutWord u i w))
stands_put {s = s} {y = y} {f = f} h sound u t live i inside small w =
    let slot = slot_of y.levels.segs u in
    let pages = y.levels.pages in
    let ws = set (stored y u) i w in
    let row = row_of y u (length t.words) t.guard.0 (h.segments u t live) in
    let mine = is_taken h u (length t.words) t.guard.0 (h.segments u t live) in
    record {
      next = h.next;
      codes = h.codes;
      boxes = h.boxes;
      life = h.life;
      types = h.types;
      windows = h.windows;
      users = h.users;
      dirs = h.dirs;
      objects = h.objects;
      segments = λ v r is. elim (put_segment f u t live i w v r is) [
        | inl same ↦
            let Q : ℕ → ℕ → Type 0 = λ n guard. IsLive y v n guard in
            let here : IsLive y v (length t.words) t.guard.0 = subst (λ (a : ℕ). IsLive y a (length t.words) t.guard.0) (sym same.0) (h.segments u t live) in
            rw (same.1, length-set t.words i w) here
        | inr other ↦ h.segments v r other.1
      ];
      reps = h.reps;
      no_other = λ v r is. elim (h.no_other v r is) [
        | inl flat ↦ inl (put_still f u t live i w v flat.0 flat.1)
        | inr rep ↦ inr rep
      ];
      apart = h.apart;
      taken = λ v r is. elim (cases_eq r.slot slot) [
        | inl e ↦ rw e ((ws, get_or-set_same pages slot (Some ws) None (taken_within pages slot mine.0)), ap length (slot_words-set_here pages slot ws mine.0) ∙ (length-set _ i w ∙ mine.1))
        | inr apart ↦ let old = h.taken v r is in (taken-set_apart pages slot r.slot (Some ws) apart old.0, ap length (slot_words-set_apart pages slot r.slot (Some ws) apart) ∙ old.1)
      ];
      used = λ v taken. elim (cases_eq v slot) [
        | inl e ↦ (u, (row.row, row.live, sym row.slot ∙ sym e))
        | inr apart ↦ h.used v (taken-unset_apart pages slot v (Some ws) apart taken)
      ];
      slots = length-set pages slot (Some ws) ∙ h.slots;
      words = λ v r is j at_j. elim (put_segment f u t live i w v r is) [
        | inl same ↦
            let here : j < length t.words = omega (arith, ap (λ (x : Segment). length x.words) same.1, length-set t.words i w) in
            let in_slot : i < length (stored y u) = omega (arith, mine.1) in
            rw (same.0, same.1, slot_words-set_here pages slot ws mine.0) (alike-set (stored y u) t.words i w j in_slot inside (h.words u t live j here))
        | inr other ↦
            let far : slot_of y.levels.segs v ≡ slot → ⊥ = λ e. other.0 (slots_apart h v u (length r.words) r.guard.0 (length t.words) t.guard.0 (h.segments v r other.1) (h.segments u t live) e) in
            rw (slot_words-set_apart pages slot (slot_of y.levels.segs v) (Some ws) far) (h.words v r other.1 j at_j)
      ];
      entries = λ d x is.
          let far : slot_of y.levels.segs x.rep ≡ slot → ⊥ = λ e. segment_seen s f u t sound live d x is (sym (slots_apart h x.rep u MOST_WORDS x.guard.0 (length t.words) t.guard.0 (h.reps d x is) (h.segments u t live) e)) in
          rw (slot_words-set_apart pages slot (slot_of y.levels.segs x.rep) (Some ws) far) (h.entries d x is);
    }
