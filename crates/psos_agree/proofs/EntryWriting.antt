-- The call that writes an entry of a directory, or a free slot over one, and the changes of the flat state that it stands for.
use Rattle.std.proofs.Common.{◌≡◌, ℕ, zero, suc, ◌+◌, ◌*◌, ◌/◌, ◌%◌, ◌<◌, ◌≤◌, true, false, Option, Some, None, List, [], ◌∷◌, length, set, get_or, refl, sym, subst, ap, ◌∙◌, arith}
use Rattle.std.proofs.lemmas.Option.{none-some}
use Rattle.psos_limits.specs.declared.TheConstants.{MOST_WORDS}
use Rattle.psos_table.specs.Table.{at, put, without, edit}
use Rattle.psos_table.proofs.Tables.{at-put_apart, at-without_apart}
use Rattle.psos_caps.specs.Capability.{Capability, full}
use Rattle.psos_text.specs.declared.name.Name.{Name}
use Rattle.psos_text.specs.Name.{IsName}
use Rattle.psos_words.specs.declared.word.Word.{Word}
use Rattle.psos_words.specs.Directory.{Entry, Slot, Found, decode, find, slot_for, entry_words, gone_words}
use Rattle.psos_calls.specs.declared.kind.Kind.{Kind}
use Rattle.psos_calls.specs.declared.level_call.LevelCall.TheVariants.{Enrol, Forget}
use Rattle.psos_calls.specs.declared.seg_row.SegRow.{SegRow}
use Rattle.psos_calls.specs.Language.Capabilities.{uid}
use Rattle.psos_calls.specs.Language.Tests.{if_there}
use Rattle.psos_calls.specs.Levels.Level7.{Pages, IsTaken, slot_words, place_in_slot, written, first_free}
use Rattle.psos_calls.specs.Levels.Level8.{SegState}
use Rattle.psos_calls.specs.Levels.{Levels, act}
use Rattle.psos_model.specs.Flat.{Flat, Directory}
use Rattle.psos_model.specs.Flat.Changes.{changed, with_entry, without_entry}
use Rattle.psos_model.specs.declared.change.Change.TheVariants.{Bind, Unbind, Register, Unregister}
use Rattle.psos_model.specs.Replay.{System}
use Rattle.psos_model.specs.Replay.StandsFor.{StandsFor, HoldsEntries}
use Rattle.psos_agree.proofs.TablesStand.{tables_stand}
use Rattle.psos_agree.proofs.SegmentWords.{is_taken, slot_words-set_apart}
use Rattle.psos_agree.proofs.EntriesStand.{stands_rep, holds_added, holds_removed, slot_small, found_small, length-written}
use Rattle.psos_agree.specs.Changes.{IsAlone, HasRead, four_put}

-- ---- what was read of a directory

-- another segment in another slot changes nothing of that
pub read_made : (pages : Pages) (segs : SegState) (rep slot : ℕ) (slots : List Slot) → HasRead pages segs rep slot slots
    → (u : ℕ) (row : SegRow) → (rep ≡ u → ⊥) → (other : ℕ) (words : Option (List Word)) → (slot ≡ other → ⊥)
    → HasRead (set pages other words) (record segs { segments = put segs.segments u row }) rep slot slots
read_made pages segs rep slot slots r u row apart other words far = record {
  slot-is = ap (λ (o : Option SegRow). if_there o 0 (λ r. r.slot)) (at-put_apart segs.segments u row rep apart) ∙ r.slot-is;
  decodes = ap decode (slot_words-set_apart pages other slot words far) ∙ r.decodes;
}

-- and so does another segment that goes with its slot
pub read_gone : (pages : Pages) (segs gone : SegState) (rep slot : ℕ) (slots : List Slot) → HasRead pages segs rep slot slots
    → (u : ℕ) → (rep ≡ u → ⊥) → gone.segments ≡ without segs.segments u → (other : ℕ) (words : Option (List Word)) → (slot ≡ other → ⊥)
    → HasRead (set pages other words) gone rep slot slots
read_gone pages segs gone rep slot slots r u apart is other words far = record {
  slot-is = ap (λ (o : Option SegRow). if_there o 0 (λ r. r.slot)) (ap (λ t. at t rep) is ∙ at-without_apart segs.segments u rep apart) ∙ r.slot-is;
  decodes = ap decode (slot_words-set_apart pages other slot words far) ∙ r.decodes;
}

-- the least free slot is not taken
pub free_apart : (p : Pages) (slot : ℕ) → IsTaken p slot → slot ≡ first_free p → ⊥
free_apart [] slot taken e = none-some taken.0 taken.1
free_apart (None ∷ rest) slot taken e = none-some taken.0 (sym (ap (λ n. get_or (None ∷ rest) n None) e) ∙ taken.1)
free_apart (Some words ∷ rest) zero taken e = absurd (omega (arith, e))
free_apart (Some words ∷ rest) (suc slot) taken e = free_apart rest slot taken (omega (arith, e))

-- ---- the call

-- the page and the place of an entry slot
page_of_entry : (slot k : ℕ) → k < 128 → (8 * slot + k / 16) / 8 ≡ slot
page_of_entry slot k small = omega arith

place_of_entry : (slot k : ℕ) → k < 128 → place_in_slot (8 * slot + k / 16) (4 * (k % 16)) ≡ 4 * k
place_of_entry slot k small = omega arith

four_put_is : (l : Levels) (slot k : ℕ) (words : List Word) → k < 128 → four_put l slot k words ≡ record l { pages = set l.pages slot (Some (written (slot_words l.pages slot) (4 * k) words)) }
four_put_is l slot k words small =
    let page = page_of_entry slot k small in
    let place = place_of_entry slot k small in
    ap (λ (n : ℕ). (let r : Levels = record l { pages = set l.pages n (Some (written (slot_words l.pages n) (place_in_slot (8 * slot + k / 16) (4 * (k % 16))) words)) } in r)) page
    ∙ ap (λ (n : ℕ). (let r : Levels = record l { pages = set l.pages slot (Some (written (slot_words l.pages slot) n words)) } in r)) place

module _ {y : System} {f : Flat} (h : StandsFor y f) (d : ℕ) (x : Directory) (live : at f.dirs d ≡ Some x) (slot : ℕ) (slots : List Slot) (r : HasRead y.levels.pages y.levels.segs x.rep slot slots) where
  -- the slot of a representation is taken, with 512 words
  pub rep_taken : IsTaken y.levels.pages slot × (length (slot_words y.levels.pages slot) ≡ MOST_WORDS)
  rep_taken = subst (λ (n : ℕ). IsTaken y.levels.pages n × (length (slot_words y.levels.pages n) ≡ MOST_WORDS)) r.slot-is (is_taken h x.rep MOST_WORDS x.guard.0 (h.reps d x live))

  pub rep_holds : HoldsEntries (slot_words y.levels.pages slot) x
  rep_holds = subst (λ (n : ℕ). HoldsEntries (slot_words y.levels.pages n) x) r.slot-is (h.entries d x live)

  -- four words can be written there
  can_put : (k : ℕ) → k < 128 → IsTaken y.levels.pages ((8 * slot + k / 16) / 8) × (4 * (k % 16) ≤ 60)
  can_put k small = (subst (IsTaken y.levels.pages) (sym (page_of_entry slot k small)) rep_taken.0, omega arith)

  -- where there is room, and where a name was found
  pub can_add : (k : ℕ) → slot_for slots ≡ Some k → IsTaken y.levels.pages ((8 * slot + k / 16) / 8) × (4 * (k % 16) ≤ 60)
  can_add k free = let small = slot_small (slot_words y.levels.pages slot) slots k rep_taken.1 r.decodes free in can_put k (omega (arith, small))

  pub can_remove : (name : Name) (found : Found) → find slots name ≡ Some found → IsTaken y.levels.pages ((8 * slot + found.slot / 16) / 8) × (4 * (found.slot % 16) ≤ 60)
  can_remove name found there = let small = found_small (slot_words y.levels.pages slot) slots name found rep_taken.1 r.decodes there in can_put found.slot (omega (arith, small))

  -- what is written there stands for other entries
  stands_four : IsAlone f d x → (g : Directory → Directory) → (g x).rep ≡ x.rep → (g x).guard ≡ x.guard → (k : ℕ) → k < 128 → (words : List Word)
      → HoldsEntries (written (slot_words y.levels.pages slot) (4 * k) words) (g x)
      → StandsFor (record y { levels = four_put y.levels slot k words }) (record f { dirs = edit f.dirs d g })
  stands_four single g rep guard k small words holds =
      let after = written (slot_words y.levels.pages slot) (4 * k) words in
      let flat : Flat = record f { dirs = edit f.dirs d g } in
      let P : ℕ → Type 0 = λ n. StandsFor (record y { levels = record y.levels { pages = set y.levels.pages n (Some after) } }) flat in
      let Q : Levels → Type 0 = λ l. StandsFor (record y { levels = l }) flat in
      let long : length after ≡ MOST_WORDS = length-written (slot_words y.levels.pages slot) (4 * k) words ∙ rep_taken.1 in
      subst Q (sym (four_put_is y.levels slot k words small)) (subst P r.slot-is (stands_rep h d x live single g (record { rep = rep; guard = guard }) after long holds))

  -- a new entry is written into the least slot that is not used
  pub stands_entry : IsAlone f d x → (k : ℕ) (e : Entry) → slot_for slots ≡ Some k → find slots e.name ≡ None → IsName e.name
      → StandsFor (record y { levels = four_put y.levels slot k (entry_words e.name e.cap e.kept) }) (record f { dirs = edit f.dirs d (with_entry e.name (record { cap = e.cap; kept = e.kept })) })
  stands_entry single k e free new named =
      let small = slot_small (slot_words y.levels.pages slot) slots k rep_taken.1 r.decodes free in
      stands_four single (with_entry e.name (record { cap = e.cap; kept = e.kept })) refl refl k (omega (arith, small)) (entry_words e.name e.cap e.kept)
      (holds_added (slot_words y.levels.pages slot) x slots k e rep_taken.1 rep_holds r.decodes free new named)

  -- the words of a free slot are written where the name was found
  pub stands_no_entry : IsAlone f d x → (name : Name) (found : Found) → find slots name ≡ Some found
      → StandsFor (record y { levels = four_put y.levels slot found.slot gone_words }) (record f { dirs = edit f.dirs d (without_entry name) })
  stands_no_entry single name found there =
      let small = found_small (slot_words y.levels.pages slot) slots name found rep_taken.1 r.decodes there in
      stands_four single (without_entry name) refl refl found.slot (omega (arith, small)) gone_words
      (holds_removed (slot_words y.levels.pages slot) x slots name found rep_taken.1 rep_holds r.decodes there)

-- ---- user objects are told and forgotten

pub stands_enrolled : {y : System} {f : Flat} → StandsFor y f → (u : ℕ) (kind : Kind) → StandsFor (record y { levels = record y.levels { life = put y.levels.life u kind } }) (record f { life = put f.life u kind })
stands_enrolled h u kind =
    tables_stand h h.next h.codes h.boxes (ap (λ t. put t u kind) h.life) h.types h.windows h.users h.objects

pub stands_forgotten : {y : System} {f : Flat} → StandsFor y f → (u : ℕ) → StandsFor (record y { levels = record y.levels { life = without y.levels.life u } }) (record f { life = without f.life u })
stands_forgotten h u =
    tables_stand h h.next h.codes h.boxes (ap (λ t. without t u) h.life) h.types h.windows h.users h.objects

-- ---- the changes of requests

module _ {y : System} {f : Flat} (h : StandsFor y f) (d : ℕ) (x : Directory) (live : at f.dirs d ≡ Some x) (single : IsAlone f d x) (slot : ℕ) (slots : List Slot) (r : HasRead y.levels.pages y.levels.segs x.rep slot slots) (name : Name) where
  pub stands_bound : (k : ℕ) (cap : Capability) → slot_for slots ≡ Some k → find slots name ≡ None → IsName name
      → StandsFor (record y { levels = four_put y.levels slot k (entry_words name cap false) }) (changed f (Bind d name cap))
  stands_bound k cap free new named = stands_entry h d x live slot slots r single k (record { name = name; cap = cap; kept = false }) free new named

  pub stands_unbound : (found : Found) → find slots name ≡ Some found
      → StandsFor (record y { levels = four_put y.levels slot found.slot gone_words }) (changed f (Unbind d name))
  stands_unbound found there = stands_no_entry h d x live slot slots r single name found there

  -- a user object is enrolled, and its distinguished entry is written
  pub stands_registered : (k u : ℕ) (kind : Kind) → slot_for slots ≡ Some k → find slots name ≡ None → IsName name
      → StandsFor (record y { levels = four_put (act y.levels (Enrol (uid u) kind)).0 slot k (entry_words name (full u) true) }) (changed f (Register u d name kind))
  stands_registered k u kind free new named =
      let single_now : IsAlone (record f { life = put f.life u kind }) d x = record { segments = single.segments; dirs = single.dirs } in
      stands_entry (stands_enrolled h u kind) d x live slot slots r single_now k (record { name = name; cap = full u; kept = true }) free new named

  -- a user object is forgotten, and its distinguished entry goes
  pub stands_unregistered : (u : ℕ) (found : Found) → find slots name ≡ Some found
      → StandsFor (record y { levels = four_put (act y.levels (Forget (uid u))).0 slot found.slot gone_words }) (changed f (Unregister u d name))
  stands_unregistered u found there =
      let single_now : IsAlone (record f { life = without f.life u }) d x = record { segments = single.segments; dirs = single.dirs } in
      stands_no_entry (stands_forgotten h u) d x live slot slots r single_now name found there
