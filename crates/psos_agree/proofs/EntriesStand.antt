-- One entry of a directory more or fewer, in the words of its representation and in the flat state.
use Rattle.std.proofs.Common.{◌≡◌, ℕ, suc, ◌+◌, ◌*◌, ◌<◌, ◌≤◌, Bool, true, false, cond, Option, Some, None, List, [], ◌∷◌, length, set, slice_get, refl, sym, subst, ap, ◌∙◌, inl, inr, ◌⊎◌, arith, length-take, length-set, get_or, get_or-set_same}
use Rattle.std.specs.Option.{option_map}
use Rattle.std.specs.Str.{bytes_eq}
use Rattle.std.specs.FinMap.{insert, remove, get-insert, get-remove, get}
use Rattle.std.proofs.lemmas.Bool.{cases_eq, cases_lt, false≢true}
use Rattle.std.proofs.lemmas.List.{get_or_past}
use Rattle.std.proofs.lemmas.Map.Text.{is_eq-slice_cmp}
use Rattle.std.proofs.lemmas.Option.{same_Some, none-some, slice_get_within}
use Rattle.std.proofs.lemmas.Slice.Eq.{bytes_eq-Decides}
use Rattle.psos_limits.specs.declared.TheConstants.{MOST_WORDS, MOST_ENTRIES}
use Rattle.psos_table.specs.Table.{at, edit}
use Rattle.psos_table.proofs.Tables.{at-edit_here, at-edit_apart}
use Rattle.psos_caps.specs.Capability.{full}
use Rattle.psos_caps.specs.declared.rights.Rights.{Rights}
use Rattle.psos_text.specs.declared.name.Name.{Name}
use Rattle.psos_text.specs.Name.{IsName}
use Rattle.psos_words.specs.declared.word.Word.{Word}
use Rattle.psos_words.specs.Directory.{Entry, Slot, Never, Gone, Used, Found, decode, find, find_from, slot_for, same_name, entry_words, gone_words}
use Rattle.psos_dirrep.specs.Replacement.{with_words}
use Rattle.psos_dirrep.proofs.SlotChanges.{free-at, free-within}
use Rattle.psos_dirrep.proofs.Directories.{decoded, written-length}
use Rattle.psos_dirrep.proofs.EntryChanges.{entry-added, entry-removed}
use Rattle.psos_calls.specs.declared.obj_row.ObjRow.{ObjRow}
use Rattle.psos_calls.specs.Language.Script.{Script}
use Rattle.psos_calls.specs.Levels.Level7.{Pages, IsTaken, slot_words, written}
use Rattle.psos_calls.specs.Levels.Level8.{SegState, slot_of}
use Rattle.psos_calls.specs.Levels.{Levels}
use Rattle.psos_model.specs.Flat.{Flat, Directory, Object, Named, Names, named}
use Rattle.psos_model.specs.Flat.Changes.{with_entry, without_entry}
use Rattle.psos_model.specs.Replay.{System}
use Rattle.psos_model.specs.Sound.Roles.{Role, HiddenIn}
use Rattle.psos_model.specs.Sound.{IsSound}
use Rattle.psos_model.specs.Replay.StandsFor.{StandsFor, HoldsEntries, named_of, object_row}
use Rattle.psos_model.proofs.NameOrder.{name_cmp_total}
use Rattle.psos_agree.proofs.SegmentWords.{row_of, segment_seen, is_taken, slots_apart, slot_words-set_here, slot_words-set_apart, taken-set_apart, taken-unset_apart}
use Rattle.psos_agree.specs.Changes.{IsAlone}

-- ---- names

-- two names are equal, or not
by_name : (P : Bool → Type 0) (q name : Name) → (q ≡ name → P true) → ((q ≡ name → ⊥) → P false) → P (bytes_eq q.bytes name.bytes)
by_name P q name same other = by (bytes_eq q.bytes name.bytes) refl
  where
    by : (b : Bool) → bytes_eq q.bytes name.bytes ≡ b → P b
    by true e = same (ap (λ (bytes : List ℕ). (let n : Name = record { bytes = bytes } in n)) ((bytes_eq-Decides q.bytes name.bytes).0 e))
    by false e = other (λ is. false≢true (sym e ∙ (bytes_eq-Decides q.bytes name.bytes).1 (ap (λ (n : Name). n.bytes) is)))

pub named_with : (m : Names) (name : Name) (e : Named) (q : Name) → get (insert m name e) q ≡ cond (bytes_eq q.bytes name.bytes) (Some e) (get m q)
named_with m name e q = get-insert name_cmp_total m name e q ∙ ap (λ b. cond b (Some e) (get m q)) (is_eq-slice_cmp q.bytes name.bytes)

named_without : (m : Names) (name q : Name) → get (remove m name) q ≡ cond (bytes_eq q.bytes name.bytes) None (get m q)
named_without m name q = get-remove name_cmp_total m name q ∙ ap (λ b. cond b None (get m q)) (is_eq-slice_cmp q.bytes name.bytes)

-- ---- what is found

-- what is found stands in its slot, under the name
pub record FoundAt (j : ℕ) (slots : List Slot) (name : Name) (found : Found) : Type 0 where
  pub place : ℕ
  pub slot : found.slot ≡ j + place
  pub there : slice_get slots place ≡ Some (Used found.entry)
  pub name-is : same_name found.entry.name name ≡ true

found_later : (j : ℕ) (first : Slot) (rest : List Slot) (name : Name) (found : Found) → FoundAt (j + 1) rest name found → FoundAt j (first ∷ rest) name found
found_later j first rest name found r = record { place = suc r.place; slot = omega (arith, r.slot); there = r.there; name-is = r.name-is }

found_at : (j : ℕ) (slots : List Slot) (name : Name) (found : Found) → find_from j slots name ≡ Some found → FoundAt j slots name found
found_at j [] name found e = absurd (none-some found e)
found_at j (Never ∷ rest) name found e = found_later j Never rest name found (found_at (j + 1) rest name found e)
found_at j (Gone ∷ rest) name found e = found_later j Gone rest name found (found_at (j + 1) rest name found e)
found_at j (Used x ∷ rest) name found e = by (same_name x.name name) refl e (found_at (j + 1) rest name found)
  where
    by : (b : Bool) → same_name x.name name ≡ b → cond b (Some (record { slot = j; entry = x })) (find_from (j + 1) rest name) ≡ Some found
        → (find_from (j + 1) rest name ≡ Some found → FoundAt (j + 1) rest name found) → FoundAt j (Used x ∷ rest) name found
    by true is e later =
        let here : Found = record { slot = j; entry = x } in
        let same : here ≡ found = same_Some here found e in
        subst (FoundAt j (Used x ∷ rest) name) same (record { place = 0; slot = omega arith; there = refl; name-is = is })
    by false is e later = found_later j (Used x) rest name found (later e)

-- the slot of what is found holds it
pub slot_found : (slots : List Slot) (name : Name) (found : Found) → find slots name ≡ Some found → (slice_get slots found.slot ≡ Some (Used found.entry)) × (found.entry.name ≡ name)
slot_found slots name found e =
    let r = found_at 0 slots name found e in
    let here : r.place ≡ found.slot = omega (arith, r.slot) in
    (ap (slice_get slots) (sym here) ∙ r.there, ap (λ (bytes : List ℕ). (let n : Name = record { bytes = bytes } in n)) ((bytes_eq-Decides found.entry.name.bytes name.bytes).0 r.name-is))

-- ---- words that hold the entries of a directory

-- what is found is what the directory has
pub find_named : (words : List Word) (d : Directory) (slots : List Slot) → HoldsEntries words d → decode words ≡ Some slots → (name : Name) → option_map named_of (find slots name) ≡ named d name
find_named words d slots holds is name =
    let same : slots ≡ holds.slots = same_Some slots holds.slots (sym is ∙ holds.decodes) in
    ap (λ (l : List Slot). option_map named_of (find l name)) same ∙ holds.entries name

-- a directory has 127 entry slots
pub slots_few : (words : List Word) (slots : List Slot) → length words ≡ MOST_WORDS → decode words ≡ Some slots → length slots ≡ MOST_ENTRIES
slots_few words slots long is =
    let d = decoded words slots long is in
    let count = d.count in
    ap length d.is ∙ omega (arith, length-take MOST_ENTRIES d.all)

-- the least slot that is not used is one of them
pub slot_small : (words : List Word) (slots : List Slot) (k : ℕ) → length words ≡ MOST_WORDS → decode words ≡ Some slots → slot_for slots ≡ Some k → k < MOST_ENTRIES
slot_small words slots k long is slot =
    let few = slots_few words slots long is in
    omega (arith, free-within (free-at 0 k slots (slot ∙ ap (λ (n : ℕ). Some n) {x = k} {y = 0 + k} (omega arith))))

-- and so is the slot of what is found
pub found_small : (words : List Word) (slots : List Slot) (name : Name) (found : Found) → length words ≡ MOST_WORDS → decode words ≡ Some slots → find slots name ≡ Some found → found.slot < MOST_ENTRIES
found_small words slots name found long is there =
    let few = slots_few words slots long is in
    let inside = slice_get_within slots found.slot (Used found.entry) (slot_found slots name found there).0 in
    omega (arith, inside)

-- the two spellings of words that are written over others
same_written : (words : List Word) (i : ℕ) (more : List Word) → with_words words i more ≡ written words i more
same_written words i [] = refl
same_written words i (w ∷ more) = same_written (set words i w) (i + 1) more

pub length-written : (words : List Word) (i : ℕ) (more : List Word) → length (written words i more) ≡ length words
length-written words i more = ap length (sym (same_written words i more)) ∙ written-length words i more

-- the words of a new entry, in the least slot that is not used
pub holds_added : (words : List Word) (d : Directory) (slots : List Slot) (k : ℕ) (e : Entry) → length words ≡ MOST_WORDS → HoldsEntries words d → decode words ≡ Some slots → slot_for slots ≡ Some k → find slots e.name ≡ None → IsName e.name
    → HoldsEntries (written words (4 * k) (entry_words e.name e.cap e.kept)) (with_entry e.name (record { cap = e.cap; kept = e.kept }) d)
holds_added words d slots k e long holds is slot new is_name =
    let added = entry-added words slots k e (record { whole = record { long = long; decoded = is }; slot = slot; new = new; named = is_name }) in
    let after = set slots k (Used e) in
    let n : Named = record { cap = e.cap; kept = e.kept } in
    record {
      slots = after;
      decodes = ap decode (sym (same_written words (4 * k) (entry_words e.name e.cap e.kept))) ∙ added.whole.decoded;
      entries = λ q.
          by_name (λ b. option_map named_of (find after q) ≡ cond b (Some n) (named d q)) q e.name
          (λ same. ap (λ (m : Name). option_map named_of (find after m)) same ∙ ap (option_map named_of) added.found)
          (λ other. ap (option_map named_of) (added.others q other) ∙ find_named words d slots holds is q)
          ∙ sym (named_with d.names e.name n q);
    }

-- the words of a free slot, over what is found
pub holds_removed : (words : List Word) (d : Directory) (slots : List Slot) (name : Name) (found : Found) → length words ≡ MOST_WORDS → HoldsEntries words d → decode words ≡ Some slots → find slots name ≡ Some found
    → HoldsEntries (written words (4 * found.slot) gone_words) (without_entry name d)
holds_removed words d slots name found long holds is there =
    let at_slot = slot_found slots name found there in
    let removed = entry-removed words slots found.slot found.entry (record { whole = record { long = long; decoded = is }; there = at_slot.0 }) in
    let after = set slots found.slot Gone in
    record {
      slots = after;
      decodes = ap decode (sym (same_written words (4 * found.slot) gone_words)) ∙ removed.whole.decoded;
      entries = λ q.
          by_name (λ b. option_map named_of (find after q) ≡ cond b None (named d q)) q name
          (λ same. ap (λ (m : Name). option_map named_of (find after m)) (same ∙ sym at_slot.1) ∙ ap (option_map named_of) removed.gone)
          (λ other. ap (option_map named_of) (removed.others q (λ e. other (e ∙ at_slot.1))) ∙ find_named words d slots holds is q)
          ∙ sym (named_without d.names name q);
    }

-- ---- the representation of one directory is written

-- the representation of one directory is that of no other
abbrev hidden_in : Role → ℕ
hidden_in (HiddenIn d) = d
hidden_in _ = 0

one_directory : (s : Script) (f : Flat) (d v : ℕ) (x r : Directory) → IsSound s f → at f.dirs d ≡ Some x → at f.dirs v ≡ Some r → r.rep ≡ x.rep → v ≡ d
one_directory s f d v x r sound at_d at_v e =
    ap hidden_in (sym (sound.dirs v r at_v).hidden) ∙ (ap (λ (u : ℕ). hidden_in (sound.role u)) e ∙ ap hidden_in (sound.dirs d x at_d).hidden)

-- in a sound state that holds of each live directory
pub alone : (s : Script) (f : Flat) (d : ℕ) (x : Directory) → IsSound s f → at f.dirs d ≡ Some x → IsAlone f d x
alone s f d x sound live = record { segments = λ u t is. segment_seen s f u t sound is d x live; dirs = λ v r is. one_directory s f d v x r sound live is }

-- a slot that is written is taken
taken_here : (p : Pages) (slot : ℕ) (words : List Word) → IsTaken p slot → get_or (set p slot (Some words)) slot None ≡ Some words
taken_here p slot words taken = by (cases_lt slot (length p))
  where
    by : (slot < length p) ⊎ (length p ≤ slot) → get_or (set p slot (Some words)) slot None ≡ Some words
    by (inl inside) = get_or-set_same p slot (Some words) None inside
    by (inr past) = absurd (none-some taken.0 (sym (get_or_past p slot None past) ∙ taken.1))

-- the levels with other words in the slot of a representation
abbrev pub with_rep : System → ℕ → List Word → Levels
with_rep y u words = record y.levels { pages = set y.levels.pages (slot_of y.levels.segs u) (Some words) }

-- a directory with other entries has the guard and the representation that it had
pub record KeepsRep (x z : Directory) : Type 0 where
  pub rep : z.rep ≡ x.rep
  pub guard : z.guard ≡ x.guard

-- level 9 has a directory by its representation alone
object_row_by : (o : Option Object) (x z : Directory) → z.rep ≡ x.rep → object_row o (Some z) ≡ object_row o (Some x)
object_row_by None x z e = ap (λ (u : ℕ). (let r : ObjRow = record { of = None; rep = full u } in Some r)) e
object_row_by (Some o) x z e = refl

module _ (f : Flat) (d : ℕ) (x : Directory) (live : at f.dirs d ≡ Some x) (g : Directory → Directory) where
  -- the directory after its edit, and the others
  edit_here : at (edit f.dirs d g) d ≡ Some (g x)
  edit_here = at-edit_here f.dirs d g ∙ ap (option_map g) live

  edited_dir : (v : ℕ) (r : Directory) → at (edit f.dirs d g) v ≡ Some r → ((v ≡ d) × (r ≡ g x)) ⊎ ((v ≡ d → ⊥) × (at f.dirs v ≡ Some r))
  edited_dir v r is = elim (cases_eq v d) [
    | inl e ↦ inl (e, same_Some _ _ (sym is ∙ (ap (at (edit f.dirs d g)) e ∙ edit_here)))
    | inr apart ↦ inr (apart, sym (at-edit_apart f.dirs d g v apart) ∙ is)
  ]

  -- the words of its representation, after other words were written there
  edited_words : KeepsRep x (g x) → (p : Pages) (segs : SegState) (words : List Word) → slot_words p (slot_of segs x.rep) ≡ words → HoldsEntries words (g x)
      → (r : Directory) → r ≡ g x → HoldsEntries (slot_words p (slot_of segs r.rep)) r
  edited_words keeps p segs words there holds r same =
      let P : Directory → Type 0 = λ z. HoldsEntries (slot_words p (slot_of segs z.rep)) z in
      let Q : ℕ → Type 0 = λ u. HoldsEntries (slot_words p (slot_of segs u)) (g x) in
      let R : List Word → Type 0 = λ ws. HoldsEntries ws (g x) in
      subst P (sym same) (subst Q (sym keeps.rep) (subst R (sym there) holds))

  -- what is read of a directory beside its entries is as before
  edited_as : {A : Type 0} (read : Option Directory → A) → read (Some (g x)) ≡ read (Some x) → (v : ℕ) → read (at (edit f.dirs d g) v) ≡ read (at f.dirs v)
  edited_as read same v = elim (cases_eq v d) [
    | inl e ↦ ap (λ (u : ℕ). read (at (edit f.dirs d g) u)) e ∙ ap read edit_here ∙ same ∙ ap read (sym live) ∙ ap (λ (u : ℕ). read (at f.dirs u)) (sym e)
    | inr apart ↦ ap read (at-edit_apart f.dirs d g v apart)
  ]

-- words that hold other entries of a directory go into the slot of its representation
pub stands_rep : {y : System} {f : Flat} → StandsFor y f → (d : ℕ) (x : Directory) → at f.dirs d ≡ Some x → IsAlone f d x → (g : Directory → Directory) → KeepsRep x (g x)
    → (words : List Word) → length words ≡ MOST_WORDS → HoldsEntries words (g x)
    → StandsFor (record y { levels = with_rep y x.rep words }) (record f { dirs = edit f.dirs d g })
stands_rep {y = y} {f = f} h d x live single g keeps words long holds =
    let slot = slot_of y.levels.segs x.rep in
    let pages = y.levels.pages in
    let row = row_of y x.rep MOST_WORDS x.guard.0 (h.reps d x live) in
    let mine = is_taken h x.rep MOST_WORDS x.guard.0 (h.reps d x live) in
    record {
      next = h.next;
      codes = h.codes;
      boxes = h.boxes;
      life = h.life;
      types = h.types;
      windows = h.windows;
      users = h.users;
      dirs = λ v. h.dirs v ∙ sym (edited_as f d x live g (option_map (λ (r : Directory). r.guard)) (ap (λ (r : Rights). Some r) keeps.guard) v);
      objects = λ v. h.objects v ∙ sym (edited_as f d x live g (object_row (at f.objects v)) (object_row_by (at f.objects v) x (g x) keeps.rep) v);
      segments = h.segments;
      reps = λ v r is. elim (edited_dir f d x live g v r is) [
        | inl same ↦ rw (same.1, keeps.rep, keeps.guard) (h.reps d x live)
        | inr other ↦ h.reps v r other.1
      ];
      no_other = λ v r is. elim (h.no_other v r is) [
        | inl flat ↦ inl flat
        | inr rep ↦ elim (cases_eq rep.0 d) [
          | inl e ↦
              let same : rep.1.0 ≡ x = same_Some rep.1.0 x (sym rep.1.1 ∙ (ap (at f.dirs) e ∙ live)) in
              inr (d, (g x, edit_here f d x live g, keeps.rep ∙ (ap (λ (z : Directory). z.rep) (sym same) ∙ rep.1.2)))
          | inr apart ↦ inr (rep.0, (rep.1.0, at-edit_apart f.dirs d g rep.0 apart ∙ rep.1.1, rep.1.2))
        ]
      ];
      apart = h.apart;
      taken = λ v r is. elim (cases_eq r.slot slot) [
        | inl e ↦ rw e ((words, taken_here pages slot words mine.0), ap length (slot_words-set_here pages slot words mine.0) ∙ long)
        | inr apart ↦ let old = h.taken v r is in (taken-set_apart pages slot r.slot (Some words) apart old.0, ap length (slot_words-set_apart pages slot r.slot (Some words) apart) ∙ old.1)
      ];
      used = λ v taken. elim (cases_eq v slot) [
        | inl e ↦ (x.rep, (row.row, row.live, sym row.slot ∙ sym e))
        | inr apart ↦ h.used v (taken-unset_apart pages slot v (Some words) apart taken)
      ];
      slots = length-set pages slot (Some words) ∙ h.slots;
      words = λ v r is j at_j.
          let far : slot_of y.levels.segs v ≡ slot → ⊥ = λ e. single.segments v r is (slots_apart h v x.rep (length r.words) r.guard.0 MOST_WORDS x.guard.0 (h.segments v r is) (h.reps d x live) e) in
          rw (slot_words-set_apart pages slot (slot_of y.levels.segs v) (Some words) far) (h.words v r is j at_j);
      entries = λ v r is. elim (edited_dir f d x live g v r is) [
        | inl same ↦ edited_words f d x live g keeps (set pages slot (Some words)) y.levels.segs words (slot_words-set_here pages slot words mine.0) holds r same.1
        | inr other ↦
            let far : slot_of y.levels.segs r.rep ≡ slot → ⊥ = λ e. other.0 (single.dirs v r other.1 (slots_apart h r.rep x.rep MOST_WORDS r.guard.0 MOST_WORDS x.guard.0 (h.reps v r other.1) (h.reps d x live) e)) in
            rw (slot_words-set_apart pages slot (slot_of y.levels.segs r.rep) (Some words) far) (h.entries v r other.1)
      ];
    }
