-- The names on pages are those of the directory, in order.
use Rattle.std.proofs.Common.{◌≡◌, ℕ, ◌+◌, ◌*◌, ◌-◌, ◌<◌, ◌≤◌, Bool, true, false, cond, not, ◌&&◌, ◌||◌, List, [], ◌∷◌, ◌++◌, length, length-append, append-nil, take, drop, get_or, map, Some, Result, Ok, Err, refl, sym, ap, ◌∙◌, arith}
use Rattle.std.specs.Prelude.{is_some, IfOk, OnErr}
use Rattle.std.specs.BTreeSet.{insert_key}
use Rattle.std.specs.Ordering.{match_ordering}
use Rattle.std.specs.FinMap.{IsAntisymmetric, nat_cmp-IsAntisymmetric, slice_cmp-IsAntisymmetric}
use Rattle.std.specs.List.{list_any, AllByRecursion}
use Rattle.std.specs.declared.cmp.Ordering.{Ordering}
use Rattle.std.specs.declared.cmp.Ordering.TheVariants.{Less, Equal, Greater}
use Rattle.std.proofs.lemmas.Bool.{true≢false}
use Rattle.std.proofs.lemmas.List.{length-replicate, get_or-drop, take-append-drop}
use Rattle.std.proofs.lemmas.Option.{same_Some}
use Rattle.psos_limits.specs.declared.TheConstants.{MOST_WORDS, MOST_ENTRIES}
use Rattle.psos_text.specs.declared.name.Name.{Name}
use Rattle.psos_words.specs.declared.word.Word.{Word}
use Rattle.psos_words.specs.declared.word.Word.TheVariants.{Data, Cap}
use Rattle.psos_words.specs.Words.{zeros, word_at}
use Rattle.psos_words.specs.Directory.{Entry, Slot, Never, Gone, Used, same_name, slot_of, slots_of, has_name, are_never, are_apart, decode, entries_in}
use Rattle.psos_dirrep.specs.EntryLists.{entry_list, IsEntryList}
use Rattle.psos_dirrep.specs.Pages.{words_of, slots_in, AreSlots, ArePages}
use Rattle.psos_dirrep.proofs.DecodeTests.{slots-drop}
use Rattle.psos_dirrep.proofs.Directories.{IsDirectory, decoded, decode-whole}
use Rattle.psos_dirrep.proofs.NameBytes.{bytes_same}
use Rattle.psos_dirrep.proofs.PageLaws.{words-long, slots-are}
use Rattle.psos_dirrep.proofs.PageSlots.{Halves, halves, zeros-never}
use Rattle.psos_dirrep.proofs.PageSearch.{four}
use Rattle.psos_dirrep.proofs.Slots.{Splits, by_slot, slots-split}
use Rattle.psos_calls.specs.Language.Names.{name_cmp, put_before, among, in_order, names_of}
use Rattle.psos_calls.specs.Plan.Objects.{no_entry}
use Rattle.psos_plan_dir.specs.Collected.{name_in, read_name, IsNamed, with_name, with_names, collected, none_used}
use Rattle.psos_plan_dir.proofs.FindPlan.{drop-past}

-- ---- one slot of a page

pub record AtPlace (page : List Word) (k : ℕ) : Type 0 where
  pub slot : Slot
  pub here : slot_of (word_at page (4 * k)) (word_at page (4 * k + 1)) (word_at page (4 * k + 2)) (word_at page (4 * k + 3)) ≡ Some slot
  pub is : drop k (slots_in page) ≡ slot ∷ drop (k + 1) (slots_in page)
  pub get : get_or (slots_in page) k Never ≡ slot

pub at-place : (page : List Word) (k : ℕ) → AreSlots page → length page ≡ 64 → k < 16 → AtPlace page k
at-place page k h long within =
    let e = four page k (omega arith) in
    let here : slots_of (a ∷ b ∷ c ∷ d ∷ drop (4 * (k + 1)) page) ≡ Some (drop k (slots_in page)) = ap slots_of (sym e) ∙ slots-drop k page (slots_in page) h.slots in
    placed (slots-split a b c d (drop (4 * (k + 1)) page) (drop k (slots_in page)) here) (slots-drop (k + 1) page (slots_in page) h.slots)
  where
    a : Word
    a = word_at page (4 * k)

    b : Word
    b = word_at page (4 * k + 1)

    c : Word
    c = word_at page (4 * k + 2)

    d : Word
    d = word_at page (4 * k + 3)

    placed : Splits a b c d (drop (4 * (k + 1)) page) (drop k (slots_in page)) → slots_of (drop (4 * (k + 1)) page) ≡ Some (drop (k + 1) (slots_in page)) → AtPlace page k
    placed s after =
        let at : k + 0 ≡ k = omega arith in
        record {
          slot = s.slot;
          here = s.here;
          is = s.is ∙ ap (λ (l : List Slot). s.slot ∷ l) (same_Some s.later (drop (k + 1) (slots_in page)) (sym s.after ∙ after));
          get = ap (λ (n : ℕ). get_or (slots_in page) n Never) (sym at) ∙ sym (get_or-drop k (slots_in page) 0 Never) ∙ ap (λ (l : List Slot). get_or l 0 Never) s.is;
        }

-- a used slot's last word is a capability, and its two numbers are its name's
abbrev pub is_cap : Word → Bool
is_cap (Data n) = false
is_cap (Cap cap) = true

pub cap-used : (a b c d : Word) (slot : Slot) → slot_of a b c d ≡ Some slot → is_cap d ≡ is_some (name_in slot)
cap-used a b c d slot e =
    let P : Word → Word → Word → Word → Slot → Type 0 = λ a b c d slot. is_cap d ≡ is_some (name_in slot) in
    by_slot P refl refl (λ h l cap kept filled. refl) a b c d slot e

pub name-read : (a b c d : Word) (slot : Slot) → slot_of a b c d ≡ Some slot → read_name b c d ≡ name_in slot
name-read a b c d slot e =
    let P : Word → Word → Word → Word → Slot → Type 0 = λ a b c d slot. read_name b c d ≡ name_in slot in
    by_slot P refl refl (λ h l cap kept filled. refl) a b c d slot e

pub is-named : (a b c d : Word) (slot : Slot) → slot_of a b c d ≡ Some slot → IsNamed b c d
is-named a b c d slot e =
    let P : Word → Word → Word → Word → Slot → Type 0 = λ a b c d slot. IsNamed b c d in
    by_slot P tt tt (λ h l cap kept filled. filled) a b c d slot e

pub used-first : (slot : Slot) (rest : List Slot) → no_entry (entries_in (slot ∷ rest)) ≡ cond (is_some (name_in slot)) false (no_entry (entries_in rest))
used-first Never rest = refl
used-first Gone rest = refl
used-first (Used e) rest = refl

-- ---- names in order

names_same : IsAntisymmetric name_cmp
names_same x y e = let named : List ℕ → Name = λ b. record { bytes = b } in ap named (slice_cmp-IsAntisymmetric nat_cmp-IsAntisymmetric x.bytes y.bytes e)

-- none of these names is this one
abbrev NotAmong : Name → List Name → Type 0
NotAmong name names = AllByRecursion (λ n. name_cmp name n ≡ Equal → ⊥) names

among_is : (name : Name) (names : List Name) → NotAmong name names → insert_key name_cmp names name ≡ among name names
among_is name [] none = refl
among_is name (first ∷ others) none = by (name_cmp name first) refl (among_is name others none.1)
  where
    by : (o : Ordering) → name_cmp name first ≡ o → insert_key name_cmp others name ≡ among name others
        → match_ordering o (name ∷ first ∷ others) (first ∷ others) (first ∷ insert_key name_cmp others name) ≡ put_before o name first others (first ∷ among name others)
    by Less e later = refl
    by Equal e later = absurd (none.0 e)
    by Greater e later = ap (λ (l : List Name). first ∷ l) later

-- what holds of names holds of them in order
all_among : (P : Name → Type 0) (name : Name) (names : List Name) → P name → AllByRecursion P names → AllByRecursion P (among name names)
all_among P name [] p all = (p, tt)
all_among P name (first ∷ others) p all = by (name_cmp name first) (all_among P name others p all.1)
  where
    by : (o : Ordering) → AllByRecursion P (among name others) → AllByRecursion P (put_before o name first others (first ∷ among name others))
    by Less later = (p, all)
    by Equal later = (p, all)
    by Greater later = (all.0, later)

all_ordered : (P : Name → Type 0) (names : List Name) → AllByRecursion P names → AllByRecursion P (in_order names)
all_ordered P [] all = tt
all_ordered P (name ∷ names) all = all_among P name (in_order names) all.0 (all_ordered P names all.1)

-- an entry whose name no later slot has
or_false : (a b : Bool) → (a || b) ≡ false → (a ≡ false) × (b ≡ false)
or_false true b e = absurd (true≢false e)
or_false false b e = (refl, e)

not_same : (a b : Name) → same_name b a ≡ false → name_cmp a b ≡ Equal → ⊥
not_same a b differ e =
    let same : same_name b a ≡ true = ap (λ (n : Name). same_name b n) (names_same a b e) ∙ bytes_same b.bytes in
    true≢false (sym same ∙ differ)

not_among : (name : Name) (slots : List Slot) → list_any (has_name name) slots ≡ false → NotAmong name (map (λ (e : Entry). e.name) (entries_in slots))
not_among name [] e = tt
not_among name (Never ∷ rest) e = not_among name rest e
not_among name (Gone ∷ rest) e = not_among name rest e
not_among name (Used x ∷ rest) e =
    let parts = or_false (same_name x.name name) (list_any (has_name name) rest) e in
    (not_same name x.name parts.0, not_among name rest parts.1)

apart_parts : (a b : Bool) → (not a && b) ≡ true → (a ≡ false) × (b ≡ true)
apart_parts true b e = absurd (true≢false (sym e))
apart_parts false b e = (refl, e)

pub names-ordered : (slots : List Slot) → are_apart slots ≡ true → with_names slots [] ≡ names_of (entries_in slots)
names-ordered [] e = refl
names-ordered (Never ∷ rest) e = names-ordered rest e
names-ordered (Gone ∷ rest) e = names-ordered rest e
names-ordered (Used x ∷ rest) e =
    let parts = apart_parts (list_any (has_name x.name) rest) (are_apart rest) e in
    let later = names-ordered rest parts.1 in
    let names = map (λ (y : Entry). y.name) (entries_in rest) in
    ap (λ (l : List Name). insert_key name_cmp l x.name) later
    ∙ among_is x.name (in_order names) (all_ordered (λ n. name_cmp x.name n ≡ Equal → ⊥) names (not_among x.name rest parts.0))

-- ---- the slots of all pages

any_front : (name : Name) (a b : List Slot) → list_any (has_name name) (a ++ b) ≡ false → list_any (has_name name) a ≡ false
any_front name [] b e = refl
any_front name (x ∷ a) b e =
    let parts = or_false (has_name name x) (list_any (has_name name) (a ++ b)) e in
    ap (λ (t : Bool). t || list_any (has_name name) a) parts.0 ∙ any_front name a b parts.1

apart_front : (a b : List Slot) → are_apart (a ++ b) ≡ true → are_apart a ≡ true
apart_front [] b e = refl
apart_front (Never ∷ a) b e = apart_front a b e
apart_front (Gone ∷ a) b e = apart_front a b e
apart_front (Used x ∷ a) b e =
    let parts = apart_parts (list_any (has_name x.name) (a ++ b)) (are_apart (a ++ b)) e in
    ap (λ (t : Bool). not t && are_apart a) (any_front x.name a b parts.0) ∙ apart_front a b parts.1

never_entries : (slots : List Slot) → are_never slots ≡ true → entries_in slots ≡ []
never_entries [] e = refl
never_entries (Never ∷ rest) e = never_entries rest e
never_entries (Gone ∷ rest) e = absurd (true≢false (sym e))
never_entries (Used x ∷ rest) e = absurd (true≢false (sym e))

entries_append : (a b : List Slot) → entries_in (a ++ b) ≡ entries_in a ++ entries_in b
entries_append [] b = refl
entries_append (Never ∷ a) b = entries_append a b
entries_append (Gone ∷ a) b = entries_append a b
entries_append (Used x ∷ a) b = ap (λ (l : List Entry). x ∷ l) (entries_append a b)

-- slots with others behind them that were never used
entries_front : (a b : List Slot) → are_never b ≡ true → entries_in (a ++ b) ≡ entries_in a
entries_front a b e = entries_append a b ∙ ap (λ (l : List Entry). entries_in a ++ l) (never_entries b e) ∙ append-nil (entries_in a)

-- the slots of pages, which have the entries of the directory
pub record PageSlots (pages : List (List Word)) : Type 0 where
  pub front : List Slot
  pub are : slots_of (words_of pages) ≡ Some front
  pub apart : are_apart front ≡ true
  pub entries : entries_in (entry_list (words_of pages)) ≡ entries_in front

pub page-slots : (pages : List (List Word)) → IsEntryList pages → PageSlots pages
unfolding decode
page-slots pages e =
    let few = e.few in
    let long : length words ≡ 4 * (16 * length pages) = words-long pages e.are in
    let whole : length filled ≡ MOST_WORDS = length-append words (zeros (MOST_WORDS - length words)) ∙ omega (arith, length-replicate {A = Word} (MOST_WORDS - length words) (Data 0)) in
    let d = decoded filled (entry_list words) whole (decode-whole filled whole ∙ e.list) in
    parted d (halves (16 * length pages) words (zeros (MOST_WORDS - length words)) d.all long d.are)
  where
    words : List Word
    words = words_of pages

    filled : List Word
    filled = words ++ zeros (MOST_WORDS - length words)

    parted : (d : IsDirectory filled (entry_list words)) → Halves words (zeros (MOST_WORDS - length words)) (16 * length pages) d.all → PageSlots pages
    parted d h = record {
      front = h.front;
      are = h.first;
      apart = apart_front h.front h.back (ap are_apart (sym h.is) ∙ d.apart);
      entries =
          ap entries_in d.is ∙ sym (entries_front (take MOST_ENTRIES d.all) (drop MOST_ENTRIES d.all) d.last) ∙ ap entries_in (take-append-drop MOST_ENTRIES d.all)
          ∙ ap entries_in h.is ∙ entries_front h.front h.back (zeros-never (MOST_WORDS - length words) h.back h.second);
    }

with_append : (a b : List Slot) (names : List Name) → with_names (a ++ b) names ≡ with_names a (with_names b names)
with_append [] b names = refl
with_append (x ∷ a) b names = ap (with_name (name_in x)) (with_append a b names)

collected_slots : (pages : List (List Word)) (front : List Slot) → ArePages pages → slots_of (words_of pages) ≡ Some front → collected pages ≡ with_names front []
unfolding slots_of
collected_slots [] front are e = ap (λ (l : List Slot). with_names l []) (same_Some [] front e)
collected_slots (page ∷ pages) front are e =
    let long = are.0 in
    let h = halves 16 page (words_of pages) front long e in
    ap (λ (l : List Slot). with_names l (collected pages)) (slots-are page h.front h.first)
    ∙ ap (with_names h.front) (collected_slots pages h.back are.1 h.second)
    ∙ sym (with_append h.front h.back []) ∙ ap (λ (l : List Slot). with_names l []) (sym h.is)

-- the names on pages are those of the directory
pub collected-is : (pages : List (List Word)) → IsEntryList pages → collected pages ≡ names_of (entries_in (entry_list (words_of pages)))
collected-is pages e =
    let s = page-slots pages e in
    collected_slots pages s.front e.are s.are ∙ names-ordered s.front s.apart ∙ ap names_of (sym s.entries)

none_append : (a b : List Entry) → no_entry (a ++ b) ≡ (no_entry a && no_entry b)
none_append [] b = refl
none_append (x ∷ a) b = refl

none_slots : (pages : List (List Word)) (front : List Slot) → ArePages pages → slots_of (words_of pages) ≡ Some front → none_used pages ≡ no_entry (entries_in front)
unfolding slots_of
none_slots [] front are e = ap (λ (l : List Slot). no_entry (entries_in l)) (same_Some [] front e)
none_slots (page ∷ pages) front are e =
    let long = are.0 in
    let h = halves 16 page (words_of pages) front long e in
    ap (λ (l : List Slot). no_entry (entries_in l) && none_used pages) (slots-are page h.front h.first)
    ∙ ap (λ (b : Bool). no_entry (entries_in h.front) && b) (none_slots pages h.back are.1 h.second)
    ∙ sym (none_append (entries_in h.front) (entries_in h.back)) ∙ ap no_entry (sym (entries_append h.front h.back)) ∙ ap (λ (l : List Slot). no_entry (entries_in l)) (sym h.is)

-- and there is none exactly where the directory has no entry
pub none-is : (pages : List (List Word)) → IsEntryList pages → none_used pages ≡ no_entry (entries_in (entry_list (words_of pages)))
none-is pages e =
    let s = page-slots pages e in
    none_slots pages s.front e.are s.are ∙ ap no_entry (sym s.entries)

-- ---- a page from its end on

pub past-slots : (page : List Word) (k : ℕ) → AreSlots page → length page ≡ 64 → 16 ≤ k → drop k (slots_in page) ≡ []
past-slots page k h long past =
    let parts = halves 16 page [] (slots_in page) long (ap slots_of (append-nil page) ∙ h.slots) in
    let count : length (slots_in page) ≡ 16 = ap length (slots-are page parts.front parts.first) ∙ parts.long in
    drop-past (slots_in page) k (omega arith)

-- names of the slots from k on went in
pub record HasPut (k : ℕ) (names all : List Name) : Type 0 where
  pub few : k ≤ 16
  pub same : names ≡ all

-- names that were passed, and then none that are left
pub all-passed : {X : Type 0} (names left all : List X) → names ++ left ≡ all → left ≡ [] → names ≡ all
all-passed names left all e none = sym (append-nil names) ∙ sym (ap (λ l. names ++ l) none) ∙ e

-- what holds of a value that is there
pub ok-then : {X E : Type 0} (r : Result X E) (P Q : X → Type 0) → ((x : X) → P x → Q x) → IfOk r P → IfOk r Q
ok-then (Ok x) P Q f h = f x h
ok-then (Err e) P Q f h = tt

pub err-then : {X E : Type 0} (r : Result X E) (P : Type 0) → P → OnErr r P
err-then (Ok x) P h = tt
err-then (Err e) P h = h
