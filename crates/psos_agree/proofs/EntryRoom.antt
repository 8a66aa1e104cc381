-- The entry slots of a directory beside its entries by name: how many they are, in which order, and whether one more fits.
use Rattle.std.proofs.Common.{◌≡◌, ℕ, zero, suc, ◌+◌, ◌<◌, ◌≤◌, Bool, true, false, cond, not, ◌&&◌, ◌||◌, eqb, Option, Some, None, List, [], ◌∷◌, length, take, map, refl, sym, subst, ap, ◌∙◌, arith}
use Rattle.std.specs.Prelude.{nat_lt, is_some}
use Rattle.std.specs.List.{list_any}
use Rattle.std.specs.Option.{option_map}
use Rattle.std.specs.Ordering.{is_eq}
use Rattle.std.specs.Str.{bytes_eq}
use Rattle.std.specs.declared.cmp.Ordering.{Ordering}
use Rattle.std.specs.declared.cmp.Ordering.TheVariants.{Less, Equal, Greater}
use Rattle.std.specs.FinMap.{empty, insert, get, len, keys, entries, get-empty, get-entries, entries-insert, len-empty, len-insert, len-entries, same_map}
use Rattle.std.specs.FinMap as maps
use Rattle.std.specs.FinMap.Entries.{by_order}
use Rattle.std.proofs.lemmas.Bool.{false≢true, and_parts, ne_eqb, lt-ltb, le-ltb}
use Rattle.std.proofs.lemmas.Option.{none-some}
use Rattle.std.proofs.lemmas.Slice.Eq.{bytes_eq-Decides}
use Rattle.psos_limits.specs.declared.TheConstants.{MOST_WORDS, MOST_ENTRIES}
use Rattle.psos_table.specs.Table.{at}
use Rattle.psos_text.specs.declared.name.Name.{Name}
use Rattle.psos_words.specs.declared.word.Word.{Word}
use Rattle.psos_words.specs.Directory.{Entry, Slot, Never, Gone, Used, Found, decode, find, find_from, slot_for, free_from, entries_in, has_name, same_name, are_apart}
use Rattle.psos_dirrep.proofs.SlotChanges.{or_parts, not-true}
use Rattle.psos_dirrep.proofs.Directories.{decoded}
use Rattle.psos_dirrep.proofs.NameBytes.{bytes_differ}
use Rattle.psos_calls.specs.declared.refusal.Refusal.TheVariants.{NameTaken, Exhausted}
use Rattle.psos_calls.specs.declared.tab.Tab.TheVariants.{Entries}
use Rattle.psos_calls.specs.Language.Names.{name_cmp, put_before, among, names_of}
use Rattle.psos_calls.specs.Plan.{Plan, Runs}
use Rattle.psos_calls.specs.Plan as plans
use Rattle.psos_calls.specs.Plan.Parts as parts
use Rattle.psos_calls.specs.Plan.Objects.{no_entry}
use Rattle.psos_calls.specs.Language.Tests.{if_there, if_none, if_holds}
use Rattle.psos_calls.specs.Language.User.{User}
use Rattle.psos_model.specs.Flat.{Flat, Directory, Named, Names, named}
use Rattle.psos_model.specs.Answer.Outcomes.{Outcome, refuse, if_room}
use Rattle.psos_model.specs.Replay.{System}
use Rattle.psos_model.specs.Replay.StandsFor.{StandsFor, HoldsEntries, named_of}
use Rattle.psos_model.proofs.NameOrder.{name_cmp_total}
use Rattle.psos_model.proofs.NameOrder as orders
use Rattle.psos_agree.specs.Agreement.{Meets}
use Rattle.psos_agree.proofs.PlanWalk.{refused}
use Rattle.psos_agree.proofs.EntriesStand.{named_with, find_named, slots_few}
use Rattle.psos_agree.proofs.EntryWriting.{rep_taken, rep_holds}
use Rattle.psos_agree.specs.Changes.{HasRead}

-- ---- slots as entries by name

-- the entries in slots by their names
entry_map : List Slot → Names
entry_map [] = empty
entry_map (Never ∷ rest) = entry_map rest
entry_map (Gone ∷ rest) = entry_map rest
entry_map (Used e ∷ rest) = insert (entry_map rest) e.name (record { cap = e.cap; kept = e.kept })

bytes_swapped : (a b : List ℕ) → bytes_eq a b ≡ bytes_eq b a
bytes_swapped a b = by (bytes_eq b a) refl
  where
    by : (t : Bool) → bytes_eq b a ≡ t → bytes_eq a b ≡ t
    by true e = (bytes_eq-Decides a b).1 (sym ((bytes_eq-Decides b a).0 e))
    by false e = bytes_differ a b (λ is. false≢true (sym e ∙ (bytes_eq-Decides b a).1 (sym is)))

-- a name stands there for what is found under it
entry_map-get : (j : ℕ) (slots : List Slot) (q : Name) → get (entry_map slots) q ≡ option_map named_of (find_from j slots q)
unfolding entry_map
entry_map-get j [] q = get-empty name_cmp q
entry_map-get j (Never ∷ rest) q = entry_map-get (j + 1) rest q
entry_map-get j (Gone ∷ rest) q = entry_map-get (j + 1) rest q
entry_map-get j (Used e ∷ rest) q =
    named_with (entry_map rest) e.name (record { cap = e.cap; kept = e.kept }) q
    ∙ ap (λ (b : Bool). cond b (Some (record { cap = e.cap; kept = e.kept })) (get (entry_map rest) q)) (bytes_swapped q.bytes e.name.bytes)
    ∙ by (same_name e.name q) (entry_map-get (j + 1) rest q)
  where
    by : (b : Bool) → get (entry_map rest) q ≡ option_map named_of (find_from (j + 1) rest q)
        → cond b (Some (record { cap = e.cap; kept = e.kept })) (get (entry_map rest) q) ≡ option_map named_of (cond b (Some (record { slot = j; entry = e })) (find_from (j + 1) rest q))
    by true later = refl
    by false later = later

-- what no slot has is not found
none_found : (j : ℕ) (slots : List Slot) (name : Name) → list_any (has_name name) slots ≡ false → find_from j slots name ≡ None
none_found j [] name e = refl
none_found j (Never ∷ rest) name e = none_found (j + 1) rest name e
none_found j (Gone ∷ rest) name e = none_found (j + 1) rest name e
none_found j (Used x ∷ rest) name e =
    let two = or_parts (same_name x.name name) (list_any (has_name name) rest) e in
    ap (λ (b : Bool). cond b (Some (record { slot = j; entry = x })) (find_from (j + 1) rest name)) two.0 ∙ none_found (j + 1) rest name two.1

-- the name of an entry is not among those of the later ones
later_new : (e : Entry) (rest : List Slot) → are_apart (Used e ∷ rest) ≡ true → (get (entry_map rest) e.name ≡ None) × (are_apart rest ≡ true)
later_new e rest apart =
    let two = and_parts (not (list_any (has_name e.name) rest)) (are_apart rest) apart in
    (entry_map-get 0 rest e.name ∙ ap (option_map named_of) (none_found 0 rest e.name (not-true (list_any (has_name e.name) rest) two.0)), two.1)

-- ---- how many

entry_map-len : (slots : List Slot) → are_apart slots ≡ true → len (entry_map slots) ≡ length (entries_in slots)
unfolding entry_map
entry_map-len [] apart = len-empty name_cmp Named
entry_map-len (Never ∷ rest) apart = entry_map-len rest apart
entry_map-len (Gone ∷ rest) apart = entry_map-len rest apart
entry_map-len (Used e ∷ rest) apart =
    let two = later_new e rest apart in
    len-insert name_cmp_total (entry_map rest) e.name (record { cap = e.cap; kept = e.kept })
    ∙ ap (λ (o : Option Named). cond (is_some o) (len (entry_map rest)) (len (entry_map rest) + 1)) two.0
    ∙ omega (arith, entry_map-len rest two.1)

-- ---- in which order

put_names : (k : Name) (v : Named) (es : List (Name × Named)) → maps.find name_cmp k es ≡ None → map (λ (e : Name × Named). e.0) (maps.put name_cmp k v es) ≡ among k (map (λ (e : Name × Named). e.0) es)
put_names k v [] none = refl
put_names k v (e ∷ es) none = by (name_cmp k e.0) none (put_names k v es)
  where
    by : (r : Ordering) → cond (is_eq r) (Some e.1) (maps.find name_cmp k es) ≡ None
        → (maps.find name_cmp k es ≡ None → map (λ (e : Name × Named). e.0) (maps.put name_cmp k v es) ≡ among k (map (λ (e : Name × Named). e.0) es))
        → map (λ (e : Name × Named). e.0) (by_order r ((k, v) ∷ e ∷ es) ((e.0, v) ∷ es) (e ∷ maps.put name_cmp k v es)) ≡ put_before r k e.0 (map (λ (e : Name × Named). e.0) es) (e.0 ∷ among k (map (λ (e : Name × Named). e.0) es))
    by Less is later = refl
    by Equal is later = absurd (none-some e.1 (sym is))
    by Greater is later = ap (λ (ns : List Name). e.0 ∷ ns) (later is)

entry_map-keys : (slots : List Slot) → are_apart slots ≡ true → keys (entry_map slots) ≡ names_of (entries_in slots)
unfolding entry_map
entry_map-keys [] apart = by (entries (empty {X = Named} {R = name_cmp})) (sym (len-entries (empty {X = Named} {R = name_cmp})) ∙ len-empty name_cmp Named)
  where
    by : (es : List (Name × Named)) → length es ≡ 0 → map (λ (e : Name × Named). e.0) es ≡ []
    by [] e = refl
    by (x ∷ rest) e = absurd (omega (arith, e))
entry_map-keys (Never ∷ rest) apart = entry_map-keys rest apart
entry_map-keys (Gone ∷ rest) apart = entry_map-keys rest apart
entry_map-keys (Used e ∷ rest) apart =
    let two = later_new e rest apart in
    let n : Named = record { cap = e.cap; kept = e.kept } in
    ap (map (λ (x : Name × Named). x.0)) (entries-insert name_cmp_total (entry_map rest) e.name n)
    ∙ put_names e.name n (entries (entry_map rest)) (sym (get-entries (entry_map rest) e.name) ∙ two.0)
    ∙ ap (among e.name) (entry_map-keys rest two.1)

-- ---- where there is room

entries_few : (slots : List Slot) → length (entries_in slots) ≤ length slots
entries_few [] = omega arith
entries_few (Never ∷ rest) = let later = entries_few rest in omega (arith, later)
entries_few (Gone ∷ rest) = let later = entries_few rest in omega (arith, later)
entries_few (Used e ∷ rest) = let later = entries_few rest in omega (arith, later)

all_used : (j : ℕ) (slots : List Slot) → free_from j slots ≡ None → length (entries_in slots) ≡ length slots
all_used j [] e = refl
all_used j (Never ∷ rest) e = absurd (none-some j (sym e))
all_used j (Gone ∷ rest) e = absurd (none-some j (sym e))
all_used j (Used x ∷ rest) e = ap suc (all_used (j + 1) rest e)

some_free : (j k : ℕ) (slots : List Slot) → free_from j slots ≡ Some k → length (entries_in slots) < length slots
some_free j k [] e = absurd (none-some k e)
some_free j k (Never ∷ rest) e = let few = entries_few rest in omega (arith, few)
some_free j k (Gone ∷ rest) e = let few = entries_few rest in omega (arith, few)
some_free j k (Used x ∷ rest) e = let later = some_free (j + 1) k rest e in omega (arith, later)

-- ---- a directory and its slots

-- no two of the first slots have one name, where no two of all have
any_front : (p : Slot → Bool) (n : ℕ) (all : List Slot) → list_any p all ≡ false → list_any p (take n all) ≡ false
any_front p zero all e = refl
any_front p (suc n) [] e = refl
any_front p (suc n) (x ∷ rest) e =
    let two = or_parts (p x) (list_any p rest) e in
    ap (λ (b : Bool). b || list_any p (take n rest)) two.0 ∙ any_front p n rest two.1

apart_front : (n : ℕ) (all : List Slot) → are_apart all ≡ true → are_apart (take n all) ≡ true
apart_front zero all e = refl
apart_front (suc n) [] e = refl
apart_front (suc n) (Never ∷ rest) e = apart_front n rest e
apart_front (suc n) (Gone ∷ rest) e = apart_front n rest e
apart_front (suc n) (Used x ∷ rest) e =
    let two = and_parts (not (list_any (has_name x.name) rest)) (are_apart rest) e in
    ap (λ (b : Bool). not b && are_apart (take n rest)) (any_front (has_name x.name) n rest (not-true (list_any (has_name x.name) rest) two.0)) ∙ apart_front n rest two.1

module _ (words : List Word) (d : Directory) (slots : List Slot) (long : length words ≡ MOST_WORDS) (holds : HoldsEntries words d) (is : decode words ≡ Some slots) where
  slots_apart : are_apart slots ≡ true
  slots_apart = let w = decoded words slots long is in ap are_apart w.is ∙ apart_front MOST_ENTRIES w.all w.apart

  map_is : entry_map slots ≡ d.names
  map_is = same_map name_cmp_total orders.same_name (entry_map slots) d.names (λ q. entry_map-get 0 slots q ∙ find_named words d slots holds is q)

  -- as many entries in slots as by name
  pub count_is : length (entries_in slots) ≡ len d.names
  count_is = sym (entry_map-len slots slots_apart) ∙ ap (λ (m : Names). len m) map_is

  -- the same names in the same order
  pub names_are : names_of (entries_in slots) ≡ keys d.names
  names_are = sym (entry_map-keys slots slots_apart) ∙ ap (λ (m : Names). keys m) map_is

  -- no entry at all
  pub none_is : no_entry (entries_in slots) ≡ eqb (len d.names) 0
  none_is = by (entries_in slots) count_is
    where
      by : (es : List Entry) → length es ≡ len d.names → no_entry es ≡ eqb (len d.names) 0
      by [] e = ap (λ (n : ℕ). eqb n 0) e
      by (x ∷ rest) e = let some : suc (length rest) ≡ len d.names = e in sym (ne_eqb (len d.names) 0 (λ none. absurd (omega (arith, some, none))))

  -- no slot for one more, or one
  pub full_is : slot_for slots ≡ None → nat_lt (len d.names) MOST_ENTRIES ≡ false
  full_is e =
      let count = count_is in
      let few = slots_few words slots long is in
      le-ltb (len d.names) MOST_ENTRIES (omega (arith, all_used 0 slots e))

  pub roomy_is : (k : ℕ) → slot_for slots ≡ Some k → nat_lt (len d.names) MOST_ENTRIES ≡ true
  roomy_is k e =
      let count = count_is in
      let few = slots_few words slots long is in
      lt-ltb (len d.names) MOST_ENTRIES (omega (arith, some_free 0 k slots e))

-- ---- walks

module _ (u : User) {y : System} {f : Flat} (h : StandsFor y f) (d : ℕ) (x : Directory) (live : at f.dirs d ≡ Some x) (slot : ℕ) (slots : List Slot) (r : HasRead y.levels.pages y.levels.segs x.rep slot slots) (name : Name) where
  found_named : option_map named_of (find slots name) ≡ named x name
  found_named = find_named _ x slots (rep_holds h d x live slot slots r) r.decodes name

  -- a name is looked up
  pub runs_named : (go : Found → Plan) (none : Plan) (res : Named → Outcome) (other : Outcome)
      → Runs none y.levels (Meets u y f other)
      → ((found : Found) → find slots name ≡ Some found → named x name ≡ Some (named_of found) → Runs (go found) y.levels (Meets u y f (res (named_of found))))
      → Runs (if_there (find slots name) none go) y.levels (Meets u y f (if_there (named x name) other res))
  runs_named go none res other no_entry rest = by (find slots name) refl
    where
      by : (o : Option Found) → find slots name ≡ o → Runs (if_there o none go) y.levels (Meets u y f (if_there (named x name) other res))
      by None e = subst (λ (q : Option Named). Runs none y.levels (Meets u y f (if_there q other res))) (sym (ap (option_map named_of) e) ∙ found_named) no_entry
      by (Some found) e =
          let is : Some (named_of found) ≡ named x name = sym (ap (option_map named_of) e) ∙ found_named in
          subst (λ (q : Option Named). Runs (go found) y.levels (Meets u y f (if_there q other res))) is (rest found e (sym is))

  -- a name is new, and there is a slot for it
  pub runs_room : (go : ℕ → Plan) (res : Outcome)
      → ((k : ℕ) → slot_for slots ≡ Some k → find slots name ≡ None → Runs (go k) y.levels (Meets u y f res))
      → Runs (parts.if_room (record { slot = slot; slots = slots }) name go) y.levels (Meets u y f (if_room x name res))
  runs_room go res rest = by (find slots name) refl
    where
      here : Option ℕ → Plan
      here o = if_there o (plans.refuse (Exhausted Entries)) go

      test : Bool → Outcome
      test b = if_holds b (refuse (Exhausted Entries)) res

      place : find slots name ≡ None → (o : Option ℕ) → slot_for slots ≡ o → Runs (here o) y.levels (Meets u y f (test (nat_lt (len x.names) MOST_ENTRIES)))
      place new None e = subst (λ (b : Bool). Runs (here None) y.levels (Meets u y f (test b))) (sym (full_is _ x slots (rep_taken h d x live slot slots r).1 (rep_holds h d x live slot slots r) r.decodes e)) (refused u h (Exhausted Entries))
      place new (Some k) e = subst (λ (b : Bool). Runs (here (Some k)) y.levels (Meets u y f (test b))) (sym (roomy_is _ x slots (rep_taken h d x live slot slots r).1 (rep_holds h d x live slot slots r) r.decodes k e)) (rest k e new)

      by : (o : Option Found) → find slots name ≡ o → Runs (if_none o (λ _. plans.refuse NameTaken) (here (slot_for slots))) y.levels (Meets u y f (if_none (named x name) (λ _. refuse NameTaken) (test (nat_lt (len x.names) MOST_ENTRIES))))
      by None e = subst (λ (q : Option Named). Runs (here (slot_for slots)) y.levels (Meets u y f (if_none q (λ _. refuse NameTaken) (test (nat_lt (len x.names) MOST_ENTRIES))))) (sym (ap (option_map named_of) e) ∙ found_named) (place e (slot_for slots) refl)
      by (Some found) e = subst (λ (q : Option Named). Runs (plans.refuse NameTaken) y.levels (Meets u y f (if_none q (λ _. refuse NameTaken) (test (nat_lt (len x.names) MOST_ENTRIES))))) (sym (ap (option_map named_of) e) ∙ found_named) (refused u h NameTaken)
