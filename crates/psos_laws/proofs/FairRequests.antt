-- Each of the 25 requests has a fair outcome.
use Rattle.std.proofs.Common.{◌≡◌, ◌⊎◌, ℕ, ◌+◌, ◌<◌, ◌==◌, ◌^◌, true, not, List, [], ◌∷◌, length, slice_get, nat_lt, nat_le, Option, Some, None, option_map, option_and_then, refl, sym, ap, subst, ◌∙◌, inl, inr, arith}
use Rattle.std.specs.FinMap.{len}
use Rattle.std.proofs.lemmas.Bool.{eq-eqb, eqb-true}
use Rattle.std.proofs.lemmas.Option.{none-some}
use Rattle.psos_limits.specs.declared.TheConstants.{MOST_WINDOWS, MOST_CHARGE}
use Rattle.psos_table.specs.Table.{at, size}
use Rattle.psos_caps.specs.Capability.{Capability, full, restricted}
use Rattle.psos_text.specs.declared.name.Name.{Name}
use Rattle.psos_words.specs.declared.word.Word.{Word}
use Rattle.psos_words.specs.declared.word.Word.TheVariants.{Data, Cap}
use Rattle.psos_words.specs.Words.{word_at}
use Rattle.psos_words.specs.Guard.{missing, barred}
use Rattle.psos_calls.specs.declared.kind.Kind.{Kind}
use Rattle.psos_calls.specs.declared.kind.Kind.TheVariants as kinds
use Rattle.psos_calls.specs.declared.right.Right.TheVariants as rights
use Rattle.psos_calls.specs.declared.refusal.Refusal.TheVariants as refusals
use Rattle.psos_calls.specs.declared.tab.Tab.TheVariants.{Windows, Path, Mailbox, Frames, Requests}
use Rattle.psos_calls.specs.declared.request.Request.{Request}
use Rattle.psos_calls.specs.declared.request.Request.TheVariants as asks
use Rattle.psos_calls.specs.declared.code_row.CodeRow.{CodeRow}
use Rattle.psos_calls.specs.declared.win_row.WinRow.{WinRow}
use Rattle.psos_calls.specs.Language.Views.{View, fits_in, part_of}
use Rattle.psos_calls.specs.Language.Capabilities.{uid}
use Rattle.psos_calls.specs.Language.Stores.{is_length}
use Rattle.psos_calls.specs.Language.Rights.{has}
use Rattle.psos_calls.specs.Language.Tests.{if_there}
use Rattle.psos_calls.specs.Language.User.{User, here}
use Rattle.psos_model.specs.declared.place.Place.TheVariants.{PathAt, SegWord, DirName, BoxAt, Link, ImplOf}
use Rattle.psos_model.specs.Flat.{Flat, Object, Directory, Named, named, flat_view, words_of}
use Rattle.psos_model.specs.Flat.Places.{cap_in, is_own, guard_at, rep_cap, reg_place}
use Rattle.psos_model.specs.declared.change.Change.TheVariants.{Unregister}
use Rattle.psos_model.specs.Answer.Outcomes.{Source, own}
use Rattle.psos_model.specs.Answer.Objects.{has_objects, drops}
use Rattle.psos_model.specs.Answer.Processes.{received}
use Rattle.psos_model.specs.Answer.{outcome}
use Rattle.psos_model.proofs.OutcomeRules.{Refuses, by_cap, by_data, by_there, by_none, by_holds, by_view, by_dir, by_room, by_object_room, by_make, by_find}
use Rattle.psos_laws.specs.Landings.{lands, passed}
use Rattle.psos_laws.specs.Reads.{Contains, IsCopy, IsFirstMessage, HasRight, MayRead, MayWindow}
use Rattle.psos_laws.proofs.Landings.{same_cap}
use Rattle.psos_laws.proofs.StepLaws.{Fair, Ground, Lawful, IsNew, NewRep}
use Rattle.psos_laws.proofs.UnchangedPlaces.{cap_own}
use Rattle.psos_laws.proofs.FairRules.{contains_and, view_leads, view_guard, words_cap, is_mine, held_reg, own_copy, reader, in_reg, in_store, new_reg, new_store, not_rep, refused, word_goes}

module _ (f : Flat) (x : User) (is : slice_get f.users x.number ≡ Some x) (ground : Ground f) where
  no : Refuses (Fair f x)
  no = refused f x is

  -- ---- registers, segments and windows

  fair_mint : (rd : ℕ) → Fair f x (outcome f x (asks.Mint rd))
  fair_mint rd = record {
    short = refl;
    safe = (tt, ((λ p. refl), tt));
    lawful = (new_reg f x is (f.next + 1) rd f.next None (omega arith, omega arith), tt);
    windows = λ w y h. absurd h;
    objects = λ v y h. absurd h;
    dirs = λ d rep h. absurd h;
  }

  restricted_copy : (rs keep : ℕ) (c k : Capability) → word_at (here x) rs ≡ Cap c → Cap (restricted c keep) ≡ Cap k → IsCopy f x.number k (reg_place x x.frames rs) None
  restricted_copy rs keep c k e same =
      subst (λ k. IsCopy f x.number k (reg_place x x.frames rs) None) (same_cap (restricted c keep) k same)
      (record { old = c; held = held_reg f x is rs c e; same = refl; rights = contains_and c.rights keep; read = inl (is_mine f x is rs) })

  fair_read : (rd rs n : ℕ) → Fair f x (outcome f x (asks.Read rd rs n))
  fair_read rd rs n =
      by_cap no (word_at (here x) rs) _ (λ c e. by_view no f c rights.Read _ (λ v there may. by_holds no (nat_lt n v.len) refusals.Range _ (λ _.
      word_goes f x is rd (word_at (words_of f v.seg) (v.base + n)) _ (λ k same. record {
        old = k;
        held = words_cap f v.seg (v.base + n) ∙ ap cap_in same;
        same = refl;
        rights = λ j h. h;
        read = reader f x is rs c e rights.Read may (SegWord (uid v.seg) (v.base + n)) refl (view_leads f c.uid v (v.base + n) there);
      }))))

  fair_write : (rs n rv : ℕ) → Fair f x (outcome f x (asks.Write rs n rv))
  fair_write rs n rv =
      by_cap no (word_at (here x) rs) _ (λ c e. by_view no f c rights.Write _ (λ v there may. by_holds no (nat_lt n v.len) refusals.Range _ (λ _.
      by_none no (barred v.guard.0 (word_at (here x) rv)) refusals.Guarded _ (λ ok.
      record {
        short = refl;
        safe = (tt, ((λ p. refl), tt));
        lawful = (
          in_store f x is f.next (SegWord (uid v.seg) (v.base + n)) (word_at (here x) rv) _ v.guard.0 (view_guard f c.uid v (v.base + n) there)
              (λ k same. (inr (own_copy f x is rv k same), ap (barred v.guard.0) (sym same) ∙ ok)),
          tt,
        );
        windows = λ w y h. absurd h;
        objects = λ v y h. absurd h;
        dirs = λ d rep h. absurd h;
      }))))

  fair_window : (rd rs base span : ℕ) → Fair f x (outcome f x (asks.Window rd rs base span))
  fair_window rd rs base span =
      by_cap no (word_at (here x) rs) _ (λ c e. by_view no f c rights.Window _ (λ v there may. by_holds no (fits_in v base span) refusals.Range _ (λ _.
      by_holds no (nat_lt (size f.windows) MOST_WINDOWS) (refusals.Exhausted Windows) _ (λ _.
      record {
        short = refl;
        safe = (tt, ((λ p. refl), (tt, ((λ p. refl), tt))));
        lawful = (in_reg f x is (f.next + 1) rd _ None (λ k same. inl (subst (IsNew f (f.next + 1)) (same_cap (record { uid = f.next; rights = c.rights }) k same) (omega arith, omega arith))), tt);
        windows = λ w y h. made w y c v e may there h;
        objects = λ v y h. absurd h;
        dirs = λ d rep h. absurd h;
      }))))
    where
      overseen : (c : Capability) (v : View) → word_at (here x) rs ≡ Cap c → has c rights.Window ≡ true → flat_view f c.uid ≡ Some v → MayWindow f x.number v.seg
      overseen c v e may there = record { from = reg_place x x.frames rs; cap = c; own = is_mine f x is rs; held = held_reg f x is rs c e; allowed = may; leads = view_leads f c.uid v 0 there }

      made : (w : ℕ) (y : WinRow) (c : Capability) (v : View) → word_at (here x) rs ≡ Cap c → has c rights.Window ≡ true → flat_view f c.uid ≡ Some v
          → ((f.next ≡ w) × (part_of v base span ≡ y)) ⊎ ⊥ → (f.next ≡ w) × MayWindow f x.number y.seg.0
      made w y c v e may there (inl h) = (h.0, subst (λ (z : WinRow). MayWindow f x.number z.seg.0) h.1 (overseen c v e may there))
      made w y c v e may there (inr none) = absurd none

  -- ---- directories and name spaces

  dir_guard : (u : ℕ) (d : Directory) (name : Name) → at f.dirs u ≡ Some d → guard_at f (DirName (uid u) name) ≡ Some d.guard.0
  dir_guard u d name live = ap (option_map (λ (d : Directory). d.guard.0)) live

  -- what a name stands for, read in its directory
  entry_copy : (c : Capability) (d : Directory) (name : Name) (e : Named) (k : Capability) → at f.dirs c.uid ≡ Some d → named d name ≡ Some e → Cap e.cap ≡ Cap k
      → MayRead f x.number (DirName (uid c.uid) name) (Some rights.Lookup) → IsCopy f x.number k (DirName (uid c.uid) name) (Some rights.Lookup)
  entry_copy c d name e k live there same read = record {
    old = e.cap;
    held = ap (λ (o : Option Directory). option_and_then (λ (d : Directory). option_map (λ (e : Named). e.cap) (named d name)) o) live ∙ ap (option_map (λ (e : Named). e.cap)) there;
    same = ap (λ (z : Capability). z.uid) (same_cap e.cap k same);
    rights = subst (λ (z : Capability). Contains e.cap.rights z.rights) (same_cap e.cap k same) (λ j h. h);
    read = read;
  }

  fair_lookup : (rd rs : ℕ) (name : Name) → Fair f x (outcome f x (asks.Lookup rd rs name))
  fair_lookup rd rs name =
      by_cap no (word_at (here x) rs) _ (λ c e. by_dir no f c rights.Lookup _ (λ d live may. by_there no (named d name) refusals.UnknownName _ (λ en there.
      word_goes f x is rd (Cap en.cap) _ (λ k same. entry_copy c d name en k live there same (reader f x is rs c e rights.Lookup may (DirName (uid c.uid) name) refl refl)))))

  fair_bind : (rs : ℕ) (name : Name) (rv : ℕ) → Fair f x (outcome f x (asks.Bind rs name rv))
  fair_bind rs name rv =
      by_cap no (word_at (here x) rs) _ (λ c e. by_cap no (word_at (here x) rv) _ (λ value is_value. by_dir no f c rights.Bind _ (λ d live may.
      by_none no (barred d.guard.0 (Cap value)) refusals.Guarded _ (λ ok. by_room no d name _ (λ _ _.
      record {
        short = refl;
        safe = (tt, ((λ p. refl), tt));
        lawful = (
          in_store f x is f.next (DirName (uid c.uid) name) (Cap value) _ d.guard.0 (dir_guard c.uid d name live)
              (λ k same. (inr (own_copy f x is rv k (is_value ∙ same)), subst (λ (z : Capability). missing d.guard.0 z.rights ≡ None) (same_cap value k same) ok)),
          tt,
        );
        windows = λ w y h. absurd h;
        objects = λ v y h. absurd h;
        dirs = λ d rep h. absurd h;
      })))))

  fair_unbind : (rs : ℕ) (name : Name) → Fair f x (outcome f x (asks.Unbind rs name))
  fair_unbind rs name =
      by_cap no (word_at (here x) rs) _ (λ c e. by_dir no f c rights.Unbind _ (λ d live may. by_there no (named d name) refusals.UnknownName _ (λ en there.
      by_holds no (not en.kept) refusals.Distinguished _ (λ _.
      record { short = refl; safe = (tt, ((λ p. refl), tt)); lawful = tt; windows = λ w y h. absurd h; objects = λ v y h. absurd h; dirs = λ d rep h. absurd h }))))

  fair_list : (rs : ℕ) → Fair f x (outcome f x (asks.List rs))
  fair_list rs =
      by_cap no (word_at (here x) rs) _ (λ c e. by_dir no f c rights.List _ (λ d live may.
      record { short = refl; safe = tt; lawful = tt; windows = λ w y h. absurd h; objects = λ v y h. absurd h; dirs = λ d rep h. absurd h }))

  fair_path : (rs : ℕ) → Fair f x (outcome f x (asks.Path rs))
  fair_path rs =
      by_cap no (word_at (here x) rs) _ (λ c e. by_holds no (nat_lt (length x.path) 4) (refusals.Exhausted Path) _ (λ _. by_dir no f c rights.Lookup _ (λ d live may.
      record {
        short = refl;
        safe = tt;
        lawful = ((λ k same. record { from = inr (own_copy f x is rs k (e ∙ same)); admits = inl (eq-eqb x.number x.number refl) }), tt);
        windows = λ w y h. absurd h;
        objects = λ v y h. absurd h;
        dirs = λ d rep h. absurd h;
      })))

  -- in a directory of the name space
  from_path : (i : ℕ) (c : Capability) → slice_get x.path i ≡ Some c → has c rights.Lookup ≡ true → (name : Name) → MayRead f x.number (DirName (uid c.uid) name) (Some rights.Lookup)
  from_path i c there may name =
      let own : is_own (PathAt x.number i) x.number ≡ true = eq-eqb x.number x.number refl in
      let has_right : HasRight f x.number rights.Lookup (DirName (uid c.uid) name) =
      record { from = PathAt x.number i; cap = c; own = own; held = cap_own f x.number x (PathAt x.number i) is own ∙ there; allowed = may; leads = refl } in
      (refl, has_right)

  -- ---- user objects

  fair_impl : (rd rt ro : ℕ) → Fair f x (outcome f x (asks.Impl rd rt ro))
  fair_impl rd rt ro =
      by_cap no (word_at (here x) rt) _ (λ t e. by_cap no (word_at (here x) ro) _ (λ c _. by_there no (at f.types t.uid) (refusals.Absent kinds.Typ) _ (λ _ _.
      by_holds no (has t rights.Impl) (refusals.Lacks rights.Impl) _ (λ may. by_there no (at f.objects c.uid) (refusals.Absent kinds.Object) _ (λ o live.
      by_holds no (o.of == t.uid) refusals.WrongType _ (λ same.
      word_goes f x is rd (Cap (full o.rep)) _ (λ k word. subst (λ (z : Capability). IsCopy f x.number z (ImplOf (uid c.uid)) (Some rights.Impl)) (same_cap (full o.rep) k word)
      (record {
        old = full o.rep;
        held = ap (λ (z : Option Object). rep_cap z (at f.dirs c.uid)) live;
        same = refl;
        rights = λ j h. h;
        read = reader f x is rt t e rights.Impl may (ImplOf (uid c.uid)) refl (o, live, eqb-true o.of t.uid same);
      }))))))))

  -- the two landings of a new user object: in the register and in its directory
  new_object : (next rd : ℕ) (source : Option Source) (dir : Capability) (d : Directory) (name : Name) → at f.dirs dir.uid ≡ Some d → f.next < next
      → Lawful f next x.number (lands (reg_place x x.frames rd) (Cap (full f.next)) source) × Lawful f next x.number (lands (DirName (uid dir.uid) name) (Cap (full f.next)) None)
  new_object next rd source dir d name live le = (
    new_reg f x is next rd f.next source (omega arith, omega (arith, le)),
    new_store f x is next (DirName (uid dir.uid) name) f.next None d.guard.0 (dir_guard dir.uid d name live) (omega arith, omega (arith, le)),
  )

  fair_mkseg : (rd rs : ℕ) (name : Name) (size guard : ℕ) → Fair f x (outcome f x (asks.MkSeg rd rs name size guard))
  fair_mkseg rd rs name size guard =
      by_cap no (word_at (here x) rs) _ (λ c e. by_holds no (is_length size) refusals.Range _ (λ _. by_make no f c name _ (λ p.
      let both = new_object (f.next + 1) rd None c p.row name p.live (omega arith) in
      record {
        short = refl;
        safe = (omega arith, ((λ p. refl), (tt, ((λ p. refl), (tt, ((λ p. refl), tt))))));
        lawful = (both.0, (both.1, tt));
        windows = λ w y h. absurd h;
        objects = λ v y h. absurd h;
        dirs = λ d rep h. absurd h;
      })))

  fair_mktype : (rd rs : ℕ) (name : Name) → Fair f x (outcome f x (asks.MkType rd rs name))
  fair_mktype rd rs name =
      by_cap no (word_at (here x) rs) _ (λ c e. by_make no f c name _ (λ p.
      let both = new_object (f.next + 1) rd None c p.row name p.live (omega arith) in
      record {
        short = refl;
        safe = (tt, ((λ p. refl), (tt, ((λ p. refl), (tt, ((λ p. refl), tt))))));
        lawful = (both.0, (both.1, tt));
        windows = λ w y h. absurd h;
        objects = λ v y h. absurd h;
        dirs = λ d rep h. absurd h;
      }))

  -- the landing of a new representation
  new_rep : Lawful f (f.next + 1 + 1) x.number (lands (ImplOf (uid f.next)) (Cap (full (f.next + 1))) None)
  new_rep = new_store f x is (f.next + 1 + 1) (ImplOf (uid f.next)) (f.next + 1) None 1 refl (omega arith, omega arith)

  -- it lands at its own place alone
  rep_alone : (rd : ℕ) (source : Option Source) (dir : Capability) (name : Name) (v rep : ℕ) → f.next ≡ v → f.next + 1 ≡ rep
      → NewRep f (lands (reg_place x x.frames rd) (Cap (full f.next)) source ∷ lands (DirName (uid dir.uid) name) (Cap (full f.next)) None ∷ lands (ImplOf (uid f.next)) (Cap (full (f.next + 1))) None ∷ []) v rep
  rep_alone rd source dir name v rep same is_rep =
      let apart : f.next ≡ rep → ⊥ = λ e. omega (arith, e, is_rep) in
      record {
        new = omega (arith, is_rep);
        only = (not_rep f x is v rep f.next (reg_place x x.frames rd) source apart, (not_rep f x is v rep f.next (DirName (uid dir.uid) name) None apart, ((λ k e h. ap (λ (n : ℕ). ImplOf (record { 0 = n })) same), tt)));
      }

  fair_mkdir : (rd rs : ℕ) (name : Name) (guard : ℕ) → Fair f x (outcome f x (asks.MkDir rd rs name guard))
  fair_mkdir rd rs name guard =
      by_cap no (word_at (here x) rs) _ (λ c e. by_make no f c name _ (λ p.
      let both = new_object (f.next + 1 + 1) rd None c p.row name p.live (omega arith) in
      record {
        short = refl;
        safe = ((omega arith, ground.objects f.next (omega arith)), ((λ p. refl), (tt, ((λ p. refl), (tt, ((λ p. refl), (tt, ((λ p. refl), tt))))))));
        lawful = (both.0, (both.1, (new_rep, tt)));
        windows = λ w y h. absurd h;
        objects = λ v y h. absurd h;
        dirs = λ v rep h. made c v rep h;
      }))
    where
      made : (c : Capability) (v rep : ℕ) → ((f.next ≡ v) × (f.next + 1 ≡ rep)) ⊎ ⊥
          → NewRep f (lands (reg_place x x.frames rd) (Cap (full f.next)) None ∷ lands (DirName (uid c.uid) name) (Cap (full f.next)) None ∷ lands (ImplOf (uid f.next)) (Cap (full (f.next + 1))) None ∷ []) v rep
      made c v rep (inl h) = rep_alone rd None c name v rep h.0 h.1
      made c v rep (inr none) = absurd none

  fair_mkobj : (rd rt rs : ℕ) (name : Name) (size : ℕ) → Fair f x (outcome f x (asks.MkObj rd rt rs name size))
  fair_mkobj rd rt rs name size =
      by_cap no (word_at (here x) rt) _ (λ t _. by_cap no (word_at (here x) rs) _ (λ c e. by_holds no (is_length size) refusals.Range _ (λ _.
      by_object_room no f _ (λ _. by_dir no f c rights.Create _ (λ d live _. by_there no (at f.types t.uid) (refusals.Absent kinds.Typ) _ (λ _ _.
      by_holds no (has t rights.Make) (refusals.Lacks rights.Make) _ (λ _. by_room no d name _ (λ _ _.
      let both = new_object (f.next + 1 + 1) rd None c d name live (omega arith) in
      record {
        short = refl;
        safe = (omega arith, ((λ p. refl), (tt, ((λ p. refl), (tt, ((λ p. refl), (tt, ((λ p. refl), tt))))))));
        lawful = (both.0, (both.1, (new_rep, tt)));
        windows = λ w y h. absurd h;
        dirs = λ v rep h. absurd h;
        objects = λ v y h. made t c v y h;
      }))))))))
    where
      made : (t c : Capability) (v : ℕ) (y : Object) → ((f.next ≡ v) × (record { of = t.uid; rep = f.next + 1 } ≡ y)) ⊎ ⊥
          → NewRep f (lands (reg_place x x.frames rd) (Cap (full f.next)) None ∷ lands (DirName (uid c.uid) name) (Cap (full f.next)) None ∷ lands (ImplOf (uid f.next)) (Cap (full (f.next + 1))) None ∷ []) v y.rep
      made t c v y (inl h) = rep_alone rd None c name v y.rep h.0 (ap (λ (z : Object). z.rep) h.1)
      made t c v y (inr none) = absurd none

  fair_mkcode : (rd rs : ℕ) (name : Name) (label rl : ℕ) → Fair f x (outcome f x (asks.MkCode rd rs name label rl))
  fair_mkcode rd rs name label rl =
      by_cap no (word_at (here x) rs) _ (λ c e. by_none no (barred 1 (word_at (here x) rl)) refusals.Guarded _ (λ ok. by_make no f c name _ (λ p.
      let both = new_object (f.next + 1) rd (own (reg_place x x.frames rl)) c p.row name p.live (omega arith) in
      record {
        short = refl;
        safe = (tt, ((λ p. refl), (tt, ((λ p. refl), (tt, ((λ p. refl), tt))))));
        lawful = (
          both.0,
          (
            both.1,
            (
              in_store f x is (f.next + 1) (Link (uid f.next)) (word_at (here x) rl) (own (reg_place x x.frames rl)) 1 refl
                  (λ k same. (inr (own_copy f x is rl k same), ap (barred 1) (sym same) ∙ ok)),
              tt,
            ),
          ),
        );
        windows = λ w y h. absurd h;
        objects = λ v y h. absurd h;
        dirs = λ d rep h. absurd h;
      })))

  fair_drops : (kind : Kind) (u dir : ℕ) (name : Name) → Fair f x (drops f kind u (Unregister u dir name ∷ []))
  fair_drops kinds.Segment u dir name =
      record { short = refl; safe = (tt, ((λ p. refl), (tt, ((λ p. refl), tt)))); lawful = tt; windows = λ w y h. absurd h; objects = λ v y h. absurd h; dirs = λ d rep h. absurd h }
  fair_drops kinds.Directory u dir name =
      by_there no (at f.dirs u) _ _ (λ d _. by_holds no (len d.names == 0) _ _ (λ _.
      record { short = refl; safe = (tt, ((λ p. refl), (tt, ((λ p. refl), tt)))); lawful = tt; windows = λ w y h. absurd h; objects = λ v y h. absurd h; dirs = λ d rep h. absurd h }))
  fair_drops kinds.Typ u dir name =
      by_holds no (not (has_objects f u)) _ _ (λ _.
      record { short = refl; safe = (tt, ((λ p. refl), (tt, ((λ p. refl), tt)))); lawful = tt; windows = λ w y h. absurd h; objects = λ v y h. absurd h; dirs = λ d rep h. absurd h })
  fair_drops kinds.Object u dir name =
      by_there no (at f.objects u) _ _ (λ o live.
      record { short = refl; safe = (ground.apart u o live, ((λ p. refl), (tt, ((λ p. refl), tt)))); lawful = tt; windows = λ w y h. absurd h; objects = λ v y h. absurd h; dirs = λ d rep h. absurd h })
  fair_drops kinds.Code u dir name =
      record { short = refl; safe = (tt, ((λ p. refl), (tt, ((λ p. refl), tt)))); lawful = tt; windows = λ w y h. absurd h; objects = λ v y h. absurd h; dirs = λ d rep h. absurd h }
  fair_drops kinds.Process u dir name = no.refused refusals.NotDistinguished

  fair_delete : (rs : ℕ) (name : Name) → Fair f x (outcome f x (asks.Delete rs name))
  fair_delete rs name =
      by_cap no (word_at (here x) rs) _ (λ c e. by_dir no f c rights.Delete _ (λ d live may. by_there no (named d name) refusals.UnknownName _ (λ en there.
      by_holds no en.kept refusals.NotDistinguished _ (λ _. by_there no (at f.life en.cap.uid) refusals.NotDistinguished _ (λ kind _. fair_drops kind en.cap.uid c.uid name)))))

  -- ---- processes and procedure records

  fair_send : (rp rv : ℕ) → Fair f x (outcome f x (asks.Send rp rv))
  fair_send rp rv =
      by_cap no (word_at (here x) rp) _ (λ c e. by_there no (at f.boxes c.uid) (refusals.Absent kinds.Process) _ (λ box live. by_holds no (has c rights.Send) (refusals.Lacks rights.Send) _ (λ _.
      by_none no (barred 1 (word_at (here x) rv)) refusals.Guarded _ (λ ok. by_holds no (nat_lt (length box) 8) (refusals.Exhausted Mailbox) _ (λ _.
      record {
        short = refl;
        safe = (tt, ((λ p. refl), tt));
        lawful = (
          in_store f x is f.next (BoxAt (uid c.uid) (if_there (at f.boxes c.uid) 0 (λ box. length box))) (word_at (here x) rv) (own (reg_place x x.frames rv)) 1 refl
              (λ k same. (inr (own_copy f x is rv k same), ap (barred 1) (sym same) ∙ ok)),
          tt,
        );
        windows = λ w y h. absurd h;
        objects = λ v y h. absurd h;
        dirs = λ d rep h. absurd h;
      })))))

  first_copy : (w : Word) (rest : List Word) (k : Capability) → at f.boxes x.process ≡ Some (w ∷ rest) → w ≡ Cap k → IsCopy f x.number k (BoxAt (uid x.process) 0) None
  first_copy w rest k live same =
      let first : IsFirstMessage f x.number (BoxAt (uid x.process) 0) = (x, is, refl) in
      record { old = k; held = ap (option_and_then (λ (box : List Word). cap_in (word_at box 0))) live ∙ ap cap_in same; same = refl; rights = λ j h. h; read = inr first }

  fair_received : (rd : ℕ) (box : List Word) → at f.boxes x.process ≡ Some box → Fair f x (received x.process rd box)
  fair_received rd [] live = no.refused refusals.Empty
  fair_received rd (w ∷ rest) live = record {
    short = refl;
    safe = (tt, ((λ p. refl), tt));
    lawful = (in_reg f x is f.next rd w (own (BoxAt (uid x.process) 0)) (λ k same. inr (first_copy w rest k live same)), tt);
    windows = λ w y h. absurd h;
    objects = λ v y h. absurd h;
    dirs = λ d rep h. absurd h;
  }

  arg : (i : ℕ) → Lawful f f.next x.number (passed x i)
  arg i c e = record { from = inr (own_copy f x is i c e); admits = inl (eq-eqb x.number x.number refl) }

  fair_call : (rp : ℕ) → Fair f x (outcome f x (asks.Call rp))
  fair_call rp =
      by_cap no (word_at (here x) rp) _ (λ c e. by_holds no (nat_lt (length x.frames) 4) (refusals.Exhausted Frames) _ (λ _.
      by_holds no (nat_le (x.charge + 16) MOST_CHARGE) (refusals.Exhausted Requests) _ (λ _. by_there no (at f.codes c.uid) (refusals.Absent kinds.Code) _ (λ code live.
      by_holds no (has c rights.Enter) (refusals.Lacks rights.Enter) _ (λ may.
      record {
        short = refl;
        safe = tt;
        lawful = ((λ k same. record { from = inr (link_copy c e may code live k same); admits = inl (eq-eqb x.number x.number refl) }), (arg 7, (arg 6, (arg 5, (arg 4, tt)))));
        windows = λ w y h. absurd h;
        objects = λ v y h. absurd h;
        dirs = λ d rep h. absurd h;
      })))))
    where
      link_copy : (c : Capability) → word_at (here x) rp ≡ Cap c → has c rights.Enter ≡ true → (code : CodeRow) → at f.codes c.uid ≡ Some code → (k : Capability) → code.link ≡ Cap k
          → IsCopy f x.number k (Link (uid c.uid)) (Some rights.Enter)
      link_copy c e may code live k same = record {
        old = k;
        held = ap (option_and_then (λ (y : CodeRow). cap_in y.link)) live ∙ ap cap_in same;
        same = refl;
        rights = λ j h. h;
        read = reader f x is rp c e rights.Enter may (Link (uid c.uid)) refl refl;
      }

  -- ---- all

  pub fair : (r : Request) → Fair f x (outcome f x r)
  fair (asks.Mint rd) = fair_mint rd
  fair (asks.Restrict rd rs keep) =
      by_cap no (word_at (here x) rs) _ (λ c e. word_goes f x is rd (Cap (restricted c keep.0)) _ (λ k same. restricted_copy rs keep.0 c k e same))
  fair (asks.Set rd n) = word_goes f x is rd (Data n) None (λ k same. absurd (none-some k (ap cap_in same)))
  fair (asks.Move rd rs) = word_goes f x is rd (word_at (here x) rs) _ (λ k same. own_copy f x is rs k same)
  fair (asks.Add rd ra rb) =
      by_data no (word_at (here x) ra) _ (λ a. by_data no (word_at (here x) rb) _ (λ b. by_holds no (nat_lt (a + b) (2 ^ 64)) refusals.Overflow _ (λ _.
      word_goes f x is rd (Data (a + b)) None (λ k same. absurd (none-some k (ap cap_in same))))))
  fair (asks.Read rd rs n) = fair_read rd rs n
  fair (asks.Write rs n rv) = fair_write rs n rv
  fair (asks.Window rd rs base span) = fair_window rd rs base span
  fair (asks.Length rd rs) =
      by_cap no (word_at (here x) rs) _ (λ c _. by_view no f c rights.Read _ (λ v _ _. word_goes f x is rd (Data v.len) None (λ k same. absurd (none-some k (ap cap_in same)))))
  fair (asks.Lookup rd rs name) = fair_lookup rd rs name
  fair (asks.Bind rs name rv) = fair_bind rs name rv
  fair (asks.Unbind rs name) = fair_unbind rs name
  fair (asks.List rs) = fair_list rs
  fair (asks.Impl rd rt ro) = fair_impl rd rt ro
  fair (asks.MkSeg rd rs name size guard) = fair_mkseg rd rs name size guard
  fair (asks.MkDir rd rs name guard) = fair_mkdir rd rs name guard
  fair (asks.MkType rd rs name) = fair_mktype rd rs name
  fair (asks.MkObj rd rt rs name size) = fair_mkobj rd rt rs name size
  fair (asks.MkCode rd rs name label rl) = fair_mkcode rd rs name label rl
  fair (asks.Delete rs name) = fair_delete rs name
  fair (asks.Send rp rv) = fair_send rp rv
  fair (asks.Recv rd) = by_there no (at f.boxes x.process) refusals.Empty _ (λ box live. fair_received rd box live)
  fair (asks.Call rp) = fair_call rp
  fair (asks.Path rs) = fair_path rs
  fair (asks.Find rd name) =
      by_find no f rd name x.path (λ i dir at_i d live may e there.
      word_goes f x is rd (Cap e.cap) _ (λ k same. entry_copy dir d name e k live there same (from_path i dir at_i may name)))
