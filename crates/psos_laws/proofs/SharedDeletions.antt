-- A user object that is dropped and told of no more keeps what users share sound.
use Rattle.std.proofs.Common.{◌≡◌, ℕ, ◌≤◌, false, List, [], ◌∷◌, Option, Some, refl, sym, ap, subst, ◌∙◌, inl, inr, arith}
use Rattle.std.specs.Prelude.{IsSome, is_some}
use Rattle.std.specs.FinMap.{len, get, empty_of_len, get-empty}
use Rattle.std.proofs.lemmas.Bool.{cases_eq, false≢true}
use Rattle.std.proofs.lemmas.Option.{same_Some}
use Rattle.psos_limits.specs.declared.TheConstants.{MOST_WINDOWS}
use Rattle.psos_table.specs.Table.{Table, at, without, size}
use Rattle.psos_table.proofs.Tables.{at-without_here, at-without_apart, size-kept}
use Rattle.psos_text.specs.declared.name.Name.{Name}
use Rattle.psos_calls.specs.declared.kind.Kind.{Kind}
use Rattle.psos_calls.specs.declared.kind.Kind.TheVariants as kinds
use Rattle.psos_calls.specs.Language.Script.{Script}
use Rattle.psos_calls.specs.Language.User.{User}
use Rattle.psos_calls.specs.Language.Names.{name_cmp}
use Rattle.psos_calls.specs.Language.Views.{is_not_over}
use Rattle.psos_model.specs.declared.change.Change.TheVariants.{Unregister, DropSegment, DropType, DropObject, DropDirectory, DropCode}
use Rattle.psos_model.specs.Flat.{Flat, Object, Directory, Names}
use Rattle.psos_model.specs.Flat.Changes.{changed_all, windows_but, kept_entry}
use Rattle.psos_model.specs.Answer.Objects.{has_objects}
use Rattle.psos_model.specs.Sound.Kept.{entry_in}
use Rattle.psos_model.specs.Sound.Roles.{Role, IsUserObject, IsBootDirectory}
use Rattle.psos_laws.specs.SoundParts.{IsSoundShared}
use Rattle.psos_laws.proofs.SharedRows.{Rows, segment_gone_rows, object_gone_rows, type_gone_rows, code_gone_rows, directory_gone_rows}
use Rattle.psos_laws.proofs.Homes.{name_in}
use Rattle.psos_laws.proofs.RolesLife.{alike, alike_none, kind_of, user_kind, stays, stays_without, boots_on}
use Rattle.psos_laws.proofs.SharedParts.{Whole, Between, whole_raised, whole_unregister, shared_of}

-- a row that is gone is not there
gone : {X : Type 0} (t : Table X) (k : ℕ) → IsSome (at (without t k) k) → ⊥
gone t k h = false≢true (sym (ap is_some (at-without_here t k)) ∙ h)

-- ---- between the dropping and the end of the telling

module _ (s : Script) (role : ℕ → Role) (home : ℕ → ℕ × Name) (f : Flat) (w : Whole s role home f) (k : ℕ) where
  few_windows : (u : ℕ) → size (windows_but f u) ≤ MOST_WINDOWS
  few_windows u = omega (arith, size-kept (is_not_over u) f.windows, w.windows)

  user_of : (kind : Kind) → at f.life k ≡ Some kind → IsUserObject s role f k kind
  user_of kind told = (w.life k kind).0 told

  -- what is told of with a kind has no other kind later
  none_left : (g : Flat) → Rows s role g → (kind : Kind) → at f.life k ≡ Some kind → (IsUserObject s role g k kind → ⊥) → (j : Kind) → IsUserObject s role g k j → ⊥
  none_left g rows kind told no_more j x =
      let is : j ≡ kind = same_Some j kind (sym (user_kind s role g rows k j x) ∙ user_kind s role f w.rows k kind (user_of kind told)) in
      no_more (subst (λ (i : Kind). IsUserObject s role g k i) is x)

  record Dropped (g : Flat) : Type 0 where
    between : Between s role f g k
    none : (j : Kind) → IsUserObject s role g k j → ⊥

  segment_dropped : at f.life k ≡ Some kinds.Segment → Dropped (record f { segments = without f.segments k; windows = windows_but f k })
  segment_dropped told =
      let g : Flat = record f { segments = without f.segments k; windows = windows_but f k } in
      let rows = segment_gone_rows s role f w.rows k (user_of kinds.Segment told).1 in
      record {
        between = record {
          rows = rows;
          others = λ v off. alike s role f g v (record { segments = ap is_some (at-without_apart f.segments k v off); dirs = refl; types = refl; objects = refl; codes = refl });
          life = refl;
          boots = boots_on s f g (λ d x _ e. stays f.dirs d x e) (λ b h. h) w.boots;
          entries = λ d n. refl;
          windows = few_windows k;
        };
        none = none_left g rows kinds.Segment told (λ x. gone f.segments k x.0);
      }

  type_dropped : at f.life k ≡ Some kinds.Typ → has_objects f k ≡ false → Dropped (record f { types = without f.types k })
  type_dropped told unused =
      let g : Flat = record f { types = without f.types k } in
      let rows = type_gone_rows s role f w.rows k unused in
      record {
        between = record {
          rows = rows;
          others = λ v off. alike s role f g v (record { segments = refl; dirs = refl; types = ap is_some (at-without_apart f.types k v off); objects = refl; codes = refl });
          life = refl;
          boots = boots_on s f g (λ d x _ e. stays f.dirs d x e) (λ b h. h) w.boots;
          entries = λ d n. refl;
          windows = w.windows;
        };
        none = none_left g rows kinds.Typ told (λ x. gone f.types k x);
      }

  code_dropped : at f.life k ≡ Some kinds.Code → Dropped (record f { codes = without f.codes k })
  code_dropped told =
      let g : Flat = record f { codes = without f.codes k } in
      let rows = code_gone_rows s role f w.rows k in
      record {
        between = record {
          rows = rows;
          others = λ v off. alike s role f g v (record { segments = refl; dirs = refl; types = refl; objects = refl; codes = ap is_some (at-without_apart f.codes k v off) });
          life = refl;
          boots = boots_on s f g (λ d x _ e. stays f.dirs d x e) (λ b h. h) w.boots;
          entries = λ d n. refl;
          windows = w.windows;
        };
        none = none_left g rows kinds.Code told (λ x. gone f.codes k x);
      }

  object_dropped : at f.life k ≡ Some kinds.Object → (o : Object) → at f.objects k ≡ Some o
      → Dropped (record f { objects = without f.objects k; segments = without f.segments o.rep; windows = windows_but f o.rep })
  object_dropped told o is =
      let g : Flat = record f { objects = without f.objects k; segments = without f.segments o.rep; windows = windows_but f o.rep } in
      let rows = object_gone_rows s role f w.rows k o is in
      record {
        between = record {
          rows = rows;
          others = λ v off. elim (cases_eq v o.rep) [
            | inl same ↦ alike_none s role f g w.rows rows v (ap (λ (u : ℕ). kind_of (role u)) same ∙ ap kind_of (w.rows.objects k o is).part)
            | inr apart ↦ alike s role f g v (record {
              segments = ap is_some (at-without_apart f.segments o.rep v apart);
              dirs = refl;
              types = refl;
              objects = ap is_some (at-without_apart f.objects k v off);
              codes = refl;
            })
          ];
          life = refl;
          boots = boots_on s f g (λ d x _ e. stays f.dirs d x e) (λ b h. h) w.boots;
          entries = λ d n. refl;
          windows = few_windows o.rep;
        };
        none = none_left g rows kinds.Object told (λ x. gone f.objects k x);
      }

  directory_dropped : at f.life k ≡ Some kinds.Directory → (x : Directory) → at f.dirs k ≡ Some x → len x.names ≡ 0 → Dropped (record f { dirs = without f.dirs k })
  directory_dropped told x is bare =
      let g : Flat = record f { dirs = without f.dirs k } in
      let rows = directory_gone_rows s role f w.rows k in
      let no_boot : IsBootDirectory s k → ⊥ = (user_of kinds.Directory told).1 in
      record {
        between = record {
          rows = rows;
          others = λ v off. alike s role f g v (record { segments = refl; dirs = ap is_some (at-without_apart f.dirs k v off); types = refl; objects = refl; codes = refl });
          life = refl;
          boots = boots_on s f g (λ d y boot e. stays_without f.dirs k d y (λ same. no_boot (subst (IsBootDirectory s) same boot)) e) (λ b h. h) w.boots;
          entries = λ d n. elim (cases_eq d k) [
            | inl same ↦
                ap (λ (u : ℕ). name_in (at (without f.dirs k) u) n) same
                ∙ (ap (λ (o : Option Directory). name_in o n) (at-without_here f.dirs k)
                ∙ (sym (ap (λ (o : Option Directory). name_in o n) is ∙ (ap (λ (m : Names). get m n) (empty_of_len x.names bare) ∙ get-empty name_cmp n))
                ∙ ap (λ (u : ℕ). name_in (at f.dirs u) n) (sym same)))
            | inr apart ↦ ap (λ (o : Option Directory). name_in o n) (at-without_apart f.dirs k d apart)
          ];
          windows = w.windows;
        };
        none = none_left g rows kinds.Directory told (λ y. gone f.dirs k y.0);
      }

  -- its entry goes last
  ended : (g : Flat) (d : ℕ) (name : Name) → entry_in f d name ≡ Some (kept_entry k) → Dropped g → IsSoundShared s (changed_all g (Unregister k d name ∷ []))
  ended g d name there x = shared_of s role home (changed_all g (Unregister k d name ∷ [])) (whole_unregister s role home f g k w x.between d name there x.none)

-- ---- droppings, with other users

module _ (s : Script) (role : ℕ → Role) (home : ℕ → ℕ × Name) (before : Flat) (whole : Whole s role home before) (us : List User) (k d : ℕ) (name : Name) (there : entry_in before d name ≡ Some (kept_entry k)) where
  abbrev f : Flat
  f = record before { users = us }

  w : Whole s role home f
  w = whole_raised s role home before whole role home before.next us (omega arith) (λ v _. refl) (λ o _. refl)

  pub segment_gone_sound : at before.life k ≡ Some kinds.Segment → IsSoundShared s (record (changed_all before (DropSegment k ∷ Unregister k d name ∷ [])) { users = us })
  segment_gone_sound told = ended s role home f w k (record f { segments = without f.segments k; windows = windows_but f k }) d name there (segment_dropped s role home f w k told)

  pub type_gone_sound : at before.life k ≡ Some kinds.Typ → has_objects before k ≡ false → IsSoundShared s (record (changed_all before (DropType k ∷ Unregister k d name ∷ [])) { users = us })
  type_gone_sound told unused = ended s role home f w k (record f { types = without f.types k }) d name there (type_dropped s role home f w k told unused)

  pub code_gone_sound : at before.life k ≡ Some kinds.Code → IsSoundShared s (record (changed_all before (DropCode k ∷ Unregister k d name ∷ [])) { users = us })
  code_gone_sound told = ended s role home f w k (record f { codes = without f.codes k }) d name there (code_dropped s role home f w k told)

  pub object_gone_sound : at before.life k ≡ Some kinds.Object → (o : Object) → at before.objects k ≡ Some o → IsSoundShared s (record (changed_all before (DropObject k o.rep ∷ Unregister k d name ∷ [])) { users = us })
  object_gone_sound told o is =
      ended s role home f w k (record f { objects = without f.objects k; segments = without f.segments o.rep; windows = windows_but f o.rep }) d name there (object_dropped s role home f w k told o is)

  pub directory_gone_sound : at before.life k ≡ Some kinds.Directory → (x : Directory) → at before.dirs k ≡ Some x → len x.names ≡ 0 → IsSoundShared s (record (changed_all before (DropDirectory k ∷ Unregister k d name ∷ [])) { users = us })
  directory_gone_sound told x is bare = ended s role home f w k (record f { dirs = without f.dirs k }) d name there (directory_dropped s role home f w k told x is bare)
