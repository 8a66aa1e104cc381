-- A user object that is made and told of keeps what users share sound.
use Rattle.std.proofs.Common.{◌≡◌, ℕ, ◌+◌, ◌<◌, ◌≤◌, true, cond, eqb, List, [], ◌∷◌, length, Option, Some, None, refl, sym, ap, ◌∙◌, inl, inr, arith}
use Rattle.std.specs.Prelude.{IsSome, is_some}
use Rattle.std.specs.FinMap.{empty, get-empty}
use Rattle.std.proofs.lemmas.Bool.{cases_eq, false≢true, eq-eqb, ne_eqb}
use Rattle.psos_limits.specs.declared.TheConstants.{MOST_WORDS}
use Rattle.psos_table.specs.Table.{Table, at, put, size}
use Rattle.psos_table.proofs.Tables.{at-put_here, at-put_apart}
use Rattle.psos_caps.specs.declared.rights.Rights.{Rights}
use Rattle.psos_text.specs.declared.name.Name.{Name}
use Rattle.psos_calls.specs.declared.kind.Kind.{Kind}
use Rattle.psos_calls.specs.declared.kind.Kind.TheVariants as kinds
use Rattle.psos_calls.specs.declared.code_row.CodeRow.{CodeRow}
use Rattle.psos_calls.specs.Language.Script.{Script}
use Rattle.psos_calls.specs.Language.User.{User}
use Rattle.psos_calls.specs.Language.Names.{name_cmp}
use Rattle.psos_model.specs.declared.change.Change.TheVariants.{Fresh, Register, MakeSegment, MakeType, MakeObject, MakeDirectory, MakeCode}
use Rattle.psos_model.specs.Flat.{Flat, Object, Directory}
use Rattle.psos_model.specs.Flat.Changes.{changed_all, new_segment}
use Rattle.psos_model.specs.Sound.Roles.{Role, PartOf, HiddenIn, IsUserObject, IsBootDirectory}
use Rattle.psos_model.specs.Sound.Roles as roles
use Rattle.psos_model.specs.Sound.Rows.{IsGuard}
use Rattle.psos_model.proofs.OutcomeRules.{HasPlace}
use Rattle.psos_laws.specs.SoundParts.{IsSoundShared}
use Rattle.psos_laws.proofs.SharedRows.{segment_rows, type_rows, object_rows, directory_rows, code_rows}
use Rattle.psos_laws.proofs.Homes.{name_in}
use Rattle.psos_laws.proofs.RolesLife.{alike, alike_none, kind_of, stays, stays_put, boots_on, boot_below, user_below}
use Rattle.psos_laws.proofs.SharedParts.{Whole, Between, whole_raised, whole_register, shared_of}

-- ---- between the making and the telling

module _ (s : Script) (role : ℕ → Role) (home : ℕ → ℕ × Name) (f : Flat) (w : Whole s role home f) where
  made_segment : (k size : ℕ) (guard : Rights) → at f.segments k ≡ None → k < f.next → role k ≡ roles.Segment → 1 ≤ size → size ≤ MOST_WORDS → IsGuard guard.0
      → Between s role f (record f { segments = put f.segments k (new_segment size guard) }) k
  made_segment k size guard none below is some few good =
      let g : Flat = record f { segments = put f.segments k (new_segment size guard) } in
      record {
        rows = segment_rows s role f w.rows k size guard none below is some few good;
        others = λ v off. alike s role f g v (record { segments = ap is_some (at-put_apart f.segments k (new_segment size guard) v off); dirs = refl; types = refl; objects = refl; codes = refl });
        life = refl;
        boots = boots_on s f g (λ d x _ e. stays f.dirs d x e) (λ b h. h) w.boots;
        entries = λ d n. refl;
        windows = w.windows;
      }

  made_type : (k : ℕ) → k < f.next → role k ≡ roles.Typ → Between s role f (record f { types = put f.types k true }) k
  made_type k below is =
      let g : Flat = record f { types = put f.types k true } in
      record {
        rows = type_rows s role f w.rows k below is;
        others = λ v off. alike s role f g v (record { segments = refl; dirs = refl; types = ap is_some (at-put_apart f.types k true v off); objects = refl; codes = refl });
        life = refl;
        boots = boots_on s f g (λ d x _ e. stays f.dirs d x e) (λ b h. h) w.boots;
        entries = λ d n. refl;
        windows = w.windows;
      }

  made_code : (k : ℕ) (c : CodeRow) → k < f.next → role k ≡ roles.Code → c.label < length s.codes → Between s role f (record f { codes = put f.codes k c }) k
  made_code k c below is label =
      let g : Flat = record f { codes = put f.codes k c } in
      record {
        rows = code_rows s role f w.rows k c below is label;
        others = λ v off. alike s role f g v (record { segments = refl; dirs = refl; types = refl; objects = refl; codes = ap is_some (at-put_apart f.codes k c v off) });
        life = refl;
        boots = boots_on s f g (λ d x _ e. stays f.dirs d x e) (λ b h. h) w.boots;
        entries = λ d n. refl;
        windows = w.windows;
      }

  made_object : (k : ℕ) (o : Object) (size : ℕ) → at f.objects k ≡ None → at f.segments o.rep ≡ None → k < f.next → o.rep < f.next → role k ≡ roles.Object → role o.rep ≡ PartOf k
      → IsSome (at f.types o.of) → 1 ≤ size → size ≤ MOST_WORDS → IsGuard 1
      → Between s role f (record f { objects = put f.objects k o; segments = put f.segments o.rep (new_segment size (record { 0 = 1 })) }) k
  made_object k o size no_object no_segment below rep_below is part typ some few good =
      let g : Flat = record f { objects = put f.objects k o; segments = put f.segments o.rep (new_segment size (record { 0 = 1 })) } in
      let rows = object_rows s role f w.rows k o size no_object no_segment below rep_below is part typ some few good in
      record {
        rows = rows;
        others = λ v off. elim (cases_eq v o.rep) [
          | inl same ↦ alike_none s role f g w.rows rows v (ap (λ (u : ℕ). kind_of (role u)) same ∙ ap kind_of part)
          | inr apart ↦ alike s role f g v (record {
            segments = ap is_some (at-put_apart f.segments o.rep (new_segment size (record { 0 = 1 })) v apart);
            dirs = refl;
            types = refl;
            objects = ap is_some (at-put_apart f.objects k o v off);
            codes = refl;
          })
        ];
        life = refl;
        boots = boots_on s f g (λ d x _ e. stays f.dirs d x e) (λ b h. h) w.boots;
        entries = λ d n. refl;
        windows = w.windows;
      }

  made_directory : (k rep : ℕ) (guard : Rights) → at f.dirs k ≡ None → k < f.next → role k ≡ roles.Directory → rep < f.next → role rep ≡ HiddenIn k → IsGuard guard.0
      → Between s role f (record f { dirs = put f.dirs k (record { guard = guard; rep = rep; names = empty }) }) k
  made_directory k rep guard none below is rep_below hidden good =
      let x : Directory = record { guard = guard; rep = rep; names = empty } in
      let g : Flat = record f { dirs = put f.dirs k x } in
      record {
        rows = directory_rows s role f w.rows k rep guard below is rep_below hidden good;
        others = λ v off. alike s role f g v (record { segments = refl; dirs = ap is_some (at-put_apart f.dirs k x v off); types = refl; objects = refl; codes = refl });
        life = refl;
        boots = boots_on s f g (λ d y _ e. stays_put f.dirs k x none d y e) (λ b h. h) w.boots;
        entries = λ d n. elim (cases_eq d k) [
          | inl same ↦
              ap (λ (u : ℕ). name_in (at (put f.dirs k x) u) n) same
              ∙ (ap (λ (o : Option Directory). name_in o n) (at-put_here f.dirs k x) ∙ (get-empty name_cmp n ∙ (ap (λ (o : Option Directory). name_in o n) (sym none) ∙ ap (λ (u : ℕ). name_in (at f.dirs u) n) (sym same))))
          | inr apart ↦ ap (λ (o : Option Directory). name_in o n) (at-put_apart f.dirs k x d apart)
        ];
        windows = w.windows;
      }

-- ---- roles and homes of new identifiers

-- a value of its own for one number
abbrev pub with_at : {X : Type 0} → (ℕ → X) → ℕ → X → ℕ → X
with_at old k x v = cond (eqb v k) x (old v)

pub with_at_here : {X : Type 0} (old : ℕ → X) (k : ℕ) (x : X) → with_at old k x k ≡ x
with_at_here old k x = ap (λ b. cond b x (old k)) (eq-eqb k k refl)

pub with_at_apart : {X : Type 0} (old : ℕ → X) (k : ℕ) (x : X) (v : ℕ) → (v ≡ k → ⊥) → with_at old k x v ≡ old v
with_at_apart old k x v off = ap (λ b. cond b x (old v)) (ne_eqb v k off)

-- ---- what a request that makes has seen

-- a row that is not there
absent : {X : Type 0} (n : ℕ) (t : Table X) → ((u : ℕ) (x : X) → at t u ≡ Some x → u < n) → (k : ℕ) → n ≤ k → at t k ≡ None
absent {X} n t below k le = by_row (at t k) refl
  where
    by_row : (o : Option X) → at t k ≡ o → at t k ≡ None
    by_row None is = is
    by_row (Some x) is = absurd (omega (arith, below k x is, le))

module _ (s : Script) (role : ℕ → Role) (home : ℕ → ℕ × Name) (f : Flat) (w : Whole s role home f) (d : ℕ) (name : Name) (p : HasPlace f d name) (us : List User) where
  -- the next identifier is not told of
  new_life : at f.life f.next ≡ None
  new_life = absent f.next f.life (λ u k is. user_below s role f w.rows role u k ((w.life u k).0 is)) f.next (omega arith)

  no_boot : IsBootDirectory s f.next → ⊥
  no_boot is = omega (arith, boot_below s role f w.rows w.boots f.next is)

  abbrev homes : ℕ → ℕ × Name
  homes = with_at home f.next (d, name)

  at_home : (o : ℕ) → IsSome (at f.life o) → homes o ≡ home o
  at_home o live = with_at_apart home f.next (d, name) o (λ same. false≢true (sym (ap is_some new_life) ∙ (ap (λ (u : ℕ). is_some (at f.life u)) (sym same) ∙ live)))

  -- one new identifier
  abbrev one : Role → ℕ → Role
  one new = with_at role f.next new

  abbrev next_1 : Flat
  next_1 = record f { next = f.next + 1; users = us }

  whole_1 : (new : Role) → Whole s (one new) homes next_1
  whole_1 new = whole_raised s role home f w (one new) homes (f.next + 1) us (omega arith) (λ v below. with_at_apart role f.next new v (λ same. omega (arith, below, same))) at_home

  told_1 : (new : Role) (g : Flat) (kind : Kind) → at g.dirs d ≡ Some p.row → kind_of new ≡ Some kind → Between s (one new) next_1 g f.next → IsUserObject s (one new) g f.next kind
      → IsSoundShared s (changed_all g (Register f.next d name kind ∷ []))
  told_1 new g kind live is b object =
      shared_of s (one new) homes (changed_all g (Register f.next d name kind ∷ []))
      (whole_register s (one new) homes next_1 g f.next (whole_1 new) b d name kind p.row live p.none p.room p.few new_life (with_at_here home f.next (d, name)) (ap kind_of (with_at_here role f.next new) ∙ is) object)

  pub mkseg_sound : (size : ℕ) (guard : Rights) → 1 ≤ size → size ≤ MOST_WORDS → IsGuard guard.0
      → IsSoundShared s (record (changed_all f (MakeSegment f.next size guard ∷ Register f.next d name kinds.Segment ∷ Fresh ∷ [])) { users = us })
  mkseg_sound size guard some few good =
      let role_1 = with_at_here role f.next roles.Segment in
      let none = absent f.next f.segments (λ u x e. (w.rows.segments u x e).below) f.next (omega arith) in
      told_1 roles.Segment (record next_1 { segments = put f.segments f.next (new_segment size guard) }) kinds.Segment p.live refl
      (made_segment s (one roles.Segment) homes next_1 (whole_1 roles.Segment) f.next size guard none (omega arith) role_1 some few good)
      (ap is_some (at-put_here f.segments f.next (new_segment size guard)), role_1)

  pub mktype_sound : IsSoundShared s (record (changed_all f (MakeType f.next ∷ Register f.next d name kinds.Typ ∷ Fresh ∷ [])) { users = us })
  mktype_sound =
      told_1 roles.Typ (record next_1 { types = put f.types f.next true }) kinds.Typ p.live refl
      (made_type s (one roles.Typ) homes next_1 (whole_1 roles.Typ) f.next (omega arith) (with_at_here role f.next roles.Typ))
      (ap is_some (at-put_here f.types f.next true))

  pub mkcode_sound : (c : CodeRow) → c.label < length s.codes → IsSoundShared s (record (changed_all f (MakeCode f.next c ∷ Register f.next d name kinds.Code ∷ Fresh ∷ [])) { users = us })
  mkcode_sound c label =
      told_1 roles.Code (record next_1 { codes = put f.codes f.next c }) kinds.Code p.live refl
      (made_code s (one roles.Code) homes next_1 (whole_1 roles.Code) f.next c (omega arith) (with_at_here role f.next roles.Code) label)
      (ap is_some (at-put_here f.codes f.next c))

  -- two new identifiers: that of the thing, and that of its representation
  abbrev two : Role → Role → ℕ → Role
  two new rep = with_at (with_at role f.next new) (f.next + 1) rep

  abbrev next_2 : Flat
  next_2 = record f { next = f.next + 1 + 1; users = us }

  role_first : (new rep : Role) → two new rep f.next ≡ new
  role_first new rep = with_at_apart (one new) (f.next + 1) rep f.next (λ same. omega (arith, same)) ∙ with_at_here role f.next new

  role_second : (new rep : Role) → two new rep (f.next + 1) ≡ rep
  role_second new rep = with_at_here (one new) (f.next + 1) rep

  whole_2 : (new rep : Role) → Whole s (two new rep) homes next_2
  whole_2 new rep = whole_raised s role home f w (two new rep) homes (f.next + 1 + 1) us (omega arith)
      (λ v below. with_at_apart (one new) (f.next + 1) rep v (λ same. omega (arith, below, same)) ∙ with_at_apart role f.next new v (λ same. omega (arith, below, same))) at_home

  told_2 : (new rep : Role) (g : Flat) (kind : Kind) → at g.dirs d ≡ Some p.row → kind_of new ≡ Some kind → Between s (two new rep) next_2 g f.next → IsUserObject s (two new rep) g f.next kind
      → IsSoundShared s (changed_all g (Register f.next d name kind ∷ []))
  told_2 new rep g kind live is b object =
      shared_of s (two new rep) homes (changed_all g (Register f.next d name kind ∷ []))
      (whole_register s (two new rep) homes next_2 g f.next (whole_2 new rep) b d name kind p.row live p.none p.room p.few new_life (with_at_here home f.next (d, name)) (ap kind_of (role_first new rep) ∙ is) object)

  pub mkobj_sound : (of size : ℕ) → IsSome (at f.types of) → 1 ≤ size → size ≤ MOST_WORDS
      → IsSoundShared s (record (changed_all f (MakeObject f.next (record { of = of; rep = f.next + 1 }) size ∷ Register f.next d name kinds.Object ∷ Fresh ∷ Fresh ∷ [])) { users = us })
  mkobj_sound of size typ some few =
      let o : Object = record { of = of; rep = f.next + 1 } in
      let rep : Role = PartOf f.next in
      let no_object = absent f.next f.objects (λ u x e. (w.rows.objects u x e).below) f.next (omega arith) in
      let no_segment = absent f.next f.segments (λ u x e. (w.rows.segments u x e).below) (f.next + 1) (omega arith) in
      told_2 roles.Object rep (record next_2 { objects = put f.objects f.next o; segments = put f.segments (f.next + 1) (new_segment size (record { 0 = 1 })) }) kinds.Object p.live refl
      (made_object s (two roles.Object rep) homes next_2 (whole_2 roles.Object rep) f.next o size no_object no_segment (omega arith) (omega arith) (role_first roles.Object rep) (role_second roles.Object rep) typ some few
      (record { bit_0 = refl; few = omega arith }))
      (ap is_some (at-put_here f.objects f.next o))

  pub mkdir_sound : (guard : Rights) → IsGuard guard.0
      → IsSoundShared s (record (changed_all f (MakeDirectory f.next (f.next + 1) guard ∷ Register f.next d name kinds.Directory ∷ Fresh ∷ Fresh ∷ [])) { users = us })
  mkdir_sound guard good =
      let x : Directory = record { guard = guard; rep = f.next + 1; names = empty } in
      let rep : Role = HiddenIn f.next in
      let none = absent f.next f.dirs (λ u x e. (w.rows.dirs u x e).below) f.next (omega arith) in
      let apart : d ≡ f.next → ⊥ = λ same. omega (arith, (w.rows.dirs d p.row p.live).below, same) in
      told_2 roles.Directory rep (record next_2 { dirs = put f.dirs f.next x }) kinds.Directory (at-put_apart f.dirs f.next x d apart ∙ p.live) refl
      (made_directory s (two roles.Directory rep) homes next_2 (whole_2 roles.Directory rep) f.next (f.next + 1) guard none (omega arith) (role_first roles.Directory rep) (omega arith) (role_second roles.Directory rep) good)
      (ap is_some (at-put_here f.dirs f.next x), no_boot)
