-- What users share is sound, in parts, and each kind of change keeps it.
use Rattle.std.proofs.Common.{◌≡◌, ℕ, ◌+◌, ◌-◌, ◌<◌, ◌≤◌, Bool, true, false, cond, List, [], ◌∷◌, ◌++◌, drop, length, Option, Some, None, refl, sym, ap, subst, ◌∙◌, inl, inr, arith}
use Rattle.std.specs.Prelude.{IsSome, is_some, slice_set}
use Rattle.std.specs.Option.{option_map}
use Rattle.std.specs.FinMap.{len}
use Rattle.std.proofs.lemmas.Bool.{cases_eq}
use Rattle.std.proofs.lemmas.Option.{same_Some}
use Rattle.psos_limits.specs.declared.TheConstants.{MOST_OBJECTS, MOST_WINDOWS, MOST_ENTRIES}
use Rattle.psos_table.specs.Table.{Table, at, has, put, without, edit, size}
use Rattle.psos_table.proofs.Tables.{at-put_here, at-put_apart, at-edit_here, at-edit_apart, at-without_here, at-without_apart, size-put, size-without}
use Rattle.psos_caps.specs.Capability.{Capability}
use Rattle.psos_text.specs.declared.name.Name.{Name}
use Rattle.psos_words.specs.declared.word.Word.{Word}
use Rattle.psos_calls.specs.declared.kind.Kind.{Kind}
use Rattle.psos_calls.specs.declared.win_row.WinRow.{WinRow}
use Rattle.psos_calls.specs.Language.Script.{Script}
use Rattle.psos_calls.specs.Language.User.{User}
use Rattle.psos_model.specs.Flat.{Flat, Directory, Named, named}
use Rattle.psos_model.specs.Flat.Changes.{with_entry, without_entry, kept_entry}
use Rattle.psos_model.specs.Sound.Kept.{IsKept, entry_in}
use Rattle.psos_model.specs.Sound.Roles.{Role, IsUserObject}
use Rattle.psos_model.specs.Sound.Rows.{IsSoundWindow}
use Rattle.psos_laws.specs.SoundParts.{IsSoundShared}
use Rattle.psos_laws.proofs.SharedRows.{Rows, rows_raised, word_rows, window_rows, entry_rows, no_entry_rows, post_rows, draw_rows}
use Rattle.psos_laws.proofs.Homes.{name_in, kept_on, kept_raised, kept_bind, kept_unbind, kept_register, kept_unregister}
use Rattle.psos_laws.proofs.RolesLife.{SameLive, Alike, alike, alike_through, Life, life_on, life_raised, life_put, life_gone, kind_of, stays, stays_edit, Boots, boots_on}

-- what users share, in parts
pub record Whole (s : Script) (role : ℕ → Role) (home : ℕ → ℕ × Name) (f : Flat) : Type 0 where
  pub rows : Rows s role f
  pub life : Life s role f
  pub boots : Boots s f
  pub objects : size f.life ≤ MOST_OBJECTS
  pub windows : size f.windows ≤ MOST_WINDOWS
  pub kept : IsKept home f

pub whole_of : (s : Script) (f : Flat) (h : IsSoundShared s f) → Whole s h.role h.home f
whole_of s f h = record {
  rows = record { segments = h.segments; windows = h.windows; types = h.types; objects = h.objects; dirs = h.dirs; boxes = h.boxes; codes = h.codes };
  life = h.life;
  boots = record { root = h.root; homes = h.homes; processes = h.processes };
  objects = h.few_objects;
  windows = h.few_windows;
  kept = h.kept;
}

pub shared_of : (s : Script) (role : ℕ → Role) (home : ℕ → ℕ × Name) (f : Flat) → Whole s role home f → IsSoundShared s f
shared_of s role home f w = record {
  role = role;
  home = home;
  segments = w.rows.segments;
  windows = w.rows.windows;
  types = w.rows.types;
  objects = w.rows.objects;
  dirs = w.rows.dirs;
  boxes = w.rows.boxes;
  codes = w.rows.codes;
  life = w.life;
  root = w.boots.root;
  homes = w.boots.homes;
  processes = w.boots.processes;
  few_objects = w.objects;
  few_windows = w.windows;
  kept = w.kept;
}

-- ---- a row is there as before, after an edit

same_edit : {X : Type 0} (t : Table X) (k : ℕ) (g : X → X) (u : ℕ) → is_some (at (edit t k g) u) ≡ is_some (at t u)
same_edit {X} t k g u = elim (cases_eq u k) [
  | inl same ↦ ap (λ (v : ℕ). is_some (at (edit t k g) v)) same ∙ (ap is_some (at-edit_here t k g) ∙ (by_row (at t k) ∙ ap (λ (v : ℕ). is_some (at t v)) (sym same)))
  | inr apart ↦ ap is_some (at-edit_apart t k g u apart)
]
  where
    by_row : (o : Option X) → is_some (option_map g o) ≡ is_some o
    by_row None = refl
    by_row (Some x) = refl

one_more : {X : Type 0} (t : Table X) (k n : ℕ) (x : X) → size t < n → size (put t k x) ≤ n
one_more t k n x room = by_test (has t k) (size-put t k x)
  where
    by_test : (b : Bool) → size (put t k x) ≡ cond b (size t) (size t + 1) → size (put t k x) ≤ n
    by_test true is = omega (arith, is, room)
    by_test false is = omega (arith, is, room)

pub one_fewer : {X : Type 0} (t : Table X) (k n : ℕ) → size t ≤ n → size (without t k) ≤ n
one_fewer t k n few = by_test (has t k) (size-without t k)
  where
    by_test : (b : Bool) → size (without t k) ≡ cond b (size t - 1) (size t) → size (without t k) ≤ n
    by_test true is = omega (arith, is, few)
    by_test false is = omega (arith, is, few)

module _ (s : Script) (role : ℕ → Role) (home : ℕ → ℕ × Name) (f : Flat) (w : Whole s role home f) where
  -- more identifiers are used, with roles and homes of their own, and the users' own parts are others
  pub whole_raised : (new : ℕ → Role) (new_home : ℕ → ℕ × Name) (n : ℕ) (us : List User) → f.next ≤ n → ((v : ℕ) → v < f.next → new v ≡ role v) → ((o : ℕ) → IsSome (at f.life o) → new_home o ≡ home o)
      → Whole s new new_home (record f { next = n; users = us })
  whole_raised new new_home n us le same at_home =
      let g : Flat = record f { next = n; users = us } in
      record {
        rows = rows_raised s role new f n us le same w.rows;
        life = life_raised s role new f n us w.rows same w.life;
        boots = boots_on s f g (λ d x _ e. stays f.dirs d x e) (λ b h. h) w.boots;
        objects = w.objects;
        windows = w.windows;
        kept = kept_raised home new_home f n us at_home w.kept;
      }

  pub whole_word : (k i : ℕ) (word : Word) → Whole s role home (record f { segments = edit f.segments k (λ x. record x { words = slice_set x.words i word }) })
  whole_word k i word =
      let g : Flat = record f { segments = edit f.segments k (λ x. record x { words = slice_set x.words i word }) } in
      record {
        rows = word_rows s role f w.rows k i word;
        life = life_on s role f g refl (λ u. alike s role f g u (record { segments = same_edit f.segments k (λ x. record x { words = slice_set x.words i word }) u; dirs = refl; types = refl; objects = refl; codes = refl })) w.life;
        boots = boots_on s f g (λ d x _ e. stays f.dirs d x e) (λ b h. h) w.boots;
        objects = w.objects;
        windows = w.windows;
        kept = kept_on home f g (λ d n. refl) (λ o. refl) w.kept;
      }

  pub whole_window : (k : ℕ) (row : WinRow) → IsSoundWindow role f k row → size f.windows < MOST_WINDOWS → Whole s role home (record f { windows = put f.windows k row })
  whole_window k row new room =
      let g : Flat = record f { windows = put f.windows k row } in
      record {
        rows = window_rows s role f w.rows k row new;
        life = life_on s role f g refl (λ u. alike s role f g u (record { segments = refl; dirs = refl; types = refl; objects = refl; codes = refl })) w.life;
        boots = boots_on s f g (λ d x _ e. stays f.dirs d x e) (λ b h. h) w.boots;
        objects = w.objects;
        windows = one_more f.windows k MOST_WINDOWS row room;
        kept = kept_on home f g (λ d n. refl) (λ o. refl) w.kept;
      }

  boxes_whole : (boxes : Table (List Word)) → Rows s role (record f { boxes = boxes }) → ((b : ℕ) → IsSome (at f.boxes b) → IsSome (at boxes b)) → Whole s role home (record f { boxes = boxes })
  boxes_whole boxes rows still =
      let g : Flat = record f { boxes = boxes } in
      record {
        rows = rows;
        life = life_on s role f g refl (λ u. alike s role f g u (record { segments = refl; dirs = refl; types = refl; objects = refl; codes = refl })) w.life;
        boots = boots_on s f g (λ d x _ e. stays f.dirs d x e) still w.boots;
        objects = w.objects;
        windows = w.windows;
        kept = kept_on home f g (λ d n. refl) (λ o. refl) w.kept;
      }

  pub whole_post : (k : ℕ) (word : Word) (box : List Word) → at f.boxes k ≡ Some box → length box < 8 → Whole s role home (record f { boxes = edit f.boxes k (λ b. b ++ word ∷ []) })
  whole_post k word box is room = boxes_whole (edit f.boxes k (λ b. b ++ word ∷ [])) (post_rows s role f w.rows k word box is room) (λ b h. same_edit f.boxes k (λ b. b ++ word ∷ []) b ∙ h)

  pub whole_draw : (k : ℕ) → Whole s role home (record f { boxes = edit f.boxes k (drop 1) })
  whole_draw k = boxes_whole (edit f.boxes k (drop 1)) (draw_rows s role f w.rows k) (λ b h. same_edit f.boxes k (drop 1) b ∙ h)

  -- ---- entries

  entries_whole : (d : ℕ) (g : Directory → Directory) → ((x : Directory) → (g x).rep ≡ x.rep) → ((x : Directory) → (g x).guard.0 ≡ x.guard.0)
      → Rows s role (record f { dirs = edit f.dirs d g }) → IsKept home (record f { dirs = edit f.dirs d g }) → Whole s role home (record f { dirs = edit f.dirs d g })
  entries_whole d g rep guard rows kept =
      let h : Flat = record f { dirs = edit f.dirs d g } in
      record {
        rows = rows;
        life = life_on s role f h refl (λ u. alike s role f h u (record { segments = refl; dirs = same_edit f.dirs d g u; types = refl; objects = refl; codes = refl })) w.life;
        boots = boots_on s f h (λ a x _ e. stays_edit f.dirs d g rep guard a x e) (λ b h. h) w.boots;
        objects = w.objects;
        windows = w.windows;
        kept = kept;
      }

  pub whole_bind : (d : ℕ) (name : Name) (cap : Capability) (x : Directory) → at f.dirs d ≡ Some x → named x name ≡ None → len x.names < MOST_ENTRIES
      → Whole s role home (record f { dirs = edit f.dirs d (with_entry name (record { cap = cap; kept = false })) })
  whole_bind d name cap x live none room =
      entries_whole d (with_entry name (record { cap = cap; kept = false })) (λ x. refl) (λ x. refl)
      (entry_rows s role f w.rows d name (record { cap = cap; kept = false }) f.life (λ y e. subst (λ z. len z.names < MOST_ENTRIES) (same_Some x y (sym live ∙ e)) room))
      (kept_bind home f w.kept d name cap (ap (λ (o : Option Directory). name_in o name) live ∙ none))

  pub whole_unbind : (d : ℕ) (name : Name) (e : Named) → entry_in f d name ≡ Some e → e.kept ≡ false → Whole s role home (record f { dirs = edit f.dirs d (without_entry name) })
  whole_unbind d name e there plain =
      entries_whole d (without_entry name) (λ x. refl) (λ x. refl)
      (no_entry_rows s role f w.rows d name f.life)
      (kept_unbind home f w.kept d name (λ y is. ap (λ (z : Named). z.kept) (same_Some y e (sym is ∙ there)) ∙ plain))

-- ---- a user object comes or goes

-- after a making or a dropping: all is sound but whether o is told of
pub record Between (s : Script) (role : ℕ → Role) (f g : Flat) (o : ℕ) : Type 0 where
  pub rows : Rows s role g
  pub others : (v : ℕ) → (v ≡ o → ⊥) → Alike s role f g v
  pub life : g.life ≡ f.life
  pub boots : Boots s g
  pub entries : (d : ℕ) (name : Name) → entry_in g d name ≡ entry_in f d name
  pub windows : size g.windows ≤ MOST_WINDOWS

module _ (s : Script) (role : ℕ → Role) (home : ℕ → ℕ × Name) (f g : Flat) (o : ℕ) (w : Whole s role home f) (b : Between s role f g o) (d : ℕ) (name : Name) where
  kept_between : IsKept home g
  kept_between = kept_on home f g b.entries (λ v. ap (λ (t : Table Kind). at t v) b.life) w.kept

  -- after an edit of a directory the same is live
  edit_alike : (e : Directory → Directory) (life : Table Kind) (v : ℕ) → (v ≡ o → ⊥) → Alike s role f (record g { dirs = edit g.dirs d e; life = life }) v
  edit_alike e life v off =
      let h : Flat = record g { dirs = edit g.dirs d e; life = life } in
      alike_through s role f g h v (b.others v off) (alike s role g h v (record { segments = refl; dirs = same_edit g.dirs d e v; types = refl; objects = refl; codes = refl }))

  pub whole_register : (kind : Kind) (x : Directory) → at g.dirs d ≡ Some x → named x name ≡ None → len x.names < MOST_ENTRIES → size f.life < MOST_OBJECTS → at f.life o ≡ None → home o ≡ (d, name)
      → kind_of (role o) ≡ Some kind → IsUserObject s role g o kind
      → Whole s role home (record g { dirs = edit g.dirs d (with_entry name (kept_entry o)); life = put g.life o kind })
  whole_register kind x live none room few new at_home is object =
      let h : Flat = record g { dirs = edit g.dirs d (with_entry name (kept_entry o)); life = put g.life o kind } in
      let rows = entry_rows s role g b.rows d name (kept_entry o) (put g.life o kind) (λ y e. subst (λ z. len z.names < MOST_ENTRIES) (same_Some x y (sym live ∙ e)) room) in
      let same : SameLive g h o = record { segments = refl; dirs = same_edit g.dirs d (with_entry name (kept_entry o)) o; types = refl; objects = refl; codes = refl } in
      record {
        rows = rows;
        life = life_put s role f h rows o (edit_alike (with_entry name (kept_entry o)) (put g.life o kind))
            (λ v off. at-put_apart g.life o kind v off ∙ ap (λ (t : Table Kind). at t v) b.life) w.life
            kind (at-put_here g.life o kind) is ((alike s role g h o same).to kind object);
        boots = boots_on s g h (λ a y _ e. stays_edit g.dirs d (with_entry name (kept_entry o)) (λ y. refl) (λ y. refl) a y e) (λ v there. there) b.boots;
        objects = one_more g.life o MOST_OBJECTS kind (subst (λ (t : Table Kind). size t < MOST_OBJECTS) (sym b.life) few);
        windows = b.windows;
        kept = kept_register home g kept_between d name o kind x live (ap (λ (z : Option Directory). name_in z name) live ∙ none) (ap (λ (t : Table Kind). at t o) b.life ∙ new) at_home;
      }

  pub whole_unregister : entry_in f d name ≡ Some (kept_entry o) → ((k : Kind) → IsUserObject s role g o k → ⊥)
      → Whole s role home (record g { dirs = edit g.dirs d (without_entry name); life = without g.life o })
  whole_unregister there gone =
      let h : Flat = record g { dirs = edit g.dirs d (without_entry name); life = without g.life o } in
      let rows = no_entry_rows s role g b.rows d name (without g.life o) in
      let same : SameLive g h o = record { segments = refl; dirs = same_edit g.dirs d (without_entry name) o; types = refl; objects = refl; codes = refl } in
      record {
        rows = rows;
        life = life_gone s role f h rows o (edit_alike (without_entry name) (without g.life o))
            (λ v off. at-without_apart g.life o v off ∙ ap (λ (t : Table Kind). at t v) b.life) w.life
            (at-without_here g.life o) (λ k x. gone k ((alike s role g h o same).back k x));
        boots = boots_on s g h (λ a y _ e. stays_edit g.dirs d (without_entry name) (λ y. refl) (λ y. refl) a y e) (λ v there. there) b.boots;
        objects = one_fewer g.life o MOST_OBJECTS (subst (λ (t : Table Kind). size t ≤ MOST_OBJECTS) (sym b.life) w.objects);
        windows = b.windows;
        kept = kept_unregister home g kept_between d name o (b.entries d name ∙ there);
      }
