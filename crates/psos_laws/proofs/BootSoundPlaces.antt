-- The capabilities of boot, and what they name. States docs/promises.md, "Sound states".
use Rattle.std.proofs.Common.{◌≡◌, ℕ, zero, suc, ◌-◌, ◌<◌, Bool, true, false, cond, List, [], length, Option, Some, None, refl, sym, ap, subst, ◌∙◌, ◌⊎◌, inl, inr, arith}
use Rattle.std.specs.Prelude.{⊤, IsSome, is_some, slice_get}
use Rattle.std.specs.Ordering.{is_eq, eq_by_cmp}
use Rattle.std.specs.declared.cmp.Ordering.{Ordering}
use Rattle.std.specs.declared.cmp.Ordering.TheVariants.{Less, Equal, Greater}
use Rattle.std.specs.Option.{option_map, option_and_then}
use Rattle.std.specs.FinMap.{empty, get, get-empty, get-insert}
use Rattle.std.proofs.lemmas.Cmp.{eq_by_cmp_equiv}
use Rattle.std.proofs.lemmas.Option.{same_Some, none-some}
use Rattle.psos_table.specs.Table.{at, put}
use Rattle.psos_table.proofs.Tables.{at-empty, row_put, row_empty}
use Rattle.psos_caps.specs.Capability.{Capability, full}
use Rattle.psos_caps.specs.declared.cap.Uid.{Uid}
use Rattle.psos_text.specs.declared.name.Name.{Name}
use Rattle.psos_words.specs.declared.word.Word.{Word}
use Rattle.psos_words.specs.Words.{zeros, word_at}
use Rattle.psos_words.specs.Guard.{missing}
use Rattle.psos_calls.specs.Language.Names.{name_cmp}
use Rattle.psos_calls.specs.declared.kind.Kind.{Kind}
use Rattle.psos_calls.specs.declared.code_row.CodeRow.{CodeRow}
use Rattle.psos_calls.specs.Language.Script.{Script, UserScript}
use Rattle.psos_calls.specs.Language.User.{User}
use Rattle.psos_calls.specs.Language.Capabilities.{uid}
use Rattle.psos_model.specs.declared.place.Place.{Place}
use Rattle.psos_model.specs.declared.place.Place.TheVariants.{Reg, FrameReg, PathAt, SegWord, DirName, BoxAt, Link, ImplOf}
use Rattle.psos_model.specs.Flat.{Segment, Directory, Named as Entry, Names, named}
use Rattle.psos_model.specs.Flat.Places.{cap_at, cap_in, own_cap, rep_cap, guard_at}
use Rattle.psos_model.specs.Flat.Changes.{new_segment, kept_entry}
use Rattle.psos_model.specs.Flat.Boot.{boot, boot_user, boot_regs, guard_1, home_of, scratch_of, scratch_name}
use Rattle.psos_model.specs.Sound.Guarded.{IsGuarded}
use Rattle.psos_model.specs.Sound.Kept.{IsKept, entry_in}
use Rattle.psos_model.specs.Sound.Roles.{HiddenIn}
use Rattle.psos_model.proofs.NameOrder.{name_cmp_total, same_name}
use Rattle.psos_model.proofs.RequestRanges.{got_within}
use Rattle.psos_model.proofs.BootRows.{each_row, segments_are, boxes_are, dirs_are, root_row, home_row}
use Rattle.psos_laws.proofs.BootSoundRoles.{boot_role, Named, Root, Process, Home, Scratch, named_below, named_open, one_directory}
use Rattle.psos_laws.proofs.BootSoundRows.{rows_as, boot_dirs_sound, home_lives, IsScratch, life_is, scratch_lives}
use Rattle.psos_laws.proofs.BootSoundUsers.{boot_user_is}

-- ---- the rows, told whole

pub data IsBootRow (s : Script) (u : ℕ) (x : Directory) : Type 0 where
  RootRow : u ≡ 1 → root_row ≡ x → IsBootRow s u x
  HomeRow : (i : ℕ) → i < length s.users → u ≡ home_of i → home_row i ≡ x → IsBootRow s u x

pub directory_row : (s : Script) (u : ℕ) (x : Directory) → at (boot s).dirs u ≡ Some x → IsBootRow s u x
directory_row s =
    rows_as (IsBootRow s) (boot s).dirs _ (dirs_are 0 s.users) (each_row (put empty 1 root_row) 4 home_row (IsBootRow s) (row_put (IsBootRow s) empty 1 root_row (RootRow refl refl) (row_empty (IsBootRow s))) 0 s.users
    (λ j h. HomeRow j (omega (arith, h)) refl refl))

pub segment_row : (s : Script) (u : ℕ) (x : Segment) → at (boot s).segments u ≡ Some x → new_segment 64 guard_1 ≡ x
segment_row s =
    let Q : ℕ → Segment → Type 0 = λ u x. new_segment 64 guard_1 ≡ x in
    rows_as Q (boot s).segments _ (segments_are 0 s.users) (each_row empty 6 (λ _. new_segment 64 guard_1) Q (row_empty Q) 0 s.users (λ j h. refl))

pub box_row : (s : Script) (u : ℕ) (x : List Word) → at (boot s).boxes u ≡ Some x → [] ≡ x
box_row s =
    let Q : ℕ → List Word → Type 0 = λ u x. [] ≡ x in
    rows_as Q (boot s).boxes _ (boxes_are 0 s.users) (each_row empty 3 (λ _. []) Q (row_empty Q) 0 s.users (λ j h. refl))

-- ---- what a name stands for

equal_is : (r : Ordering) → is_eq r ≡ true → r ≡ Equal
equal_is Less e = absurd (subst (λ b. cond b ⊥ ⊤) e tt)
equal_is Equal e = refl
equal_is Greater e = absurd (subst (λ b. cond b ⊥ ⊤) e tt)

pub home_entry : (i : ℕ) (name : Name) (e : Entry) → named (home_row i) name ≡ Some e → (kept_entry (scratch_of i) ≡ e) × (scratch_name ≡ name)
home_entry i name e is = by_test (eq_by_cmp name_cmp name scratch_name) refl (sym (get-insert name_cmp_total before scratch_name (kept_entry (scratch_of i)) name) ∙ is)
  where
    before : Names
    before = empty

    by_test : (b : Bool) → eq_by_cmp name_cmp name scratch_name ≡ b → cond b (Some (kept_entry (scratch_of i))) (get before name) ≡ Some e → (kept_entry (scratch_of i) ≡ e) × (scratch_name ≡ name)
    by_test true same h = (same_Some (kept_entry (scratch_of i)) e h, sym (same_name name scratch_name (equal_is (name_cmp name scratch_name) same)))
    by_test false apart h = absurd (none-some e (sym (get-empty name_cmp name) ∙ h))

home_has : (i : ℕ) → named (home_row i) scratch_name ≡ Some (kept_entry (scratch_of i))
home_has i =
    let before : Names = empty in
    get-insert name_cmp_total before scratch_name (kept_entry (scratch_of i)) scratch_name
    ∙ ap (λ b. cond b (Some (kept_entry (scratch_of i))) (get before scratch_name)) ((eq_by_cmp_equiv name_cmp_total).refl scratch_name)

pub root_has : (name : Name) (e : Entry) → named root_row name ≡ Some e → ⊥
root_has name e is = none-some e (sym (get-empty name_cmp name) ∙ is)

-- ---- the capability at a place: one that users name and that passes the guard, or one on the representation of a directory

record IsOwnCap (s : Script) (p : Place) (c : Capability) : Type 0 where
  names : Named (length s.users) c.uid
  passes : (guard : ℕ) → guard_at (boot s) p ≡ Some guard → missing guard c.rights ≡ None

record IsRepCap (s : Script) (p : Place) (c : Capability) : Type 0 where
  dir : Uid
  row : Directory
  live : at (boot s).dirs dir.0 ≡ Some row
  place-is : p ≡ ImplOf dir
  cap-is : full row.rep ≡ c

-- there is no capability among zeros
pub no_cap : {A : Type 0} (n i : ℕ) (c : Capability) → cap_in (word_at (zeros n) i) ≡ Some c → A
no_cap zero i c e = absurd (none-some c e)
no_cap (suc n) zero c e = absurd (none-some c e)
no_cap (suc n) (suc i) c e = no_cap n i c e

module _ (s : Script) (u : ℕ) (below : u < length s.users) where
  reg_named : (i : ℕ) (c : Capability) → cap_in (word_at (boot_regs u) i) ≡ Some c → Named (length s.users) c.uid
  reg_named zero c e = Root (ap (λ (c : Capability). c.uid) (sym (same_Some _ c e)))
  reg_named (suc zero) c e = Process u below (ap (λ (c : Capability). c.uid) (sym (same_Some _ c e)))
  reg_named (suc (suc zero)) c e = Home u below (ap (λ (c : Capability). c.uid) (sym (same_Some _ c e)))
  reg_named (suc (suc (suc zero))) c e = Scratch u below (ap (λ (c : Capability). c.uid) (sym (same_Some _ c e)))
  reg_named (suc (suc (suc (suc i)))) c e = no_cap 12 i c e

  path_named : (text : UserScript) (i : ℕ) (c : Capability) → slice_get (boot_user u text).path i ≡ Some c → Named (length s.users) c.uid
  path_named text zero c e = Home u below (ap (λ (c : Capability). c.uid) (sym (same_Some _ c e)))
  path_named text (suc zero) c e = Root (ap (λ (c : Capability). c.uid) (sym (same_Some _ c e)))
  path_named text (suc (suc i)) c e = absurd (none-some c e)

-- what holds where a place of a row has a capability
pub by_row : {X A : Type 0} (g : X → Option Capability) (o : Option X) (c : Capability) → option_and_then g o ≡ Some c → ((x : X) → o ≡ Some x → g x ≡ Some c → A) → A
by_row g None c e go = absurd (none-some c e)
by_row g (Some x) c e go = go x refl e

pub by_entry : {A : Type 0} (o : Option Entry) (c : Capability) → option_map (λ (e : Entry). e.cap) o ≡ Some c → ((x : Entry) → o ≡ Some x → x.cap ≡ c → A) → A
by_entry None c e go = absurd (none-some c e)
by_entry (Some x) c e go = go x refl (same_Some x.cap c e)

abbrev IsFound : Script → Place → Capability → Type 0
IsFound s p c = IsOwnCap s p c ⊎ IsRepCap s p c

-- a private place has no guard
private : (s : Script) (p : Place) (c : Capability) → guard_at (boot s) p ≡ None → Named (length s.users) c.uid → IsFound s p c
private s p c none names = inl (record { names = names; passes = λ guard e. absurd (none-some guard (sym none ∙ e)) })

-- a capability at a place of a user's own part
own_named : (s : Script) (u : ℕ) (p : Place) (c : Capability) → option_and_then (λ (x : User). own_cap x p) (slice_get (boot s).users u) ≡ Some c
    → ((text : UserScript) → u < length s.users → own_cap (boot_user u text) p ≡ Some c → Named (length s.users) c.uid) → Named (length s.users) c.uid
own_named s u p c e go = by_row (λ (x : User). own_cap x p) (slice_get (boot s).users u) c e (λ x there is.
    let h = boot_user_is s u x there in
    go h.text (got_within s.users u h.text h.asked) (ap (λ (x : User). own_cap x p) h.is ∙ is))

-- of a home: the scratch segment's, at its name
entry_found : (s : Script) (v : Uid) (name : Name) (c : Capability) (d : Directory) → at (boot s).dirs v.0 ≡ Some d → option_map (λ (e : Entry). e.cap) (named d name) ≡ Some c → IsFound s (DirName v name) c
entry_found s v name c d there is = by_boot (directory_row s v.0 d there)
  where
    by_boot : IsBootRow s v.0 d → IsFound s (DirName v name) c
    by_boot (RootRow at-is row) = by_entry (named d name) c is (λ e entry cap. absurd (root_has name e (ap (λ (d : Directory). named d name) row ∙ entry)))
    by_boot (HomeRow i h at-is row) = by_entry (named d name) c is (λ e entry cap.
        let one = home_entry i name e (ap (λ (d : Directory). named d name) row ∙ entry) in
        let full_is : full (scratch_of i) ≡ c = ap (λ (e : Entry). e.cap) one.0 ∙ cap in
        let guard_is : guard_at (boot s) (DirName v name) ≡ Some 1 = ap (option_map (λ (d : Directory). d.guard.0)) there ∙ ap (λ (d : Directory). Some d.guard.0) (sym row) in
        inl (record {
          names = Scratch i h (ap (λ (c : Capability). c.uid) (sym full_is));
          passes = λ guard g.
              let one_is : 1 ≡ guard = same_Some 1 guard (sym guard_is ∙ g) in
              ap (λ n. missing n c.rights) (sym one_is) ∙ ap (λ (c : Capability). missing 1 c.rights) (sym full_is);
        }))

rep_found : (s : Script) (v : Uid) (c : Capability) → cap_at (boot s) (ImplOf v) ≡ Some c → IsFound s (ImplOf v) c
rep_found s v c e = by_dir (at (boot s).dirs v.0) refl (sym (ap (λ o. rep_cap o (at (boot s).dirs v.0)) none) ∙ e)
  where
    none : at (boot s).objects v.0 ≡ None
    none = at-empty v.0

    by_dir : (o : Option Directory) → at (boot s).dirs v.0 ≡ o → rep_cap None o ≡ Some c → IsFound s (ImplOf v) c
    by_dir None there e = absurd (none-some c e)
    by_dir (Some d) there e = inr (record { dir = v; row = d; live = there; place-is = refl; cap-is = same_Some (full d.rep) c e })

found : (s : Script) (p : Place) (c : Capability) → cap_at (boot s) p ≡ Some c → IsFound s p c
found s (Reg u i) c e = private s (Reg u i) c refl (own_named s u (Reg u i) c e (λ text below is. reg_named s u below i c is))
found s (FrameReg u depth i) c e = private s (FrameReg u depth i) c refl (own_named s u (FrameReg u depth i) c e (λ text below is. absurd (none-some c is)))
found s (PathAt u i) c e = private s (PathAt u i) c refl (own_named s u (PathAt u i) c e (λ text below is. path_named s u below text i c is))
found s (SegWord v i) c e = by_row (λ (x : Segment). cap_in (word_at x.words i)) (at (boot s).segments v.0) c e (λ x there is.
    no_cap 64 i c (ap (λ (x : Segment). cap_in (word_at x.words i)) (segment_row s v.0 x there) ∙ is))
found s (DirName v name) c e = by_row (λ (d : Directory). option_map (λ (e : Entry). e.cap) (named d name)) (at (boot s).dirs v.0) c e (λ d there is. entry_found s v name c d there is)
found s (BoxAt v i) c e = by_row (λ (box : List Word). cap_in (word_at box i)) (at (boot s).boxes v.0) c e (λ box there is.
    no_cap 0 i c (ap (λ (box : List Word). cap_in (word_at box i)) (box_row s v.0 box there) ∙ is))
found s (Link v) c e = by_row (λ (code : CodeRow). cap_in code.link) (at (boot s).codes v.0) c e (λ code there is. absurd (none-some code (sym (at-empty v.0) ∙ there)))
found s (ImplOf v) c e = rep_found s v c e

-- ---- the clauses on places

pub boot_below : (s : Script) (p : Place) (c : Capability) → cap_at (boot s) p ≡ Some c → c.uid < (boot s).next
boot_below s p c e = elim (found s p c e) [
  | inl own ↦ named_below (length s.users) c.uid own.names
  | inr rep ↦ subst (λ (c : Capability). c.uid < (boot s).next) rep.cap-is (boot_dirs_sound s rep.dir.0 rep.row rep.live).rep_below
]

pub boot_guarded : (s : Script) → IsGuarded (boot s)
boot_guarded s = record {
  passes = λ p c guard e g. elim (found s p c e) [
    | inl own ↦ own.passes guard g
    | inr rep ↦
        let one_is : 1 ≡ guard = same_Some 1 guard (sym (ap (guard_at (boot s)) rep.place-is) ∙ g) in
        ap (λ n. missing n c.rights) (sym one_is) ∙ ap (λ (c : Capability). missing 1 c.rights) (sym rep.cap-is)
  ];
}

pub boot_hidden : (s : Script) (d : ℕ) (x : Directory) → at (boot s).dirs d ≡ Some x
    → (p : Place) (c : Capability) → cap_at (boot s) p ≡ Some c → c.uid ≡ x.rep → p ≡ ImplOf (uid d)
boot_hidden s d x there p c e same =
    let hidden : boot_role x.rep ≡ HiddenIn d = (boot_dirs_sound s d x there).hidden in
    elim (found s p c e) [
      | inl own ↦ absurd (named_open (length s.users) c.uid d own.names (ap boot_role same ∙ hidden))
      | inr rep ↦
          let other : boot_role rep.row.rep ≡ HiddenIn rep.dir.0 = (boot_dirs_sound s rep.dir.0 rep.row rep.live).hidden in
          let reps : rep.row.rep ≡ x.rep = ap (λ (c : Capability). c.uid) rep.cap-is ∙ same in
          let one : rep.dir.0 ≡ d = one_directory rep.dir.0 d (boot_role rep.row.rep) other (ap boot_role reps ∙ hidden) in
          rep.place-is ∙ ap (λ n. ImplOf (uid n)) one
    ]

-- ---- the scratch segments are kept, each in its user's home

pub boot_place : ℕ → ℕ × Name
boot_place o = (o - 2, scratch_name)

place_is : (i : ℕ) → boot_place (scratch_of i) ≡ (home_of i, scratch_name)
unfolding boot_place
place_is i =
    let outer : scratch_of i - 2 ≡ home_of i = omega arith in
    ap (λ (d : ℕ). let at : ℕ × Name = (d, scratch_name) in at) outer

kept_there : (s : Script) (o : ℕ) (kind : Kind) → IsScratch s o kind → entry_in (boot s) (boot_place o).0 (boot_place o).1 ≡ Some (kept_entry o)
kept_there s o kind h =
    let i = h.user in
    let P : ℕ → Type 0 = λ n. entry_in (boot s) (boot_place n).0 (boot_place n).1 ≡ Some (kept_entry n) in
    let here : P (scratch_of i) =
    ap (λ (q : ℕ × Name). entry_in (boot s) q.0 q.1) (place_is i)
    ∙ ap (option_and_then (λ (x : Directory). named x scratch_name)) (home_lives s i h.of_user)
    ∙ home_has i in
    subst P (sym h.is) here

only_kept : (s : Script) (d : ℕ) (name : Name) (e : Entry) (x : Directory) → at (boot s).dirs d ≡ Some x → named x name ≡ Some e
    → (e ≡ kept_entry e.cap.uid) × IsSome (at (boot s).life e.cap.uid) × (boot_place e.cap.uid ≡ (d, name))
only_kept s d name e x there is = by_boot (directory_row s d x there)
  where
    by_boot : IsBootRow s d x → (e ≡ kept_entry e.cap.uid) × IsSome (at (boot s).life e.cap.uid) × (boot_place e.cap.uid ≡ (d, name))
    by_boot (RootRow at-is row) = absurd (root_has name e (ap (λ (d : Directory). named d name) row ∙ is))
    by_boot (HomeRow i h at-is row) =
        let one = home_entry i name e (ap (λ (d : Directory). named d name) row ∙ is) in
        let Q : Entry → Type 0 = λ e. (e ≡ kept_entry e.cap.uid) × IsSome (at (boot s).life e.cap.uid) × (boot_place e.cap.uid ≡ (d, name)) in
        let home : boot_place (scratch_of i) ≡ (d, name) = place_is i ∙ (λ k. (sym at-is k, one.1 k)) in
        subst Q one.0 (refl, ap is_some (scratch_lives s i h), home)

by_named : {A : Type 0} (name : Name) (o : Option Directory) (e : Entry) → option_and_then (λ (x : Directory). named x name) o ≡ Some e → ((x : Directory) → o ≡ Some x → named x name ≡ Some e → A) → A
by_named name None e is go = absurd (none-some e is)
by_named name (Some x) e is go = go x refl is

pub boot_kept : (s : Script) → IsKept boot_place (boot s)
boot_kept s = record {
  has_entry = λ o kind e. kept_there s o kind (life_is s o kind e);
  no_other = λ d name e is mark. by_named name (at (boot s).dirs d) e is (λ x there entry. only_kept s d name e x there entry);
}
