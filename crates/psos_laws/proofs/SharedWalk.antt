-- Every outcome keeps what users share sound.
use Rattle.std.proofs.Common.{◌≡◌, ℕ, zero, suc, ◌+◌, ◌<◌, ◌≤◌, ◌==◌, true, not, List, [], ◌∷◌, length, nat_lt, nat_le, Option, Some, None, refl, sym, ap, subst, ◌∙◌, arith}
use Rattle.std.specs.Prelude.{is_some, ◌^◌}
use Rattle.std.specs.Option.{option_map, option_and_then, option_or}
use Rattle.std.specs.Int.RustNames.{bit_or}
use Rattle.std.specs.FinMap.{len}
use Rattle.std.proofs.lemmas.Bool.{and_parts, not-true, ltb-true, leb-true, eqb-true}
use Rattle.std.proofs.lemmas.Option.{same_Some, none-some}
use Rattle.psos_limits.specs.declared.TheConstants.{MOST_WORDS, MOST_WINDOWS, MOST_CHARGE}
use Rattle.psos_table.specs.Table.{at, size}
use Rattle.psos_text.specs.declared.name.Name.{Name}
use Rattle.psos_words.specs.declared.word.Word.{Word}
use Rattle.psos_words.specs.declared.word.Word.TheVariants.{Cap}
use Rattle.psos_words.specs.Words.{word_at}
use Rattle.psos_words.specs.Guard.{barred}
use Rattle.psos_calls.specs.declared.kind.Kind.{Kind}
use Rattle.psos_calls.specs.declared.kind.Kind.TheVariants as kinds
use Rattle.psos_calls.specs.declared.right.Right.TheVariants as rights
use Rattle.psos_calls.specs.declared.refusal.Refusal.TheVariants as refusals
use Rattle.psos_calls.specs.declared.tab.Tab.TheVariants.{Windows, Path, Mailbox, Frames, Requests}
use Rattle.psos_calls.specs.declared.win_row.WinRow.{WinRow}
use Rattle.psos_calls.specs.declared.request.Request.{Request}
use Rattle.psos_calls.specs.declared.request.Request.TheVariants as asks
use Rattle.psos_calls.specs.Language.Request.{InRange}
use Rattle.psos_calls.specs.Language.Rights.{has}
use Rattle.psos_calls.specs.Language.Script.{Script}
use Rattle.psos_calls.specs.Language.User.{User, here}
use Rattle.psos_calls.specs.Language.Views.{View, whole, through, fits_in, part_of}
use Rattle.psos_calls.specs.Language.Stores.{is_length}
use Rattle.psos_calls.specs.Language.Stores.{guard_of}
use Rattle.psos_model.specs.Flat.{Flat, Segment, Directory, Named, named, flat_view, flat_shape, flat_shapes}
use Rattle.psos_model.specs.declared.change.Change.TheVariants.{Fresh, MakeWindow, Unregister}
use Rattle.psos_model.specs.Flat.Changes.{changed_all, kept_entry}
use Rattle.psos_model.specs.Sound.Kept.{entry_in}
use Rattle.psos_model.specs.Answer.Outcomes.{Outcome, Source, gives}
use Rattle.psos_model.specs.Answer.Objects.{has_objects, drops}
use Rattle.psos_model.specs.Answer.Processes.{received}
use Rattle.psos_model.specs.Answer.{outcome}
use Rattle.psos_model.specs.Sound.Roles.{Role}
use Rattle.psos_model.specs.Sound.Roles as roles
use Rattle.psos_model.specs.Sound.Rows.{IsGuard}
use Rattle.psos_model.proofs.OutcomeRules.{Refuses, by_cap, by_data, by_there, by_none, by_holds, by_view, by_dir, by_room, by_object_room, by_make, by_find}
use Rattle.psos_laws.specs.SoundParts.{IsSoundShared}
use Rattle.psos_laws.proofs.SharedRows.{Rows}
use Rattle.psos_laws.proofs.Homes.{name_in}
use Rattle.psos_laws.proofs.SharedParts.{Whole, whole_of, shared_of, whole_raised, whole_word, whole_window, whole_post, whole_draw, whole_bind, whole_unbind}
use Rattle.psos_laws.proofs.SharedCreations.{with_at, with_at_here, with_at_apart, mkseg_sound, mktype_sound, mkcode_sound, mkobj_sound, mkdir_sound}
use Rattle.psos_laws.proofs.SharedDeletions.{segment_gone_sound, type_gone_sound, code_gone_sound, object_gone_sound, directory_gone_sound}

-- ---- what was seen

-- a guard that is asked for, with bit 0
guard_is : (g : ℕ) → g < 8 → IsGuard (bit_or g 1)
guard_is zero below = record { bit_0 = refl; few = omega arith }
guard_is (suc zero) below = record { bit_0 = refl; few = omega arith }
guard_is (suc (suc zero)) below = record { bit_0 = refl; few = omega arith }
guard_is (suc (suc (suc zero))) below = record { bit_0 = refl; few = omega arith }
guard_is (suc (suc (suc (suc zero)))) below = record { bit_0 = refl; few = omega arith }
guard_is (suc (suc (suc (suc (suc zero))))) below = record { bit_0 = refl; few = omega arith }
guard_is (suc (suc (suc (suc (suc (suc zero)))))) below = record { bit_0 = refl; few = omega arith }
guard_is (suc (suc (suc (suc (suc (suc (suc zero))))))) below = record { bit_0 = refl; few = omega arith }
guard_is (suc (suc (suc (suc (suc (suc (suc (suc n)))))))) below = absurd (omega (arith, below))

record IsLength (n : ℕ) : Type 0 where
  some : 1 ≤ n
  few : n ≤ MOST_WORDS

length_is : (n : ℕ) → is_length n ≡ true → IsLength n
length_is n e =
    let both = and_parts (nat_lt 0 n) (nat_le n MOST_WORDS) e in
    let some : 0 < n = ltb-true 0 n both.0 in
    record { some = omega (arith, some); few = leb-true n MOST_WORDS both.1 }

-- the words that a view leads to
record SeesWords (f : Flat) (v : View) : Type 0 where
  row : Segment
  live : at f.segments v.seg ≡ Some row
  within : v.base + v.len ≤ length row.words

sees : (s : Script) (role : ℕ → Role) (f : Flat) → Rows s role f → (u : ℕ) (v : View) → flat_view f u ≡ Some v → SeesWords f v
sees s role f r u v e = by_segment (at f.segments u) refl e
  where
    by_window : (o : Option WinRow) → at f.windows u ≡ o → option_and_then (λ (w : WinRow). option_map (through w) (flat_shapes f w.seg.0)) o ≡ Some v → SeesWords f v
    by_window None is found = absurd (none-some v found)
    by_window (Some w) is found =
        let h = r.windows u w is in
        let same : through w (flat_shape h.under) ≡ v =
        same_Some (through w (flat_shape h.under)) v (sym (ap (λ (o : Option Segment). option_map (through w) (option_map flat_shape o)) h.live) ∙ found) in
        subst (SeesWords f) same (record { row = h.under; live = h.live; within = h.within })

    by_segment : (o : Option Segment) → at f.segments u ≡ o
        → option_or (option_map (whole u) (option_map flat_shape o)) (option_and_then (λ (w : WinRow). option_map (through w) (flat_shapes f w.seg.0)) (at f.windows u)) ≡ Some v → SeesWords f v
    by_segment None is found = by_window (at f.windows u) refl found
    by_segment (Some x) is found = subst (SeesWords f) (same_Some (whole u (flat_shape x)) v found) (record { row = x; live = is; within = omega arith })

-- ---- each request, from a sound state

module _ (s : Script) (f : Flat) (h : IsSoundShared s f) where
  w : Whole s h.role h.home f
  w = whole_of s f h

  -- whatever the users' own parts are after it
  abbrev Keeps : Outcome → Type 0
  Keeps o = (us : List User) → IsSoundShared s (record (changed_all f o.changes) { users = us })

  with_users : (us : List User) → Whole s h.role h.home (record f { users = us })
  with_users us = whole_raised s h.role h.home f w h.role h.home f.next us (omega arith) (λ v _. refl) (λ o _. refl)

  nothing : (us : List User) → IsSoundShared s (record f { users = us })
  nothing us = shared_of s h.role h.home (record f { users = us }) (with_users us)

  no : Refuses Keeps
  no = record { refused = λ r. nothing }

  -- a word goes, and nothing is changed
  plain : (rd : ℕ) (word : Word) (source : Option Source) → Keeps (gives [] rd word source)
  plain rd word source = nothing

  minted : (us : List User) → IsSoundShared s (record (changed_all f (Fresh ∷ [])) { users = us })
  minted us = shared_of s h.role h.home (record f { next = f.next + 1; users = us }) (whole_raised s h.role h.home f w h.role h.home (f.next + 1) us (omega arith) (λ v _. refl) (λ o _. refl))

  windowed : (v : View) (base span : ℕ) → SeesWords f v → fits_in v base span ≡ true → size f.windows < MOST_WINDOWS → (us : List User)
      → IsSoundShared s (record (changed_all f (MakeWindow f.next (part_of v base span) ∷ Fresh ∷ [])) { users = us })
  windowed v base span words fits room us =
      let role = with_at h.role f.next roles.Window in
      let g : Flat = record f { next = f.next + 1; users = us } in
      let both = and_parts (nat_lt 0 span) (nat_le (base + span) v.len) fits in
      let some : 0 < span = ltb-true 0 span both.0 in
      let within : base + span ≤ v.len = leb-true (base + span) v.len both.1 in
      let raised = whole_raised s h.role h.home f w role h.home (f.next + 1) us (omega arith) (λ u below. with_at_apart h.role f.next roles.Window u (λ same. omega (arith, below, same))) (λ o _. refl) in
      shared_of s role h.home (record (changed_all f (MakeWindow f.next (part_of v base span) ∷ Fresh ∷ [])) { users = us })
      (whole_window s role h.home g raised f.next (part_of v base span)
      (record {
        below = omega arith;
        role-is = with_at_here h.role f.next roles.Window;
        some = omega (arith, some);
        under = words.row;
        live = words.live;
        within = omega (arith, within, words.within);
      })
      room)

  -- what a name stands for in a directory that is live
  stands : (d : ℕ) (x : Directory) (name : Name) (e : Named) → at f.dirs d ≡ Some x → named x name ≡ Some e → entry_in f d name ≡ Some e
  stands d x name e live there = ap (λ (o : Option Directory). name_in o name) live ∙ there

  by_received : (process rd : ℕ) (box : List Word) → Keeps (received process rd box)
  by_received process rd [] = nothing
  by_received process rd (word ∷ rest) = λ us. shared_of s h.role h.home _ (whole_draw s h.role h.home (record f { users = us }) (with_users us) process)

  dropped : (kind : Kind) (u d : ℕ) (name : Name) → entry_in f d name ≡ Some (kept_entry u) → at f.life u ≡ Some kind → Keeps (drops f kind u (Unregister u d name ∷ []))
  dropped kinds.Segment u d name there told = λ us. segment_gone_sound s h.role h.home f w us u d name there told
  dropped kinds.Directory u d name there told = by_there no (at f.dirs u) refusals.NotEmpty _ (λ x live. by_holds no (len x.names == 0) refusals.NotEmpty _ (λ bare us.
      directory_gone_sound s h.role h.home f w us u d name there told x live (eqb-true (len x.names) 0 bare)))
  dropped kinds.Typ u d name there told = by_holds no (not (has_objects f u)) refusals.NotEmpty _ (λ none us.
      type_gone_sound s h.role h.home f w us u d name there told (not-true (has_objects f u) none))
  dropped kinds.Object u d name there told = by_there no (at f.objects u) refusals.NotEmpty _ (λ o live us. object_gone_sound s h.role h.home f w us u d name there told o live)
  dropped kinds.Code u d name there told = λ us. code_gone_sound s h.role h.home f w us u d name there told
  dropped kinds.Process u d name there told = nothing

  pub keeps : (x : User) (r : Request) → InRange (length s.codes) r → Keeps (outcome f x r)
  keeps x (asks.Mint rd) range = minted
  keeps x (asks.Restrict rd rs keep) range = by_cap no (word_at (here x) rs) _ (λ c _. nothing)
  keeps x (asks.Set rd n) range = nothing
  keeps x (asks.Move rd rs) range = nothing
  keeps x (asks.Add rd ra rb) range =
      by_data no (word_at (here x) ra) _ (λ a. by_data no (word_at (here x) rb) _ (λ b. by_holds no (nat_lt (a + b) (2 ^ 64)) refusals.Overflow _ (λ _. nothing)))
  keeps x (asks.Read rd rs n) range =
      by_cap no (word_at (here x) rs) _ (λ c _. by_view no f c rights.Read _ (λ v _ _. by_holds no (nat_lt n v.len) refusals.Range _ (λ _. nothing)))
  keeps x (asks.Write rs n rv) range =
      by_cap no (word_at (here x) rs) _ (λ c _. by_view no f c rights.Write _ (λ v _ _. by_holds no (nat_lt n v.len) refusals.Range _ (λ _.
      by_none no (barred v.guard.0 (word_at (here x) rv)) refusals.Guarded _ (λ _ us.
      shared_of s h.role h.home _ (whole_word s h.role h.home (record f { users = us }) (with_users us) v.seg (v.base + n) (word_at (here x) rv))))))
  keeps x (asks.Window rd rs base span) range =
      by_cap no (word_at (here x) rs) _ (λ c _. by_view no f c rights.Window _ (λ v found _. by_holds no (fits_in v base span) refusals.Range _ (λ fits.
      by_holds no (nat_lt (size f.windows) MOST_WINDOWS) (refusals.Exhausted Windows) _ (λ room.
      windowed v base span (sees s h.role f w.rows c.uid v found) fits (ltb-true (size f.windows) MOST_WINDOWS room)))))
  keeps x (asks.Length rd rs) range = by_cap no (word_at (here x) rs) _ (λ c _. by_view no f c rights.Read _ (λ v _ _. nothing))
  keeps x (asks.Lookup rd rs name) range =
      by_cap no (word_at (here x) rs) _ (λ c _. by_dir no f c rights.Lookup _ (λ d _ _. by_there no (named d name) refusals.UnknownName _ (λ e _. nothing)))
  keeps x (asks.Bind rs name rv) range =
      by_cap no (word_at (here x) rs) _ (λ c _. by_cap no (word_at (here x) rv) _ (λ v _. by_dir no f c rights.Bind _ (λ d live _.
      by_none no (barred d.guard.0 (Cap v)) refusals.Guarded _ (λ _. by_room no d name _ (λ none room us.
      shared_of s h.role h.home _ (whole_bind s h.role h.home (record f { users = us }) (with_users us) c.uid name v d live none room))))))
  keeps x (asks.Unbind rs name) range =
      by_cap no (word_at (here x) rs) _ (λ c _. by_dir no f c rights.Unbind _ (λ d live _. by_there no (named d name) refusals.UnknownName _ (λ e there.
      by_holds no (not e.kept) refusals.Distinguished _ (λ free us.
      shared_of s h.role h.home _ (whole_unbind s h.role h.home (record f { users = us }) (with_users us) c.uid name e (stands c.uid d name e live there) (not-true e.kept free))))))
  keeps x (asks.List rs) range = by_cap no (word_at (here x) rs) _ (λ c _. by_dir no f c rights.List _ (λ d _ _. nothing))
  keeps x (asks.Impl rd rt ro) range =
      by_cap no (word_at (here x) rt) _ (λ c _. by_cap no (word_at (here x) ro) _ (λ on _. by_there no (at f.types c.uid) (refusals.Absent kinds.Typ) _ (λ _ _.
      by_holds no (has c rights.Impl) (refusals.Lacks rights.Impl) _ (λ _. by_there no (at f.objects on.uid) (refusals.Absent kinds.Object) _ (λ o _.
      by_holds no (o.of == c.uid) refusals.WrongType _ (λ _. nothing))))))
  keeps x (asks.MkSeg rd rs name span guard) range =
      by_cap no (word_at (here x) rs) _ (λ c _. by_holds no (is_length span) refusals.Range _ (λ long. by_make no f c name _ (λ p us.
      let l = length_is span long in
      mkseg_sound s h.role h.home f w c.uid name p us span (guard_of guard) l.some l.few (guard_is guard range.4))))
  keeps x (asks.MkDir rd rs name guard) range =
      by_cap no (word_at (here x) rs) _ (λ c _. by_make no f c name _ (λ p us.
      mkdir_sound s h.role h.home f w c.uid name p us (guard_of guard) (guard_is guard range.3)))
  keeps x (asks.MkType rd rs name) range =
      by_cap no (word_at (here x) rs) _ (λ c _. by_make no f c name _ (λ p us. mktype_sound s h.role h.home f w c.uid name p us))
  keeps x (asks.MkObj rd rt rs name span) range =
      by_cap no (word_at (here x) rt) _ (λ t _. by_cap no (word_at (here x) rs) _ (λ c _. by_holds no (is_length span) refusals.Range _ (λ long.
      by_object_room no f _ (λ few. by_dir no f c rights.Create _ (λ d live _. by_there no (at f.types t.uid) (refusals.Absent kinds.Typ) _ (λ y typ.
      by_holds no (has t rights.Make) (refusals.Lacks rights.Make) _ (λ _. by_room no d name _ (λ none room us.
      let l = length_is span long in
      mkobj_sound s h.role h.home f w c.uid name (record { row = d; live = live; none = none; room = room; few = few }) us t.uid span (ap is_some typ) l.some l.few))))))))
  keeps x (asks.MkCode rd rs name label rl) range =
      by_cap no (word_at (here x) rs) _ (λ c _. by_none no (barred 1 (word_at (here x) rl)) refusals.Guarded _ (λ _. by_make no f c name _ (λ p us.
      mkcode_sound s h.role h.home f w c.uid name p us (record { label = label; link = word_at (here x) rl }) range.3)))
  keeps x (asks.Delete rs name) range =
      by_cap no (word_at (here x) rs) _ (λ c _. by_dir no f c rights.Delete _ (λ d live _. by_there no (named d name) refusals.UnknownName _ (λ e there.
      by_holds no e.kept refusals.NotDistinguished _ (λ kept. by_there no (at f.life e.cap.uid) refusals.NotDistinguished _ (λ kind told.
      let entry = stands c.uid d name e live there in
      dropped kind e.cap.uid c.uid name (entry ∙ ap (λ (z : Named). Some z) (h.kept.no_other c.uid name e entry kept).0) told)))))
  keeps x (asks.Send rp rv) range =
      by_cap no (word_at (here x) rp) _ (λ c _. by_there no (at f.boxes c.uid) (refusals.Absent kinds.Process) _ (λ box live. by_holds no (has c rights.Send) (refusals.Lacks rights.Send) _ (λ _.
      by_none no (barred 1 (word_at (here x) rv)) refusals.Guarded _ (λ _. by_holds no (nat_lt (length box) 8) (refusals.Exhausted Mailbox) _ (λ room us.
      shared_of s h.role h.home _ (whole_post s h.role h.home (record f { users = us }) (with_users us) c.uid (word_at (here x) rv) box live (ltb-true (length box) 8 room)))))))
  keeps x (asks.Recv rd) range = by_there no (at f.boxes x.process) refusals.Empty _ (λ box _. by_received x.process rd box)
  keeps x (asks.Call rp) range =
      by_cap no (word_at (here x) rp) _ (λ c _. by_holds no (nat_lt (length x.frames) 4) (refusals.Exhausted Frames) _ (λ _. by_holds no (nat_le (x.charge + 16) MOST_CHARGE) (refusals.Exhausted Requests) _ (λ _.
      by_there no (at f.codes c.uid) (refusals.Absent kinds.Code) _ (λ code _. by_holds no (has c rights.Enter) (refusals.Lacks rights.Enter) _ (λ _. nothing)))))
  keeps x (asks.Path rs) range =
      by_cap no (word_at (here x) rs) _ (λ c _. by_holds no (nat_lt (length x.path) 4) (refusals.Exhausted Path) _ (λ _. by_dir no f c rights.Lookup _ (λ d _ _. nothing)))
  keeps x (asks.Find rd name) range = by_find no f rd name x.path (λ i dir at_i d live may e there. nothing)
