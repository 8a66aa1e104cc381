-- Levels that stand for a flat state still do once a directory is made or goes. States docs/promises.md, "Stands for".
use Rattle.std.proofs.Common.{◌≡◌, ℕ, ◌<◌, Bool, cond, List, length, Option, Some, None, refl, sym, subst, ap, ◌∙◌, inl, inr}
use Rattle.std.specs.Prelude.{not}
use Rattle.std.specs.FinMap.{empty}
use Rattle.std.specs.Option.{option_map}
use Rattle.std.proofs.lemmas.Option.{same_Some, none-some}
use Rattle.std.proofs.lemmas.Bool.{cases_eq, ne_eqb}
use Rattle.std.proofs.lemmas.Map.Entries.{option_filter}
use Rattle.psos_limits.specs.declared.TheConstants.{MOST_WORDS}
use Rattle.psos_caps.specs.declared.rights.Rights.{Rights}
use Rattle.psos_table.specs.Table.{Table, at, put, without, kept}
use Rattle.psos_table.proofs.Tables.{at-put_here, at-put_apart, at-without_here, at-without_apart, at-kept, row-without, same_table}
use Rattle.psos_words.specs.declared.word.Word.{Word}
use Rattle.psos_words.specs.Words.{zeros, word_at}
use Rattle.psos_calls.specs.declared.seg_row.SegRow.{SegRow}
use Rattle.psos_calls.specs.declared.win_row.WinRow.{WinRow}
use Rattle.psos_calls.specs.Language.Script.{Script}
use Rattle.psos_calls.specs.Levels.Level7.{first_free}
use Rattle.psos_calls.specs.Language.Views.{is_not_over}
use Rattle.psos_model.specs.Flat.{Flat, Segment, Directory}
use Rattle.psos_model.specs.Flat.Changes.{changed}
use Rattle.psos_model.specs.declared.change.Change.TheVariants.{MakeDirectory, DropDirectory}
use Rattle.psos_model.specs.Replay.{System}
use Rattle.psos_model.specs.Sound.{IsSound}
use Rattle.psos_model.specs.Replay.StandsFor.{StandsFor, HoldsEntries, stored}
use Rattle.psos_agree.specs.Changes.{made_directory, gone_directory}
use Rattle.psos_agree.proofs.SegmentWords.{segment_seen}
use Rattle.psos_agree.proofs.BootWords.{root_entries}
use Rattle.psos_agree.proofs.SegmentSlots.{IsLiveIn, row_of_put, first_is_free, made_slotted, made_live_here, made_live_still, made_words_here, made_words_still, gone_slotted, gone_live_still, gone_words_still}
use Rattle.psos_agree.proofs.SegmentsStand.{slotted}
use Rattle.psos_agree.proofs.Representations.{sound_apart, no_object}
use Rattle.psos_agree.proofs.ObjectsStand.{directory_put, directory_without}

-- ---- the rows of level 10

module _ (m : Table Rights) (dirs : Table Directory) (each : (v : ℕ) → at m v ≡ option_map (λ (d : Directory). d.guard) (at dirs v)) (u : ℕ) where
  guard_put : (d : Directory) (v : ℕ) → at (put m u d.guard) v ≡ option_map (λ (d : Directory). d.guard) (at (put dirs u d) v)
  guard_put d v = elim (cases_eq v u) [
    | inl e ↦ ap (at (put m u d.guard)) e ∙ (at-put_here m u d.guard ∙ ap (option_map (λ (d : Directory). d.guard)) (sym (ap (at (put dirs u d)) e ∙ at-put_here dirs u d)))
    | inr apart ↦ at-put_apart m u d.guard v apart ∙ (each v ∙ ap (option_map (λ (d : Directory). d.guard)) (sym (at-put_apart dirs u d v apart)))
  ]

  guard_without : (v : ℕ) → at (without m u) v ≡ option_map (λ (d : Directory). d.guard) (at (without dirs u) v)
  guard_without v = elim (cases_eq v u) [
    | inl e ↦ ap (at (without m u)) e ∙ (at-without_here m u ∙ ap (option_map (λ (d : Directory). d.guard)) (sym (ap (at (without dirs u)) e ∙ at-without_here dirs u)))
    | inr apart ↦ at-without_apart m u v apart ∙ (each v ∙ ap (option_map (λ (d : Directory). d.guard)) (sym (at-without_apart dirs u v apart)))
  ]

-- ---- a directory is made

abbrev pub new_directory : ℕ → Rights → Directory
new_directory rep guard = record { guard = guard; rep = rep; names = empty }

-- words of data 0 hold no entries
no_entries : (rep : ℕ) (guard : Rights) → HoldsEntries (zeros MOST_WORDS) (new_directory rep guard)
no_entries rep guard = record { slots = root_entries.slots; decodes = root_entries.decodes; entries = root_entries.entries }

-- a directory is made, on an identifier that names no object and no directory, with a representation whose identifier is new at level 8, in a slot that is free
pub stands_directory_made : {y : System} {f : Flat} → StandsFor y f → (u rep : ℕ) (guard : Rights) → at f.objects u ≡ None → at f.dirs u ≡ None
    → at y.levels.segs.segments rep ≡ None → first_free y.levels.pages < length y.levels.pages
    → StandsFor (record y { levels = made_directory y u rep guard }) (changed f (MakeDirectory u rep guard))
stands_directory_made {y = y} {f = f} h u rep guard no_obj no_dir new room =
    let s = y.levels.segs in
    let pages = y.levels.pages in
    let slot = first_free pages in
    let free = first_is_free pages in
    let k = slotted h in
    let now = made_slotted s pages k rep slot MOST_WORDS guard new free room in
    let d : Directory = new_directory rep guard in
    let segs : Table SegRow = put s.segments rep (record { slot = slot; len = MOST_WORDS; guard = guard }) in
    let words : ℕ → List Word = λ v. stored (record y { levels = made_directory y u rep guard }) v in
    record {
      next = h.next;
      codes = h.codes;
      boxes = h.boxes;
      life = h.life;
      types = h.types;
      windows = h.windows;
      users = h.users;
      dirs = guard_put y.levels.dirs f.dirs h.dirs u d;
      objects = directory_put y.levels.types.objects f.objects f.dirs h.objects u no_obj d;
      segments = λ v r is. made_live_still s pages k rep slot MOST_WORDS guard new free room v (length r.words) r.guard.0 (h.segments v r is);
      reps = λ v x is. elim (row_of_put f.dirs u d v x is) [
        | inl a ↦ subst (λ (z : Directory). IsLiveIn segs z.rep MOST_WORDS z.guard.0) (sym a.1) (made_live_here s pages k rep slot MOST_WORDS guard new free room)
        | inr a ↦ made_live_still s pages k rep slot MOST_WORDS guard new free room x.rep MOST_WORDS x.guard.0 (h.reps v x a.1)
      ];
      no_other = λ v r is. elim (row_of_put s.segments rep _ v r is) [
        | inl a ↦ inr (u, (d, at-put_here f.dirs u d, sym a.0))
        | inr a ↦ elim (h.no_other v r a.1) [
          | inl flat ↦ inl flat
          | inr old ↦
              let apart : old.0 ≡ u → ⊥ = λ e. none-some old.1.0 (sym no_dir ∙ (ap (at f.dirs) (sym e) ∙ old.1.1)) in
              inr (old.0, (old.1.0, at-put_apart f.dirs u d old.0 apart ∙ old.1.1, old.1.2))
        ]
      ];
      apart = now.apart;
      taken = now.taken;
      used = now.used;
      slots = now.slots;
      words = λ v r is i below.
          ap (λ (ws : List Word). word_at ws i) (made_words_still s pages k rep slot MOST_WORDS guard new free room v (length r.words) r.guard.0 (h.segments v r is)) ∙ h.words v r is i below;
      entries = λ v x is. elim (row_of_put f.dirs u d v x is) [
        | inl a ↦
            let here : HoldsEntries (words rep) d = subst (λ (ws : List Word). HoldsEntries ws d) (sym (made_words_here s pages k rep slot MOST_WORDS guard new free room)) (no_entries rep guard) in
            subst (λ (z : Directory). HoldsEntries (words z.rep) z) (sym a.1) here
        | inr a ↦ subst (λ (ws : List Word). HoldsEntries ws x) (sym (made_words_still s pages k rep slot MOST_WORDS guard new free room x.rep MOST_WORDS x.guard.0 (h.reps v x a.1))) (h.entries v x a.1)
      ];
    }

-- ---- a directory goes

-- no window is over the representation of a directory
no_window_over : (s : Script) (f : Flat) (u : ℕ) (x : Directory) → IsSound s f → at f.dirs u ≡ Some x → kept (is_not_over x.rep) f.windows ≡ f.windows
no_window_over s f u x sound live = same_table (kept (is_not_over x.rep) f.windows) f.windows (λ v. at-kept (is_not_over x.rep) f.windows v ∙ by_row v (at f.windows v) refl)
  where
    by_row : (v : ℕ) (o : Option WinRow) → at f.windows v ≡ o → option_filter (is_not_over x.rep) o ≡ o
    by_row v None is = refl
    by_row v (Some w) is =
        let good = sound.windows v w is in
        let far : w.seg.0 ≡ x.rep → ⊥ = segment_seen s f w.seg.0 good.under sound good.live u x live in
        ap (λ (b : Bool). cond (not b) (Some w) None) (ne_eqb w.seg.0 x.rep far)

-- a live directory goes, and its representation with it
pub stands_directory_gone : {s : Script} {y : System} {f : Flat} → StandsFor y f → IsSound s f → (u : ℕ) (x : Directory) → at f.dirs u ≡ Some x
    → StandsFor (record y { levels = gone_directory y u x.rep }) (changed f (DropDirectory u))
stands_directory_gone {s = s} {y = y} {f = f} h sound u x live =
    let segs = y.levels.segs in
    let pages = y.levels.pages in
    let k = slotted h in
    let rep = x.rep in
    let old = h.reps u x live in
    let now = gone_slotted segs pages k rep old.0 old.1 in
    let flat_apart : (v : ℕ) (t : Segment) → at f.segments v ≡ Some t → v ≡ rep → ⊥ = λ v t is. segment_seen s f v t sound is u x live in
    let rep_apart : (v : ℕ) (z : Directory) → at f.dirs v ≡ Some z → (v ≡ u → ⊥) → z.rep ≡ rep → ⊥ = λ v z is far e. far ((sound_apart sound).one v u z x is live e) in
    record {
      next = h.next;
      codes = h.codes;
      boxes = h.boxes;
      life = h.life;
      types = h.types;
      windows = ap (kept (is_not_over rep)) h.windows ∙ no_window_over s f u x sound live;
      users = h.users;
      dirs = guard_without y.levels.dirs f.dirs h.dirs u;
      objects = directory_without y.levels.types.objects f.objects f.dirs h.objects u (no_object sound u x live);
      segments = λ v r is. gone_live_still segs pages k rep old.0 old.1 v (length r.words) r.guard.0 (flat_apart v r is) (h.segments v r is);
      reps = λ v z is.
          let was = row-without f.dirs u v z is in
          gone_live_still segs pages k rep old.0 old.1 z.rep MOST_WORDS z.guard.0 (rep_apart v z was.0 was.1) (h.reps v z was.0);
      no_other = λ v r is.
          let was = row-without segs.segments rep v r is in
          elim (h.no_other v r was.0) [
            | inl flat ↦ inl flat
            | inr there ↦
                let apart : there.0 ≡ u → ⊥ = λ e.
                let same : there.1.0 ≡ x = same_Some there.1.0 x (sym there.1.1 ∙ (ap (at f.dirs) e ∙ live)) in
                was.1 (sym there.1.2 ∙ ap (λ (z : Directory). z.rep) same) in
                inr (there.0, (there.1.0, at-without_apart f.dirs u there.0 apart ∙ there.1.1, there.1.2))
          ];
      apart = now.apart;
      taken = now.taken;
      used = now.used;
      slots = now.slots;
      words = λ v r is i below.
          ap (λ (ws : List Word). word_at ws i) (gone_words_still segs pages k rep old.0 old.1 v (length r.words) r.guard.0 (flat_apart v r is) (h.segments v r is)) ∙ h.words v r is i below;
      entries = λ v z is.
          let was = row-without f.dirs u v z is in
          subst (λ (ws : List Word). HoldsEntries ws z) (sym (gone_words_still segs pages k rep old.0 old.1 z.rep MOST_WORDS z.guard.0 (rep_apart v z was.0 was.1) (h.reps v z was.0))) (h.entries v z was.0);
    }
