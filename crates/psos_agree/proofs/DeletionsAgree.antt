-- Segments, objects and directories are deleted, and each kind of user object is, from levels that stand for a sound flat state.
use Rattle.std.proofs.Common.{◌≡◌, ℕ, Bool, Option, Some, None, List, [], ◌∷◌, IsSome, length, eqb, refl, sym, subst, ap, ◌∙◌}
use Rattle.std.specs.FinMap.{empty_of_len, get-empty, get, len}
use Rattle.std.proofs.lemmas.Bool.{eqb-true}
use Rattle.std.proofs.lemmas.Option.{none-some}
use Rattle.psos_limits.specs.declared.TheConstants.{MOST_WORDS}
use Rattle.psos_table.specs.Table.{Table, at}
use Rattle.psos_table.proofs.Tables.{at-without_apart}
use Rattle.psos_text.specs.declared.name.Name.{Name}
use Rattle.psos_words.specs.Directory.{Slot, Found, find}
use Rattle.psos_calls.specs.Language.Names.{name_cmp}
use Rattle.psos_calls.specs.declared.kind.Kind.{Kind}
use Rattle.psos_calls.specs.declared.kind.Kind.TheVariants as kinds
use Rattle.psos_calls.specs.declared.level_call.LevelCall.TheVariants.{DirGone}
use Rattle.psos_calls.specs.declared.refusal.Refusal.TheVariants.{NotEmpty}
use Rattle.psos_calls.specs.declared.request.Request.TheVariants as asks
use Rattle.psos_calls.specs.Levels.Level8.{slot_of}
use Rattle.psos_calls.specs.Plan.{Plan, Ask, Runs, if_done}
use Rattle.psos_calls.specs.Language.Capabilities.{uid}
use Rattle.psos_calls.specs.Plan as plans
use Rattle.psos_calls.specs.Plan.Objects.{drop_kind, drop_object, is_empty}
use Rattle.psos_calls.specs.Plan.Parts.{Opened}
use Rattle.psos_calls.specs.Language.Script.{Script}
use Rattle.psos_calls.specs.Language.Tests.{if_there, if_holds}
use Rattle.psos_calls.specs.Language.User.{User}
use Rattle.psos_model.specs.Answer.Objects.{drops}
use Rattle.psos_model.specs.Flat.Changes.{changed}
use Rattle.psos_model.specs.declared.change.Change.{Change}
use Rattle.psos_model.specs.declared.change.Change.TheVariants.{DropSegment, DropObject, DropDirectory, Unregister}
use Rattle.psos_model.specs.Flat.{Flat, Segment, Object, Directory, Named, named}
use Rattle.psos_model.specs.Answer.Outcomes.{Outcome, refuse, does}
use Rattle.psos_model.specs.Replay.{System}
use Rattle.psos_model.specs.Sound.Roles.{IsUserObject}
use Rattle.psos_model.specs.Sound.{IsSound}
use Rattle.psos_model.specs.Replay.StandsFor.{StandsFor, IsLive, named_of}
use Rattle.psos_agree.specs.Agreement.{Meets, Agrees}
use Rattle.psos_agree.proofs.PlanWalk.{runs_holds}
use Rattle.psos_agree.proofs.SegmentWords.{segment_seen, slots_apart}
use Rattle.psos_agree.proofs.EntriesStand.{alone}
use Rattle.psos_agree.proofs.EntryWriting.{read_gone, rep_taken, rep_holds}
use Rattle.psos_agree.proofs.DirectoryOpening.{runs_read}
use Rattle.psos_agree.proofs.EntryRoom.{none_is}
use Rattle.psos_agree.proofs.ObjectEntries.{row_there, alone_gone, alone_dir_gone, runs_forgotten}
use Rattle.psos_agree.proofs.TypeAndCodeCreation.{forgets, runs_delete}
use Rattle.psos_agree.proofs.TypeAndCodeDeletion.{runs_drop_code, runs_drop_type}
use Rattle.psos_agree.proofs.DirectoriesStand.{stands_directory_gone}
use Rattle.psos_agree.proofs.SegmentsStand.{stands_gone}
use Rattle.psos_agree.proofs.ObjectsStand.{stands_object_gone}
use Rattle.psos_agree.proofs.CreationWalk.{runs_drop_segment, runs_drop_object, runs_drop_directory}
use Rattle.psos_agree.specs.Changes.{IsAlone, HasRead, gone_segment, gone_object, gone_directory}

-- a directory in which a name stands is not empty
some_names : (d : Directory) (name : Name) (e : Named) → named d name ≡ Some e → len d.names ≡ 0 → ⊥
some_names d name e is none = none-some e (sym (get-empty name_cmp name) ∙ (ap (λ m. get m name) (sym (empty_of_len d.names none)) ∙ is))

module _ (x : User) {s : Script} {y : System} {f : Flat} (h : StandsFor y f) (sound : IsSound s f) (d : ℕ) (z : Directory) (live : at f.dirs d ≡ Some z)
    (slots : List Slot) (read : HasRead y.levels.pages y.levels.segs z.rep (slot_of y.levels.segs z.rep) slots) (name : Name) (found : Found) (there : find slots name ≡ Some found) where
  -- the identifier of what goes, and what goes last
  abbrev n : ℕ
  n = found.entry.cap.uid

  abbrev slot : ℕ
  slot = slot_of y.levels.segs z.rep

  abbrev last : Plan
  last = forgets (record { slot = slot; slots = slots }) found

  abbrev entry_gone : List Change
  entry_gone = Unregister n d name ∷ []

  -- what was read of the directory stays where another segment goes
  still_read : (u size guard : ℕ) → IsLive y u size guard → (z.rep ≡ u → ⊥) → HasRead (gone_segment y u).pages (gone_segment y u).segs z.rep slot slots
  still_read u size guard at_u apart =
      read_gone y.levels.pages y.levels.segs (gone_segment y u).segs z.rep slot slots read u apart refl (slot_of y.levels.segs u) None (λ e. apart (slots_apart h z.rep u MOST_WORDS z.guard.0 size guard (h.reps d z live) at_u e))

  -- a segment is no representation of the directory
  segment_apart : (u : ℕ) (t : Segment) → at f.segments u ≡ Some t → z.rep ≡ u → ⊥
  segment_apart u t at_u e = segment_seen s f u t sound at_u d z live (sym e)

  module _ (told : IsSome (at y.levels.life n)) where
    runs_segment_dropped : (t : Segment) → at f.segments n ≡ Some t → Runs (drop_kind kinds.Segment n last) y.levels (Meets x y f (drops f kinds.Segment n entry_gone))
    runs_segment_dropped t at_n =
        let seg = h.segments n t at_n in
        let was = alone_gone f d z (alone s f d z sound live) n in
        let now : Flat = changed f (DropSegment n) in
        let single : IsAlone now d z = record { segments = was.segments; dirs = was.dirs } in
        runs_drop_segment h last (Meets x y f (does (DropSegment n ∷ entry_gone) None)) n (length t.words) t.guard.0 seg
        (runs_forgotten x (gone_segment y n) now (stands_gone h sound n t at_n) d z live single slot slots (still_read n (length t.words) t.guard.0 seg (segment_apart n t at_n)) name (DropSegment n ∷ entry_gone) None found there n refl told)

    runs_object_dropped : (o : Object) → at f.objects n ≡ Some o → Runs (drop_kind kinds.Object n last) y.levels (Meets x y f (drops f kinds.Object n entry_gone))
    runs_object_dropped o at_n =
        let good = sound.objects n o at_n in
        let seg = h.segments o.rep good.rep good.live in
        let was = alone_gone f d z (alone s f d z sound live) o.rep in
        let now : Flat = changed f (DropObject n o.rep) in
        let single : IsAlone now d z = record { segments = was.segments; dirs = was.dirs } in
        let changes : List Change = DropObject n o.rep ∷ entry_gone in
        let goes : Option Object → Outcome = λ q. if_there q (refuse NotEmpty) (λ p. does (DropObject n p.rep ∷ entry_gone) None) in
        subst (λ (q : Option Object). Runs (drop_kind kinds.Object n last) y.levels (Meets x y f (goes q))) (sym at_n)
        (runs_drop_object h last (Meets x y f (does changes None)) s sound n o at_n
        (runs_forgotten x (gone_object y n o.rep) now (stands_object_gone h sound n o at_n) d z live single slot slots (still_read o.rep (length good.rep.words) good.rep.guard.0 seg (segment_apart o.rep good.rep good.live)) name changes None found there n refl told))

    runs_directory_dropped : (e : Named) → named z name ≡ Some e → (w : Directory) → at f.dirs n ≡ Some w → Runs (drop_kind kinds.Directory n last) y.levels (Meets x y f (drops f kinds.Directory n entry_gone))
    runs_directory_dropped e is w at_n =
        let changes : List Change = DropDirectory n ∷ entry_gone in
        let made : Outcome = does changes None in
        let goes : Plan = Ask (DirGone (uid n)) (λ a. if_done a (drop_object n last)) in
        let opens : Opened → Plan = λ inner. if_holds (is_empty inner) (plans.refuse NotEmpty) goes in
        let empties : Directory → Outcome = λ w. if_holds (eqb (len w.names) 0) (refuse NotEmpty) made in
        let P : Option Directory → Type 0 = λ q. Runs (drop_kind kinds.Directory n last) y.levels (Meets x y f (if_there q (refuse NotEmpty) empties)) in
        subst P (sym at_n)
        (runs_read h sound n w at_n opens (Meets x y f (empties w)) (λ inside inner.
        let there_slot = slot_of y.levels.segs w.rep in
        let same = none_is _ w inside (rep_taken h n w at_n there_slot inside inner).1 (rep_holds h n w at_n there_slot inside inner) inner.decodes in
        subst (λ (b : Bool). Runs (if_holds b (plans.refuse NotEmpty) goes) y.levels (Meets x y f (empties w))) (sym same)
        (runs_holds x h (eqb (len w.names) 0) NotEmpty goes made (λ empty.
        let apart : d ≡ n → ⊥ = λ e_n.
        let same_dir : Some z ≡ Some w = sym live ∙ (ap (at f.dirs) e_n ∙ at_n) in
        some_names z name e is (ap (λ (q : Option Directory). if_there q 0 (λ v. len v.names)) same_dir ∙ eqb-true (len w.names) 0 empty) in
        let rep_apart : z.rep ≡ w.rep → ⊥ = λ same_rep. apart ((alone s f n w sound at_n).dirs d z live same_rep) in
        let was = alone_dir_gone f d z (alone s f d z sound live) n in
        let now : Flat = changed f (DropDirectory n) in
        let single : IsAlone now d z = record { segments = was.segments; dirs = was.dirs } in
        runs_drop_directory h last (Meets x y f made) s sound n w at_n
        (runs_forgotten x (gone_directory y n w.rep) now (stands_directory_gone h sound n w at_n) d z (at-without_apart f.dirs n d apart ∙ live) single slot slots (still_read w.rep MOST_WORDS w.guard.0 (h.reps n w at_n) rep_apart) name changes None found there n refl told)))))

  -- each kind of user object
  runs_dropped : (e : Named) → named z name ≡ Some e → (kind : Kind) → at f.life n ≡ Some kind → Runs (drop_kind kind n last) y.levels (Meets x y f (drops f kind n entry_gone))
  runs_dropped e is kind is_kind = by kind ((sound.life n kind).0 is_kind) is_kind (subst (λ (q : Option Kind). IsSome q) (sym (ap (λ (t : Table Kind). at t n) h.life ∙ is_kind)) refl)
    where
      by : (k : Kind) → IsUserObject s sound.role f n k → at f.life n ≡ Some k → IsSome (at y.levels.life n) → Runs (drop_kind k n last) y.levels (Meets x y f (drops f k n entry_gone))
      by kinds.Segment user is_k told = let one = row_there f.segments n user.0 in runs_segment_dropped told one.row one.there
      by kinds.Directory user is_k told = let one = row_there f.dirs n user.0 in runs_directory_dropped told e is one.row one.there
      by kinds.Typ user is_k told = runs_drop_type x h sound d z live slots read name found there is_k
      by kinds.Object user is_k told = let one = row_there f.objects n user in runs_object_dropped told one.row one.there
      by kinds.Code user is_k told = runs_drop_code x h sound d z live slots read name found there is_k
      by kinds.Process user is_k told = absurd user

pub delete_agrees : (rs : ℕ) (name : Name) → Agrees (asks.Delete rs name)
delete_agrees rs name s y f u x r =
    runs_delete rs name s y f u x r (λ dir d live slots read found there is kept kind is_kind. runs_dropped x r.stands r.sound dir.uid d live slots read name found there (named_of found) is kind is_kind)
