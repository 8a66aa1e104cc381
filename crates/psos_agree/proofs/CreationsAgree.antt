-- Making segments, directories and objects, from levels that stand for a sound flat state.
use Rattle.std.proofs.Common.{◌≡◌, ℕ, ◌+◌, ◌≤◌, ◌<◌, Bool, true, Some, None, IsSome, List, [], ◌∷◌, length, refl, sym, subst, ap, ◌∙◌, arith}
use Rattle.std.specs.Prelude.{nat_lt, nat_le, is_some}
use Rattle.std.proofs.lemmas.Bool.{and_parts, ltb-true, leb-true}
use Rattle.psos_limits.specs.declared.TheConstants.{MOST_WORDS, MOST_OBJECTS}
use Rattle.psos_table.specs.Table.{Table, at, size}
use Rattle.psos_table.proofs.Tables.{at-put_apart}
use Rattle.psos_caps.specs.Capability.{Capability, full}
use Rattle.psos_caps.specs.declared.rights.Rights.{Rights}
use Rattle.psos_text.specs.declared.name.Name.{Name}
use Rattle.psos_text.specs.Name.{IsName}
use Rattle.psos_words.specs.Words.{zeros, word_at}
use Rattle.psos_words.specs.Directory.{Slot, find, slot_for}
use Rattle.psos_calls.specs.declared.effect.Effect.{Effect}
use Rattle.psos_calls.specs.declared.kind.Kind.{Kind}
use Rattle.psos_calls.specs.declared.kind.Kind.TheVariants as kinds
use Rattle.psos_calls.specs.Levels.Answers.{LevelAnswer}
use Rattle.psos_calls.specs.declared.level_answer.LevelAnswer.TheVariants.{Done, No}
use Rattle.psos_calls.specs.declared.level_call.LevelCall.TheVariants.{DirAt, DirMake, ObjMake, RepOf, TypeAt}
use Rattle.psos_calls.specs.declared.refusal.Refusal.TheVariants.{Absent, Lacks, Range}
use Rattle.psos_calls.specs.declared.reply.Reply.{Reply}
use Rattle.psos_calls.specs.declared.request.Request.{Request}
use Rattle.psos_calls.specs.declared.request.Request.TheVariants as asks
use Rattle.psos_calls.specs.declared.right.Right.TheVariants as rights
use Rattle.psos_calls.specs.Levels.Level7.{first_free}
use Rattle.psos_calls.specs.Levels.Level8.{slot_of}
use Rattle.psos_calls.specs.Levels.{Levels}
use Rattle.psos_calls.specs.Plan.{Plan, Ask, Runs, if_done, if_guard, if_rep}
use Rattle.psos_calls.specs.Language.Capabilities.{uid}
use Rattle.psos_calls.specs.Plan.Objects.{with_segment}
use Rattle.psos_calls.specs.Language.Stores.{guard_of}
use Rattle.psos_calls.specs.Plan.Parts.{Opened, read_rep, with_fresh, enrolled}
use Rattle.psos_calls.specs.Language.Stores.{is_length}
use Rattle.psos_calls.specs.Plan.Parts as parts
use Rattle.psos_calls.specs.Language.Rights.{has}
use Rattle.psos_calls.specs.Language.Script.{Script}
use Rattle.psos_calls.specs.Language.Tests.{if_there, if_holds}
use Rattle.psos_calls.specs.Language.User.{User, here}
use Rattle.psos_model.specs.Answer.Objects.{makes}
use Rattle.psos_model.specs.Flat.Boot.{guard_1}
use Rattle.psos_model.specs.Flat.Changes.{changed, new_segment}
use Rattle.psos_model.specs.declared.change.Change.{Change}
use Rattle.psos_model.specs.declared.change.Change.TheVariants.{Fresh, MakeSegment, MakeDirectory, MakeObject}
use Rattle.psos_model.specs.Flat.{Flat, Object, Directory}
use Rattle.psos_model.specs.Answer.Outcomes.{Outcome, refuse}
use Rattle.psos_model.specs.Answer.Outcomes as outcomes
use Rattle.psos_model.specs.Replay.{System}
use Rattle.psos_model.specs.Sound.{IsSound}
use Rattle.psos_model.specs.Replay.StandsFor.{StandsFor}
use Rattle.psos_agree.specs.Agreement.{Ready, Meets, Agrees}
use Rattle.psos_agree.proofs.FreshIdentifiers.{new_at}
use Rattle.psos_agree.proofs.SegmentsAgree.{stands_fresh}
use Rattle.psos_agree.proofs.PlanWalk.{runs_cap, runs_holds, answers_there, answers_holds}
use Rattle.psos_agree.proofs.EntriesStand.{alone}
use Rattle.psos_agree.proofs.EntryWriting.{read_made, free_apart, rep_taken}
use Rattle.psos_agree.proofs.DirectoryOpening.{dir_row, rep_is, runs_dir_at, runs_rep}
use Rattle.psos_agree.proofs.EntryRoom.{runs_room}
use Rattle.psos_agree.proofs.ObjectEntries.{alone_made, alone_dir_made, runs_object_room, runs_make_in}
use Rattle.psos_agree.proofs.TypeAndCodeCreation.{runs_last}
use Rattle.psos_agree.proofs.Representations.{new_object_none, new_directory_none}
use Rattle.psos_agree.proofs.DirectoriesStand.{new_directory, stands_directory_made}
use Rattle.psos_agree.proofs.SegmentsStand.{stands_made}
use Rattle.psos_agree.proofs.ObjectsStand.{stands_object_made}
use Rattle.psos_agree.proofs.SlotRoom.{slot_is_free}
use Rattle.psos_agree.proofs.CreationWalk.{runs_with_segment, runs_make_object, runs_make_directory}
use Rattle.psos_agree.specs.Changes.{IsAlone, HasRead, made_segment, made_object, made_directory}

-- what a length that passes its test is
record IsLength (len : ℕ) : Type 0 where
  some : 1 ≤ len
  few : len ≤ MOST_WORDS

length_is : (len : ℕ) → is_length len ≡ true → IsLength len
length_is len e = let two = and_parts (nat_lt 0 len) (nat_le len MOST_WORDS) e in record { some = ltb-true 0 len two.0; few = leb-true len MOST_WORDS two.1 }

-- the levels with another next identifier
abbrev given : System → ℕ → System
given y next = record y { levels = record y.levels { next = next } }

module _ {s : Script} {y : System} {f : Flat} (h : StandsFor y f) (sound : IsSound s f) (dir : ℕ) (d : Directory) (live : at f.dirs dir ≡ Some d) where
  -- the representation of a live directory is asked for
  runs_rep_of : (go : ℕ → Plan) (P : Levels → Reply → Effect → Type 0) → Runs (go d.rep) y.levels P → Runs (Ask (RepOf (uid dir)) (λ a. if_rep a go)) y.levels P
  runs_rep_of go P run = (ap is_some (dir_row h sound dir d live), subst (λ (u : ℕ). Runs (go u) y.levels P) (sym (rep_is h sound dir d live)) run)

  -- its representation has an identifier that was given, and so does it
  rep_apart : (u : ℕ) → f.next ≤ u → u ≡ d.rep → ⊥
  rep_apart u past e = let below = (sound.dirs dir d live).rep_below in omega (arith, below, past, e)

  dir_apart : (u : ℕ) → f.next ≤ u → dir ≡ u → ⊥
  dir_apart u past e = let below = (sound.dirs dir d live).below in omega (arith, below, past, e)

  -- what was read of it stays where a segment is made on a new identifier
  still_read : (slots : List Slot) → HasRead y.levels.pages y.levels.segs d.rep (slot_of y.levels.segs d.rep) slots → (u len : ℕ) (guard : Rights) → f.next ≤ u
      → HasRead (made_segment y u len guard).pages (made_segment y u len guard).segs d.rep (slot_of y.levels.segs d.rep) slots
  still_read slots read u len guard past =
      let free = first_free y.levels.pages in
      let slot = slot_of y.levels.segs d.rep in
      read_made y.levels.pages y.levels.segs d.rep slot slots read u (record { slot = free; len = len; guard = guard }) (λ e. rep_apart u past (sym e)) free (Some (zeros MOST_WORDS)) (free_apart y.levels.pages slot (rep_taken h dir d live slot slots read).0)

  -- and it stays alone
  still_alone : (u len : ℕ) (guard : Rights) → f.next ≤ u → IsAlone (changed f (MakeSegment u len guard)) dir d
  still_alone u len guard past = alone_made f dir d (alone s f dir d sound live) u (new_segment len guard) (rep_apart u past)

-- ---- what is made once there is room for it and for its entry

module _ {s : Script} {y : System} {f : Flat} {u : ℕ} (x : User) {request : Request} (r : Ready s y f u x request) (rd : ℕ) (small : rd < 16) (name : Name) (named : IsName name) (dir : Capability) (d : Directory) (live : at f.dirs dir.uid ≡ Some d)
    (slots : List Slot) (read : HasRead y.levels.pages y.levels.segs d.rep (slot_of y.levels.segs d.rep) slots) (few : size f.life < MOST_OBJECTS) (k : ℕ) (place : slot_for slots ≡ Some k) (new : find slots name ≡ None) where
  abbrev h : StandsFor y f
  h = r.stands

  abbrev slot : ℕ
  slot = slot_of y.levels.segs d.rep

  -- the identifier of the new object, which its representation's follows
  abbrev n : ℕ
  n = y.levels.next

  past : f.next ≤ n
  past = omega (arith, h.next)

  rep_past : f.next ≤ n + 1
  rep_past = omega (arith, h.next)

  room : first_free y.levels.pages < length y.levels.pages
  room = slot_is_free h r.sound few r.well.few_users

  no_object : at f.objects n ≡ None
  no_object = new_object_none r.sound n past

  no_directory : at f.dirs n ≡ None
  no_directory = new_directory_none r.sound n past

  -- the levels and the flat state after one new identifier, and after two
  abbrev once : System
  once = given y (n + 1)

  abbrev twice : System
  twice = given y (n + 1 + 1)

  stands_once : StandsFor once (record f { next = f.next + 1 })
  stands_once = stands_fresh h

  stands_twice : StandsFor twice (record f { next = f.next + 1 + 1 })
  stands_twice = stands_fresh stands_once

  abbrev enrols : Kind → Capability → Plan
  enrols kind cap = enrolled (record { slot = slot; slots = slots }) k name kind cap rd

  runs_segment : (len : ℕ) → IsLength len → (guard : Rights)
      → Runs (with_fresh (λ cap. with_segment cap.uid len guard (enrols kinds.Segment cap))) y.levels (Meets x y f (makes f (MakeSegment f.next len guard) dir name kinds.Segment [] rd))
  runs_segment len fits guard =
      let is_new = new_at h r.sound n past in
      let was = still_alone h r.sound dir.uid d live n len guard past in
      let making : ℕ → Change = λ i. MakeSegment i len guard in
      let now : ℕ → Flat = λ i. changed (record f { next = f.next + 1 }) (making i) in
      let made : Outcome = makes f (making f.next) dir name kinds.Segment [] rd in
      let single : IsAlone (now n) dir.uid d = record { segments = was.segments; dirs = was.dirs } in (
        omega (arith, h.next, r.room),
        runs_with_segment stands_once (enrols kinds.Segment (full n)) (Meets x y f made) n len guard is_new room fits.some fits.few
            (runs_last x r rd small name named dir d live slots read few k place new kinds.Segment (making f.next) [] None now refl (made_segment once n len guard) refl (stands_made stands_once n len guard is_new.0 room fits.few) live single (still_read h r.sound dir.uid d live slots read n len guard past)),
      )

  runs_directory : (guard : Rights)
      → Runs (with_fresh (λ cap. with_fresh (λ rep. with_segment rep.uid MOST_WORDS guard (Ask (ObjMake (uid cap.uid) None rep) (λ a. if_done a (Ask (DirMake (uid cap.uid) guard) (λ b. if_done b (enrols kinds.Directory cap)))))))) y.levels
      (Meets x y f (makes f (MakeDirectory f.next (f.next + 1) guard) dir name kinds.Directory (Fresh ∷ []) rd))
  runs_directory guard =
      let is_new = new_at h r.sound (n + 1) rep_past in
      let z : Directory = new_directory (n + 1) guard in
      let was = alone_dir_made f dir.uid d (alone s f dir.uid d r.sound live) n z (rep_apart h r.sound dir.uid d live (n + 1) rep_past) in
      let making : ℕ → Change = λ i. MakeDirectory i (i + 1) guard in
      let now : ℕ → Flat = λ i. changed (record f { next = f.next + 1 + 1 }) (making i) in
      let made : Outcome = makes f (making f.next) dir name kinds.Directory (Fresh ∷ []) rd in
      let single : IsAlone (now n) dir.uid d = record { segments = was.segments; dirs = was.dirs } in
      let there = at-put_apart f.dirs n z dir.uid (dir_apart h r.sound dir.uid d live n past) ∙ live in (
        omega (arith, h.next, r.room),
        (
          omega (arith, h.next, r.room),
          runs_make_directory stands_twice (enrols kinds.Directory (full n)) (Meets x y f made) n (n + 1) guard no_object no_directory is_new room
              (runs_last x r rd small name named dir d live slots read few k place new kinds.Directory (making f.next) (Fresh ∷ []) None now refl (made_directory twice n (n + 1) guard) refl (stands_directory_made stands_twice n (n + 1) guard no_object no_directory is_new.0 room) there single (still_read h r.sound dir.uid d live slots read (n + 1) MOST_WORDS guard rep_past)),
        ),
      )

  runs_object : (of : ℕ) → IsSome (at f.types of) → (len : ℕ) → IsLength len
      → Runs (with_fresh (λ cap. with_fresh (λ rep. with_segment rep.uid len guard_1 (Ask (ObjMake (uid cap.uid) (Some (uid of)) rep) (λ a. if_done a (enrols kinds.Object cap)))))) y.levels
      (Meets x y f (makes f (MakeObject f.next (record { of = of; rep = f.next + 1 }) len) dir name kinds.Object (Fresh ∷ []) rd))
  runs_object of typ len fits =
      let is_new = new_at h r.sound (n + 1) rep_past in
      let was = still_alone h r.sound dir.uid d live (n + 1) len guard_1 rep_past in
      let object : ℕ → Object = λ i. record { of = of; rep = i + 1 } in
      let making : ℕ → Change = λ i. MakeObject i (object i) len in
      let now : ℕ → Flat = λ i. changed (record f { next = f.next + 1 + 1 }) (making i) in
      let made : Outcome = makes f (making f.next) dir name kinds.Object (Fresh ∷ []) rd in
      let single : IsAlone (now n) dir.uid d = record { segments = was.segments; dirs = was.dirs } in (
        omega (arith, h.next, r.room),
        (
          omega (arith, h.next, r.room),
          runs_make_object stands_twice (enrols kinds.Object (full n)) (Meets x y f made) n (object n) len no_object no_directory typ is_new room fits.some fits.few
              (runs_last x r rd small name named dir d live slots read few k place new kinds.Object (making f.next) (Fresh ∷ []) None now refl (made_object twice n (object n) len) refl (stands_object_made stands_twice n (object n) len is_new.0 room fits.few) live single (still_read h r.sound dir.uid d live slots read (n + 1) len guard_1 rep_past)),
        ),
      )

-- ---- the requests

pub mkseg_agrees : (rd rs : ℕ) (name : Name) (len g : ℕ) → Agrees (asks.MkSeg rd rs name len g)
mkseg_agrees rd rs name len g s y f u x r =
    let h = r.stands in
    runs_cap x h (word_at (here x) rs) _ _ _ (λ dir is_dir.
    let go : Opened → ℕ → Plan = λ d k. with_fresh (λ cap. with_segment cap.uid len (guard_of g) (enrolled d k name kinds.Segment cap rd)) in
    let made : Outcome = makes f (MakeSegment f.next len (guard_of g)) dir name kinds.Segment [] rd in
    runs_holds x h (is_length len) Range (parts.make_in dir name go) (outcomes.make_in f dir name made) (λ fits.
    runs_make_in x h r.sound dir name go made (λ few d live slots read k place new.
    runs_segment x r rd r.in_range.0 name r.in_range.2 dir d live slots read few k place new len (length_is len fits) (guard_of g))))

pub mkdir_agrees : (rd rs : ℕ) (name : Name) (g : ℕ) → Agrees (asks.MkDir rd rs name g)
mkdir_agrees rd rs name g s y f u x r =
    let h = r.stands in
    runs_cap x h (word_at (here x) rs) _ _ _ (λ dir is_dir.
    let last : Opened → ℕ → Capability → Plan = λ d k cap. Ask (DirMake (uid cap.uid) (guard_of g)) (λ b. if_done b (enrolled d k name kinds.Directory cap rd)) in
    let go : Opened → ℕ → Plan = λ d k. with_fresh (λ cap. with_fresh (λ rep. with_segment rep.uid MOST_WORDS (guard_of g) (Ask (ObjMake (uid cap.uid) None rep) (λ a. if_done a (last d k cap))))) in
    let made : Outcome = makes f (MakeDirectory f.next (f.next + 1) (guard_of g)) dir name kinds.Directory (Fresh ∷ []) rd in
    runs_make_in x h r.sound dir name go made (λ few d live slots read k place new.
    runs_directory x r rd r.in_range.0 name r.in_range.2 dir d live slots read few k place new (guard_of g)))

pub mkobj_agrees : (rd rt rs : ℕ) (name : Name) (len : ℕ) → Agrees (asks.MkObj rd rt rs name len)
mkobj_agrees rd rt rs name len s y f u x r =
    let h = r.stands in
    runs_cap x h (word_at (here x) rt) _ _ _ (λ of is_of.
    runs_cap x h (word_at (here x) rs) _ _ _ (λ dir is_dir.
    let go : Opened → ℕ → Plan = λ d k. with_fresh (λ cap. with_fresh (λ rep. with_segment rep.uid len guard_1 (Ask (ObjMake (uid cap.uid) (Some (uid of.uid)) rep) (λ e. if_done e (enrolled d k name kinds.Object cap rd))))) in
    let opens : Opened → Plan = λ d. parts.if_room d name (go d) in
    let typed : ℕ → LevelAnswer → Plan = λ rep c. if_done c (read_rep rep opens) in
    let looks : ℕ → Plan = λ rep. Ask (TypeAt of) (typed rep) in
    let guarded : ℕ → Plan = λ guard. Ask (RepOf (uid dir.uid)) (λ b. if_rep b looks) in
    let made : Outcome = makes f (MakeObject f.next (record { of = of.uid; rep = f.next + 1 }) len) dir name kinds.Object (Fresh ∷ []) rd in
    let may : Directory → Outcome = λ d. if_holds (has of rights.Make) (refuse (Lacks rights.Make)) (outcomes.if_room d name made) in
    let res : Directory → Outcome = λ d. if_there (at f.types of.uid) (refuse (Absent kinds.Typ)) (λ _. may d) in
    let opened : Plan = Ask (DirAt dir rights.Create) (λ a. if_guard a guarded) in
    let answered : Outcome = outcomes.if_dir f dir rights.Create res in
    runs_holds x h (is_length len) Range (parts.if_object_room opened) (outcomes.if_object_room f answered) (λ fits.
    runs_object_room x h r.sound opened answered (λ few.
    runs_dir_at h r.sound x dir rights.Create guarded res (λ d live has_right.
    runs_rep_of h r.sound dir.uid d live looks (Meets x y f (res d)) (
      tt,
      answers_there x h (typed d.rep) (λ _. refl) (at y.levels.types.types of.uid) (at f.types of.uid) (ap (λ (t : Table Bool). at t of.uid) h.types) (Absent kinds.Typ) (λ _. if_holds (has of rights.Make) (No (Lacks rights.Make)) Done) (λ _. may d) (λ v typ.
          answers_holds x h (typed d.rep) (λ _. refl) (has of rights.Make) (has of rights.Make) refl (Lacks rights.Make) Done (outcomes.if_room d name made) (λ makes_it.
          runs_rep h r.sound dir.uid d live opens (Meets x y f (outcomes.if_room d name made)) (λ slots read.
          let slot = slot_of y.levels.segs d.rep in
          runs_room x h dir.uid d live slot slots read name (go (record { slot = slot; slots = slots })) made (λ k place new.
          runs_object x r rd r.in_range.0 name r.in_range.3 dir d live slots read few k place new of.uid (ap is_some typ) len (length_is len fits))))),
    ))))))
