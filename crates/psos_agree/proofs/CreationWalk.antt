-- Rules to walk the parts of plans that make and drop segments, objects and directories. States docs/requests.md, "Plans".
use Rattle.std.proofs.Common.{◌≡◌, ℕ, ◌<◌, ◌≤◌, Bool, Option, Some, None, ap, ◌∙◌, arith, length}
use Rattle.std.specs.Prelude.{IsSome, is_some}
use Rattle.std.specs.Option.{option_map}
use Rattle.psos_limits.specs.declared.TheConstants.{MOST_WORDS}
use Rattle.psos_caps.specs.Capability.{full}
use Rattle.psos_caps.specs.declared.rights.Rights.{Rights}
use Rattle.psos_table.specs.Table.{Table, at}
use Rattle.psos_calls.specs.declared.effect.Effect.{Effect}
use Rattle.psos_calls.specs.declared.reply.Reply.{Reply}
use Rattle.psos_calls.specs.declared.level_call.LevelCall.TheVariants.{ObjMake, DirMake, DirGone}
use Rattle.psos_calls.specs.Language.Script.{Script}
use Rattle.psos_calls.specs.Levels.Level7.{first_free}
use Rattle.psos_calls.specs.Levels.Level8.{IsNew}
use Rattle.psos_calls.specs.Levels.{Levels}
use Rattle.psos_calls.specs.Plan.{Plan, Ask, Runs, if_done}
use Rattle.psos_calls.specs.Language.Capabilities.{uid}
use Rattle.psos_calls.specs.Plan.Objects.{with_segment, drop_segment, drop_object}
use Rattle.psos_model.specs.Flat.{Flat, Object, Directory}
use Rattle.psos_model.specs.Replay.{System}
use Rattle.psos_model.specs.Sound.{IsSound}
use Rattle.psos_model.specs.Replay.StandsFor.{StandsFor, IsLive, object_row}
use Rattle.psos_agree.specs.Changes.{made_segment, gone_segment, made_object, gone_object, made_directory, gone_directory}
use Rattle.psos_agree.proofs.SegmentWords.{is_taken}
use Rattle.psos_agree.proofs.Representations.{no_object}
use Rattle.psos_agree.proofs.ObjectsStand.{rep_of_object, rep_of_directory}

module _ {y : System} {f : Flat} (h : StandsFor y f) (go : Plan) (P : Levels → Reply → Effect → Type 0) where
  -- a segment is made: its identifier is new at level 8, a slot is free, and its length is one of a segment
  pub runs_with_segment : (u len : ℕ) (guard : Rights) → IsNew y.levels.segs u → first_free y.levels.pages < length y.levels.pages → 1 ≤ len → len ≤ MOST_WORDS
      → Runs go (made_segment y u len guard) P → Runs (with_segment u len guard go) y.levels P
  runs_with_segment u len guard new room some few run = (room, ((new, omega (arith, room, h.slots), some, few), run))

  -- a segment goes: it is live at level 8
  pub runs_drop_segment : (u len guard : ℕ) → IsLive y u len guard → Runs go (gone_segment y u) P → Runs (drop_segment u go) y.levels P
  runs_drop_segment u len guard live run = (ap is_some live.1, ((is_taken h u len guard live).0, run))

  -- an object goes, and its representation
  pub runs_drop_object : (s : Script) → IsSound s f → (u : ℕ) (o : Object) → at f.objects u ≡ Some o → Runs go (gone_object y u o.rep) P → Runs (drop_object u go) y.levels P
  runs_drop_object s sound u o live run =
      let there : IsSome (at y.levels.types.objects u) = ap is_some (h.objects u ∙ ap (λ (p : Option Object). object_row p (at f.dirs u)) live) in
      let good = sound.objects u o live in
      let seg = h.segments o.rep good.rep good.live in
      (there, rw (rep_of_object h u o live) (ap is_some seg.1, ((is_taken h o.rep (length good.rep.words) good.rep.guard.0 seg).0, run)))

  -- a directory goes from level 10 and then as an object goes
  pub runs_drop_directory : (s : Script) → IsSound s f → (u : ℕ) (x : Directory) → at f.dirs u ≡ Some x → Runs go (gone_directory y u x.rep) P
      → Runs (Ask (DirGone (uid u)) (λ a. if_done a (drop_object u go))) y.levels P
  runs_drop_directory s sound u x live run =
      let here : IsSome (at y.levels.dirs u) = ap is_some (h.dirs u ∙ ap (λ (p : Option Directory). option_map (λ (d : Directory). d.guard) p) live) in
      let there : IsSome (at y.levels.types.objects u) = ap is_some (h.objects u ∙ (ap (λ (p : Option Object). object_row p (at f.dirs u)) (no_object sound u x live) ∙ ap (object_row None) live)) in
      let seg = h.reps u x live in
      (here, (there, rw (rep_of_directory h sound u x live) (ap is_some seg.1, ((is_taken h x.rep MOST_WORDS x.guard.0 seg).0, run))))

  -- a new identifier has no row at level 9
  no_object_row : (u : ℕ) → at f.objects u ≡ None → at f.dirs u ≡ None → at y.levels.types.objects u ≡ None
  no_object_row u no_obj no_dir = h.objects u ∙ (ap (λ (p : Option Object). object_row p (at f.dirs u)) no_obj ∙ ap (object_row None) no_dir)

  -- an object is made: its type is live, it names nothing yet, the identifier of its representation is new at level 8, and a slot is free
  pub runs_make_object : (u : ℕ) (o : Object) (len : ℕ) → at f.objects u ≡ None → at f.dirs u ≡ None → IsSome (at f.types o.of)
      → IsNew y.levels.segs o.rep → first_free y.levels.pages < length y.levels.pages → 1 ≤ len → len ≤ MOST_WORDS
      → Runs go (made_object y u o len) P
      → Runs (with_segment o.rep len (record { 0 = 1 }) (Ask (ObjMake (uid u) (Some (uid o.of)) (full o.rep)) (λ a. if_done a go))) y.levels P
  runs_make_object u o len no_obj no_dir typ new room some few run =
      let typed : IsSome (at y.levels.types.types o.of) = ap (λ (t : Table Bool). is_some (at t o.of)) h.types ∙ typ in
      (room, ((new, omega (arith, room, h.slots), some, few), ((no_object_row u no_obj no_dir, typed), run)))

  -- a directory is made: it names nothing yet, the identifier of its representation is new at level 8, and a slot is free
  pub runs_make_directory : (u rep : ℕ) (guard : Rights) → at f.objects u ≡ None → at f.dirs u ≡ None
      → IsNew y.levels.segs rep → first_free y.levels.pages < length y.levels.pages
      → Runs go (made_directory y u rep guard) P
      → Runs (with_segment rep MOST_WORDS guard (Ask (ObjMake (uid u) None (full rep)) (λ a. if_done a (Ask (DirMake (uid u) guard) (λ b. if_done b go))))) y.levels P
  runs_make_directory u rep guard no_obj no_dir new room run =
      let no_guard : at y.levels.dirs u ≡ None = h.dirs u ∙ ap (λ (p : Option Directory). option_map (λ (d : Directory). d.guard) p) no_dir in
      (room, ((new, omega (arith, room, h.slots), omega arith, omega arith), ((no_object_row u no_obj no_dir, tt), (no_guard, run))))
