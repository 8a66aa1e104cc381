-- User objects that are made and go, with their distinguished entries: what their plans share.
use Rattle.std.proofs.Common.{◌≡◌, ℕ, ◌<◌, ◌≤◌, Option, Some, None, List, IsSome, refl, sym, subst, ap, ◌∙◌, inl, inr}
use Rattle.std.specs.Prelude.{nat_lt}
use Rattle.std.proofs.lemmas.Bool.{cases_eq, false≢true, ltb-true}
use Rattle.std.proofs.lemmas.Option.{same_Some}
use Rattle.psos_limits.specs.declared.TheConstants.{MOST_WORDS, MOST_OBJECTS}
use Rattle.psos_table.specs.Table.{Table, at, put, without, size}
use Rattle.psos_table.proofs.Tables.{HasRow, at-put_here, at-put_apart, row-without}
use Rattle.psos_caps.specs.Capability.{Capability, full}
use Rattle.psos_text.specs.declared.name.Name.{Name}
use Rattle.psos_text.specs.Name.{IsName}
use Rattle.psos_words.specs.declared.word.Word.TheVariants.{Cap}
use Rattle.psos_words.specs.Directory.{Slot, Found, find, slot_for, gone_words}
use Rattle.psos_calls.specs.declared.kind.Kind.{Kind}
use Rattle.psos_calls.specs.declared.kind.Kind.TheVariants as kinds
use Rattle.psos_calls.specs.Levels.Answers.{LevelAnswer}
use Rattle.psos_calls.specs.declared.level_answer.LevelAnswer.TheVariants.{Done}
use Rattle.psos_calls.specs.declared.level_call.LevelCall.TheVariants.{Forget}
use Rattle.psos_calls.specs.declared.refusal.Refusal.TheVariants.{Exhausted}
use Rattle.psos_calls.specs.declared.right.Right.TheVariants.{Create}
use Rattle.psos_calls.specs.declared.tab.Tab.TheVariants.{Objects}
use Rattle.psos_calls.specs.Language.Script.{Script}
use Rattle.psos_calls.specs.Language.User.{User}
use Rattle.psos_calls.specs.Levels.Level8.{slot_of}
use Rattle.psos_calls.specs.Levels.{Levels}
use Rattle.psos_calls.specs.Plan.{Plan, Ask, Runs, if_done}
use Rattle.psos_calls.specs.Language.Capabilities.{uid}
use Rattle.psos_calls.specs.Plan.Parts.{Opened, put_slot, fine}
use Rattle.psos_calls.specs.Plan.Parts as parts
use Rattle.psos_model.specs.Flat.{Flat, Segment, Directory}
use Rattle.psos_model.specs.Flat.Changes.{changed, changed_all}
use Rattle.psos_model.specs.declared.change.Change.{Change}
use Rattle.psos_model.specs.declared.change.Change.TheVariants.{Register, Unregister}
use Rattle.psos_model.specs.Answer.Outcomes.{Outcome, Source, refuse, gives, does}
use Rattle.psos_model.specs.Answer.Outcomes as outcomes
use Rattle.psos_model.specs.Replay.{System}
use Rattle.psos_model.specs.Sound.Roles.{IsUserObject}
use Rattle.psos_model.specs.Sound.{IsSound}
use Rattle.psos_model.specs.Replay.StandsFor.{StandsFor}
use Rattle.psos_agree.specs.Agreement.{Meets}
use Rattle.psos_agree.proofs.PlanWalk.{answers_holds, word_given, changes_made}
use Rattle.psos_agree.proofs.FreshIdentifiers.{absent}
use Rattle.psos_agree.proofs.EntryWriting.{can_add, can_remove, stands_registered, stands_unregistered}
use Rattle.psos_agree.proofs.DirectoryOpening.{runs_open}
use Rattle.psos_agree.proofs.EntryRoom.{runs_room}
use Rattle.psos_agree.specs.Changes.{IsAlone, HasRead}

-- ---- a representation stays alone

-- where a segment is made that is not it
pub alone_made : (f : Flat) (d : ℕ) (x : Directory) → IsAlone f d x → (u : ℕ) (t : Segment) → (u ≡ x.rep → ⊥) → IsAlone (record f { segments = put f.segments u t }) d x
alone_made f d x single u t apart = record {
  segments = λ v r is e. elim (cases_eq v u) [
    | inl same ↦ apart (sym same ∙ e)
    | inr other ↦ single.segments v r (sym (at-put_apart f.segments u t v other) ∙ is) e
  ];
  dirs = single.dirs;
}

-- where a directory is made that another segment represents
pub alone_dir_made : (f : Flat) (d : ℕ) (x : Directory) → IsAlone f d x → (u : ℕ) (z : Directory) → (z.rep ≡ x.rep → ⊥) → IsAlone (record f { dirs = put f.dirs u z }) d x
alone_dir_made f d x single u z apart = record {
  segments = single.segments;
  dirs = λ v r is e. elim (cases_eq v u) [
    | inl same ↦
        let here : r ≡ z = same_Some r z (sym is ∙ (ap (at (put f.dirs u z)) same ∙ at-put_here f.dirs u z)) in
        absurd (apart (ap (λ (w : Directory). w.rep) (sym here) ∙ e))
    | inr other ↦ single.dirs v r (sym (at-put_apart f.dirs u z v other) ∙ is) e
  ];
}

-- where a segment goes, or a directory
pub alone_gone : (f : Flat) (d : ℕ) (x : Directory) → IsAlone f d x → (u : ℕ) → IsAlone (record f { segments = without f.segments u }) d x
alone_gone f d x single u = record { segments = λ v r is. single.segments v r (row-without f.segments u v r is).0; dirs = single.dirs }

pub alone_dir_gone : (f : Flat) (d : ℕ) (x : Directory) → IsAlone f d x → (u : ℕ) → IsAlone (record f { dirs = without f.dirs u }) d x
alone_dir_gone f d x single u = record { segments = single.segments; dirs = λ v r is. single.dirs v r (row-without f.dirs u v r is).0 }

-- ---- user objects have identifiers that were given

-- a row that is there
pub row_there : {X : Type 0} (t : Table X) (u : ℕ) → IsSome (at t u) → HasRow t u
row_there {X = X} t u some = by (at t u) refl some
  where
    by : (o : Option X) → at t u ≡ o → IsSome o → HasRow t u
    by None e there = absurd (false≢true there)
    by (Some r) e there = record { row = r; there = e }

some_below : {X : Type 0} (t : Table X) (n : ℕ) → ((u : ℕ) (r : X) → at t u ≡ Some r → u < n) → (u : ℕ) → IsSome (at t u) → u < n
some_below t n below u some = let one = row_there t u some in below u one.row one.there

module _ {s : Script} {f : Flat} (sound : IsSound s f) where
  object_below : (u : ℕ) (kind : Kind) → IsUserObject s sound.role f u kind → u < f.next
  object_below u kinds.Segment is = some_below f.segments f.next (λ v r at_v. (sound.segments v r at_v).below) u is.0
  object_below u kinds.Directory is = some_below f.dirs f.next (λ v r at_v. (sound.dirs v r at_v).below) u is.0
  object_below u kinds.Typ is = some_below f.types f.next (λ v r at_v. (sound.types v r at_v).0) u is
  object_below u kinds.Object is = some_below f.objects f.next (λ v r at_v. (sound.objects v r at_v).below) u is
  object_below u kinds.Code is = some_below f.codes f.next (λ v r at_v. (sound.codes v r at_v).below) u is
  object_below u kinds.Process is = absurd is

  -- no user object has an identifier that was not given
  pub life_new : (u : ℕ) → f.next ≤ u → at f.life u ≡ None
  life_new u past = absent f.life f.next (λ v kind at_v. object_below v kind ((sound.life v kind).0 at_v)) u past

  pub type_new : (u : ℕ) → f.next ≤ u → at f.types u ≡ None
  type_new u past = absent f.types f.next (λ v r at_v. (sound.types v r at_v).0) u past

  pub code_new : (u : ℕ) → f.next ≤ u → at f.codes u ≡ None
  code_new u past = absent f.codes f.next (λ v r at_v. (sound.codes v r at_v).below) u past

-- ---- room for an object and for its entry

module _ (u : User) {s : Script} {y : System} {f : Flat} (h : StandsFor y f) (sound : IsSound s f) where
  pub runs_object_room : (go : Plan) (res : Outcome) → (size f.life < MOST_OBJECTS → Runs go y.levels (Meets u y f res)) → Runs (parts.if_object_room go) y.levels (Meets u y f (outcomes.if_object_room f res))
  runs_object_room go res rest =
      let k : LevelAnswer → Plan = λ a. if_done a go in
      (tt, answers_holds u h k (λ _. refl) (nat_lt (size y.levels.life) MOST_OBJECTS) (nat_lt (size f.life) MOST_OBJECTS) (ap (λ (m : Table Kind). nat_lt (size m) MOST_WORDS) h.life) (Exhausted Objects) Done res (λ few. rest (ltb-true (size f.life) MOST_OBJECTS few)))

  pub runs_make_in : (dir : Capability) (name : Name) (go : Opened → ℕ → Plan) (res : Outcome)
      → (size f.life < MOST_OBJECTS → (x : Directory) → at f.dirs dir.uid ≡ Some x → (slots : List Slot) → HasRead y.levels.pages y.levels.segs x.rep (slot_of y.levels.segs x.rep) slots
      → (k : ℕ) → slot_for slots ≡ Some k → find slots name ≡ None → Runs (go (record { slot = slot_of y.levels.segs x.rep; slots = slots }) k) y.levels (Meets u y f res))
      → Runs (parts.make_in dir name go) y.levels (Meets u y f (outcomes.make_in f dir name res))
  runs_make_in dir name go res rest =
      let opens : ℕ → Opened → Plan = λ guard d. parts.if_room d name (go d) in
      let made : Directory → Outcome = λ x. outcomes.if_room x name res in
      runs_object_room (parts.open_dir dir Create opens) (outcomes.if_dir f dir Create made) (λ few.
      runs_open h sound u dir Create opens made (λ x live slots read.
      runs_room u h dir.uid x live (slot_of y.levels.segs x.rep) slots read name (go (record { slot = slot_of y.levels.segs x.rep; slots = slots })) res (λ k place new.
      rest few x live slots read k place new)))

-- ---- the last calls of making and of deleting, from the levels l and the flat state that is now

module _ (u : User) {y : System} {f : Flat} (l : Levels) (now : Flat) (h : StandsFor (record y { levels = l }) now) (d : ℕ) (x : Directory) (live : at now.dirs d ≡ Some x) (single : IsAlone now d x)
    (slot : ℕ) (slots : List Slot) (read : HasRead l.pages l.segs x.rep slot slots) (name : Name) (changes : List Change) (source : Option Source) where
  -- the object is enrolled, and its distinguished entry is written
  pub runs_enrolled : IsName name → (k : ℕ) → slot_for slots ≡ Some k → find slots name ≡ None → (n m : ℕ) → n ≡ m → (kind : Kind) (rd : ℕ) → rd < 16 → changed_all f changes ≡ changed now (Register m d name kind)
      → at l.life n ≡ None → size l.life < MOST_OBJECTS
      → Runs (parts.enrolled (record { slot = slot; slots = slots }) k name kind (full n) rd) l (Meets u y f (gives changes rd (Cap (full m)) source))
  runs_enrolled named k place new n m same kind rd small is absent_now few = (
    (absent_now, few),
    (
      can_add h d x live slot slots read k place,
      word_given changes rd (Cap (full n)) (Cap (full m)) source (ap (λ (i : ℕ). Cap (full i)) same) small
          (subst (StandsFor _) (ap (λ (i : ℕ). changed now (Register i d name kind)) same ∙ sym is) (stands_registered h d x live single slot slots read name k n kind place new named)),
    ),
  )

  -- the object is forgotten, and its distinguished entry goes
  pub runs_forgotten : (found : Found) → find slots name ≡ Some found → (n : ℕ) → changed_all f changes ≡ changed now (Unregister n d name) → IsSome (at l.life n)
      → Runs (Ask (Forget (uid n)) (λ a. if_done a (put_slot (record { slot = slot; slots = slots }) found.slot gone_words fine))) l (Meets u y f (does changes source))
  runs_forgotten found there n is some = (
    some,
    (
      can_remove h d x live slot slots read name found there,
      changes_made changes source (subst (StandsFor _) (sym is) (stands_unregistered h d x live single slot slots read name n found there)),
    ),
  )
