-- Types and procedure records are deleted, from levels that stand for a sound flat state.
use Rattle.std.proofs.Common.{◌≡◌, ℕ, Bool, true, false, cond, not, Option, Some, None, List, [], ◌∷◌, IsSome, refl, sym, subst, ap, ◌∙◌, arith}
use Rattle.std.specs.Prelude.{nat_lt, ◌==◌}
use Rattle.std.proofs.lemmas.Bool.{false≢true}
use Rattle.std.proofs.lemmas.Map.Entries.{option_filter}
use Rattle.std.proofs.lemmas.Option.{same_Some, none-some}
use Rattle.psos_table.specs.Table.{Table, at, without, kept, size}
use Rattle.psos_table.proofs.Tables.{HasRow, at-kept, row-kept, size-le}
use Rattle.psos_caps.specs.Capability.{full}
use Rattle.psos_text.specs.declared.name.Name.{Name}
use Rattle.psos_words.specs.Directory.{Slot, Found, find}
use Rattle.psos_calls.specs.declared.code_row.CodeRow.{CodeRow}
use Rattle.psos_calls.specs.declared.kind.Kind.{Kind}
use Rattle.psos_calls.specs.declared.kind.Kind.TheVariants as kinds
use Rattle.psos_calls.specs.Levels.Answers.{LevelAnswer}
use Rattle.psos_calls.specs.declared.level_answer.LevelAnswer.TheVariants.{Done, No}
use Rattle.psos_calls.specs.declared.obj_row.ObjRow.{ObjRow}
use Rattle.psos_calls.specs.declared.refusal.Refusal.TheVariants.{NotEmpty}
use Rattle.psos_calls.specs.Levels.Level8.{slot_of}
use Rattle.psos_calls.specs.Levels.Level9.{TypeState, has_objects, is_of}
use Rattle.psos_calls.specs.Levels.{Levels}
use Rattle.psos_calls.specs.Plan.{Plan, Runs, if_done}
use Rattle.psos_calls.specs.Language.Capabilities.{uid}
use Rattle.psos_calls.specs.Plan.Objects.{drop_kind}
use Rattle.psos_calls.specs.Language.Script.{Script}
use Rattle.psos_calls.specs.Language.Tests.{if_holds}
use Rattle.psos_calls.specs.Language.User.{User}
use Rattle.psos_model.specs.Answer.Objects.{drops}
use Rattle.psos_model.specs.Answer.Objects as answers
use Rattle.psos_model.specs.Flat.{Flat, Object, Directory}
use Rattle.psos_model.specs.Flat.Changes.{changed}
use Rattle.psos_model.specs.declared.change.Change.{Change}
use Rattle.psos_model.specs.declared.change.Change.TheVariants.{DropType, DropCode, Unregister}
use Rattle.psos_model.specs.Answer.Outcomes.{Outcome, refuse, does}
use Rattle.psos_model.specs.Replay.{System}
use Rattle.psos_model.specs.Sound.{IsSound}
use Rattle.psos_model.specs.Replay.StandsFor.{StandsFor, object_row}
use Rattle.psos_agree.specs.Agreement.{Meets}
use Rattle.psos_agree.proofs.TablesStand.{tables_stand}
use Rattle.psos_agree.proofs.PlanWalk.{refused}
use Rattle.psos_agree.proofs.EntriesStand.{alone}
use Rattle.psos_agree.proofs.ObjectEntries.{runs_forgotten}
use Rattle.psos_agree.proofs.TypeAndCodeCreation.{forgets}
use Rattle.psos_agree.specs.Changes.{IsAlone, HasRead}

-- ---- the levels still stand

pub stands_type_gone : {y : System} {f : Flat} → StandsFor y f → (u : ℕ)
    → StandsFor (record y { levels = record y.levels { types = record y.levels.types { types = without y.levels.types.types u } } }) (changed f (DropType u))
stands_type_gone h u =
    tables_stand h h.next h.codes h.boxes h.life (ap (λ (t : Table Bool). without t u) h.types) h.windows h.users h.objects

pub stands_code_gone : {y : System} {f : Flat} → StandsFor y f → (u : ℕ) → StandsFor (record y { levels = record y.levels { codes = without y.levels.codes u } }) (changed f (DropCode u))
stands_code_gone h u =
    tables_stand h h.next (ap (λ (t : Table CodeRow). without t u) h.codes) h.boxes h.life h.types h.windows h.users h.objects

-- ---- the objects of a type

kept_there : {X : Type 0} (test : X → Bool) (m : Table X) (k : ℕ) (x : X) → at m k ≡ Some x → test x ≡ true → at (kept test m) k ≡ Some x
kept_there test m k x e passes = at-kept test m k ∙ ap (option_filter test) e ∙ ap (λ (b : Bool). cond b (Some x) None) passes

-- an object of the flat state has this type
abbrev of_type : ℕ → Object → Bool
of_type u o = o.of == u

module _ {y : System} {f : Flat} (h : StandsFor y f) (u : ℕ) where
  object_there : (k : ℕ) (row : ObjRow) → is_of u row ≡ true → (o : Option Object) (d : Option Directory) → at f.objects k ≡ o → object_row o d ≡ Some row → HasRow (kept (of_type u) f.objects) k
  object_there k row passes (Some o) d e is =
      let same = same_Some _ row is in
      record { row = o; there = kept_there (of_type u) f.objects k o e (ap (is_of u) same ∙ passes) }
  object_there k row passes None (Some d) e is =
      let same = same_Some _ row is in
      absurd (false≢true (ap (is_of u) same ∙ passes))
  object_there k row passes None None e is = absurd (none-some row is)

  few_above : size (kept (is_of u) y.levels.types.objects) ≡ size (kept (of_type u) f.objects)
  few_above =
      let down = size-le (kept (is_of u) y.levels.types.objects) (kept (of_type u) f.objects) (λ k row e.
      let r = row-kept (is_of u) y.levels.types.objects k row e in
      object_there k row r.1 (at f.objects k) (at f.dirs k) refl (sym (h.objects k) ∙ r.0)) in
      let up = size-le (kept (of_type u) f.objects) (kept (is_of u) y.levels.types.objects) (λ k o e.
      let r = row-kept (of_type u) f.objects k o e in
      let row : ObjRow = record { of = Some (uid o.of); rep = full o.rep } in
      record { row = row; there = kept_there (is_of u) y.levels.types.objects k row (h.objects k ∙ ap (λ (q : Option Object). object_row q (at f.dirs k)) r.0) r.1 }) in
      omega (arith, down, up)

  -- a type has objects at level 9 exactly where it has in the flat state
  pub same_objects : has_objects y.levels.types u ≡ answers.has_objects f u
  same_objects = ap (λ (n : ℕ). nat_lt 0 n) few_above

-- ---- what goes with a type, and with a procedure record

module _ (x : User) {s : Script} {y : System} {f : Flat} (h : StandsFor y f) (sound : IsSound s f) (d : ℕ) (z : Directory) (live : at f.dirs d ≡ Some z)
    (slots : List Slot) (read : HasRead y.levels.pages y.levels.segs z.rep (slot_of y.levels.segs z.rep) slots) (name : Name) (found : Found) (there : find slots name ≡ Some found) where
  -- the identifier of what goes
  abbrev n : ℕ
  n = found.entry.cap.uid

  abbrev last : Plan
  last = forgets (record { slot = slot_of y.levels.segs z.rep; slots = slots }) found

  told : (kind : Kind) → at f.life n ≡ Some kind → IsSome (at y.levels.life n)
  told kind is = subst (λ (q : Option Kind). IsSome q) (sym (ap (λ (t : Table Kind). at t n) h.life ∙ is)) refl

  pub runs_drop_code : at f.life n ≡ Some kinds.Code → Runs (drop_kind kinds.Code n last) y.levels (Meets x y f (drops f kinds.Code n (Unregister n d name ∷ [])))
  runs_drop_code is =
      let was = alone s f d z sound live in
      let now : Flat = changed f (DropCode n) in
      let single : IsAlone now d z = record { segments = was.segments; dirs = was.dirs } in
      let l : Levels = record y.levels { codes = without y.levels.codes n } in (
        subst (λ (t : Table CodeRow). IsSome (at t n)) (sym h.codes) ((sound.life n kinds.Code).0 is),
        runs_forgotten x l now (stands_code_gone h n) d z live single (slot_of y.levels.segs z.rep) slots read name (DropCode n ∷ Unregister n d name ∷ []) None found there n refl (told kinds.Code is),
      )

  pub runs_drop_type : at f.life n ≡ Some kinds.Typ → Runs (drop_kind kinds.Typ n last) y.levels (Meets x y f (drops f kinds.Typ n (Unregister n d name ∷ [])))
  runs_drop_type is = (
    subst (λ (t : Table Bool). IsSome (at t n)) (sym h.types) ((sound.life n kinds.Typ).0 is),
    subst P (sym (same_objects h n)) (by (answers.has_objects f n)),
  )
    where
      gone : TypeState
      gone = record y.levels.types { types = without y.levels.types.types n }

      asked : Bool → TypeState × LevelAnswer
      asked b = if_holds (not b) (y.levels.types, No NotEmpty) (gone, Done)

      changes : List Change
      changes = DropType n ∷ Unregister n d name ∷ []

      result : Bool → Outcome
      result b = if_holds (not b) (refuse NotEmpty) (does changes None)

      P : Bool → Type 0
      P b = Runs (if_done (asked b).1 last) (record y.levels { types = (asked b).0 }) (Meets x y f (result (answers.has_objects f n)))

      by : (b : Bool) → Runs (if_done (asked b).1 last) (record y.levels { types = (asked b).0 }) (Meets x y f (result b))
      by true = refused x h NotEmpty
      by false =
          let was = alone s f d z sound live in
          let now : Flat = changed f (DropType n) in
          let single : IsAlone now d z = record { segments = was.segments; dirs = was.dirs } in
          let l : Levels = record y.levels { types = gone } in
          runs_forgotten x l now (stands_type_gone h n) d z live single (slot_of y.levels.segs z.rep) slots read name changes None found there n refl (told kinds.Typ is)
