-- Making types and procedure records, and how a deletion begins, from levels that stand for a sound flat state.
use Rattle.std.proofs.Common.{◌≡◌, ℕ, ◌+◌, ◌<◌, Bool, true, Option, Some, None, List, [], ◌∷◌, IsSome, refl, sym, subst, ap, ◌∙◌, arith}
use Rattle.std.specs.Option.{option_and_then}
use Rattle.psos_limits.specs.declared.TheConstants.{MOST_OBJECTS}
use Rattle.psos_table.specs.Table.{Table, at, put, size}
use Rattle.psos_caps.specs.Capability.{Capability, full}
use Rattle.psos_text.specs.declared.name.Name.{Name}
use Rattle.psos_text.specs.Name.{IsName}
use Rattle.psos_words.specs.Words.{word_at}
use Rattle.psos_words.specs.Directory.{Slot, Found, find, slot_for, gone_words}
use Rattle.psos_words.specs.Guard.{barred}
use Rattle.psos_calls.specs.declared.code_row.CodeRow.{CodeRow}
use Rattle.psos_calls.specs.declared.kind.Kind.{Kind}
use Rattle.psos_calls.specs.declared.kind.Kind.TheVariants as kinds
use Rattle.psos_calls.specs.Levels.Answers.{LevelAnswer}
use Rattle.psos_calls.specs.declared.level_answer.LevelAnswer.TheVariants.{Done}
use Rattle.psos_calls.specs.declared.level_call.LevelCall.TheVariants.{TypeMake, CodeMake, KindOf, Forget}
use Rattle.psos_calls.specs.declared.refusal.Refusal.TheVariants.{Guarded, UnknownName, NotDistinguished}
use Rattle.psos_calls.specs.declared.request.Request.{Request}
use Rattle.psos_calls.specs.declared.request.Request.TheVariants as asks
use Rattle.psos_calls.specs.declared.right.Right.TheVariants as rights
use Rattle.psos_calls.specs.Language.Script.{Script}
use Rattle.psos_calls.specs.Language.User.{User, here}
use Rattle.psos_calls.specs.Levels.Level8.{slot_of}
use Rattle.psos_calls.specs.Levels.{Levels}
use Rattle.psos_calls.specs.Plan.{Plan, Ask, Runs, if_done, if_kind}
use Rattle.psos_calls.specs.Language.Capabilities.{uid}
use Rattle.psos_calls.specs.Plan as plans
use Rattle.psos_calls.specs.Plan.Parts.{Opened, with_fresh, enrolled, put_slot, make_in, fine}
use Rattle.psos_calls.specs.Plan.Objects.{drop_kind, plan_delete}
use Rattle.psos_calls.specs.Language.Tests.{if_there, if_holds}
use Rattle.psos_model.specs.Answer.Objects.{makes, drops, answer_delete}
use Rattle.psos_model.specs.Flat.{Flat, Directory, Named, named}
use Rattle.psos_model.specs.Flat.Changes.{changed, changed_all}
use Rattle.psos_model.specs.Sound.Kept.{entry_in}
use Rattle.psos_model.specs.declared.change.Change.{Change}
use Rattle.psos_model.specs.declared.change.Change.TheVariants.{Fresh, MakeType, MakeCode, Register, Unregister}
use Rattle.psos_model.specs.Answer.Outcomes.{Outcome, Source, refuse, gives, own}
use Rattle.psos_model.specs.Answer.Outcomes as outcomes
use Rattle.psos_model.specs.Flat.Places.{reg_place}
use Rattle.psos_model.specs.Replay.{System}
use Rattle.psos_model.specs.Sound.{IsSound}
use Rattle.psos_model.specs.Replay.StandsFor.{StandsFor, named_of}
use Rattle.psos_agree.specs.Agreement.{Ready, Meets, Agrees}
use Rattle.psos_agree.proofs.TablesStand.{tables_stand}
use Rattle.psos_agree.proofs.PlanWalk.{refused, runs_cap, runs_holds, answers_none}
use Rattle.psos_agree.proofs.EntriesStand.{alone}
use Rattle.psos_agree.proofs.DirectoryOpening.{runs_open}
use Rattle.psos_agree.proofs.EntryRoom.{runs_named}
use Rattle.psos_agree.proofs.ObjectEntries.{row_there, life_new, type_new, code_new, runs_make_in, runs_enrolled}
use Rattle.psos_agree.specs.Changes.{IsAlone, HasRead}

-- ---- types and procedure records

-- a type on a new identifier
pub stands_type : {y : System} {f : Flat} → StandsFor y f
    → StandsFor (record y { levels = record y.levels { next = y.levels.next + 1; types = record y.levels.types { types = put y.levels.types.types y.levels.next true } } }) (changed_all f (MakeType f.next ∷ Fresh ∷ []))
stands_type h =
    tables_stand h (ap (λ n. n + 1) h.next) h.codes h.boxes h.life (λ i. put (h.types i) (h.next i) true) h.windows h.users h.objects

-- a procedure record on a new identifier
pub stands_code : {y : System} {f : Flat} → StandsFor y f → (row : CodeRow)
    → StandsFor (record y { levels = record y.levels { next = y.levels.next + 1; codes = put y.levels.codes y.levels.next row } }) (changed_all f (MakeCode f.next row ∷ Fresh ∷ []))
stands_code h row =
    tables_stand h (ap (λ n. n + 1) h.next) (λ i. put (h.codes i) (h.next i) row) h.boxes h.life h.types h.windows h.users h.objects

-- the next identifier of level 0 is no user object of level 11
next_no_object : {s : Script} {y : System} {f : Flat} → StandsFor y f → IsSound s f → at y.levels.life y.levels.next ≡ None
next_no_object {y = y} h sound = ap (λ (t : Table Kind). at t y.levels.next) h.life ∙ life_new sound y.levels.next (omega (arith, h.next))

room_there : {y : System} {f : Flat} → StandsFor y f → size f.life < MOST_OBJECTS → size y.levels.life < MOST_OBJECTS
room_there h few = let same = ap (λ (t : Table Kind). size t) h.life in omega (arith, same, few)

module _ {s : Script} {y : System} {f : Flat} {u : ℕ} (x : User) {request : Request} (r : Ready s y f u x request) (rd : ℕ) (small : rd < 16) (name : Name) (named : IsName name) (dir : Capability) (d : Directory) (live : at f.dirs dir.uid ≡ Some d)
    (slots : List Slot) (read : HasRead y.levels.pages y.levels.segs d.rep (slot_of y.levels.segs d.rep) slots) (few : size f.life < MOST_OBJECTS) (k : ℕ) (place : slot_for slots ≡ Some k) (new : find slots name ≡ None) where
  -- what comes last in making a user object on the next identifier: it is enrolled, and its entry is written
  pub runs_last : (kind : Kind) (making : Change) (others : List Change) (source : Option Source) (now : ℕ → Flat)
      → changed_all f (making ∷ Register f.next dir.uid name kind ∷ Fresh ∷ others) ≡ changed (now f.next) (Register f.next dir.uid name kind)
      → (l : Levels) → l.life ≡ y.levels.life → StandsFor (record y { levels = l }) (now y.levels.next) → at (now y.levels.next).dirs dir.uid ≡ Some d → IsAlone (now y.levels.next) dir.uid d
      → HasRead l.pages l.segs d.rep (slot_of y.levels.segs d.rep) slots
      → Runs (enrolled (record { slot = slot_of y.levels.segs d.rep; slots = slots }) k name kind (full y.levels.next) rd) l (Meets x y f (record (makes f making dir name kind others rd) { source = source }))
  runs_last kind making others source now is l same stands there single seen =
      let n = y.levels.next in
      let e = r.stands.next in
      runs_enrolled x l (now n) stands dir.uid d there single (slot_of y.levels.segs d.rep) slots seen name (making ∷ Register f.next dir.uid name kind ∷ Fresh ∷ others) source named k place new n f.next e kind rd small
      (is ∙ ap (λ (i : ℕ). changed (now i) (Register f.next dir.uid name kind)) (sym e)) (ap (λ (t : Table Kind). at t n) same ∙ next_no_object r.stands r.sound) (subst (λ (t : Table Kind). size t < MOST_OBJECTS) (sym same) (room_there r.stands few))

pub mktype_agrees : (rd rs : ℕ) (name : Name) → Agrees (asks.MkType rd rs name)
mktype_agrees rd rs name s y f u x r =
    let h = r.stands in
    runs_cap x h (word_at (here x) rs) _ _ _ (λ dir is_dir.
    let go : Opened → ℕ → Plan = λ d k. with_fresh (λ new. Ask (TypeMake (uid new.uid)) (λ a. if_done a (enrolled d k name kinds.Typ new rd))) in
    runs_make_in x h r.sound dir name go (makes f (MakeType f.next) dir name kinds.Typ [] rd) (λ few d live slots read k place new.
    let now : Flat = changed_all f (MakeType f.next ∷ Fresh ∷ []) in
    let was = alone s f dir.uid d r.sound live in
    let single : IsAlone now dir.uid d = record { segments = was.segments; dirs = was.dirs } in
    let l : Levels = record y.levels { next = y.levels.next + 1; types = record y.levels.types { types = put y.levels.types.types y.levels.next true } } in (
      omega (arith, h.next, r.room),
      (
        ap (λ (t : Table Bool). at t y.levels.next) h.types ∙ type_new r.sound y.levels.next (omega (arith, h.next)),
        runs_last x r rd r.in_range.0 name r.in_range.2 dir d live slots read few k place new kinds.Typ (MakeType f.next) [] None (λ _. now) refl l refl (stands_type h) live single read,
      ),
    )))

pub mkcode_agrees : (rd rs : ℕ) (name : Name) (label rl : ℕ) → Agrees (asks.MkCode rd rs name label rl)
mkcode_agrees rd rs name label rl s y f u x r =
    let h = r.stands in
    let link = word_at (here x) rl in
    let row : CodeRow = record { label = label; link = link } in
    let source : Option Source = own (reg_place x x.frames rl) in
    runs_cap x h (word_at (here x) rs) _ _ _ (λ dir is_dir.
    let go : Opened → ℕ → Plan = λ d k. with_fresh (λ new. Ask (CodeMake (uid new.uid) label link) (λ a. if_done a (enrolled d k name kinds.Code new rd))) in
    let made : Outcome = record (makes f (MakeCode f.next row) dir name kinds.Code [] rd) { source = source } in
    let admits : LevelAnswer → Plan = λ a. if_done a (make_in dir name go) in (
      tt,
      answers_none x h admits (λ _. refl) (barred 1 link) (λ b. Guarded b) Done (outcomes.make_in f dir name made) (λ free.
          runs_make_in x h r.sound dir name go made (λ few d live slots read k place new.
          let now : Flat = changed_all f (MakeCode f.next row ∷ Fresh ∷ []) in
          let was = alone s f dir.uid d r.sound live in
          let single : IsAlone now dir.uid d = record { segments = was.segments; dirs = was.dirs } in
          let l : Levels = record y.levels { next = y.levels.next + 1; codes = put y.levels.codes y.levels.next row } in (
            omega (arith, h.next, r.room),
            (
              (ap (λ (t : Table CodeRow). at t y.levels.next) h.codes ∙ code_new r.sound y.levels.next (omega (arith, h.next)), free),
              runs_last x r rd r.in_range.0 name r.in_range.2 dir d live slots read few k place new kinds.Code (MakeCode f.next row) [] source (λ _. now) refl l refl (stands_code h row) live single read,
            ),
          ))),
    ))

-- ---- deletion

-- what goes last in a deletion: the object is forgotten, and its entry
abbrev pub forgets : Opened → Found → Plan
forgets d found = Ask (Forget (uid found.entry.cap.uid)) (λ a. if_done a (put_slot d found.slot gone_words fine))

-- a deletion up to what goes with the object, which is a user object of its kind
pub runs_delete : (rs : ℕ) (name : Name) (s : Script) (y : System) (f : Flat) (u : ℕ) (x : User) (r : Ready s y f u x (asks.Delete rs name))
    → ((dir : Capability) (d : Directory) → at f.dirs dir.uid ≡ Some d → (slots : List Slot) → HasRead y.levels.pages y.levels.segs d.rep (slot_of y.levels.segs d.rep) slots
    → (found : Found) → find slots name ≡ Some found → named d name ≡ Some (named_of found) → found.entry.kept ≡ true → (kind : Kind) → at f.life found.entry.cap.uid ≡ Some kind
    → Runs (drop_kind kind found.entry.cap.uid (forgets (record { slot = slot_of y.levels.segs d.rep; slots = slots }) found)) y.levels
    (Meets x y f (drops f kind found.entry.cap.uid (Unregister found.entry.cap.uid dir.uid name ∷ []))))
    → Runs (plan_delete (here x) rs name) y.levels (Meets x y f (answer_delete f x rs name))
runs_delete rs name s y f u x r rest =
    let h = r.stands in
    runs_cap x h (word_at (here x) rs) _ _ _ (λ dir is_dir.
    let ends : Opened → Found → Plan = λ d found. Ask (KindOf (uid found.entry.cap.uid)) (λ c. if_kind c (λ kind. drop_kind kind found.entry.cap.uid (forgets d found))) in
    let on_found : Opened → Found → Plan = λ d found. if_holds found.entry.kept (plans.refuse NotDistinguished) (ends d found) in
    let opens : ℕ → Opened → Plan = λ guard d. if_there (find d.slots name) (plans.refuse UnknownName) (on_found d) in
    let by_kind : ℕ → Kind → Outcome = λ n kind. drops f kind n (Unregister n dir.uid name ∷ []) in
    let last : Named → Outcome = λ e. if_there (at f.life e.cap.uid) (refuse NotDistinguished) (by_kind e.cap.uid) in
    let told : Named → Outcome = λ e. if_holds e.kept (refuse NotDistinguished) (last e) in
    let res : Directory → Outcome = λ d. if_there (named d name) (refuse UnknownName) told in (
      tt,
      (
        tt,
        runs_open h r.sound x dir rights.Delete opens res (λ d live slots read.
            let o : Opened = record { slot = slot_of y.levels.segs d.rep; slots = slots } in
            runs_named x h dir.uid d live (slot_of y.levels.segs d.rep) slots read name (on_found o) (plans.refuse UnknownName) told (refuse UnknownName) (refused x h UnknownName) (λ found there is.
            runs_holds x h found.entry.kept NotDistinguished (ends o found) (last (named_of found)) (λ kept.
            let n = found.entry.cap.uid in
            let entry : entry_in f dir.uid name ≡ Some (named_of found) = ap (option_and_then (λ (z : Directory). named z name)) live ∙ is in
            let object = row_there f.life n (r.sound.kept.no_other dir.uid name (named_of found) entry kept).1 in
            let there_too : at y.levels.life n ≡ Some object.row = ap (λ (t : Table Kind). at t n) h.life ∙ object.there in
            let P : Option Kind → Type 0 = λ q. Runs (drop_kind (if_there q kinds.Segment (λ (kind : Kind). kind)) n (forgets o found)) y.levels (Meets x y f (if_there (at f.life n) (refuse NotDistinguished) (by_kind n))) in
            let Q : Option Kind → Type 0 = λ q. Runs (drop_kind object.row n (forgets o found)) y.levels (Meets x y f (if_there q (refuse NotDistinguished) (by_kind n))) in (
              subst (λ (q : Option Kind). IsSome q) (sym there_too) refl,
              subst P (sym there_too) (subst Q (sym object.there) (rest dir d live slots read found there is kept object.row object.there)),
            )))),
      ),
    ))
