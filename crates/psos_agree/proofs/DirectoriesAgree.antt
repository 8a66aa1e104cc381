-- The plans of directories and name spaces, run from levels that stand for a sound flat state, are the outcomes of their requests.
use Rattle.std.proofs.Common.{◌≡◌, ℕ, ◌<◌, Bool, true, false, not, Option, Some, None, List, [], ◌∷◌, length, refl, sym, subst, ap, ◌∙◌}
use Rattle.std.specs.Prelude.{nat_lt}
use Rattle.std.specs.FinMap.{keys}
use Rattle.std.specs.Option.{option_map}
use Rattle.std.proofs.lemmas.Bool.{ltb-true}
use Rattle.psos_table.specs.Table.{at}
use Rattle.psos_caps.specs.Capability.{Capability}
use Rattle.psos_caps.specs.declared.rights.Rights.{Rights}
use Rattle.psos_text.specs.declared.name.Name.{Name}
use Rattle.psos_words.specs.declared.word.Word.TheVariants as words
use Rattle.psos_words.specs.Words.{word_at}
use Rattle.psos_words.specs.Directory.{Found, find, entries_in, entry_words, gone_words}
use Rattle.psos_words.specs.Guard.{barred}
use Rattle.psos_calls.specs.declared.effect.Effect.TheVariants.{Nothing, Push}
use Rattle.psos_calls.specs.declared.kind.Kind.TheVariants as kinds
use Rattle.psos_calls.specs.declared.level_answer.LevelAnswer.TheVariants.{Guard, No}
use Rattle.psos_calls.specs.declared.refusal.Refusal.{Refusal}
use Rattle.psos_calls.specs.declared.refusal.Refusal.TheVariants.{Absent, Lacks, Guarded, UnknownName, Distinguished}
use Rattle.psos_calls.specs.declared.reply.Reply.TheVariants as replies
use Rattle.psos_calls.specs.declared.request.Request.TheVariants as asks
use Rattle.psos_calls.specs.declared.right.Right.TheVariants as rights
use Rattle.psos_calls.specs.Levels.Level8.{slot_of}
use Rattle.psos_calls.specs.Language.Names.{names_of}
use Rattle.psos_calls.specs.Language.Rights.{has}
use Rattle.psos_calls.specs.Language.Tests.{if_there, if_none, if_holds}
use Rattle.psos_calls.specs.Language.Script.{Script}
use Rattle.psos_calls.specs.Language.User.{User, here}
use Rattle.psos_calls.specs.Plan.{Plan, Close, Ask, Runs, give}
use Rattle.psos_calls.specs.Language.Capabilities.{uid}
use Rattle.psos_calls.specs.Plan as plans
use Rattle.psos_calls.specs.Plan.Parts.{Opened, read_dir, put_slot, if_room, fine}
use Rattle.psos_calls.specs.Plan.Directories.{plan_find, if_may_look}
use Rattle.psos_model.specs.declared.change.Change.TheVariants.{Bind, Unbind}
use Rattle.psos_model.specs.declared.place.Place.TheVariants.{DirName}
use Rattle.psos_model.specs.Answer.Directories.{find_in}
use Rattle.psos_model.specs.Flat.{Flat, Directory, Named, named}
use Rattle.psos_model.specs.Answer.Outcomes.{Outcome, refuse, gives, does, by, own}
use Rattle.psos_model.specs.Answer.Outcomes as outcomes
use Rattle.psos_model.specs.Flat.Places.{reg_place}
use Rattle.psos_model.specs.Replay.{System}
use Rattle.psos_model.specs.Sound.{IsSound}
use Rattle.psos_model.specs.Replay.StandsFor.{StandsFor}
use Rattle.psos_agree.specs.Agreement.{Meets, Agrees}
use Rattle.psos_agree.proofs.PlanWalk.{refused, runs_cap, runs_holds, word_given, changes_made}
use Rattle.psos_agree.proofs.EntriesStand.{alone}
use Rattle.psos_agree.proofs.EntryWriting.{can_add, can_remove, rep_taken, rep_holds, stands_bound, stands_unbound}
use Rattle.psos_agree.proofs.DirectoryOpening.{runs_dir_at, runs_read, runs_open}
use Rattle.psos_agree.proofs.EntryRoom.{names_are, runs_named, runs_room}

-- a test of the plan's own, with what it finds in the refusal
pub runs_none : (x : User) {y : System} {f : Flat} (h : StandsFor y f) {X : Type 0} (o : Option X) (r : X → Refusal) (go : Plan) (res : Outcome)
    → (o ≡ None → Runs go y.levels (Meets x y f res))
    → Runs (if_none o (λ b. plans.refuse (r b)) go) y.levels (Meets x y f (if_none o (λ b. refuse (r b)) res))
runs_none x h None r go res k = k refl
runs_none x h (Some b) r go res k = refused x h (r b)

pub lookup_agrees : (rd rs : ℕ) (name : Name) → Agrees (asks.Lookup rd rs name)
lookup_agrees rd rs name s y f u x r =
    let h = r.stands in
    runs_cap x h (word_at (here x) rs) _ _ _ (λ cap is_cap.
    let found_plan : Found → Plan = λ found. give rd (words.Cap found.entry.cap) in
    let go : ℕ → Opened → Plan = λ guard d. if_there (find d.slots name) (plans.refuse UnknownName) found_plan in
    let told : Named → Outcome = λ e. gives [] rd (words.Cap e.cap) (by (DirName (uid cap.uid) name) rights.Lookup) in
    let res : Directory → Outcome = λ d. if_there (named d name) (refuse UnknownName) told in
    runs_open h r.sound x cap rights.Lookup go res (λ d live slots read.
    runs_named x h cap.uid d live (slot_of y.levels.segs d.rep) slots read name found_plan (plans.refuse UnknownName) told (refuse UnknownName) (refused x h UnknownName) (λ found there is.
    word_given [] rd (words.Cap found.entry.cap) (words.Cap found.entry.cap) (by (DirName (uid cap.uid) name) rights.Lookup) refl r.in_range.0 h)))

pub bind_agrees : (rs : ℕ) (name : Name) (rv : ℕ) → Agrees (asks.Bind rs name rv)
bind_agrees rs name rv s y f u x r =
    let h = r.stands in
    runs_cap x h (word_at (here x) rs) _ _ _ (λ cap is_cap.
    runs_cap x h (word_at (here x) rv) _ _ _ (λ value is_value.
    let put : Opened → ℕ → Plan = λ d k. put_slot d k (entry_words name value false) fine in
    let opens : Opened → Plan = λ d. if_room d name (put d) in
    let go : ℕ → Plan = λ guard. if_none (barred guard (words.Cap value)) (λ b. plans.refuse (Guarded b)) (read_dir cap.uid opens) in
    let made : Outcome = does (Bind cap.uid name value ∷ []) (own (reg_place x x.frames rv)) in
    let res : Directory → Outcome = λ d. if_none (barred d.guard.0 (words.Cap value)) (λ b. refuse (Guarded b)) (outcomes.if_room d name made) in
    runs_dir_at h r.sound x cap rights.Bind go res (λ d live may.
    runs_none x h (barred d.guard.0 (words.Cap value)) (λ b. Guarded b) (read_dir cap.uid opens) (outcomes.if_room d name made) (λ free.
    runs_read h r.sound cap.uid d live opens (Meets x y f (outcomes.if_room d name made)) (λ slots read.
    let slot = slot_of y.levels.segs d.rep in
    runs_room x h cap.uid d live slot slots read name (put (record { slot = slot; slots = slots })) made (λ k place new. (
      can_add h cap.uid d live slot slots read k place,
      changes_made (Bind cap.uid name value ∷ []) (own (reg_place x x.frames rv)) (stands_bound h cap.uid d live (alone s f cap.uid d r.sound live) slot slots read name k value place new r.in_range.1),
    )))))))

pub unbind_agrees : (rs : ℕ) (name : Name) → Agrees (asks.Unbind rs name)
unbind_agrees rs name s y f u x r =
    let h = r.stands in
    runs_cap x h (word_at (here x) rs) _ _ _ (λ cap is_cap.
    let goes : Opened → Found → Plan = λ d found. put_slot d found.slot gone_words fine in
    let found_plan : Opened → Found → Plan = λ d found. if_holds (not found.entry.kept) (plans.refuse Distinguished) (goes d found) in
    let go : ℕ → Opened → Plan = λ guard d. if_there (find d.slots name) (plans.refuse UnknownName) (found_plan d) in
    let made : Outcome = does (Unbind cap.uid name ∷ []) None in
    let told : Named → Outcome = λ e. if_holds (not e.kept) (refuse Distinguished) made in
    let res : Directory → Outcome = λ d. if_there (named d name) (refuse UnknownName) told in
    runs_open h r.sound x cap rights.Unbind go res (λ d live slots read.
    let slot = slot_of y.levels.segs d.rep in
    let o : Opened = record { slot = slot; slots = slots } in
    runs_named x h cap.uid d live slot slots read name (found_plan o) (plans.refuse UnknownName) told (refuse UnknownName) (refused x h UnknownName) (λ found there is.
    runs_holds x h (not found.entry.kept) Distinguished (goes o found) made (λ plain. (
      can_remove h cap.uid d live slot slots read name found there,
      changes_made (Unbind cap.uid name ∷ []) None (stands_unbound h cap.uid d live (alone s f cap.uid d r.sound live) slot slots read name found there),
    )))))

pub list_agrees : (rs : ℕ) → Agrees (asks.List rs)
list_agrees rs s y f u x r =
    let h = r.stands in
    runs_cap x h (word_at (here x) rs) _ _ _ (λ cap is_cap.
    let go : ℕ → Opened → Plan = λ guard d. Close (replies.Names (names_of (entries_in d.slots))) Nothing in
    let res : Directory → Outcome = λ d. record { changes = []; effect = Nothing; source = None; reply = replies.Names (keys d.names) } in
    runs_open h r.sound x cap rights.List go res (λ d live slots read.
    let slot = slot_of y.levels.segs d.rep in
    let same : names_of (entries_in slots) ≡ keys d.names = names_are _ d slots (rep_taken h cap.uid d live slot slots read).1 (rep_holds h cap.uid d live slot slots read) read.decodes in
    record { reply-is = ap (λ (names : List Name). replies.Names names) same; effect-is = refl; stands = h; kept = tt; makes = tt }))

pub path_agrees : (rs : ℕ) → Agrees (asks.Path rs)
path_agrees rs s y f u x r =
    let h = r.stands in
    runs_cap x h (word_at (here x) rs) _ _ _ (λ cap is_cap.
    runs_holds x h (nat_lt (length x.path) 4) _ _ _ (λ short.
    let go : ℕ → Plan = λ guard. Close replies.Fine (Push cap) in
    let res : Directory → Outcome = λ d. record { changes = []; effect = Push cap; source = own (reg_place x x.frames rs); reply = replies.Fine } in
    runs_dir_at h r.sound x cap rights.Lookup go res (λ d live may.
    record { reply-is = refl; effect-is = refl; stands = h; kept = tt; makes = ltb-true (length x.path) 4 short })))

-- ---- the directories of a name space, one after another

module _ {s : Script} {y : System} {f : Flat} (h : StandsFor y f) (sound : IsSound s f) (x : User) (rd : ℕ) (small : rd < 16) (name : Name) where
  runs_find : (path : List Capability) → Runs (plan_find path rd name) y.levels (Meets x y f (find_in f path rd name))
  runs_find [] = refused x h UnknownName
  runs_find (dir ∷ rest) = (tt, by_row (at f.dirs dir.uid) refl (runs_find rest))
    where
      next : Plan
      next = plan_find rest rd name

      found_plan : Found → Plan
      found_plan found = give rd (words.Cap found.entry.cap)

      opens : Opened → Plan
      opens d = if_there (find d.slots name) next found_plan

      look : Plan
      look = read_dir dir.uid opens

      asked : Option Rights → Plan
      asked o = if_may_look (if_there o (No (Absent kinds.Directory)) (λ guard. if_holds (has dir rights.Lookup) (No (Lacks rights.Lookup)) (Guard guard))) next look

      given : Named → Outcome
      given e = gives [] rd (words.Cap e.cap) (by (DirName (uid dir.uid) name) rights.Lookup)

      told : Directory → Outcome
      told d = if_there (named d name) (find_in f rest rd name) given

      may : (d : Directory) → at f.dirs dir.uid ≡ Some d → (b : Bool) → Runs next y.levels (Meets x y f (find_in f rest rd name))
          → Runs (if_may_look (if_holds b (No (Lacks rights.Lookup)) (Guard d.guard)) next look) y.levels (Meets x y f (if_holds b (find_in f rest rd name) (told d)))
      may d live false later = later
      may d live true later =
          runs_read h sound dir.uid d live opens (Meets x y f (told d)) (λ slots read.
          runs_named x h dir.uid d live (slot_of y.levels.segs d.rep) slots read name found_plan next given (find_in f rest rd name) later (λ found there is.
          word_given [] rd (words.Cap found.entry.cap) (words.Cap found.entry.cap) (by (DirName (uid dir.uid) name) rights.Lookup) refl small h))

      by_row : (o : Option Directory) → at f.dirs dir.uid ≡ o → Runs next y.levels (Meets x y f (find_in f rest rd name))
          → Runs (asked (at y.levels.dirs dir.uid)) y.levels (Meets x y f (if_there o (find_in f rest rd name) (λ d. if_holds (has dir rights.Lookup) (find_in f rest rd name) (told d))))
      by_row None e later =
          subst (λ (q : Option Rights). Runs (asked q) y.levels (Meets x y f (find_in f rest rd name))) (sym (h.dirs dir.uid ∙ ap (option_map (λ (d : Directory). d.guard)) e)) later
      by_row (Some d) e later =
          subst (λ (q : Option Rights). Runs (asked q) y.levels (Meets x y f (if_holds (has dir rights.Lookup) (find_in f rest rd name) (told d)))) (sym (h.dirs dir.uid ∙ ap (option_map (λ (d : Directory). d.guard)) e)) (may d e (has dir rights.Lookup) later)

pub find_agrees : (rd : ℕ) (name : Name) → Agrees (asks.Find rd name)
find_agrees rd name s y f u x r = runs_find r.stands r.sound x rd r.in_range.0 name x.path
