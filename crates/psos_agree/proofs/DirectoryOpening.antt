-- A directory is opened, from levels that stand for a sound flat state.
use Rattle.std.proofs.Common.{◌≡◌, ℕ, zero, suc, ◌+◌, ◌*◌, ◌/◌, ◌<◌, Bool, true, false, cond, ◌||◌, Option, Some, None, List, [], ◌++◌, length, take, drop, IsSome, refl, sym, subst, ap, ◌∙◌, arith}
use Rattle.std.specs.Option.{option_map}
use Rattle.std.proofs.Math.Seq.{take-add, take-length}
use Rattle.std.proofs.lemmas.Bool.{false≢true}
use Rattle.std.proofs.lemmas.List.{take-append-drop, length-take-le}
use Rattle.psos_limits.specs.declared.TheConstants.{MOST_WORDS}
use Rattle.psos_table.specs.Table.{at}
use Rattle.psos_caps.specs.Capability.{Capability}
use Rattle.psos_caps.specs.declared.rights.Rights.{Rights}
use Rattle.psos_words.specs.declared.word.Word.{Word}
use Rattle.psos_words.specs.Directory.{Slot, decode, has_never}
use Rattle.psos_dirrep.specs.Changes.{IsWhole}
use Rattle.psos_dirrep.proofs.PageLaws.{front-whole}
use Rattle.psos_dirrep.proofs.NeverUsedSlots.{never-parts}
use Rattle.psos_calls.specs.declared.effect.Effect.{Effect}
use Rattle.psos_calls.specs.declared.kind.Kind.TheVariants as kinds
use Rattle.psos_calls.specs.declared.level_answer.LevelAnswer.TheVariants.{Guard, No}
use Rattle.psos_calls.specs.declared.level_call.LevelCall.TheVariants.{DirAt}
use Rattle.psos_calls.specs.declared.obj_row.ObjRow.{ObjRow}
use Rattle.psos_calls.specs.declared.refusal.Refusal.TheVariants.{Absent, Lacks, Range}
use Rattle.psos_calls.specs.declared.reply.Reply.{Reply}
use Rattle.psos_calls.specs.declared.right.Right.{Right}
use Rattle.psos_calls.specs.Language.Rights.{has}
use Rattle.psos_calls.specs.Language.Script.{Script}
use Rattle.psos_calls.specs.Language.User.{User}
use Rattle.psos_calls.specs.Language.Tests.{if_there, if_holds}
use Rattle.psos_calls.specs.Levels.Level7.{IsTaken, slot_words, place_in_slot, page_words}
use Rattle.psos_calls.specs.Levels.Level8.{slot_of}
use Rattle.psos_calls.specs.Levels.Level9.{rep_of}
use Rattle.psos_calls.specs.Levels.{Levels}
use Rattle.psos_calls.specs.Plan.{Plan, Ask, Runs, if_guard}
use Rattle.psos_calls.specs.Plan as plans
use Rattle.psos_calls.specs.Plan.Parts.{Opened, opened, read_pages, read_rep, read_dir, open_dir}
use Rattle.psos_model.specs.Flat.{Flat, Object, Directory}
use Rattle.psos_model.specs.Answer.Outcomes.{Outcome, refuse, if_dir}
use Rattle.psos_model.specs.Replay.{System}
use Rattle.psos_model.specs.Sound.Roles.{Role}
use Rattle.psos_model.specs.Sound.Roles as roles
use Rattle.psos_model.specs.Sound.{IsSound}
use Rattle.psos_model.specs.Replay.StandsFor.{StandsFor, object_row}
use Rattle.psos_agree.specs.Agreement.{Meets}
use Rattle.psos_agree.proofs.PlanWalk.{refused}
use Rattle.psos_agree.proofs.SegmentWords.{row_of, is_taken}
use Rattle.psos_agree.specs.Changes.{HasRead}

-- ---- the pages of a representation

page_of_number : (slot k : ℕ) → k < 8 → (8 * slot + k) / 8 ≡ slot
page_of_number slot k small = omega arith

place_of_page : (slot k : ℕ) → k < 8 → place_in_slot (8 * slot + k) 0 ≡ 64 * k
place_of_page slot k small = omega arith

or_true : (a b : Bool) → b ≡ true → (a || b) ≡ true
or_true true b e = refl
or_true false b e = e

-- the words in a slot are read page by page
module _ (l : Levels) (slot : ℕ) (slots : List Slot) (taken : IsTaken l.pages slot) (long : length (slot_words l.pages slot) ≡ MOST_WORDS) (is : decode (slot_words l.pages slot) ≡ Some slots)
    (go : Opened → Plan) (P : Levels → Reply → Effect → Type 0) (rest : Runs (go (record { slot = slot; slots = slots })) l P) where
  -- words that are the whole directory
  runs_opened : (words : List Word) → decode words ≡ Some slots → Runs (opened slot words go) l P
  runs_opened words e = subst (λ (o : Option (List Slot)). Runs (if_there o (plans.refuse Range) (λ (found : List Slot). go (record { slot = slot; slots = found }))) l P) (sym e) rest

  page_is : (k : ℕ) → k < 8 → page_words l.pages (8 * slot + k) ≡ take 64 (drop (64 * k) (slot_words l.pages slot))
  page_is k small =
      ap (λ (n : ℕ). take 64 (drop (place_in_slot (8 * slot + k) 0) (slot_words l.pages n))) (page_of_number slot k small)
      ∙ ap (λ (n : ℕ). take 64 (drop n (slot_words l.pages slot))) (place_of_page slot k small)

  -- the words of one page more
  front_is : (k : ℕ) → k < 8 → (words : List Word) → words ≡ take (64 * k) (slot_words l.pages slot) → words ++ page_words l.pages (8 * slot + k) ≡ take (64 * (k + 1)) (slot_words l.pages slot)
  front_is k small words e =
      ap (λ (ws : List Word). ws ++ page_words l.pages (8 * slot + k)) e
      ∙ ap (λ (ws : List Word). take (64 * k) (slot_words l.pages slot) ++ ws) (page_is k small)
      ∙ sym (take-add (64 * k) 64 (slot_words l.pages slot))
      ∙ ap (λ (n : ℕ). take n (slot_words l.pages slot)) {x = 64 * k + 64} {y = 64 * (k + 1)} (omega arith)

  -- pages up to one with a slot that was never used are the whole directory
  front_decodes : (k : ℕ) → k < 8 → (words : List Word) → words ≡ take (64 * k) (slot_words l.pages slot) → has_never (page_words l.pages (8 * slot + k)) ≡ true
      → decode (words ++ page_words l.pages (8 * slot + k)) ≡ Some slots
  front_decodes k small words e seen =
      let all = slot_words l.pages slot in
      let page = page_words l.pages (8 * slot + k) in
      let m = 64 * (k + 1) in
      let words_long : length words ≡ 4 * (16 * k) = ap length e ∙ length-take-le (64 * k) all (omega (arith, long)) ∙ omega arith in
      let front : words ++ page ≡ take m all = front_is k small words e in
      let front_long : length (words ++ page) ≡ 4 * (16 * (k + 1)) = ap length front ∙ length-take-le m all (omega (arith, long)) ∙ omega arith in
      let both : (words ++ page) ++ drop m all ≡ all = ap (λ (ws : List Word). ws ++ drop m all) front ∙ take-append-drop m all in
      let whole : IsWhole ((words ++ page) ++ drop m all) slots = subst (λ (ws : List Word). IsWhole ws slots) (sym both) (record { long = long; decoded = is }) in
      front-whole (words ++ page) (drop m all) (16 * (k + 1)) slots whole front_long (never-parts words page (16 * k) words_long ∙ or_true (has_never words) (has_never page) seen)

  pub runs_pages : (n k : ℕ) → n + k ≡ 8 → (words : List Word) → words ≡ take (64 * k) (slot_words l.pages slot) → Runs (read_pages n slot k words go) l P
  runs_pages zero k all words e =
      let m : 64 * k ≡ length (slot_words l.pages slot) = omega (arith, long, all) in
      runs_opened words (ap decode (e ∙ ap (λ (n : ℕ). take n (slot_words l.pages slot)) m ∙ take-length (slot_words l.pages slot)) ∙ is)
  runs_pages (suc n) k all words e =
      let small : k < 8 = omega (arith, all) in
      (subst (IsTaken l.pages) (sym (page_of_number slot k small)) taken, by (has_never (page_words l.pages (8 * slot + k))) refl (runs_pages n (k + 1) (omega (arith, all)) (words ++ page_words l.pages (8 * slot + k)) (front_is k small words e)))
    where
      by : (b : Bool) → has_never (page_words l.pages (8 * slot + k)) ≡ b → Runs (read_pages n slot (k + 1) (words ++ page_words l.pages (8 * slot + k)) go) l P
          → Runs (cond b (opened slot (words ++ page_words l.pages (8 * slot + k)) go) (read_pages n slot (k + 1) (words ++ page_words l.pages (8 * slot + k)) go)) l P
      by true seen later = runs_opened (words ++ page_words l.pages (8 * slot + k)) (front_decodes k (omega (arith, all)) words e seen)
      by false seen later = later

-- ---- a directory that is live

abbrev is_object : Role → Bool
is_object roles.Object = true
is_object _ = false

some_row : {X : Type 0} (o : Option X) (x : X) → o ≡ Some x → IsSome o
some_row {X = X} o x e = subst (λ (q : Option X). IsSome q) (sym e) refl

module _ {s : Script} {y : System} {f : Flat} (h : StandsFor y f) (sound : IsSound s f) where
  -- a directory is no object
  no_object : (d : ℕ) (x : Directory) → at f.dirs d ≡ Some x → (o : Option Object) → at f.objects d ≡ o → o ≡ None
  no_object d x live None e = refl
  no_object d x live (Some o) e = absurd (false≢true (sym (ap is_object (sound.dirs d x live).role-is) ∙ ap is_object (sound.objects d o e).role-is))

  -- its row of level 9
  pub dir_row : (d : ℕ) (x : Directory) → at f.dirs d ≡ Some x → at y.levels.types.objects d ≡ object_row None (Some x)
  dir_row d x live =
      h.objects d
      ∙ ap (λ (o : Option Object). object_row o (at f.dirs d)) (no_object d x live (at f.objects d) refl)
      ∙ ap (object_row None) live

  pub rep_is : (d : ℕ) (x : Directory) → at f.dirs d ≡ Some x → rep_of y.levels.types d ≡ x.rep
  rep_is d x live = ap (λ (o : Option ObjRow). if_there o 0 (λ r. r.rep.uid)) (dir_row d x live)

  module _ (d : ℕ) (x : Directory) (live : at f.dirs d ≡ Some x) (go : Opened → Plan) (P : Levels → Reply → Effect → Type 0)
      (rest : (slots : List Slot) → HasRead y.levels.pages y.levels.segs x.rep (slot_of y.levels.segs x.rep) slots → Runs (go (record { slot = slot_of y.levels.segs x.rep; slots = slots })) y.levels P) where
    -- its representation is read
    pub runs_rep : Runs (read_rep x.rep go) y.levels P
    runs_rep =
        let row = row_of y x.rep MOST_WORDS x.guard.0 (h.reps d x live) in
        let mine = is_taken h x.rep MOST_WORDS x.guard.0 (h.reps d x live) in
        let holds = h.entries d x live in
        let slot = slot_of y.levels.segs x.rep in (
          some_row (at y.levels.segs.segments x.rep) row.row row.live,
          runs_pages y.levels slot holds.slots mine.0 mine.1 holds.decodes go P (rest holds.slots (record { slot-is = refl; decodes = holds.decodes })) 8 0 refl [] refl,
        )

    -- it is read by its identifier
    pub runs_read : Runs (read_dir d go) y.levels P
    runs_read = (some_row (at y.levels.types.objects d) _ (dir_row d x live), subst (λ (u : ℕ). Runs (read_rep u go) y.levels P) (sym (rep_is d x live)) runs_rep)

  module _ (u : User) (cap : Capability) (right : Right) where
    -- a directory is asked for by a capability
    pub runs_dir_at : (go : ℕ → Plan) (res : Directory → Outcome)
        → ((x : Directory) → at f.dirs cap.uid ≡ Some x → has cap right ≡ true → Runs (go x.guard.0) y.levels (Meets u y f (res x)))
        → Runs (Ask (DirAt cap right) (λ a. if_guard a go)) y.levels (Meets u y f (if_dir f cap right res))
    runs_dir_at go res rest = (tt, by (at f.dirs cap.uid) refl)
      where
        answer : Option Rights → Plan
        answer o = if_guard (if_there o (No (Absent kinds.Directory)) (λ guard. if_holds (has cap right) (No (Lacks right)) (Guard guard))) go

        may : (x : Directory) → at f.dirs cap.uid ≡ Some x → (b : Bool) → has cap right ≡ b
            → Runs (if_guard (if_holds b (No (Lacks right)) (Guard x.guard)) go) y.levels (Meets u y f (if_holds b (refuse (Lacks right)) (res x)))
        may x e true is = rest x e is
        may x e false is = refused u h (Lacks right)

        by : (o : Option Directory) → at f.dirs cap.uid ≡ o
            → Runs (answer (at y.levels.dirs cap.uid)) y.levels (Meets u y f (if_there o (refuse (Absent kinds.Directory)) (λ x. if_holds (has cap right) (refuse (Lacks right)) (res x))))
        by None e =
            subst (λ (q : Option Rights). Runs (answer q) y.levels (Meets u y f (refuse (Absent kinds.Directory)))) (sym (h.dirs cap.uid ∙ ap (option_map (λ (x : Directory). x.guard)) e)) (refused u h (Absent kinds.Directory))
        by (Some x) e =
            subst (λ (q : Option Rights). Runs (answer q) y.levels (Meets u y f (if_holds (has cap right) (refuse (Lacks right)) (res x)))) (sym (h.dirs cap.uid ∙ ap (option_map (λ (x : Directory). x.guard)) e)) (may x e (has cap right) refl)

    -- and opened
    pub runs_open : (go : ℕ → Opened → Plan) (res : Directory → Outcome)
        → ((x : Directory) → at f.dirs cap.uid ≡ Some x → (slots : List Slot) → HasRead y.levels.pages y.levels.segs x.rep (slot_of y.levels.segs x.rep) slots
        → Runs (go x.guard.0 (record { slot = slot_of y.levels.segs x.rep; slots = slots })) y.levels (Meets u y f (res x)))
        → Runs (open_dir cap right go) y.levels (Meets u y f (if_dir f cap right res))
    runs_open go res rest = runs_dir_at _ res (λ x live may. runs_read cap.uid x live (go x.guard.0) (Meets u y f (res x)) (rest x live))
