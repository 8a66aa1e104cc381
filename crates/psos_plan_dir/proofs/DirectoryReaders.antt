-- What the functions that read a directory need to know.
use Rattle.std.proofs.Common.{◌≡◌, ℕ, ◌+◌, ◌*◌, ◌<◌, true, false, List, [], ◌∷◌, ◌++◌, length, take, drop, append-nil, Option, Some, None, refl, sym, ap, subst, ◌∙◌, arith}
use Rattle.std.specs.Option.{unwrap_or}
use Rattle.std.proofs.lemmas.Bool.{true≢false}
use Rattle.std.proofs.lemmas.List.{take-append-drop}
use Rattle.psos_limits.specs.declared.TheConstants.{SLOTS}
use Rattle.psos_table.specs.Table.{at}
use Rattle.psos_caps.specs.Capability.{Capability}
use Rattle.psos_caps.specs.declared.cap.Uid.{Uid}
use Rattle.psos_caps.specs.declared.rights.Rights.{Rights}
use Rattle.psos_words.specs.Directory.{Slot as EntrySlot, slots_of}
use Rattle.psos_dirrep.specs.Pages.{words_of, AreSlots}
use Rattle.psos_dirrep.specs.EntryLists.{entry_list}
use Rattle.psos_calls.specs.declared.kind.Kind.TheVariants.{Directory}
use Rattle.psos_calls.specs.declared.level.Level.TheVariants.{L7}
use Rattle.psos_calls.specs.Levels.Answers.{LevelAnswer}
use Rattle.psos_calls.specs.declared.level_answer.LevelAnswer.TheVariants.{Guard, Rep, Slot, No}
use Rattle.psos_calls.specs.declared.level_call.LevelCall.TheVariants.{DirAt, RepOf, SlotOf, PageGet}
use Rattle.psos_calls.specs.declared.next.Next.TheVariants.{Call}
use Rattle.psos_calls.specs.declared.refusal.Refusal.{Refusal}
use Rattle.psos_calls.specs.declared.refusal.Refusal.TheVariants.{Absent, Lacks}
use Rattle.psos_calls.specs.declared.right.Right.{Right}
use Rattle.psos_calls.specs.declared.step.Step.{Step}
use Rattle.psos_calls.specs.Language.Rights.{has}
use Rattle.psos_calls.specs.Language.Tests.{if_there, if_holds}
use Rattle.psos_calls.specs.Levels.Level8.{slot_of}
use Rattle.psos_calls.specs.Levels.Level9.{rep_of}
use Rattle.psos_calls.specs.Levels.Level10.{DirState, dir_at}
use Rattle.psos_calls.specs.Plan.{if_guard, if_rep, if_slot}
use Rattle.psos_calls.specs.Language.Capabilities.{uid}
use Rattle.psos_calls.specs.Plan.Parts.{Opened, read_pages, read_rep, read_dir}
use Rattle.psos_calls.specs.Plan.Trace.{IsTraceOf}
use Rattle.psos_calls.specs.Plan.Asked.{pages_first}
use Rattle.psos_plan_dir.specs.Pages.{pages_in, last_page, is_more, IsOpen, opened_by}
use Rattle.psos_plan_dir.specs.Reads.{open_with, IsCapFront, IsDirFront, IsRepFront, IsSlotFront, IsNext, GoesOn, IsRead}
use Rattle.psos_plan_dir.proofs.Representations.{HoldsList, holds}
use Rattle.psos_plan_dir.proofs.PlanSteps.{ask-on, front-on}
use Rattle.psos_plan_dir.proofs.PageWalk.{AllRead, NoneFirst, Walked, over, more, Over, walk, last-slots, split-read, pages-count}

-- ---- pages

none-slots : AreSlots []
unfolding slots_of
none-slots = record { slots = refl; in_order = refl }

module _ (slot : ℕ) (trace pages rest : List Step) (f : IsSlotFront slot trace) (front : pages ≡ take (pages_first trace) trace) (back : rest ≡ drop (pages_first trace) trace) where
  held : HoldsList f.levels.pages slot
  held = subst (HoldsList f.levels.pages) f.is (holds f.levels f.front.lists f.dir f.guard f.live)

  pub slot-low : slot < SLOTS
  slot-low = held.low

  both : pages ++ rest ≡ trace
  both = ap (λ (ps : List Step). ps ++ rest) front ∙ ap (λ (rs : List Step). take (pages_first trace) trace ++ rs) back ∙ take-append-drop (pages_first trace) trace

  walked : Walked 8 slot 0 [] [] pages rest held.entry_slots
  walked =
      let reads = split-read trace in
      walk f.levels slot held f.front.go f.front.apart 8 0 [] [] pages rest refl refl refl
      (subst AllRead (sym front) reads.0) (subst NoneFirst (sym back) reads.1) (subst (λ (t : List Step). IsTraceOf (read_pages 8 slot 0 [] f.front.go) f.levels t) (sym both) f.front.front)

  -- the last page is one of a directory
  pub slot-last : AreSlots (last_page [] pages)
  slot-last =
      let reads = split-read trace in
      last-slots f.levels slot held f.front.go f.front.apart 8 0 [] [] pages rest refl refl none-slots
      (subst AllRead (sym front) reads.0) (subst (λ (t : List Step). IsTraceOf (read_pages 8 slot 0 [] f.front.go) f.levels t) (sym both) f.front.front)

  pub slot-few : is_more 8 [] pages rest ≡ true → length pages < 8
  slot-few is = by walked
    where
      by : Walked 8 slot 0 [] [] pages rest held.entry_slots → length pages < 8
      by (over stop o) = absurd (true≢false (sym is ∙ stop))
      by (more on nothing m) = m.few

  pub slot-more : is_more 8 [] pages rest ≡ true → (k : ℕ) → k ≡ length pages → IsNext (read_pages 8 slot 0 []) trace (Call L7 (PageGet (8 * slot + k)))
  slot-more is k count = by walked
    where
      by : Walked 8 slot 0 [] [] pages rest held.entry_slots → IsNext (read_pages 8 slot 0 []) trace (Call L7 (PageGet (8 * slot + k)))
      by (over stop o) = absurd (true≢false (sym is ∙ stop))
      by (more on nothing m) =
          let all : trace ≡ pages = sym both ∙ ap (λ (rs : List Step). pages ++ rs) nothing ∙ append-nil pages in
          let place : 8 * slot + (0 + length pages) ≡ 8 * slot + k = omega (arith, count) in
          subst (λ (t : List Step). IsNext (read_pages 8 slot 0 []) t (Call L7 (PageGet (8 * slot + k)))) (sym all) (record { is = λ go. m.is go ∙ ap (λ (x : ℕ). Call L7 (PageGet x)) place })

  whole : is_more 8 [] pages rest ≡ false → Over 8 slot 0 [] pages rest held.entry_slots
  whole is = by walked
    where
      by : Walked 8 slot 0 [] [] pages rest held.entry_slots → Over 8 slot 0 [] pages rest held.entry_slots
      by (over stop o) = o
      by (more on nothing m) = absurd (true≢false (sym on ∙ is))

  entries : (is : is_more 8 [] pages rest ≡ false) → held.entry_slots ≡ entry_list (words_of (pages_in pages))
  entries is = sym (ap (λ (o : Option (List EntrySlot)). unwrap_or o []) (whole is).list)

  pub slot-open : is_more 8 [] pages rest ≡ false → IsOpen slot pages
  slot-open is =
      let o = whole is in
      let few = o.few in
      record {
        low = slot-low;
        whole = o.whole;
        list = record { are = o.are; few = omega (arith, pages-count pages); list = o.list ∙ ap (λ (l : List EntrySlot). Some l) (entries is) };
        never = o.never;
      }

  pub slot-read : is_more 8 [] pages rest ≡ false → (d : Opened) → d ≡ opened_by slot pages → IsRead (read_pages 8 slot 0 []) trace d rest
  slot-read is d e =
      let here : ◌≡◌ {A = Opened} (record { slot = slot; slots = held.entry_slots }) d = ap (λ (l : List EntrySlot). (let x : Opened = record { slot = slot; slots = l } in x)) (entries is) ∙ sym e in
      let one = subst (λ (t : List Step). IsRead (read_pages 8 slot 0 []) t (record { slot = slot; slots = held.entry_slots }) rest) both (whole is).goes in
      subst (λ (x : Opened). IsRead (read_pages 8 slot 0 []) trace x rest) here one

-- ---- the slot, the representation and the directory

pub slot-on : (rep slot : ℕ) (a : Step) (rest : List Step) → a.answer ≡ Slot slot → GoesOn (read_rep rep) (read_pages 8 slot 0 []) (a ∷ rest) rest
slot-on rep slot a rest e = ask-on (SlotOf (uid rep)) (λ go x. if_slot x (λ s. read_pages 8 s 0 [] go)) (read_pages 8 slot 0 []) a rest (Slot slot) (λ l. refl) (λ go. refl) e

pub rep-on : (dir : ℕ) (rep : Uid) (a : Step) (rest : List Step) → a.answer ≡ Rep rep → GoesOn (read_dir dir) (read_rep rep.0) (a ∷ rest) rest
rep-on dir rep a rest e = ask-on (RepOf (uid dir)) (λ go x. if_rep x (λ r. read_rep r go)) (read_rep rep.0) a rest (Rep rep) (λ l. refl) (λ go. refl) e

pub guard-on : (cap : Capability) (right : Right) (guard : Rights) (a : Step) (rest : List Step) → a.answer ≡ Guard guard → GoesOn (open_with cap right) (read_dir cap.uid) (a ∷ rest) rest
guard-on cap right guard a rest e = ask-on (DirAt cap right) (λ go x. if_guard x (λ g. read_dir cap.uid go)) (read_dir cap.uid) a rest (Guard guard) (λ l. refl) (λ go. refl) e

-- the representation lies in the slot that was answered
pub slot-front : (rep slot : ℕ) (a : Step) (rest : List Step) → a.answer ≡ Slot slot → IsRepFront rep (a ∷ rest) → IsSlotFront slot rest
slot-front rep slot a rest e f =
    let given : Slot (slot_of f.levels.segs rep) ≡ Slot slot = sym (ap (λ (s : Step). s.answer) f.front.front.0) ∙ e in
    record {
      levels = f.levels;
      front = front-on (read_rep rep) (read_pages 8 slot 0 []) f.levels (a ∷ rest) rest (slot-on rep slot a rest e) f.front;
      dir = f.dir;
      guard = f.guard;
      live = f.live;
      is = ap (slot_of f.levels.segs) f.is ∙ same_slot (slot_of f.levels.segs rep) slot given;
    }
  where
    same_slot : (m n : ℕ) → ◌≡◌ {A = LevelAnswer} (Slot m) (Slot n) → m ≡ n
    same_slot m n e = cc

-- the directory has the representation that was answered
pub rep-front : (dir : ℕ) (rep : Uid) (a : Step) (rest : List Step) → a.answer ≡ Rep rep → IsDirFront dir (a ∷ rest) → IsRepFront rep.0 rest
rep-front dir rep a rest e f =
    let given : Rep (uid (rep_of f.levels.types dir)) ≡ Rep rep = sym (ap (λ (s : Step). s.answer) f.front.front.0) ∙ e in
    record {
      levels = f.levels;
      front = front-on (read_dir dir) (read_rep rep.0) f.levels (a ∷ rest) rest (rep-on dir rep a rest e) f.front;
      dir = dir;
      guard = f.guard;
      live = f.live;
      is = ap (λ (u : Uid). u.0) (same_rep (uid (rep_of f.levels.types dir)) rep given);
    }
  where
    same_rep : (m n : Uid) → ◌≡◌ {A = LevelAnswer} (Rep m) (Rep n) → m ≡ n
    same_rep m n e = cc

-- a guard is answered where the directory is live
pub record IsGuarded (dirs : DirState) (u : ℕ) : Type 0 where
  pub guard : Rights
  pub live : at dirs u ≡ Some guard

pub guard-live : (dirs : DirState) (cap : Capability) (right : Right) (guard : Rights) → dir_at dirs cap right ≡ Guard guard → IsGuarded dirs cap.uid
guard-live dirs cap right guard e = by (at dirs cap.uid) refl e
  where
    by : (o : Option Rights) → at dirs cap.uid ≡ o → ◌≡◌ {A = LevelAnswer} (if_there o (No (Absent Directory)) (λ g. if_holds (has cap right) (No (Lacks right)) (Guard g))) (Guard guard) → IsGuarded dirs cap.uid
    by None is e = absurd (no_guard (Absent Directory) e)
      where
        no_guard : (r : Refusal) → ◌≡◌ {A = LevelAnswer} (No r) (Guard guard) → ⊥
        no_guard r e = cc
    by (Some g) is e = record { guard = g; live = is }

-- the capability leads to a live directory
pub dir-front : (cap : Capability) (right : Right) (guard : Rights) (a : Step) (rest : List Step) → a.answer ≡ Guard guard → IsCapFront cap right (a ∷ rest) → IsDirFront cap.uid rest
dir-front cap right guard a rest e f =
    let is = guard-live f.levels.dirs cap right guard (sym (ap (λ (s : Step). s.answer) f.front.front.0) ∙ e) in
    record {
      levels = f.levels;
      front = front-on (open_with cap right) (read_dir cap.uid) f.levels (a ∷ rest) rest (guard-on cap right guard a rest e) f.front;
      guard = is.guard;
      live = is.live;
    }
