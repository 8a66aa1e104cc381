-- The plan of `delete`, part by part.
use Rattle.std.proofs.Common.{◌≡◌, ℕ, Bool, true, false, List, [], ◌∷◌, Option, Some, None, Result, Ok, Err, refl, sym, ap, subst, ◌∙◌}
use Rattle.std.proofs.lemmas.Option.{same_Some, none-some}
use Rattle.psos_table.specs.Table.{at}
use Rattle.psos_caps.specs.Capability.{Capability}
use Rattle.psos_caps.specs.declared.cap.Uid.{Uid}
use Rattle.psos_text.specs.declared.name.Name.{Name}
use Rattle.psos_words.specs.declared.word.Word.{Word}
use Rattle.psos_words.specs.declared.word.Word.TheVariants.{Cap}
use Rattle.psos_words.specs.Words.{word_at}
use Rattle.psos_words.specs.Directory.{Found, find}
use Rattle.psos_calls.specs.declared.kind.Kind.{Kind}
use Rattle.psos_calls.specs.declared.kind.Kind.TheVariants.{Segment, Directory}
use Rattle.psos_calls.specs.declared.right.Right.TheVariants.{Delete}
use Rattle.psos_calls.specs.declared.refusal.Refusal.TheVariants.{NotCap, UnknownName, NotDistinguished, NotEmpty}
use Rattle.psos_calls.specs.declared.level_call.LevelCall.TheVariants.{Hold13, Hold11, KindOf, DirGone}
use Rattle.psos_calls.specs.Levels.Calls.{LevelCall}
use Rattle.psos_calls.specs.Levels.Answers.{LevelAnswer}
use Rattle.psos_calls.specs.declared.level_answer.LevelAnswer.TheVariants.{Is}
use Rattle.psos_calls.specs.declared.next.Next.{Next}
use Rattle.psos_calls.specs.declared.step.Step.{Step}
use Rattle.psos_calls.specs.Language.Tests.{if_there, if_holds}
use Rattle.psos_calls.specs.Levels.Level11.{LifeState}
use Rattle.psos_calls.specs.Levels.{Levels}
use Rattle.psos_calls.specs.Plan.{Plan, Ask, refuse, if_kind}
use Rattle.psos_calls.specs.Language.Capabilities.{uid}
use Rattle.psos_calls.specs.Plan.Asked.{kind_asked}
use Rattle.psos_calls.specs.Plan.Steps.{is_nothing}
use Rattle.psos_calls.specs.Plan.Parts.{Opened}
use Rattle.psos_calls.specs.Plan.Objects.{is_empty, plan_delete}
use Rattle.psos_calls.specs.Plan.Trace.{followed, next_of, IsTraceOf}
use Rattle.psos_plan_dir.specs.Reads.{IsRun, IsNoPage, IsNext, GoesOn, IsCapFront, open_with}
use Rattle.psos_plan_life.specs.Parts.{Gives, Stops, Tells, Leads, doing, object_dropped}
use Rattle.psos_plan_life.specs.Deletion.{held_dir, Picked, picking, kind_dropped, emptied, forgotten, deleting, IsHeldFront, IsDeleting, IsEmptying, IsPicked}
use Rattle.psos_plan_life.proofs.PlanSequence.{passed}
use Rattle.psos_plan_life.proofs.CreationPlans.{cap_is}

-- ---- what is to go is picked

pub asks-kind : (call : LevelCall) (u : Uid) → kind_asked call ≡ Some u → call ≡ KindOf u
asks-kind (KindOf v) u e = ap KindOf (same_Some v u e)
asks-kind _ u e = absurd (none-some u e)

-- by what is found, and by its mark
abbrev Looked : Option Found → (Found → Plan) → Plan
Looked found go = if_there found (refuse UnknownName) (λ f. if_holds f.entry.kept (refuse NotDistinguished) (go f))

abbrev Kinds : (Picked → Plan) → Found → Kind → Plan
Kinds go found kind = go (record { found = found; kind = kind })

abbrev Asks : (Picked → Plan) → Found → Plan
Asks go found = Ask (KindOf (uid found.entry.cap.uid)) (λ c. if_kind c (Kinds go found))

-- what is behind the part
abbrev pub After : Opened → Picked → Plan
After d p = kind_dropped p.kind p.found.entry.cap.uid (λ _. forgotten d p.found)

pub picking_apart : (d : Opened) (name : Name) (go : Picked → Plan) → IsNoPage (picking d name go)
picking_apart d name go = by (find d.slots name)
  where
    marked : (kept : Bool) (f : Found) → IsNoPage (if_holds kept (refuse NotDistinguished) (Asks go f))
    marked true f = tt
    marked false f = tt

    by : (found : Option Found) → IsNoPage (Looked found (Asks go))
    by None = tt
    by (Some f) = marked f.entry.kept f

-- where a call was made, the entry is there and has the mark, and the call is for its identifier
pub record WasPicked (d : Opened) (name : Name) (s : Step) : Type 0 where
  pub found : Found
  pub is : find d.slots name ≡ Some found
  pub kept : found.entry.kept ≡ true
  pub call : s.call ≡ KindOf (uid found.entry.cap.uid)

pub was_picked : (d : Opened) (name : Name) (s : Step) (rest : List Step) → IsDeleting d name (s ∷ rest) → WasPicked d name s
was_picked d name s rest front = by (find d.slots name) refl front.front
  where
    marked : (kept : Bool) (f : Found) → find d.slots name ≡ Some f → f.entry.kept ≡ kept → IsTraceOf (if_holds kept (refuse NotDistinguished) (Asks (After d) f)) front.levels (s ∷ rest) → WasPicked d name s
    marked true f is e h = record { found = f; is = is; kept = e; call = ap (λ (x : Step). x.call) h.0 }
    marked false f is e h = elim h [ ]

    by : (found : Option Found) → find d.slots name ≡ found → IsTraceOf (Looked found (Asks (After d))) front.levels (s ∷ rest) → WasPicked d name s
    by None is h = elim h [ ]
    by (Some f) is h = marked f.entry.kept f is refl h

-- a live directory by its kind
live_by_kind : (s : LifeState) (u : ℕ) (kind : Kind) → if_there (at s u) Segment (λ k. k) ≡ kind → kind ≡ Directory → at s u ≡ Some Directory
live_by_kind s u kind e is = by (at s u) (e ∙ is)
  where
    by : (row : Option Kind) → if_there row Segment (λ k. k) ≡ Directory → row ≡ Some Directory
    by None h = cc
    by (Some k) h = ap (λ (x : Kind). Some x) h

module _ (d : Opened) (name : Name) (s : Step) (trace rest : List Step) (made : trace ≡ s ∷ rest) (front : IsDeleting d name trace) where
  pub was : WasPicked d name s
  was = was_picked d name s rest (subst (IsDeleting d name) made front)

  asks_is : (go : Picked → Plan) → picking d name go ≡ Asks go was.found
  asks_is go = ap (λ (o : Option Found). Looked o (Asks go)) was.is ∙ ap (λ (b : Bool). if_holds b (refuse NotDistinguished) (Asks go was.found)) was.kept

  on_answer : (go : Picked → Plan) → followed (picking d name go) trace ≡ followed (if_kind s.answer (Kinds go was.found)) rest
  on_answer go = ap (followed (picking d name go)) made ∙ ap (λ (p : Plan). followed p (s ∷ rest)) (asks_is go)

  pub picked : (u : Uid) (kind : Kind) → s.call ≡ KindOf u → s.answer ≡ Is kind → IsPicked d name trace u.0 kind rest
  picked u kind call e =
      let same : u ≡ uid was.found.entry.cap.uid = cc (was.call) in
      record {
        entry = record { found = was.found; is = was.is; names = ap (λ (x : Uid). x.0) same };
        gives = record { goes_on = λ go. on_answer go ∙ ap (λ (a : LevelAnswer). followed (if_kind a (Kinds go was.found)) rest) e };
        front = λ l go h.
            let P : List Step → Type 0 = λ t. IsTraceOf (picking d name go) l t in
            let Q : Plan → Type 0 = λ p. IsTraceOf p l (s ∷ rest) in
            let f = subst Q (asks_is go) (subst P made h) in
            let answer : Is (if_there (at l.life was.found.entry.cap.uid) Segment (λ k. k)) ≡ Is kind = sym (ap (λ (x : Step). x.answer) f.0) ∙ e in
            let R : LevelAnswer → Type 0 = λ a. IsTraceOf (if_kind a (Kinds go was.found)) l rest in
            let kind_is : if_there (at l.life was.found.entry.cap.uid) Segment (λ k. k) ≡ kind = cc in
            let L : ℕ → Type 0 = λ n. at l.life n ≡ Some Directory in
            (subst R answer f.1, λ is. subst L (sym (ap (λ (x : Uid). x.0) same)) (live_by_kind l.life was.found.entry.cap.uid kind kind_is is));
      }

-- ---- a directory goes

pub emptied_apart : (d : Opened) (u : ℕ) (go : Unit {0} → Plan) → IsNoPage (emptied d u go)
emptied_apart d u go = by (is_empty d)
  where
    by : (b : Bool) → IsNoPage (if_holds b (refuse NotEmpty) (doing (DirGone (uid u)) go))
    by true = tt
    by false = tt

-- where a call was made, it has no entry
empty_was : (d : Opened) (u : ℕ) (s : Step) (rest : List Step) → IsEmptying d u (s ∷ rest) → is_empty d ≡ true
empty_was d u s rest front = by (is_empty d) refl front.front
  where
    by : (b : Bool) → is_empty d ≡ b → IsTraceOf (if_holds b (refuse NotEmpty) (doing (DirGone (uid u)) front.go)) front.levels (s ∷ rest) → is_empty d ≡ true
    by true e h = e
    by false e h = elim h [ ]

empty_found : (d : Opened) (u : ℕ) (trace : List Step) → false ≡ is_nothing trace → IsEmptying d u trace → is_empty d ≡ true
empty_found d u [] some front = cc
empty_found d u (s ∷ rest) some front = empty_was d u s rest front

pub empty_tells : (d : Opened) (u : ℕ) (trace : List Step) → false ≡ is_nothing trace → IsEmptying d u trace
    → (r : Result (List Step) Next) → Tells (doing (DirGone (uid u))) trace r → Tells (emptied d u) trace r
empty_tells d u trace some front r h = by r h
  where
    same : (go : Unit {0} → Plan) → emptied d u go ≡ doing (DirGone (uid u)) go
    same go = ap (λ (b : Bool). if_holds b (refuse NotEmpty) (doing (DirGone (uid u)) go)) (empty_found d u trace some front)

    by : (r : Result (List Step) Next) → Tells (doing (DirGone (uid u))) trace r → Tells (emptied d u) trace r
    by (Ok rest) h = record { goes_on = λ go. ap (λ (p : Plan). followed p trace) (same go) ∙ h.goes_on go }
    by (Err next) h = record { comes = λ go. h.comes go ∙ ap (λ (p : Plan). next_of (followed p trace)) (sym (same go)) }

-- what is behind the directory that is read
abbrev pub Inner : ℕ → Opened → (Unit {0} → Plan) → Plan
Inner u d go = emptied d u (λ _. object_dropped u go)

-- ---- the directory is opened, behind two calls that only hold a level

abbrev pub Last : Capability → (Opened → Plan) → Unit {0} → Plan
Last dir go _ = open_with dir Delete go

abbrev pub Second : Capability → (Opened → Plan) → Unit {0} → Plan
Second dir go _ = doing Hold11 (Last dir go)

pub held_stops : (dir : Capability) (trace : List Step) (next : Next) → Stops (doing Hold13) trace next → IsNext (held_dir dir) trace next
held_stops dir trace next h = record { is = λ go. sym (h.comes (Second dir go)) }

pub held_stops_later : (dir : Capability) (trace mid : List Step) (next : Next) → Gives (doing Hold13) trace tt mid → Stops (doing Hold11) mid next → IsNext (held_dir dir) trace next
held_stops_later dir trace mid next g h = record { is = λ go. sym (passed g (Second dir go) (h.comes (Last dir go))) }

module _ (dir : Capability) (trace mid rest : List Step) (one : Leads Hold13 trace mid) (two : Leads Hold11 mid rest) where
  held_front : (l : Levels) (go : Opened → Plan) → IsTraceOf (held_dir dir go) l trace → IsTraceOf (open_with dir Delete go) l rest
  held_front l go h = two.front l (Last dir go) (one.front l (Second dir go) h)

  pub held_goes_on : Gives (doing Hold13) trace tt mid → Gives (doing Hold11) mid tt rest → GoesOn (held_dir dir) (open_with dir Delete) trace rest
  held_goes_on g h = record { is = λ go. g.goes_on (Second dir go) ∙ h.goes_on (Last dir go); front = held_front }

  pub held_opens : (name : Name) → IsHeldFront dir name trace → IsCapFront dir Delete rest
  held_opens name f = record {
    levels = f.levels;
    front = record {
      lists = f.lists;
      go = λ d. deleting d name;
      apart = λ d. picking_apart d name (After d);
      front = held_front f.levels (λ d. deleting d name) f.front;
    };
  }

-- ---- the whole

pub delete_is : (r : List Word) (rs : ℕ) (name : Name) (dir : Capability) → word_at r rs ≡ Cap dir → plan_delete r rs name ≡ held_dir dir (λ d. deleting d name)
delete_is r rs name dir e = cap_is (word_at r rs) dir (refuse NotCap) (λ (x : Capability). held_dir x (λ d. deleting d name)) e

pub delete_front : (r : List Word) (rs : ℕ) (name : Name) (dir : Capability) (trace : List Step) → word_at r rs ≡ Cap dir → IsRun (plan_delete r rs name) trace → IsHeldFront dir name trace
delete_front r rs name dir trace e run =
    let P : Plan → Type 0 = λ p. IsTraceOf p run.levels trace in
    record { levels = run.levels; lists = run.lists; front = subst P (delete_is r rs name dir e) run.front }
