-- Plans that make a user object: what each is where its tests pass, and what comes next in it.
use Rattle.std.proofs.Common.{◌≡◌, ℕ, Bool, true, cond, List, Option, Some, None, refl, sym, ap, subst, ◌∙◌}
use Rattle.psos_caps.specs.Capability.{Capability}
use Rattle.psos_caps.specs.declared.cap.Uid.{Uid}
use Rattle.psos_caps.specs.declared.rights.Rights.{Rights}
use Rattle.psos_words.specs.declared.word.Word.{Word}
use Rattle.psos_words.specs.declared.word.Word.TheVariants.{Cap}
use Rattle.psos_words.specs.Words.{word_at}
use Rattle.psos_text.specs.declared.name.Name.{Name}
use Rattle.psos_calls.specs.declared.kind.Kind.{Kind}
use Rattle.psos_calls.specs.declared.kind.Kind.TheVariants as kinds
use Rattle.psos_calls.specs.declared.refusal.Refusal.TheVariants.{NotCap, Range}
use Rattle.psos_calls.specs.declared.level_call.LevelCall.TheVariants.{Admit, CodeMake, TypeMake}
use Rattle.psos_calls.specs.declared.step.Step.{Step}
use Rattle.psos_calls.specs.declared.next.Next.{Next}
use Rattle.psos_calls.specs.Language.Tests.{if_cap, if_holds}
use Rattle.psos_calls.specs.Plan.{Plan, refuse}
use Rattle.psos_calls.specs.Language.Capabilities.{uid}
use Rattle.psos_calls.specs.Plan.Parts.{Opened, enrolled}
use Rattle.psos_calls.specs.Language.Stores.{is_length}
use Rattle.psos_calls.specs.Plan.Objects.{plan_mkseg, plan_mkdir, plan_mktype, plan_mkobj, plan_mkcode}
use Rattle.psos_calls.specs.Language.Stores.{guard_of}
use Rattle.psos_calls.specs.Plan.Trace.{followed, next_of, IsTraceOf}
use Rattle.psos_plan_dir.specs.Reads.{IsRun}
use Rattle.psos_plan_life.specs.Parts.{Gives, Stops, Leads, doing, segmented, represented, directed}
use Rattle.psos_plan_life.specs.Vacancies.{Vacancy, vacancy_in, making, IsMaking, IsVacancy}
use Rattle.psos_plan_life.proofs.PlanSequence.{passed}

-- the tests that a plan begins with, where they pass
pub cap_is : (w : Word) (cap : Capability) (other : Plan) (go : Capability → Plan) → w ≡ Cap cap → if_cap w other go ≡ go cap
cap_is w cap other go e = ap (λ (x : Word). if_cap x other go) e

pub holds_is : (test : Bool) (other go : Plan) → test ≡ true → if_holds test other go ≡ go
holds_is test other go e = ap (λ (b : Bool). cond b go other) e

-- an identifier by its number
pub same_uid : (u : Uid) (n : ℕ) → u.0 ≡ n → u ≡ uid n
same_uid u n e = ap uid e

-- rights by their bits
pub same_rights : (r : Rights) (bits : ℕ) → r.0 ≡ bits → r ≡ record { 0 = bits }
same_rights r bits e = ap (λ (n : ℕ). (let x : Rights = record { 0 = n } in x)) e

-- ---- a plan that finds a vacancy, makes something, and enrols it as of this kind

-- what is behind the vacancy, by the part that makes
abbrev pub Behind : (Vacancy → (Unit {0} → Plan) → Plan) → Name → Kind → ℕ → Vacancy → Plan
Behind part name kind rd p = part p (λ _. enrolled p.dir p.slot name kind p.new rd)

pub record Makes (plan : Plan) (dir : Capability) (of : Option Capability) (name : Name) (kind : Kind) (rd : ℕ) (part : Vacancy → (Unit {0} → Plan) → Plan) : Type 0 where
  pub is : plan ≡ making dir of name (Behind part name kind rd)

module _ {plan : Plan} {dir : Capability} {of : Option Capability} {name : Name} {kind : Kind} {rd : ℕ} {part : Vacancy → (Unit {0} → Plan) → Plan} (m : Makes plan dir of name kind rd part) (trace : List Step) where
  -- it is in the part that finds the vacancy
  pub makes_front : IsRun plan trace → IsMaking dir of name trace
  makes_front run =
      let P : Plan → Type 0 = λ p. IsTraceOf p run.levels trace in
      record { levels = run.levels; lists = run.lists; go = Behind part name kind rd; front = subst P m.is run.front }

  by_part : (next : Next) → next ≡ next_of (followed (making dir of name (Behind part name kind rd)) trace) → next ≡ next_of (followed plan trace)
  by_part next h = h ∙ ap (λ (p : Plan). next_of (followed p trace)) (sym m.is)

  -- no vacancy is found yet
  pub makes_stop : (next : Next) → Stops (making dir of name) trace next → next ≡ next_of (followed plan trace)
  makes_stop next h = by_part next (h.comes (Behind part name kind rd))

  -- a vacancy is found
  pub makes_end : (next : Next) (d : Opened) (new : Capability) (rest : List Step) → IsVacancy (making dir of name) trace d new rest
      → next ≡ next_of (followed (Behind part name kind rd (vacancy_in d new)) rest) → next ≡ next_of (followed plan trace)
  makes_end next d new rest p h = by_part next (passed p.gives (Behind part name kind rd) h)

-- ---- the five requests

pub mkseg_makes : (r : List Word) (rd rs : ℕ) (name : Name) (len g : ℕ) (dir : Capability) → word_at r rs ≡ Cap dir → is_length len ≡ true
    → Makes (plan_mkseg r rd rs name len g) dir None name kinds.Segment rd (λ p. segmented p.new.uid len (guard_of g))
mkseg_makes r rd rs name len g dir e long =
    let part : Vacancy → (Unit {0} → Plan) → Plan = λ p. segmented p.new.uid len (guard_of g) in
    record {
      is = cap_is (word_at r rs) dir (refuse NotCap) (λ d. if_holds (is_length len) (refuse Range) (making d None name (Behind part name kinds.Segment rd))) e
          ∙ holds_is (is_length len) (refuse Range) (making dir None name (Behind part name kinds.Segment rd)) long;
    }

pub mkdir_makes : (r : List Word) (rd rs : ℕ) (name : Name) (g : ℕ) (dir : Capability) → word_at r rs ≡ Cap dir
    → Makes (plan_mkdir r rd rs name g) dir None name kinds.Directory rd (λ p. directed p.new.uid (guard_of g))
mkdir_makes r rd rs name g dir e =
    let part : Vacancy → (Unit {0} → Plan) → Plan = λ p. directed p.new.uid (guard_of g) in
    record { is = cap_is (word_at r rs) dir (refuse NotCap) (λ d. making d None name (Behind part name kinds.Directory rd)) e }

pub mktype_makes : (r : List Word) (rd rs : ℕ) (name : Name) (dir : Capability) → word_at r rs ≡ Cap dir
    → Makes (plan_mktype r rd rs name) dir None name kinds.Typ rd (λ p. doing (TypeMake (uid p.new.uid)))
mktype_makes r rd rs name dir e =
    let part : Vacancy → (Unit {0} → Plan) → Plan = λ p. doing (TypeMake (uid p.new.uid)) in
    record { is = cap_is (word_at r rs) dir (refuse NotCap) (λ d. making d None name (Behind part name kinds.Typ rd)) e }

pub mkobj_makes : (r : List Word) (rd rt rs : ℕ) (name : Name) (len : ℕ) (of dir : Capability) → word_at r rt ≡ Cap of → word_at r rs ≡ Cap dir → is_length len ≡ true
    → Makes (plan_mkobj r rd rt rs name len) dir (Some of) name kinds.Object rd (λ p. represented p.new.uid len (record { 0 = 1 }) (Some (uid of.uid)))
mkobj_makes r rd rt rs name len of dir e1 e2 long =
    let part : Capability → Vacancy → (Unit {0} → Plan) → Plan = λ t p. represented p.new.uid len (record { 0 = 1 }) (Some (uid t.uid)) in
    let whole : Capability → Capability → Plan = λ t d. making d (Some t) name (Behind (part t) name kinds.Object rd) in
    record {
      is = cap_is (word_at r rt) of (refuse NotCap) (λ t. if_cap (word_at r rs) (refuse NotCap) (λ d. if_holds (is_length len) (refuse Range) (whole t d))) e1
          ∙ cap_is (word_at r rs) dir (refuse NotCap) (λ d. if_holds (is_length len) (refuse Range) (whole of d)) e2
          ∙ holds_is (is_length len) (refuse Range) (whole of dir) long;
    }

-- behind the call that tries the linkage
abbrev pub Coded : List Word → ℕ → Name → ℕ → ℕ → Capability → Plan
Coded r rd name label rl d = making d None name (Behind (λ p. doing (CodeMake (uid p.new.uid) label (word_at r rl))) name kinds.Code rd)

pub mkcode_makes : (r : List Word) (rd : ℕ) (name : Name) (label rl : ℕ) (dir : Capability)
    → Makes (Coded r rd name label rl dir) dir None name kinds.Code rd (λ p. doing (CodeMake (uid p.new.uid) label (word_at r rl)))
mkcode_makes r rd name label rl dir = record { is = refl }

-- the plan, where its register has a capability
module _ (r : List Word) (rd rs : ℕ) (name : Name) (label rl : ℕ) (dir : Capability) (e : word_at r rs ≡ Cap dir) (trace : List Step) where
  tries : plan_mkcode r rd rs name label rl ≡ doing (Admit (word_at r rl)) (λ _. Coded r rd name label rl dir)
  tries = cap_is (word_at r rs) dir (refuse NotCap) (λ d. doing (Admit (word_at r rl)) (λ _. Coded r rd name label rl d)) e

  by_trial : (next : Next) → next ≡ next_of (followed (doing (Admit (word_at r rl)) (λ _. Coded r rd name label rl dir)) trace) → next ≡ next_of (followed (plan_mkcode r rd rs name label rl) trace)
  by_trial next h = h ∙ ap (λ (p : Plan). next_of (followed p trace)) (sym tries)

  pub trial_stops : (next : Next) → Stops (doing (Admit (word_at r rl))) trace next → next ≡ next_of (followed (plan_mkcode r rd rs name label rl) trace)
  trial_stops next h = by_trial next (h.comes (λ _. Coded r rd name label rl dir))

  pub trial_passed : (next : Next) (rest : List Step) → Gives (doing (Admit (word_at r rl))) trace tt rest → next ≡ next_of (followed (Coded r rd name label rl dir) rest) → next ≡ next_of (followed (plan_mkcode r rd rs name label rl) trace)
  trial_passed next rest g h = by_trial next (passed g (λ _. Coded r rd name label rl dir) h)

  pub trial_run : (rest : List Step) → Leads (Admit (word_at r rl)) trace rest → IsRun (plan_mkcode r rd rs name label rl) trace → IsRun (Coded r rd name label rl dir) rest
  trial_run rest lead run =
      let P : Plan → Type 0 = λ p. IsTraceOf p run.levels trace in
      record { levels = run.levels; lists = run.lists; front = lead.front run.levels (λ _. Coded r rd name label rl dir) (subst P tries run.front) }
