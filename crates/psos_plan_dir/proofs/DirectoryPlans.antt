-- The plans that open one directory, past the opening.
use Rattle.std.proofs.Common.{◌≡◌, ℕ, Bool, true, false, not, List, [], ◌∷◌, Option, Some, None, Result, Ok, Err, refl, sym, ap, subst, ◌∙◌}
use Rattle.std.specs.Prelude.{option_map}
use Rattle.psos_table.specs.Table.{at as at_table}
use Rattle.psos_caps.specs.Capability.{Capability}
use Rattle.psos_caps.specs.declared.rights.Rights.{Rights}
use Rattle.psos_text.specs.declared.name.Name.{Name}
use Rattle.psos_words.specs.declared.word.Word.{Word}
use Rattle.psos_words.specs.declared.word.Word.TheVariants.{Cap}
use Rattle.psos_words.specs.Guard.{barred}
use Rattle.psos_words.specs.Words.{word_at}
use Rattle.psos_words.specs.Directory.{Found as SlotFound, find, slot_for, entries_in, entry_words, gone_words}
use Rattle.psos_dirrep.specs.declared.found.Found.{Found}
use Rattle.psos_dirrep.specs.Entries.{as_found}
use Rattle.psos_calls.specs.declared.effect.Effect.{Effect}
use Rattle.psos_calls.specs.declared.effect.Effect.TheVariants.{Nothing}
use Rattle.psos_calls.specs.Levels.Answers.{LevelAnswer}
use Rattle.psos_calls.specs.declared.level_answer.LevelAnswer.TheVariants.{Guard, No}
use Rattle.psos_calls.specs.Levels.Calls.{LevelCall}
use Rattle.psos_calls.specs.declared.level_call.LevelCall.TheVariants.{DirAt, FourPut}
use Rattle.psos_calls.specs.declared.next.Next.{Next}
use Rattle.psos_calls.specs.declared.next.Next.TheVariants as nexts
use Rattle.psos_calls.specs.declared.refusal.Refusal.{Refusal}
use Rattle.psos_calls.specs.declared.refusal.Refusal.TheVariants.{NotCap, Guarded, UnknownName, Distinguished, NameTaken, Exhausted}
use Rattle.psos_calls.specs.declared.reply.Reply.{Reply}
use Rattle.psos_calls.specs.declared.reply.Reply.TheVariants.{Names}
use Rattle.psos_calls.specs.declared.right.Right.{Right}
use Rattle.psos_calls.specs.declared.right.Right.TheVariants.{Bind}
use Rattle.psos_calls.specs.declared.step.Step.{Step}
use Rattle.psos_calls.specs.declared.tab.Tab.TheVariants.{Entries}
use Rattle.psos_calls.specs.Levels.{Levels, level_of}
use Rattle.psos_calls.specs.Language.Names.{names_of}
use Rattle.psos_calls.specs.Plan.{Plan, Close, Ask, refuse, give, if_done, if_guard}
use Rattle.psos_calls.specs.Plan.Parts.{Opened, read_dir, put_slot, if_room, fine}
use Rattle.psos_calls.specs.Plan.Directories.{plan_bind}
use Rattle.psos_calls.specs.Language.Tests.{if_there, if_none, if_cap, if_holds}
use Rattle.psos_calls.specs.Plan.Trace.{followed, next_of, IsTraceOf}
use Rattle.psos_plan_dir.specs.Reads.{Reader, IsNoPage, open_with, IsRun, IsCapFront, IsDirFront, IsNext, GoesOn, IsRead}
use Rattle.psos_plan_dir.specs.Room.{room_for}
use Rattle.psos_plan_dir.proofs.DirectoryReaders.{guard-live}
use Rattle.psos_plan_dir.proofs.PlanSteps.{ask-on}

-- ---- past calls that were made

-- a plan that reads a directory, on a trace of which the front was followed by a reader
module _ (p : Plan) (before after : Reader) (go : Opened → Plan) (trace from rest : List Step) (e : p ≡ before go) (f : trace ≡ from) (g : GoesOn before after from rest) where
  pub past-is : followed p trace ≡ followed (after go) rest
  past-is = ap (λ (x : Plan). followed x trace) e ∙ ap (followed (before go)) f ∙ g.is go

  moved_run : IsRun p trace → (l : Levels) → IsTraceOf p l trace → IsTraceOf (after go) l rest
  moved_run r l h = g.front l go (subst (λ (t : List Step). IsTraceOf (before go) l t) f (subst (λ (x : Plan). IsTraceOf x l trace) e h))

  pub past-next : (n : Next) → IsNext after rest n → n ≡ next_of (followed p trace)
  past-next n h = sym (ap next_of past-is ∙ h.is go)

  pub past-read : (d : Opened) (more : List Step) → IsRead after rest d more → next_of (followed (go d) more) ≡ next_of (followed p trace)
  past-read d more h = sym (ap next_of past-is ∙ ap next_of (h.is go))

  pub past-run : (d : Opened) (more : List Step) → IsRead after rest d more → IsRun p trace → IsRun (go d) more
  past-run d more h r = record { levels = r.levels; front = h.front r.levels go (moved_run r r.levels r.front); lists = r.lists }

-- ---- a register with a capability on a directory

-- the word is a capability, and the directory is opened by it
abbrev pub opens : Word → Right → (Opened → Plan) → Plan
opens w right go = if_cap w (refuse NotCap) (λ cap. open_with cap right go)

goes-same : (r : Reader) (trace : List Step) → GoesOn r r trace trace
goes-same r trace = record { is = λ go. refl; front = λ l go h. h }

module _ (w : Word) (cap : Capability) (right : Right) (go : Opened → Plan) (trace : List Step) (e : w ≡ Cap cap) where
  is_open : opens w right go ≡ open_with cap right go
  is_open = ap (λ (x : Word). opens x right go) e

  pub opens-front : ((d : Opened) → IsNoPage (go d)) → IsRun (opens w right go) trace → IsCapFront cap right trace
  opens-front apart r = record {
    levels = r.levels;
    front = record { lists = r.lists; go = go; apart = apart; front = subst (λ (x : Plan). IsTraceOf x r.levels trace) is_open r.front };
  }

  pub opens-left : (d : Opened) (rest : List Step) → IsRead (open_with cap right) trace d rest → followed (opens w right go) trace ≡ followed (go d) rest
  opens-left d rest h = ap (λ (x : Plan). followed x trace) is_open ∙ h.is go

  pub opens-next : (n : Next) → IsNext (open_with cap right) trace n → n ≡ next_of (followed (opens w right go) trace)
  opens-next n h = past-next (opens w right go) (open_with cap right) (open_with cap right) go trace trace trace is_open refl (goes-same (open_with cap right) trace) n h

  pub opens-read : (d : Opened) (rest : List Step) → IsRead (open_with cap right) trace d rest → next_of (followed (go d) rest) ≡ next_of (followed (opens w right go) trace)
  opens-read d rest h = past-read (opens w right go) (open_with cap right) (open_with cap right) go trace trace trace is_open refl (goes-same (open_with cap right) trace) d rest h

  pub opens-run : (d : Opened) (rest : List Step) → IsRead (open_with cap right) trace d rest → IsRun (opens w right go) trace → IsRun (go d) rest
  opens-run d rest h r = past-run (opens w right go) (open_with cap right) (open_with cap right) go trace trace trace is_open refl (goes-same (open_with cap right) trace) d rest h r

-- ---- what was found

pub record IsFound (o : Option SlotFound) (found : Found) : Type 0 where
  pub entry : SlotFound
  pub there : o ≡ Some entry
  pub is : found ≡ as_found entry

pub found-is : (o : Option SlotFound) (found : Found) → Some found ≡ option_map as_found o → IsFound o found
found-is None found e = absurd (cc)
found-is (Some f) found e = record { entry = f; there = refl; is = same found (as_found f) e }
  where
    same : (a b : Found) → ◌≡◌ {A = Option Found} (Some a) (Some b) → a ≡ b
    same a b e = cc

pub found-none : (o : Option SlotFound) → ◌≡◌ {A = Option Found} None (option_map as_found o) → o ≡ None
found-none None e = refl
found-none (Some f) e = absurd (cc)

-- ---- plans that end with a call that writes

-- the plan closes, or makes one call that writes, and is done
pub data EndsWriting : Plan → Type 0 where
  closes : (reply : Reply) (effect : Effect) → EndsWriting (Close reply effect)
  writes : (page off : ℕ) (words : List Word) → EndsWriting (Ask (FourPut page off words) (λ a. if_done a fine))

pub writing-apart : {plan : Plan} → EndsWriting plan → IsNoPage plan
writing-apart (closes reply effect) = tt
writing-apart (writes page off words) = tt

-- once the call was made, its answer tells the close
pub written-is : {plan : Plan} → EndsWriting plan → (w : Step) (more : List Step) → IsRun plan (w ∷ more) → next_of (if_done w.answer fine) ≡ next_of (followed plan (w ∷ more))
written-is (closes reply effect) w more r = absurd r.front
written-is (writes page off words) w more r = by w.answer
  where
    by : (a : LevelAnswer) → next_of (if_done a fine) ≡ next_of (followed (if_done a fine) more)
    by (No r) = refl
    by _ = refl

-- ---- lookup

abbrev pub lookup_in : ℕ → Name → Opened → Plan
lookup_in rd name d = if_there (find d.slots name) (refuse UnknownName) (λ found. give rd (Cap found.entry.cap))

pub lookup-apart : (rd : ℕ) (name : Name) (d : Opened) → IsNoPage (lookup_in rd name d)
lookup-apart rd name d = by (find d.slots name)
  where
    by : (o : Option SlotFound) → IsNoPage (if_there o (refuse UnknownName) (λ (found : SlotFound). give rd (Cap found.entry.cap)))
    by None = tt
    by (Some f) = tt

-- ---- unbind

abbrev pub unbind_in : Name → Opened → Plan
unbind_in name d = if_there (find d.slots name) (refuse UnknownName) (λ found. if_holds (not found.entry.kept) (refuse Distinguished) (put_slot d found.slot gone_words fine))

pub unbind-ends : (name : Name) (d : Opened) → EndsWriting (unbind_in name d)
unbind-ends name d = by (find d.slots name)
  where
    kept : (b : Bool) (k : ℕ) → EndsWriting (if_holds (not b) (refuse Distinguished) (put_slot d k gone_words fine))
    kept true k = closes _ _
    kept false k = writes _ _ _

    by : (o : Option SlotFound) → EndsWriting (if_there o (refuse UnknownName) (λ (found : SlotFound). if_holds (not found.entry.kept) (refuse Distinguished) (put_slot d found.slot gone_words fine)))
    by None = closes _ _
    by (Some f) = kept f.entry.kept f.slot

-- ---- bind

abbrev pub bind_in : Name → Capability → Opened → Plan
bind_in name value d = if_room d name (λ k. put_slot d k (entry_words name value false) fine)

pub bind-ends : (name : Name) (value : Capability) (d : Opened) → EndsWriting (bind_in name value d)
bind-ends name value d = by (find d.slots name) (slot_for d.slots)
  where
    by : (o : Option SlotFound) (p : Option ℕ) → EndsWriting (if_none o (λ _. refuse NameTaken) (if_there p (refuse (Exhausted Entries)) (λ k. put_slot d k (entry_words name value false) fine)))
    by (Some f) p = closes _ _
    by None None = closes _ _
    by None (Some k) = writes _ _ _

-- ---- room for a new entry

pub room-ok : (d : Opened) (name : Name) (k : ℕ) (go : ℕ → Plan) → ◌≡◌ {A = Result ℕ Refusal} (Ok k) (room_for d name) → if_room d name go ≡ go k
room-ok d name k go e = by (find d.slots name) (slot_for d.slots) e
  where
    by : (o : Option SlotFound) (p : Option ℕ) → ◌≡◌ {A = Result ℕ Refusal} (Ok k) (if_none o (λ _. Err NameTaken) (if_there p (Err (Exhausted Entries)) (λ i. Ok i))) → if_none o (λ _. refuse NameTaken) (if_there p (refuse (Exhausted Entries)) go) ≡ go k
    by (Some f) p e = absurd (cc)
    by None None e = absurd (cc)
    by None (Some i) e = ap go (same i e)
      where
        same : (i : ℕ) → ◌≡◌ {A = Result ℕ Refusal} (Ok k) (Ok i) → i ≡ k
        same i e = cc

pub room-err : (d : Opened) (name : Name) (r : Refusal) (go : ℕ → Plan) → ◌≡◌ {A = Result ℕ Refusal} (Err r) (room_for d name) → if_room d name go ≡ refuse r
room-err d name r go e = by (find d.slots name) (slot_for d.slots) e
  where
    same : (q : Refusal) → ◌≡◌ {A = Result ℕ Refusal} (Err r) (Err q) → q ≡ r
    same q e = cc

    by : (o : Option SlotFound) (p : Option ℕ) → ◌≡◌ {A = Result ℕ Refusal} (Err r) (if_none o (λ _. Err NameTaken) (if_there p (Err (Exhausted Entries)) (λ i. Ok i))) → if_none o (λ _. refuse NameTaken) (if_there p (refuse (Exhausted Entries)) go) ≡ refuse r
    by (Some f) p e = ap refuse (same NameTaken e)
    by None None e = ap refuse (same (Exhausted Entries) e)
    by None (Some i) e = absurd (cc)

-- ---- where a name was looked for

pub if-found : (o : Option SlotFound) (found : Found) (missing : Plan) (go : ℕ → Capability → Bool → Plan) → Some found ≡ option_map as_found o
    → if_there o missing (λ f. go f.slot f.entry.cap f.entry.kept) ≡ go found.slot found.cap found.kept
if-found o found missing go e =
    let f = found-is o found e in
    ap (λ (x : Option SlotFound). if_there x missing (λ y. go y.slot y.entry.cap y.entry.kept)) f.there ∙ ap (λ (x : Found). go x.slot x.cap x.kept) (sym f.is)

pub if-missing : (o : Option SlotFound) (missing : Plan) (go : SlotFound → Plan) → ◌≡◌ {A = Option Found} None (option_map as_found o) → if_there o missing go ≡ missing
if-missing o missing go e = ap (λ (x : Option SlotFound). if_there x missing go) (found-none o e)

-- with no call the whole plan is left
pub followed-none : (p : Plan) → followed p [] ≡ p
followed-none (Close reply effect) = refl
followed-none (Ask call go) = refl

-- a plan that asks, and no call was made since
pub asks-next : (p : Plan) (call : LevelCall) (go : LevelAnswer → Plan) (rest : List Step) → p ≡ Ask call go → rest ≡ [] → nexts.Call (level_of call) call ≡ next_of (followed p rest)
asks-next p call go rest e none = sym (ap (λ (t : List Step). next_of (followed p t)) none ∙ ap (λ (x : Plan). next_of (followed x [])) e)

-- the next step of a plan by what the plan is
pub next-by : (p q : Plan) (rest : List Step) → p ≡ q → next_of (followed q rest) ≡ next_of (followed p rest)
next-by p q rest e = ap (λ (x : Plan). next_of (followed x rest)) (sym e)

-- ---- bind, up to the reading

-- asks for the directory and tries its guard, and reads it
abbrev pub admits_in : Capability → Capability → Reader
admits_in cap value go = Ask (DirAt cap Bind) (λ a. if_guard a (λ guard. if_none (barred guard (Cap value)) (λ b. refuse (Guarded b)) (read_dir cap.uid go)))

-- the plan of bind where both registers have capabilities, past a guard that admits the one in the second
module _ (r : List Word) (rs : ℕ) (name : Name) (rv : ℕ) (cap value : Capability) (e : word_at r rs ≡ Cap cap) (f : word_at r rv ≡ Cap value) (trace : List Step)
    (a : Step) (rest : List Step) (at : trace ≡ a ∷ rest) (guard : Rights) (answer : a.answer ≡ Guard guard) (pass : barred guard.0 (Cap value) ≡ None) (u : ℕ) (is : u ≡ cap.uid) where
  bind_is : plan_bind r rs name rv ≡ admits_in cap value (bind_in name value)
  bind_is =
      ap (λ (w : Word). if_cap w (refuse NotCap) (λ c. if_cap (word_at r rv) (refuse NotCap) (λ v. admits_in c v (bind_in name v)))) e
      ∙ ap (λ (w : Word). if_cap w (refuse NotCap) (λ v. admits_in cap v (bind_in name v))) f

  admitted : GoesOn (admits_in cap value) (read_dir u) (a ∷ rest) rest
  admitted =
      ask-on (DirAt cap Bind) (λ go x. if_guard x (λ g. if_none (barred g (Cap value)) (λ b. refuse (Guarded b)) (read_dir cap.uid go))) (read_dir u) a rest (Guard guard)
      (λ l. refl) (λ go. ap (λ (o : Option ℕ). if_none o (λ b. refuse (Guarded b)) (read_dir cap.uid go)) pass ∙ ap (λ (n : ℕ). read_dir n go) (sym is)) answer

  pub bind-front : IsRun (plan_bind r rs name rv) trace → IsDirFront u rest
  bind-front h =
      let run : IsRun (admits_in cap value (bind_in name value)) (a ∷ rest) = subst (IsRun (admits_in cap value (bind_in name value))) at (subst (λ (p : Plan). IsRun p trace) bind_is h) in
      let live = guard-live run.levels.dirs cap Bind guard (sym (ap (λ (s : Step). s.answer) run.front.0) ∙ answer) in
      record {
        levels = run.levels;
        front = record { lists = run.lists; go = bind_in name value; apart = λ d. writing-apart (bind-ends name value d); front = admitted.front run.levels (bind_in name value) run.front };
        guard = live.guard;
        live = ap (at_table run.levels.dirs) is ∙ live.live;
      }

  pub bind-next : (n : Next) → IsNext (read_dir u) rest n → n ≡ next_of (followed (plan_bind r rs name rv) trace)
  bind-next n h = past-next (plan_bind r rs name rv) (admits_in cap value) (read_dir u) (bind_in name value) trace (a ∷ rest) rest bind_is at admitted n h

  pub bind-read : (d : Opened) (more : List Step) → IsRead (read_dir u) rest d more → next_of (followed (bind_in name value d) more) ≡ next_of (followed (plan_bind r rs name rv) trace)
  bind-read d more h = past-read (plan_bind r rs name rv) (admits_in cap value) (read_dir u) (bind_in name value) trace (a ∷ rest) rest bind_is at admitted d more h

  pub bind-run : (d : Opened) (more : List Step) → IsRead (read_dir u) rest d more → IsRun (plan_bind r rs name rv) trace → IsRun (bind_in name value d) more
  bind-run d more h run = past-run (plan_bind r rs name rv) (admits_in cap value) (read_dir u) (bind_in name value) trace (a ∷ rest) rest bind_is at admitted d more h run

-- ---- list

abbrev pub list_in : Opened → Plan
list_in d = Close (Names (names_of (entries_in d.slots))) Nothing
