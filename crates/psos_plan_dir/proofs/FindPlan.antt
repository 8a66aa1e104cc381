-- The plan of find: past the directories that did not have the name.
use Rattle.std.proofs.Common.{◌≡◌, ℕ, zero, suc, ◌+◌, ◌*◌, ◌≤◌, Bool, true, false, cond, List, [], ◌∷◌, ◌++◌, length, take, drop, Option, Some, None, refl, sym, ap, subst, ◌∙◌, inl, inr, arith}
use Rattle.std.specs.Prelude.{option_map, slice_get}
use Rattle.std.proofs.lemmas.Bool.{true≢false}
use Rattle.std.proofs.lemmas.List.{take-append-drop}
use Rattle.std.proofs.lemmas.Option.{same_Some, none-some}
use Rattle.psos_table.specs.Table.{at as at_table}
use Rattle.psos_caps.specs.Capability.{Capability}
use Rattle.psos_caps.specs.declared.rights.Rights.{Rights}
use Rattle.psos_text.specs.declared.name.Name.{Name}
use Rattle.psos_words.specs.declared.word.Word.{Word}
use Rattle.psos_words.specs.declared.word.Word.TheVariants.{Cap}
use Rattle.psos_words.specs.Directory.{Slot as EntrySlot, Found as SlotFound, find, decode, has_never}
use Rattle.psos_dirrep.specs.declared.found.Found.{Found}
use Rattle.psos_dirrep.specs.Entries.{as_found}
use Rattle.psos_calls.specs.declared.effect.Effect.TheVariants.{Put}
use Rattle.psos_calls.specs.declared.level.Level.TheVariants.{L10}
use Rattle.psos_calls.specs.Levels.Answers.{LevelAnswer}
use Rattle.psos_calls.specs.declared.level_answer.LevelAnswer.TheVariants.{Guard}
use Rattle.psos_calls.specs.Levels.Calls.{LevelCall}
use Rattle.psos_calls.specs.declared.level_call.LevelCall.TheVariants.{DirAt, RepOf, SlotOf, PageGet}
use Rattle.psos_calls.specs.declared.next.Next.{Next}
use Rattle.psos_calls.specs.declared.next.Next.TheVariants.{Call, Close}
use Rattle.psos_calls.specs.declared.refusal.Refusal.TheVariants.{Range}
use Rattle.psos_calls.specs.declared.reply.Reply.TheVariants as replies
use Rattle.psos_calls.specs.declared.right.Right.TheVariants.{Lookup}
use Rattle.psos_calls.specs.declared.step.Step.{Step}
use Rattle.psos_calls.specs.Levels.Level7.{page_words}
use Rattle.psos_calls.specs.Levels.Level8.{slot_of}
use Rattle.psos_calls.specs.Levels.Level9.{rep_of}
use Rattle.psos_calls.specs.Levels.{Levels, act}
use Rattle.psos_calls.specs.Plan.{Plan, Ask, refuse, give, if_rep, if_slot, if_page}
use Rattle.psos_calls.specs.Language.Capabilities.{uid}
use Rattle.psos_calls.specs.Plan.Asked.{asks_dir, asked, BeginsWithDir, IsSinceDir}
use Rattle.psos_calls.specs.Plan.Directories.{plan_find, if_may_look}
use Rattle.psos_calls.specs.Plan.Parts.{Opened, opened, read_pages, read_rep, read_dir}
use Rattle.psos_calls.specs.Language.Tests.{if_there}
use Rattle.psos_calls.specs.Plan.Trace.{followed, next_of, IsTraceOf}
use Rattle.psos_plan_dir.specs.Reads.{Reader, IsNoPage, IsRun, IsDirFront, IsNext, GoesOn, IsRead}
use Rattle.psos_plan_dir.proofs.DirectoryPlans.{found-none, past-is, past-next, past-read, past-run, asks-next, next-by, if-found}
use Rattle.psos_plan_dir.proofs.DirectoryReaders.{guard-live}
use Rattle.psos_plan_dir.proofs.PlanSteps.{ask-on}

-- ---- one directory of the name space

-- asks for a directory; past one that may not be looked up, the next
abbrev pub looks_in : Capability → Plan → Reader
looks_in dir next go = Ask (DirAt dir Lookup) (λ a. if_may_look a next (read_dir dir.uid go))

-- the name in a directory, or the next
abbrev pub found_or : Plan → ℕ → Name → Opened → Plan
found_or next rd name d = if_there (find d.slots name) next (λ found. give rd (Cap found.entry.cap))

pub find-apart : (path : List Capability) (rd : ℕ) (name : Name) (d : Opened) → IsNoPage (found_or (plan_find path rd name) rd name d)
find-apart path rd name d = by path (find d.slots name)
  where
    by : (path : List Capability) (o : Option SlotFound) → IsNoPage (if_there o (plan_find path rd name) (λ found. give rd (Cap found.entry.cap)))
    by [] None = tt
    by (dir ∷ rest) None = tt
    by path (Some f) = tt

-- a name that was not there: a call was made since, or it was looked for
pub not-found : (next : Plan) (rd : ℕ) (name : Name) (d : Opened) (rest : List Step) → IsRun (found_or next rd name d) rest → (rest ≡ [] → ◌≡◌ {A = Option Found} None (option_map as_found (find d.slots name))) → found_or next rd name d ≡ next
not-found next rd name d rest r looked = by (find d.slots name) refl rest r.front looked
  where
    by : (o : Option SlotFound) → find d.slots name ≡ o → (rest : List Step) → IsTraceOf (if_there o next (λ found. give rd (Cap found.entry.cap))) r.levels rest
        → (rest ≡ [] → ◌≡◌ {A = Option Found} None (option_map as_found (find d.slots name))) → if_there o next (λ found. give rd (Cap found.entry.cap)) ≡ next
    by None e rest h looked = refl
    by (Some f) e [] h looked = absurd (none-some f (sym (found-none (find d.slots name) (looked refl)) ∙ e))
    by (Some f) e (s ∷ rest) h looked = absurd h

-- ---- places in the name space

pub drop-get : {X : Type 0} (xs : List X) (i : ℕ) (x : X) → slice_get xs i ≡ Some x → drop i xs ≡ x ∷ drop (i + 1) xs
drop-get [] i x e = absurd (none-some x e)
drop-get (y ∷ xs) zero x e = ap (λ z. z ∷ xs) (same_Some y x e)
drop-get (y ∷ xs) (suc i) x e = drop-get xs i x e ∙ ap (λ (n : ℕ). x ∷ drop n (y ∷ xs)) {x = suc (i + 1)} {y = suc i + 1} (omega arith)

pub drop-past : {X : Type 0} (xs : List X) (i : ℕ) → length xs ≤ i → drop i xs ≡ []
drop-past [] zero h = refl
drop-past [] (suc i) h = refl
drop-past (x ∷ xs) zero h = absurd (omega arith)
drop-past (x ∷ xs) (suc i) h = drop-past xs i (omega arith)

-- ---- from directory i on

module _ (path : List Capability) (i rd : ℕ) (name : Name) (dir : Capability) (there : slice_get path i ≡ Some dir) where
  -- what is left of the plan past this directory
  abbrev After : Plan
  After = plan_find (drop (i + 1) path) rd name

  from_here : plan_find (drop i path) rd name ≡ looks_in dir After (found_or After rd name)
  from_here = ap (λ (l : List Capability). plan_find l rd name) (drop-get path i dir there)

  pub find-asks : (rest : List Step) → rest ≡ [] → Call L10 (DirAt dir Lookup) ≡ next_of (followed (plan_find (drop i path) rd name) rest)
  find-asks rest none = asks-next (plan_find (drop i path) rd name) (DirAt dir Lookup) (λ a. if_may_look a After (read_dir dir.uid (found_or After rd name))) rest from_here none

  module _ (trace : List Step) (a : Step) (rest : List Step) (at : trace ≡ a ∷ rest) where
    moved : IsRun (plan_find (drop i path) rd name) trace → IsRun (looks_in dir After (found_or After rd name)) (a ∷ rest)
    moved r = subst (IsRun (looks_in dir After (found_or After rd name))) at (subst (λ (p : Plan). IsRun p trace) from_here r)

    -- it may not be looked up
    module _ (other : (guard : Rights) → a.answer ≡ Guard guard → ⊥) where
      passed_by : (x : LevelAnswer) (go : Plan) → ((guard : Rights) → x ≡ Guard guard → ⊥) → if_may_look x After go ≡ After
      passed_by (Guard guard) go none = absurd (none guard refl)
      passed_by _ go none = refl

      passed : GoesOn (looks_in dir After) (λ go. After) (a ∷ rest) rest
      passed = ask-on (DirAt dir Lookup) (λ go x. if_may_look x After (read_dir dir.uid go)) (λ go. After) a rest a.answer (λ l. refl) (λ go. passed_by a.answer (read_dir dir.uid go) other) refl

      pub passed-run : IsRun (plan_find (drop i path) rd name) trace → IsRun After rest
      passed-run r =
          let run = moved r in
          record { levels = run.levels; front = passed.front run.levels (found_or After rd name) run.front; lists = run.lists }

      pub passed-left : next_of (followed After rest) ≡ next_of (followed (plan_find (drop i path) rd name) trace)
      passed-left = sym (ap next_of (past-is (plan_find (drop i path) rd name) (looks_in dir After) (λ go. After) (found_or After rd name) trace (a ∷ rest) rest from_here at passed))

    -- it is read
    module _ (guard : Rights) (answer : a.answer ≡ Guard guard) (u : ℕ) (is : u ≡ dir.uid) where
      looked : GoesOn (looks_in dir After) (read_dir u) (a ∷ rest) rest
      looked = ask-on (DirAt dir Lookup) (λ go x. if_may_look x After (read_dir dir.uid go)) (read_dir u) a rest (Guard guard) (λ l. refl) (λ go. ap (λ (n : ℕ). read_dir n go) (sym is)) answer

      pub find-front : IsRun (plan_find (drop i path) rd name) trace → IsDirFront u rest
      find-front r =
          let run = moved r in
          let live = guard-live run.levels.dirs dir Lookup guard (sym (ap (λ (s : Step). s.answer) run.front.0) ∙ answer) in
          record {
            levels = run.levels;
            front = record { lists = run.lists; go = found_or After rd name; apart = find-apart (drop (i + 1) path) rd name; front = looked.front run.levels (found_or After rd name) run.front };
            guard = live.guard;
            live = ap (at_table run.levels.dirs) is ∙ live.live;
          }

      pub find-next : (n : Next) → IsNext (read_dir u) rest n → n ≡ next_of (followed (plan_find (drop i path) rd name) trace)
      find-next n h = past-next (plan_find (drop i path) rd name) (looks_in dir After) (read_dir u) (found_or After rd name) trace (a ∷ rest) rest from_here at looked n h

      module _ (d : Opened) (more : List Step) (h : IsRead (read_dir u) rest d more) where
        left : next_of (followed (found_or After rd name d) more) ≡ next_of (followed (plan_find (drop i path) rd name) trace)
        left = past-read (plan_find (drop i path) rd name) (looks_in dir After) (read_dir u) (found_or After rd name) trace (a ∷ rest) rest from_here at looked d more h

        -- and has the name
        pub found-left : (found : Found) → Some found ≡ option_map as_found (find d.slots name) → Close (replies.Cap found.cap) (Put rd (Cap found.cap)) ≡ next_of (followed (plan_find (drop i path) rd name) trace)
        found-left found e =
            let there : found_or After rd name d ≡ give rd (Cap found.cap) = if-found (find d.slots name) found After (λ (k : ℕ) (cap : Capability) (kept : Bool). give rd (Cap cap)) e in
            next-by (found_or After rd name d) (give rd (Cap found.cap)) more there ∙ left

        -- or does not have it: a call was made since, or it was looked for
        module _ (r : IsRun (plan_find (drop i path) rd name) trace) (sought : more ≡ [] → ◌≡◌ {A = Option Found} None (option_map as_found (find d.slots name))) where
          run : IsRun (found_or After rd name d) more
          run = past-run (plan_find (drop i path) rd name) (looks_in dir After) (read_dir u) (found_or After rd name) trace (a ∷ rest) rest from_here at looked d more h r

          missing : found_or After rd name d ≡ After
          missing = not-found After rd name d more run sought

          pub missing-run : IsRun After more
          missing-run = subst (λ (p : Plan). IsRun p more) missing run

          pub missing-left : next_of (followed After more) ≡ next_of (followed (plan_find (drop i path) rd name) trace)
          missing-left = next-by (found_or After rd name d) After more missing ∙ left

-- ---- a later directory

-- from levels in which a plan was followed up to a call for a later directory
module _ (l : Levels) (s : Step) (tail : List Step) (is_dir : asks_dir s.call ≡ true) where
  -- the reading of a directory ends before that call
  record Past (plan : Plan) (go : Opened → Plan) (front : List Step) : Type 0 where
    d : Opened
    later : List Step
    count : asked later ≡ asked front
    is : followed plan (front ++ s ∷ tail) ≡ followed (go d) (later ++ s ∷ tail)
    trace : IsTraceOf (go d) l (later ++ s ∷ tail)

  past_ask : (call : LevelCall) (cont : LevelAnswer → Plan) (go : Opened → Plan) → asks_dir call ≡ false → (act l call).0 ≡ l
      → ((front : List Step) → IsTraceOf (cont (act l call).1) l (front ++ s ∷ tail) → Past (cont (act l call).1) go front)
      → (front : List Step) → IsTraceOf (Ask call cont) l (front ++ s ∷ tail) → Past (Ask call cont) go front
  past_ask call cont go other stays on [] h = absurd (true≢false (sym is_dir ∙ ap (λ (t : Step). asks_dir t.call) h.0 ∙ other))
  past_ask call cont go other stays on (f ∷ front) h =
      let p = on front (subst (λ (m : Levels). IsTraceOf (cont (act l call).1) m (front ++ s ∷ tail)) stays h.1) in
      let not_dir : asks_dir f.call ≡ false = ap (λ (t : Step). asks_dir t.call) h.0 ∙ other in
      record {
        d = p.d;
        later = p.later;
        count = p.count ∙ sym (ap (λ (b : Bool). cond b (suc (asked front)) (asked front)) not_dir);
        is = ap (λ (t : Step). followed (cont t.answer) (front ++ s ∷ tail)) h.0 ∙ p.is;
        trace = p.trace;
      }

  module _ (go : Opened → Plan) where
    past_opened : (slot : ℕ) (words : List Word) (front : List Step) → IsTraceOf (opened slot words go) l (front ++ s ∷ tail) → Past (opened slot words go) go front
    past_opened slot words front h = by (decode words) front h
      where
        by : (o : Option (List EntrySlot)) (front : List Step) → IsTraceOf (if_there o (refuse Range) (λ slots. go (record { slot = slot; slots = slots }))) l (front ++ s ∷ tail)
            → Past (if_there o (refuse Range) (λ slots. go (record { slot = slot; slots = slots }))) go front
        by None [] h = absurd h
        by None (f ∷ front) h = absurd h
        by (Some slots) front h = record { d = record { slot = slot; slots = slots }; later = front; count = refl; is = refl; trace = h }

    past_pages : (n slot k : ℕ) (words : List Word) (front : List Step) → IsTraceOf (read_pages n slot k words go) l (front ++ s ∷ tail) → Past (read_pages n slot k words go) go front
    past_pages zero slot k words front h = past_opened slot words front h
    past_pages (suc n) slot k words front h =
        past_ask (PageGet (8 * slot + k)) (λ a. if_page a (λ page. cond (has_never page) (opened slot (words ++ page) go) (read_pages n slot (k + 1) (words ++ page) go))) go refl refl
        (by (has_never page) (past_opened slot (words ++ page)) (past_pages n slot (k + 1) (words ++ page))) front h
      where
        page : List Word
        page = page_words l.pages (8 * slot + k)

        by : (b : Bool) → ((front : List Step) → IsTraceOf (opened slot (words ++ page) go) l (front ++ s ∷ tail) → Past (opened slot (words ++ page) go) go front)
            → ((front : List Step) → IsTraceOf (read_pages n slot (k + 1) (words ++ page) go) l (front ++ s ∷ tail) → Past (read_pages n slot (k + 1) (words ++ page) go) go front)
            → (front : List Step) → IsTraceOf (cond b (opened slot (words ++ page) go) (read_pages n slot (k + 1) (words ++ page) go)) l (front ++ s ∷ tail)
            → Past (cond b (opened slot (words ++ page) go) (read_pages n slot (k + 1) (words ++ page) go)) go front
        by true whole more = whole
        by false whole more = more

    past_dir : (dir : ℕ) (front : List Step) → IsTraceOf (read_dir dir go) l (front ++ s ∷ tail) → Past (read_dir dir go) go front
    past_dir dir front h =
        past_ask (RepOf (uid dir)) (λ a. if_rep a (λ rep. read_rep rep go)) go refl refl
        (past_ask (SlotOf (uid (rep_of l.types dir))) (λ a. if_slot a (λ slot. read_pages 8 slot 0 [] go)) go refl refl (past_pages 8 (slot_of l.segs (rep_of l.types dir)) 0 [])) front h

  -- so the plan goes on with the directories from there on
  pub record Skipped (path : List Capability) (rd : ℕ) (name : Name) (front : List Step) : Type 0 where
    pub is : followed (plan_find path rd name) (front ++ s ∷ tail) ≡ followed (plan_find (drop (asked front) path) rd name) (s ∷ tail)
    pub trace : IsTraceOf (plan_find (drop (asked front) path) rd name) l (s ∷ tail)

  pub skipped : (path : List Capability) (rd : ℕ) (name : Name) (front : List Step) → IsTraceOf (plan_find path rd name) l (front ++ s ∷ tail) → Skipped path rd name front
  skipped [] rd name [] h = absurd h
  skipped [] rd name (f ∷ front) h = absurd h
  skipped (dir ∷ path) rd name [] h = record { is = refl; trace = h }
  skipped (dir ∷ path) rd name (f ∷ front) h =
      let one = ap (λ (b : Bool). cond b (suc (asked front)) (asked front)) (ap (λ (t : Step). asks_dir t.call) h.0) in
      by (act l (DirAt dir Lookup)).1 (ap (λ (t : Step). t.answer) h.0) one (skipped path rd name) h.1
    where
      next : Plan
      next = plan_find path rd name

      go : Opened → Plan
      go = found_or next rd name

      -- the name was not found, since a call was made after that
      missing : (p : Past (read_dir dir.uid go) go front) → go p.d ≡ next
      missing p = look (find p.d.slots name) p.later p.trace
        where
          look : (o : Option SlotFound) (later : List Step) → IsTraceOf (if_there o next (λ found. give rd (Cap found.entry.cap))) l (later ++ s ∷ tail) → if_there o next (λ found. give rd (Cap found.entry.cap)) ≡ next
          look None later t = refl
          look (Some f) [] t = absurd t
          look (Some f) (x ∷ later) t = absurd t

      done : (later : List Step) → asked later ≡ asked front → asked (f ∷ front) ≡ suc (asked front) → followed (looks_in dir next go) (f ∷ (front ++ s ∷ tail)) ≡ followed next (later ++ s ∷ tail) → Skipped path rd name later → Skipped (dir ∷ path) rd name (f ∷ front)
      done later same one first r =
          let place : asked (f ∷ front) ≡ suc (asked later) = one ∙ ap suc (sym same) in
          record {
            is = first ∙ r.is ∙ ap (λ (n : ℕ). followed (plan_find (drop n (dir ∷ path)) rd name) (s ∷ tail)) (sym place);
            trace = subst (λ (n : ℕ). IsTraceOf (plan_find (drop n (dir ∷ path)) rd name) l (s ∷ tail)) (sym place) r.trace;
          }

      by : (x : LevelAnswer) → f.answer ≡ x → asked (f ∷ front) ≡ suc (asked front)
          → ((later : List Step) → IsTraceOf next l (later ++ s ∷ tail) → Skipped path rd name later)
          → IsTraceOf (if_may_look x next (read_dir dir.uid go)) l (front ++ s ∷ tail) → Skipped (dir ∷ path) rd name (f ∷ front)
      by (Guard guard) e one later t =
          let p = past_dir go dir.uid front t in
          let not_there = missing p in
          done p.later p.count one (ap (λ (y : LevelAnswer). followed (if_may_look y next (read_dir dir.uid go)) (front ++ s ∷ tail)) e ∙ p.is ∙ ap (λ (q : Plan). followed q (p.later ++ s ∷ tail)) not_there)
          (later p.later (subst (λ (q : Plan). IsTraceOf q l (p.later ++ s ∷ tail)) not_there p.trace))
      by _ e one later t = done front refl one (ap (λ (y : LevelAnswer). followed (if_may_look y next (read_dir dir.uid go)) (front ++ s ∷ tail)) e) (later front t)

-- ---- from the last call for a directory on

-- the plan goes on with the directories from there on
pub record Resumed (path : List Capability) (rd : ℕ) (name : Name) (trace : List Step) (passed : ℕ) (rest : List Step) : Type 0 where
  pub is : followed (plan_find path rd name) trace ≡ followed (plan_find (drop passed path) rd name) rest
  pub run : IsRun (plan_find (drop passed path) rd name) rest

pub resumed : (path : List Capability) (rd : ℕ) (name : Name) (trace : List Step) (passed : ℕ) (rest : List Step) → IsSinceDir trace passed rest → IsRun (plan_find path rd name) trace → Resumed path rd name trace passed rest
resumed path rd name trace passed rest since r =
    let n = since.at in
    let there : Resumed path rd name trace (asked (take n trace)) (drop n trace) = elim since.first [
      | inl none ↦ subst (λ (m : ℕ). Resumed path rd name trace (asked (take m trace)) (drop m trace)) (sym none) (record { is = refl; run = r })
      | inr begins ↦ by n (drop n trace) refl begins
    ] in
    let counted = subst (λ (m : ℕ). Resumed path rd name trace m (drop n trace)) (sym since.count) there in
    subst (Resumed path rd name trace passed) (sym since.is) counted
  where
    by : (n : ℕ) (rest : List Step) → drop n trace ≡ rest → BeginsWithDir rest → Resumed path rd name trace (asked (take n trace)) rest
    by n [] e begins = absurd begins
    by n (s ∷ tail) e begins =
        let both : trace ≡ take n trace ++ s ∷ tail = sym (take-append-drop n trace) ∙ ap (λ (t : List Step). take n trace ++ t) e in
        let skip = skipped r.levels s tail begins path rd name (take n trace) (subst (λ (t : List Step). IsTraceOf (plan_find path rd name) r.levels t) both r.front) in
        record {
          is = ap (followed (plan_find path rd name)) both ∙ skip.is;
          run = record { levels = r.levels; front = skip.trace; lists = r.lists };
        }
