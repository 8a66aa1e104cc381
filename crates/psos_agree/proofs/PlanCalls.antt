-- Each plan makes few calls, and asks for its locks in the falling order, whatever the levels answer. States docs/requests.md, "Plans" and docs/levels.md, "Locks".
use Rattle.std.proofs.Common.{◌*◌, ◌≤◌, length, arith, ◌≡◌, ℕ, zero, suc, ◌+◌, true, false, not, cond, Some, None, List, [], ◌∷◌, ◌++◌, refl, sym, subst}
use Rattle.std.proofs.lemmas.Bool.{and_parts, or_left}
use Rattle.psos_limits.specs.declared.TheConstants.{MOST_WORDS}
use Rattle.psos_caps.specs.Capability.{Capability}
use Rattle.psos_caps.specs.declared.rights.Rights.{Rights}
use Rattle.psos_text.specs.declared.name.Name.{Name}
use Rattle.psos_words.specs.declared.word.Word.{Word}
use Rattle.psos_words.specs.declared.word.Word.TheVariants as words
use Rattle.psos_words.specs.Words.{word_at}
use Rattle.psos_words.specs.Directory.{has_never, find, entries_in, entry_words, gone_words}
use Rattle.psos_words.specs.Guard.{barred}
use Rattle.psos_calls.specs.declared.kind.Kind.{Kind}
use Rattle.psos_calls.specs.declared.kind.Kind.TheVariants as kinds
use Rattle.psos_calls.specs.declared.level.Level.TheVariants.{L13, L11, L10, L9, L8, L7, L0}
use Rattle.psos_calls.specs.declared.lock_id.LockId.{LockId}
use Rattle.psos_calls.specs.Levels.Answers.{LevelAnswer}
use Rattle.psos_calls.specs.Levels.Calls.{LevelCall}
use Rattle.psos_calls.specs.declared.level_call.LevelCall.TheVariants.{CodeMake, KindOf, Forget, DirAt, DirMake, DirGone, RepOf, TypeAt, TypeMake, ObjMake}
use Rattle.psos_calls.specs.declared.refusal.Refusal.TheVariants.{Range, UnknownName, Distinguished, NotDistinguished, NotEmpty}
use Rattle.psos_calls.specs.declared.reply.Reply.TheVariants as replies
use Rattle.psos_calls.specs.declared.effect.Effect.TheVariants.{Nothing}
use Rattle.psos_calls.specs.Language.Names.{names_of}
use Rattle.psos_calls.specs.declared.request.Request.{Request}
use Rattle.psos_calls.specs.declared.request.Request.TheVariants.{Mint, Restrict, Set, Move, Add, Read, Write, Window, Length, Lookup, Bind, Unbind, Impl, MkSeg, MkDir, MkType, MkObj, MkCode, Delete, Send, Recv, Call, Path, Find}
use Rattle.psos_calls.specs.declared.request.Request.TheVariants as requests
use Rattle.psos_calls.specs.declared.right.Right.{Right}
use Rattle.psos_calls.specs.declared.right.Right.TheVariants.{Create}
use Rattle.psos_calls.specs.declared.right.Right.TheVariants as rights
use Rattle.psos_calls.specs.Language.User.{User, here}
use Rattle.psos_calls.specs.Locks.{lock_of}
use Rattle.psos_calls.specs.Plan.{Plan, Close, Ask, give}
use Rattle.psos_calls.specs.Language.Capabilities.{uid}
use Rattle.psos_calls.specs.Plan.Directories.{if_may_look, plan_find}
use Rattle.psos_calls.specs.Plan.Objects.{with_segment, drop_segment, drop_object, drop_kind, is_empty}
use Rattle.psos_calls.specs.Language.Stores.{guard_of}
use Rattle.psos_calls.specs.Plan.Requests.{plan_of}
use Rattle.psos_calls.specs.Plan.Parts.{Opened, opened, read_pages, read_rep, read_dir, open_dir, put_slot, with_fresh, enrolled, make_in}
use Rattle.psos_calls.specs.Language.Stores.{is_length}
use Rattle.psos_calls.specs.Language.Tests.{if_there}
use Rattle.psos_calls.specs.Locks.Held.{is_held, are_earlier}
use Rattle.psos_calls.specs.Plan.{run_plan}
use Rattle.psos_calls.specs.Levels.{Levels, act}
use Rattle.psos_agree.proofs.LocksTaken.{fits, with_lock, taking, can_take, held_with, with_held, lock_at, page_locks, read_locks, open_locks, make_locks, making}
use Rattle.psos_agree.proofs.PlanInduction.{Along, GoesAlong, closes, by_give, by_refuse, by_fine, by_if, by_holds, by_cap, by_data, by_there, by_none, by_done, by_entered, by_got, by_kind, by_guard, by_rep, by_at, by_slot, by_len, by_page, by_new, by_look, by_opened, by_room}
use Rattle.psos_agree.proofs.PlanInduction as plans

-- among so many users, so many calls are left, and these locks are held
abbrev pub Course : Type 0
Course = ℕ × ℕ × List LockId

-- a call is left, and its lock is held or fits
abbrev pub MayAsk : Course → LevelCall → Type 0
MayAsk (users, zero, locks) call = ⊥
MayAsk (users, suc n, locks) call = fits locks (lock_of users call) ≡ true

abbrev pub after : Course → LevelCall → Course
after (users, zero, locks) call = (users, zero, locks)
after (users, suc n, locks) call = (users, n, with_lock locks (lock_of users call))

-- the plan makes at most so many calls, and each takes a lock that fits those of the calls before it
abbrev pub IsOrderly : ℕ → ℕ → List LockId → Plan → Type 0
IsOrderly users n locks plan = GoesAlong MayAsk after (users, n, locks) plan

-- the locks that are held where a user object goes
abbrev deleting : List LockId
deleting = lock_at L7 ∷ lock_at L8 ∷ lock_at L9 ∷ lock_at L10 ∷ lock_at L11 ∷ lock_at L13 ∷ []

-- a register that the request names
abbrev reg : User → ℕ → Word
reg x i = word_at (here x) i

-- so many more
abbrev pub more : ℕ → ℕ → ℕ
more zero n = n
more (suc m) n = suc (more m n)

no_fewer : (m n : ℕ) → n ≤ more m n
no_fewer zero n = omega arith
no_fewer (suc m) n = omega (arith, no_fewer m n)

-- before the first, after one that may not be looked up, and after one that was read
record AreLookedUp (users n : ℕ) (path : List Capability) (rd : ℕ) (name : Name) : Type 0 where
  first : IsOrderly users n [] (plan_find path rd name)
  passed : IsOrderly users n (lock_at L10 ∷ []) (plan_find path rd name)
  read : IsOrderly users n (taking [] open_locks) (plan_find path rd name)

-- as many calls as the name space asks for, and else 44 at most
abbrev pub most_calls : User → Request → ℕ
most_calls x (Find rd name) = 11 * length x.path
most_calls x _ = 44

longer_along : (users : ℕ) (plan : Plan) (m n : ℕ) (locks : List LockId) → m ≤ n → Along MayAsk after (users, m, locks) plan → Along MayAsk after (users, n, locks) plan
longer_along users (Close reply effect) m n locks few h = tt
longer_along users (Ask call go) zero n locks few h = absurd h.0
longer_along users (Ask call go) (suc m) zero locks few h = absurd (omega (arith, few))
longer_along users (Ask call go) (suc m) (suc n) locks few h = (h.0, λ a. longer_along users (go a) m n (with_lock locks (lock_of users call)) (omega (arith, few)) (h.1 a))

module _ {users : ℕ} where
  -- a greater bound
  longer : {plan : Plan} {n : ℕ} {locks : List LockId} (m : ℕ) → m ≤ n → IsOrderly users m locks plan → IsOrderly users n locks plan
  longer {plan} {n} {locks} m few h = record { along = longer_along users plan m n locks few h.along }

  -- ---- a call

  asks : {n : ℕ} {locks : List LockId} {call : LevelCall} {go : LevelAnswer → Plan} → fits locks (lock_of users call) ≡ true → ((a : LevelAnswer) → IsOrderly users n (with_lock locks (lock_of users call)) (go a))
      → IsOrderly users (suc n) locks (Ask call go)
  asks fit h = plans.asks fit h

  -- under a lock that is held
  asks_held : {n : ℕ} {locks : List LockId} {call : LevelCall} {go : LevelAnswer → Plan} → is_held locks (lock_of users call) ≡ true → ((a : LevelAnswer) → IsOrderly users n locks (go a))
      → IsOrderly users (suc n) locks (Ask call go)
  asks_held {n} {locks} {call} {go} held h =
      asks (or_left (is_held locks (lock_of users call)) (are_earlier locks (lock_of users call)) held)
      (λ a. subst (λ (ks : List LockId). IsOrderly users n ks (go a)) (sym (with_held locks (lock_of users call) held)) (h a))

  -- where its lock is the first of several
  asks_first : {n : ℕ} {locks : List LockId} (ks : List LockId) {call : LevelCall} {go : LevelAnswer → Plan} → can_take locks (lock_of users call ∷ ks) ≡ true
      → (can_take (with_lock locks (lock_of users call)) ks ≡ true → (a : LevelAnswer) → IsOrderly users n (with_lock locks (lock_of users call)) (go a)) → IsOrderly users (suc n) locks (Ask call go)
  asks_first {n} {locks} ks {call} can h =
      let both = and_parts (fits locks (lock_of users call)) (can_take (with_lock locks (lock_of users call)) ks) can in
      asks both.0 (h both.1)

  -- ---- a directory is read. n calls are left after it

  by_page_read : {n : ℕ} {locks : List LockId} (slot : ℕ) (ws page : List Word) {go : Opened → Plan} {rest : Plan} → ((d : Opened) → IsOrderly users n locks (go d)) → IsOrderly users n locks rest
      → IsOrderly users n locks (cond (has_never page) (opened slot (ws ++ page) go) rest)
  by_page_read slot ws page h rest = by_if (has_never page) (by_opened slot (ws ++ page) h) rest

  -- under the lock of the pages
  by_pages : {n : ℕ} {locks : List LockId} (m slot k : ℕ) (ws : List Word) {go : Opened → Plan} → is_held locks (lock_at L7) ≡ true → ((d : Opened) → IsOrderly users n locks (go d)) → IsOrderly users (more m n) locks (read_pages m slot k ws go)
  by_pages zero slot k ws held h = by_opened slot ws h
  by_pages {n} (suc m) slot k ws held h =
      asks_held held (λ a. by_page a (λ page. by_page_read slot ws page (λ d. longer n (no_fewer m n) (h d)) (by_pages m slot (k + 1) (ws ++ page) held h)))

  by_read_rep : {n : ℕ} {locks : List LockId} → can_take locks page_locks ≡ true → (rep : ℕ) {go : Opened → Plan} → ((d : Opened) → IsOrderly users n (taking locks page_locks) (go d)) → IsOrderly users (more 9 n) locks (read_rep rep go)
  by_read_rep {n} {locks} can rep h =
      asks_first (lock_at L7 ∷ []) can (λ next a. by_slot a (λ slot. asks_first [] next (λ over b. by_page b (λ page.
      by_page_read slot [] page (λ d. longer n (no_fewer 7 n) (h d)) (by_pages 7 slot 1 page (held_with (with_lock locks (lock_at L8)) (lock_at L7)) h)))))

  by_read_dir : {n : ℕ} {locks : List LockId} → can_take locks read_locks ≡ true → (dir : ℕ) {go : Opened → Plan} → ((d : Opened) → IsOrderly users n (taking locks read_locks) (go d)) → IsOrderly users (more 10 n) locks (read_dir dir go)
  by_read_dir can dir h = asks_first page_locks can (λ next a. by_rep a (λ rep. by_read_rep next rep h))

  by_open : {n : ℕ} {locks : List LockId} → can_take locks open_locks ≡ true → (cap : Capability) (right : Right) {go : ℕ → Opened → Plan} → ((guard : ℕ) (d : Opened) → IsOrderly users n (taking locks open_locks) (go guard d))
      → IsOrderly users (more 11 n) locks (open_dir cap right go)
  by_open can cap right h = asks_first read_locks can (λ next a. by_guard a (λ guard. by_read_dir next cap.uid (h guard)))

  by_make_in : {n : ℕ} {locks : List LockId} → can_take locks make_locks ≡ true → (dir : Capability) (name : Name) {go : Opened → ℕ → Plan} → ((d : Opened) (k : ℕ) → IsOrderly users n (taking locks make_locks) (go d k))
      → IsOrderly users (more 12 n) locks (make_in dir name go)
  by_make_in can dir name h = asks_first open_locks can (λ next a. by_done a (by_open next dir Create (λ guard d. by_room d name (h d))))

  -- ---- an object is made, or goes

  by_put : {n : ℕ} {locks : List LockId} (d : Opened) (k : ℕ) (ws : List Word) {go : Plan} → is_held locks (lock_at L7) ≡ true → IsOrderly users n locks go → IsOrderly users (suc n) locks (put_slot d k ws go)
  by_put d k ws held h = asks_held held (λ a. by_done a h)

  by_fresh : {n : ℕ} {locks : List LockId} {go : Capability → Plan} → fits locks (lock_at L0) ≡ true → ((new : Capability) → IsOrderly users n (with_lock locks (lock_at L0)) (go new)) → IsOrderly users (suc n) locks (with_fresh go)
  by_fresh fit h = asks fit (λ a. by_new a h)

  by_enrolled : {n : ℕ} (locks : List LockId) (d : Opened) (k : ℕ) (name : Name) (kind : Kind) (new : Capability) (rd : ℕ) → IsOrderly users (more 2 n) (making locks) (enrolled d k name kind new rd)
  by_enrolled locks d k name kind new rd = asks_held refl (λ a. by_done a (by_put d k (entry_words name new true) refl closes))

  by_segment : {n : ℕ} (locks : List LockId) (u len : ℕ) (guard : Rights) {go : Plan} → IsOrderly users n (making locks) go → IsOrderly users (more 2 n) (making locks) (with_segment u len guard go)
  by_segment locks u len guard h = asks_held refl (λ a. by_slot a (λ slot. asks_held refl (λ b. by_done b h)))

  by_drop_segment : {n : ℕ} (u : ℕ) {go : Plan} → IsOrderly users n deleting go → IsOrderly users (more 2 n) deleting (drop_segment u go)
  by_drop_segment u h = asks_held refl (λ a. by_slot a (λ slot. asks_held refl (λ b. by_done b h)))

  by_drop_object : {n : ℕ} (u : ℕ) {go : Plan} → IsOrderly users n deleting go → IsOrderly users (more 3 n) deleting (drop_object u go)
  by_drop_object u h = asks_held refl (λ a. by_rep a (λ rep. by_drop_segment rep h))

  -- a directory that goes is read first
  by_drop_kind : {n : ℕ} (kind : Kind) (u : ℕ) {go : Plan} → IsOrderly users n deleting go → IsOrderly users (more 14 n) deleting (drop_kind kind u go)
  by_drop_kind {n} kinds.Segment u h = longer (more 2 n) (no_fewer 12 (more 2 n)) (by_drop_segment u h)
  by_drop_kind kinds.Directory u h = by_read_dir refl u (λ inner. by_holds (is_empty inner) NotEmpty (asks_held {call = DirGone (uid u)} refl (λ a. by_done a (by_drop_object u h))))
  by_drop_kind {n} kinds.Typ u h = longer (more 1 n) (no_fewer 13 (more 1 n)) (asks_held refl (λ a. by_done a h))
  by_drop_kind {n} kinds.Object u h = longer (more 3 n) (no_fewer 11 (more 3 n)) (by_drop_object u h)
  by_drop_kind {n} kinds.Code u h = longer (more 1 n) (no_fewer 13 (more 1 n)) (asks_held refl (λ a. by_done a h))
  by_drop_kind kinds.Process u h = closes

  -- ---- the directories of a name space

  -- where the name is not there, the others are looked at
  by_look_in : {n : ℕ} {locks : List LockId} → can_take locks open_locks ≡ true → (dir : Capability) (rd : ℕ) (name : Name) (next : Plan)
      → IsOrderly users n (with_lock locks (lock_at L10)) next → IsOrderly users n (taking locks open_locks) next
      → IsOrderly users (more 11 n) locks (Ask (DirAt dir rights.Lookup) (λ a. if_may_look a next (read_dir dir.uid (λ d. if_there (find d.slots name) next (λ found. give rd (words.Cap found.entry.cap))))))
  by_look_in {n} can dir rd name next h g =
      asks_first read_locks can (λ on a. by_look a (longer n (no_fewer 10 n) h) (by_read_dir on dir.uid (λ d. by_there (find d.slots name) g (λ found. by_give rd (words.Cap found.entry.cap)))))

  -- eleven calls for each directory
  by_path : (path : List Capability) (rd : ℕ) (name : Name) → AreLookedUp users (11 * length path) path rd name
  by_path [] rd name = record { first = closes; passed = closes; read = closes }
  by_path (dir ∷ rest) rd name =
      let n : ℕ = 11 * length rest in
      let h = by_path rest rd name in
      let few : more 11 n ≤ 11 * length (dir ∷ rest) = omega arith in
      record {
        first = longer (more 11 n) few (by_look_in refl dir rd name (plan_find rest rd name) h.passed h.read);
        passed = longer (more 11 n) few (by_look_in refl dir rd name (plan_find rest rd name) h.passed h.read);
        read = longer (more 11 n) few (by_look_in refl dir rd name (plan_find rest rd name) h.read h.read);
      }

  -- ---- each request

  module _ (x : User) where
    pub plan_walked : (request : Request) → IsOrderly users (most_calls x request) [] (plan_of x request)
    plan_walked (Mint rd) = by_fresh refl (λ new. closes)
    plan_walked (Restrict rd rs keep) = by_cap (reg x rs) _ (λ cap. closes)
    plan_walked (Set rd n) = closes
    plan_walked (Move rd rs) = closes
    plan_walked (Add rd ra rb) = by_data (reg x ra) _ (λ a. by_data (reg x rb) _ (λ b. by_holds _ _ closes))
    plan_walked (Read rd rs n) = by_cap (reg x rs) _ (λ cap. asks refl (λ a. by_at a (λ page off. asks refl (λ b. by_got b (λ w. closes)))))
    plan_walked (Write rs n rv) = by_cap (reg x rs) _ (λ cap. asks refl (λ a. by_at a (λ page off. asks refl (λ b. by_done b closes))))
    plan_walked (Window rd rs base len) = by_cap (reg x rs) _ (λ cap. asks refl (λ a. by_done a (by_fresh refl (λ new. asks refl (λ b. by_done b closes)))))
    plan_walked (Length rd rs) = by_cap (reg x rs) _ (λ cap. asks refl (λ a. by_len a (λ n. closes)))
    plan_walked (Lookup rd rs name) =
        by_cap (reg x rs) _ (λ cap. by_open refl cap rights.Lookup (λ guard d.
        by_there (find d.slots name) (by_refuse UnknownName) (λ found. by_give rd (words.Cap found.entry.cap))))
    plan_walked (Bind rs name rv) =
        by_cap (reg x rs) _ (λ cap. by_cap (reg x rv) _ (λ value. asks refl (λ a. by_guard a (λ guard.
        by_none (barred guard (words.Cap value)) _ (by_read_dir refl cap.uid (λ d. by_room d name (λ k. by_put d k (entry_words name value false) refl by_fine)))))))
    plan_walked (Unbind rs name) =
        by_cap (reg x rs) _ (λ cap. by_open refl cap rights.Unbind (λ guard d.
        by_there (find d.slots name) (by_refuse UnknownName) (λ found. by_holds (not found.entry.kept) Distinguished (by_put d found.slot gone_words refl by_fine))))
    plan_walked (requests.List rs) =
        by_cap (reg x rs) _ (λ cap. by_open refl cap rights.List (λ guard d. closes {reply = replies.Names (names_of (entries_in d.slots))} {effect = Nothing}))
    plan_walked (Impl rd rt ro) = by_cap (reg x rt) _ (λ of. by_cap (reg x ro) _ (λ on. asks refl (λ a. by_got a (λ w. closes))))
    plan_walked (MkSeg rd rs name len guard) =
        by_cap (reg x rs) _ (λ dir. by_holds (is_length len) Range (by_make_in refl dir name (λ d k.
        by_fresh refl (λ new. by_segment [] new.uid len (guard_of guard) (by_enrolled [] d k name kinds.Segment new rd)))))
    plan_walked (MkDir rd rs name guard) =
        by_cap (reg x rs) _ (λ dir. by_make_in refl dir name (λ d k.
        by_fresh refl (λ new. by_fresh refl (λ rep. by_segment [] rep.uid MOST_WORDS (guard_of guard) (
        asks_held {call = ObjMake (uid new.uid) None rep} refl (λ a. by_done a (
        asks_held {call = DirMake (uid new.uid) (guard_of guard)} refl (λ b. by_done b (by_enrolled [] d k name kinds.Directory new rd)))))))))
    plan_walked (MkType rd rs name) =
        by_cap (reg x rs) _ (λ dir. by_make_in refl dir name (λ d k.
        by_fresh refl (λ new. asks_held {call = TypeMake (uid new.uid)} refl (λ a. by_done a (by_enrolled [] d k name kinds.Typ new rd)))))
    plan_walked (MkObj rd rt rs name len) =
        by_cap (reg x rt) _ (λ of. by_cap (reg x rs) _ (λ dir. by_holds (is_length len) Range (
        asks refl (λ a. by_done a (asks {call = DirAt dir Create} refl (λ b. by_guard b (λ dir_guard. asks {call = RepOf (uid dir.uid)} refl (λ c. by_rep c (λ dir_rep. asks {call = TypeAt of} refl (λ e. by_done e (
        by_read_rep refl dir_rep (λ d. by_room d name (λ k.
        by_fresh refl (λ new. by_fresh refl (λ rep. by_segment [] rep.uid len (record { 0 = 1 }) (
        asks_held {call = ObjMake (uid new.uid) (Some (uid of.uid)) rep} refl (λ g. by_done g (by_enrolled [] d k name kinds.Object new rd))))))))))))))))))
    plan_walked (MkCode rd rs name label rl) =
        by_cap (reg x rs) _ (λ dir. asks refl (λ a. by_done a (by_make_in refl dir name (λ d k.
        by_fresh refl (λ new. asks_held {call = CodeMake (uid new.uid) label (reg x rl)} refl (λ b. by_done b (by_enrolled (lock_at L13 ∷ []) d k name kinds.Code new rd)))))))
    plan_walked (Delete rs name) =
        by_cap (reg x rs) _ (λ dir. asks refl (λ a. by_done a (asks refl (λ b. by_done b (by_open refl dir rights.Delete (λ guard d.
        by_there (find d.slots name) (by_refuse UnknownName) (λ found. by_holds found.entry.kept NotDistinguished (
        asks_held {call = KindOf (uid found.entry.cap.uid)} refl (λ c. by_kind c (λ kind. by_drop_kind kind found.entry.cap.uid (
        asks_held {call = Forget (uid found.entry.cap.uid)} refl (λ e. by_done e (by_put d found.slot gone_words refl by_fine)))))))))))))
    plan_walked (Send rp rv) = by_cap (reg x rp) _ (λ to. asks refl (λ a. by_done a closes))
    plan_walked (Recv rd) = asks refl (λ a. by_got a (λ w. closes))
    plan_walked (Call rp) = by_cap (reg x rp) _ (λ cap. by_holds _ _ (by_holds _ _ (asks refl (λ a. by_entered a (λ label link. closes)))))
    plan_walked (Path rs) = by_cap (reg x rs) _ (λ cap. by_holds _ _ (asks refl (λ a. by_guard a (λ guard. closes))))
    plan_walked (Find rd name) = (by_path x.path rd name).first

-- ---- what the walk says

-- a run makes no more calls than are left
run_short : (users : ℕ) (plan : Plan) (n : ℕ) (locks : List LockId) (l : Levels) → Along MayAsk after (users, n, locks) plan → length (run_plan plan l).calls ≤ n
run_short users (Close reply effect) n locks l h = omega arith
run_short users (Ask call go) zero locks l h = absurd h.0
run_short users (Ask call go) (suc n) locks l h = omega (arith, run_short users (go (act l call).1) n (with_lock locks (lock_of users call)) (act l call).0 (h.1 (act l call).1))

pub short_run : {users n : ℕ} {locks : List LockId} (plan : Plan) (l : Levels) → IsOrderly users n locks plan → length (run_plan plan l).calls ≤ n
short_run {users} {n} {locks} plan l h = run_short users plan n locks l h.along
