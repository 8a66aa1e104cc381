-- What lies under a lock after a replay is what its history leaves. States docs/levels.md, "Locks".
use Rattle.std.proofs.Common.{◌≡◌, ℕ, ◌<◌, ◌==◌, Bool, true, false, cond, List, [], ◌∷◌, ◌++◌, length, Option, Some, None, refl, sym, ap, ◌∙◌, ◌⊎◌, inl, inr, subst}
use Rattle.std.specs.Prelude.{slice_get}
use Rattle.std.specs.Int.{bit_at}
use Rattle.std.proofs.lemmas.Bool.{true≢false, eq-eqb}
use Rattle.psos_calls.specs.declared.request.Request.{Request}
use Rattle.psos_calls.specs.declared.reply.Reply.TheVariants as replies
use Rattle.psos_calls.specs.declared.level.Level.{Level}
use Rattle.psos_calls.specs.declared.lock_id.LockId.{LockId}
use Rattle.psos_calls.specs.Levels.Calls.{LevelCall}
use Rattle.psos_calls.specs.declared.entry.Entry.{Entry}
use Rattle.psos_calls.specs.Language.Script.{Script}
use Rattle.psos_calls.specs.Language.User.{User, next_request}
use Rattle.psos_calls.specs.Language.Tests.{if_there}
use Rattle.psos_calls.specs.Levels.{Levels, act}
use Rattle.psos_calls.specs.Locks.{lock_of}
use Rattle.psos_calls.specs.Locks.Held.{is_lock, same_lock}
use Rattle.psos_calls.specs.Plan.{Plan, Close, Ask, run_plan}
use Rattle.psos_calls.specs.Plan.Requests.{plan_of}
use Rattle.psos_model.specs.Flat.{Flat}
use Rattle.psos_model.specs.Replay.{System, replay_to, replay_step, replay_from, entries_from}
use Rattle.psos_journal.specs.Members.{entries_of, named}
use Rattle.psos_model.specs.Events.Serial.{IsCoreStart}
use Rattle.psos_histories.specs.Pieces.{Piece, piece_at, act_piece, after_all}
use Rattle.psos_histories.specs.Histories.{only, only_in}
use Rattle.psos_histories.specs.Names.{member_of, AllNamed}
use Rattle.psos_histories.specs.Records.{order_in, replay_in, HistoriesByLock, HistoriesAreReplay}
use Rattle.psos_histories.specs.Grips.{HistoriesBegin}
use Rattle.psos_events.proofs.MailboxRows.{NoOthers}
use Rattle.psos_events.proofs.LockScope.{same_lock_is, no_strangers}
use Rattle.psos_events.proofs.ReplayInvariant.{no_others}
use Rattle.psos_histories.proofs.Pieces.{called_alone, stays_alone, pieces_are_all}

-- ---- the levels after calls

abbrev pub made : Levels → List (Level × LevelCall) → Levels
made l [] = l
made l (c ∷ calls) = made (act l c.1).0 calls

abbrev pub made_all : Levels → List Entry → Levels
made_all l [] = l
made_all l (e ∷ entries) = made_all (made l e.steps) entries

pub strangers_made : (n : ℕ) (l : Levels) (calls : List (Level × LevelCall)) → NoOthers n l.boxes → NoOthers n (made l calls).boxes
strangers_made n l [] h = h
strangers_made n l (c ∷ calls) h = strangers_made n (act l c.1).0 calls (no_strangers n l c.1 h)

pub strangers_all : (n : ℕ) (l : Levels) (entries : List Entry) → NoOthers n l.boxes → NoOthers n (made_all l entries).boxes
strangers_all n l [] h = h
strangers_all n l (e ∷ entries) h = strangers_all n (made l e.steps) entries (strangers_made n l e.steps h)

made_run : (plan : Plan) (l : Levels) → (run_plan plan l).levels ≡ made l (run_plan plan l).calls
made_run (Close reply effect) l = refl
made_run (Ask call go) l = made_run (go (act l call).1) (act l call).0

made_to : (s : Script) (y : System) (u : ℕ) (x : User) (o : Option Request) → (replay_to s y u x o).0.levels ≡ made y.levels (replay_to s y u x o).1.steps
made_to s y u x None = refl
made_to s y u x (Some request) = made_run (plan_of x request) y.levels

made_of : (s : Script) (y : System) (u : ℕ) (o : Option User) → let r : System × Entry = if_there o (y, record { user = u; n = 0; m = 0; steps = []; reply = replies.Fine }) (λ x. replay_to s y u x (next_request s x)) in
    r.0.levels ≡ made y.levels r.1.steps
made_of s y u None = refl
made_of s y u (Some x) = made_to s y u x (next_request s x)

pub made_step : (s : Script) (y : System) (u : ℕ) → (replay_step s y u).0.levels ≡ made y.levels (replay_step s y u).1.steps
made_step s y u = made_of s y u (slice_get y.users u)

pub made_from : (s : Script) (y : System) (us : List ℕ) → (replay_from s y us).levels ≡ made_all y.levels (entries_from s y us)
made_from s y [] = refl
made_from s y (u ∷ us) = made_from s (replay_step s y u).0 us ∙ ap (λ (l : Levels). made_all l (entries_from s (replay_step s y u).0 us)) (made_step s y u)

-- ---- under one lock

pub after_append : (p : Piece) (a b : List LevelCall) → after_all p (a ++ b) ≡ after_all (after_all p a) b
after_append p [] b = refl
after_append p (c ∷ a) b = after_append (act_piece p c).0 a b

module _ (n : ℕ) (some : 0 < n) (k : LockId) (lock : is_lock n k ≡ true) where
  piece_made : (calls : List (Level × LevelCall)) (l : Levels) → NoOthers n l.boxes → piece_at k (made l calls) ≡ after_all (piece_at k l) (only n k calls)
  piece_made [] l h = refl
  piece_made (c ∷ calls) l h = by_test (piece_made calls (act l c.1).0 (no_strangers n l c.1 h)) (same_lock k (lock_of n c.1)) refl
    where
      by_test : piece_at k (made (act l c.1).0 calls) ≡ after_all (piece_at k (act l c.1).0) (only n k calls) → (t : Bool) → same_lock k (lock_of n c.1) ≡ t → piece_at k (made (act l c.1).0 calls) ≡ after_all (piece_at k l) (cond (same_lock k (lock_of n c.1)) (c.1 ∷ only n k calls) (only n k calls))
      by_test rest true e =
          let same = same_lock_is k (lock_of n c.1) e in
          let P : LockId → Type 0 = λ j. piece_at j (act l c.1).0 ≡ (act_piece (piece_at j l) c.1).0 in
          let one : piece_at k (act l c.1).0 ≡ (act_piece (piece_at k l) c.1).0 = subst P (sym same) (called_alone n l c.1 h).piece in
          rest ∙ ap (λ (p : Piece). after_all p (only n k calls)) one ∙ ap (λ (t : Bool). after_all (piece_at k l) (cond t (c.1 ∷ only n k calls) (only n k calls))) (sym e)
      by_test rest false e =
          rest ∙ ap (λ (p : Piece). after_all p (only n k calls)) (stays_alone n some l c.1 k lock e)
          ∙ ap (λ (t : Bool). after_all (piece_at k l) (cond t (c.1 ∷ only n k calls) (only n k calls))) (sym e)

  pub piece_all : (entries : List Entry) (l : Levels) → NoOthers n l.boxes → piece_at k (made_all l entries) ≡ after_all (piece_at k l) (only_in n k entries)
  piece_all [] l h = refl
  piece_all (e ∷ entries) l h =
      piece_all entries (made l e.steps) (strangers_made n l e.steps h)
      ∙ ap (λ (p : Piece). after_all p (only_in n k entries)) (piece_made e.steps l h)
      ∙ sym (after_append (piece_at k l) (only n k e.steps) (only_in n k entries))

  -- ---- the entries that name its member have all calls under it

  pub named_only : (log : List (Entry × ℕ)) → AllNamed n log → only_in n k (entries_of log) ≡ only_in n k (named (member_of n k) log)
  named_only [] h = refl
  named_only (x ∷ log) h = by_test (named_only log h.1) (bit_at x.1 (member_of n k) == 1) refl
    where
      no_calls : (bit_at x.1 (member_of n k) == 1) ≡ false → (bit_at x.1 (member_of n k) ≡ 1) ⊎ (only n k x.0.steps ≡ []) → only n k x.0.steps ≡ []
      no_calls e (inl is) = absurd (true≢false (sym (eq-eqb (bit_at x.1 (member_of n k)) 1 is) ∙ e))
      no_calls e (inr none) = none

      by_test : only_in n k (entries_of log) ≡ only_in n k (named (member_of n k) log) → (t : Bool) → (bit_at x.1 (member_of n k) == 1) ≡ t
          → only n k x.0.steps ++ only_in n k (entries_of log) ≡ only_in n k (cond (bit_at x.1 (member_of n k) == 1) (x.0 ∷ named (member_of n k) log) (named (member_of n k) log))
      by_test rest true e =
          ap (λ (cs : List LevelCall). only n k x.0.steps ++ cs) rest
          ∙ ap (λ (t : Bool). only_in n k (cond t (x.0 ∷ named (member_of n k) log) (named (member_of n k) log))) (sym e)
      by_test rest false e =
          ap (λ (cs : List LevelCall). cs ++ only_in n k (entries_of log)) (no_calls e (h.0.locks k lock)) ∙ rest
          ∙ ap (λ (t : Bool). only_in n k (cond t (x.0 ∷ named (member_of n k) log) (named (member_of n k) log))) (sym e)

-- ---- from a start

module _ (s : Script) (y : System) (f : Flat) (start : IsCoreStart s y f) where
  -- only users have mailboxes
  pub start_strangers : NoOthers (length s.users) y.levels.boxes
  start_strangers = no_others s y f start.stands start.start.sound

  -- and so it is after each replay
  pub replay_strangers : (us : List ℕ) → NoOthers (length s.users) (replay_from s y us).levels.boxes
  replay_strangers us =
      subst (λ (l : Levels). NoOthers (length s.users) l.boxes) (sym (made_from s y us)) (strangers_all (length s.users) y.levels (entries_from s y us) start_strangers)

pub histories_by_lock : HistoriesByLock
histories_by_lock s y f log start h k lock =
    let n = length s.users in
    let some = start.well_formed.some_users in
    ap (piece_at k) (made_from s y (order_in log) ∙ ap (made_all y.levels) (sym h.replayed))
    ∙ piece_all n some k lock (entries_of log) y.levels (start_strangers s y f start)
    ∙ ap (after_all (piece_at k y.levels)) (named_only n some k lock log h.all_named)

pub histories_are_replay : HistoriesAreReplay
histories_are_replay s y f log start h l owners each =
    let others = replay_strangers s y f start (order_in log) in
    pieces_are_all (length s.users) l (replay_in s y log).levels start.well_formed.some_users owners (record { none = others.none })
    (λ k lock. each k lock ∙ sym (histories_by_lock s y f log start h k lock))

pub histories_begin : HistoriesBegin
histories_begin s y f = record {
  recorded = record { replayed = refl; legal = tt; all_named = tt };
  free = λ k lock. record { matched = record { lock = lock; number = refl }; whole = λ e. refl };
}
