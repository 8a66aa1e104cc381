-- Where nobody has a request left, the core has what is committed. States docs/levels.md, "Locks".
use Rattle.std.proofs.Common.{◌≡◌, ℕ, Bool, true, false, List, length, refl, sym, ap, ◌∙◌, inl, inr}
use Rattle.std.proofs.lemmas.Bool.{true≢false, cases_eq, lt-ltb}
use Rattle.psos_table.specs.Table.{at}
use Rattle.psos_table.proofs.Tables.{same_table}
use Rattle.psos_calls.specs.declared.level.Level.TheVariants.{L13, L12, L11, L10, L9, L8, L7, L0}
use Rattle.psos_calls.specs.declared.lock_id.LockId.{LockId}
use Rattle.psos_calls.specs.Language.Script.{Script}
use Rattle.psos_calls.specs.Language.User.{User}
use Rattle.psos_calls.specs.Levels.{Levels}
use Rattle.psos_calls.specs.Locks.Held.{is_lock, is_held}
use Rattle.psos_calls.specs.Locks.{box_of}
use Rattle.psos_model.specs.Flat.{Flat}
use Rattle.psos_model.specs.Flat.Boot.{process_of}
use Rattle.psos_model.specs.Run.{has_left}
use Rattle.psos_model.specs.Replay.{System}
use Rattle.psos_model.specs.Events.{CoreState, locks_of, core_of, core_after}
use Rattle.psos_model.specs.Events.Serial.{IsCoreStart, committed}
use Rattle.psos_events.specs.Events.{system_in, EventsEnd}
use Rattle.psos_events.proofs.MailboxRows.{box_below}
use Rattle.psos_events.proofs.LockScope.{Same}
use Rattle.psos_agree.proofs.LocksTaken.{lock_at}
use Rattle.psos_events.proofs.Progress.{StillGoes, from_start}

-- levels are the same where each of them is
pub same_levels : (a b : Levels) → a.next ≡ b.next → a.pages ≡ b.pages → a.segs ≡ b.segs → a.types ≡ b.types
    → a.dirs ≡ b.dirs → a.life ≡ b.life → a.boxes ≡ b.boxes → a.codes ≡ b.codes → a ≡ b
same_levels a b next pages segs types dirs life boxes codes =
    let whole : Levels = record { next = a.next; pages = a.pages; segs = a.segs; types = a.types; dirs = a.dirs; life = a.life; boxes = a.boxes; codes = a.codes } in
    let same : whole ≡ b = rw (next, pages, segs, types, dirs, life, boxes, codes) in
    same

module _ (s : Script) (y : System) (f : Flat) (start : IsCoreStart s y f) (c : CoreState) (h : StillGoes s y f c) (over : (u : ℕ) → has_left s c.users u ≡ false) where
  abbrev base : Levels
  base = (committed s y c).levels

  -- nobody holds a lock
  none_held : (u : ℕ) (k : LockId) → is_held (locks_of c u) k ≡ false
  none_held u k = by_test (is_held (locks_of c u) k) refl
    where
      by_test : (t : Bool) → is_held (locks_of c u) k ≡ t → t ≡ false
      by_test false e = refl
      by_test true e = absurd (true≢false (sym (h.goes.holders u k e) ∙ over u))

  -- so what lies under each lock is what is committed there
  same_under : (k : LockId) → is_lock (length s.users) k ≡ true → Same k c.levels base
  same_under k lock = h.done.apart.free k lock (λ u. none_held u k)

  -- a process is a user's, and its mailbox lies under that user's lock, or it has none
  same_box : (uid : ℕ) → at c.levels.boxes uid ≡ at base.boxes uid
  same_box uid =
      let n = length s.users in
      let part = box_of n uid in
      let mailbox : LockId = record { level = L12; part = part } in
      let under : Same mailbox c.levels base = same_under mailbox (lt-ltb part n (box_below n uid start.well_formed.some_users)) in
      elim (cases_eq uid (process_of part)) [
        | inl own ↦ ap (at c.levels.boxes) own ∙ under.at_lock ∙ sym (ap (at base.boxes) own)
        | inr other ↦ h.done.apart.second.none uid other ∙ sym (h.done.apart.first.none uid other)
      ]

  levels_are : c.levels ≡ base
  levels_are =
      same_levels c.levels base (same_under (lock_at L0) refl).at_lock (same_under (lock_at L7) refl).at_lock (same_under (lock_at L8) refl).at_lock (same_under (lock_at L9) refl).at_lock
      (same_under (lock_at L10) refl).at_lock (same_under (lock_at L11) refl).at_lock (same_table c.levels.boxes base.boxes same_box) (same_under (lock_at L13) refl).at_lock

  all_committed : system_in c ≡ committed s y c
  all_committed =
      ap (λ (l : Levels). (let z : System = record { levels = l; users = c.users } in z)) levels_are
      ∙ ap (λ (us : List User). (let z : System = record { levels = base; users = us } in z)) h.done.users

pub events_end : EventsEnd
events_end s y f us start may over = all_committed s y f start (core_after s (core_of y) us) (from_start s y f us start may) over
