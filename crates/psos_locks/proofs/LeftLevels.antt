-- What a run of threads leaves is what its entries' replay has.
use Rattle.std.proofs.Common.{◌≡◌, ℕ, suc, ◌+◌, ◌<◌, true, false, List, [], ◌∷◌, ◌++◌, length, map, Option, Some, None, refl, sym, ap, ◌∙◌, subst, arith}
use Rattle.std.specs.Prelude.{slice_get, IfSome}
use Rattle.std.proofs.lemmas.Bool.{eqb-true, ltb-true}
use Rattle.std.proofs.lemmas.List.{length_push}
use Rattle.std.proofs.lemmas.Option.{none-some}
use Rattle.psos_table.specs.Table.{at}
use Rattle.psos_words.specs.declared.word.Word.{Word}
use Rattle.psos_calls.specs.declared.entry.Entry.{Entry}
use Rattle.psos_calls.specs.declared.level.Level.{Level}
use Rattle.psos_calls.specs.declared.level.Level.TheVariants.{L13, L12, L11, L10, L9, L8, L7, L0}
use Rattle.psos_calls.specs.declared.lock_id.LockId.{LockId}
use Rattle.psos_calls.specs.Language.Script.{Script, IsWellFormed}
use Rattle.psos_calls.specs.Language.User.{User}
use Rattle.psos_calls.specs.Levels.{Levels}
use Rattle.psos_calls.specs.Levels.Level12.{BoxState}
use Rattle.psos_calls.specs.Locks.{box_of}
use Rattle.psos_calls.specs.Locks.Held.{is_lock}
use Rattle.psos_model.specs.Flat.Boot.{boot}
use Rattle.psos_model.specs.Replay.{System, boot_system}
use Rattle.psos_journal.specs.declared.stop_cause.StopCause.{StopCause}
use Rattle.psos_journal.specs.declared.stop_cause.StopCause.TheVariants.{Store}
use Rattle.psos_journal.specs.Members.{entries_of, named}
use Rattle.psos_journal.specs.Views.{JournalState, list_of}
use Rattle.psos_events.proofs.MailboxRows.{box_of_process}
use Rattle.psos_procs.specs.Mailbox.{Mailbox, process_of}
use Rattle.psos_procs.specs.Mailboxes.{boxes_of, AreBoxesFrom, AreMailboxes}
use Rattle.psos_procs.proofs.Parts.{boxes-at, no_box}
use Rattle.psos_histories.specs.Names.{member_of}
use Rattle.psos_histories.specs.Pieces.{Piece, Codes, Box, Life, Dirs, Types, Segs, Slots, Next, piece_at}
use Rattle.psos_histories.specs.Records.{replay_in, left_by_history}
use Rattle.psos_histories.specs.Grips.{Grip, IsFreeGrip}
use Rattle.psos_histories.proofs.LockHistories.{histories_are_replay}
use Rattle.psos_histories.proofs.OwnParts.{users_stay}
use Rattle.psos_histories.proofs.RecordLimits.{records_have_users}
use Rattle.psos_locks.specs.declared.left.Left.{Left}
use Rattle.psos_locks.specs.Ending.{MayHaveStopped, IsLeft, IsBoxOf, AreBoxesLeft, IsProcsLeft, HasMetAll, HaveEndedIn, system_with, IsEachLeft, AreGiven}
use Rattle.psos_core.specs.declared.levels.Levels as core
use Rattle.psos_core.specs.declared.parts.Parts.{Parts}
use Rattle.psos_core.specs.System.{system_of}
use Rattle.psos_core.specs.Parts.{levels_of_stop, store_of_stop}
use Rattle.psos_locks.specs.Ends.{HasEnded, IsGiven}
use Rattle.psos_locks.specs.Grips.{level_lock}
use Rattle.psos_locks.specs.Runs.{IsRun}
use Rattle.psos_locks.specs.Users.{UserView, AreUsers}
use Rattle.psos_locks.proofs.ListPlaces.{each_more, same_places, there_is, mapped_is, mapped_there}
use Rattle.psos_locks.proofs.Working.{start}

-- ---- a run that may be stopped on the way

pub as_it_was : (j : JournalState Entry) → MayHaveStopped j j
as_it_was j = record { rest = refl; stays = λ cause e. e }

pub as_it_is : (old new : JournalState Entry) → new ≡ old → MayHaveStopped old new
as_it_is old new e = subst (MayHaveStopped old) (sym e) (as_it_was old)

pub then_stopped : (a b c : JournalState Entry) → MayHaveStopped a b → MayHaveStopped b c → MayHaveStopped a c
then_stopped a b c h g = record {
  rest = g.rest ∙ ap (λ (j : JournalState Entry). (let k : JournalState Entry = record j { stopped = c.stopped } in k)) h.rest;
  stays = λ cause e. g.stays cause (h.stays cause e);
}

pub same_entries : (old new : JournalState Entry) → MayHaveStopped old new → new.entries ≡ old.entries
same_entries old new h = ap (λ (j : JournalState Entry). j.entries) h.rest

-- where it is not stopped at the end, it was not before
pub not_before : (old new : JournalState Entry) → MayHaveStopped old new → new.stopped ≡ None → old.stopped ≡ None
not_before old new h none = by_cases old.stopped refl
  where
    by_cases : (o : Option StopCause) → old.stopped ≡ o → o ≡ None
    by_cases None e = refl
    by_cases (Some cause) e = absurd (none-some cause (sym none ∙ h.stays cause e))

-- ---- locks

-- what lies under a lock that is not broken, whose member has met the entries
pub left_whole : (s : Script) (log : List (Entry × ℕ)) (g : Grip) → IsFreeGrip s (boot_system s) g → g.broken ≡ false → list_of g.side ≡ named g.side.number log → IsLeft s log g.lock g.piece
left_whole s log g free whole met =
    record { piece_is = free.whole whole ∙ ap (left_by_history s (boot_system s) g.lock) (met ∙ ap (λ (i : ℕ). named i log) free.matched.number) }

abbrev pub box_lock : ℕ → LockId
box_lock i = record { level = L12; part = i }

-- what holds of the lock of each level and of each user's mailbox holds of every lock
every_in : (n : ℕ) (P : LockId → Type 0) → P (level_lock L13) → P (level_lock L11) → P (level_lock L10) → P (level_lock L9) → P (level_lock L8) → P (level_lock L7) → P (level_lock L0)
    → ((i : ℕ) → i < n → P (box_lock i)) → (level : Level) (part : ℕ) → is_lock n (record { level = level; part = part }) ≡ true → P (record { level = level; part = part })
every_in n P h13 h11 h10 h9 h8 h7 h0 boxes L13 part e = subst (λ (p : ℕ). P (record { level = L13; part = p })) (sym (eqb-true part 0 e)) h13
every_in n P h13 h11 h10 h9 h8 h7 h0 boxes L12 part e = boxes part (ltb-true part n e)
every_in n P h13 h11 h10 h9 h8 h7 h0 boxes L11 part e = subst (λ (p : ℕ). P (record { level = L11; part = p })) (sym (eqb-true part 0 e)) h11
every_in n P h13 h11 h10 h9 h8 h7 h0 boxes L10 part e = subst (λ (p : ℕ). P (record { level = L10; part = p })) (sym (eqb-true part 0 e)) h10
every_in n P h13 h11 h10 h9 h8 h7 h0 boxes L9 part e = subst (λ (p : ℕ). P (record { level = L9; part = p })) (sym (eqb-true part 0 e)) h9
every_in n P h13 h11 h10 h9 h8 h7 h0 boxes L8 part e = subst (λ (p : ℕ). P (record { level = L8; part = p })) (sym (eqb-true part 0 e)) h8
every_in n P h13 h11 h10 h9 h8 h7 h0 boxes L7 part e = subst (λ (p : ℕ). P (record { level = L7; part = p })) (sym (eqb-true part 0 e)) h7
every_in n P h13 h11 h10 h9 h8 h7 h0 boxes L0 part e = subst (λ (p : ℕ). P (record { level = L0; part = p })) (sym (eqb-true part 0 e)) h0

-- ---- mailboxes

-- mailboxes of these numbers, in order, are all from the first on
boxes_from : (s : Script) (i : ℕ) (boxes : List Mailbox) → ((k : ℕ) (b : Mailbox) → slice_get boxes k ≡ Some b → IsBoxOf s (i + k) b) → i + length boxes ≡ length s.users → AreBoxesFrom (length s.users) i boxes
boxes_from s i [] each all = omega (arith, all)
boxes_from s i (box ∷ rest) each all =
    let first = each 0 box refl in
    let later : (k : ℕ) (b : Mailbox) → slice_get rest k ≡ Some b → IsBoxOf s ((i + 1) + k) b = λ k b there.
    (let h = each (suc k) b there in record { number = omega (arith, h.number); users = h.users; few = h.few }) in
    (omega (arith, first.number), first.users, first.few, boxes_from s (i + 1) rest later (omega (arith, all)))

module _ (s : Script) (well : IsWellFormed s) (log : List (Entry × ℕ)) (count : ℕ) (boxes : List Mailbox) (h : AreBoxesLeft s log count boxes) (all : count ≡ length s.users) where
  long : length boxes ≡ length s.users
  long = h.all ∙ all

  in_order : AreBoxesFrom (length s.users) 0 boxes
  in_order = boxes_from s 0 boxes (λ k b there. (let e = h.each k b there in record { number = omega (arith, e.number); users = e.users; few = e.few })) (omega (arith, long))

  pub are_mailboxes : AreMailboxes boxes
  are_mailboxes = record {
    some = omega (arith, long, well.some_users);
    few = omega (arith, long, well.few_users);
    each = subst (λ (n : ℕ). AreBoxesFrom n 0 boxes) (sym long) in_order;
  }

  pub procs_left : IsProcsLeft s log (boxes_of boxes)
  procs_left = record {
    owners = λ uid strange. no_box (length s.users) 0 boxes uid in_order (λ k low below is. strange (is ∙ ap process_of (sym (ap (box_of (length s.users)) is ∙ box_of_process (length s.users) k below))));
    left = λ i below.
        let b = there_is boxes i (omega (arith, below, long)) in
        let here : 0 + i ≡ i = omega arith in
        let row = boxes-at (length s.users) 0 boxes i b.0 in_order b.1 in
        let words : at (boxes_of boxes) (process_of i) ≡ Some b.0.words = ap (λ (k : ℕ). at (boxes_of boxes) (process_of k)) (sym here) ∙ row in
        subst (λ (o : Option (List Word)). IsLeft s log (box_lock i) (Box i o)) (sym words) (h.left i b.0 b.1);
  }

-- one more mailbox behind the others
pub one_more_box : (s : Script) (log : List (Entry × ℕ)) (count : ℕ) (more boxes : List Mailbox) (b : Mailbox) → AreBoxesLeft s log count boxes → more ≡ boxes ++ b ∷ [] → IsBoxOf s count b
    → IsLeft s log (box_lock count) (Box count (Some b.words)) → AreBoxesLeft s log (count + 1) more
one_more_box s log count more boxes b h e is left = record {
  all = omega (arith, ap length e, length_push boxes b, h.all);
  each = each_more (IsBoxOf s) more boxes b e h.each (subst (λ (k : ℕ). IsBoxOf s k b) (sym h.all) is);
  left = each_more (λ i z. IsLeft s log (box_lock i) (Box i (Some z.words))) more boxes b e h.left
      (subst (λ (k : ℕ). IsLeft s log (box_lock k) (Box k (Some b.words))) (sym h.all) left);
}

pub no_boxes : (s : Script) (log : List (Entry × ℕ)) (boxes : List Mailbox) → boxes ≡ [] → AreBoxesLeft s log 0 boxes
no_boxes s log boxes e = subst (AreBoxesLeft s log 0) (sym e) (record { all = refl; each = λ i b there. absurd (none-some b there); left = λ i b there. absurd (none-some b there) })

-- ---- all levels

module _ (s : Script) (well : IsWellFormed s) (log : List (Entry × ℕ)) (recorded : IsRun s log) (l : Levels) where
  -- levels with what its history leaves under each lock are those of the replay
  pub levels_left : IsProcsLeft s log l.boxes → IsLeft s log (level_lock L13) (Codes l.codes) → IsLeft s log (level_lock L11) (Life l.life) → IsLeft s log (level_lock L10) (Dirs l.dirs)
      → IsLeft s log (level_lock L9) (Types l.types) → IsLeft s log (level_lock L8) (Segs l.segs) → IsLeft s log (level_lock L7) (Slots l.pages) → IsLeft s log (level_lock L0) (Next l.next)
      → l ≡ (replay_in s (boot_system s) log).levels
  levels_left procs h13 h11 h10 h9 h8 h7 h0 =
      let P : LockId → Type 0 = λ k. piece_at k l ≡ left_by_history s (boot_system s) k (named (member_of (length s.users) k) log) in
      histories_are_replay s (boot_system s) (boot s) log (start s well) recorded l (record { none = procs.owners })
      (λ k lock. every_in (length s.users) P h13.piece_is h11.piece_is h10.piece_is h9.piece_is h8.piece_is h7.piece_is h0.piece_is (λ i below. (procs.left i below).piece_is) k.level k.part lock)

-- ---- users

abbrev pub own_of : UserView → User
own_of u = u.who.own

pub no_users : (s : Script) (j : JournalState Entry) (users : List UserView) → users ≡ [] → HaveEndedIn s j.entries j.stopped users
no_users s j users e = subst (HaveEndedIn s j.entries j.stopped) (sym e) (record {
  each = λ i u there. absurd (none-some u there);
  told = λ i u there told. absurd (none-some u there);
  going = λ none i u there. absurd (none-some u there);
})

-- one more user behind the others, which ended first
module _ (s : Script) (first mid next last : JournalState Entry) (users front : List UserView) (u : UserView) (whole : users ≡ front ++ u ∷ []) (stopped : MayHaveStopped first mid)
    (more : MayHaveStopped mid next) (rest : MayHaveStopped next last) where
  pub one_more_ended : HasMetAll s first.entries u → (u.who.side.told ≡ true → mid.stopped ≡ Some Store) → (mid.stopped ≡ None → u.halted ≡ false) → HaveEndedIn s mid.entries next.stopped front
      → HaveEndedIn s first.entries last.stopped users
  one_more_ended met told going h = record {
    each = each_more (λ i v. HasMetAll s first.entries v) users front u whole (λ i v there. subst (λ (log : List (Entry × ℕ)). HasMetAll s log v) (same_entries first mid stopped) (h.each i v there)) met;
    told = each_more (λ i v. v.who.side.told ≡ true → last.stopped ≡ Some Store) users front u whole (λ i v there is. rest.stays Store (h.told i v there is)) (λ is. rest.stays Store (more.stays Store (told is)));
    going = λ none. each_more (λ i v. v.halted ≡ false) users front u whole (h.going (not_before next last rest none)) (going (not_before mid next more (not_before next last rest none)));
  }

module _ (s : Script) (well : IsWellFormed s) (users : List UserView) (are : AreUsers s users) (first between last : JournalState Entry) (ended : HaveEndedIn s first.entries between.stopped users)
    (more : MayHaveStopped first between) (rest : MayHaveStopped between last) (recorded : IsRun s last.entries) where
  abbrev y : System
  y = boot_system s

  entries : last.entries ≡ first.entries
  entries = same_entries first last (then_stopped first between last more rest)

  -- each user's list is that of the entries that name it
  pub lists_left : (i : ℕ) (u : UserView) → slice_get users i ≡ Some u → list_of u.who.side ≡ named i last.entries
  lists_left i u there =
      (ended.each i u there).knows.met ∙ ap (λ (k : ℕ). named k first.entries) (are.numbers i u there) ∙ ap (named i) (sym entries)

  -- and its own part that of their replay
  pub parts_left : (i : ℕ) (u : UserView) → slice_get users i ≡ Some u → slice_get (replay_in s (boot_system s) last.entries).users i ≡ Some u.who.own
  parts_left i u there =
      let h : HasMetAll s last.entries u = subst (λ (log : List (Entry × ℕ)). HasMetAll s log u) (sym entries) (ended.each i u there) in
      let v = u.who.side.number in
      let below : v < length s.users = records_have_users s y (boot s) u.who.side.past (start s well) h.own.recorded v u.who.own h.own.here in
      let part = users_stay s y v u.who.side.past last.entries below recorded.all_named h.knows.prefix h.knows.met ∙ h.own.here in
      ap (slice_get (replay_in s y last.entries).users) (sym (are.numbers i u there)) ∙ part

  pub told_left : (i : ℕ) (u : UserView) → slice_get users i ≡ Some u → u.who.side.told ≡ true → last.stopped ≡ Some Store
  told_left i u there told = rest.stays Store (ended.told i u there told)

  pub going_left : last.stopped ≡ None → (i : ℕ) (u : UserView) → slice_get users i ≡ Some u → u.halted ≡ false
  going_left none = ended.going (not_before between last rest none)

  forth : (i : ℕ) (x : User) → slice_get (map own_of users) i ≡ Some x → slice_get (replay_in s y last.entries).users i ≡ Some x
  forth i x there =
      let u = mapped_is own_of users i x there in
      parts_left i u.0 u.1 ∙ ap (λ (z : User). Some z) u.2

  back : (i : ℕ) (x : User) → slice_get (replay_in s y last.entries).users i ≡ Some x → slice_get (map own_of users) i ≡ Some x
  back i x there =
      let below : i < length s.users = records_have_users s y (boot s) last.entries (start s well) recorded i x there in
      let u = there_is users i (omega (arith, below, are.all)) in
      mapped_there own_of users i u.0 u.1 ∙ (sym (parts_left i u.0 u.1) ∙ there)

  -- the own parts in order are those of the replay
  pub all_parts : map (λ (u : UserView). u.who.own) users ≡ (replay_in s (boot_system s) last.entries).users
  all_parts = same_places (map own_of users) (replay_in s y last.entries).users forth back

  -- all that is said of the end of a run
  pub has_ended : {B : Type 0} (parts : Parts B) → parts.entries ≡ entries_of last.entries → parts.stopped ≡ last.stopped
      → IfSome parts.levels (λ (l : core.Levels B). system_of l ≡ replay_in s (boot_system s) last.entries) → HasEnded s users parts
  has_ended parts entries_are stopped levels = record {
    log = last.entries;
    recorded = recorded;
    entries_are = entries_are;
    lists = lists_left;
    own_parts = parts_left;
    levels_are = levels;
    told = λ i u there told. stopped ∙ told_left i u there told;
    going = λ none. going_left (sym stopped ∙ none);
  }

-- what lay under a lock that was taken apart on the way
pub left_later : (s : Script) (old new last : JournalState Entry) (lock : LockId) (piece : Piece) → (new.stopped ≡ None → IsLeft s old.entries lock piece) → MayHaveStopped old new → MayHaveStopped new last
    → last.stopped ≡ None → IsLeft s last.entries lock piece
left_later s old new last lock piece left more rest none =
    subst (λ (log : List (Entry × ℕ)). IsLeft s log lock piece) (sym (same_entries old last (then_stopped old new last more rest))) (left (not_before new last rest none))

-- ---- all that a run leaves

-- what is given of a run that ended with these levels
pub is_given : {B : Type 0} (faults : B → ℕ) (stopped : Option StopCause) (l : core.Levels B) (levels : Option (core.Levels B)) (store : Option B) (count : ℕ) → levels ≡ levels_of_stop stopped l
    → store ≡ store_of_stop stopped l.pages.store → count ≡ faults l.pages.store → IsGiven faults stopped levels store count
is_given {B} faults None l levels store count levels_are store_is count_is =
    (store_is, λ none. none-some l (sym none ∙ levels_are), subst (λ (o : Option (core.Levels B)). IfSome o (λ m. faults m.pages.store ≡ count)) (sym levels_are) (sym count_is))
is_given {B} faults (Some cause) l levels store count levels_are store_is count_is =
    (levels_are, λ none. none-some l.pages.store (sym none ∙ store_is), subst (λ (o : Option B). IfSome o (λ b. faults b ≡ count)) (sym store_is) (sym count_is))

pub none_given : {B : Type 0} (faults : B → ℕ) (stopped : Option StopCause) (b : B) (count : ℕ) → (stopped ≡ None → ⊥) → count ≡ faults b → IsGiven {B = B} faults stopped None (Some b) count
none_given faults None b count some count_is = absurd (some refl)
none_given faults (Some cause) b count some count_is = (refl, λ none. none-some b (sym none), sym count_is)

pub are_given : {B : Type 0} (left : Left B) (procs : Option BoxState) (boxes : BoxState) (stopped : Option StopCause) (l : core.Levels B) (levels : Option (core.Levels B)) → procs ≡ Some boxes
    → system_of l ≡ system_with left boxes → levels ≡ levels_of_stop stopped l → IfSome levels (AreGiven left procs stopped)
are_given left procs boxes None l levels is system levels_are =
    subst (λ o. IfSome o (AreGiven left procs None)) (sym levels_are) (record { going = refl; boxes = boxes; boxes_are = is; system = system })
are_given left procs boxes (Some cause) l levels is system levels_are = subst (λ o. IfSome o (AreGiven left procs (Some cause))) (sym levels_are) tt

module _ {B : Type 0} (s : Script) (well : IsWellFormed s) (log : List (Entry × ℕ)) (recorded : IsRun s log) (left : Left B) where
  replay_left : (boxes : BoxState) → IsProcsLeft s log boxes → IsEachLeft s log left → system_with left boxes ≡ replay_in s (boot_system s) log
  replay_left boxes procs h =
      let y = replay_in s (boot_system s) log in
      let levels = levels_left s well log recorded (system_with left boxes).levels procs h.codes h.life h.dirs h.types h.segs h.pages h.issuer in
      ap (λ (l : Levels). (let z : System = record { levels = l; users = left.parts.value.items } in z)) levels
      ∙ ap (λ (us : List User). (let z : System = record { levels = y.levels; users = us } in z)) h.users

  -- the levels that are given are those of the replay
  pub levels_given : (procs : Option BoxState) (stopped : Option StopCause) (levels : Option (core.Levels B)) → IfSome levels (AreGiven left procs stopped) → IfSome procs (IsProcsLeft s log)
      → (stopped ≡ None → IsEachLeft s log left) → IfSome levels (λ l. system_of l ≡ replay_in s (boot_system s) log)
  levels_given procs stopped None h boxes each = tt
  levels_given procs stopped (Some l) h boxes each = h.system ∙ replay_left h.boxes (subst (λ o. IfSome o (IsProcsLeft s log)) h.boxes_are boxes) (each h.going)
