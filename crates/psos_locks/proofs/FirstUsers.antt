-- Levels at boot behind their locks, and the users before the first entry.
use Rattle.std.proofs.Common.{◌≡◌, ℕ, ◌≤◌, ◌<◌, false, List, [], ◌∷◌, ◌++◌, length, append-nil, Option, Some, None, refl, sym, ap, ◌∙◌, subst, arith}
use Rattle.std.specs.Prelude.{slice_get, IfSome}
use Rattle.std.specs.Option.{option_to_list}
use Rattle.std.proofs.lemmas.Bool.{lt-ltb}
use Rattle.std.proofs.lemmas.List.{length_push}
use Rattle.std.proofs.lemmas.Option.{slice_get_within}
use Rattle.psos_table.specs.Table.{at, size}
use Rattle.psos_calls.specs.declared.entry.Entry.{Entry}
use Rattle.psos_calls.specs.Language.Script.{Script, IsWellFormed}
use Rattle.psos_calls.specs.Language.User.{User}
use Rattle.psos_model.specs.Flat.Boot.{boot}
use Rattle.psos_model.specs.Replay.{boot_system}
use Rattle.psos_journal.specs.Views.{Side, new_side}
use Rattle.psos_procs.specs.Mailbox.{Mailbox, process_of}
use Rattle.psos_procs.specs.Mailboxes.{boxes_of, AreMailboxes}
use Rattle.psos_procs.proofs.New.{new_boxes, new_boxes-are, new_boxes-length, new_boxes-table}
use Rattle.psos_procs.proofs.Parts.{box_at, boxes-at, boxes-size}
use Rattle.psos_laws.proofs.BootSoundUsers.{users_count}
use Rattle.psos_core.proofs.BootTables.{boxes_none}
use Rattle.psos_histories.specs.Names.{member_of}
use Rattle.psos_histories.specs.Grips.{IsFreeGrip}
use Rattle.psos_histories.specs.Pieces.{Piece, Box, piece_at}
use Rattle.psos_histories.proofs.LockHistories.{histories_begin}
use Rattle.psos_locks.specs.Opening.{IsAtBoot, IsBootBox, AreBootBoxes, AreNewWith}
use Rattle.psos_locks.specs.Runs.{IsOwn}
use Rattle.psos_locks.specs.Users.{OwnView, UserView, new_user, IsUser, AreNewUsers}
use Rattle.psos_locks.proofs.ListPlaces.{front_get, last_get, each_front, each_last, each_more}

-- ---- a lock

-- a lock at boot is free
pub free_at_boot : (s : Script) (lock : _) (piece : Piece) (side : Side Entry) → IsAtBoot s lock piece → side ≡ new_side (member_of (length s.users) lock)
    → IsFreeGrip s (boot_system s) (record { lock = lock; side = side; piece = piece; broken = false })
free_at_boot s lock piece side h is =
    let free = (histories_begin s (boot_system s) (boot s)).free lock h.lock_is in
    subst (λ (p : Piece). IsFreeGrip s (boot_system s) (record { lock = lock; side = side; piece = p; broken = false })) (sym h.piece_is)
    (subst (λ (m : Side Entry). IsFreeGrip s (boot_system s) (record { lock = lock; side = m; piece = piece_at lock (boot_system s).levels; broken = false })) (sym is) free)

-- the mailboxes at boot are as at boot, each under its lock
pub boxes_at_boot : (s : Script) (boxes : List Mailbox) → IsWellFormed s → AreMailboxes boxes → boxes_of boxes ≡ (boot_system s).levels.boxes → length boxes ≡ length s.users → AreBootBoxes s boxes
boxes_at_boot s boxes well are same count = record {
  each = λ i b there.
      let here = box_at (length boxes) 0 boxes i b are.each there in
      let within = slice_get_within boxes i b there in
      let number : b.number ≡ i = omega (arith, here.number) in
      let below : b.number < length s.users = omega (arith, number, within, count) in
      let words = boxes-at (length boxes) 0 boxes i b are.each there in
      let row : at (boot_system s).levels.boxes (process_of b.number) ≡ Some b.words =
      ap (λ m. at m (process_of b.number)) (sym same) ∙ ap (λ (k : ℕ). at (boxes_of boxes) (process_of k)) here.number ∙ words in
      record {
        users = here.users ∙ count;
        number = number;
        at_boot = record { lock_is = lt-ltb b.number (length s.users) below; piece_is = ap (Box b.number) (sym row) };
      };
}

-- without the last
pub boxes_front : (s : Script) (boxes front : List Mailbox) (o : Option Mailbox) → boxes ≡ front ++ option_to_list o → AreBootBoxes s boxes → AreBootBoxes s front
boxes_front s boxes front None e h = subst (AreBootBoxes s) (e ∙ append-nil front) h
boxes_front s boxes front (Some b) e h = record { each = each_front (IsBootBox s) boxes front b e h.each }

pub boxes_last : (s : Script) (boxes front : List Mailbox) (o : Option Mailbox) (count : ℕ) → boxes ≡ front ++ option_to_list o → AreBootBoxes s boxes → length front ≡ count → IfSome o (λ b. IsBootBox s count b)
boxes_last s boxes front None count e h is = tt
boxes_last s boxes front (Some b) count e h is = subst (λ (k : ℕ). IsBootBox s k b) is (each_last (IsBootBox s) boxes front b e h.each)

-- there are as many as users
pub boxes_count : (s : Script) → 1 ≤ length s.users → length s.users ≤ 8 → size (boot_system s).levels.boxes ≡ length s.users
boxes_count s some few =
    let n = length s.users in
    let new = new_boxes-are n some few in
    let long = new_boxes-length n 0 n in
    let table = new_boxes-table n 0 n ∙ boxes_none 0 s.users in
    ap size (sym table) ∙ sym (boxes-size (length (new_boxes n 0 n)) 0 (new_boxes n 0 n) new.each) ∙ long

-- ---- users

-- what holds of a user before the first entry
pub new_is_user : (s : Script) (side : Side Entry) (x : User) (o : OwnView) → side ≡ new_side side.number → slice_get (boot_system s).users side.number ≡ Some x
    → o ≡ (new_user (length s.users) side.number x).who → IsUser s o
new_is_user s side x o new here is =
    let recorded = (histories_begin s (boot_system s) (boot s)).recorded in
    let own : IsOwn s (new_side side.number) x = record { recorded = recorded; here = here; latest = λ e. refl } in
    subst (IsUser s) (sym is) (record { own_is = own; past = λ x at q is. omega arith; shown = λ v x at q is. omega arith })

-- one more user behind the others
pub one_more_user : (n : ℕ) (parts more : List User) (x : User) (users more_users : List UserView) → AreNewWith n parts users → more ≡ parts ++ x ∷ [] → more_users ≡ users ++ new_user n (length parts) x ∷ []
    → AreNewWith n more more_users
one_more_user n parts more x users more_users h is users_are =
    let P : ℕ → User → Type 0 = λ i z. slice_get more_users i ≡ Some (new_user n i z) in
    let at_users : (i : ℕ) (z : UserView) → slice_get (users ++ new_user n (length parts) x ∷ []) i ≡ Some z → slice_get more_users i ≡ Some z = λ i z there. ap (λ l. slice_get l i) users_are ∙ there in
    let before : (i : ℕ) (z : User) → slice_get parts i ≡ Some z → P i z = λ i z there. at_users i _ (front_get users (new_user n (length parts) x) i _ (h.each i z there)) in
    let last : P (length parts) x = at_users (length parts) _ (ap (slice_get (users ++ new_user n (length parts) x ∷ [])) (sym h.count) ∙ last_get users (new_user n (length parts) x)) in
    record { count = omega (arith, ap length users_are, ap length is, length_push users (new_user n (length parts) x), length_push parts x, h.count); each = each_more P more parts x is before last }

-- users with all own parts at boot are the users before the first entry
pub all_new : (s : Script) (parts : List User) (users : List UserView) → parts ≡ (boot_system s).users → AreNewWith (length s.users) parts users → AreNewUsers s users
all_new s parts users same h = record {
  all = h.count ∙ ap (λ (us : List User). length us) same ∙ users_count 0 s.users;
  each = λ i x there. h.each i x (ap (λ (us : List User). slice_get us i) same ∙ there);
}
