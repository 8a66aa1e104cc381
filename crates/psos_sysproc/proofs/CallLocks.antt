-- The lock of a call is one of those that a table's users may take.
use Rattle.std.proofs.Common.{◌≡◌, ℕ, ◌≤◌, Bool, true, false, ◌&&◌, nat_lt, if◌then◌else◌, IsTrue, refl, sym}
use Rattle.std.specs.Prelude.{◌-◌, ◌/◌, ◌%◌, ◌==◌, nat_le}
use Rattle.std.proofs.lemmas.Bool.{lt-ltb}
use Rattle.psos_calls.specs.Levels.Calls.{LevelCall}
use Rattle.psos_calls.specs.declared.level_call.LevelCall.TheVariants.{Post, Draw}
use Rattle.psos_calls.specs.Locks.{box_of, lock_of}
use Rattle.psos_calls.specs.Locks.Held.{is_lock}

box_is_below : (users m : ℕ) (other below : Bool) → 1 ≤ users → below ≡ nat_lt m users → nat_lt (if other && below then m else 0) users ≡ true
box_is_below users m true true some is = sym is
box_is_below users m true false some is = lt-ltb 0 users some
box_is_below users m false below some is = lt-ltb 0 users some

box_of_is_below : (users uid : ℕ) → 1 ≤ users → nat_lt (box_of users uid) users ≡ true
box_of_is_below users uid some = box_is_below users ((uid - 3) / 4) (nat_le 3 uid && ((uid - 3) % 4 == 0)) (nat_lt ((uid - 3) / 4) users) some refl

pub lock_of_is_known : (users : ℕ) (call : LevelCall) → 1 ≤ users → IsTrue (is_lock users (lock_of users call))
lock_of_is_known users (Post to word) some = box_of_is_below users to.uid some
lock_of_is_known users (Draw uid) some = box_of_is_below users uid.0 some
lock_of_is_known users _ some = refl
