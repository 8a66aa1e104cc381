-- A user of a run of threads makes its requests of a phase. States docs/levels.md, "Phases".
use Rattle.std.proofs.Common.{◌≡◌, false}
use mathlib.Core.List.{IsPrefix}
use Rattle.psos_journal.specs.Views.{list_of}
use Rattle.psos_locks.specs.Users.{UserView}

-- ---- requests of a user, one after another

-- it made requests and is not halted
pub record GoesOn (old now : UserView) : Type 0 where
  pub number : now.who.side.number ≡ old.who.side.number
  pub phase : now.who.phase ≡ old.who.phase
  pub receipts : now.who.receipts ≡ old.who.receipts
  pub entries : IsPrefix (list_of old.who.side) (list_of now.who.side)
  pub was_going : old.halted ≡ false
  pub going : now.halted ≡ false
  pub served : now.served ≡ old.served
