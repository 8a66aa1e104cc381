-- What a journal and its members keep. It states docs/levels.md, "Journal".
use Rattle.std.specs.Prelude.{◌≡◌, ℕ, ◌+◌, ◌<◌, ◌≤◌, Bool, cond, List, [], ◌∷◌, ◌++◌, length, slice_index, IfSome}
use Rattle.std.specs.Int.{bit_at}
use Rattle.std.specs.declared.option.Option.{Option}
use Rattle.std.specs.declared.option.Option.TheVariants.{None, Some}
use Rattle.psos_journal.specs.declared.stop_cause.StopCause.{StopCause}
use Rattle.psos_journal.specs.declared.stop_cause.StopCause.TheVariants.{Store}
use Rattle.psos_journal.specs.Members.{entries_of, named}

-- 1 where a pen is open that is still to enter member i
abbrev pub pending : Option ℕ → ℕ → ℕ
pending None i = 0
pending (Some left) i = bit_at left i

-- the members that are still to be entered are named by the last entry
pub record IsOpen {A : Type 0} (left : ℕ) (past : List (A × ℕ)) : Type 0 where
  pub front : List (A × ℕ)
  pub last : A × ℕ
  pub whole : past ≡ front ++ last ∷ []
  pub within : (i : ℕ) → bit_at left i ≡ 1 → bit_at last.1 i ≡ 1

-- the journal's entries are listed, each fills a cell, and the totals are the numbers of the entries that name each member, but for those that are still to be entered.
-- A member was told only where the first cause is the store
pub record Journals {A : Type 0} (entries : List A) (full : ℕ) (past : List (A × ℕ)) (totals : List ℕ) (room : ℕ) (left : Option ℕ) (told : ℕ) (stopped : Option StopCause) : Type 0 where
  pub listed : entries ≡ entries_of past
  pub filled : full ≡ length past
  pub within : length past ≤ room
  pub limit : room ≤ 32768
  pub counts : (i : ℕ) → i < 24 → slice_index totals i + pending left i ≡ length (named i past)
  pub opened : IfSome left (λ bits. IsOpen bits past)
  pub tales : 0 < told → stopped ≡ Some Store

-- the member has as many entries as its side of its count says, and one where it knows of any entry
pub record Members {A : Type 0} (number marked amount len : ℕ) (past : List (A × ℕ)) (told : Bool) (parts tale : ℕ) : Type 0 where
  pub marked_as : marked ≡ number
  pub some_member : number < 24
  pub sized : len ≡ length past
  pub small : length past ≤ 32768
  pub counted : amount ≡ length (named number past)
  pub latest : 0 < length past → 0 < length (named number past)
  pub one_part : parts ≡ 1
  pub tale_is : tale ≡ cond told 1 0
