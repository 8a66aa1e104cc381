-- Words that lie where they should, and the views of code.
use Rattle.std.specs.Option.{option_map}
use Rattle.std.specs.Prelude.{None, Option, ◌≡◌, ℕ, ◌+◌, ◌≤◌, length, Some, Result, Ok, Err}
use Rattle.psos_limits.specs.declared.TheConstants.{MOST_WORDS, MOST_LINES}
use Rattle.psos_table.specs.Table.{at}
use Rattle.psos_caps.specs.Capability.{Capability}
use Rattle.psos_text.specs.declared.name.Name.{Name}
use Rattle.psos_calls.specs.declared.right.Right.TheVariants.{Lookup}
use Rattle.psos_calls.specs.Language.Rights.{has}
use Rattle.psos_calls.specs.declared.refusal.Refusal.{Refusal}
use Rattle.psos_model.specs.Answer.Outcomes.{Outcome, refuse}
use Rattle.psos_calls.specs.Language.Tests.{if_there, if_holds}
use Rattle.psos_calls.specs.declared.win_row.WinRow.{WinRow}
use Rattle.psos_calls.specs.Language.Script.{UserScript, requests_of}
use Rattle.psos_calls.specs.Language.Views.{View}
use Rattle.psos_model.specs.declared.view.FlatView.{FlatView}
use Rattle.psos_model.specs.Flat.{Flat, Segment, Named, named}

-- a segment has at most 512 words, and a window lies within its segment where that lives
pub record IsWithin (f : Flat) : Type 0 where
  pub segments : (u : ℕ) (s : Segment) → at f.segments u ≡ Some s → length s.words ≤ MOST_WORDS
  pub windows : (u : ℕ) (w : WinRow) (s : Segment) → at f.windows u ≡ Some w → at f.segments w.seg.0 ≡ Some s → w.base + w.len ≤ length s.words

-- a view of code as one of the definitions
abbrev pub as_view : FlatView → View
as_view v = record { seg = v.seg; base = v.base; len = v.len; guard = v.guard }

-- a user of a script asks at most so much
abbrev pub IsShort : UserScript → Type 0
IsShort user = length (requests_of user) ≤ MOST_LINES + 1

-- what a name stands for in a directory that is live and may be looked up
abbrev pub found_in : Flat → Capability → Name → Option Capability
found_in f dir name = if_there (at f.dirs dir.uid) None (λ d. if_holds (has dir Lookup) None (option_map (λ (e : Named). e.cap) (named d name)))

-- a refusal, or else what goes on
abbrev pub unless : Option Refusal → Outcome → Outcome
unless None go = go
unless (Some r) go = refuse r

-- what goes on with what was found, or a refusal
abbrev pub or_refuse : {X : Type 0} → Result X Refusal → (X → Outcome) → Outcome
or_refuse (Ok x) go = go x
or_refuse (Err r) go = refuse r
