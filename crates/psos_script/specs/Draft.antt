-- What the lines so far say, as the reader keeps it. Nothing of it stands in a public clause.
use Rattle.std.specs.Prelude.{◌≡◌, ℕ, ◌+◌, ◌==◌, if◌then◌else◌, List, [], ◌∷◌, ◌++◌, length, get_or, map, Option, Some, None, option_map, Result, Ok, Err}
use Rattle.psos_text.specs.Name.{name_text}
use Rattle.psos_text.specs.Lines.{words_of}
use Rattle.psos_calls.specs.declared.request.Request.{Request}
use Rattle.psos_calls.specs.Language.Script.{CodeBlock, UserScript, Script}
use Rattle.psos_model.specs.Text.Operands.{Text}
use Rattle.psos_script.specs.Table.{head_of}
use Rattle.psos_script.specs.Fault.{Seen, line_cause, end_cause, at_line}
use Rattle.psos_script.specs.Values.{row_of}
use Rattle.psos_script.specs.declared.draft.Draft.{Draft}
use Rattle.psos_script.specs.declared.unfinished.Unfinished.{Unfinished}
use Rattle.psos_script.specs.declared.unfinished.Unfinished.TheVariants.{Nothing, Body, Asking}
use Rattle.psos_script.specs.declared.line_fault.LineFault.{LineFault}
use Rattle.psos_script.specs.declared.line_fault.LineFault.TheVariants as F
use Rattle.psos_script.specs.declared.cause.Cause.{Cause}
use Rattle.psos_script.specs.declared.section.Section.{Section}
use Rattle.psos_script.specs.declared.section.Section.TheVariants.{Outside, InBody, InUser}
use Rattle.psos_script.specs.declared.head.Head.{Head}
use Rattle.psos_script.specs.declared.head.Head.TheVariants as H

-- what is not finished: a block, or a user with the phases before the last, the requests of the last and the count of lines
pub data Pending : Type 0 where
  NonePending : Pending
  BodyPending : Text → List Request → Pending
  UserPending : Text → List (List Request) → List Request → ℕ → Pending

-- the labels and names so far, the blocks and users that are finished, and what is not
pub record Read : Type 0 where
  pub labels : List Text
  pub codes : List CodeBlock
  pub names : List Text
  pub users : List UserScript
  pub now : Pending

abbrev pub pending : Unfinished → Pending
pending Nothing = NonePending
pending (Body label body) = BodyPending (name_text label) body.items
pending (Asking name phases requests count) = UserPending (name_text name) (map (λ p. p.items) phases.items) requests.items count

-- the draft as plain lists
abbrev pub read : Draft → Read
read d = record { labels = d.labels; codes = d.codes.items; names = d.names; users = d.users.items; now = pending d.unfinished }

abbrev pub section_in : Pending → Section
section_in NonePending = Outside
section_in (BodyPending label body) = InBody
section_in (UserPending name phases requests count) = InUser

abbrev pub count_in : Pending → ℕ
count_in NonePending = 0
count_in (BodyPending label body) = length body
count_in (UserPending name phases requests count) = count

-- all that the fault of the next line depends on
abbrev pub seen_in : Read → Seen
seen_in d = record { section = section_in d.now; labels = d.labels; names = d.names; count = count_in d.now }

-- ---- one line more

-- the block that is unfinished
abbrev pub pending_codes : Pending → List CodeBlock
pending_codes NonePending = []
pending_codes (BodyPending label body) = record { label = label; body = body } ∷ []
pending_codes (UserPending name phases requests count) = []

-- the user that is unfinished
abbrev pub pending_users : Pending → List UserScript
pending_users NonePending = []
pending_users (BodyPending label body) = []
pending_users (UserPending name phases requests count) = record { name = name; phases = phases ++ requests ∷ [] } ∷ []

-- what is unfinished is finished
abbrev pub closed : Read → Read
closed d = record { labels = d.labels; codes = d.codes ++ pending_codes d.now; names = d.names; users = d.users ++ pending_users d.now; now = NonePending }

-- one request more
abbrev pub added : Pending → Request → Pending
added NonePending r = NonePending
added (BodyPending label body) r = BodyPending label (body ++ r ∷ [])
added (UserPending name phases requests count) r = UserPending name phases (requests ++ r ∷ []) (count + 1)

-- one phase more
abbrev pub phased : Pending → Pending
phased NonePending = NonePending
phased (BodyPending label body) = BodyPending label body
phased (UserPending name phases requests count) = UserPending name (phases ++ requests ∷ []) [] (count + 1)

-- the request of a row, where there is one
abbrev pub added_row : Pending → Result Request Cause → Pending
added_row o (Ok r) = added o r
added_row o (Err c) = o

-- something else is unfinished
abbrev pub with_now : Read → Pending → Read
with_now d o = record { labels = d.labels; codes = d.codes; names = d.names; users = d.users; now = o }

-- a block is finished
abbrev pub with_block : Read → Text → List Request → Read
with_block d label body = record { labels = d.labels; codes = d.codes ++ record { label = label; body = body } ∷ []; names = d.names; users = d.users; now = d.now }

-- a user is finished
abbrev pub with_asker : Read → Text → List (List Request) → Read
with_asker d name phases = record { labels = d.labels; codes = d.codes; names = d.names; users = d.users ++ record { name = name; phases = phases } ∷ []; now = d.now }

-- a block begins
abbrev pub with_code : Read → Text → Read
with_code d label = record { labels = d.labels ++ label ∷ []; codes = d.codes; names = d.names; users = d.users; now = BodyPending label [] }

-- a user begins
abbrev pub with_user : Read → Text → Read
with_user d name = record { labels = d.labels; codes = d.codes; names = d.names ++ name ∷ []; users = d.users; now = UserPending name [] [] 0 }

-- after a line without a fault that has this first word
abbrev pub taken : Read → Head → List Text → Read
taken d H.Code ws = with_code d (get_or ws 0 [])
taken d H.User ws = with_user (closed d) (get_or ws 0 [])
taken d H.End ws = closed d
taken d H.Phase ws = with_now d (phased d.now)
taken d (H.Asks v) ws = with_now d (added_row d.now (row_of d.labels v ws))

abbrev pub after_headed : Read → Option Head → List Text → Read
after_headed d None ws = d
after_headed d (Some h) ws = taken d h ws

-- after a line without a fault
abbrev pub after_line : Read → List Text → Read
after_line d [] = d
after_line d (w ∷ ws) = if get_or w 0 0 == 35 then d else after_headed d (head_of w) ws

-- ---- all lines

-- before the first line
abbrev pub nothing_read : Read
nothing_read = record { labels = []; codes = []; names = []; users = []; now = NonePending }

-- the first fault of the lines that are left
abbrev pub fault_after : ℕ → Read → List (List ℕ) → Option (ℕ × Cause)
fault_after n d [] = option_map (λ c. (n, c)) (end_cause (seen_in d))
fault_after n d (line ∷ lines) = at_line n (line_cause (seen_in d) line) (fault_after (n + 1) (after_line d (words_of line)) lines)

-- the first line, and the lines after it
abbrev pub first_line : List (List ℕ) → Option (List ℕ × List (List ℕ))
first_line [] = None
first_line (l ∷ ls) = Some (l, ls)

-- what is read of them all
abbrev pub read_after : Read → List (List ℕ) → Read
read_after d [] = d
read_after d (line ∷ lines) = read_after (after_line d (words_of line)) lines

-- the script that is read
abbrev pub script_of : Read → Script
script_of d = record { users = (closed d).users; codes = (closed d).codes }

-- the script that the lines of bytes without a fault say
unfoldable pub script_in : List (List ℕ) → Script
script_in lines = script_of (read_after nothing_read lines)

-- ---- what the code answers

-- why a line is not taken: for a cause that the line has, or for want of memory
abbrev pub Fails : Option Cause → LineFault → Type 0
Fails cause (F.Cause c) = cause ≡ Some c
Fails cause F.Memory = Unit {0}

-- a line without a cause is taken
abbrev pub Reads : Option Cause → Read → Result (Unit {0}) LineFault → Read → Type 0
Reads cause after (Ok u) now = (cause ≡ None) × (now ≡ after)
Reads cause after (Err e) now = Fails cause e
