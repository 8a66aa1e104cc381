-- What a request does, and the tests that its refusals are written in. States docs/requests.md, "Answers".
use Rattle.std.specs.Prelude.{ℕ, nat_lt, List, [], Option, Some, None}
use Rattle.std.specs.FinMap.{len}
use Rattle.psos_limits.specs.declared.TheConstants.{MOST_OBJECTS, MOST_ENTRIES}
use Rattle.psos_table.specs.Table.{at, size}
use Rattle.psos_caps.specs.Capability.{Capability}
use Rattle.psos_text.specs.declared.name.Name.{Name}
use Rattle.psos_words.specs.declared.word.Word.{Word}
use Rattle.psos_calls.specs.declared.kind.Kind.TheVariants.{Segment, Directory as DirectoryKind}
use Rattle.psos_calls.specs.declared.right.Right.{Right}
use Rattle.psos_calls.specs.declared.right.Right.TheVariants.{Create}
use Rattle.psos_calls.specs.declared.tab.Tab.TheVariants.{Objects, Entries}
use Rattle.psos_calls.specs.declared.refusal.Refusal.{Refusal}
use Rattle.psos_calls.specs.declared.refusal.Refusal.TheVariants.{Absent, Lacks, NameTaken, Exhausted}
use Rattle.psos_calls.specs.declared.reply.Reply.TheVariants.{Fine, No}
use Rattle.psos_calls.specs.declared.effect.Effect.TheVariants.{Nothing, Put}
use Rattle.psos_calls.specs.Language.Rights.{has}
use Rattle.psos_calls.specs.Language.Tests.{if_there, if_none, if_holds}
use Rattle.psos_calls.specs.Language.Replies.{word_reply}
use Rattle.psos_calls.specs.Language.Views.{View}
use Rattle.psos_model.specs.declared.place.Place.{Place}
use Rattle.psos_model.specs.Flat.{Flat, Directory, flat_view, named}
use Rattle.psos_model.specs.declared.change.Change.{Change}
use Rattle.psos_model.specs.declared.source.Source as source
use Rattle.psos_model.specs.declared.outcome.Outcome as outcome

-- the place that a request read, and the right by which its user could read it; none for private places and the own mailbox
abbrev pub Source : Type 0
Source = source.Source

-- what a request does: changes of what users share, one effect on its user's own part, the place that it read, if any, and the reply
abbrev pub Outcome : Type 0
Outcome = outcome.Outcome

-- a refusal does nothing
abbrev pub refuse : Refusal → Outcome
refuse r = record { changes = []; effect = Nothing; source = None; reply = No r }

-- a word goes into a register, and is the reply
abbrev pub gives : List Change → ℕ → Word → Option Source → Outcome
gives changes rd w source = record { changes = changes; effect = Put rd w; source = source; reply = word_reply w }

-- changes alone
abbrev pub does : List Change → Option Source → Outcome
does changes source = record { changes = changes; effect = Nothing; source = source; reply = Fine }

-- read from a place by a right, or from a private place
abbrev pub by : Place → Right → Option Source
by place right = Some (record { place = place; by = Some right })

abbrev pub own : Place → Option Source
own place = Some (record { place = place; by = None })

-- ---- tests that several requests have

-- the capability names words, with this right on them
abbrev pub if_view : Flat → Capability → Right → (View → Outcome) → Outcome
if_view f cap right go =
    if_there (flat_view f cap.uid) (refuse (Absent Segment)) (λ v.
    if_holds (has cap right) (refuse (Lacks right)) (
    go v))

-- the capability names a directory, with this right on it
abbrev pub if_dir : Flat → Capability → Right → (Directory → Outcome) → Outcome
if_dir f cap right go =
    if_there (at f.dirs cap.uid) (refuse (Absent DirectoryKind)) (λ d.
    if_holds (has cap right) (refuse (Lacks right)) (
    go d))

-- the name is new in the directory, and one more entry fits
abbrev pub if_room : Directory → Name → Outcome → Outcome
if_room d name go =
    if_none (named d name) (λ _. refuse NameTaken) (
    if_holds (nat_lt (len d.names) MOST_ENTRIES) (refuse (Exhausted Entries)) go)

-- one more user object fits
abbrev pub if_object_room : Flat → Outcome → Outcome
if_object_room f go = if_holds (nat_lt (size f.life) MOST_OBJECTS) (refuse (Exhausted Objects)) go

-- room for an object, and for its entry in a directory by a capability with the right create
abbrev pub make_in : Flat → Capability → Name → Outcome → Outcome
make_in f dir name go = if_object_room f (if_dir f dir Create (λ d. if_room d name go))
