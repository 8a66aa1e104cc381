-- What several plans share: opening a directory, and making a user object. States docs/requests.md, "Plans".
use Rattle.std.specs.Prelude.{ℕ, zero, suc, ◌+◌, ◌*◌, ◌/◌, ◌%◌, true, List, [], ◌++◌, if◌then◌else◌}
use Rattle.psos_caps.specs.Capability.{Capability}
use Rattle.psos_words.specs.declared.word.Word.{Word}
use Rattle.psos_words.specs.declared.word.Word.TheVariants.{Cap}
use Rattle.psos_words.specs.Directory.{Slot, decode, has_never, find, slot_for, entry_words}
use Rattle.psos_text.specs.declared.name.Name.{Name}
use Rattle.psos_calls.specs.declared.kind.Kind.{Kind}
use Rattle.psos_calls.specs.declared.right.Right.{Right}
use Rattle.psos_calls.specs.declared.right.Right.TheVariants.{Create}
use Rattle.psos_calls.specs.declared.tab.Tab.TheVariants.{Entries}
use Rattle.psos_calls.specs.declared.refusal.Refusal.TheVariants.{Range, NameTaken, Exhausted}
use Rattle.psos_calls.specs.declared.reply.Reply.TheVariants as replies
use Rattle.psos_calls.specs.declared.effect.Effect.TheVariants.{Nothing}
use Rattle.psos_calls.specs.declared.level_call.LevelCall.TheVariants.{DirAt, RepOf, SlotOf, PageGet, FourPut, Room, Enrol, Fresh}
use Rattle.psos_calls.specs.Language.Tests.{if_there, if_none}
use Rattle.psos_calls.specs.Plan.{Plan, Close, Ask, refuse, give, if_done, if_guard, if_rep, if_slot, if_page, if_new}
use Rattle.psos_calls.specs.Language.Capabilities.{uid}

-- ---- a directory is opened

-- the slot of its representation's pages, and its entry slots
pub record Opened : Type 0 where
  pub slot : ℕ
  pub slots : List Slot

-- the words that were read are its entry slots. (They always are.)
abbrev pub opened : ℕ → List Word → (Opened → Plan) → Plan
opened slot words go = if_there (decode words) (refuse Range) (λ slots. go (record { slot = slot; slots = slots }))

-- at most so many pages more, from page k on, up to the first with a slot that was never used
abbrev pub read_pages : ℕ → ℕ → ℕ → List Word → (Opened → Plan) → Plan
read_pages zero slot k words go = opened slot words go
read_pages (suc n) slot k words go =
    Ask (PageGet (8 * slot + k)) (λ a. if_page a (λ page.
    if has_never page then opened slot (words ++ page) go else read_pages n slot (k + 1) (words ++ page) go))

-- the pages of a representation
abbrev pub read_rep : ℕ → (Opened → Plan) → Plan
read_rep rep go = Ask (SlotOf (uid rep)) (λ a. if_slot a (λ slot. read_pages 8 slot 0 [] go))

-- the entry slots of a directory that is live
abbrev pub read_dir : ℕ → (Opened → Plan) → Plan
read_dir dir go = Ask (RepOf (uid dir)) (λ a. if_rep a (λ rep. read_rep rep go))

-- a directory by a capability with this right: its guard and its entry slots
abbrev pub open_dir : Capability → Right → (ℕ → Opened → Plan) → Plan
open_dir cap right go = Ask (DirAt cap right) (λ a. if_guard a (λ guard. read_dir cap.uid (λ d. go guard d)))

-- ---- an entry is written

-- four words go into an entry slot of the directory
abbrev pub put_slot : Opened → ℕ → List Word → Plan → Plan
put_slot d k words go = Ask (FourPut (8 * d.slot + k / 16) (4 * (k % 16)) words) (λ a. if_done a go)

-- the name is new and a slot is not used
abbrev pub if_room : Opened → Name → (ℕ → Plan) → Plan
if_room d name go = if_none (find d.slots name) (λ _. refuse NameTaken) (if_there (slot_for d.slots) (refuse (Exhausted Entries)) go)

-- ---- a user object is made

-- a new identifier
abbrev pub with_fresh : (Capability → Plan) → Plan
with_fresh go = Ask Fresh (λ a. if_new a go)

-- the object is enrolled, and its distinguished entry is written
abbrev pub enrolled : Opened → ℕ → Name → Kind → Capability → ℕ → Plan
enrolled d k name kind new rd =
    Ask (Enrol (uid new.uid) kind) (λ a. if_done a (
    put_slot d k (entry_words name new true) (give rd (Cap new))))

-- there is room for one more object
abbrev pub if_object_room : Plan → Plan
if_object_room go = Ask Room (λ a. if_done a go)

-- room for an object, and for its entry in a directory by a capability with the right create
abbrev pub make_in : Capability → Name → (Opened → ℕ → Plan) → Plan
make_in dir name go = if_object_room (open_dir dir Create (λ guard d. if_room d name (λ k. go d k)))

-- it was done
abbrev pub fine : Plan
fine = Close replies.Fine Nothing
