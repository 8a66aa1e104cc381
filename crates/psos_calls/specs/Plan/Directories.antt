-- Plans of directories and name spaces. States docs/requests.md, "Plans".
use Rattle.std.specs.Prelude.{ℕ, false, List, [], ◌∷◌, not, nat_lt, length}
use Rattle.psos_limits.specs.declared.TheConstants.{MOST_PATH}
use Rattle.psos_caps.specs.Capability.{Capability}
use Rattle.psos_words.specs.declared.word.Word.{Word}
use Rattle.psos_words.specs.declared.word.Word.TheVariants as words
use Rattle.psos_words.specs.Words.{word_at}
use Rattle.psos_words.specs.Guard.{barred}
use Rattle.psos_words.specs.Directory.{find, entries_in, entry_words, gone_words}
use Rattle.psos_text.specs.declared.name.Name.{Name}
use Rattle.psos_calls.specs.declared.right.Right.TheVariants as rights
use Rattle.psos_calls.specs.declared.tab.Tab.TheVariants.{Path}
use Rattle.psos_calls.specs.declared.refusal.Refusal.TheVariants.{NotCap, Guarded, UnknownName, Distinguished, Exhausted}
use Rattle.psos_calls.specs.declared.reply.Reply.TheVariants as replies
use Rattle.psos_calls.specs.declared.effect.Effect.TheVariants.{Nothing, Push}
use Rattle.psos_calls.specs.Levels.Answers.{LevelAnswer}
use Rattle.psos_calls.specs.declared.level_answer.LevelAnswer.TheVariants.{Guard}
use Rattle.psos_calls.specs.declared.level_call.LevelCall.TheVariants.{DirAt}
use Rattle.psos_calls.specs.Language.Tests.{if_there, if_none, if_cap, if_holds}
use Rattle.psos_calls.specs.Language.Names.{names_of}
use Rattle.psos_calls.specs.Plan.{Plan, Close, Ask, refuse, give, if_guard}
use Rattle.psos_calls.specs.Plan.Parts.{open_dir, read_dir, put_slot, if_room, fine}

abbrev pub plan_lookup : List Word → ℕ → ℕ → Name → Plan
plan_lookup r rd rs name =
    if_cap (word_at r rs) (refuse NotCap) (λ cap.
    open_dir cap rights.Lookup (λ guard d.
    if_there (find d.slots name) (refuse UnknownName) (λ found.
    give rd (words.Cap found.entry.cap))))

-- the guard is tried between the call for it and the next
abbrev pub plan_bind : List Word → ℕ → Name → ℕ → Plan
plan_bind r rs name rv =
    if_cap (word_at r rs) (refuse NotCap) (λ cap.
    if_cap (word_at r rv) (refuse NotCap) (λ value.
    Ask (DirAt cap rights.Bind) (λ a. if_guard a (λ guard.
    if_none (barred guard (words.Cap value)) (λ b. refuse (Guarded b)) (
    read_dir cap.uid (λ d.
    if_room d name (λ k.
    put_slot d k (entry_words name value false) fine)))))))

abbrev pub plan_unbind : List Word → ℕ → Name → Plan
plan_unbind r rs name =
    if_cap (word_at r rs) (refuse NotCap) (λ cap.
    open_dir cap rights.Unbind (λ guard d.
    if_there (find d.slots name) (refuse UnknownName) (λ found.
    if_holds (not found.entry.kept) (refuse Distinguished) (
    put_slot d found.slot gone_words fine))))

abbrev pub plan_list : List Word → ℕ → Plan
plan_list r rs =
    if_cap (word_at r rs) (refuse NotCap) (λ cap.
    open_dir cap rights.List (λ guard d.
    Close (replies.Names (names_of (entries_in d.slots))) Nothing))

abbrev pub plan_path : List Word → List Capability → ℕ → Plan
plan_path r path rs =
    if_cap (word_at r rs) (refuse NotCap) (λ cap.
    if_holds (nat_lt (length path) MOST_PATH) (refuse (Exhausted Path)) (
    Ask (DirAt cap rights.Lookup) (λ a. if_guard a (λ guard.
    Close replies.Fine (Push cap)))))

-- a directory that may be looked up is read; past one that may not
abbrev pub if_may_look : LevelAnswer → Plan → Plan → Plan
if_may_look (Guard guard) next go = go
if_may_look _ next go = next

abbrev pub plan_find : List Capability → ℕ → Name → Plan
plan_find [] rd name = refuse UnknownName
plan_find (dir ∷ rest) rd name =
    Ask (DirAt dir rights.Lookup) (λ a. if_may_look a (plan_find rest rd name) (
    read_dir dir.uid (λ d.
    if_there (find d.slots name) (plan_find rest rd name) (λ found.
    give rd (words.Cap found.entry.cap)))))
