-- Plans of user objects. States docs/requests.md, "Plans".
use Rattle.std.specs.Prelude.{ℕ, Bool, true, false, Some, None, List, [], ◌∷◌}
use Rattle.psos_limits.specs.declared.TheConstants.{MOST_WORDS}
use Rattle.psos_caps.specs.declared.rights.Rights.{Rights}
use Rattle.psos_words.specs.declared.word.Word.{Word}
use Rattle.psos_words.specs.Words.{word_at}
use Rattle.psos_words.specs.Directory.{Entry, find, entries_in, gone_words}
use Rattle.psos_text.specs.declared.name.Name.{Name}
use Rattle.psos_calls.specs.declared.kind.Kind.{Kind}
use Rattle.psos_calls.specs.declared.kind.Kind.TheVariants as kinds
use Rattle.psos_calls.specs.declared.right.Right.TheVariants as rights
use Rattle.psos_calls.specs.declared.refusal.Refusal.TheVariants.{NotCap, Range, UnknownName, NotDistinguished, NotEmpty}
use Rattle.psos_calls.specs.declared.level_call.LevelCall.TheVariants.{Hold13, Admit, CodeMake, CodeGone, Hold11, KindOf, Forget, DirAt, DirMake, DirGone, RepOf, TypeAt, TypeMake, ObjMake, Impl, ObjGone, TypeGone, SegMake, SegGone, PageTake, PageDrop}
use Rattle.psos_calls.specs.Language.Tests.{if_there, if_cap, if_holds}
use Rattle.psos_calls.specs.Plan.{Plan, Ask, refuse, give, if_done, if_got, if_kind, if_guard, if_rep, if_slot}
use Rattle.psos_calls.specs.Language.Capabilities.{uid}
use Rattle.psos_calls.specs.Plan.Parts.{Opened, open_dir, read_dir, read_rep, put_slot, if_room, with_fresh, enrolled, if_object_room, make_in, fine}
use Rattle.psos_calls.specs.Language.Stores.{guard_of, is_length}

abbrev pub plan_impl : List Word → ℕ → ℕ → ℕ → Plan
plan_impl r rd rt ro =
    if_cap (word_at r rt) (refuse NotCap) (λ of.
    if_cap (word_at r ro) (refuse NotCap) (λ on.
    Ask (Impl of on) (λ a. if_got a (λ w. give rd w))))

-- a slot is taken, and a segment is made in it
abbrev pub with_segment : ℕ → ℕ → Rights → Plan → Plan
with_segment u len guard go =
    Ask PageTake (λ a. if_slot a (λ slot.
    Ask (SegMake (uid u) slot len guard) (λ b. if_done b go)))

abbrev pub plan_mkseg : List Word → ℕ → ℕ → Name → ℕ → ℕ → Plan
plan_mkseg r rd rs name len g =
    if_cap (word_at r rs) (refuse NotCap) (λ dir.
    if_holds (is_length len) (refuse Range) (
    make_in dir name (λ d k.
    with_fresh (λ new.
    with_segment new.uid len (guard_of g) (
    enrolled d k name kinds.Segment new rd)))))

abbrev pub plan_mkdir : List Word → ℕ → ℕ → Name → ℕ → Plan
plan_mkdir r rd rs name g =
    if_cap (word_at r rs) (refuse NotCap) (λ dir.
    make_in dir name (λ d k.
    with_fresh (λ new. with_fresh (λ rep.
    with_segment rep.uid MOST_WORDS (guard_of g) (
    Ask (ObjMake (uid new.uid) None rep) (λ a. if_done a (
    Ask (DirMake (uid new.uid) (guard_of g)) (λ b. if_done b (
    enrolled d k name kinds.Directory new rd)))))))))

abbrev pub plan_mktype : List Word → ℕ → ℕ → Name → Plan
plan_mktype r rd rs name =
    if_cap (word_at r rs) (refuse NotCap) (λ dir.
    make_in dir name (λ d k.
    with_fresh (λ new.
    Ask (TypeMake (uid new.uid)) (λ a. if_done a (
    enrolled d k name kinds.Typ new rd)))))

-- the type is looked at between the call for the directory's representation and the one for its slot
abbrev pub plan_mkobj : List Word → ℕ → ℕ → ℕ → Name → ℕ → Plan
plan_mkobj r rd rt rs name len =
    if_cap (word_at r rt) (refuse NotCap) (λ of.
    if_cap (word_at r rs) (refuse NotCap) (λ dir.
    if_holds (is_length len) (refuse Range) (
    if_object_room (
    Ask (DirAt dir rights.Create) (λ a. if_guard a (λ guard.
    Ask (RepOf (uid dir.uid)) (λ b. if_rep b (λ dir_rep.
    Ask (TypeAt of) (λ c. if_done c (
    read_rep dir_rep (λ d. if_room d name (λ k.
    with_fresh (λ new. with_fresh (λ rep.
    with_segment rep.uid len (record { 0 = 1 }) (
    Ask (ObjMake (uid new.uid) (Some (uid of.uid)) rep) (λ e. if_done e (
    enrolled d k name kinds.Object new rd)))))))))))))))))

abbrev pub plan_mkcode : List Word → ℕ → ℕ → Name → ℕ → ℕ → Plan
plan_mkcode r rd rs name label rl =
    if_cap (word_at r rs) (refuse NotCap) (λ dir.
    Ask (Admit (word_at r rl)) (λ a. if_done a (
    make_in dir name (λ d k.
    with_fresh (λ new.
    Ask (CodeMake (uid new.uid) label (word_at r rl)) (λ b. if_done b (
    enrolled d k name kinds.Code new rd)))))))

-- ---- delete

-- a segment goes, and its slot is freed
abbrev pub drop_segment : ℕ → Plan → Plan
drop_segment u go = Ask (SegGone (uid u)) (λ a. if_slot a (λ slot. Ask (PageDrop slot) (λ b. if_done b go)))

-- an object or a directory goes from level 9, and its representation with it
abbrev pub drop_object : ℕ → Plan → Plan
drop_object u go = Ask (ObjGone (uid u)) (λ a. if_rep a (λ rep. drop_segment rep go))

abbrev pub no_entry : List Entry → Bool
no_entry [] = true
no_entry (e ∷ rest) = false

-- a directory has no entry
abbrev pub is_empty : Opened → Bool
is_empty d = no_entry (entries_in d.slots)

-- what goes with a thing of this kind
abbrev pub drop_kind : Kind → ℕ → Plan → Plan
drop_kind kinds.Segment u go = drop_segment u go
drop_kind kinds.Directory u go =
    read_dir u (λ inner. if_holds (is_empty inner) (refuse NotEmpty) (
    Ask (DirGone (uid u)) (λ a. if_done a (drop_object u go))))
drop_kind kinds.Typ u go = Ask (TypeGone (uid u)) (λ a. if_done a go)
drop_kind kinds.Object u go = drop_object u go
drop_kind kinds.Code u go = Ask (CodeGone (uid u)) (λ a. if_done a go)
drop_kind kinds.Process u go = refuse NotDistinguished

abbrev pub plan_delete : List Word → ℕ → Name → Plan
plan_delete r rs name =
    if_cap (word_at r rs) (refuse NotCap) (λ dir.
    Ask Hold13 (λ a. if_done a (
    Ask Hold11 (λ b. if_done b (
    open_dir dir rights.Delete (λ guard d.
    if_there (find d.slots name) (refuse UnknownName) (λ found.
    if_holds found.entry.kept (refuse NotDistinguished) (
    Ask (KindOf (uid found.entry.cap.uid)) (λ c. if_kind c (λ kind.
    drop_kind kind found.entry.cap.uid (
    Ask (Forget (uid found.entry.cap.uid)) (λ e. if_done e (
    put_slot d found.slot gone_words fine)))))))))))))
