-- Level calls, by how the words of two of them are told. States docs/levels.md, "Calls".
use Rattle.std.specs.Prelude.{List, Option}
use Rattle.psos_words.specs.declared.word.Word.{Word}
use Rattle.psos_calls.specs.declared.level_call.LevelCall.{LevelCall as CallOf}
use Rattle.psos_calls.specs.declared.level_call.LevelCall.TheVariants.{Hold13, Admit, CodeMake, Enter, CodeGone, Post, Draw, Hold11, Room, Enrol, KindOf, Forget, DirAt, DirMake, DirGone, RepOf, TypeAt, TypeMake, ObjMake, Impl, ObjGone, TypeGone, Locate, SlotOf, SegMake, SegGone, WinRoom, WinMake, Length, PageTake, PageDrop, WordGet, WordPut, PageGet, FourPut, Fresh}

-- a call of a level: its words are told as they are
abbrev pub LevelCall : Type 0
LevelCall = CallOf (List Word) (Option Word)

-- the same call, with the words of FourPut and of Locate told in another way
abbrev pub with_words : {F G V W : Type 0} → (F → G) → (V → W) → CallOf F V → CallOf G W
with_words four one Hold13 = Hold13
with_words four one (Admit word) = Admit word
with_words four one (CodeMake uid label link) = CodeMake uid label link
with_words four one (Enter cap) = Enter cap
with_words four one (CodeGone uid) = CodeGone uid
with_words four one (Post to word) = Post to word
with_words four one (Draw uid) = Draw uid
with_words four one Hold11 = Hold11
with_words four one Room = Room
with_words four one (Enrol uid kind) = Enrol uid kind
with_words four one (KindOf uid) = KindOf uid
with_words four one (Forget uid) = Forget uid
with_words four one (DirAt cap right) = DirAt cap right
with_words four one (DirMake uid guard) = DirMake uid guard
with_words four one (DirGone uid) = DirGone uid
with_words four one (RepOf uid) = RepOf uid
with_words four one (TypeAt cap) = TypeAt cap
with_words four one (TypeMake uid) = TypeMake uid
with_words four one (ObjMake uid of rep) = ObjMake uid of rep
with_words four one (Impl of on) = Impl of on
with_words four one (ObjGone uid) = ObjGone uid
with_words four one (TypeGone uid) = TypeGone uid
with_words four one (Locate cap off need word) = Locate cap off need (one word)
with_words four one (SlotOf uid) = SlotOf uid
with_words four one (SegMake uid slot len guard) = SegMake uid slot len guard
with_words four one (SegGone uid) = SegGone uid
with_words four one (WinRoom cap base len) = WinRoom cap base len
with_words four one (WinMake uid cap base len) = WinMake uid cap base len
with_words four one (Length cap) = Length cap
with_words four one PageTake = PageTake
with_words four one (PageDrop slot) = PageDrop slot
with_words four one (WordGet page off) = WordGet page off
with_words four one (WordPut page off word) = WordPut page off word
with_words four one (PageGet page) = PageGet page
with_words four one (FourPut page off words) = FourPut page off (four words)
with_words four one Fresh = Fresh
