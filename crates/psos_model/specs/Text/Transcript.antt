-- The transcript of a run. States docs/program.md, "Output".
use Rattle.std.specs.Prelude.{ℕ, ◌+◌, ◌==◌, if◌then◌else◌, List, [], ◌∷◌, ◌++◌, codes, decimal}
use Rattle.psos_text.specs.declared.name.Name.{Name}
use Rattle.psos_text.specs.Name.{name_text}
use Rattle.psos_text.specs.Hex.{hex4}
use Rattle.psos_calls.specs.declared.kind.Kind.{Kind}
use Rattle.psos_calls.specs.declared.kind.Kind.TheVariants as kinds
use Rattle.psos_calls.specs.declared.right.Right.{Right}
use Rattle.psos_calls.specs.declared.right.Right.TheVariants as rights
use Rattle.psos_calls.specs.declared.tab.Tab.{Tab}
use Rattle.psos_calls.specs.declared.tab.Tab.TheVariants as tabs
use Rattle.psos_calls.specs.declared.refusal.Refusal.{Refusal}
use Rattle.psos_calls.specs.declared.refusal.Refusal.TheVariants as refusals
use Rattle.psos_calls.specs.declared.reply.Reply.{Reply}
use Rattle.psos_calls.specs.declared.reply.Reply.TheVariants as replies
use Rattle.psos_calls.specs.Language.Script.{UserScript, Script}
use Rattle.psos_model.specs.Answer.{Answered}
use Rattle.psos_model.specs.Run.{answers}

abbrev pub kind_text : Kind → List ℕ
kind_text kinds.Segment = codes "segment"
kind_text kinds.Directory = codes "directory"
kind_text kinds.Typ = codes "type"
kind_text kinds.Object = codes "object"
kind_text kinds.Code = codes "code"
kind_text kinds.Process = codes "process"

abbrev pub right_text : Right → List ℕ
right_text rights.Read = codes "read"
right_text rights.Write = codes "write"
right_text rights.Window = codes "window"
right_text rights.Lookup = codes "lookup"
right_text rights.Bind = codes "bind"
right_text rights.Unbind = codes "unbind"
right_text rights.List = codes "list"
right_text rights.Create = codes "create"
right_text rights.Delete = codes "delete"
right_text rights.Make = codes "make"
right_text rights.Impl = codes "impl"
right_text rights.Enter = codes "enter"
right_text rights.Send = codes "send"

abbrev pub tab_text : Tab → List ℕ
tab_text tabs.Objects = codes "objects"
tab_text tabs.Windows = codes "windows"
tab_text tabs.Entries = codes "entries"
tab_text tabs.Mailbox = codes "mailbox"
tab_text tabs.Path = codes "path"
tab_text tabs.Frames = codes "frames"
tab_text tabs.Requests = codes "requests"

abbrev pub refusal_text : Refusal → List ℕ
refusal_text refusals.NotCap = codes "not cap"
refusal_text refusals.NotData = codes "not data"
refusal_text (refusals.Absent kind) = codes "absent " ++ kind_text kind
refusal_text (refusals.Lacks right) = codes "lacks " ++ right_text right
refusal_text (refusals.Guarded bit) = codes "guarded " ++ decimal bit
refusal_text refusals.Range = codes "range"
refusal_text refusals.NameTaken = codes "name taken"
refusal_text refusals.UnknownName = codes "unknown name"
refusal_text refusals.Distinguished = codes "distinguished"
refusal_text refusals.NotDistinguished = codes "not distinguished"
refusal_text refusals.NotEmpty = codes "not empty"
refusal_text (refusals.Exhausted tab) = codes "exhausted " ++ tab_text tab
refusal_text refusals.Empty = codes "empty"
refusal_text refusals.WrongType = codes "wrong type"
refusal_text refusals.Overflow = codes "overflow"

-- each name with a space before it
abbrev pub names_text : List Name → List ℕ
names_text [] = []
names_text (name ∷ names) = 32 ∷ (name_text name ++ names_text names)

abbrev pub reply_text : Reply → List ℕ
reply_text replies.Fine = codes "ok"
reply_text (replies.Data n) = codes "data " ++ decimal n
reply_text (replies.Cap cap) = codes "cap " ++ (decimal cap.uid ++ 32 ∷ hex4 cap.rights)
reply_text (replies.Names names) = codes "names" ++ names_text names
reply_text (replies.No refusal) = codes "no " ++ refusal_text refusal

-- n, or n/m inside of a body
abbrev pub place_text : ℕ → ℕ → List ℕ
place_text n m = if m == 0 then decimal n else decimal n ++ 47 ∷ decimal m

-- @STAMP REPLY
abbrev pub answer_text : ℕ → Reply → List ℕ
answer_text stamp reply = 32 ∷ 64 ∷ (decimal stamp ++ 32 ∷ (reply_text reply ++ 10 ∷ []))

-- USER PLACE @STAMP REPLY
abbrev pub line_text : List ℕ → ℕ → Answered → List ℕ
line_text name stamp a = name ++ 32 ∷ (place_text a.n a.m ++ answer_text stamp a.reply)

-- the lines of user u among those from this stamp on
abbrev pub user_lines : List ℕ → ℕ → ℕ → List Answered → List ℕ
user_lines name u stamp [] = []
user_lines name u stamp (a ∷ rest) = (if a.user == u then line_text name stamp a else []) ++ user_lines name u (stamp + 1) rest

-- each user's lines, user after user, counted from u
abbrev pub users_lines : List UserScript → ℕ → List Answered → List ℕ
users_lines [] u all = []
users_lines (user ∷ users) u all = user_lines user.name u 0 all ++ users_lines users (u + 1) all

-- for each user in the order of the script, that user's lines in their order
abbrev pub transcript : Script → List ℕ → List ℕ
transcript s order = users_lines s.users 0 (answers s order)
