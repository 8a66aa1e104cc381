-- The words that begin lines, and the classes of their operands. States docs/program.md, "Scripts".
use Rattle.std.specs.Prelude.{if◌then◌else◌, List, [], ◌∷◌, codes, Option, Some, None}
use Rattle.std.specs.Str.{bytes_eq}
use Rattle.psos_model.specs.Text.Operands.{Text}
use Rattle.psos_script.specs.declared.class.Class.{Class}
use Rattle.psos_script.specs.declared.class.Class.TheVariants.{Register, Number, Hex, Name, Label, Guard}
use Rattle.psos_script.specs.declared.verb.Verb.{Verb}
use Rattle.psos_script.specs.declared.verb.Verb.TheVariants as V
use Rattle.psos_script.specs.declared.head.Head.{Head}
use Rattle.psos_script.specs.declared.head.Head.TheVariants.{Code, End, User, Phase, Asks}

-- the names of the requests
abbrev pub verb_text : Verb → Text
verb_text V.Mint = codes "mint"
verb_text V.Restrict = codes "restrict"
verb_text V.Set = codes "set"
verb_text V.Move = codes "move"
verb_text V.Add = codes "add"
verb_text V.Read = codes "read"
verb_text V.Write = codes "write"
verb_text V.Window = codes "window"
verb_text V.Length = codes "length"
verb_text V.Lookup = codes "lookup"
verb_text V.Bind = codes "bind"
verb_text V.Unbind = codes "unbind"
verb_text V.List = codes "list"
verb_text V.Impl = codes "impl"
verb_text V.MkSeg = codes "mkseg"
verb_text V.MkDir = codes "mkdir"
verb_text V.MkType = codes "mktype"
verb_text V.MkObj = codes "mkobj"
verb_text V.MkCode = codes "mkcode"
verb_text V.Delete = codes "delete"
verb_text V.Send = codes "send"
verb_text V.Recv = codes "recv"
verb_text V.Call = codes "call"
verb_text V.Path = codes "path"
verb_text V.Find = codes "find"

-- the words that begin lines
abbrev pub head_text : Head → Text
head_text Code = codes "code"
head_text End = codes "end"
head_text User = codes "user"
head_text Phase = codes "phase"
head_text (Asks v) = verb_text v

-- every word that may begin a line
abbrev pub heads : List Head
heads = Code ∷ End ∷ User ∷ Phase ∷ Asks V.Mint ∷ Asks V.Restrict ∷ Asks V.Set ∷ Asks V.Move ∷ Asks V.Add ∷ Asks V.Read ∷ Asks V.Write ∷ Asks V.Window ∷ Asks V.Length ∷ Asks V.Lookup ∷ Asks V.Bind ∷ Asks V.Unbind ∷ Asks V.List ∷ Asks V.Impl ∷ Asks V.MkSeg ∷ Asks V.MkDir ∷ Asks V.MkType ∷ Asks V.MkObj ∷ Asks V.MkCode ∷ Asks V.Delete ∷ Asks V.Send ∷ Asks V.Recv ∷ Asks V.Call ∷ Asks V.Path ∷ Asks V.Find ∷ []

-- the first of these heads that the word is
abbrev pub head_among : List Head → Text → Option Head
head_among [] w = None
head_among (h ∷ hs) w = if bytes_eq w (head_text h) then Some h else head_among hs w

-- what a first word says, if it begins a line
unfoldable pub head_of : Text → Option Head
head_of w = head_among heads w

-- the operands of a request, from left to right
abbrev pub verb_classes : Verb → List Class
verb_classes V.Mint = Register ∷ []
verb_classes V.Restrict = Register ∷ Register ∷ Hex ∷ []
verb_classes V.Set = Register ∷ Number ∷ []
verb_classes V.Move = Register ∷ Register ∷ []
verb_classes V.Add = Register ∷ Register ∷ Register ∷ []
verb_classes V.Read = Register ∷ Register ∷ Number ∷ []
verb_classes V.Write = Register ∷ Number ∷ Register ∷ []
verb_classes V.Window = Register ∷ Register ∷ Number ∷ Number ∷ []
verb_classes V.Length = Register ∷ Register ∷ []
verb_classes V.Lookup = Register ∷ Register ∷ Name ∷ []
verb_classes V.Bind = Register ∷ Name ∷ Register ∷ []
verb_classes V.Unbind = Register ∷ Name ∷ []
verb_classes V.List = Register ∷ []
verb_classes V.Impl = Register ∷ Register ∷ Register ∷ []
verb_classes V.MkSeg = Register ∷ Register ∷ Name ∷ Number ∷ Guard ∷ []
verb_classes V.MkDir = Register ∷ Register ∷ Name ∷ Guard ∷ []
verb_classes V.MkType = Register ∷ Register ∷ Name ∷ []
verb_classes V.MkObj = Register ∷ Register ∷ Register ∷ Name ∷ Number ∷ []
verb_classes V.MkCode = Register ∷ Register ∷ Name ∷ Label ∷ Register ∷ []
verb_classes V.Delete = Register ∷ Name ∷ []
verb_classes V.Send = Register ∷ Register ∷ []
verb_classes V.Recv = Register ∷ []
verb_classes V.Call = Register ∷ []
verb_classes V.Path = Register ∷ []
verb_classes V.Find = Register ∷ Name ∷ []

-- the operands of a line
abbrev pub classes : Head → List Class
classes Code = Label ∷ []
classes End = []
classes User = Name ∷ []
classes Phase = []
classes (Asks v) = verb_classes v
