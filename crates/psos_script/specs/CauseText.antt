-- How causes are printed. States docs/program.md, "Faults".
use Rattle.std.specs.Prelude.{◌++◌, codes}
use Rattle.psos_model.specs.Text.Operands.{Text}
use Rattle.psos_script.specs.declared.class.Class.{Class}
use Rattle.psos_script.specs.declared.class.Class.TheVariants.{Register, Number, Hex, Name, Label, Guard}
use Rattle.psos_script.specs.declared.cause.Cause.{Cause}
use Rattle.psos_script.specs.declared.cause.Cause.TheVariants as C

-- the name of a class
abbrev pub class_text : Class → Text
class_text Register = codes "register"
class_text Number = codes "number"
class_text Hex = codes "hex"
class_text Name = codes "name"
class_text Label = codes "label"
class_text Guard = codes "guard"

-- the text of a cause
abbrev pub cause_text : Cause → Text
cause_text C.InputTooLong = codes "input too long"
cause_text C.LineTooLong = codes "line too long"
cause_text C.BadByte = codes "bad byte"
cause_text C.UnknownWord = codes "unknown word"
cause_text C.Outside = codes "outside"
cause_text C.NoEnd = codes "no end"
cause_text C.CodeAfterUser = codes "code after user"
cause_text (C.Missing class) = class_text class ++ codes " missing"
cause_text (C.Wrong class) = class_text class ++ codes " wrong"
cause_text C.TooManyWords = codes "too many words"
cause_text C.UserTwice = codes "user twice"
cause_text C.LabelTwice = codes "label twice"
cause_text C.UnknownLabel = codes "unknown label"
cause_text C.EmptyCode = codes "empty code"
cause_text C.TooManyUsers = codes "too many users"
cause_text C.TooManyCodes = codes "too many codes"
cause_text C.TooManyLines = codes "too many lines"
cause_text C.NoUser = codes "no user"
