-- The values of a request's operands, and the request that has them.
use Rattle.std.specs.Prelude.{ℕ, if◌then◌else◌, nat_lt, List, [], ◌∷◌, length, Option, Some, None, Result, Ok, Err, decimal}
use Rattle.std.specs.List.{position_or_len}
use Rattle.std.specs.Str.{bytes_eq}
use Rattle.psos_caps.specs.declared.rights.Rights.{Rights}
use Rattle.psos_text.specs.declared.name.Name.{Name as NameValue}
use Rattle.psos_text.specs.Name.{is_name, name_text, name_of}
use Rattle.psos_text.specs.Number.{number_of}
use Rattle.psos_text.specs.Hex.{hex4, hex_of}
use Rattle.psos_calls.specs.declared.request.Request.{Request}
use Rattle.psos_calls.specs.declared.request.Request.TheVariants as R
use Rattle.psos_model.specs.Text.Operands.{Text, register_text, guard_text}
use Rattle.psos_script.specs.Operands.{register_of, guard_of}
use Rattle.psos_script.specs.Table.{verb_classes}
use Rattle.psos_script.specs.declared.class.Class.{Class}
use Rattle.psos_script.specs.declared.class.Class.TheVariants.{Register, Number, Hex, Name, Label, Guard}
use Rattle.psos_script.specs.declared.cause.Cause.{Cause}
use Rattle.psos_script.specs.declared.cause.Cause.TheVariants as C
use Rattle.psos_script.specs.declared.verb.Verb.{Verb}
use Rattle.psos_script.specs.declared.verb.Verb.TheVariants as V

-- the value of an operand
abbrev pub Value : Class → Type 0
Value Register = ℕ
Value Number = ℕ
Value Hex = ℕ
Value Name = NameValue
Value Label = Text
Value Guard = ℕ

-- the values of operands, from left to right
abbrev pub Values : List Class → Type 0
Values [] = Unit {0}
Values (c ∷ cs) = Value c × Values cs

-- the value that a word spells
unfoldable pub value_of : (c : Class) → Text → Option (Value c)
value_of Register w = register_of w
value_of Number w = number_of w
value_of Hex w = hex_of w
value_of Name w = if is_name w then Some (name_of w) else None
value_of Label w = if is_name w then Some w else None
value_of Guard w = guard_of w

infixl 10 ◌>>=◌
-- one reading after another; the first cause stays
abbrev pub ◌>>=◌ : {A B : Type 0} → Result A Cause → (A → Result B Cause) → Result B Cause
(Ok a) >>= f = f a
(Err e) >>= f = Err e

-- the value, or this cause
abbrev pub or_cause : {A : Type 0} → Cause → Option A → Result A Cause
or_cause c None = Err c
or_cause c (Some a) = Ok a

-- the first word as a value, and the words after it
unfoldable pub take_of : (c : Class) → List Text → Result (Value c × List Text) Cause
take_of c [] = Err (C.Missing c)
take_of c (w ∷ ws) = or_cause (C.Wrong c) (value_of c w) >>= λ v. Ok (v, ws)

-- that no word is left
unfoldable pub none_left : List Text → Result (Unit {0}) Cause
none_left [] = Ok tt
none_left (w ∷ ws) = Err C.TooManyWords

-- the values of all the words, where these operands are wanted
abbrev pub values_of : (cs : List Class) → List Text → Result (Values cs) Cause
values_of [] ws = none_left ws
values_of (c ∷ cs) ws = take_of c ws >>= λ p. (values_of cs p.1 >>= λ vs. Ok (p.0, vs))

-- the set of exactly these bits
abbrev pub rights : ℕ → Rights
rights bits = record { 0 = bits }

-- the number of a label among the labels
abbrev pub number_among : List Text → Text → ℕ
number_among labels w = position_or_len (λ x. bytes_eq x w) labels

-- the request of a verb and its operands
abbrev pub build : List Text → (v : Verb) → Values (verb_classes v) → Request
build labels V.Mint (rd, e) = R.Mint rd
build labels V.Restrict (rd, (rs, (keep, e))) = R.Restrict rd rs (rights keep)
build labels V.Set (rd, (n, e)) = R.Set rd n
build labels V.Move (rd, (rs, e)) = R.Move rd rs
build labels V.Add (rd, (ra, (rb, e))) = R.Add rd ra rb
build labels V.Read (rd, (rs, (n, e))) = R.Read rd rs n
build labels V.Write (rs, (n, (rv, e))) = R.Write rs n rv
build labels V.Window (rd, (rs, (base, (len, e)))) = R.Window rd rs base len
build labels V.Length (rd, (rs, e)) = R.Length rd rs
build labels V.Lookup (rd, (rs, (name, e))) = R.Lookup rd rs name
build labels V.Bind (rs, (name, (rv, e))) = R.Bind rs name rv
build labels V.Unbind (rs, (name, e)) = R.Unbind rs name
build labels V.List (rs, e) = R.List rs
build labels V.Impl (rd, (rt, (ro, e))) = R.Impl rd rt ro
build labels V.MkSeg (rd, (rs, (name, (len, (guard, e))))) = R.MkSeg rd rs name len guard
build labels V.MkDir (rd, (rs, (name, (guard, e)))) = R.MkDir rd rs name guard
build labels V.MkType (rd, (rs, (name, e))) = R.MkType rd rs name
build labels V.MkObj (rd, (rt, (rs, (name, (len, e))))) = R.MkObj rd rt rs name len
build labels V.MkCode (rd, (rs, (name, (label, (rl, e))))) = R.MkCode rd rs name (number_among labels label) rl
build labels V.Delete (rs, (name, e)) = R.Delete rs name
build labels V.Send (rp, (rv, e)) = R.Send rp rv
build labels V.Recv (rd, e) = R.Recv rd
build labels V.Call (rp, e) = R.Call rp
build labels V.Path (rs, e) = R.Path rs
build labels V.Find (rd, (name, e)) = R.Find rd name

-- how a value is spelled
abbrev pub value_word : (c : Class) → Value c → Text
value_word Register r = register_text r
value_word Number n = decimal n
value_word Hex h = hex4 h
value_word Name n = name_text n
value_word Label l = l
value_word Guard g = guard_text g

-- and of several
abbrev pub value_words : (cs : List Class) → Values cs → List Text
value_words [] vs = []
value_words (c ∷ cs) vs = value_word c vs.0 ∷ value_words cs vs.1

-- the cause that a result gives
abbrev pub cause_in : {A : Type 0} → Result A Cause → Option Cause
cause_in (Ok a) = None
cause_in (Err e) = Some e

-- a result whose value is seen so
abbrev pub seen_ok : {A B E : Type 0} → (A → B) → Result A E → Result B E
seen_ok f (Ok a) = Ok (f a)
seen_ok f (Err e) = Err e

-- the request, unless its label is among none of the labels
abbrev pub check_label : List Text → (v : Verb) → Values (verb_classes v) → Result Request Cause
check_label labels V.MkCode (rd, (rs, (name, (label, (rl, e))))) = if nat_lt (number_among labels label) (length labels) then Ok (R.MkCode rd rs name (number_among labels label) rl) else Err C.UnknownLabel
check_label labels v vs = Ok (build labels v vs)

-- the request of a verb and the words after it; row by row, so that no type depends on the verb
abbrev pub row_of : List Text → Verb → List Text → Result Request Cause
row_of labels V.Mint ws = values_of (verb_classes V.Mint) ws >>= λ vs. check_label labels V.Mint vs
row_of labels V.Restrict ws = values_of (verb_classes V.Restrict) ws >>= λ vs. check_label labels V.Restrict vs
row_of labels V.Set ws = values_of (verb_classes V.Set) ws >>= λ vs. check_label labels V.Set vs
row_of labels V.Move ws = values_of (verb_classes V.Move) ws >>= λ vs. check_label labels V.Move vs
row_of labels V.Add ws = values_of (verb_classes V.Add) ws >>= λ vs. check_label labels V.Add vs
row_of labels V.Read ws = values_of (verb_classes V.Read) ws >>= λ vs. check_label labels V.Read vs
row_of labels V.Write ws = values_of (verb_classes V.Write) ws >>= λ vs. check_label labels V.Write vs
row_of labels V.Window ws = values_of (verb_classes V.Window) ws >>= λ vs. check_label labels V.Window vs
row_of labels V.Length ws = values_of (verb_classes V.Length) ws >>= λ vs. check_label labels V.Length vs
row_of labels V.Lookup ws = values_of (verb_classes V.Lookup) ws >>= λ vs. check_label labels V.Lookup vs
row_of labels V.Bind ws = values_of (verb_classes V.Bind) ws >>= λ vs. check_label labels V.Bind vs
row_of labels V.Unbind ws = values_of (verb_classes V.Unbind) ws >>= λ vs. check_label labels V.Unbind vs
row_of labels V.List ws = values_of (verb_classes V.List) ws >>= λ vs. check_label labels V.List vs
row_of labels V.Impl ws = values_of (verb_classes V.Impl) ws >>= λ vs. check_label labels V.Impl vs
row_of labels V.MkSeg ws = values_of (verb_classes V.MkSeg) ws >>= λ vs. check_label labels V.MkSeg vs
row_of labels V.MkDir ws = values_of (verb_classes V.MkDir) ws >>= λ vs. check_label labels V.MkDir vs
row_of labels V.MkType ws = values_of (verb_classes V.MkType) ws >>= λ vs. check_label labels V.MkType vs
row_of labels V.MkObj ws = values_of (verb_classes V.MkObj) ws >>= λ vs. check_label labels V.MkObj vs
row_of labels V.MkCode ws = values_of (verb_classes V.MkCode) ws >>= λ vs. check_label labels V.MkCode vs
row_of labels V.Delete ws = values_of (verb_classes V.Delete) ws >>= λ vs. check_label labels V.Delete vs
row_of labels V.Send ws = values_of (verb_classes V.Send) ws >>= λ vs. check_label labels V.Send vs
row_of labels V.Recv ws = values_of (verb_classes V.Recv) ws >>= λ vs. check_label labels V.Recv vs
row_of labels V.Call ws = values_of (verb_classes V.Call) ws >>= λ vs. check_label labels V.Call vs
row_of labels V.Path ws = values_of (verb_classes V.Path) ws >>= λ vs. check_label labels V.Path vs
row_of labels V.Find ws = values_of (verb_classes V.Find) ws >>= λ vs. check_label labels V.Find vs
