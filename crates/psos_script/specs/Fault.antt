-- The first fault of bytes that are no script. States docs/program.md, "Faults".
use Rattle.std.specs.Prelude.{ℕ, ◌+◌, Bool, true, false, ◌==◌, not, if◌then◌else◌, nat_lt, nat_le, List, [], ◌∷◌, ◌++◌, length, get_or, Option, Some, None, option_map}
use Rattle.std.specs.List.{list_all, list_any}
use Rattle.std.specs.Str.{bytes_eq}
use Rattle.psos_limits.specs.declared.TheConstants.{MOST_LINES, MOST_CODES, MOST_INPUT, MOST_LINE_BYTES}
use Rattle.psos_text.specs.Lines.{lines_of, words_of}
use Rattle.psos_model.specs.Text.Operands.{Text}
use Rattle.psos_model.specs.Text.Spelling.{is_skipped, is_printable}
use Rattle.psos_script.specs.Operands.{is_operand}
use Rattle.psos_script.specs.Table.{head_of, classes, verb_classes}
use Rattle.psos_script.specs.declared.class.Class.{Class}
use Rattle.psos_script.specs.declared.cause.Cause.{Cause}
use Rattle.psos_script.specs.declared.cause.Cause.TheVariants as C
use Rattle.psos_script.specs.declared.verb.Verb.{Verb}
use Rattle.psos_script.specs.declared.verb.Verb.TheVariants as V
use Rattle.psos_script.specs.declared.head.Head.{Head}
use Rattle.psos_script.specs.declared.head.Head.TheVariants.{Code, End, User, Phase, Asks}
use Rattle.psos_script.specs.declared.section.Section.{Section}
use Rattle.psos_script.specs.declared.section.Section.TheVariants.{Outside, InBody, InUser}

-- ---- what the lines before a line say; nearest first, skipped ones left out

-- the first word of a line
abbrev pub first : List Text → Text
first ws = get_or ws 0 []

-- and the second
abbrev pub second : List Text → Text
second ws = get_or ws 1 []

-- where a line stands that follows one with this first word
abbrev pub section_after : Option Head → Section → Section
section_after (Some Code) p = InBody
section_after (Some End) p = Outside
section_after (Some User) p = InUser
section_after (Some Phase) p = p
section_after (Some (Asks v)) p = p
section_after None p = p

-- by the nearest `code`, `end` or `user`
abbrev pub section : List (List Text) → Section
section [] = Outside
section (ws ∷ past) = section_after (head_of (first ws)) (section past)

-- the labels behind such a line
abbrev pub labels_after : Option Head → Text → List Text → List Text
labels_after (Some Code) w labels = labels ++ w ∷ []
labels_after (Some End) w labels = labels
labels_after (Some User) w labels = labels
labels_after (Some Phase) w labels = labels
labels_after (Some (Asks v)) w labels = labels
labels_after None w labels = labels

-- the labels of the blocks before, in order
abbrev pub labels : List (List Text) → List Text
labels [] = []
labels (ws ∷ past) = labels_after (head_of (first ws)) (second ws) (labels past)

-- the names behind such a line
abbrev pub names_after : Option Head → Text → List Text → List Text
names_after (Some User) w names = names ++ w ∷ []
names_after (Some End) w names = names
names_after (Some Code) w names = names
names_after (Some Phase) w names = names
names_after (Some (Asks v)) w names = names
names_after None w names = names

-- the names of the users before, in order
abbrev pub names : List (List Text) → List Text
names [] = []
names (ws ∷ past) = names_after (head_of (first ws)) (second ws) (names past)

-- the count behind such a line
abbrev pub count_after : Option Head → ℕ → ℕ
count_after (Some Code) n = 0
count_after (Some End) n = 0
count_after (Some User) n = 0
count_after (Some Phase) n = n + 1
count_after (Some (Asks v)) n = n + 1
count_after None n = n

-- how many request and `phase` lines since the nearest `code`, `end` or `user`
abbrev pub count : List (List Text) → ℕ
count [] = 0
count (ws ∷ past) = count_after (head_of (first ws)) (count past)

-- all that a line's fault depends on
pub record Seen : Type 0 where
  pub section : Section
  pub labels : List Text
  pub names : List Text
  pub count : ℕ

-- what these lines say
abbrev pub seen : List (List Text) → Seen
seen past = record { section = section past; labels = labels past; names = names past; count = count past }

-- ---- the causes

-- a request or `end` outside, `end` in a user, `phase` not in a user
unfoldable pub is_outside : Head → Section → Bool
is_outside (Asks v) Outside = true
is_outside (Asks v) InBody = false
is_outside (Asks v) InUser = false
is_outside End Outside = true
is_outside End InBody = false
is_outside End InUser = true
is_outside Phase Outside = true
is_outside Phase InBody = true
is_outside Phase InUser = false
is_outside Code p = false
is_outside User p = false

-- `user` or `code` inside a block
unfoldable pub is_no_end : Head → Section → Bool
is_no_end Code InBody = true
is_no_end Code Outside = false
is_no_end Code InUser = false
is_no_end User InBody = true
is_no_end User Outside = false
is_no_end User InUser = false
is_no_end End p = false
is_no_end Phase p = false
is_no_end (Asks v) p = false

-- there is a name
abbrev pub some_names : List Text → Bool
some_names [] = false
some_names (n ∷ ns) = true

-- `code` after a `user`
unfoldable pub is_late_code : Head → List Text → Bool
is_late_code Code names = some_names names
is_late_code User names = false
is_late_code End names = false
is_late_code Phase names = false
is_late_code (Asks v) names = false

-- in a code block
unfoldable pub in_body : Section → Bool
in_body InBody = true
in_body InUser = false
in_body Outside = false

-- the first operand that is missing or malformed, and else whether there are words left
unfoldable pub operands_cause : List Class → List Text → Option Cause
operands_cause [] [] = None
operands_cause [] (w ∷ ws) = Some C.TooManyWords
operands_cause (c ∷ cs) [] = Some (C.Missing c)
operands_cause (c ∷ cs) (w ∷ ws) = if is_operand c w then operands_cause cs ws else Some (C.Wrong c)

-- the word is one of these
abbrev pub is_among : Text → List Text → Bool
is_among w words = list_any (λ x. bytes_eq x w) words

-- a name or label that an earlier line has, or a label that none has
unfoldable pub known_cause : Head → Seen → List Text → Option Cause
known_cause User s ws = if is_among (get_or ws 0 []) s.names then Some C.UserTwice else None
known_cause Code s ws = if is_among (get_or ws 0 []) s.labels then Some C.LabelTwice else None
known_cause (Asks V.MkCode) s ws = if is_among (get_or ws 3 []) s.labels then None else Some C.UnknownLabel
known_cause h s ws = None

-- `end` of a body with no request
unfoldable pub empty_cause : Head → ℕ → Option Cause
empty_cause End n = if n == 0 then Some C.EmptyCode else None
empty_cause h n = None

-- the limit on lines
abbrev pub line_limit : Section → ℕ
line_limit InBody = 16
line_limit InUser = MOST_LINES
line_limit Outside = MOST_LINES

-- one user, code block or line too many
unfoldable pub many_cause : Head → Seen → Option Cause
many_cause User s = if nat_le 8 (length s.names) then Some C.TooManyUsers else None
many_cause Code s = if nat_le MOST_CODES (length s.labels) then Some C.TooManyCodes else None
many_cause Phase s = if nat_le (line_limit s.section) s.count then Some C.TooManyLines else None
many_cause (Asks v) s = if nat_le (line_limit s.section) s.count then Some C.TooManyLines else None
many_cause End s = None

-- the first cause that holds
infixr 10 ◌or◌
abbrev pub ◌or◌ : Option Cause → Option Cause → Option Cause
(Some c) or d = Some c
None or d = d

-- this cause, where the test holds
abbrev pub where_true : Bool → Cause → Option Cause
where_true b c = if b then Some c else None

-- the causes of a request from its operands on, where so many lines may stand
abbrev pub row_limit_cause : Seen → Verb → List Text → ℕ → Option Cause
row_limit_cause s v ws limit =
    operands_cause (verb_classes v) ws
    or (known_cause (Asks v) s ws
    or where_true (nat_le limit s.count) C.TooManyLines)

-- the causes of a line with this first word, behind `unknown word`
unfoldable pub head_cause : Seen → Head → List Text → Option Cause
head_cause s h ws =
    where_true (is_outside h s.section) C.Outside
    or (where_true (is_no_end h s.section) C.NoEnd
    or (where_true (is_late_code h s.names) C.CodeAfterUser
    or (operands_cause (classes h) ws
    or (known_cause h s ws
    or (empty_cause h s.count or many_cause h s)))))

-- a first word that begins no line is the cause
abbrev pub headed_cause : Seen → Option Head → List Text → Option Cause
headed_cause s None ws = Some C.UnknownWord
headed_cause s (Some h) ws = head_cause s h ws

-- a line of these words; comments have no cause
unfoldable pub words_cause : Seen → List Text → Option Cause
words_cause s [] = None
words_cause s (w ∷ ws) = if get_or w 0 0 == 35 then None else headed_cause s (head_of w) ws

-- a line of these bytes
unfoldable pub line_cause : Seen → List ℕ → Option Cause
line_cause s line =
    where_true (nat_lt MOST_LINE_BYTES (length line)) C.LineTooLong
    or (where_true (not (list_all is_printable line)) C.BadByte
    or words_cause s (words_of line))

-- what is missing after the last line
unfoldable pub end_cause : Seen → Option Cause
end_cause s = where_true (in_body s.section) C.NoEnd or where_true (not (some_names s.names)) C.NoUser

-- ---- the first fault

-- the lines before, with one more
abbrev pub with_line : List Text → List (List Text) → List (List Text)
with_line ws past = if is_skipped ws then past else ws ∷ past

-- the first faulty line from line n on, and the first cause on it
abbrev pub at_line : ℕ → Option Cause → Option (ℕ × Cause) → Option (ℕ × Cause)
at_line n (Some c) later = Some (n, c)
at_line n None later = later

-- the lines from line n on, behind these lines before
unfoldable pub fault_from : ℕ → List (List Text) → List (List ℕ) → Option (ℕ × Cause)
fault_from n past [] = option_map (λ c. (n, c)) (end_cause (seen past))
fault_from n past (line ∷ lines) = at_line n (line_cause (seen past) line) (fault_from (n + 1) (with_line (words_of line) past) lines)

-- the number of the least faulty line, and the first cause on it
unfoldable pub fault_of : List ℕ → Option (ℕ × Cause)
fault_of bytes = if nat_lt MOST_INPUT (length bytes) then Some (0, C.InputTooLong) else fault_from 1 [] (lines_of bytes)
