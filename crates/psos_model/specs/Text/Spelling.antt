-- The bytes that spell a script. States docs/program.md, "Scripts".
use Rattle.std.specs.Prelude.{◌≡◌, ℕ, ◌+◌, ◌≤◌, Bool, true, ◌&&◌, ◌==◌, not, nat_le, List, [], ◌∷◌, ◌++◌, length, map, filter, get_or, codes, IsTrue}
use Rattle.std.specs.List.{flat_map, list_all, AllByRecursion}
use Rattle.psos_limits.specs.declared.TheConstants.{MOST_INPUT, MOST_LINE_BYTES}
use Rattle.psos_text.specs.Lines.{lines_of, words_of}
use Rattle.psos_calls.specs.declared.request.Request.{Request}
use Rattle.psos_calls.specs.Language.Request.{InRange}
use Rattle.psos_calls.specs.Language.Script.{UserScript, CodeBlock, Script, IsWellFormed}
use Rattle.psos_model.specs.Text.Operands.{Text}
use Rattle.psos_model.specs.Text.RequestWords.{request_words}

-- ---- the lines of a script, each as its words

-- the labels of the code blocks, in order
abbrev pub labels_of : Script → List Text
labels_of s = map (λ (c : CodeBlock). c.label) s.codes

abbrev pub requests_lines : List Text → List Request → List (List Text)
requests_lines labels requests = map (request_words labels) requests

-- a code block: `code LABEL`, its requests, and `end`
abbrev pub code_lines : List Text → CodeBlock → List (List Text)
code_lines labels c = (codes "code" ∷ c.label ∷ []) ∷ (requests_lines labels c.body ++ (codes "end" ∷ []) ∷ [])

-- a phase after the first: `phase`, and its requests
abbrev pub later_lines : List Text → List Request → List (List Text)
later_lines labels requests = (codes "phase" ∷ []) ∷ requests_lines labels requests

-- the first phase has no line of its own
abbrev pub phases_lines : List Text → List (List Request) → List (List Text)
phases_lines labels [] = []
phases_lines labels (first ∷ later) = requests_lines labels first ++ flat_map (later_lines labels) later

-- a user: `user NAME`, and its phases
abbrev pub user_lines : List Text → UserScript → List (List Text)
user_lines labels u = (codes "user" ∷ u.name ∷ []) ∷ phases_lines labels u.phases

-- the code blocks, and then the users
abbrev pub script_lines : Script → List (List Text)
script_lines s = flat_map (code_lines (labels_of s)) s.codes ++ flat_map (user_lines (labels_of s)) s.users

-- ---- the lines of the bytes

-- no words, or a comment: the first word begins with `#`
abbrev pub is_skipped : List Text → Bool
is_skipped [] = true
is_skipped (w ∷ ws) = get_or w 0 0 == 35

-- the words of each line that is not skipped
abbrev pub kept : List (List ℕ) → List (List Text)
kept lines = filter (λ ws. not (is_skipped ws)) (map words_of lines)

abbrev pub is_printable : ℕ → Bool
is_printable b = nat_le 32 b && nat_le b 126

-- at most 200 bytes, all of them printable
abbrev pub is_line : List ℕ → Bool
is_line line = nat_le (length line) MOST_LINE_BYTES && list_all is_printable line

-- a body names the labels of blocks before it and its own alone; so many blocks stand before these
abbrev pub AreInOrder : ℕ → List CodeBlock → Type 0
AreInOrder before [] = Unit {0}
AreInOrder before (c ∷ cs) = AllByRecursion (InRange (before + 1)) c.body × AreInOrder (before + 1) cs

-- The bytes are few and their lines short and printable. Those that are not skipped have the words of the script, in which no body names a later block.
pub record IsScript (bytes : List ℕ) (s : Script) : Type 0 where
  pub short : length bytes ≤ MOST_INPUT
  pub lines : AllByRecursion (λ line. IsTrue (is_line line)) (lines_of bytes)
  pub spelled : kept (lines_of bytes) ≡ script_lines s
  pub order : AreInOrder 0 s.codes
  pub well_formed : IsWellFormed s
