-- Scripts. States docs/program.md, "Scripts".
use Rattle.std.specs.Prelude.{◌≢◌, ℕ, ◌+◌, ◌≤◌, List, [], ◌∷◌, length, map, sum_by, slice_index_or, IsTrue}
use Rattle.std.specs.List.{AllByRecursion, flat_map}
use Rattle.psos_limits.specs.declared.TheConstants.{MOST_LINES, MOST_BODY, MOST_USERS, MOST_CODES}
use Rattle.psos_text.specs.Name.{is_name}
use Rattle.psos_calls.specs.declared.request.Request.{Request}
use Rattle.psos_calls.specs.Language.Request.{InRange}

-- a code block: its label's text, and the lines of its body
pub record CodeBlock : Type 0 where
  pub label : List ℕ
  pub body : List Request

-- a user: the name's text, and the requests of each phase
pub record UserScript : Type 0 where
  pub name : List ℕ
  pub phases : List (List Request)

-- a script: its users in order, and its code blocks
pub record Script : Type 0 where
  pub users : List UserScript
  pub codes : List CodeBlock

-- all that a user asks, in order
abbrev pub requests_of : UserScript → List Request
requests_of user = flat_map (λ p. p) user.phases

-- the text of user number u
abbrev pub user_script : Script → ℕ → UserScript
user_script s u = slice_index_or s.users u (record { name = []; phases = [] })

-- the lines of a code block
abbrev pub body_of : Script → ℕ → List Request
body_of s label = (slice_index_or s.codes label (record { label = []; body = [] })).body

-- ---- what holds of every script

-- no text stands twice
abbrev pub AreDistinct : List (List ℕ) → Type 0
AreDistinct [] = Unit {0}
AreDistinct (t ∷ ts) = AllByRecursion (λ other. other ≢ t) ts × AreDistinct ts

-- a code block with a label and 1 to 16 lines, where there are so many blocks
pub record IsCodeBlock (blocks : ℕ) (code : CodeBlock) : Type 0 where
  pub labelled : IsTrue (is_name code.label)
  pub some : 1 ≤ length code.body
  pub few : length code.body ≤ MOST_BODY
  pub in_range : AllByRecursion (InRange blocks) code.body

-- a user with a name, at least one phase, and at most 240 request and `phase` lines
pub record IsUserScript (blocks : ℕ) (user : UserScript) : Type 0 where
  pub named : IsTrue (is_name user.name)
  pub some : 1 ≤ length user.phases
  pub few : sum_by (λ p. length p + 1) user.phases ≤ MOST_LINES + 1
  pub in_range : AllByRecursion (AllByRecursion (InRange blocks)) user.phases

-- 1 to 8 users and at most 64 code blocks, with their names and labels apart
pub record IsWellFormed (s : Script) : Type 0 where
  pub some_users : 1 ≤ length s.users
  pub few_users : length s.users ≤ MOST_USERS
  pub few_codes : length s.codes ≤ MOST_CODES
  pub codes : AllByRecursion (IsCodeBlock (length s.codes)) s.codes
  pub users : AllByRecursion (IsUserScript (length s.codes)) s.users
  pub labels : AreDistinct (map (λ (c : CodeBlock). c.label) s.codes)
  pub names : AreDistinct (map (λ (u : UserScript). u.name) s.users)
