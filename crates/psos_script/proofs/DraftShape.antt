-- What always holds of what is read, and the lines that it spells.
use Rattle.std.proofs.Common.{◌≡◌, ℕ, ◌+◌, ◌≤◌, List, [], ◌∷◌, ◌++◌, length, map, refl, subst, arith}
use Rattle.std.specs.Prelude.{IsTrue, codes, sum_by}
use Rattle.std.specs.List.{AllByRecursion, flat_map}
use Rattle.psos_limits.specs.declared.TheConstants.{MOST_LINES}
use Rattle.psos_text.specs.Name.{is_name}
use Rattle.psos_calls.specs.declared.request.Request.{Request}
use Rattle.psos_calls.specs.Language.Request.{InRange}
use Rattle.psos_calls.specs.Language.Script.{CodeBlock, UserScript, AreDistinct}
use Rattle.psos_model.specs.Text.Operands.{Text}
use Rattle.psos_model.specs.Text.Spelling.{requests_lines, code_lines, user_lines}
use Rattle.psos_script.specs.Draft.{Read, Pending, NonePending, BodyPending, UserPending, pending_codes, pending_users}

abbrev pub label_of : CodeBlock → Text
label_of c = c.label

abbrev pub named : UserScript → Text
named u = u.name

-- ---- lines

-- the lines of the unfinished part
abbrev pub pending_lines : List Text → Pending → List (List Text)
pending_lines labels NonePending = []
pending_lines labels (BodyPending label body) = (codes "code" ∷ label ∷ []) ∷ requests_lines labels body
pending_lines labels (UserPending name phases requests count) = user_lines labels (record { name = name; phases = phases ++ requests ∷ [] })

-- the lines of what is read
abbrev pub read_lines : List Text → Read → List (List Text)
read_lines labels d = flat_map (code_lines labels) d.codes ++ (flat_map (user_lines labels) d.users ++ pending_lines labels d.now)

-- ---- shape

-- a block that may not be finished, which is the last of so many
pub record IsBlock (blocks : ℕ) (c : CodeBlock) : Type 0 where
  pub labelled : IsTrue (is_name c.label)
  pub few : length c.body ≤ 16
  pub range : AllByRecursion (InRange blocks) c.body

-- finished blocks, behind so many
abbrev pub AreBlocks : ℕ → List CodeBlock → Type 0
AreBlocks before [] = Unit {0}
AreBlocks before (c ∷ cs) = (IsBlock (before + 1) c × (1 ≤ length c.body)) × AreBlocks (before + 1) cs

-- a user with so many lines, where there are so many blocks
pub record IsAsker (blocks : ℕ) (u : UserScript) (count : ℕ) : Type 0 where
  pub named : IsTrue (is_name u.name)
  pub some : 1 ≤ length u.phases
  pub counted : sum_by (λ (p : List Request). length p + 1) u.phases ≡ count + 1
  pub few : count ≤ MOST_LINES
  pub range : AllByRecursion (AllByRecursion (InRange blocks)) u.phases

abbrev pub AreAskers : ℕ → List UserScript → Type 0
AreAskers blocks users = AllByRecursion (λ (u : UserScript). (count : ℕ) × IsAsker blocks u count) users

-- what is unfinished: a block stands in front of all users
abbrev pub PendingFits : List CodeBlock → List UserScript → Pending → Type 0
PendingFits cs us NonePending = Unit {0}
PendingFits cs us (BodyPending label body) = IsBlock (length cs + 1) (record { label = label; body = body }) × (us ≡ [])
PendingFits cs us (UserPending name phases requests count) = IsAsker (length cs) (record { name = name; phases = phases ++ requests ∷ [] }) count

pub record IsDraft (d : Read) : Type 0 where
  pub labels : d.labels ≡ map label_of (d.codes ++ pending_codes d.now)
  pub names : d.names ≡ map named (d.users ++ pending_users d.now)
  pub few_labels : length d.labels ≤ 64
  pub few_names : length d.names ≤ 8
  pub new_labels : AreDistinct d.labels
  pub new_names : AreDistinct d.names
  pub codes : AreBlocks 0 d.codes
  pub users : AreAskers (length d.codes) d.users
  pub fits : PendingFits d.codes d.users d.now

-- ---- lists

pub all_append : {X : Type 0} (P : X → Type 0) (xs ys : List X) → AllByRecursion P xs → AllByRecursion P ys → AllByRecursion P (xs ++ ys)
all_append P [] ys h k = k
all_append P (x ∷ xs) ys h k = (h.0, all_append P xs ys h.1 k)

pub all_front : {X : Type 0} (P : X → Type 0) (xs ys : List X) → AllByRecursion P (xs ++ ys) → AllByRecursion P xs
all_front P [] ys h = tt
all_front P (x ∷ xs) ys h = (h.0, all_front P xs ys h.1)

pub all_last : {X : Type 0} (P : X → Type 0) (xs : List X) (y : X) → AllByRecursion P (xs ++ y ∷ []) → P y
all_last P [] y h = h.0
all_last P (x ∷ xs) y h = all_last P xs y h.1

pub blocks_append : (before : ℕ) (cs : List CodeBlock) (c : CodeBlock) → AreBlocks before cs → IsBlock (before + length cs + 1) c → 1 ≤ length c.body → AreBlocks before (cs ++ c ∷ [])
blocks_append before [] c h k some = let P : ℕ → Type 0 = λ n. IsBlock n c in ((subst P (let e : before + 0 + 1 ≡ before + 1 = omega arith in e) k, some), tt)
blocks_append before (x ∷ xs) c h k some =
    let P : ℕ → Type 0 = λ n. IsBlock n c in
    (h.0, blocks_append (before + 1) xs c h.1 (subst P (let e : before + length (x ∷ xs) + 1 ≡ before + 1 + length xs + 1 = omega arith in e) k) some)

pub map_empty : {X Y : Type 0} (f : X → Y) (xs : List X) → map f xs ≡ [] → xs ≡ []
map_empty f [] e = refl
map_empty f (x ∷ xs) e = absurd cc
