-- A script that is made from a number, and what its run prints. States docs/program.md, "Load".
use Rattle.std.specs.Prelude.{ℕ, zero, suc, ◌+◌, ◌/◌, ◌%◌, ◌==◌, if◌then◌else◌, List, [], ◌∷◌, ◌++◌, length, flat_map, count_by, codes, decimal}
use Rattle.psos_text.specs.Draws.{first_draw, next_draw, draws}
use Rattle.psos_text.specs.Hex.{hex4}
use Rattle.psos_calls.specs.declared.reply.Reply.{Reply}
use Rattle.psos_calls.specs.declared.reply.Reply.TheVariants as replies
use Rattle.psos_calls.specs.Language.Script.{Script}
use Rattle.psos_model.specs.Answer.{Answered}
use Rattle.psos_model.specs.Run.{answers}
use Rattle.psos_model.specs.Replay.{entries_from, boot_system}
use Rattle.psos_model.specs.Text.Output.{calls_of, done_text}

-- texts one after another, and a line feed
abbrev pub line_of : List (List ℕ) → List ℕ
line_of texts = flat_map (λ t. t) texts ++ 10 ∷ []

-- ---- the script

-- the request line of a draw x, by its low three bits; w is a word of 64, k one of twenty names
abbrev pub load_line : ℕ → ℕ → ℕ → List ℕ
load_line x w k =
    if x % 8 == 0 then line_of (codes "mint r4" ∷ []) else
    if x % 8 == 1 then line_of (codes "restrict r5 r4 " ∷ hex4 x ∷ []) else
    if x % 8 == 2 then line_of (codes "set r6 " ∷ decimal x ∷ []) else
    if x % 8 == 3 then line_of (codes "write r3 " ∷ decimal w ∷ codes " r2" ∷ []) else
    if x % 8 == 4 then line_of (codes "read r7 r3 " ∷ decimal w ∷ []) else
    if x % 8 == 5 then line_of (codes "mkseg r8 r2 n" ∷ decimal k ∷ codes " 1 0" ∷ []) else
    if x % 8 == 6 then line_of (codes "delete r2 n" ∷ decimal k ∷ []) else
    line_of (codes "lookup r9 r2 n" ∷ decimal k ∷ [])

-- so many request lines, for the draws after x
abbrev pub load_lines : ℕ → ℕ → List ℕ
load_lines zero x = []
load_lines (suc n) x = load_line (next_draw x) (next_draw x / 8 % 64) (next_draw x / 8 % 20) ++ load_lines n (next_draw x)

-- so many users, counted from u, for the draws after x
abbrev pub load_users : ℕ → ℕ → ℕ → ℕ → List ℕ
load_users zero lines u x = []
load_users (suc n) lines u x = line_of (codes "user u" ∷ decimal u ∷ []) ++ (load_lines lines x ++ load_users n lines (u + 1) (draws lines x))

abbrev pub load_text : ℕ → ℕ → ℕ → List ℕ
load_text users lines seed = load_users users lines 0 (first_draw seed)

-- ---- what its run prints

-- the forms of reply, counted from 0: ok, data, cap, names, no
abbrev pub form_of : Reply → ℕ
form_of replies.Fine = 0
form_of (replies.Data n) = 1
form_of (replies.Cap cap) = 2
form_of (replies.Names names) = 3
form_of (replies.No refusal) = 4

-- how many replies have a form
abbrev pub with_form : ℕ → List Answered → ℕ
with_form form all = count_by (λ (a : Answered). form_of a.reply == form) all

-- ok A data B cap C names D no E
abbrev pub forms_text : List Answered → List ℕ
forms_text all = line_of (
    codes "ok " ∷ decimal (with_form 0 all) ∷ codes " data " ∷ decimal (with_form 1 all) ∷ codes " cap " ∷ decimal (with_form 2 all) ∷
    codes " names " ∷ decimal (with_form 3 all) ∷ codes " no " ∷ decimal (with_form 4 all) ∷ [])

-- load users U lines L seed S
abbrev pub load_head : ℕ → ℕ → ℕ → List ℕ
load_head users lines seed = line_of (codes "load users " ∷ decimal users ∷ codes " lines " ∷ decimal lines ∷ codes " seed " ∷ decimal seed ∷ [])

-- that line, the forms of reply of the script's run in an order, and the numbers of its requests and level calls
abbrev pub load_output : ℕ → ℕ → ℕ → Script → List ℕ → List ℕ
load_output users lines seed s order =
    load_head users lines seed ++ (forms_text (answers s order) ++ done_text (length order) (calls_of (entries_from s (boot_system s) order)))
