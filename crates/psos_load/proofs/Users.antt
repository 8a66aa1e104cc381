-- The users that a seed makes, and the whole script.
use Rattle.std.proofs.Common.{◌≡◌, ◌≢◌, ℕ, zero, suc, ◌+◌, ◌*◌, ◌<◌, ◌≤◌, List, [], ◌∷◌, ◌++◌, length, map, decimal, refl, ap, sym, arith, append-nil, length-append}
use Rattle.std.specs.Prelude.{codes}
use Rattle.std.specs.List.{flat_map, AllByRecursion}
use Rattle.std.proofs.lemmas.Fmt.{decimal_injective}
use Rattle.psos_limits.specs.declared.TheConstants.{MOST_LINES}
use Rattle.psos_text.specs.Draws.{first_draw, draws}
use Rattle.psos_calls.specs.Language.Script.{UserScript, AreDistinct, IsUserScript}
use Rattle.psos_model.specs.Text.Operands.{Text}
use Rattle.psos_model.specs.Text.Spelling.{requests_lines, user_lines}
use Rattle.psos_model.specs.Text.Load.{line_of, load_lines, load_users, load_text}
use Rattle.psos_model.specs.Text.Spelling.{IsScript}
use Rattle.psos_load.specs.Made.{made_requests, made_users, made_script}
use Rattle.psos_load.proofs.Words.{numbered_is_word, name_is_named}
use Rattle.psos_load.proofs.LineTexts.{IsLineOf, AreLinesOf, no_lines, one_more_line, lines_along, line_is_short}
use Rattle.psos_load.proofs.Requests.{draws_are_small, requests_are_spelled, lines_are_short, requests_are_in_range, requests_are_so_many}

abbrev user_name : ℕ → Text
user_name u = codes "u" ++ decimal u

abbrev user_line : ℕ → Text
user_line u = line_of (codes "user u" ∷ decimal u ∷ [])

-- ---- the lines

head_is_line : (u : ℕ) → u < 65536 → IsLineOf (user_line u) (codes "user" ∷ user_name u ∷ [])
head_is_line u h = record { spelled = ap (λ (t : Text). codes "user u" ++ (t ++ 10 ∷ [])) (append-nil (decimal u)); words = (refl, (numbered_is_word 117 u refl h, tt)); few = omega arith; first = refl }

users_are_spelled : (n lines u x : ℕ) → u + n ≤ 65536 → x < 65536 → AreLinesOf (load_users n lines u x) (flat_map (user_lines []) (made_users n lines u x))
users_are_spelled zero lines u x h small = no_lines
users_are_spelled (suc n) lines u x h small =
    let requests = requests_lines [] (made_requests lines x) in
    let rest = load_users n lines (u + 1) (draws lines x) in
    let wss = flat_map (user_lines []) (made_users n lines (u + 1) (draws lines x)) in
    lines_along refl (ap (λ (wss : List (List Text)). (codes "user" ∷ user_name u ∷ []) ∷ wss) (ap (λ (own : List (List Text)). own ++ wss) (sym (append-nil requests))))
    (one_more_line (user_line u) (load_lines lines x ++ rest) (codes "user" ∷ user_name u ∷ []) (requests ++ wss) (head_is_line u (omega arith))
    (requests_are_spelled lines x rest wss small (users_are_spelled n lines (u + 1) (draws lines x) (omega arith) (draws_are_small lines x small))))

users_are_short : (n lines u x : ℕ) → lines ≤ MOST_LINES → u + n ≤ 65536 → x < 65536 → length (load_users n lines u x) ≤ 33017 * n
users_are_short zero lines u x few h small = omega arith
users_are_short (suc n) lines u x few h small =
    let rest = load_users n lines (u + 1) (draws lines x) in
    let head = line_is_short (user_line u) (codes "user" ∷ user_name u ∷ []) (head_is_line u (omega arith)) in
    let own = lines_are_short lines x small in
    let others = users_are_short n lines (u + 1) (draws lines x) few (omega arith) (draws_are_small lines x small) in
    omega (arith, length-append (user_line u) (load_lines lines x ++ rest), length-append (load_lines lines x) rest)

-- ---- the script

users_are_scripts : (n lines u x : ℕ) → lines ≤ MOST_LINES → u + n ≤ 65536 → x < 65536 → AllByRecursion (IsUserScript 0) (made_users n lines u x)
users_are_scripts zero lines u x few h small = tt
users_are_scripts (suc n) lines u x few h small = (
  record {
    named = name_is_named 117 u refl (omega arith);
    some = omega arith;
    few = omega (arith, requests_are_so_many lines x);
    in_range = (requests_are_in_range lines x small, tt);
  },
  users_are_scripts n lines (u + 1) (draws lines x) few (omega arith) (draws_are_small lines x small),
)

abbrev names_of : List UserScript → List Text
names_of users = map (λ (u : UserScript). u.name) users

-- a name of a later user is another
other_names : (n lines u v x : ℕ) → u < v → v + n ≤ 65536 → AllByRecursion (λ other. other ≢ user_name u) (names_of (made_users n lines v x))
other_names zero lines u v x later h = tt
other_names (suc n) lines u v x later h =
    (λ e. (let same = decimal_injective v u (omega arith) (omega arith) cc in omega arith), other_names n lines u (v + 1) (draws lines x) (omega arith) (omega arith))

names_are_distinct : (n lines u x : ℕ) → u + n ≤ 65536 → AreDistinct (names_of (made_users n lines u x))
names_are_distinct zero lines u x h = tt
names_are_distinct (suc n) lines u x h = (other_names n lines u (u + 1) (draws lines x) (omega arith) (omega arith), names_are_distinct n lines (u + 1) (draws lines x) (omega arith))

users_are_so_many : (n lines u x : ℕ) → length (made_users n lines u x) ≡ n
users_are_so_many zero lines u x = refl
users_are_so_many (suc n) lines u x = ap (λ m. suc m) (users_are_so_many n lines (u + 1) (draws lines x))

pub text_spells_script : (users lines seed : ℕ) → 1 ≤ users → users ≤ 8 → lines ≤ MOST_LINES → IsScript (load_text users lines seed) (made_script users lines seed)
text_spells_script users lines seed some few short =
    let x = first_draw seed in
    let small : x < 65536 = omega arith in
    let all = users_are_spelled users lines 0 x (omega arith) small in
    let size = users_are_short users lines 0 x short (omega arith) small in
    let count = users_are_so_many users lines 0 x in
    record {
      short = omega arith;
      lines = all.lines;
      spelled = all.words;
      order = tt;
      well_formed = record {
        some_users = omega arith;
        few_users = omega arith;
        few_codes = omega arith;
        codes = tt;
        users = users_are_scripts users lines 0 x short (omega arith) small;
        labels = tt;
        names = names_are_distinct users lines 0 x (omega arith);
      };
    }
