-- What is left to write of a list of request lines, and of a list of users.
use Rattle.std.proofs.Common.{◌≡◌, ℕ, suc, ◌+◌, ◌-◌, ◌<◌, ◌/◌, ◌%◌, List, [], ◌∷◌, ◌++◌, ap, sym, ◌∙◌, arith, append_assoc}
use Rattle.std.specs.Prelude.{codes, decimal}
use Rattle.psos_text.specs.Draws.{next_draw, draws}
use Rattle.psos_model.specs.Text.Load.{line_of, load_line, load_lines, load_users}

-- so many of the lines are written, from out to now, and the values that were drawn went from x to y
pub record IsLeft (lines number x y : ℕ) (out now : List ℕ) : Type 0 where
  pub text : now ++ load_lines (lines - number) y ≡ out ++ load_lines lines x
  pub drawn : draws (lines - number) y ≡ draws lines x

-- the line of a value
abbrev line : ℕ → List ℕ
line x = load_line x (x / 8 % 64) (x / 8 % 20)

-- the lines, and so the values, that are left, where there are some
lines_more : (k left y : ℕ) → left ≡ suc k → load_lines left y ≡ line (next_draw y) ++ load_lines k (next_draw y)
lines_more k left y is = ap (λ n. load_lines n y) is

draws_more : (k left y : ℕ) → left ≡ suc k → draws left y ≡ draws k (next_draw y)
draws_more k left y is = ap (λ n. draws n y) is

pub left_next : {lines number x y z r : ℕ} {out now next : List ℕ} → number < lines → z ≡ next_draw y → r ≡ next_draw y →
    next ≡ now ++ line r → IsLeft lines number x y out now → IsLeft lines (number + 1) x z out next
left_next {lines} {number} {x} {y} {z} {r} {out} {now} {next} more drawn told written h =
    let k = lines - (number + 1) in
    let is : lines - number ≡ suc k = omega arith in
    record {
      text =
          ap (λ (l : List ℕ). l ++ load_lines k z) written
          ∙ append_assoc now (line r) (load_lines k z)
          ∙ ap (λ n. now ++ (line n ++ load_lines k z)) told
          ∙ ap (λ n. now ++ (line (next_draw y) ++ load_lines k n)) drawn
          ∙ ap (λ (l : List ℕ). now ++ l) (sym (lines_more k (lines - number) y is))
          ∙ h.text;
      drawn = ap (λ n. draws k n) drawn ∙ sym (draws_more k (lines - number) y is) ∙ h.drawn;
    }

-- a user's line and its request lines
abbrev user : ℕ → ℕ → ℕ → List ℕ
user number lines x = line_of (codes "user u" ∷ decimal number ∷ []) ++ load_lines lines x

users_more : (k left lines number x : ℕ) → left ≡ suc k →
    load_users left lines number x ≡ user number lines x ++ load_users k lines (number + 1) (draws lines x)
users_more k left lines number x is =
    ap (λ n. load_users n lines number x) is
    ∙ sym (append_assoc (line_of (codes "user u" ∷ decimal number ∷ [])) (load_lines lines x) (load_users k lines (number + 1) (draws lines x)))

-- one more user is written
pub users_next : (lines x : ℕ) (now : List ℕ) {users number y : ℕ} {whole next : List ℕ} → number < users → y ≡ draws lines x → next ≡ now ++ user number lines x →
    now ++ load_users (users - number) lines number x ≡ whole → next ++ load_users (users - (number + 1)) lines (number + 1) y ≡ whole
users_next lines x now {users} {number} {y} {whole} {next} more drawn written h =
    let k = users - (number + 1) in
    let is : users - number ≡ suc k = omega arith in
    ap (λ (l : List ℕ). l ++ load_users k lines (number + 1) y) written
    ∙ append_assoc now (user number lines x) (load_users k lines (number + 1) y)
    ∙ ap (λ n. now ++ (user number lines x ++ load_users k lines (number + 1) n)) drawn
    ∙ ap (λ (l : List ℕ). now ++ l) (sym (users_more k (users - number) lines number x is))
    ∙ h
