-- New mailboxes.
use Rattle.std.proofs.Common.{◌≡◌, ℕ, zero, suc, ◌+◌, ◌≤◌, List, [], ◌∷◌, ◌++◌, length, refl, sym, ap, ◌∙◌, arith}
use Rattle.psos_calls.specs.Levels.Level12.{BoxState}
use Rattle.psos_table.specs.Table.{put}
use Rattle.psos_procs.specs.Mailbox.{Mailbox, process_of}
use Rattle.psos_procs.specs.Mailboxes.{boxes_of, no_words, AreBoxesFrom, AreMailboxes}

-- a user's mailbox with no word
abbrev pub new_box : ℕ → ℕ → Mailbox
new_box users i = record { number = i; users = users; words = [] }

-- those of n users from number i on
unfoldable pub new_boxes : ℕ → ℕ → ℕ → List Mailbox
new_boxes users i zero = []
new_boxes users i (suc n) = new_box users i ∷ new_boxes users (i + 1) n

-- one more at the end
one_more : (users i n : ℕ) → new_boxes users i n ++ new_box users (i + n) ∷ [] ≡ new_boxes users i (suc n)
unfolding new_boxes
one_more users i zero = ap (λ (k : ℕ). (let l : List Mailbox = new_box users k ∷ [] in l)) {x = i + 0} {y = i} (omega arith)
one_more users i (suc n) =
    let same : i + suc n ≡ (i + 1) + n = omega arith in
    ap (λ (k : ℕ). new_box users i ∷ (new_boxes users (i + 1) n ++ new_box users k ∷ [])) same ∙ ap (λ (l : List Mailbox). new_box users i ∷ l) (one_more users (i + 1) n)

pub new_boxes-more : (users n : ℕ) → new_boxes users 0 n ++ new_box users n ∷ [] ≡ new_boxes users 0 (n + 1)
new_boxes-more users n =
    let more : n + 1 ≡ suc n = omega arith in
    let at : 0 + n ≡ n = omega arith in
    ap (λ (k : ℕ). new_boxes users 0 n ++ new_box users k ∷ []) (sym at) ∙ one_more users 0 n ∙ ap (new_boxes users 0) (sym more)

pub new_boxes-none : (users : ℕ) → new_boxes users 0 0 ≡ []
unfolding new_boxes
new_boxes-none users = refl

pub new_boxes-length : (users i n : ℕ) → length (new_boxes users i n) ≡ n
unfolding new_boxes
new_boxes-length users i zero = refl
new_boxes-length users i (suc n) = omega (arith, new_boxes-length users (i + 1) n)

new_boxes-from : (users i n : ℕ) → i + n ≡ users → AreBoxesFrom users i (new_boxes users i n)
unfolding new_boxes
new_boxes-from users i zero e = omega (arith, e)
new_boxes-from users i (suc n) e = (refl, refl, omega arith, new_boxes-from users (i + 1) n (omega (arith, e)))

-- they are mailboxes of all users
pub new_boxes-are : (users : ℕ) → 1 ≤ users → users ≤ 8 → AreMailboxes (new_boxes users 0 users)
new_boxes-are users some few =
    let long = new_boxes-length users 0 users in
    record { some = omega arith; few = omega arith; each = rw long (new_boxes-from users 0 users (omega arith)) }

-- and their table has no word
pub new_boxes-table : (users i n : ℕ) → boxes_of (new_boxes users i n) ≡ no_words i n
unfolding new_boxes no_words
new_boxes-table users i zero = refl
new_boxes-table users i (suc n) = ap (λ (s : BoxState). put s (process_of i) []) (new_boxes-table users (i + 1) n)
