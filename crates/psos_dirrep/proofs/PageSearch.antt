-- A search of a page slot by slot.
use Rattle.std.proofs.Common.{◌≡◌, ℕ, zero, suc, ◌+◌, ◌*◌, ◌<◌, ◌≤◌, true, false, cond, List, [], ◌∷◌, length, drop, Some, None, refl, ap, ◌∙◌, arith}
use Rattle.std.proofs.Math.Seq.{drop-cons}
use Rattle.psos_words.specs.declared.word.Word.{Word}
use Rattle.psos_words.specs.declared.word.Word.TheVariants.{Data, Cap}
use Rattle.psos_words.specs.Words.{word_at}
use Rattle.psos_words.specs.Directory.{has_never}
use Rattle.psos_dirrep.specs.Scan.{has_halves, entry_at, scan, holds_none, is_never, scan_free}

-- a search has come to slot k of a page
pub record HasCome {X : Type 0} (k : ℕ) (page : List Word) (whole rest : X) : Type 0 where
  pub same : whole ≡ rest
  pub long : 0 < k → length page ≡ 64

-- the four words of a slot, and the slots after it
pub four : (words : List Word) (k : ℕ) → 4 * k + 3 < length words
    → drop (4 * k) words ≡ word_at words (4 * k) ∷ word_at words (4 * k + 1) ∷ word_at words (4 * k + 2) ∷ word_at words (4 * k + 3) ∷ drop (4 * (k + 1)) words
four words k within =
    let e1 : suc (4 * k) ≡ 4 * k + 1 = omega arith in
    let e2 : suc (4 * k + 1) ≡ 4 * k + 2 = omega arith in
    let e3 : suc (4 * k + 2) ≡ 4 * k + 3 = omega arith in
    let e4 : suc (4 * k + 3) ≡ 4 * (k + 1) = omega arith in
    let at = λ (i : ℕ). word_at words i in
    drop-cons words (4 * k) (Data 0) (omega arith)
    ∙ ap (λ (l : List Word). at (4 * k) ∷ l) (ap (λ (n : ℕ). drop n words) e1 ∙ drop-cons words (4 * k + 1) (Data 0) (omega arith))
    ∙ ap (λ (l : List Word). at (4 * k) ∷ at (4 * k + 1) ∷ l) (ap (λ (n : ℕ). drop n words) e2 ∙ drop-cons words (4 * k + 2) (Data 0) (omega arith))
    ∙ ap (λ (l : List Word). at (4 * k) ∷ at (4 * k + 1) ∷ at (4 * k + 2) ∷ l) (ap (λ (n : ℕ). drop n words) e3 ∙ drop-cons words (4 * k + 3) (Data 0) within)
    ∙ ap (λ (n : ℕ). at (4 * k) ∷ at (4 * k + 1) ∷ at (4 * k + 2) ∷ at (4 * k + 3) ∷ drop n words) e4

past : (words : List Word) → length words ≡ 64 → (k : ℕ) → 16 ≤ k → drop (4 * k) words ≡ []
past words long k end = drop_all (4 * k) words (omega arith)
  where
    drop_all : (n : ℕ) (l : List Word) → length l ≤ n → drop n l ≡ []
    drop_all zero [] h = refl
    drop_all zero (x ∷ l) h = absurd (omega arith)
    drop_all (suc n) [] h = refl
    drop_all (suc n) (x ∷ l) h = drop_all n l (omega arith)

pub scan-step : (words : List Word) (k high low : ℕ) → length words ≡ 64 → k < 16
    → scan k high low (drop (4 * k) words) ≡ cond (has_halves high low (word_at words (4 * k + 1)) (word_at words (4 * k + 2))) (entry_at k (word_at words (4 * k)) (word_at words (4 * k + 3))) (scan (k + 1) high low (drop (4 * (k + 1)) words))
scan-step words k high low long within = ap (scan k high low) (four words k (omega arith))

pub scan-end : (words : List Word) (k high low : ℕ) → length words ≡ 64 → 16 ≤ k → scan k high low (drop (4 * k) words) ≡ None
scan-end words k high low long end = ap (scan k high low) (past words long k end)

pub free-step : (words : List Word) (k : ℕ) → length words ≡ 64 → k < 16
    → scan_free k (drop (4 * k) words) ≡ cond (holds_none (word_at words (4 * k + 3))) (Some k) (scan_free (k + 1) (drop (4 * (k + 1)) words))
free-step words k long within = ap (scan_free k) (four words k (omega arith))

pub free-end : (words : List Word) (k : ℕ) → length words ≡ 64 → 16 ≤ k → scan_free k (drop (4 * k) words) ≡ None
free-end words k long end = ap (scan_free k) (past words long k end)

-- whether a slot was never used is told by its first word
pub never-cons : (a b c d : Word) (rest : List Word) → has_never (a ∷ b ∷ c ∷ d ∷ rest) ≡ cond (is_never a) true (has_never rest)
never-cons (Data n) b c d rest = refl
never-cons (Cap x) b c d rest = refl

pub never-step : (words : List Word) (k : ℕ) → length words ≡ 64 → k < 16 → has_never (drop (4 * k) words) ≡ cond (is_never (word_at words (4 * k))) true (has_never (drop (4 * (k + 1)) words))
never-step words k long within = ap has_never (four words k (omega arith)) ∙ never-cons (word_at words (4 * k)) (word_at words (4 * k + 1)) (word_at words (4 * k + 2)) (word_at words (4 * k + 3)) (drop (4 * (k + 1)) words)

pub never-end : (words : List Word) (k : ℕ) → length words ≡ 64 → 16 ≤ k → has_never (drop (4 * k) words) ≡ false
never-end words k long end = ap has_never (past words long k end)
