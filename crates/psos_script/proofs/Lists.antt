-- Words of a line, and places in a list of names.
use Rattle.std.proofs.Common.{◌≡◌, ℕ, ◌+◌, ◌<◌, ◌≤◌, Bool, true, false, ◌||◌, cond, not, ltb, suc, List, [], ◌∷◌, length, map, get_or, take, drop, refl, sym, ap, ◌∙◌, arith, length-take, length-drop}
use Rattle.std.specs.Str.{bytes_eq}
use Rattle.std.proofs.lemmas.Bool.{lt-ltb}
use Rattle.std.proofs.lemmas.List.{get_or-map, length-map}
use Rattle.std.proofs.lemmas.List.Sums.{position_or_len_is}
use Rattle.psos_text.specs.declared.name.Name.{Name}
use Rattle.psos_text.specs.Name.{name_text}
use Rattle.psos_model.specs.Text.Operands.{Text}
use Rattle.psos_script.specs.Values.{number_among}
use Rattle.psos_script.specs.Fault.{is_among}

-- a piece of a line ends within the line
pub within : (line word : List ℕ) (p : ℕ) → 0 < length word → take (length word) (drop p line) ≡ word → p + length word ≤ length line
within line word p some e = omega (arith, some, ap length e, length-take (length word) (drop p line), length-drop p line)

-- what stands behind the end of a list
abbrev pub blank : Name
blank = record { bytes = [] }

-- no name before number i has this text
pub record NoneBefore (names : List Name) (word : Text) (i : ℕ) : Type 0 where
  pub within : i ≤ length names
  pub none : (k : ℕ) → k < i → bytes_eq (name_text (get_or names k blank)) word ≡ false

-- the first name with the text
pub first_is : (names : List Name) (word : Text) (i : ℕ) → i < length names → bytes_eq (name_text (get_or names i blank)) word ≡ true → NoneBefore names word i → i ≡ number_among (map name_text names) word
first_is names word i lt e h =
    sym (position_or_len_is (λ x. bytes_eq x word) (map name_text names) i [] (omega (arith, h.within, (let e : length (map name_text names) ≡ length names = length-map names name_text in e)))
    (λ k less. ap (λ (x : Text). bytes_eq x word) (get_or-map name_text names k blank [] (omega (arith, less, lt))) ∙ h.none k less)
    (λ _. ap (λ (x : Text). bytes_eq x word) (get_or-map name_text names i blank [] lt) ∙ e))

-- no name has it
pub none_is : (names : List Name) (word : Text) (i : ℕ) → length names ≤ i → NoneBefore names word i → length names ≡ number_among (map name_text names) word
none_is names word i le h =
    sym (position_or_len_is (λ x. bytes_eq x word) (map name_text names) (length names) [] (omega (arith, (let e : length (map name_text names) ≡ length names = length-map names name_text in e)))
    (λ k less. ap (λ (x : Text). bytes_eq x word) (get_or-map name_text names k blank [] less) ∙ h.none k (omega (arith, le, less)))
    (λ lt. absurd (omega (arith, lt, (let e : length (map name_text names) ≡ length names = length-map names name_text in e)))))

among_case : (t : Bool) (n m : ℕ) (b : Bool) → ltb n m ≡ b → ltb (cond (not t) (1 + n) 0) (m + 1) ≡ (t || b)
among_case true n m b e = lt-ltb 0 (m + 1) (omega arith)
among_case false n m b e = grind (arith, e)

-- a word is among others exactly where it has a number there
pub among_position : (ls : List Text) (w : Text) → ltb (number_among ls w) (length ls) ≡ is_among w ls
among_position [] w = refl
among_position (x ∷ xs) w =
    ap (λ (m : ℕ). ltb (number_among (x ∷ xs) w) m) (let e : suc (length xs) ≡ length xs + 1 = omega arith in e)
    ∙ among_case (bytes_eq x w) (number_among xs w) (length xs) (is_among w xs) (among_position xs w)
