-- A name is its two halves.
use Rattle.std.proofs.Common.{◌≡◌, ℕ, zero, suc, ◌-◌, ◌<◌, ◌≤◌, ◌^◌, Bool, true, false, cond, ◌&&◌, eqb, List, [], ◌∷◌, ◌++◌, length, length-append, length-take, length-drop, take, drop, replicate, get_or, refl, sym, ap, subst, ◌∙◌, inl, inr, arith}
use Rattle.std.specs.Int.{w64, to_be_bytes, from_be_bytes}
use Rattle.std.specs.List.{list_all}
use Rattle.std.specs.Str.{bytes_eq}
use Rattle.std.proofs.lemmas.Bool.{cases_eq, eq-eqb, ne_eqb, and_parts}
use Rattle.std.proofs.lemmas.Bool.Decides.{nat_tests}
use Rattle.std.proofs.lemmas.List.{take-append-drop, length-replicate}
use Rattle.std.proofs.lemmas.Nat.{from_be_bytes-to_be_bytes_8, be_bytes_8}
use Rattle.std.proofs.lemmas.Slice.Eq.{bytes_eq-Decides}
use Rattle.psos_text.specs.declared.name.Name.{Name}
use Rattle.std.specs.Prelude.{Option, Some, None, Result, Ok, Err}
use Rattle.std.proofs.lemmas.Bool.{true≢false}
use Rattle.psos_text.specs.declared.fault.TextFault.{TextFault}
use Rattle.psos_text.specs.declared.fault.TextFault.TheVariants as faults
use Rattle.psos_text.specs.Name.{name_of, is_name_byte, is_name, name_text, padded, IsName}
use Rattle.psos_words.specs.Directory.{name_from, name_high, name_low, same_name, is_filled_name}

-- ---- equality of names

pub bytes_same : (a : List ℕ) → bytes_eq a a ≡ true
bytes_same a = (bytes_eq-Decides a a).1 refl

pub bytes_differ : (a b : List ℕ) → (a ≡ b → ⊥) → bytes_eq a b ≡ false
bytes_differ a b differ = by (bytes_eq a b) refl
  where
    by : (t : Bool) → bytes_eq a b ≡ t → t ≡ false
    by false e = refl
    by true e = absurd (differ ((bytes_eq-Decides a b).0 e))

-- two names are the same exactly where their halves are, which are numbers below 2 ^ 64
pub same_halves : (h l high low : ℕ) → h < 2 ^ 64 → l < 2 ^ 64 → high < 2 ^ 64 → low < 2 ^ 64 → same_name (name_from h l) (name_from high low) ≡ (eqb h high && eqb l low)
same_halves h l high low sh sl shigh slow = elim (cases_eq h high) [
  | inr other ↦
      let differ : (to_be_bytes w64 h ++ to_be_bytes w64 l ≡ to_be_bytes w64 high ++ to_be_bytes w64 low) → ⊥ = λ e.
      other (sym (from_be_bytes-to_be_bytes_8 h sh) ∙ ap (λ (b : List ℕ). from_be_bytes w64 (take 8 b)) e ∙ from_be_bytes-to_be_bytes_8 high shigh) in
      bytes_differ _ _ differ ∙ sym (ap (λ (t : Bool). t && eqb l low) (ne_eqb h high other))
  | inl same ↦ elim (cases_eq l low) [
    | inr other ↦
        let differ : (to_be_bytes w64 h ++ to_be_bytes w64 l ≡ to_be_bytes w64 high ++ to_be_bytes w64 low) → ⊥ = λ e.
        other (sym (from_be_bytes-to_be_bytes_8 l sl) ∙ ap (λ (b : List ℕ). from_be_bytes w64 (drop 8 b)) e ∙ from_be_bytes-to_be_bytes_8 low slow) in
        bytes_differ _ _ differ ∙ sym (ap (λ (t : Bool). t && eqb l low) (eq-eqb h high same) ∙ ne_eqb l low other)
    | inl too ↦
        ap (λ (x : ℕ). same_name (name_from x l) (name_from high low)) same ∙ ap (λ (x : ℕ). same_name (name_from high x) (name_from high low)) too ∙ bytes_same (to_be_bytes w64 high ++ to_be_bytes w64 low)
        ∙ sym (ap (λ (t : Bool). t && eqb l low) (eq-eqb h high same) ∙ eq-eqb l low too)
  ]
]

-- ---- a name's bytes

byte_small : (b : ℕ) → is_name_byte b ≡ true → b < 256
byte_small b e = grind (arith, nat_tests)

bytes_small : (text : List ℕ) (n : ℕ) → list_all is_name_byte text ≡ true → (i : ℕ) → get_or (text ++ replicate n 0) i 0 < 256
bytes_small [] zero all i = omega arith
bytes_small [] (suc n) all zero = omega arith
bytes_small [] (suc n) all (suc i) = bytes_small [] n refl i
bytes_small (b ∷ text) n all zero = byte_small b (and_parts (is_name_byte b) (list_all is_name_byte text) all).0
bytes_small (b ∷ text) n all (suc i) = bytes_small text n (and_parts (is_name_byte b) (list_all is_name_byte text) all).1 i

-- each is below 256, and there are 16
pub record AreBytes (bytes : List ℕ) : Type 0 where
  pub small : (i : ℕ) → get_or bytes i 0 < 256
  pub long : length bytes ≡ 16

pub name_is_bytes : (name : Name) → IsName name → AreBytes name.bytes
name_is_bytes name h =
    let text = name_text name in
    let parts = and_parts _ (list_all is_name_byte text) h.named in
    let short : length text ≤ 16 = grind (arith, nat_tests) in
    let long : length (padded 16 text) ≡ 16 = omega (arith, length-append text (replicate (16 - length text) 0), length-replicate {A = ℕ} (16 - length text) 0) in
    record {
      small = λ i. subst (λ (b : List ℕ). get_or b i 0 < 256) (sym h.filled) (bytes_small text (16 - length text) parts.1 i);
      long = ap length h.filled ∙ long;
    }

take_small : (n : ℕ) (bytes : List ℕ) → ((i : ℕ) → get_or bytes i 0 < 256) → (i : ℕ) → get_or (take n bytes) i 0 < 256
take_small zero bytes small i = omega arith
take_small (suc n) [] small i = omega arith
take_small (suc n) (b ∷ bytes) small zero = small 0
take_small (suc n) (b ∷ bytes) small (suc i) = take_small n bytes (λ j. small (suc j)) i

drop_small : (n : ℕ) (bytes : List ℕ) → ((i : ℕ) → get_or bytes i 0 < 256) → (i : ℕ) → get_or (drop n bytes) i 0 < 256
drop_small zero bytes small i = small i
drop_small (suc n) [] small i = omega arith
drop_small (suc n) (b ∷ bytes) small i = drop_small n bytes (λ j. small (suc j)) i

-- the name with the two halves of a name is this name
pub name_of_halves : (name : Name) → IsName name → name_from (name_high name) (name_low name) ≡ name
name_of_halves name h =
    let bytes = name_is_bytes name h in
    let first = be_bytes_8 (take 8 name.bytes) (name_high name) (omega (arith, length-take 8 name.bytes, bytes.long)) (take_small 8 name.bytes bytes.small) refl in
    let second = be_bytes_8 (drop 8 name.bytes) (name_low name) (omega (arith, length-drop 8 name.bytes, bytes.long)) (drop_small 8 name.bytes bytes.small) refl in
    ap (λ (b : List ℕ). (let n : Name = record { bytes = b } in n)) (ap (λ (l : List ℕ). l ++ to_be_bytes w64 (name_low name)) first ∙ ap (λ (l : List ℕ). take 8 name.bytes ++ l) second ∙ take-append-drop 8 name.bytes)

-- a name is filled up with zeros
pub name_is_filled : (name : Name) → IsName name → is_filled_name name ≡ true
name_is_filled name h =
    ap (λ (b : Bool). b && bytes_eq name.bytes (padded 16 (name_text name))) h.named ∙ (bytes_eq-Decides name.bytes (padded 16 (name_text name))).1 h.filled

-- ---- a name that is read from its two numbers

-- the name whose halves these are is the name with these numbers
pub filled-some : (name : Name) (h l : ℕ) → IsName name → name_high name ≡ h → name_low name ≡ l → ◌≡◌ {A = Option Name} (Some name) (cond (is_filled_name (name_from h l)) (Some (name_from h l)) None)
filled-some name h l named high low =
    let is : name_from h l ≡ name = ap (λ (x : ℕ). name_from x l) (sym high) ∙ ap (name_from (name_high name)) (sym low) ∙ name_of_halves name named in
    let filled = ap is_filled_name is ∙ name_is_filled name named in
    ap (λ (n : Name). Some n) (sym is) ∙ sym (ap (λ (b : Bool). cond b (Some (name_from h l)) None) filled)

-- where there is a name with these numbers, the name with its text has them as its halves
pub filled-halves : (h l : ℕ) → h < 2 ^ 64 → l < 2 ^ 64 → is_filled_name (name_from h l) ≡ true → (name_high (name_of (name_text (name_from h l))) ≡ h) × (name_low (name_of (name_text (name_from h l))) ≡ l)
filled-halves h l sh sl filled =
    let n = name_from h l in
    let parts = and_parts (is_name (name_text n)) (bytes_eq n.bytes (padded 16 (name_text n))) filled in
    let same : n.bytes ≡ padded 16 (name_text n) = (bytes_eq-Decides n.bytes (padded 16 (name_text n))).0 parts.1 in
    (ap (λ (b : List ℕ). from_be_bytes w64 (take 8 b)) (sym same) ∙ from_be_bytes-to_be_bytes_8 h sh, ap (λ (b : List ℕ). from_be_bytes w64 (drop 8 b)) (sym same) ∙ from_be_bytes-to_be_bytes_8 l sl)

-- where the halves differ, or the text is no name, there is none
pub filled-none : (h l : ℕ) → (is_filled_name (name_from h l) ≡ true → ⊥) → ◌≡◌ {A = Option Name} None (cond (is_filled_name (name_from h l)) (Some (name_from h l)) None)
filled-none h l not_filled = by (is_filled_name (name_from h l)) refl
  where
    by : (b : Bool) → is_filled_name (name_from h l) ≡ b → ◌≡◌ {A = Option Name} None (cond b (Some (name_from h l)) None)
    by true e = absurd (not_filled e)
    by false e = refl

-- a name is filled only where its text is one
pub filled-named : (n : Name) → is_filled_name n ≡ true → is_name (name_text n) ≡ true
filled-named n e = (and_parts (is_name (name_text n)) (bytes_eq n.bytes (padded 16 (name_text n))) e).0

-- and then it is a name
pub filled-is_name : (n : Name) → is_filled_name n ≡ true → IsName n
filled-is_name n e =
    let parts = and_parts (is_name (name_text n)) (bytes_eq n.bytes (padded 16 (name_text n))) e in
    record { named = parts.0; filled = (bytes_eq-Decides n.bytes (padded 16 (name_text n))).0 parts.1 }

-- reading a name
pub read-err : (text : List ℕ) (fault : TextFault) → ◌≡◌ {A = Result Name TextFault} (cond (is_name text) (Ok (name_of text)) (Err faults.Name)) (Err fault) → is_name text ≡ true → ⊥
read-err text fault e named = by (is_name text) named e
  where
    by : (b : Bool) → b ≡ true → ◌≡◌ {A = Result Name TextFault} (cond b (Ok (name_of text)) (Err faults.Name)) (Err fault) → ⊥
    by true is e = cc
    by false is e = true≢false (sym is)

pub read-ok : (text : List ℕ) (name : Name) → ◌≡◌ {A = Result Name TextFault} (cond (is_name text) (Ok (name_of text)) (Err faults.Name)) (Ok name) → name ≡ name_of text
read-ok text name e = by (is_name text) e
  where
    by : (b : Bool) → ◌≡◌ {A = Result Name TextFault} (cond b (Ok (name_of text)) (Err faults.Name)) (Ok name) → name ≡ name_of text
    by true e = cc
    by false e = absurd (cc)
