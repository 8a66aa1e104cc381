-- Names and their texts.
use Rattle.std.proofs.Common.{◌≡◌, ◌≢◌, ℕ, ◌-◌, true, false, ◌&&◌, eqb, leb, suc, zero, List, [], ◌∷◌, ◌++◌, length, IsTrue, replicate, refl, sym, ap, ◌∙◌}
use Rattle.std.specs.List.{list_all, before_first, position_or_len, AllByRecursion}
use Rattle.std.proofs.lemmas.Bool.{and_parts, true≢false, ne_eqb}
use Rattle.psos_text.specs.declared.name.Name.{Name}
use Rattle.psos_text.specs.Name.{is_name_byte, is_name, name_text, padded, name_of, IsName}
use Rattle.psos_text.proofs.FirstPlaces.{take_cons}

-- a byte of a name is none that fails the test of one
pub name_byte_lacks : (sep b : ℕ) → is_name_byte sep ≡ false → is_name_byte b ≡ true → b ≢ sep
name_byte_lacks sep b f h e = absurd (true≢false (sym h ∙ ap is_name_byte e ∙ f))

bytes_lack : (sep : ℕ) (text : List ℕ) → is_name_byte sep ≡ false → list_all is_name_byte text ≡ true → AllByRecursion (λ b. b ≢ sep) text
bytes_lack sep [] f h = tt
bytes_lack sep (b ∷ bs) f h =
    let p = and_parts (is_name_byte b) (list_all is_name_byte bs) h in
    (name_byte_lacks sep b f p.0, bytes_lack sep bs f p.1)

-- each byte of a name's text passes the test
pub name_bytes : (text : List ℕ) → IsTrue (is_name text) → list_all is_name_byte text ≡ true
name_bytes text h = (and_parts (leb 1 (length text) && leb (length text) 16) (list_all is_name_byte text) h).1

-- no byte of a name's text is this one, where this one is no byte of names: 0, 10, 32
pub name_lacks : (sep : ℕ) (text : List ℕ) → is_name_byte sep ≡ false → IsTrue (is_name text) → AllByRecursion (λ b. b ≢ sep) text
name_lacks sep text f h = bytes_lack sep text f (name_bytes text h)

zeros_first : (n : ℕ) → before_first (λ b. eqb b 0) (replicate n 0) ≡ []
zeros_first zero = refl
zeros_first (suc n) = refl

text_first : (text : List ℕ) (n : ℕ) → AllByRecursion (λ b. b ≢ 0) text → before_first (λ b. eqb b 0) (text ++ replicate n 0) ≡ text
text_first [] n h = zeros_first n
text_first (b ∷ bs) n h =
    let p = position_or_len (λ b. eqb b 0) (bs ++ replicate n 0) in
    let differs : eqb b 0 ≡ false = ne_eqb b 0 h.0 in
    rw differs (take_cons p b (bs ++ replicate n 0) ∙ ap (λ (t : List ℕ). b ∷ t) (text_first bs n h.1))

-- the name with a text has this text
pub text-name_of : (text : List ℕ) → IsTrue (is_name text) → name_text (name_of text) ≡ text
text-name_of text h = text_first text (16 - length text) (name_lacks 0 text refl h)

-- the name with a text is a name
pub IsName-name_of : (text : List ℕ) → IsTrue (is_name text) → IsName (name_of text)
IsName-name_of text h =
    let same = text-name_of text h in
    record { named = ap is_name same ∙ h; filled = ap (λ (t : List ℕ). padded 16 t) (sym same) }

-- a name is the name with its text
pub name_of-text : (n : Name) → IsName n → name_of (name_text n) ≡ n
name_of-text n h = ap (λ (bytes : List ℕ). (let m : Name = record { bytes = bytes } in m)) (sym h.filled)

-- two names with one text are one
pub name_injective : (m n : Name) → IsName m → IsName n → name_text m ≡ name_text n → m ≡ n
name_injective m n h k e = sym (name_of-text m h) ∙ ap name_of e ∙ name_of-text n k
