-- What is written to a block and read of it.
use Rattle.std.proofs.Common.{◌≡◌, ℕ, zero, suc, ◌+◌, ◌*◌, ◌-◌, ◌<◌, ◌≤◌, ◌/◌, ◌%◌, ◌^◌, ◌==◌, Bool, true, false, List, [], ◌∷◌, ◌++◌, Option, Some, None, ◌⊎◌, inl, inr, subst, length, take, drop, set, refl, sym, ap, ◌∙◌, arith, append_assoc, if◌then◌else◌}
use Rattle.std.proofs.lemmas.List.{length-append, take_at, drop_at, flat_map_more, take_more, drop-drop, drop_all, take_all, append-nil, length-set}
use Rattle.std.specs.Prelude.{option_map}
use Rattle.std.proofs.Math.Nat.{pow-suc, div-div-eq-div-mul}
use Rattle.std.proofs.lemmas.Bool.{cases_eq, lt-ltb, eq-eqb, ne_eqb}
use Rattle.std.proofs.lemmas.Nat.{from_le_bytes-to_le_bytes_8}
use Rattle.std.proofs.lemmas.List.{length-take-le, take_more_set}
use borrow.Rule.Slice.PartMut.{put_mid}
use Rattle.std.specs.List.{flat_map}
use Rattle.std.specs.Option.{option_and_then}
use Rattle.std.specs.Int.{w64, w128, to_le_bytes, from_le_bytes}
use Rattle.psos_words.specs.declared.word.Word.{Word}
use Rattle.psos_words.specs.declared.word.Word.TheVariants.{Data, Cap}
use Rattle.psos_words.specs.Words.{IsWord, word_at}
use Rattle.psos_words.specs.Block.{is_cap, word_payload, word_bytes, tags_from, block_of, word_from, first_number, words_from, block_tags, page_of}
use Rattle.psos_caps.specs.Capability.{payload_of}

-- the words so far are written, with their tags
pub record IsWritten (words : List Word) (out : List ℕ) (tags i : ℕ) : Type 0 where
  pub front : take (16 * i) out ≡ flat_map word_bytes (take i words)
  pub tagged : tags ≡ tags_from 1 (take i words)
  pub small : tags < 2 ^ i
  pub range : (k : ℕ) → k < i → IsWord (word_at words k)

-- the words so far, before those that are left, are those of the page
pub record IsRead (block : List ℕ) (words : List Word) (tags i : ℕ) : Type 0 where
  pub long : length words ≡ 64
  pub rest : page_of block ≡ option_map (λ rest. take i words ++ rest) (words_from (64 - i) (drop (16 * i) block) tags)

-- ---- written

-- the tags of one word more
pub tags-more : (weight : ℕ) (words : List Word) (w : Word) → tags_from weight (words ++ w ∷ []) ≡ tags_from weight words + (if is_cap w then weight * 2 ^ length words else 0)
tags-more weight [] (Data n) = refl
tags-more weight [] (Cap cap) = omega arith
tags-more weight (Data n ∷ words) w = tags-more (2 * weight) words w ∙ ap (λ m. tags_from (2 * weight) words + (if is_cap w then m else 0)) (twice weight (length words))
  where
    twice : (a n : ℕ) → 2 * a * 2 ^ n ≡ a * 2 ^ suc n
    twice a n = omega (arith, ap (λ m. a * m) (pow-suc 2 n))
tags-more weight (Cap cap ∷ words) w =
    ap (λ m. weight + m) (tags-more (2 * weight) words w ∙ ap (λ m. tags_from (2 * weight) words + (if is_cap w then m else 0)) (twice weight (length words)))
    ∙ joined weight (tags_from (2 * weight) words) (if is_cap w then weight * 2 ^ suc (length words) else 0)
  where
    twice : (a n : ℕ) → 2 * a * 2 ^ n ≡ a * 2 ^ suc n
    twice a n = omega (arith, ap (λ m. a * m) (pow-suc 2 n))

    joined : (a b d : ℕ) → a + (b + d) ≡ a + b + d
    joined a b d = omega arith

-- one word more is written
pub written-more : {words : List Word} {out : List ℕ} {tags i : ℕ} → IsWritten words out tags i → i < 64 → length words ≡ 64 → length out ≡ 1032 → (w : Word) → w ≡ word_at words i → IsWord w → (bytes : List ℕ) → bytes ≡ word_bytes w
    → (tag : ℕ) → tag ≡ (if is_cap w then 2 ^ i else 0) → (k : ℕ) → k ≡ 16 → IsWritten words (put_mid (16 * i) k out bytes) (tags + tag) (i + 1)
written-more {words} {out} {tags} {i} h l long wide w e r bytes b tag t k is = record {
  front = front;
  tagged = tagged;
  small = small;
  range = λ j s. range j (cases_eq j i) s;
}
  where
    more : take (i + 1) words ≡ take i words ++ w ∷ []
    more = take_more words i (Data 0) (omega (arith, l, long)) ∙ ap (λ x. take i words ++ x ∷ []) (sym e)

    before : length (take (16 * i) out) ≡ 16 * i
    before = length-take-le (16 * i) out (omega (arith, l, wide))

    sixteen : length bytes ≡ 16
    sixteen = ap (λ (x : List ℕ). length x) b

    whole : length (take (16 * i) out ++ bytes) ≡ 16 * (i + 1)
    whole = omega (arith, length-append (take (16 * i) out) bytes, before, sixteen)

    front : take (16 * (i + 1)) (put_mid (16 * i) k out bytes) ≡ flat_map word_bytes (take (i + 1) words)
    front =
        ap (take (16 * (i + 1))) (sym (append_assoc (take (16 * i) out) bytes (drop k (drop (16 * i) out))))
        ∙ take_at (take (16 * i) out ++ bytes) (drop k (drop (16 * i) out)) (16 * (i + 1)) whole
        ∙ ap (λ x. x ++ bytes) h.front
        ∙ ap (λ x. flat_map word_bytes (take i words) ++ x) b
        ∙ flat_map_more word_bytes [] (take i words) w
        ∙ ap (flat_map word_bytes) (sym more)

    tagged : tags + tag ≡ tags_from 1 (take (i + 1) words)
    tagged =
        ap (λ n. tags + n) t ∙ ap (λ n. n + (if is_cap w then 2 ^ i else 0)) h.tagged
        ∙ ap (λ n. tags_from 1 (take i words) + (if is_cap w then n else 0)) (one i (length (take i words)) (length-take-le i words (omega (arith, l, long))))
        ∙ sym (tags-more 1 (take i words) w) ∙ ap (tags_from 1) (sym more)
      where
        one : (i n : ℕ) → n ≡ i → 2 ^ i ≡ 1 * 2 ^ n
        one i n e = omega (arith, ap (λ m. 2 ^ m) e)

    small : tags + tag < 2 ^ (i + 1)
    small = omega (arith, h.small, few (is_cap w) t, pow-suc 2 i, ap (λ n. 2 ^ n) (next i))
      where
        few : (x : Bool) → tag ≡ (if x then 2 ^ i else 0) → tag ≤ 2 ^ i
        few true e = omega (arith, e)
        few false e = omega (arith, e)

        next : (n : ℕ) → n + 1 ≡ suc n
        next n = omega arith

    range : (j : ℕ) → (j ≡ i) ⊎ (j ≡ i → ⊥) → j < i + 1 → IsWord (word_at words j)
    range j (inl q) s = subst IsWord (e ∙ ap (word_at words) (sym q)) r
    range j (inr d) s = h.range j (omega (arith, s, d))

-- all are
pub written-all : {words : List Word} {out : List ℕ} {tags : ℕ} → IsWritten words out tags 64 → length words ≡ 64 → length out ≡ 1032 → (bytes : List ℕ) → bytes ≡ to_le_bytes w64 tags → put_mid 1024 8 out bytes ≡ block_of words
written-all {words} {out} {tags} h long wide bytes b =
    let front : take 1024 out ≡ flat_map word_bytes words = h.front ∙ ap (flat_map word_bytes) (take_all 64 words (omega (arith, long))) in
    let past : drop 8 (drop 1024 out) ≡ [] = drop-drop 8 1024 out ∙ drop_all 1032 out (omega (arith, wide)) in
    let tags_all : tags ≡ tags_from 1 words = h.tagged ∙ ap (tags_from 1) (take_all 64 words (omega (arith, long))) in
    ap (λ x. x ++ (bytes ++ drop 8 (drop 1024 out))) front
    ∙ ap (λ x. flat_map word_bytes words ++ (bytes ++ x)) past
    ∙ ap (λ x. flat_map word_bytes words ++ x) (append-nil bytes ∙ b ∙ ap (to_le_bytes w64) tags_all)

-- ---- read

-- of one word more
pub words_from-more : (n : ℕ) (bytes : List ℕ) (tags : ℕ) → 0 < n → (w : Word) → word_from (tags % 2 == 1) (first_number bytes) ≡ Some w → words_from n bytes tags ≡ option_map (λ rest. w ∷ rest) (words_from (n - 1) (drop 16 bytes) (tags / 2))
unfolding words_from
words_from-more zero bytes tags h w e = absurd (omega (arith, h))
words_from-more (suc n) bytes tags h w e =
    let less : n ≡ suc n - 1 = omega arith in
    ap (λ o. option_and_then (λ x. option_map (λ rest. x ∷ rest) (words_from n (drop 16 bytes) (tags / 2))) o) e
    ∙ ap (λ m. option_map (λ rest. w ∷ rest) (words_from m (drop 16 bytes) (tags / 2))) less

pub words_from-none : (n : ℕ) (bytes : List ℕ) (tags : ℕ) → 0 < n → word_from (tags % 2 == 1) (first_number bytes) ≡ None → words_from n bytes tags ≡ None
unfolding words_from
words_from-none zero bytes tags h e = absurd (omega (arith, h))
words_from-none (suc n) bytes tags h e = ap (λ o. option_and_then (λ x. option_map (λ rest. x ∷ rest) (words_from n (drop 16 bytes) (tags / 2))) o) e

pub read-first : (block : List ℕ) (words : List Word) → length words ≡ 64 → IsRead block words (block_tags block) 0
read-first block words l = record { long = l; rest = same (page_of block) }
  where
    same : (o : Option (List Word)) → o ≡ option_map (λ rest. rest) o
    same None = refl
    same (Some x) = refl

pub read-more : {block : List ℕ} {words : List Word} {tags i : ℕ} → IsRead block words tags i → i < 64 → (w : Word) → Some w ≡ word_from (tags % 2 == 1) (first_number (drop (16 * i) block)) → IsRead block (set words i w) (tags / 2) (i + 1)
read-more {block} {words} {tags} {i} h l w e = record {
  long = length-set words i w ∙ h.long;
  rest =
      h.rest
      ∙ ap (λ o. option_map (λ rest. take i words ++ rest) o) (words_from-more (64 - i) (drop (16 * i) block) tags (omega (arith, l)) w (sym e))
      ∙ joined (words_from (64 - i - 1) (drop 16 (drop (16 * i) block)) (tags / 2))
      ∙ ap (λ n. option_map (λ rest. take (i + 1) (set words i w) ++ rest) (words_from n (drop 16 (drop (16 * i) block)) (tags / 2))) less
      ∙ ap (λ b. option_map (λ rest. take (i + 1) (set words i w) ++ rest) (words_from (64 - (i + 1)) b (tags / 2))) (drop-drop 16 (16 * i) block ∙ ap (λ n. drop n block) further);
}
  where
    less : 64 - i - 1 ≡ 64 - (i + 1)
    less = omega (arith, l)

    further : 16 * i + 16 ≡ 16 * (i + 1)
    further = omega arith

    joined : (o : Option (List Word)) → option_map (λ rest. take i words ++ rest) (option_map (λ rest. w ∷ rest) o) ≡ option_map (λ rest. take (i + 1) (set words i w) ++ rest) o
    joined None = refl
    joined (Some x) = ap Some (sym (append_assoc (take i words) (w ∷ []) x) ∙ ap (λ front. front ++ x) (sym (take_more_set words i w (omega (arith, l, h.long)))))

pub read-none : {block : List ℕ} {words : List Word} {tags i : ℕ} → IsRead block words tags i → i < 64 → None ≡ word_from (tags % 2 == 1) (first_number (drop (16 * i) block)) → None ≡ page_of block
read-none {block} {words} {tags} {i} h l e =
    sym (h.rest ∙ ap (λ o. option_map (λ rest. take i words ++ rest) o) (words_from-none (64 - i) (drop (16 * i) block) tags (omega (arith, l)) (sym e)))

pub read-all : {block : List ℕ} {words : List Word} {tags : ℕ} → IsRead block words tags 64 → Some words ≡ page_of block
unfolding words_from
read-all {block} {words} {tags} h = sym (h.rest ∙ ap Some (append-nil (take 64 words) ∙ take_all 64 words (omega (arith, h.long))))

-- ---- what was written is read again

byte_rest : (n p : ℕ) → n / p ≡ n / p % 256 + n / (p * 256) * 256
byte_rest n p = omega (arith, div-div-eq-div-mul n p 256)

joined_9 : (a b c d e f g h n p q r s t u v w : ℕ) → n ≡ a + p * 256 → p ≡ b + q * 256 → q ≡ c + r * 256 → r ≡ d + s * 256
    → s ≡ e + t * 256 → t ≡ f + u * 256 → u ≡ g + v * 256 → v ≡ h + w * 256
    → a + b * 256 + c * 65536 + d * 16777216 + e * 4294967296 + f * 1099511627776 + g * 281474976710656 + h * 72057594037927936 + w * 18446744073709551616 ≡ n
joined_9 a b c d e f g h n p q r s t u v w at_0 at_1 at_2 at_3 at_4 at_5 at_6 at_7 = omega arith

joined_8 : (a b c d e f g h n p q r s t u v : ℕ) → n ≡ a + p * 256 → p ≡ b + q * 256 → q ≡ c + r * 256 → r ≡ d + s * 256
    → s ≡ e + t * 256 → t ≡ f + u * 256 → u ≡ g + v * 256 → v ≡ h
    → a + b * 256 + c * 65536 + d * 16777216 + e * 4294967296 + f * 1099511627776 + g * 281474976710656 + h * 72057594037927936 ≡ n
joined_8 a b c d e f g h n p q r s t u v at_0 at_1 at_2 at_3 at_4 at_5 at_6 at_7 = omega arith

-- 16 bytes of a number give it back
pub number-again : (n : ℕ) → n < 2 ^ 128 → from_le_bytes w128 (to_le_bytes w128 n) ≡ n
number-again n fits =
    let first : n ≡ n % 256 + n / 256 * 256 = omega arith in
    let last : n / 1329227995784915872903807060280344576 ≡ n / 1329227995784915872903807060280344576 % 256 = omega arith in
    let low = joined_9 _ _ _ _ _ _ _ _ n _ _ _ _ _ _ _ _ first (byte_rest n 256) (byte_rest n 65536) (byte_rest n 16777216) (byte_rest n 4294967296) (byte_rest n 1099511627776) (byte_rest n 281474976710656) (byte_rest n 72057594037927936) in
    let high = joined_8 _ _ _ _ _ _ _ _ (n / 18446744073709551616) _ _ _ _ _ _ _ (byte_rest n 18446744073709551616) (byte_rest n 4722366482869645213696) (byte_rest n 1208925819614629174706176) (byte_rest n 309485009821345068724781056) (byte_rest n 79228162514264337593543950336) (byte_rest n 20282409603651670423947251286016) (byte_rest n 5192296858534827628530496329220096) last in
    omega (arith, low, high)

-- a word is read again
pub word-again : (w : Word) → IsWord w → word_from (is_cap w) (word_payload w) ≡ Some w
word-again (Data n) h = ap (λ b. if b then Some (Data n) else None) (lt-ltb n (2 ^ 64) h)
word-again (Cap c) h =
    let small : payload_of c < 2 ^ 80 = omega (arith, h.0, h.1) in
    let low : payload_of c % 2 ^ 64 ≡ c.uid = omega (arith, h.0) in
    let high : payload_of c / 2 ^ 64 ≡ c.rights = omega (arith, h.0) in
    ap (λ b. if b then Some (Cap (record { uid = payload_of c % 2 ^ 64; rights = payload_of c / 2 ^ 64 })) else None) (lt-ltb (payload_of c) (2 ^ 80) small)
    ∙ ap (λ n. Some (Cap (record { uid = n; rights = payload_of c / 2 ^ 64 }))) low
    ∙ ap (λ n. Some (Cap (record { uid = c.uid; rights = n }))) high

payload-fits : (w : Word) → IsWord w → word_payload w < 2 ^ 128
payload-fits (Data n) h = omega (arith, h)
payload-fits (Cap c) h = omega (arith, h.0, h.1)

tags-twice : (k : ℕ) (words : List Word) → tags_from (2 * k) words ≡ 2 * tags_from k words
tags-twice k [] = omega arith
tags-twice k (Data n ∷ words) = tags-twice (2 * k) words
tags-twice k (Cap c ∷ words) = omega (arith, tags-twice (2 * k) words)

tags-first : (w : Word) (words : List Word) → ((tags_from 1 (w ∷ words) % 2 == 1) ≡ is_cap w) × (tags_from 1 (w ∷ words) / 2 ≡ tags_from 1 words)
tags-first (Data n) words =
    let twice : tags_from 2 words ≡ 2 * tags_from 1 words = tags-twice 1 words in
    (ne_eqb (tags_from 2 words % 2) 1 (λ e. absurd (omega (arith, e, twice))), omega (arith, twice))
tags-first (Cap c) words =
    let twice : tags_from 2 words ≡ 2 * tags_from 1 words = tags-twice 1 words in
    (eq-eqb ((1 + tags_from 2 words) % 2) 1 (omega (arith, twice)), omega (arith, twice))

pub words-again : (words : List Word) → ((k : ℕ) → k < length words → IsWord (word_at words k)) → (tail : List ℕ) → words_from (length words) (flat_map word_bytes words ++ tail) (tags_from 1 words) ≡ Some words
unfolding words_from
words-again [] h tail = refl
words-again (w ∷ words) h tail =
    let rest = words-again words (λ k l. h (suc k) (omega (arith, l))) tail in
    let bytes : word_bytes w ++ (flat_map word_bytes words ++ tail) ≡ flat_map word_bytes (w ∷ words) ++ tail = sym (append_assoc (word_bytes w) (flat_map word_bytes words) tail) in
    let first : first_number (word_bytes w ++ (flat_map word_bytes words ++ tail)) ≡ word_payload w =
    ap (from_le_bytes w128) (take_at (word_bytes w) (flat_map word_bytes words ++ tail) 16 refl) ∙ number-again (word_payload w) (payload-fits w (h 0 (omega arith))) in
    let behind : drop 16 (word_bytes w ++ (flat_map word_bytes words ++ tail)) ≡ flat_map word_bytes words ++ tail = drop_at (word_bytes w) (flat_map word_bytes words ++ tail) 16 refl in
    let tags = tags-first w words in
    ap (λ b. words_from (suc (length words)) b (tags_from 1 (w ∷ words))) (sym bytes)
    ∙ words_from-more (suc (length words)) (word_bytes w ++ (flat_map word_bytes words ++ tail)) (tags_from 1 (w ∷ words)) (omega arith) w
    (ap (λ b. word_from b (first_number (word_bytes w ++ (flat_map word_bytes words ++ tail)))) tags.0 ∙ ap (word_from (is_cap w)) first ∙ word-again w (h 0 (omega arith)))
    ∙ ap (λ n. option_map (λ r. w ∷ r) (words_from n (drop 16 (word_bytes w ++ (flat_map word_bytes words ++ tail))) (tags_from 1 (w ∷ words) / 2))) (one-less (length words))
    ∙ ap (λ b. option_map (λ r. w ∷ r) (words_from (length words) b (tags_from 1 (w ∷ words) / 2))) behind
    ∙ ap (λ n. option_map (λ r. w ∷ r) (words_from (length words) (flat_map word_bytes words ++ tail) n)) tags.1
    ∙ ap (option_map (λ r. w ∷ r)) rest
  where
    one-less : (n : ℕ) → suc n - 1 ≡ n
    one-less n = omega arith

pub page-again : {words : List Word} {out : List ℕ} → out ≡ block_of words → length words ≡ 64 → ((k : ℕ) → k < 64 → IsWord (word_at words k)) → page_of out ≡ Some words
page-again {words} {out} e long h =
    let wide : length (flat_map word_bytes words) ≡ 1024 = omega (arith, bytes-long words, long) in
    let tags : block_tags (block_of words) ≡ tags_from 1 words =
    ap (λ b. from_le_bytes w64 (take 8 b)) (drop_at (flat_map word_bytes words) (to_le_bytes w64 (tags_from 1 words)) 1024 wide)
    ∙ from_le_bytes-to_le_bytes_8 (tags_from 1 words) (omega (arith, tags-small 1 words, ap (λ n. 1 * 2 ^ n) long)) in
    ap page_of e ∙ ap (words_from 64 (block_of words)) tags ∙ ap (λ n. words_from n (block_of words) (tags_from 1 words)) (sym long)
    ∙ words-again words (λ k l. h k (omega (arith, l, long))) (to_le_bytes w64 (tags_from 1 words))
  where
    bytes-long : (words : List Word) → length (flat_map word_bytes words) ≡ 16 * length words
    bytes-long [] = refl
    bytes-long (w ∷ words) = omega (arith, bytes-long words)

    tags-small : (k : ℕ) (words : List Word) → tags_from k words + k ≤ k * 2 ^ length words
    tags-small k [] = omega arith
    tags-small k (Data n ∷ words) = omega (arith, tags-small (2 * k) words, ap (λ m. k * m) (pow-suc 2 (length words)))
    tags-small k (Cap c ∷ words) = omega (arith, tags-small (2 * k) words, ap (λ m. k * m) (pow-suc 2 (length words)))
