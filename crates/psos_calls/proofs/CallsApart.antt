-- Calls that are kept with their words apart. States docs/requests.md, "Plans".
use Rattle.std.proofs.Common.{◌≡◌, ℕ, ◌+◌, ◌≤◌, ◌<◌, List, [], ◌∷◌, ◌++◌, Some, None, length, take, drop, refl, sym, ap, ◌∙◌, arith, length-append}
use Rattle.std.proofs.lemmas.List.{map-append, get_or_append_left, take-append-le, drop-append-le, length-drop}
use Rattle.std.proofs.Math.Seq.{get_or-append_seam, drop-append_seam, take-length}
use Rattle.psos_words.specs.declared.word.Word.{Word}
use Rattle.psos_words.specs.declared.word.Word.TheVariants.{Data}
use Rattle.psos_calls.specs.declared.level.Level.{Level}
use Rattle.psos_calls.specs.declared.level_call.LevelCall.TheVariants.{Locate, FourPut}
use Rattle.psos_calls.specs.Levels.{level_of}
use Rattle.psos_calls.specs.Levels.Calls.{LevelCall}
use Rattle.psos_calls.specs.Plan.Kept.{KeptCall, kept_at, words_in, call_of, calls_of, IsAmong, AreAmong, WritesFour, AreKept}

-- ---- words that come behind change nothing

four-longer : (words more : List Word) (k : ℕ) → k + 4 ≤ length words → take 4 (drop k (words ++ more)) ≡ take 4 (drop k words)
four-longer words more k h =
    let len = length-drop k words in
    ap (λ (ws : List Word). take 4 ws) (drop-append-le k words more (omega arith)) ∙ take-append-le 4 (drop k words) more (omega arith)

call-longer : (words more : List Word) (c : KeptCall) → IsAmong (length words) c → call_of (words ++ more) c ≡ call_of words c
call-longer words more (FourPut page off k) h = ap (FourPut page off) (four-longer words more k h)
call-longer words more (Locate cap off need (Some k)) h = ap (λ (w : Word). Locate cap off need (Some w)) (get_or_append_left words more (Data 0) k h)
call-longer words more _ h = refl

calls-longer : (words more : List Word) (kept : List KeptCall) → AreAmong (length words) kept → calls_of (words ++ more) kept ≡ calls_of words kept
calls-longer words more [] h = refl
calls-longer words more (c ∷ kept) (h, hs) =
    ap (λ (call : LevelCall). (level_of call, call) ∷ calls_of (words ++ more) kept) (call-longer words more c h)
    ∙ ap (λ (rest : List (Level × LevelCall)). (level_of (call_of words c), call_of words c) ∷ rest) (calls-longer words more kept hs)

among-longer : (n m : ℕ) → n ≤ m → (c : KeptCall) → IsAmong n c → IsAmong m c
among-longer n m le (FourPut page off k) h = omega arith
among-longer n m le (Locate cap off need (Some k)) h = omega arith
among-longer n m le _ h = h

all-longer : (n m : ℕ) → n ≤ m → (kept : List KeptCall) → AreAmong n kept → AreAmong m kept
all-longer n m le [] h = h
all-longer n m le (c ∷ kept) (h, hs) = (among-longer n m le c h, all-longer n m le kept hs)

among-with : (n : ℕ) (kept : List KeptCall) (c : KeptCall) → AreAmong n kept → IsAmong n c → AreAmong n (kept ++ c ∷ [])
among-with n [] c hs h = (h, tt)
among-with n (d ∷ kept) c (hd, hs) h = (hd, among-with n kept c hs h)

-- ---- one call

-- it is told again from its own words
told-again : (words : List Word) (call : LevelCall) → WritesFour call → call_of (words ++ words_in call) (kept_at (length words) call) ≡ call
told-again words (FourPut page off four) long =
    ap (FourPut page off) (ap (λ (ws : List Word). take 4 ws) (drop-append_seam words four) ∙ ap (λ (n : ℕ). take n four) (sym long) ∙ take-length four)
told-again words (Locate cap off need (Some w)) long = ap (λ (v : Word). Locate cap off need (Some v)) (get_or-append_seam words w [] (Data 0))
told-again words (Locate cap off need None) long = refl
told-again words _ long = refl

among-own : (words : List Word) (call : LevelCall) → WritesFour call → IsAmong (length (words ++ words_in call)) (kept_at (length words) call)
among-own words (FourPut page off four) long = let len = length-append words four in omega arith
among-own words (Locate cap off need (Some w)) long = let len = length-append words (w ∷ []) in omega arith
among-own words (Locate cap off need None) long = tt
among-own words _ long = tt

few-words : (call : LevelCall) → WritesFour call → length (words_in call) ≤ 4
few-words (FourPut page off four) long = omega arith
few-words (Locate cap off need (Some w)) long = omega arith
few-words (Locate cap off need None) long = omega arith
few-words _ long = omega arith

-- ---- one call more

module _ (words : List Word) (kept : List KeptCall) (call : LevelCall) (long : WritesFour call) where
  pub one-more : AreAmong (length words) kept → calls_of (words ++ words_in call) (kept ++ kept_at (length words) call ∷ []) ≡ calls_of words kept ++ (level_of call, call) ∷ []
  one-more among =
      map-append (λ (c : KeptCall). (level_of (call_of (words ++ words_in call) c), call_of (words ++ words_in call) c)) kept (kept_at (length words) call ∷ [])
      ∙ ap (λ (front : List (Level × LevelCall)). front ++ calls_of (words ++ words_in call) (kept_at (length words) call ∷ [])) (calls-longer words (words_in call) kept among)
      ∙ ap (λ (c : LevelCall). calls_of words kept ++ (level_of c, c) ∷ []) (told-again words call long)

  pub kept-more : (n m p q : ℕ) → n ≤ p → m ≤ q → length kept < 64 → AreKept n m words kept → AreKept p q (words ++ words_in call) (kept ++ kept_at (length words) call ∷ [])
  kept-more n m p q le lf less k =
      let room = k.room in
      let words_room = k.words_room in
      let few = k.few_words in
      let one = few-words call long in
      let lw = length-append words (words_in call) in
      let lk = length-append kept (kept_at (length words) call ∷ []) in
      record {
        room = omega arith;
        words_room = omega arith;
        few = omega arith;
        few_words = omega arith;
        among = among-with (length (words ++ words_in call)) kept (kept_at (length words) call) (all-longer (length words) (length (words ++ words_in call)) (omega arith) kept k.among) (among-own words call long);
      }
