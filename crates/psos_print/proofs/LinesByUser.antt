-- Positions that are gathered, and the lines at them.
use Rattle.std.proofs.Common.{◌≡◌, ◌≢◌, ℕ, suc, zero, ◌+◌, ◌<◌, ◌≤◌, ◌⊎◌, inl, inr, Bool, cond, List, [], ◌∷◌, ◌++◌, length, drop, map, replicate, get_or, Some, refl, sym, ap, ◌∙◌, subst, append_assoc, append-nil, drop-cons, arith}
use Rattle.std.specs.List.{AllByRecursion, slice_get}
use Rattle.std.proofs.lemmas.Bool.{eq-eqb, ne_eqb, cases_eq}
use Rattle.std.proofs.lemmas.List.{get_or-replicate, length-replicate, get_or-drop, get_or-map, drop-drop, length-drop, length-map}
use Rattle.std.proofs.lemmas.Option.{slice_get-get_or}
use Rattle.psos_calls.specs.declared.entry.Entry.{Entry}
use Rattle.psos_calls.specs.Language.Script.{UserScript, Script}
use Rattle.psos_calls.specs.Language.Tests.{if_there}
use Rattle.psos_model.specs.Replay.{answered_of}
use Rattle.psos_model.specs.Text.Transcript.{line_text, user_lines, users_lines}
use Rattle.psos_print.specs.Positions.{entries_text, positions, lines_at, HasPositions, IsNoted}

-- the positions so far, and those of the entries that are left
pub record HasSoFar (n : ℕ) (lists : List (List ℕ)) (at : ℕ) (left all : List Entry) : Type 0 where
  pub count : length lists ≡ n
  pub each : (u : ℕ) → u < n → get_or lists u [] ++ positions u at left ≡ positions u 0 all

pub so_far_none : (n : ℕ) (lists : List (List ℕ)) (all : List Entry) → lists ≡ replicate n [] → HasSoFar n lists 0 all all
so_far_none n lists all is = record {
  count = ap length is ∙ length-replicate n [];
  each = λ u h. ap (λ l. l ++ positions u 0 all) (ap (λ l. get_or l u []) is ∙ get_or-replicate n u [] [] h);
}

-- an entry of this user comes next, or one of another
positions_own : (u at : ℕ) (e : Entry) (es : List Entry) → e.user ≡ u → positions u at (e ∷ es) ≡ at ∷ positions u (at + 1) es
positions_own u at e es is = ap (λ (b : Bool). cond b (at ∷ positions u (at + 1) es) (positions u (at + 1) es)) (eq-eqb e.user u is)

positions_other : (u at : ℕ) (e : Entry) (es : List Entry) → e.user ≢ u → positions u at (e ∷ es) ≡ positions u (at + 1) es
positions_other u at e es apart = ap (λ (b : Bool). cond b (at ∷ positions u (at + 1) es) (positions u (at + 1) es)) (ne_eqb e.user u apart)

pub so_far_more : (n : ℕ) (old new : List (List ℕ)) (at next : ℕ) (e : Entry) (left es all : List Entry)
    → HasSoFar n old at left all → left ≡ e ∷ es → IsNoted old new e.user at → next ≡ at + 1 → HasSoFar n new next es all
so_far_more n old new at next e left es all far is noted on = record {
  count = noted.count ∙ far.count;
  each = λ u h. ap (λ k. get_or new u [] ++ positions u k es) on ∙ by_user u h (cases_eq e.user u);
}
  where
    before : (u : ℕ) → u < n → get_or old u [] ++ positions u at (e ∷ es) ≡ positions u 0 all
    before u h = ap (λ l. get_or old u [] ++ positions u at l) (sym is) ∙ far.each u h

    by_user : (u : ℕ) → u < n → (e.user ≡ u) ⊎ (e.user ≢ u) → get_or new u [] ++ positions u (at + 1) es ≡ positions u 0 all
    by_user u h (inl own) =
        let within : e.user < length old = omega (arith, own, h, far.count) in
        let here : get_or new u [] ≡ get_or old u [] ++ at ∷ [] = ap (λ k. get_or new k []) (sym own) ∙ noted.here within ∙ ap (λ k. get_or old k [] ++ at ∷ []) own in
        ap (λ l. l ++ positions u (at + 1) es) here ∙ append_assoc (get_or old u []) (at ∷ []) (positions u (at + 1) es)
        ∙ ap (λ l. get_or old u [] ++ l) (sym (positions_own u at e es own)) ∙ before u h
    by_user u h (inr apart) =
        ap (λ l. l ++ positions u (at + 1) es) (noted.others u (λ same. apart (sym same)))
        ∙ ap (λ l. get_or old u [] ++ l) (sym (positions_other u at e es apart)) ∙ before u h

pub so_far_all : (n : ℕ) (lists : List (List ℕ)) (at : ℕ) (left all : List Entry) → HasSoFar n lists at left all → left ≡ [] → HasPositions n lists all
so_far_all n lists at left all far none = record {
  count = far.count;
  each = λ u h. sym (append-nil (get_or lists u [])) ∙ ap (λ l. get_or lists u [] ++ positions u at l) (sym none) ∙ far.each u h;
}

-- positions lie within the entries
pub positions_within : (u at m : ℕ) (es : List Entry) → at + length es ≤ m → AllByRecursion (λ p. p < m) (positions u at es)
positions_within u at m [] h = tt
positions_within u at m (e ∷ es) h = by_user (positions_within u (at + 1) m es (omega (arith, h))) (cases_eq e.user u)
  where
    by_user : AllByRecursion (λ p. p < m) (positions u (at + 1) es) → (e.user ≡ u) ⊎ (e.user ≢ u) → AllByRecursion (λ p. p < m) (positions u at (e ∷ es))
    by_user rest (inl own) =
        let both : AllByRecursion (λ p. p < m) (at ∷ positions u (at + 1) es) = (omega (arith, h), rest) in
        subst (AllByRecursion (λ p. p < m)) (sym (positions_own u at e es own)) both
    by_user rest (inr apart) = subst (AllByRecursion (λ p. p < m)) (sym (positions_other u at e es apart)) rest

-- of those that are left from a position, the first stands there, and the others are left from the next
first_left : {X : Type 0} (xs : List X) (i : ℕ) (x : X) (rest : List X) → drop i xs ≡ x ∷ rest → slice_get xs i ≡ Some x
first_left xs i x rest is =
    let within : i < length xs = omega (arith, length-drop i xs, ap length is) in
    let at : i ≡ i + 0 = omega arith in
    let here : get_or xs i x ≡ x = ap (λ n. get_or xs n x) at ∙ sym (get_or-drop i xs 0 x) ∙ ap (λ l. get_or l 0 x) is in
    slice_get-get_or xs i x within ∙ ap Some here

next_left : {X : Type 0} (xs : List X) (i : ℕ) (x : X) (rest : List X) → drop i xs ≡ x ∷ rest → drop (i + 1) xs ≡ rest
next_left xs i x rest is = sym (drop-drop 1 i xs) ∙ ap (drop 1) is

-- the lines at a user's positions are that user's lines
pub lines_are : (name : List ℕ) (all : List Entry) (u at : ℕ) (es : List Entry) → drop at all ≡ es
    → lines_at name all (positions u at es) ≡ user_lines name u at (map answered_of es)
lines_are name all u at [] is = refl
lines_are name all u at (e ∷ es) is = by_user (lines_are name all u (at + 1) es (next_left all at e es is)) (cases_eq e.user u)
  where
    later : List ℕ
    later = user_lines name u (at + 1) (map answered_of es)

    by_user : lines_at name all (positions u (at + 1) es) ≡ user_lines name u (at + 1) (map answered_of es)
        → (e.user ≡ u) ⊎ (e.user ≢ u) → lines_at name all (positions u at (e ∷ es)) ≡ user_lines name u at (map answered_of (e ∷ es))
    by_user rest (inl own) =
        ap (lines_at name all) (positions_own u at e es own)
        ∙ ap (λ o. if_there o [] (λ q. line_text name at (answered_of q)) ++ lines_at name all (positions u (at + 1) es)) (first_left all at e es is)
        ∙ ap (λ l. line_text name at (answered_of e) ++ l) rest
        ∙ ap (λ (b : Bool). cond b (line_text name at (answered_of e)) [] ++ later) (sym (eq-eqb e.user u own))
    by_user rest (inr apart) =
        ap (lines_at name all) (positions_other u at e es apart) ∙ rest
        ∙ ap (λ (b : Bool). cond b (line_text name at (answered_of e)) [] ++ later) (sym (ne_eqb e.user u apart))

-- the list from a position on begins with what stands there
drop_at : {X : Type 0} (xs : List X) (i : ℕ) (d : X) → i < length xs → drop i xs ≡ get_or xs i d ∷ drop (i + 1) xs
drop_at xs i d h =
    let next : suc i ≡ i + 1 = omega arith in
    drop-cons xs i d h ∙ ap (λ n. get_or xs i d ∷ drop n xs) next

-- the lines from a position on begin with that of the entry there
pub lines_next : (name : List ℕ) (all : List Entry) (ps : List ℕ) (i : ℕ) (e : Entry) → i < length ps → get_or ps i 0 < length all → e ≡ get_or all (get_or ps i 0) e
    → lines_at name all (drop i ps) ≡ line_text name (get_or ps i 0) (answered_of e) ++ lines_at name all (drop (i + 1) ps)
lines_next name all ps i e h within is =
    let here : slice_get all (get_or ps i 0) ≡ Some e = slice_get-get_or all (get_or ps i 0) e within ∙ ap Some (sym is) in
    ap (lines_at name all) (drop_at ps i 0 h)
    ∙ ap (λ o. if_there o [] (λ q. line_text name (get_or ps i 0) (answered_of q)) ++ lines_at name all (drop (i + 1) ps)) here

-- the users' lines from a user on begin with those at that user's positions
pub users_next : (users : List UserScript) (lists : List (List ℕ)) (all : List Entry) (user : UserScript) (name ps : List ℕ) (u i : ℕ)
    → HasPositions (length users) lists all → u ≡ i → i < length users → user ≡ get_or users i user → name ≡ user.name → ps ≡ get_or lists u []
    → users_lines (drop i users) u (map answered_of all) ≡ lines_at name all ps ++ users_lines (drop (i + 1) users) (u + 1) (map answered_of all)
users_next users lists all user name ps u i gathered same h is named here =
    let own : ps ≡ positions u 0 all = here ∙ gathered.each u (omega (arith, same, h)) in
    let lines : lines_at name all ps ≡ user_lines user.name u 0 (map answered_of all) = ap (lines_at name all) own ∙ ap (λ n. lines_at n all (positions u 0 all)) named ∙ lines_are user.name all u 0 all refl in
    let next : drop i users ≡ user ∷ drop (i + 1) users = drop_at users i user h ∙ ap (λ x. x ∷ drop (i + 1) users) (sym is) in
    ap (λ l. users_lines l u (map answered_of all)) next ∙ ap (λ l. l ++ users_lines (drop (i + 1) users) (u + 1) (map answered_of all)) (sym lines)

-- a list that stands at a position among many
pub list_at : {X : Type 0} (f : X → List ℕ) (lists : List X) (n : ℕ) (all : List Entry) (u : ℕ) (x : X)
    → HasPositions n (map f lists) all → u < n → x ≡ get_or lists u x → f x ≡ get_or (map f lists) u []
list_at f lists n all u x gathered h is =
    let within : u < length lists = omega (arith, h, gathered.count, length-map lists f) in
    ap f is ∙ sym (get_or-map f lists u x [] within)

-- what holds of each element holds of one
pub all_at : (P : ℕ → Type 0) (xs : List ℕ) (i : ℕ) → AllByRecursion P xs → i < length xs → P (get_or xs i 0)
all_at P [] i all h = absurd (omega (arith, h))
all_at P (x ∷ xs) zero all h = all.0
all_at P (x ∷ xs) (suc i) all h = all_at P xs i all.1 (omega (arith, h))

-- so a user's positions lie within the entries
pub own_within : (n : ℕ) (lists : List (List ℕ)) (all : List Entry) (ps : List ℕ) (u : ℕ)
    → HasPositions n lists all → u < n → ps ≡ get_or lists u [] → AllByRecursion (λ p. p < length all) ps
own_within n lists all ps u gathered h here =
    let own : ps ≡ positions u 0 all = here ∙ gathered.each u h in
    let few : 0 + length all ≤ length all = omega arith in
    subst (AllByRecursion (λ p. p < length all)) (sym own) (positions_within u 0 (length all) all few)

-- the transcript of a script's users is that of the script
pub text_is : (s : Script) (users : List UserScript) (all entries : List Entry) (piece : List ℕ)
    → users ≡ s.users → entries ≡ all → piece ≡ [] → piece ++ users_lines users 0 (map answered_of entries) ≡ entries_text s all
text_is s users all entries piece own same none =
    ap (λ l. l ++ users_lines users 0 (map answered_of entries)) none ∙ ap (λ l. users_lines l 0 (map answered_of entries)) own
    ∙ ap (λ l. users_lines s.users 0 (map answered_of l)) same
