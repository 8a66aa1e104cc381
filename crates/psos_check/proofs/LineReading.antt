-- What is read of a user line is what is spelled, and what is spelled is read again.
use Rattle.std.proofs.Common.{◌≡◌, ◌≢◌, ℕ, ◌^◌, ◌<◌, Bool, true, false, cond, ◌&&◌, eqb, ltb, leb, List, [], ◌∷◌, ◌++◌, length, codes, decimal, Option, Some, None, inl, inr, refl, sym, ap, subst, ◌∙◌, arith, append_assoc}
use Rattle.std.specs.List.{AllByRecursion, list_all}
use Rattle.std.proofs.lemmas.Bool.{and_parts, leb-true, le-leb, ltb-true, lt-ltb, eqb-true}
use Rattle.std.proofs.lemmas.List.{append_cancel_right}
use Rattle.psos_text.specs.Chain.{◌>>=◌}
use Rattle.psos_text.specs.Number.{is_digit, is_numeral, number_of}
use Rattle.psos_text.proofs.ReadingSteps.{bind_some, guard_some, some_is, none_some}
use Rattle.psos_text.proofs.NameLaws.{name_lacks}
use Rattle.psos_text.proofs.NumberLaws.{number_takes, number_again, number_lacks}
use Rattle.psos_calls.specs.Language.Script.{Script, user_script, IsUserScript, IsWellFormed}
use Rattle.psos_check.specs.declared.stamped.Stamped.{Stamped}
use Rattle.psos_check.specs.Cuts.{cut_at}
use Rattle.psos_check.specs.UserLine.{IsPlace, user_line, IsUserLine}
use Rattle.psos_check.specs.Reading.{user_of, place_parts, is_place, stamp_of, stamped_in, placed_in, user_line_in}
use Rattle.psos_check.proofs.CutLaws.{cut_takes, cut_again, cut_none, lacks_both, lacks_behind}
use Rattle.psos_check.proofs.UserNames.{nobody, all_at, user_takes, user_again}

-- the test passed, and there was a value
pub chosen_some : {A : Type 0} (t : Bool) (o : Option A) (x : A) → cond t o None ≡ Some x → (t ≡ true) × (o ≡ Some x)
chosen_some true o x e = (refl, e)
chosen_some false o x e = absurd cc

-- ---- numerals

both : (a b : Bool) → a ≡ true → b ≡ true → (a && b) ≡ true
both true true e f = refl
both true false e f = f
both false b e f = e

digits_lack : (sep : ℕ) (text : List ℕ) → is_digit sep ≡ false → list_all is_digit text ≡ true → AllByRecursion (λ b. b ≢ sep) text
digits_lack sep [] f h = tt
digits_lack sep (b ∷ bs) f h =
    let p = and_parts (is_digit b) (list_all is_digit bs) h in
    (λ e. absurd (differs p.0 e), digits_lack sep bs f p.1) where
      differs : is_digit b ≡ true → b ≡ sep → ⊥
      differs d e = cc (sym d, ap is_digit e, f)

numeral_lacks : (sep : ℕ) (text : List ℕ) → is_digit sep ≡ false → is_numeral text ≡ true → AllByRecursion (λ b. b ≢ sep) text
numeral_lacks sep text f h =
    let p = and_parts (leb 1 (length text) && list_all is_digit text) _ h in
    digits_lack sep text f (and_parts (leb 1 (length text)) (list_all is_digit text) p.0).1

-- ---- places

place_case : (text : List ℕ) (o : Option (List ℕ × List ℕ)) → cut_at 47 text ≡ o → place_parts text o ≡ true → IsPlace text
place_case text None e h = inl h
place_case text (Some p) e h =
    let q = and_parts (is_numeral p.0) (is_numeral p.1) h in
    inr (record { n = p.0; m = p.1; first = q.0; second = q.1; spelled = (cut_takes 47 text p e).parts })

place_takes : (text : List ℕ) → is_place text ≡ true → IsPlace text
unfolding is_place
place_takes text h = place_case text (cut_at 47 text) refl h

place_again : (text : List ℕ) → IsPlace text → is_place text ≡ true
unfolding is_place
place_again text (inl h) = ap (place_parts text) (cut_none 47 text (numeral_lacks 47 text refl h)) ∙ h
place_again text (inr h) =
    ap (λ (t : List ℕ). place_parts text (cut_at 47 t)) h.spelled
    ∙ ap (place_parts text) (cut_again 47 h.n h.m (numeral_lacks 47 h.n refl h.first))
    ∙ both (is_numeral h.n) (is_numeral h.m) h.first h.second

abbrev LacksSpace : List ℕ → Type 0
LacksSpace text = AllByRecursion (λ b. b ≢ 32) text

slash_differs : (let n : ℕ = 47 in n) ≢ 32
slash_differs e = absurd (omega (arith, e))

at_sign_differs : (let n : ℕ = 64 in n) ≢ 32
at_sign_differs e = absurd (omega (arith, e))

pair_lacks : (n m : List ℕ) → LacksSpace n → LacksSpace m → LacksSpace (n ++ 47 ∷ m)
pair_lacks n m g h = lacks_both 32 n (47 ∷ m) g (slash_differs, h)

place_lacks : (text : List ℕ) → IsPlace text → LacksSpace text
place_lacks text (inl h) = numeral_lacks 32 text refl h
place_lacks text (inr h) = subst LacksSpace (sym h.spelled) (pair_lacks h.n h.m (numeral_lacks 32 h.n refl h.first) (numeral_lacks 32 h.m refl h.second))

-- ---- stamps

small : (n m : ℕ) → cond (ltb n (2 ^ 32)) (Some n) None ≡ Some m → (n ≡ m) × (m < 2 ^ 32)
small n m e =
    let g = guard_some (ltb n (2 ^ 32)) n m e in
    let lt : n < 2 ^ 32 = ltb-true n (2 ^ 32) g.0 in
    (g.1, (let P : ℕ → Type 0 = λ k. k < 2 ^ 32 in subst P g.1 lt))

stamp_takes : (text : List ℕ) (n : ℕ) → stamp_of text ≡ Some n → (text ≡ 64 ∷ decimal n) × (n < 2 ^ 32)
unfolding stamp_of
stamp_takes [] n e = absurd cc
stamp_takes (b ∷ bs) n e =
    let g = chosen_some (eqb b 64) _ n e in
    let p = bind_some (number_of bs) _ n g.1 in
    let q = small p.0 n p.2 in
    let r = number_takes bs p.0 p.1 in
    (ap (λ (x : ℕ). x ∷ bs) (eqb-true b 64 g.0) ∙ ap (λ (t : List ℕ). 64 ∷ t) (r.0 ∙ ap (λ (m : ℕ). decimal m) q.0), q.1)

stamp_again : (n : ℕ) → n < 2 ^ 32 → stamp_of (64 ∷ decimal n) ≡ Some n
unfolding stamp_of
stamp_again n h = rw (number_again n (omega (arith, h)), lt-ltb n (2 ^ 32) h) refl

-- ---- what stands behind a place

-- the text has this stamp and at least one byte more
record IsStampedText (text : List ℕ) (stamp : ℕ) : Type 0 where
  rest : List ℕ
  small : stamp < 2 ^ 32
  some : 0 < length rest
  spelled : text ≡ 64 ∷ (decimal stamp ++ 32 ∷ rest)

stamped_takes : (user : ℕ) (text : List ℕ) (x : Stamped) → stamped_in user text ≡ Some x → (x.user ≡ user) × IsStampedText text x.stamp
unfolding stamped_in
stamped_takes user text x e =
    let p = bind_some (cut_at 32 text) _ x e in
    let q = bind_some (stamp_of p.0.0) _ x p.2 in
    let g = guard_some (leb 1 (length p.0.1)) (stamped user q.0) x q.2 in
    let c = cut_takes 32 text p.0 p.1 in
    let r = stamp_takes p.0.0 q.0 q.1 in
    let P : Stamped → Type 0 = λ y. (y.user ≡ user) × IsStampedText text y.stamp in
    subst P g.1 (refl, record { rest = p.0.1; small = r.1; some = omega (arith, leb-true 1 (length p.0.1) g.0); spelled = c.parts ∙ ap (λ (t : List ℕ). t ++ 32 ∷ p.0.1) r.0 }) where
      stamped : ℕ → ℕ → Stamped
      stamped user stamp = record { user = user; stamp = stamp }

stamped_again : (user stamp : ℕ) (rest : List ℕ) → stamp < 2 ^ 32 → 0 < length rest → stamped_in user (64 ∷ (decimal stamp ++ 32 ∷ rest)) ≡ Some (record { user = user; stamp = stamp })
unfolding stamped_in
stamped_again user stamp rest h some =
    let lacks : AllByRecursion (λ b. b ≢ 32) (64 ∷ decimal stamp) = (at_sign_differs, number_lacks 32 stamp refl (omega (arith, h))) in
    rw (cut_again 32 (64 ∷ decimal stamp) rest lacks, stamp_again stamp h, le-leb 1 (length rest) (omega (arith, some))) refl

-- ---- what stands behind a name

-- the text has a place, this stamp and at least one byte more
record IsPlacedText (text : List ℕ) (stamp : ℕ) : Type 0 where
  place : List ℕ
  rest : List ℕ
  placed : IsPlace place
  small : stamp < 2 ^ 32
  some : 0 < length rest
  spelled : text ≡ place ++ 32 ∷ 64 ∷ (decimal stamp ++ 32 ∷ rest)

placed_takes : (user : ℕ) (text : List ℕ) (x : Stamped) → placed_in user text ≡ Some x → (x.user ≡ user) × IsPlacedText text x.stamp
unfolding placed_in
placed_takes user text x e =
    let p = bind_some (cut_at 32 text) _ x e in
    let g = chosen_some (is_place p.0.0) (stamped_in user p.0.1) x p.2 in
    let c = cut_takes 32 text p.0 p.1 in
    let r = stamped_takes user p.0.1 x g.1 in (
      r.0,
      record {
        place = p.0.0;
        rest = r.1.rest;
        placed = place_takes p.0.0 g.0;
        small = r.1.small;
        some = r.1.some;
        spelled = c.parts ∙ ap (λ (t : List ℕ). p.0.0 ++ 32 ∷ t) r.1.spelled;
      },
    )

placed_again : (user stamp : ℕ) (place rest : List ℕ) → IsPlace place → stamp < 2 ^ 32 → 0 < length rest → placed_in user (place ++ 32 ∷ 64 ∷ (decimal stamp ++ 32 ∷ rest)) ≡ Some (record { user = user; stamp = stamp })
unfolding placed_in
placed_again user stamp place rest h small some =
    rw (cut_again 32 place (64 ∷ (decimal stamp ++ 32 ∷ rest)) (place_lacks place h), place_again place h) (stamped_again user stamp rest small some)

-- ---- user lines

-- the line without its line feed
abbrev line_body : List ℕ → List ℕ → ℕ → List ℕ → List ℕ
line_body name place stamp rest = name ++ 32 ∷ (place ++ 32 ∷ 64 ∷ (decimal stamp ++ 32 ∷ rest))

-- and with it
ended : (name place : List ℕ) (stamp : ℕ) (rest : List ℕ) → line_body name place stamp rest ++ 10 ∷ [] ≡ user_line name place stamp rest
ended name place stamp rest = simp append_assoc

rest_of_body : (name place : List ℕ) (stamp : ℕ) (rest : List ℕ) → AllByRecursion (λ b. b ≢ 10) (line_body name place stamp rest) → AllByRecursion (λ b. b ≢ 10) rest
rest_of_body name place stamp rest h =
    (lacks_behind 10 (decimal stamp) (32 ∷ rest) (lacks_behind 10 place (32 ∷ 64 ∷ (decimal stamp ++ 32 ∷ rest)) (lacks_behind 10 name (32 ∷ (place ++ 32 ∷ 64 ∷ (decimal stamp ++ 32 ∷ rest))) h).1).1.1).1

abbrev LacksFeed : List ℕ → Type 0
LacksFeed text = AllByRecursion (λ b. b ≢ 10) text

pub line_takes : (s : Script) (text : List ℕ) (x : Stamped) → AllByRecursion (λ b. b ≢ 10) text → user_line_in s text ≡ Some x → IsUserLine s (text ++ 10 ∷ []) x
unfolding user_line_in
line_takes s text x plain e =
    let p = bind_some (cut_at 32 text) _ x e in
    let u = bind_some (user_of s p.0.0) _ x p.2 in
    let c = cut_takes 32 text p.0 p.1 in
    let named = user_takes s p.0.0 u.0 u.1 in
    let r = placed_takes u.0 p.0.1 x u.2 in
    let body : text ≡ line_body (user_script s u.0).name r.1.place x.stamp r.1.rest = c.parts ∙ ap (λ (n : List ℕ). n ++ 32 ∷ p.0.1) (sym named.1) ∙ ap (λ (t : List ℕ). (user_script s u.0).name ++ 32 ∷ t) r.1.spelled in
    record {
      place = r.1.place;
      rest = r.1.rest;
      user = omega (arith, r.0, named.0);
      placed = r.1.placed;
      stamp = r.1.small;
      some = r.1.some;
      one_line = rest_of_body (user_script s u.0).name r.1.place x.stamp r.1.rest (subst LacksFeed body plain);
      spelled = ap (λ (t : List ℕ). t ++ 10 ∷ []) body ∙ ended (user_script s u.0).name r.1.place x.stamp r.1.rest ∙ ap (λ (u : ℕ). user_line (user_script s u).name r.1.place x.stamp r.1.rest) (sym r.0);
    }

-- no byte of a user's name is a space
name_lacks_space : (s : Script) (u : ℕ) → IsWellFormed s → u < length s.users → LacksSpace (user_script s u).name
name_lacks_space s u w lt = name_lacks 32 (user_script s u).name refl (all_at (IsUserScript (length s.codes)) s.users u nobody w.users lt).named

body_again : (s : Script) (x : Stamped) (place rest : List ℕ) → IsWellFormed s → x.user < length s.users → IsPlace place → x.stamp < 2 ^ 32 → 0 < length rest → user_line_in s (line_body (user_script s x.user).name place x.stamp rest) ≡ Some x
unfolding user_line_in
body_again s x place rest w lt placed small some =
    rw (cut_again 32 (user_script s x.user).name (place ++ 32 ∷ 64 ∷ (decimal x.stamp ++ 32 ∷ rest)) (name_lacks_space s x.user w lt), user_again s x.user w lt) (placed_again x.user x.stamp place rest placed small some)

pub line_again : (s : Script) (text : List ℕ) (x : Stamped) → IsWellFormed s → IsUserLine s (text ++ 10 ∷ []) x → user_line_in s text ≡ Some x
line_again s text x w h =
    let body : text ≡ line_body (user_script s x.user).name h.place x.stamp h.rest =
    append_cancel_right text (line_body (user_script s x.user).name h.place x.stamp h.rest) (10 ∷ []) (h.spelled ∙ sym (ended (user_script s x.user).name h.place x.stamp h.rest)) in
    ap (user_line_in s) body ∙ body_again s x h.place h.rest w h.user h.placed h.stamp h.some

-- ---- lines that are no user lines

feed_stands : (xs : List ℕ) → LacksFeed (xs ++ 10 ∷ []) → ⊥
feed_stands xs h = (lacks_behind 10 xs (10 ∷ []) h).0 refl

-- a line without a line feed is none
pub no_feed : (s : Script) (line : List ℕ) (x : Stamped) → AllByRecursion (λ b. b ≢ 10) line → IsUserLine s line x → ⊥
no_feed s line x h l = feed_stands (line_body (user_script s x.user).name l.place x.stamp l.rest) (subst LacksFeed (l.spelled ∙ sym (ended (user_script s x.user).name l.place x.stamp l.rest)) h)

-- ---- what a line says

-- what a line says is one thing
pub one_said : (s : Script) (line : List ℕ) (x y : Stamped) → IsWellFormed s → IsUserLine s line x → IsUserLine s line y → x ≡ y
one_said s line x y w l m =
    let body = line_body (user_script s x.user).name l.place x.stamp l.rest in
    let is : line ≡ body ++ 10 ∷ [] = l.spelled ∙ sym (ended (user_script s x.user).name l.place x.stamp l.rest) in
    let P : Stamped → List ℕ → Type 0 = λ x t. IsUserLine s t x in
    some_is x y (sym (line_again s body x w (subst (P x) is l)) ∙ line_again s body y w (subst (P y) is m))

-- `calls M` is no stamp with more behind it
calls_no_stamp : (user : ℕ) (m : List ℕ) → stamped_in user (codes "calls" ++ 32 ∷ m) ≡ None
unfolding stamped_in stamp_of
calls_no_stamp user m = refl

cond_none : (t : Bool) (o : Option Stamped) → o ≡ None → cond t o None ≡ None
cond_none true o e = e
cond_none false o e = refl

counts_no_place : (user n : ℕ) (m : List ℕ) → n < 2 ^ 64 → placed_in user (decimal n ++ 32 ∷ (codes "calls" ++ 32 ∷ m)) ≡ None
unfolding placed_in
counts_no_place user n m h = rw (cut_again 32 (decimal n) (codes "calls" ++ 32 ∷ m) (number_lacks 32 n refl h)) (cond_none (is_place (decimal n)) (stamped_in user (codes "calls" ++ 32 ∷ m)) (calls_no_stamp user m))

bind_none : (o : Option ℕ) (f : ℕ → Option Stamped) → ((u : ℕ) → f u ≡ None) → (o >>= f) ≡ None
bind_none None f h = refl
bind_none (Some u) f h = h u

done_no_user : (s : Script) (n : ℕ) (m : List ℕ) → n < 2 ^ 64 → user_line_in s (codes "done" ++ 32 ∷ (decimal n ++ 32 ∷ (codes "calls" ++ 32 ∷ m))) ≡ None
unfolding user_line_in
done_no_user s n m h = bind_none (user_of s (codes "done")) (λ u. placed_in u (decimal n ++ 32 ∷ (codes "calls" ++ 32 ∷ m))) (λ u. counts_no_place u n m h)

-- a line `done N calls M` is no user line
pub no_user_line : (s : Script) (line : List ℕ) (n : ℕ) (m : List ℕ) (x : Stamped) → IsWellFormed s → n < 2 ^ 64 → line ≡ (codes "done" ++ 32 ∷ (decimal n ++ 32 ∷ (codes "calls" ++ 32 ∷ m))) ++ 10 ∷ [] → IsUserLine s line x → ⊥
no_user_line s line n m x w h e l =
    let body = codes "done" ++ 32 ∷ (decimal n ++ 32 ∷ (codes "calls" ++ 32 ∷ m)) in
    none_some x (sym (done_no_user s n m h) ∙ line_again s body x w (subst (λ (t : List ℕ). IsUserLine s t x) e l))
