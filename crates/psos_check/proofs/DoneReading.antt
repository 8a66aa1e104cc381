-- What is read of a done line is what is spelled, and what is spelled is read again.
use Rattle.std.proofs.Common.{◌≡◌, ◌≢◌, ℕ, ◌^◌, ◌<◌, true, List, [], ◌∷◌, ◌++◌, codes, decimal, Some, refl, sym, ap, subst, ◌∙◌, append_assoc}
use Rattle.std.specs.List.{AllByRecursion}
use Rattle.std.specs.Str.{bytes_eq}
use Rattle.std.proofs.lemmas.List.{append_cancel_right}
use Rattle.std.proofs.lemmas.Slice.Eq.{bytes_eq-Decides}
use Rattle.psos_text.specs.Number.{number_of}
use Rattle.psos_text.proofs.ReadingSteps.{bind_some, some_is}
use Rattle.psos_text.proofs.NumberLaws.{number_takes, number_again, number_lacks}
use Rattle.psos_model.specs.Text.Output.{done_text}
use Rattle.psos_check.specs.Cuts.{cut_at}
use Rattle.psos_check.specs.DoneLine.{IsDoneLine}
use Rattle.psos_check.specs.Reading.{calls_in, counts_in, done_in}
use Rattle.psos_check.proofs.LineReading.{chosen_some}
use Rattle.psos_check.proofs.CutLaws.{cut_takes, cut_again, lacks_behind}

same_bytes : (xs ys : List ℕ) → bytes_eq xs ys ≡ true → xs ≡ ys
same_bytes xs ys e = (bytes_eq-Decides xs ys).0 e

-- ---- what stands behind the number of requests

calls_takes : (text : List ℕ) (m : ℕ) → calls_in text ≡ Some m → (text ≡ codes "calls " ++ decimal m) × (m < 2 ^ 64)
unfolding calls_in
calls_takes text m e =
    let p = bind_some (cut_at 32 text) _ m e in
    let g = chosen_some (bytes_eq p.0.0 (codes "calls")) (number_of p.0.1) m p.2 in
    let c = cut_takes 32 text p.0 p.1 in
    let n = number_takes p.0.1 m g.1 in
    (c.parts ∙ ap (λ (t : List ℕ). t ++ 32 ∷ p.0.1) (same_bytes p.0.0 (codes "calls") g.0) ∙ ap (λ (t : List ℕ). codes "calls " ++ t) n.0, n.1)

calls_again : (m : ℕ) → m < 2 ^ 64 → calls_in (codes "calls " ++ decimal m) ≡ Some m
unfolding calls_in
calls_again m h = number_again m h

-- ---- what stands behind `done`

counts_takes : (text : List ℕ) (c : ℕ × ℕ) → counts_in text ≡ Some c → (text ≡ decimal c.0 ++ (codes " calls " ++ decimal c.1)) × (c.0 < 2 ^ 64) × (c.1 < 2 ^ 64)
unfolding counts_in
counts_takes text c e =
    let p = bind_some (cut_at 32 text) _ c e in
    let n = bind_some (number_of p.0.0) _ c p.2 in
    let m = bind_some (calls_in p.0.1) _ c n.2 in
    let k = cut_takes 32 text p.0 p.1 in
    let a = number_takes p.0.0 n.0 n.1 in
    let b = calls_takes p.0.1 m.0 m.1 in
    let P : ℕ × ℕ → Type 0 = λ c. (text ≡ decimal c.0 ++ (codes " calls " ++ decimal c.1)) × (c.0 < 2 ^ 64) × (c.1 < 2 ^ 64) in
    subst P (some_is (n.0, m.0) c m.2) (k.parts ∙ ap (λ (t : List ℕ). t ++ 32 ∷ p.0.1) a.0 ∙ ap (λ (t : List ℕ). decimal n.0 ++ 32 ∷ t) b.0, a.1, b.1)

counts_again : (n m : ℕ) → n < 2 ^ 64 → m < 2 ^ 64 → counts_in (decimal n ++ (codes " calls " ++ decimal m)) ≡ Some (n, m)
unfolding counts_in
counts_again n m f g = rw (cut_again 32 (decimal n) (codes "calls " ++ decimal m) (number_lacks 32 n refl f), number_again n f, calls_again m g) refl

-- ---- done lines

-- the line without its line feed
abbrev done_body : ℕ → ℕ → List ℕ
done_body n m = codes "done " ++ (decimal n ++ (codes " calls " ++ decimal m))

ended : (n m : ℕ) → done_body n m ++ 10 ∷ [] ≡ done_text n m
ended n m = simp append_assoc

pub done_takes : (text : List ℕ) (c : ℕ × ℕ) → done_in text ≡ Some c → IsDoneLine (text ++ 10 ∷ [])
unfolding done_in
done_takes text c e =
    let p = bind_some (cut_at 32 text) _ c e in
    let g = chosen_some (bytes_eq p.0.0 (codes "done")) (counts_in p.0.1) c p.2 in
    let k = cut_takes 32 text p.0 p.1 in
    let a = counts_takes p.0.1 c g.1 in
    let body : text ≡ done_body c.0 c.1 = k.parts ∙ ap (λ (t : List ℕ). t ++ 32 ∷ p.0.1) (same_bytes p.0.0 (codes "done") g.0) ∙ ap (λ (t : List ℕ). codes "done " ++ t) a.0 in
    record { requests = c.0; calls = c.1; few_requests = a.1; few_calls = a.2; spelled = ap (λ (t : List ℕ). t ++ 10 ∷ []) body ∙ ended c.0 c.1 }

body_again : (n m : ℕ) → n < 2 ^ 64 → m < 2 ^ 64 → done_in (done_body n m) ≡ Some (n, m)
unfolding done_in
body_again n m f g = counts_again n m f g

pub done_again : (text : List ℕ) (h : IsDoneLine (text ++ 10 ∷ [])) → done_in text ≡ Some (h.requests, h.calls)
done_again text h =
    ap done_in (append_cancel_right text (done_body h.requests h.calls) (10 ∷ []) (h.spelled ∙ sym (ended h.requests h.calls)))
    ∙ body_again h.requests h.calls h.few_requests h.few_calls

-- ---- lines that are no done lines

-- a line without a line feed is none
pub no_feed : (line : List ℕ) → AllByRecursion (λ b. b ≢ 10) line → IsDoneLine line → ⊥
no_feed line h d =
    let P : List ℕ → Type 0 = λ t. AllByRecursion (λ b. b ≢ 10) t in
    (lacks_behind 10 (done_body d.requests d.calls) (10 ∷ []) (subst P (d.spelled ∙ sym (ended d.requests d.calls)) h)).0 refl

-- what a done line without its line feed is
pub body_of : (line : List ℕ) (h : IsDoneLine line) → line ≡ (codes "done" ++ 32 ∷ (decimal h.requests ++ 32 ∷ (codes "calls" ++ 32 ∷ decimal h.calls))) ++ 10 ∷ []
body_of line h = h.spelled ∙ sym (ended h.requests h.calls)
