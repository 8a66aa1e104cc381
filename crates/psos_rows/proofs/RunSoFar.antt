-- A run so far, request by request.
use Rattle.std.proofs.Common.{◌≡◌, ℕ, zero, suc, ◌+◌, ◌<◌, List, [], ◌∷◌, ◌++◌, length, map, refl, sym, ap, subst, ◌∙◌, arith, length-append}
use Rattle.std.specs.Prelude.{IsTrue}
use Rattle.std.proofs.lemmas.List.{map-append, length-map}
use Rattle.psos_calls.specs.declared.line.Line.{Line}
use Rattle.psos_calls.specs.Language.Script.{Script, IsWellFormed}
use Rattle.psos_model.specs.Flat.{Flat}
use Rattle.psos_model.specs.Flat.Boot.{boot}
use Rattle.psos_model.specs.Answer.{answer}
use Rattle.psos_model.specs.Run.{IsLegalFrom, run, answers, has_left}
use Rattle.psos_model.specs.Sound.{IsSound}
use Rattle.psos_model.specs.Laws.{numbers}
use Rattle.psos_model.proofs.AnswerBounds.{at_most_two}
use Rattle.psos_model.proofs.Orders.{run_append, answers_more, legal_more}
use Rattle.psos_print.specs.Line.{answered_in}
use Rattle.psos_laws.proofs.SoundRuns.{answers_kept}
use Rattle.psos_laws.proofs.BootSoundness.{boot_sound, boot_start}
use Rattle.psos_laws.proofs.OrderLengths.{orders_end}
use Rattle.psos_rows.specs.Lines.{order_in, AreLinesOf}
use Rattle.psos_rows.specs.Running.{IsRunning, IsNext}

-- ---- numbers

plus_zero : (n : ℕ) → n ≡ n + 0
plus_zero n = omega arith

shifted : (n k : ℕ) → (n + 1) + k ≡ n + suc k
shifted n k = omega arith

next_is : (n : ℕ) → suc n ≡ n + 1
next_is n = omega arith

from_zero : (n : ℕ) → n ≡ 0 + n
from_zero n = omega arith

numbers_more : (k n : ℕ) → numbers (suc k) n ≡ numbers k n ++ (n + k) ∷ []
numbers_more zero n = ap (λ m. m ∷ []) (plus_zero n)
numbers_more (suc k) n = ap (λ ms. n ∷ ms) (numbers_more k (n + 1) ∙ ap (λ m. numbers k (n + 1) ++ m ∷ []) (shifted n k))

-- ---- a run so far

-- n requests are answered, and these are their lines
pub record IsSoFar (s : Script) (f : Flat) (lines : List Line) (n : ℕ) : Type 0 where
  pub running : IsRunning s f n
  pub state : f ≡ run s (order_in lines)
  pub legal : IsLegalFrom s (boot s) (order_in lines)
  pub answers_are : map answered_in lines ≡ answers s (order_in lines)
  pub stamps : map (λ (l : Line). l.stamp) lines ≡ numbers n 0
  pub count : length lines ≡ n

pub so_far_start : (s : Script) → IsWellFormed s → IsSoFar s (boot s) [] 0
so_far_start s w = record {
  running = record { sound = boot_sound s w; low = omega arith };
  state = refl;
  legal = tt;
  answers_are = refl;
  stamps = refl;
  count = refl;
}

-- the order with the user of one line more
pub order_next : (s : Script) (f g : Flat) (lines : List Line) (n u : ℕ) (l : Line) → IsNext s f u n g l → order_in (lines ++ l ∷ []) ≡ order_in lines ++ u ∷ []
order_next s f g lines n u l next = map-append (λ (k : Line). k.user) lines (l ∷ []) ∙ ap (λ v. order_in lines ++ v ∷ []) next.user

pub so_far_next : (s : Script) → IsWellFormed s → (f g : Flat) (lines : List Line) (n u : ℕ) (l : Line) → IsSoFar s f lines n → IsTrue (has_left s f.users u) → IsNext s f u n g l
    → IsSoFar s g (lines ++ l ∷ []) (n + 1)
so_far_next s w f g lines n u l h left next =
    let order : order_in (lines ++ l ∷ []) ≡ order_in lines ++ u ∷ [] = order_next s f g lines n u l next in
    let now : g ≡ (answer s (run s (order_in lines)) u).0 = next.state ∙ ap (λ (e : Flat). (answer s e u).0) h.state in
    let said : answered_in l ≡ (answer s (run s (order_in lines)) u).1 = next.answer_is ∙ ap (λ (e : Flat). (answer s e u).1) h.state in
    let two = at_most_two s f u in
    let rises : g.next ≡ (answer s f u).0.next = ap (λ (e : Flat). e.next) next.state in
    let low = h.running.low in
    let longer = length-append lines (l ∷ []) in
    record {
      running = record {
        sound = subst (IsSound s) (sym next.state) (answers_kept s f u w h.running.sound);
        low = omega (arith, two, rises, low);
      };
      state = now ∙ sym (run_append s (order_in lines) (u ∷ []) (boot s)) ∙ ap (run s) (sym order);
      legal = subst (IsLegalFrom s (boot s)) (sym order) (legal_more s (boot s) (order_in lines) u h.legal (subst (λ (e : Flat). IsTrue (has_left s e.users u)) h.state left));
      answers_are = map-append answered_in lines (l ∷ []) ∙ ap (λ said. said ++ answered_in l ∷ []) h.answers_are
          ∙ ap (λ a. answers s (order_in lines) ++ a ∷ []) said
          ∙ sym (answers_more s (boot s) (order_in lines) u) ∙ ap (answers s) (sym order);
      stamps = map-append (λ (k : Line). k.stamp) lines (l ∷ []) ∙ ap (λ ms. ms ++ l.stamp ∷ []) h.stamps
          ∙ ap (λ m. numbers n 0 ++ m ∷ []) (next.stamp ∙ from_zero n) ∙ sym (numbers_more n 0) ∙ ap (λ m. numbers m 0) (next_is n);
      count = omega (arith, longer, h.count);
    }

-- they are the lines of their order
pub so_far_told : (s : Script) (f : Flat) (lines : List Line) (n : ℕ) → IsSoFar s f lines n → AreLinesOf s (order_in lines) lines
so_far_told s f lines n h = record {
  users = refl;
  answers_are = h.answers_are;
  stamps = h.stamps ∙ ap (λ m. numbers m 0) (sym h.count);
}

-- after so many no user has a request left
pub so_far_few : (s : Script) → IsWellFormed s → (f : Flat) (lines : List Line) (n u : ℕ) → IsSoFar s f lines n → IsTrue (has_left s f.users u) → n < 32768
so_far_few s w f lines n u h left =
    let few = orders_end s (boot s) (order_in lines ++ u ∷ []) w (boot_start s w)
    (legal_more s (boot s) (order_in lines) u h.legal (subst (λ (e : Flat). IsTrue (has_left s e.users u)) h.state left)) in
    let longer = length-append (order_in lines) (u ∷ []) in
    let same = length-map lines (λ (k : Line). k.user) in
    omega (arith, few, longer, same, h.count)
