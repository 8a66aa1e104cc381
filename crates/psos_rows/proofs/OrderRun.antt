-- A run in an order that is given, request by request.
use Rattle.std.proofs.Common.{◌≡◌, ℕ, ◌+◌, Bool, false, ◌<◌, ◌≤◌, List, [], ◌∷◌, ◌++◌, length, drop, get_or, if◌then◌else◌, refl, sym, ap, subst, ◌∙◌}
use Rattle.std.specs.Prelude.{IsTrue}
use Rattle.std.proofs.lemmas.List.{append-nil, append_assoc, drop_all, drop_more}
use Rattle.psos_calls.specs.declared.line.Line.{Line}
use Rattle.psos_calls.specs.Language.Script.{Script, IsWellFormed}
use Rattle.psos_model.specs.Flat.{Flat}
use Rattle.psos_model.specs.Flat.Boot.{boot}
use Rattle.psos_model.specs.Answer.{answer}
use Rattle.psos_model.specs.Run.{IsLegalFrom, has_left}
use Rattle.psos_rows.specs.Lines.{order_in, AreLinesOf}
use Rattle.psos_rows.specs.Fronts.{legal_front}
use Rattle.psos_rows.specs.Running.{IsNext}
use Rattle.psos_rows.proofs.RunSoFar.{IsSoFar, so_far_start, order_next, so_far_next, so_far_told, so_far_few}

-- ---- fronts

-- a user with a request left is of the front, and one without ends it
pub front_more : (s : Script) (f : Flat) (u : ℕ) (us : List ℕ) → IsTrue (has_left s f.users u) → legal_front s f (u ∷ us) ≡ u ∷ legal_front s (answer s f u).0 us
front_more s f u us left = ap (λ (b : Bool). if b then u ∷ legal_front s (answer s f u).0 us else []) left

pub front_ends : (s : Script) (f : Flat) (u : ℕ) (us : List ℕ) → has_left s f.users u ≡ false → legal_front s f (u ∷ us) ≡ []
front_ends s f u us none = ap (λ (b : Bool). if b then u ∷ legal_front s (answer s f u).0 us else []) none

-- a legal order is its own front
pub front_whole : (s : Script) (f : Flat) (us : List ℕ) → IsLegalFrom s f us → legal_front s f us ≡ us
front_whole s f [] legal = refl
front_whole s f (u ∷ us) legal = front_more s f u us legal.0 ∙ ap (λ (vs : List ℕ). u ∷ vs) (front_whole s (answer s f u).0 us legal.1)

-- ---- a run so far

-- the lines are those of a front of the order, of which this is left
pub record IsFrontSoFar (s : Script) (f : Flat) (order left : List ℕ) (lines : List Line) (n : ℕ) : Type 0 where
  pub so_far : IsSoFar s f lines n
  pub front : order_in lines ++ legal_front s f left ≡ legal_front s (boot s) order

pub front_start : (s : Script) → IsWellFormed s → (order : List ℕ) → IsFrontSoFar s (boot s) order order [] 0
front_start s w order = record { so_far = so_far_start s w; front = refl }

pub front_next : (s : Script) → IsWellFormed s → (f g : Flat) (order us : List ℕ) (lines : List Line) (n u : ℕ) (l : Line) → IsFrontSoFar s f order (u ∷ us) lines n
    → IsTrue (has_left s f.users u) → IsNext s f u n g l → IsFrontSoFar s g order us (lines ++ l ∷ []) (n + 1)
front_next s w f g order us lines n u l h left next = record {
  so_far = so_far_next s w f g lines n u l h.so_far left next;
  front = ap (λ (vs : List ℕ). vs ++ legal_front s g us) (order_next s f g lines n u l next)
      ∙ append_assoc (order_in lines) (u ∷ []) (legal_front s g us)
      ∙ ap (λ (e : Flat). order_in lines ++ u ∷ legal_front s e us) next.state
      ∙ ap (λ (vs : List ℕ). order_in lines ++ vs) (sym (front_more s f u us left))
      ∙ h.front;
}

-- ---- a run by the places of the order

-- so many users of the order have come
pub record IsAtPlace (s : Script) (f : Flat) (order : List ℕ) (lines : List Line) (i : ℕ) : Type 0 where
  pub front : IsFrontSoFar s f order (drop i order) lines i

pub place_start : (s : Script) → IsWellFormed s → (order : List ℕ) → IsAtPlace s (boot s) order [] 0
place_start s w order = record { front = front_start s w order }

-- the user that comes next is in front of those that are left
pub place_left : (s : Script) (f : Flat) (order : List ℕ) (lines : List Line) (i : ℕ) → IsAtPlace s f order lines i → i < length order
    → IsFrontSoFar s f order (get_or order i 0 ∷ drop (i + 1) order) lines i
place_left s f order lines i h within = subst (λ (us : List ℕ). IsFrontSoFar s f order us lines i) (drop_more order i 0 within) h.front

-- its stamp is the number of lines before, of which there are few
pub place_few : (s : Script) → IsWellFormed s → (f : Flat) (order : List ℕ) (lines : List Line) (i stamp : ℕ) → IsAtPlace s f order lines i → stamp ≡ length lines
    → IsTrue (has_left s f.users (get_or order i 0)) → stamp < 32768
place_few s w f order lines i stamp h same left =
    subst (λ (n : ℕ). n < 32768) (sym (same ∙ h.front.so_far.count)) (so_far_few s w f lines i (get_or order i 0) h.front.so_far left)

pub place_next : (s : Script) → IsWellFormed s → (f g : Flat) (order : List ℕ) (lines : List Line) (i stamp : ℕ) (l : Line) → IsAtPlace s f order lines i → i < length order
    → stamp ≡ length lines → IsTrue (has_left s f.users (get_or order i 0)) → IsNext s f (get_or order i 0) stamp g l → IsAtPlace s g order (lines ++ l ∷ []) (i + 1)
place_next s w f g order lines i stamp l h within same left next = record {
  front = front_next s w f g order (drop (i + 1) order) lines i (get_or order i 0) l (place_left s f order lines i h within) left
      (subst (λ (n : ℕ). IsNext s f (get_or order i 0) n g l) (same ∙ h.front.so_far.count) next);
}

-- ---- its end

-- the lines are told of the whole front
front_told : (s : Script) (f : Flat) (order : List ℕ) (lines : List Line) (n : ℕ) → IsSoFar s f lines n → order_in lines ++ [] ≡ legal_front s (boot s) order
    → AreLinesOf s (legal_front s (boot s) order) lines
front_told s f order lines n h e = subst (λ (us : List ℕ). AreLinesOf s us lines) (sym (append-nil (order_in lines)) ∙ e) (so_far_told s f lines n h)

-- where the next user has no request left
pub place_stops : (s : Script) (f : Flat) (order : List ℕ) (lines : List Line) (i : ℕ) → IsAtPlace s f order lines i → i < length order → has_left s f.users (get_or order i 0) ≡ false
    → AreLinesOf s (legal_front s (boot s) order) lines
place_stops s f order lines i h within none =
    let left = place_left s f order lines i h within in
    front_told s f order lines i left.so_far
    (ap (λ (vs : List ℕ). order_in lines ++ vs) (sym (front_ends s f (get_or order i 0) (drop (i + 1) order) none)) ∙ left.front)

-- where no user is left
pub place_done : (s : Script) (f : Flat) (order : List ℕ) (lines : List Line) (i : ℕ) → IsAtPlace s f order lines i → length order ≤ i
    → AreLinesOf s (legal_front s (boot s) order) lines
place_done s f order lines i h past =
    front_told s f order lines i h.front.so_far
    (ap (λ (us : List ℕ). order_in lines ++ legal_front s f us) (sym (drop_all i order past)) ∙ h.front.front)

-- a legal order is told whole
pub whole_told : (s : Script) (order : List ℕ) (lines : List Line) → AreLinesOf s (legal_front s (boot s) order) lines → IsLegalFrom s (boot s) order → AreLinesOf s order lines
whole_told s order lines told legal = subst (λ (us : List ℕ). AreLinesOf s us lines) (front_whole s (boot s) order legal) told
