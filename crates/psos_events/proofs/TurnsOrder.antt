-- The order of turns of a seed: there is one at most.
use Rattle.std.proofs.Common.{◌≡◌, ℕ, false, List, [], ◌∷◌, Some, None, refl, sym, ap, ◌∙◌, subst}
use Rattle.std.proofs.lemmas.Option.{same_Some}
use Rattle.psos_text.specs.Draws.{first_draw, next_draw}
use Rattle.psos_calls.specs.Language.Script.{Script}
use Rattle.psos_calls.specs.Language.User.{User}
use Rattle.psos_model.specs.Laws.{OneTurnsOrder}
use Rattle.psos_model.specs.Run.{has_left}
use Rattle.psos_model.specs.Replay.{boot_system, order_of}
use Rattle.psos_model.specs.Events.{CoreState, core_of, core_step, core_after, is_enabled}
use Rattle.psos_model.specs.Events.Turns.{enabled_in, picked, AreDrawn}

-- whose request is not left has no event that is enabled
not_enabled : (s : Script) (c : CoreState) (u : ℕ) → has_left s c.users u ≡ false → is_enabled s c u ≡ false
not_enabled s c u none = rw none refl

-- where nobody has a request left, nobody's event is enabled
none_enabled : (s : Script) (c : CoreState) → ((u : ℕ) → has_left s c.users u ≡ false) → (xs : List User) → enabled_in s c xs ≡ []
none_enabled s c over [] = refl
none_enabled s c over (x ∷ xs) = rw (not_enabled s c x.number (over x.number)) (none_enabled s c over xs)

-- and nobody is drawn
none_drawn : (s : Script) (c : CoreState) (x u : ℕ) → ((v : ℕ) → has_left s c.users v ≡ false) → picked x (enabled_in s c c.users) ≡ Some u → ⊥
none_drawn s c x u over drawn =
    let none : None ≡ Some u = sym (ap (λ (us : List ℕ). picked x us) (none_enabled s c over c.users)) ∙ drawn in
    absurd cc

-- two lists of turns that are drawn from one state, to where nobody has a request left, are one
one_list : (s : Script) (c : CoreState) (x : ℕ) (a b : List ℕ) → AreDrawn s c x a → AreDrawn s c x b
    → ((u : ℕ) → has_left s (core_after s c a).users u ≡ false) → ((u : ℕ) → has_left s (core_after s c b).users u ≡ false) → a ≡ b
one_list s c x [] [] drawn other over end = refl
one_list s c x [] (v ∷ b) drawn other over end = absurd (none_drawn s c (next_draw x) v over other.0)
one_list s c x (u ∷ a) [] drawn other over end = absurd (none_drawn s c (next_draw x) u end drawn.0)
one_list s c x (u ∷ a) (v ∷ b) drawn other over end =
    let same : v ≡ u = same_Some v u (sym other.0 ∙ drawn.0) in
    let P : ℕ → Type 0 = λ w. AreDrawn s (core_step s c w) (next_draw x) b in
    let Q : ℕ → Type 0 = λ w. (k : ℕ) → has_left s (core_after s (core_step s c w) b).users k ≡ false in
    ap (λ (w : ℕ). w ∷ a) (sym same) ∙ ap (λ (xs : List ℕ). v ∷ xs) (one_list s (core_step s c u) (next_draw x) a b drawn.1 (subst P same other.1) over (subst Q same end))

pub one_turns_order : OneTurnsOrder
one_turns_order s seed a b is other =
    let same = one_list s (core_of (boot_system s)) (first_draw seed) is.turns other.turns is.drawn other.drawn is.over other.over in
    sym is.closes ∙ ap (λ (us : List ℕ). order_of (core_after s (core_of (boot_system s)) us).entries) same ∙ other.closes
