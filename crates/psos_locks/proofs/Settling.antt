-- The members behind the locks of a request, one place after another. States docs/levels.md, "Journal".
use Rattle.std.proofs.Common.{◌≡◌, ℕ, ◌^◌, ◌<◌, List, [], ◌∷◌, length, Option, Some, None, refl, sym, ap, ◌∙◌, subst}
use Rattle.std.specs.Int.{bit_at}
use Rattle.std.specs.Int.Bits.{bit_xor, xor_assoc, xor_self, xor_zero_r}
use Rattle.psos_calls.specs.declared.entry.Entry.{Entry}
use Rattle.psos_calls.specs.Language.Script.{Script}
use Rattle.psos_calls.specs.Levels.{Levels}
use Rattle.psos_model.specs.Replay.{boot_system}
use Rattle.psos_histories.specs.Grips.{Grip, AreIn, AreFree}
use Rattle.psos_histories.specs.Closes.{bits_for, freed}
use Rattle.psos_histories.proofs.BitNames.{bits_are_names}
use Rattle.psos_histories.proofs.Requests.{held_here}
use Rattle.psos_locks.specs.Grips.{grips_in}
use Rattle.psos_locks.specs.Places.{named_by, left_by, MaySettle}

-- ---- names

-- with one place more
pub names_next : (u before names : ℕ) (place : Option Grip) (places : List (Option Grip)) → before ≡ bits_for u (grips_in places) → names ≡ named_by before place → names ≡ bits_for u (grips_in (place ∷ places))
names_next u before names None places e is = is ∙ e
names_next u before names (Some g) places e is = is ∙ ap (λ (b : ℕ). bit_xor b (2 ^ g.side.number)) e

-- ---- the pen

-- what is left of it behind one place more
pub left_next : (pen after end : ℕ) (place : Option Grip) (places : List (Option Grip)) → after ≡ named_by pen place → end ≡ left_by places after → end ≡ left_by (place ∷ places) pen
left_next pen after end place places e is = is ∙ ap (left_by places) e

-- what may be settled then
pub ready_next : (s : Script) (log more : List (Entry × ℕ)) (pen after : ℕ) (place : Option Grip) (places : List (Option Grip)) → more ≡ log → after ≡ named_by pen place → MaySettle s log (place ∷ places) pen → MaySettle s more places after
ready_next s log more pen after place places same e h =
    subst (λ (l : List (Entry × ℕ)). MaySettle s l places after) (sym same) (subst (MaySettle s log places) (sym e) h.1)

twice : (a b : ℕ) → bit_xor (bit_xor a b) b ≡ a
twice a b = xor_assoc a b b ∙ ap (bit_xor a) (xor_self b) ∙ xor_zero_r a

-- the bits of a user and of all places are the user's, when the places are entered
pub left_all : (u : ℕ) (places : List (Option Grip)) → left_by places (bits_for u (grips_in places)) ≡ 2 ^ u
left_all u [] = refl
left_all u (None ∷ places) = left_all u places
left_all u (Some g ∷ places) = ap (left_by places) (twice (bits_for u (grips_in places)) (2 ^ g.side.number)) ∙ left_all u places

-- locks that a request holds may be settled with entries that leave them free
pub all_ready : (s : Script) (u : ℕ) (l : Levels) (log : List (Entry × ℕ)) → u < length s.users → (places : List (Option Grip)) → AreIn (length s.users) l (grips_in places)
    → AreFree s (boot_system s) (freed log (grips_in places)) → MaySettle s log places (bits_for u (grips_in places))
all_ready s u l log below [] inside free = tt
all_ready s u l log below (None ∷ places) inside free = (tt, all_ready s u l log below places inside free)
all_ready s u l log below (Some g ∷ places) inside free =
    let n = length s.users in
    let gs = grips_in places in
    let bit : bit_at (bits_for u (g ∷ gs)) g.side.number ≡ 1 = ap (bit_at (bits_for u (g ∷ gs))) inside.0.number ∙ (bits_are_names n u l (g ∷ gs) below inside).locks g.lock (held_here g gs) in
    let rest = all_ready s u l log below places inside.3 free.1 in
    ((bit, free.0.whole refl), subst (MaySettle s log places) (sym (twice (bits_for u gs) (2 ^ g.side.number))) rest)

-- the same, said of equal entries and pens
pub ready_same : (s : Script) (log more : List (Entry × ℕ)) (pen after : ℕ) (places : List (Option Grip)) → more ≡ log → after ≡ pen → MaySettle s log places pen → MaySettle s more places after
ready_same s log more pen after places same e h = subst (λ (l : List (Entry × ℕ)). MaySettle s l places after) (sym same) (subst (MaySettle s log places) (sym e) h)
