-- A run in the serial order, request by request.
use Rattle.std.proofs.Common.{◌≡◌, ℕ, ◌+◌, ◌≤◌, Bool, true, false, List, [], ◌∷◌, ◌++◌, refl, sym, subst, arith}
use Rattle.psos_calls.specs.declared.line.Line.{Line}
use Rattle.psos_calls.specs.Language.Script.{Script, IsWellFormed}
use Rattle.psos_model.specs.Flat.{Flat}
use Rattle.psos_model.specs.Flat.Boot.{boot}
use Rattle.psos_model.specs.Run.{has_left}
use Rattle.psos_model.specs.Run.SerialOrder.{IsFirst, IsSerialFrom}
use Rattle.psos_model.proofs.Orders.{serial_more}
use Rattle.psos_rows.specs.Lines.{order_in}
use Rattle.psos_rows.specs.Serial.{IsSerialRun}
use Rattle.psos_rows.specs.Running.{IsNext}
use Rattle.psos_rows.proofs.RunSoFar.{IsSoFar, so_far_start, order_next, so_far_next, so_far_told, so_far_few}

-- always the first user with a request left was next
pub record IsSerialSoFar (s : Script) (f : Flat) (lines : List Line) (n : ℕ) : Type 0 where
  pub so_far : IsSoFar s f lines n
  pub serial : IsSerialFrom s (boot s) (order_in lines)

pub serial_start : (s : Script) → IsWellFormed s → IsSerialSoFar s (boot s) [] 0
serial_start s w = record { so_far = so_far_start s w; serial = tt }

pub serial_next : (s : Script) → IsWellFormed s → (f g : Flat) (lines : List Line) (n u : ℕ) (l : Line) → IsSerialSoFar s f lines n → IsFirst s f.users u → IsNext s f u n g l
    → IsSerialSoFar s g (lines ++ l ∷ []) (n + 1)
serial_next s w f g lines n u l h first next = record {
  so_far = so_far_next s w f g lines n u l h.so_far first.left next;
  serial = subst (IsSerialFrom s (boot s)) (sym (order_next s f g lines n u l next))
      (serial_more s (boot s) (order_in lines) u h.serial (subst (λ (e : Flat). IsFirst s e.users u) h.so_far.state first));
}

-- a run after which no user has a request left is whole
pub serial_whole : (s : Script) (f : Flat) (lines : List Line) (n : ℕ) → IsSerialSoFar s f lines n → ((u : ℕ) → has_left s f.users u ≡ false) → IsSerialRun s lines
serial_whole s f lines n h over = record {
  complete = record {
    legal = h.so_far.legal;
    over = subst (λ (e : Flat). (u : ℕ) → has_left s e.users u ≡ false) h.so_far.state over;
  };
  serial = h.serial;
  told = so_far_told s f lines n h.so_far;
}

-- no user has a request left after so many
pub serial_end : (s : Script) → IsWellFormed s → (f : Flat) (lines : List Line) (n : ℕ) → IsSerialSoFar s f lines n → 32768 ≤ n → (u : ℕ) → has_left s f.users u ≡ false
serial_end s w f lines n h all u = by_test (has_left s f.users u) refl
  where
    by_test : (b : Bool) → has_left s f.users u ≡ b → has_left s f.users u ≡ false
    by_test true e =
        let few = so_far_few s w f lines n u h.so_far e in
        absurd (omega (arith, few, all))
    by_test false e = e
