-- Orders with one user more at their end: what runs, replays and entries are then, and that they stay legal and serial.
use Rattle.std.proofs.Common.{◌≡◌, ℕ, suc, List, [], ◌∷◌, ◌++◌, length, refl, ap}
use Rattle.std.specs.Prelude.{IsTrue}
use Rattle.psos_calls.specs.declared.entry.Entry.{Entry}
use Rattle.psos_calls.specs.Language.Script.{Script}
use Rattle.psos_model.specs.Flat.{Flat}
use Rattle.psos_model.specs.Answer.{Answered, answer}
use Rattle.psos_model.specs.Run.{has_left, run_from, answers_from, IsLegalFrom}
use Rattle.psos_model.specs.Replay.{System, replay_step, replay_from, entries_from, order_of}
use Rattle.psos_model.specs.Run.SerialOrder.{IsFirst, IsSerialFrom}

-- ---- runs

-- a run of an order is that of its rest from where its front leads
pub run_append : (s : Script) (order more : List ℕ) (f : Flat) → run_from s f (order ++ more) ≡ run_from s (run_from s f order) more
run_append s [] more f = refl
run_append s (u ∷ us) more f = run_append s us more (answer s f u).0

pub answers_more : (s : Script) (f : Flat) (us : List ℕ) (u : ℕ) → answers_from s f (us ++ u ∷ []) ≡ answers_from s f us ++ (answer s (run_from s f us) u).1 ∷ []
answers_more s f [] u = refl
answers_more s f (v ∷ us) u = ap (λ (rest : List Answered). (answer s f v).1 ∷ rest) (answers_more s (answer s f v).0 us u)

pub legal_more : (s : Script) (f : Flat) (us : List ℕ) (u : ℕ) → IsLegalFrom s f us → IsTrue (has_left s (run_from s f us).users u) → IsLegalFrom s f (us ++ u ∷ [])
legal_more s f [] u legal left = (left, tt)
legal_more s f (v ∷ us) u legal left = (legal.0, legal_more s (answer s f v).0 us u legal.1 left)

pub serial_more : (s : Script) (f : Flat) (us : List ℕ) (u : ℕ) → IsSerialFrom s f us → IsFirst s (run_from s f us).users u → IsSerialFrom s f (us ++ u ∷ [])
serial_more s f [] u h first = (first, tt)
serial_more s f (v ∷ us) u h first = (h.0, serial_more s (answer s f v).0 us u h.1 first)

-- a serial order is legal
pub serial_legal : (s : Script) (f : Flat) (us : List ℕ) → IsSerialFrom s f us → IsLegalFrom s f us
serial_legal s f [] h = tt
serial_legal s f (u ∷ us) h = (h.0.left, serial_legal s (answer s f u).0 us h.1)

-- ---- replays

pub order_more : (entries : List Entry) (e : Entry) → order_of (entries ++ e ∷ []) ≡ order_of entries ++ e.user ∷ []
order_more [] e = refl
order_more (x ∷ entries) e = ap (λ (us : List ℕ). x.user ∷ us) (order_more entries e)

pub order_length : (entries : List Entry) → length (order_of entries) ≡ length entries
order_length [] = refl
order_length (e ∷ es) = ap suc (order_length es)

pub replay_more : (s : Script) (y : System) (us : List ℕ) (u : ℕ) → replay_from s y (us ++ u ∷ []) ≡ (replay_step s (replay_from s y us) u).0
replay_more s y [] u = refl
replay_more s y (v ∷ us) u = replay_more s (replay_step s y v).0 us u

pub entries_more : (s : Script) (y : System) (us : List ℕ) (u : ℕ) → entries_from s y (us ++ u ∷ []) ≡ entries_from s y us ++ (replay_step s (replay_from s y us) u).1 ∷ []
entries_more s y [] u = refl
entries_more s y (v ∷ us) u = ap (λ (es : List Entry). (replay_step s y v).1 ∷ es) (entries_more s (replay_step s y v).0 us u)
