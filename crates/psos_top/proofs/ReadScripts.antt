-- What was read, and what is made of it.
use Rattle.std.proofs.Common.{◌≡◌, ℕ, ◌<◌, ◌≤◌, List, length, sym, subst}
use Rattle.std.specs.Prelude.{Result, Ok, Err, IfOk, IfErr}
use Rattle.std.specs.Io.KnownBytes.{Consumes, IsAtEnd}
use Rattle.psos_calls.specs.Language.Script.{Script}
use Rattle.psos_model.specs.Text.Spelling.{IsScript}
use Rattle.psos_script.specs.declared.fault.ReadFault.{ReadFault}
use Rattle.psos_script.specs.declared.fault.ReadFault.TheVariants as R
use Rattle.psos_script.specs.Answers.{IsFirst}
use Rattle.psos_script.specs.Answers.{SpellsNone as ReadsNone}
use Rattle.psos_script.specs.Fault.{fault_of}
use Rattle.psos_top.specs.declared.open_fault.OpenFault.{OpenFault}
use Rattle.psos_top.specs.declared.open_fault.OpenFault.TheVariants as faults
use Rattle.psos_top.specs.Outcome.{Stream, WasRead}
use Rattle.psos_top.specs.Runs.{HasFault, HasRead, read_for_run}
use Rattle.psos_top.proofs.FirstFault.{stands}
use Rattle.psos_top.proofs.CommandEnds.{was_read}

-- ---- by the bytes

by_bytes : (input : Stream) (bytes : List ℕ) (read : Result Script ReadFault) → Consumes input.before input.now bytes → (length bytes < 1048577 → IsAtEnd input.now)
    → IfOk read (λ s. IsScript bytes s) → IfErr read (λ e. IsFirst (fault_of bytes) e) → IfErr read (λ e. ReadsNone bytes e) → input.faults_before ≤ input.faults_now
    → HasRead (λ (s : Script). s) input (read_for_run read)
by_bytes input bytes (Ok s) consumes end found first none later = record { found = was_read input.before input.now bytes s consumes end found; fault = tt; later = later }
by_bytes input bytes (Err (R.Script f)) consumes end found first none later = record { found = tt; fault = stands input.before input.now bytes f.line f.cause consumes end first none; later = later }
by_bytes input bytes (Err (R.Memory e)) consumes end found first none later = record { found = tt; fault = tt; later = later }

pub script_read : (input : Stream) (bytes seen : List ℕ) (read : Result Script ReadFault) (found_is : Result Script OpenFault) → found_is ≡ read_for_run read → seen ≡ bytes
    → Consumes input.before input.now bytes → (length bytes < 1048577 → IsAtEnd input.now)
    → IfOk read (λ s. IsScript seen s) → IfErr read (λ e. IsFirst (fault_of seen) e) → IfErr read (λ e. ReadsNone seen e) → input.faults_before ≤ input.faults_now
    → HasRead (λ (s : Script). s) input found_is
script_read input bytes seen read found_is is same consumes end found first none later =
    let P : List ℕ → Type 0 = λ b. Consumes input.before input.now b × (length b < 1048577 → IsAtEnd input.now) in
    let all : P seen = subst P (sym same) (consumes, end) in
    let Q : Result Script OpenFault → Type 0 = λ r. HasRead (λ (s : Script). s) input r in
    subst Q (sym is) (by_bytes input seen read all.0 all.1 found first none later)

-- ---- what is made of a script

-- the script of what is made
pub made_of : {T U : Type 0} (from : T → Script) (of : U → Script) (input : Stream) (read : Result T OpenFault) (t : T) (u : U) → read ≡ Ok t → of u ≡ from t
    → HasRead from input read → HasRead of input (Ok u)
made_of {T} {U} from of input read t u is same h =
    let P : Result T OpenFault → Type 0 = λ r. IfOk r (λ x. WasRead input.before input.now (from x)) in
    record { found = subst (WasRead input.before input.now) (sym same) (subst P is h.found); fault = tt; later = h.later }

-- the fault stays
pub not_made : {T U : Type 0} (from : T → Script) (of : U → Script) (input : Stream) (read : Result T OpenFault) (e : OpenFault) → read ≡ Err e → HasRead from input read → HasRead of input (Err e)
not_made {T} {U} from of input read e is h =
    let P : Result T OpenFault → Type 0 = λ r. IfErr r (HasFault input) in
    record { found = tt; fault = subst P is h.fault; later = h.later }

-- memory was wanting for it
pub no_memory_for : {T U : Type 0} (from : T → Script) (of : U → Script) (input : Stream) (read : Result T OpenFault) → HasRead from input read → HasRead of input (Err faults.Memory)
no_memory_for from of input read h = record { found = tt; fault = tt; later = h.later }

-- ---- back again

pub found_of : {T : Type 0} (of : T → Script) (input : Stream) (read : Result T OpenFault) (t : T) → read ≡ Ok t → HasRead of input read → WasRead input.before input.now (of t)
found_of {T} of input read t is h =
    let P : Result T OpenFault → Type 0 = λ r. IfOk r (λ x. WasRead input.before input.now (of x)) in
    subst P is h.found

pub fault_of_read : {T : Type 0} (of : T → Script) (input : Stream) (read : Result T OpenFault) (e : OpenFault) → read ≡ Err e → HasRead of input read → HasFault input e
fault_of_read {T} of input read e is h =
    let P : Result T OpenFault → Type 0 = λ r. IfErr r (HasFault input) in
    subst P is h.fault
