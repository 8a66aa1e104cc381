-- How a command ends, by what it came to.
use Rattle.std.proofs.Common.{◌≡◌, ℕ, ◌<◌, ◌≤◌, List, [], ◌++◌, length, Option, Some, None, ◌⊎◌, inl, inr, sym, ap, ◌∙◌, subst, arith, append-nil}
use Rattle.std.specs.Prelude.{IfSome, IsSomeAnd}
use Rattle.std.specs.Io.KnownBytes.{Consumes, IsAtEnd, Keeps}
use Rattle.psos_io.specs.Causes.{Rose}
use Rattle.psos_calls.specs.declared.entry.Entry.{Entry}
use Rattle.psos_calls.specs.Language.Script.{Script}
use Rattle.psos_model.specs.Text.Spelling.{IsScript}
use Rattle.psos_model.specs.Run.{IsComplete}
use Rattle.psos_model.specs.Replay.{System, order_of}
use Rattle.psos_script.proofs.Outcome.{one_script}
use Rattle.psos_script.specs.declared.fault.ScriptFault.{ScriptFault}
use Rattle.psos_top.specs.declared.command.Command.{Command}
use Rattle.psos_top.specs.declared.outcome.Outcome.{Outcome}
use Rattle.psos_top.specs.Outcome.{Stream, Given, Holds, HoldsNone, SpellsNone, WasRead, Writes, IsFaulty, IsRefused, IsRunStatus, HasNoRun, IsNoRun, RunEnds, RanToEnd, Ends, StoreEnds, given_by, fault_line, read_fault_text}
use Rattle.psos_top.specs.Orders.{IsRunBy}

-- ---- what an input holds

-- no script, and the bytes spell one
not_none : (input : Option (List ℕ)) (s : Script) → HoldsNone input → IfSome input (λ bytes. IsScript bytes s) → ⊥
not_none None s none spelled = absurd none
not_none (Some bytes) s none spelled = none s spelled

-- a script, and the bytes spell none
not_held : (input : Option (List ℕ)) (s : Script) → Holds s input → SpellsNone input → ⊥
not_held None s held none = absurd held
not_held (Some bytes) s held none = none s held

-- a script, and the bytes spell it
same_script : (input : Option (List ℕ)) (s t : Script) → Holds s input → IfSome input (λ bytes. IsScript bytes t) → t ≡ s
same_script None s t held spelled = absurd held
same_script (Some bytes) s t held spelled = one_script bytes t s spelled held

-- the order of a whole run is complete
pub order_complete : (command : Command) (s : Script) (entries : List Entry) (left : Option System) → IsSomeAnd left (IsRunBy command s entries) → IsComplete s (order_of entries)
order_complete command s entries None run = absurd run
order_complete command s entries (Some y) run = run.complete

-- all was read, and spells the script
pub was_read : (before now : Option (List ℕ)) (bytes : List ℕ) (s : Script) → Consumes before now bytes → (length bytes < 1048577 → IsAtEnd now) → IsScript bytes s → WasRead before now s
was_read None now bytes s read end is = record { formed = is.well_formed; spelled = tt; ended = end (omega (arith, is.short)) }
was_read (Some xs) None bytes s read end is = absurd read
was_read (Some xs) (Some rest) bytes s read end is =
    let none : rest ≡ [] = end (omega (arith, is.short)) in
    let same : bytes ≡ xs = sym (read ∙ ap (λ (ys : List ℕ). bytes ++ ys) none ∙ append-nil bytes) in
    record { formed = is.well_formed; spelled = (let P : List ℕ → Type 0 = λ ys. IsScript ys s in subst P same is); ended = none }

-- ---- the ends

-- the bytes are no script
refused_ends : (command : Command) (input out : Stream) (given : Given) → given.status ≡ 2 → IsRefused input out
    → IsNoRun given.entries given.left → input.faults_before ≤ input.faults_now → out.faults_before ≤ out.faults_now → Ends command input out given
refused_ends command input out given is refused none input_later out_later = record {
  which = inr (inl is);
  printed = λ h. absurd (omega (arith, is, h));
  refused = λ h. refused;
  read_fault = λ h. absurd (omega (arith, is, h));
  read_fault_line = λ h. absurd (omega (arith, is, h));
  write_fault = λ h. absurd (omega (arith, is, h));
  cut = λ h. absurd (omega (arith, is, h));
  stopped = λ h. absurd (omega (arith, is, h));
  memory = λ h. absurd (omega (arith, is, h));
  no_script = record { refuses = λ held calm. inl is };
  complete = record { runs = λ s held calm quiet. absurd (not_held input.before s held refused.faulty.none) };
  none = λ h. none;
  input_later = input_later;
  out_later = out_later;
}

-- the input failed
unread_ends : (command : Command) (input out : Stream) (given : Given) → given.status ≡ 3 → Rose input.faults_before input.faults_now → Writes out read_fault_text
    → IsNoRun given.entries given.left → input.faults_before ≤ input.faults_now → out.faults_before ≤ out.faults_now → Ends command input out given
unread_ends command input out given is rose text none input_later out_later = record {
  which = inr (inr (inl is));
  printed = λ h. absurd (omega (arith, is, h));
  refused = λ h. absurd (omega (arith, is, h));
  read_fault = λ h. rose;
  read_fault_line = λ h. text;
  write_fault = λ h. absurd (omega (arith, is, h));
  cut = λ h. absurd (omega (arith, is, h));
  stopped = λ h. absurd (omega (arith, is, h));
  memory = λ h. absurd (omega (arith, is, h));
  no_script = record { refuses = λ held calm. absurd (calm rose) };
  complete = record { runs = λ s held calm quiet. absurd (calm rose) };
  none = λ h. none;
  input_later = input_later;
  out_later = out_later;
}

-- memory ran out, and nothing was written
memory_ends : (command : Command) (input out : Stream) (given : Given) → given.status ≡ 6 → Keeps out.before out.now
    → IsNoRun given.entries given.left → input.faults_before ≤ input.faults_now → out.faults_before ≤ out.faults_now → Ends command input out given
memory_ends command input out given is keeps none input_later out_later = record {
  which = inr (inr (inr (inr (inr is))));
  printed = λ h. absurd (omega (arith, is, h));
  refused = λ h. absurd (omega (arith, is, h));
  read_fault = λ h. absurd (omega (arith, is, h));
  read_fault_line = λ h. absurd (omega (arith, is, h));
  write_fault = λ h. absurd (omega (arith, is, h));
  cut = λ h. absurd (omega (arith, is, h));
  stopped = λ h. absurd (omega (arith, is, h));
  memory = λ h. inl (record { text = keeps; none = none });
  no_script = record { refuses = λ held calm. inr is };
  complete = record { runs = λ s held calm quiet. inr (inr is) };
  none = λ h. none;
  input_later = input_later;
  out_later = out_later;
}

-- the statuses of a run
abbrev IsEnd : ℕ → Type 0
IsEnd status = (status ≡ 0) ⊎ (status ≡ 4) ⊎ (status ≡ 5) ⊎ (status ≡ 6)

status_is : (status : ℕ) → IsEnd status → IsRunStatus status
status_is status (inl zero) = inl zero
status_is status (inr (inl four)) = inr (inr (inr (inl four)))
status_is status (inr (inr (inl five))) = inr (inr (inr (inr (inl five))))
status_is status (inr (inr (inr six))) = inr (inr (inr (inr (inr six))))

-- no other number is one
no_other : (status n : ℕ) → IsEnd status → (n ≡ 0 → ⊥) → (n ≡ 4 → ⊥) → (n ≡ 5 → ⊥) → (n ≡ 6 → ⊥) → status ≡ n → ⊥
no_other status n (inl zero) not_0 not_4 not_5 not_6 is = not_0 (omega (arith, zero, is))
no_other status n (inr (inl four)) not_0 not_4 not_5 not_6 is = not_4 (omega (arith, four, is))
no_other status n (inr (inr (inl five))) not_0 not_4 not_5 not_6 is = not_5 (omega (arith, five, is))
no_other status n (inr (inr (inr six))) not_0 not_4 not_5 not_6 is = not_6 (omega (arith, six, is))

-- the script was read, and a run of it was printed, cut, stopped for the store, or out of memory
pub run_ends : (command : Command) (input out : Stream) (given : Given) (s : Script) → WasRead input.before input.now s
    → RunEnds command out given s → input.faults_before ≤ input.faults_now → Ends command input out given
run_ends command input out given s read run input_later = record {
  which = status_is given.status run.which;
  printed = λ h. (s, record { read = read; run = run.run (inl h); text = run.done h });
  refused = λ h. absurd (no_other given.status 2 run.which (omega arith) (omega arith) (omega arith) (omega arith) h);
  read_fault = λ h. absurd (no_other given.status 3 run.which (omega arith) (omega arith) (omega arith) (omega arith) h);
  read_fault_line = λ h. absurd (no_other given.status 3 run.which (omega arith) (omega arith) (omega arith) (omega arith) h);
  write_fault = run.cause;
  cut = λ h. (s, record { read = read; run = run.run (inr h); text = run.cut h });
  stopped = λ h. record { script = s; read = read; cause = run.store h; so_far = run.so_far; none = run.none h; text = run.stopped h };
  memory = λ h. inr (s, record { read = read; so_far = run.so_far; text = run.memory h });
  no_script = record { refuses = λ none calm. absurd (not_none input.before s none read.spelled) };
  complete = record { runs = λ t held calm quiet. whole t held quiet run.which };
  none = λ h. missing h;
  input_later = input_later;
  out_later = run.later;
}
  where
    -- the order is complete for each script that the bytes spell, since that is one only
    completed : (t : Script) → Holds t input.before → given.status ≡ 0 → IsComplete t (order_of given.entries)
    completed t held zero =
        let P : Script → Type 0 = λ x. IsComplete x (order_of given.entries) in
        subst P (same_script input.before t s held read.spelled) (order_complete command s given.entries given.left (run.run (inl zero)))

    whole : (t : Script) → Holds t input.before → (Rose out.faults_before out.faults_now → ⊥) → (given.status ≡ 0) ⊎ (given.status ≡ 4) ⊎ (given.status ≡ 5) ⊎ (given.status ≡ 6) → RanToEnd given t
    whole t held quiet (inl zero) = inl (zero, completed t held zero)
    whole t held quiet (inr (inl four)) = absurd (quiet (run.cause four))
    whole t held quiet (inr (inr (inl five))) = inr (inl (five, run.store five))
    whole t held quiet (inr (inr (inr six))) = inr (inr six)

    missing : HasNoRun given.status → IsNoRun given.entries given.left
    missing (inl one) = absurd (no_other given.status 1 run.which (omega arith) (omega arith) (omega arith) (omega arith) one)
    missing (inr (inl two)) = absurd (no_other given.status 2 run.which (omega arith) (omega arith) (omega arith) (omega arith) two)
    missing (inr (inr three)) = absurd (no_other given.status 3 run.which (omega arith) (omega arith) (omega arith) (omega arith) three)

-- ---- by what was read

pub no_script_ends : (command : Command) (input out : Stream) (given : Given) (fault : ScriptFault) → given.status ≡ 2 → IsFaulty input.before fault.line fault.cause → Writes out (fault_line fault.line fault.cause)
    → IsNoRun given.entries given.left → input.faults_before ≤ input.faults_now → out.faults_before ≤ out.faults_now → Ends command input out given
no_script_ends command input out given fault is faulty text none input_later out_later =
    refused_ends command input out given is (record { line = fault.line; cause = fault.cause; faulty = faulty; text = text }) none input_later out_later

-- ---- by how many calls of the store had failed before

pub ends_since : {B : Type 0} (command : Command) (input out : Stream) (outcome : Outcome B) (start before : ℕ) → start ≡ before → Ends command input out (given_by start outcome) → Ends command input out (given_by before outcome)
ends_since command input out outcome start before same h =
    let P : ℕ → Type 0 = λ n. Ends command input out (given_by n outcome) in
    subst P same h

pub store_since : {B : Type 0} (faults : B → ℕ) (input out : Stream) (outcome : Outcome B) (start before : ℕ) → start ≡ before → StoreEnds faults start input out outcome → StoreEnds faults before input out outcome
store_since faults input out outcome start before same h =
    let P : ℕ → Type 0 = λ n. StoreEnds faults n input out outcome in
    subst P same h
