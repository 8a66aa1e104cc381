-- How the printing of a run ends.
use Rattle.std.proofs.Common.{◌≡◌, ℕ, ◌≤◌, List, [], ◌++◌, length, Option, Some, None, ◌⊎◌, inl, inr, refl, sym, ap, ◌∙◌, subst, append_assoc, append-nil, arith}
use Rattle.std.specs.Prelude.{Result, Ok, Err, IfErr, IfSome, IsSomeAnd, option_map}
use Rattle.std.specs.Io.KnownBytes.{Appends, Keeps}
use Rattle.std.proofs.KnownBytes.{Appends-trans, Appends-nil, Appends-kept}
use Rattle.std.proofs.lemmas.List.{length-map}
use Rattle.psos_io.specs.Bytes.{AppendsFront}
use Rattle.psos_io.specs.Causes.{Rose}
use Rattle.psos_calls.specs.declared.entry.Entry.{Entry}
use Rattle.psos_calls.specs.Language.Script.{Script}
use Rattle.psos_model.specs.Replay.{System, order_of, AreFaithful}
use Rattle.psos_model.specs.Text.Transcript.{users_lines, transcript}
use Rattle.psos_model.specs.Text.Output.{calls_of, done_text, printed, output}
use Rattle.psos_core.specs.declared.levels.Levels.{Levels}
use Rattle.psos_core.specs.declared.parts.Parts.{Parts}
use Rattle.psos_core.specs.System.{system_of}
use Rattle.psos_print.specs.declared.fault.PrintFault.{PrintFault}
use Rattle.psos_print.specs.declared.fault.PrintFault.TheVariants as F
use Rattle.psos_print.specs.Positions.{entries_text}
use Rattle.psos_print.proofs.Pieces.{begun_front, front_begun}
use Rattle.psos_journal.specs.declared.stop_cause.StopCause.{StopCause}
use Rattle.psos_journal.specs.declared.stop_cause.StopCause.TheVariants.{Store, Memory}
use Rattle.psos_top.specs.declared.command.Command.{Command}
use Rattle.psos_top.specs.Orders.{IsRunBy}
use Rattle.psos_top.specs.Outcome.{Stream, stream, Given, Writes, stopped_text, RunEnds, count_at_end, StoreIsLeft}
use Rattle.psos_top.specs.Runs.{IsLeftBy, IsStatusOf, LeavesFront, HasPrinted, HasPrintedRun}

-- what holds of what is there
pub there : {A : Type 0} (P : A → Type 0) (o : Option A) (a : A) → o ≡ Some a → IfSome o P → P a
there {A} P o a is h = subst (λ (q : Option A). IfSome q P) is h

-- what holds of each error holds of a result
pub if_err : {T E : Type 0} (P : E → Type 0) (r : Result T E) → ((e : E) → P e) → IfErr r P
if_err P (Ok x) h = tt
if_err P (Err e) h = h e

-- a front of a text is one of a longer text
pub front_of_more : (a b : Option (List ℕ)) (text more : List ℕ) → AppendsFront a b text → AppendsFront a b (text ++ more)
front_of_more a b text more front =
    let put = begun_front a b text front in
    front_begun a b (text ++ more) (record {
      written = put.written;
      left = put.left ++ more;
      appended = put.appended;
      whole = sym (append_assoc put.written put.left more) ∙ ap (λ l. l ++ more) put.whole;
    })

-- the transcript was begun
pub leaves_front : (out : Stream) (text line : List ℕ) → AppendsFront out.before out.now text → (e : PrintFault) → LeavesFront out text line e
leaves_front out text line front (F.Memory e) = front
leaves_front out text line front F.Write = front_of_more out.before out.now text line front

-- the transcript was written, and the line behind it was begun
pub line_begun : (a b c : Option (List ℕ)) (text line : List ℕ) → Appends a b text → AppendsFront b c line → AppendsFront a c (text ++ line)
line_begun a b c text line put front =
    let last = begun_front b c line front in
    front_begun a c (text ++ line) (record {
      written = text ++ last.written;
      left = last.left;
      appended = Appends-trans a b c _ _ put last.appended;
      whole = append_assoc text last.written last.left ∙ ap (λ l. text ++ l) last.whole;
    })

-- ---- what was printed, by what the writes came to

module _ (out : Stream) (text line : List ℕ) (later : out.faults_before ≤ out.faults_now) (status : ℕ) where
  pub printed_whole : status ≡ 0 → Appends out.before out.now (text ++ line) → HasPrinted out text line status
  printed_whole is put = record {
    done = λ h. put;
    cut = λ h. absurd (omega (arith, is, h));
    cause = λ h. absurd (omega (arith, is, h));
    stopped = λ h. absurd (omega (arith, is, h));
    memory = λ h. absurd (omega (arith, is, h));
    later = later;
  }

  pub printed_cut : status ≡ 4 → AppendsFront out.before out.now (text ++ line) → Rose out.faults_before out.faults_now → HasPrinted out text line status
  printed_cut is front rose = record {
    done = λ h. absurd (omega (arith, is, h));
    cut = λ h. front;
    cause = λ h. rose;
    stopped = λ h. absurd (omega (arith, is, h));
    memory = λ h. absurd (omega (arith, is, h));
    later = later;
  }

  pub printed_stop : status ≡ 5 → Writes out (text ++ stopped_text) → HasPrinted out text line status
  printed_stop is wrote = record {
    done = λ h. absurd (omega (arith, is, h));
    cut = λ h. absurd (omega (arith, is, h));
    cause = λ h. absurd (omega (arith, is, h));
    stopped = λ h. wrote;
    memory = λ h. absurd (omega (arith, is, h));
    later = later;
  }

  pub printed_front : status ≡ 6 → AppendsFront out.before out.now text → HasPrinted out text line status
  printed_front is front = record {
    done = λ h. absurd (omega (arith, is, h));
    cut = λ h. absurd (omega (arith, is, h));
    cause = λ h. absurd (omega (arith, is, h));
    stopped = λ h. absurd (omega (arith, is, h));
    memory = λ h. front;
    later = later;
  }

-- nothing was written
pub front_of_nothing : (a b : Option (List ℕ)) (text : List ℕ) → Keeps a b → AppendsFront a b text
front_of_nothing a b text keeps = (0, Appends-kept a a b [] (Appends-nil a) keeps)

-- a whole text is a front of it
pub front_of_whole : (a b : Option (List ℕ)) (text : List ℕ) → Appends a b text → AppendsFront a b text
front_of_whole a b text put = front_begun a b text (record { written = text; left = []; appended = put; whole = append-nil text })

-- ---- what entries print

-- what faithful entries print is the transcript of their order, and with the last line its output
transcript_is : (s : Script) (es : List Entry) → AreFaithful s es → entries_text s es ≡ transcript s (order_of es)
transcript_is s es faithful = ap (λ all. users_lines s.users 0 all) faithful.answered

output_is : (s : Script) (es : List Entry) → AreFaithful s es → printed s es ≡ output s (order_of es)
output_is s es faithful =
    let many : length es ≡ length (order_of es) = sym (length-map es (λ (e : Entry). e.user)) in
    ap (λ text. text ++ done_text (length es) (calls_of es)) (transcript_is s es faithful)
    ∙ ap (λ n. transcript s (order_of es) ++ done_text n (calls_of es)) many
    ∙ ap (λ all. transcript s (order_of es) ++ done_text (length (order_of es)) (calls_of all)) faithful.replayed

-- ---- the statuses

-- by why the run was stopped: there is no other one
pub status_is : (stop : Option StopCause) (status : ℕ) → IsStatusOf stop status → (status ≡ 0) ⊎ (status ≡ 4) ⊎ (status ≡ 5) ⊎ (status ≡ 6)
status_is None status (inl zero) = inl zero
status_is None status (inr (inl four)) = inr (inl four)
status_is None status (inr (inr six)) = inr (inr (inr six))
status_is (Some Store) status (inl five) = inr (inr (inl five))
status_is (Some Store) status (inr six) = inr (inr (inr six))
status_is (Some Memory) status six = inr (inr (inr six))

-- at 0 and 4 it was not
pub not_stopped : (stop : Option StopCause) (status : ℕ) → IsStatusOf stop status → (status ≡ 0) ⊎ (status ≡ 4) → stop ≡ None
not_stopped None status is h = refl
not_stopped (Some Store) status (inl five) (inl zero) = absurd (omega (arith, five, zero))
not_stopped (Some Store) status (inl five) (inr four) = absurd (omega (arith, five, four))
not_stopped (Some Store) status (inr six) (inl zero) = absurd (omega (arith, six, zero))
not_stopped (Some Store) status (inr six) (inr four) = absurd (omega (arith, six, four))
not_stopped (Some Memory) status six (inl zero) = absurd (omega (arith, six, zero))
not_stopped (Some Memory) status six (inr four) = absurd (omega (arith, six, four))

-- at 5 it was for the store
pub for_store : (stop : Option StopCause) (status : ℕ) → IsStatusOf stop status → status ≡ 5 → stop ≡ Some Store
for_store None status (inl zero) five = absurd (omega (arith, zero, five))
for_store None status (inr (inl four)) five = absurd (omega (arith, four, five))
for_store None status (inr (inr six)) five = absurd (omega (arith, six, five))
for_store (Some Store) status is five = refl
for_store (Some Memory) status six five = absurd (omega (arith, six, five))

-- ---- the end

-- what holds of levels holds of the system that they are
pub of_levels : {B : Type 0} (P : System → Type 0) (levels : Option (Levels B)) → IsSomeAnd levels (λ (l : Levels B). P (system_of l)) → IsSomeAnd (option_map (λ (l : Levels B). system_of l) levels) P
of_levels P None h = absurd h
of_levels P (Some l) h = h

-- what a command gives of what a run left
abbrev pub given_of : {B : Type 0} → Parts B → ℕ → ℕ → Given
given_of {B} parts start status = record { status = status; entries = parts.entries; left = option_map (λ (l : Levels B). system_of l) parts.levels; store_before = start; store_now = parts.store_faults }

pub run_printed : {B : Type 0} (faults : B → ℕ) (command : Command) (out : Stream) (s : Script) (parts : Parts B) (start status : ℕ) → IsLeftBy faults start command s parts
    → IsStatusOf parts.stopped status → HasPrintedRun out s parts.entries status
    → RunEnds command out (given_of parts start status) s
run_printed {B} faults command out s parts start status left is put =
    let es = parts.entries in
    let text : entries_text s es ≡ transcript s (order_of es) = transcript_is s es left.so_far.faithful in
    let whole : printed s es ≡ output s (order_of es) = output_is s es left.so_far.faithful in
    record {
      which = status_is parts.stopped status is;
      run = λ h. of_levels (IsRunBy command s es) parts.levels (left.whole (not_stopped parts.stopped status is h));
      done = λ h. subst (Appends out.before out.now) whole (put.done h);
      cut = λ h. subst (AppendsFront out.before out.now) whole (put.cut h);
      cause = put.cause;
      so_far = left.so_far;
      store = λ h. left.rose (for_store parts.stopped status is h);
      none = λ h. ap (λ o. option_map (λ (l : Levels B). system_of l) o) (left.gone (for_store parts.stopped status is h));
      stopped = λ h. subst (Writes out) (ap (λ t. t ++ stopped_text) text) (put.stopped h);
      memory = λ h. subst (AppendsFront out.before out.now) text (put.memory h);
      later = put.later;
    }

-- the same where what was written and the status have other names
pub run_closed : {B K : Type 0} (faults : B → ℕ) (command : Command) (s : Script) (parts : Parts B) (start : ℕ) (took : K → Option (List ℕ)) (fails : K → ℕ) (old new put : K) (status k : ℕ) → IsLeftBy faults start command s parts
    → new ≡ put → status ≡ k → IsStatusOf parts.stopped k → HasPrintedRun (stream took fails old put) s parts.entries k → RunEnds command (stream took fails old new) (given_of parts start status) s
run_closed {B} {K} faults command s parts start took fails old new put status k left wrote is stop printed =
    let P : ℕ → Type 0 = λ n. RunEnds command (stream took fails old new) (given_of parts start n) s in
    let Q : K → Type 0 = λ o. RunEnds command (stream took fails old o) (given_of parts start k) s in
    subst P (sym is) (subst Q (sym wrote) (run_printed faults command (stream took fails old put) s parts start k left stop printed))

-- why a run was stopped, by another name
pub stopped_so : (stop cause : Option StopCause) (status : ℕ) → stop ≡ cause → IsStatusOf cause status → IsStatusOf stop status
stopped_so stop cause status is h = subst (λ (o : Option StopCause). IsStatusOf o status) (sym is) h

-- ---- the store

-- what holds of one that is there, where it is missing
none_there : {X : Type 0} (P : X → Type 0) (o : Option X) → o ≡ None → IsSomeAnd o P → ⊥
none_there {X} P o none is = subst (λ (q : Option X). IsSomeAnd q P) none is

-- a run whose levels are missing was stopped
was_stopped : (stop : Option StopCause) (status : ℕ) → IsStatusOf stop status → (stop ≡ None → ⊥) → (status ≡ 5) ⊎ (status ≡ 6)
was_stopped None status is some = absurd (some refl)
was_stopped (Some Store) status is some = is
was_stopped (Some Memory) status six some = inr six

-- of each store that is handed back
of_store : {B X : Type 0} (P : Type 0) (levels : Option X) (store : Option B) → IfSome store (λ b. levels ≡ None) → (levels ≡ None → P) → IfSome store (λ b. P)
of_store P levels None apart then = tt
of_store P levels (Some b) apart then = then apart

-- the count is that of the store, wherever it lies
counted : {X B : Type 0} (of : X → ℕ) (faults : B → ℕ) (levels : Option X) (store : Option B) (start now : ℕ) → IfSome levels (λ l. now ≡ of l) → (levels ≡ None → IsSomeAnd store (λ b. now ≡ faults b))
    → now ≡ count_at_end (option_map of levels) (option_map faults store) start
counted of faults (Some l) store start now within back = within
counted of faults None (Some b) start now within back = back refl
counted of faults None None start now within back = absurd (back refl)

pub store_left : {B : Type 0} (faults : B → ℕ) (command : Command) (out : Stream) (s : Script) (parts : Parts B) (start status : ℕ) → IsLeftBy faults start command s parts → IsStatusOf parts.stopped status
    → StoreIsLeft faults start out (record { status = status; entries = parts.entries; levels = parts.levels; store = parts.store; store_faults = parts.store_faults })
store_left {B} faults command out s parts start status left is = record {
  back = record {
    only = of_store ((status ≡ 5) ⊎ (status ≡ 6)) parts.levels parts.store left.apart
        (λ none. was_stopped parts.stopped status is (λ going. none_there (λ (l : Levels B). IsRunBy command s parts.entries (system_of l)) parts.levels none (left.whole going)));
    apart = left.apart;
    stopped = λ five none. none_there (λ b. parts.store_faults ≡ faults b) parts.store none (left.back (left.gone (for_store parts.stopped status is five)));
    unopened = λ six none nothing. absurd (none_there (λ b. parts.store_faults ≡ faults b) parts.store none (left.back nothing));
  };
  count = counted (λ (l : Levels B). faults l.pages.store) faults parts.levels parts.store start parts.store_faults left.within left.back;
  later = left.later;
}
