-- How `load` ends, by what its run came to.
use Rattle.std.proofs.Common.{◌≡◌, ℕ, ◌≤◌, List, ◌++◌, length, Option, ◌⊎◌, inl, inr, sym, ap, ◌∙◌, subst, arith}
use Rattle.std.specs.Prelude.{IsSomeAnd, option_map}
use Rattle.std.specs.Io.KnownBytes.{Appends, Keeps}
use Rattle.std.proofs.lemmas.List.{length-map}
use Rattle.psos_io.specs.Bytes.{AppendsFront}
use Rattle.psos_io.specs.Causes.{Rose}
use Rattle.psos_calls.specs.declared.entry.Entry.{Entry}
use Rattle.psos_calls.specs.Language.Script.{Script}
use Rattle.psos_model.specs.Text.Spelling.{IsScript}
use Rattle.psos_model.specs.Text.Output.{calls_of, done_text}
use Rattle.psos_model.specs.Text.Load.{load_text, load_head, load_output, forms_text}
use Rattle.psos_model.specs.Run.{answers, IsComplete}
use Rattle.psos_model.specs.Replay.{order_of, AreFaithful}
use Rattle.psos_core.specs.declared.levels.Levels.{Levels}
use Rattle.psos_core.specs.declared.parts.Parts.{Parts}
use Rattle.psos_core.specs.System.{system_of}
use Rattle.psos_script.proofs.Outcome.{one_script}
use Rattle.psos_script.specs.declared.fault.ReadFault.{ReadFault}
use Rattle.psos_script.specs.declared.fault.ReadFault.TheVariants as R
use Rattle.psos_script.specs.declared.fault.ScriptFault.{ScriptFault}
use Rattle.psos_script.specs.Answers.{SpellsNone}
use Rattle.psos_top.specs.declared.command.Command.TheVariants.{Turns}
use Rattle.psos_top.specs.Orders.{IsRunBy}
use Rattle.psos_top.specs.Outcome.{Stream, stream, Given, Writes, stopped_text, IsNoRun, RanToEnd}
use Rattle.psos_top.specs.Runs.{IsLeftBy, IsStatusOf, HasPrinted}
use Rattle.psos_top.specs.Loading.{IsMadeFrom, counts_text, IsLoadedSoFar, LoadEnds}
use Rattle.psos_top.proofs.CommandEnds.{order_complete}
use Rattle.psos_top.proofs.RunPrinting.{status_is, not_stopped, for_store, of_levels, given_of, front_of_nothing}

-- ---- the script

-- a text that spells a script has no fault
pub no_fault : (bytes text : List ℕ) (s : Script) (e : ReadFault) (f : ScriptFault) → bytes ≡ text → e ≡ R.Script f → SpellsNone bytes e → IsScript text s → ⊥
no_fault bytes text s e f same is none spelled =
    let P : ReadFault → Type 0 = λ q. SpellsNone bytes q in
    let Q : List ℕ → Type 0 = λ b. IsScript b s in
    subst P is none s (subst Q (sym same) spelled)

-- ---- what is printed

-- what was put behind the first line is the output of the order
output_is : (users lines seed : ℕ) (head : List ℕ) (s : Script) (es : List Entry) → IsMadeFrom users lines seed head s → AreFaithful s es → head ++ counts_text es ≡ load_output users lines seed s (order_of es)
output_is users lines seed head s es made faithful =
    let many : length es ≡ length (order_of es) = sym (length-map es (λ (e : Entry). e.user)) in
    ap (λ text. text ++ counts_text es) made.head-is
    ∙ (ap (λ all. load_head users lines seed ++ (forms_text all ++ done_text (length es) (calls_of es))) faithful.answered
    ∙ (ap (λ n. load_head users lines seed ++ (forms_text (answers s (order_of es)) ++ done_text n (calls_of es))) many
    ∙ ap (λ all. load_head users lines seed ++ (forms_text (answers s (order_of es)) ++ done_text (length (order_of es)) (calls_of all))) faithful.replayed))

-- ---- the ends

-- no run was opened
pub load_unopened : (users lines seed : ℕ) (out : Stream) (given : Given) → given.status ≡ 6 → Keeps out.before out.now
    → IsNoRun given.entries given.left → out.faults_before ≤ out.faults_now → LoadEnds users lines seed out given
load_unopened users lines seed out given is keeps none later = record {
  which = inr (inr (inr is));
  printed = λ h. absurd (omega (arith, is, h));
  write_fault = λ h. absurd (omega (arith, is, h));
  cut = λ h. absurd (omega (arith, is, h));
  store_fault = λ h. absurd (omega (arith, is, h));
  stopped = λ h. absurd (omega (arith, is, h));
  stopped_run = λ h. absurd (omega (arith, is, h));
  none = λ h. none.left-none;
  memory = λ h. front_of_nothing out.before out.now (load_head users lines seed) keeps;
  unfinished = λ h. inl (record { text = keeps; none = none });
  complete = λ t held quiet. inr (inr is);
  out_later = later;
}

-- the script was made and run, as far as the run went
load_printed : {B : Type 0} (faults : B → ℕ) (users lines seed : ℕ) (out : Stream) (head : List ℕ) (s : Script) (parts : Parts B) (start status : ℕ) → IsMadeFrom users lines seed head s
    → IsLeftBy faults start (Turns seed) s parts → IsStatusOf parts.stopped status → HasPrinted out head (counts_text parts.entries) status
    → LoadEnds users lines seed out (given_of parts start status)
load_printed {B} faults users lines seed out head s parts start status made left is put = record {
  which = which;
  printed = λ h. (s, record { spelled = made.spelled; run = whole (inl h); text = subst (Appends out.before out.now) text (put.done h) });
  write_fault = put.cause;
  cut = λ h. (s, record { spelled = made.spelled; run = whole (inr h); text = subst (AppendsFront out.before out.now) text (put.cut h) });
  store_fault = failed;
  stopped = λ h. subst (λ t. Writes out (t ++ stopped_text)) made.head-is (put.stopped h);
  stopped_run = λ h. (s, so_far);
  none = λ h. ap (λ o. option_map (λ (l : Levels B). system_of l) o) (left.gone (for_store parts.stopped status is h));
  memory = λ h. subst (AppendsFront out.before out.now) made.head-is (put.memory h);
  unfinished = λ h. inr (s, so_far);
  complete = λ t held quiet. ended t held quiet which;
  out_later = put.later;
}
  where
    which : (status ≡ 0) ⊎ (status ≡ 4) ⊎ (status ≡ 5) ⊎ (status ≡ 6)
    which = status_is parts.stopped status is

    text : head ++ counts_text parts.entries ≡ load_output users lines seed s (order_of parts.entries)
    text = output_is users lines seed head s parts.entries made left.so_far.faithful

    whole : (status ≡ 0) ⊎ (status ≡ 4) → IsSomeAnd (given_of parts start status).left (IsRunBy (Turns seed) s parts.entries)
    whole h = of_levels (IsRunBy (Turns seed) s parts.entries) parts.levels (left.whole (not_stopped parts.stopped status is h))

    failed : status ≡ 5 → Rose start parts.store_faults
    failed h = left.rose (for_store parts.stopped status is h)

    so_far : IsLoadedSoFar users lines seed (given_of parts start status) s
    so_far = record { spelled = made.spelled; so_far = left.so_far }

    -- the order is complete for each script that the text spells, since that is one only
    completed : (t : Script) → IsScript (load_text users lines seed) t → status ≡ 0 → IsComplete t (order_of parts.entries)
    completed t held zero =
        let P : Script → Type 0 = λ x. IsComplete x (order_of parts.entries) in
        subst P (one_script (load_text users lines seed) s t made.spelled held) (order_complete (Turns seed) s parts.entries (given_of parts start status).left (whole (inl zero)))

    ended : (t : Script) → IsScript (load_text users lines seed) t → (Rose out.faults_before out.faults_now → ⊥) → (status ≡ 0) ⊎ (status ≡ 4) ⊎ (status ≡ 5) ⊎ (status ≡ 6) → RanToEnd (given_of parts start status) t
    ended t held quiet (inl zero) = inl (zero, completed t held zero)
    ended t held quiet (inr (inl four)) = absurd (quiet (put.cause four))
    ended t held quiet (inr (inr (inl five))) = inr (inl (five, failed five))
    ended t held quiet (inr (inr (inr six))) = inr (inr six)

-- the same where what was written, the first line and the status have other names
pub load_closed : {B K : Type 0} (faults : B → ℕ) (users lines seed : ℕ) (head seen : List ℕ) (s : Script) (parts : Parts B) (start : ℕ) (took : K → Option (List ℕ)) (fails : K → ℕ) (old new put : K) (status k : ℕ) → IsMadeFrom users lines seed head s
    → IsLeftBy faults start (Turns seed) s parts → seen ≡ head → new ≡ put → status ≡ k → IsStatusOf parts.stopped k → HasPrinted (stream took fails old put) seen (counts_text parts.entries) k
    → LoadEnds users lines seed (stream took fails old new) (given_of parts start status)
load_closed {B} {K} faults users lines seed head seen s parts start took fails old new put status k made left same wrote is stop printed =
    let P : ℕ → Type 0 = λ n. LoadEnds users lines seed (stream took fails old new) (given_of parts start n) in
    let Q : K → Type 0 = λ o. LoadEnds users lines seed (stream took fails old o) (given_of parts start k) in
    let R : List ℕ → Type 0 = λ text. HasPrinted (stream took fails old put) text (counts_text parts.entries) k in
    subst P (sym is) (subst Q (sym wrote) (load_printed faults users lines seed (stream took fails old put) head s parts start k made left stop (subst R same printed)))
