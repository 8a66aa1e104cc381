-- Bytes have no fault exactly where they spell a script, and what the reader answers.
use Rattle.std.proofs.Common.{◌≡◌, ◌↔◌, ℕ, List, Option, Some, None, Result, Ok, Err, sym, subst, ◌∙◌}
use Rattle.std.specs.Prelude.{IfOk, IfErr}
use Rattle.psos_text.specs.Lines.{lines_of}
use Rattle.psos_calls.specs.Language.Script.{Script}
use Rattle.psos_model.specs.Text.Spelling.{IsScript}
use Rattle.psos_script.specs.Fault.{fault_of}
use Rattle.psos_script.specs.Draft.{script_in}
use Rattle.psos_script.specs.Answers.{IsFirst, SpellsNone, Finds}
use Rattle.psos_script.proofs.DraftSpelling.{sound}
use Rattle.psos_script.proofs.ScriptLines.{complete}
use Rattle.psos_script.specs.declared.fault.ReadFault.{ReadFault}
use Rattle.psos_script.specs.declared.fault.ReadFault.TheVariants as F
use Rattle.psos_script.specs.declared.cause.Cause.{Cause}

pub no_fault : (bytes : List ℕ) → (fault_of bytes ≡ None) ↔ ((s : Script) × IsScript bytes s)
no_fault bytes = (λ e. (script_in (lines_of bytes), sound bytes e), λ p. (complete bytes p.0 p.1).0)

pub one_script : (bytes : List ℕ) (s t : Script) → IsScript bytes s → IsScript bytes t → s ≡ t
one_script bytes s t h k = sym (complete bytes s h).1 ∙ (complete bytes t k).1

pub found : (bytes : List ℕ) (r : Result Script ReadFault) → Finds (fault_of bytes) (λ s. s) (script_in (lines_of bytes)) r → IfOk r (λ s. IsScript bytes s)
found bytes (Ok s) h = let P : Script → Type 0 = λ x. IsScript bytes x in subst P (sym h.1) (sound bytes h.0)
found bytes (Err e) h = tt

pub fault : (bytes : List ℕ) (r : Result Script ReadFault) → Finds (fault_of bytes) (λ s. s) (script_in (lines_of bytes)) r → IfErr r (λ e. IsFirst (fault_of bytes) e)
fault bytes (Ok s) h = tt
fault bytes (Err e) h = h

some_none : (x : ℕ × Cause) → (let o : Option (ℕ × Cause) = Some x in o) ≡ None → ⊥
some_none x e = cc

pub none : (bytes : List ℕ) (r : Result Script ReadFault) → Finds (fault_of bytes) (λ s. s) (script_in (lines_of bytes)) r → IfErr r (λ e. SpellsNone bytes e)
none bytes (Ok s) h = tt
none bytes (Err (F.Memory e)) h = tt
none bytes (Err (F.Script f)) h = λ s k. some_none (f.line, f.cause) (sym h ∙ (complete bytes s k).0)
