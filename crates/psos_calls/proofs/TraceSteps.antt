-- The steps of a trace, by its calls and its answers. States docs/requests.md, "Plans".
use Rattle.std.proofs.Common.{◌≡◌, ℕ, zero, suc, ◌+◌, ◌-◌, ◌<◌, ◌≤◌, Bool, cond, List, [], ◌∷◌, ◌++◌, Some, length, take, drop, refl, sym, ap, ◌∙◌, subst, arith, length-append}
use Rattle.std.specs.Prelude.{slice_get, slice_range, IsTrue}
use Rattle.std.proofs.lemmas.Option.{same_Some, none-some}
use Rattle.std.proofs.lemmas.List.{drop-take, length-take, length-drop}
use Rattle.std.proofs.Math.Seq.{drop-drop}
use Rattle.psos_calls.specs.declared.level.Level.{Level}
use Rattle.psos_calls.specs.declared.step.Step.{Step}
use Rattle.psos_calls.specs.Levels.Calls.{LevelCall}
use Rattle.psos_calls.specs.Levels.Answers.{LevelAnswer}
use Rattle.psos_calls.specs.Levels.Level7.{reads_page}
use Rattle.psos_calls.specs.Plan.Asked.{pages_first, IsLastDir}
use Rattle.psos_calls.specs.Plan.Steps.{steps_of, EndsReading, IsTrace}
use Rattle.psos_calls.specs.Plan.Trace.{calls_in}
use Rattle.psos_calls.proofs.DirectoryCalls.{asked-few}

-- ---- calls and answers

pub steps-length : (calls : List (Level × LevelCall)) (answers : List LevelAnswer) → length calls ≡ length answers → length (steps_of calls answers) ≡ length calls
steps-length [] [] e = refl
steps-length [] (a ∷ answers) e = refl
steps-length (c ∷ calls) [] e = omega arith
steps-length (c ∷ calls) (a ∷ answers) e = ap suc (steps-length calls answers (omega arith))

pub steps-calls : (calls : List (Level × LevelCall)) (answers : List LevelAnswer) → length calls ≡ length answers → calls_in (steps_of calls answers) ≡ calls
steps-calls [] [] e = refl
steps-calls [] (a ∷ answers) e = refl
steps-calls (c ∷ calls) [] e = absurd (omega arith)
steps-calls (c ∷ calls) (a ∷ answers) e = ap (λ (rest : List (Level × LevelCall)). c ∷ rest) (steps-calls calls answers (omega arith))

pub steps-more : (calls : List (Level × LevelCall)) (answers : List LevelAnswer) (level : Level) (call : LevelCall) (answer : LevelAnswer) → length calls ≡ length answers
    → steps_of (calls ++ (level, call) ∷ []) (answers ++ answer ∷ []) ≡ steps_of calls answers ++ record { level = level; call = call; answer = answer } ∷ []
steps-more [] [] level call answer e = refl
steps-more [] (a ∷ answers) level call answer e = absurd (omega arith)
steps-more (c ∷ calls) [] level call answer e = absurd (omega arith)
steps-more (c ∷ calls) (a ∷ answers) level call answer e =
    let s : Step = record { level = c.0; call = c.1; answer = a } in
    ap (λ (rest : List Step). s ∷ rest) (steps-more calls answers level call answer (omega arith))

pub step-at : (calls : List (Level × LevelCall)) (answers : List LevelAnswer) (i : ℕ) (level : Level) (call : LevelCall) (answer : LevelAnswer)
    → slice_get calls i ≡ Some (level, call) → slice_get answers i ≡ Some answer → slice_get (steps_of calls answers) i ≡ Some (record { level = level; call = call; answer = answer })
step-at [] answers i level call answer e f = absurd (none-some (level, call) e)
step-at (c ∷ calls) [] i level call answer e f = absurd (none-some answer f)
step-at (c ∷ calls) (a ∷ answers) zero level call answer e f =
    ap (λ (d : Level × LevelCall). Some (record { level = d.0; call = d.1; answer = a })) (same_Some c (level, call) e) ∙ ap (λ (b : LevelAnswer). Some (record { level = level; call = call; answer = b })) (same_Some a answer f)
step-at (c ∷ calls) (a ∷ answers) (suc i) level call answer e f = step-at calls answers i level call answer e f

-- ---- parts of a list

drop-at : (steps : List Step) (i : ℕ) (s : Step) → slice_get steps i ≡ Some s → drop i steps ≡ s ∷ drop (suc i) steps
drop-at [] i s e = absurd (none-some s e)
drop-at (x ∷ steps) zero s e = ap (λ (y : Step). y ∷ steps) (same_Some x s e)
drop-at (x ∷ steps) (suc i) s e = drop-at steps i s e

pub range-first : (steps : List Step) (i j : ℕ) (s : Step) → i < j → slice_get steps i ≡ Some s → slice_range steps i j ≡ s ∷ slice_range steps (i + 1) j
range-first steps i j s lt e =
    ap (λ (n : ℕ). take n (drop i steps)) {x = j - i} {y = suc (j - (i + 1))} (omega arith)
    ∙ ap (λ (rest : List Step). take (suc (j - (i + 1))) rest) (drop-at steps i s e)
    ∙ ap (λ (n : ℕ). s ∷ take (j - (i + 1)) (drop n steps)) {x = suc i} {y = i + 1} (omega arith)

pub range-rest : (steps : List Step) (i j n : ℕ) → i + n ≤ j → slice_range steps (i + n) j ≡ drop n (slice_range steps i j)
range-rest steps i j n le =
    ap (λ (rest : List Step). take (j - (i + n)) rest) (sym (drop-drop n i steps))
    ∙ sym (drop-take n (j - (i + n)) (drop i steps))
    ∙ ap (λ (m : ℕ). drop n (take m (drop i steps))) {x = n + (j - (i + n))} {y = j - i} (omega arith)

pub range-length : (steps : List Step) (i j : ℕ) → j ≤ length steps → length (slice_range steps i j) ≡ j - i
range-length steps i j le =
    let taken = length-take (j - i) (drop i steps) in
    let dropped = length-drop i steps in
    omega arith

-- ---- steps that read pages

pub ends-from : (n i : ℕ) (steps : List Step) → EndsReading n steps → EndsReading n (drop i steps)
ends-from n zero steps h = h
ends-from n (suc i) [] h = h
ends-from n (suc i) (s ∷ steps) h = ends-from n i steps h.1

pub all-read : (n : ℕ) (steps : List Step) → EndsReading n steps → length steps ≤ n → pages_first steps ≡ length steps
all-read n [] h le = refl
all-read n (s ∷ steps) h le = ap (λ (b : Bool). cond b (suc (pages_first steps)) 0) (h.0 le) ∙ ap suc (all-read n steps h.1 (omega arith))

pub ends-less : (n m : ℕ) → m ≤ n → (steps : List Step) → EndsReading n steps → EndsReading m steps
ends-less n m le [] h = tt
ends-less n m le (s ∷ steps) h = (λ few. h.0 (omega arith), ends-less n m le steps h.1)

pub ends-with : (n : ℕ) (steps : List Step) (s : Step) → IsTrue (reads_page s.call) → EndsReading n steps → EndsReading (n + 1) (steps ++ s ∷ [])
ends-with n [] s read h = (λ le. read, tt)
ends-with n (x ∷ steps) s read h = (λ le. h.0 (let more = length-append steps (s ∷ []) in omega arith), ends-with n steps s read h.1)

pub ends-none : (steps : List Step) → EndsReading 0 steps
ends-none [] = tt
ends-none (s ∷ steps) = (λ le. absurd (omega arith), ends-none steps)

-- ---- what holds of a trace

pub calls-few : (calls : List (Level × LevelCall)) (answers : List LevelAnswer) (steps : List Step) → length calls ≡ length answers → steps_of calls answers ≡ steps → length calls ≡ length steps
calls-few calls answers steps e view = sym (steps-length calls answers e) ∙ ap length view

-- no more calls ask for a directory than there are
pub asked-within : (asked at reading : ℕ) (calls : List (Level × LevelCall)) (answers : List LevelAnswer) → IsTrace asked at reading calls answers → asked ≤ length calls
asked-within asked at reading calls answers t =
    let few = asked-few (steps_of calls answers) in
    let long = steps-length calls answers t.answered in
    let all = t.last_dir.all in
    omega arith

-- one more call, with its answer
pub is-trace : (asked at reading : ℕ) (calls : List (Level × LevelCall)) (answers : List LevelAnswer) (level : Level) (call : LevelCall) (answer : LevelAnswer) (more : List (Level × LevelCall)) (told : List LevelAnswer)
    → length calls ≡ length answers → more ≡ calls ++ (level, call) ∷ [] → told ≡ answers ++ answer ∷ []
    → IsLastDir asked at (steps_of calls answers ++ record { level = level; call = call; answer = answer } ∷ []) → EndsReading reading (steps_of calls answers ++ record { level = level; call = call; answer = answer } ∷ [])
    → IsTrace asked at reading more told
is-trace asked at reading calls answers level call answer more told e m t dir pages =
    let lc = length-append calls ((level, call) ∷ []) in
    let la = length-append answers (answer ∷ []) in
    let steps : steps_of (calls ++ (level, call) ∷ []) (answers ++ answer ∷ []) ≡ steps_of calls answers ++ record { level = level; call = call; answer = answer } ∷ [] = steps-more calls answers level call answer e in
    let one : IsTrace asked at reading (calls ++ (level, call) ∷ []) (answers ++ answer ∷ []) = record {
      answered = omega arith;
      last_dir = subst (IsLastDir asked at) (sym steps) dir;
      last_pages = subst (EndsReading reading) (sym steps) pages;
    } in
    let two = subst (λ (cs : List (Level × LevelCall)). IsTrace asked at reading cs (answers ++ answer ∷ [])) (sym m) one in
    subst (λ (rest : List LevelAnswer). IsTrace asked at reading more rest) (sym t) two
