-- A plan that is run call by call.
use Rattle.std.proofs.Common.{◌≡◌, ℕ, suc, ◌<◌, ◌≤◌, List, [], ◌∷◌, ◌++◌, length, refl, sym, subst, ap, ◌∙◌, append_assoc, append-nil, length-append, arith}
use Rattle.psos_calls.specs.declared.step.Step.{Step}
use Rattle.psos_calls.specs.declared.level.Level.{Level}
use Rattle.psos_calls.specs.Levels.Calls.{LevelCall}
use Rattle.psos_calls.specs.Levels.Answers.{LevelAnswer}
use Rattle.psos_calls.specs.declared.next.Next.TheVariants.{Call, Close}
use Rattle.psos_calls.specs.declared.reply.Reply.{Reply}
use Rattle.psos_calls.specs.declared.effect.Effect.{Effect}
use Rattle.psos_calls.specs.Levels.{Levels, act, Can, level_of}
use Rattle.psos_calls.specs.Plan.{Plan, Close as CloseNow, Ask, run_plan}
use Rattle.psos_calls.specs.Plan.Trace.{followed, next_of, IsTraceOf, calls_in}
use Rattle.psos_core.specs.Serving.{CanRun, IsPlanRun}

-- ---- traces with one step more

pub followed-nil : (p : Plan) → followed p [] ≡ p
followed-nil (CloseNow reply effect) = refl
followed-nil (Ask c go) = refl

pub followed_more : (p : Plan) (t : List Step) (s : Step) → followed p (t ++ s ∷ []) ≡ followed (followed p t) (s ∷ [])
followed_more (CloseNow reply effect) t s = refl
followed_more (Ask c go) [] s = refl
followed_more (Ask c go) (x ∷ t) s = followed_more (go x.answer) t s

pub calls_more : (t : List Step) (s : Step) → calls_in (t ++ s ∷ []) ≡ calls_in t ++ (s.level, s.call) ∷ []
calls_more [] s = refl
calls_more (x ∷ t) s = ap (λ (cs : List (Level × LevelCall)). (x.level, x.call) ∷ cs) (calls_more t s)

pub calls_length : (t : List Step) → length (calls_in t) ≡ length t
calls_length [] = refl
calls_length (x ∷ t) = ap (λ (n : ℕ). suc n) (calls_length t)

-- the levels after the calls of a trace
abbrev pub levels_after : Levels → List Step → Levels
levels_after l [] = l
levels_after l (s ∷ t) = levels_after (act l s.call).0 t

pub after_more : (l : Levels) (t : List Step) (s : Step) → levels_after l (t ++ s ∷ []) ≡ (act (levels_after l t) s.call).0
after_more l [] s = refl
after_more l (x ∷ t) s = after_more (act l x.call).0 t s

-- a trace of the run, with the next call of the plan
pub trace_more : (p : Plan) (l : Levels) (t : List Step) (k : Level) (c : LevelCall) → IsTraceOf p l t → next_of (followed p t) ≡ Call k c
    → IsTraceOf p l (t ++ record { level = k; call = c; answer = (act (levels_after l t) c).1 } ∷ [])
trace_more (CloseNow reply effect) l [] k c is asked = absurd cc
trace_more (CloseNow reply effect) l (x ∷ t) k c is asked = absurd is
trace_more (Ask d go) l [] k c is asked =
    let same : d ≡ c = cc in
    let level : level_of d ≡ k = cc in
    let G : Level → LevelCall → Step = λ n e. record { level = n; call = e; answer = (act l e).1 } in
    (ap (λ (e : LevelCall). G k e) (sym same) ∙ ap (λ (n : Level). G n d) (sym level), tt)
trace_more (Ask d go) l (x ∷ t) k c is asked =
    let answer : x.answer ≡ (act l d).1 = ap (λ (s : Step). s.answer) is.0 in
    let call : x.call ≡ d = ap (λ (s : Step). s.call) is.0 in
    let rest : next_of (followed (go (act l d).1) t) ≡ Call k c = ap (λ (a : LevelAnswer). next_of (followed (go a) t)) (sym answer) ∙ asked in
    let P : LevelCall → Type 0 = λ e. IsTraceOf (go (act l d).1) (act l d).0 (t ++ record { level = k; call = c; answer = (act (levels_after (act l e).0 t) c).1 } ∷ []) in
    (is.0, subst P (sym call) (trace_more (go (act l d).1) (act l d).0 t k c is.1 rest))

-- ---- what is left of a run

-- from these levels on, after this trace
pub record IsLeft (p : Plan) (start : Levels) (l : Levels) (trace : List Step) : Type 0 where
  pub can : CanRun (followed p trace) l
  pub levels : (run_plan (followed p trace) l).levels ≡ (run_plan p start).levels
  pub reply : (run_plan (followed p trace) l).reply ≡ (run_plan p start).reply
  pub effect : (run_plan (followed p trace) l).effect ≡ (run_plan p start).effect
  pub calls : calls_in trace ++ (run_plan (followed p trace) l).calls ≡ (run_plan p start).calls
  pub traced : IsTraceOf p start trace
  pub after : l ≡ levels_after start trace

pub all_left : (p : Plan) (start : Levels) → CanRun p start → IsLeft p start start []
all_left p start can =
    let P : Plan → Type 0 = λ q. CanRun q start in
    let same = followed-nil p in
    record {
      can = subst P (sym same) can;
      levels = ap (λ (q : Plan). (run_plan q start).levels) same;
      reply = ap (λ (q : Plan). (run_plan q start).reply) same;
      effect = ap (λ (q : Plan). (run_plan q start).effect) same;
      calls = ap (λ (q : Plan). (run_plan q start).calls) same;
      traced = none p start;
      after = refl;
    }
  where
    none : (p : Plan) (l : Levels) → IsTraceOf p l []
    none (CloseNow reply effect) l = tt
    none (Ask c go) l = tt

-- a plan's next call can be made
pub can_ask : (q : Plan) (l : Levels) (k : Level) (c : LevelCall) → CanRun q l → next_of q ≡ Call k c → Can l c
can_ask (CloseNow reply effect) l k c can asked = absurd cc
can_ask (Ask d go) l k c can asked = let same : d ≡ c = cc in subst (Can l) same can.0

-- and is of its level
pub level_is : (q : Plan) (k : Level) (c : LevelCall) → next_of q ≡ Call k c → level_of c ≡ k
level_is (CloseNow reply effect) k c asked = absurd cc
level_is (Ask d go) k c asked =
    let same : d ≡ c = cc in
    let level : level_of d ≡ k = cc in
    ap level_of (sym same) ∙ level

-- one call of what is left
record OneCall (q : Plan) (l : Levels) (k : Level) (c : LevelCall) : Type 0 where
  can : CanRun (followed q (record { level = k; call = c; answer = (act l c).1 } ∷ [])) (act l c).0
  levels : (run_plan (followed q (record { level = k; call = c; answer = (act l c).1 } ∷ [])) (act l c).0).levels ≡ (run_plan q l).levels
  reply : (run_plan (followed q (record { level = k; call = c; answer = (act l c).1 } ∷ [])) (act l c).0).reply ≡ (run_plan q l).reply
  effect : (run_plan (followed q (record { level = k; call = c; answer = (act l c).1 } ∷ [])) (act l c).0).effect ≡ (run_plan q l).effect
  calls : (k, c) ∷ (run_plan (followed q (record { level = k; call = c; answer = (act l c).1 } ∷ [])) (act l c).0).calls ≡ (run_plan q l).calls

one_call : (q : Plan) (l : Levels) (k : Level) (c : LevelCall) → CanRun q l → next_of q ≡ Call k c → OneCall q l k c
one_call (CloseNow reply effect) l k c can asked = absurd cc
one_call (Ask d go) l k c can asked =
    let same : d ≡ c = cc in
    let level : level_of d ≡ k = cc in
    let P : LevelCall → Type 0 = λ e. OneCall (Ask e go) l k c in
    let Q : Level → LevelCall → Type 0 = λ n e. OneCall (Ask e go) l n e in
    let here : CanRun (go (act l d).1) (act l d).0 = can.1 in
    let R : Plan → Type 0 = λ r. CanRun r (act l d).0 in
    let rest = followed-nil (go (act l d).1) in
    let mine : OneCall (Ask d go) l (level_of d) d = record {
      can = subst R (sym rest) here;
      levels = ap (λ (r : Plan). (run_plan r (act l d).0).levels) rest;
      reply = ap (λ (r : Plan). (run_plan r (act l d).0).reply) rest;
      effect = ap (λ (r : Plan). (run_plan r (act l d).0).effect) rest;
      calls = ap (λ (r : Plan). (level_of d, d) ∷ (run_plan r (act l d).0).calls) rest;
    } in
    let leveled : OneCall (Ask d go) l k d = subst (λ (n : Level). OneCall (Ask d go) l n d) level mine in
    let S : LevelCall → Type 0 = λ e. OneCall (Ask e go) l k e in
    let both : OneCall (Ask c go) l k c = subst S same leveled in
    subst P (sym same) both

-- after one more call
pub left_more : (p : Plan) (start l : Levels) (trace : List Step) (k : Level) (c : LevelCall) (a : LevelAnswer) (m : Levels)
    → IsLeft p start l trace → next_of (followed p trace) ≡ Call k c → a ≡ (act l c).1 → m ≡ (act l c).0
    → IsLeft p start m (trace ++ record { level = k; call = c; answer = a } ∷ [])
left_more p start l trace k c a m left asked is_a is_m =
    let G : LevelAnswer → Step = λ b. record { level = k; call = c; answer = b } in
    let one = one_call (followed p trace) l k c left.can asked in
    let s = G (act l c).1 in
    let split = followed_more p trace s in
    let P : Plan → Type 0 = λ q. CanRun q (act l c).0 in
    let T : Levels → Type 0 = λ n. IsTraceOf p start (trace ++ G (act n c).1 ∷ []) in
    let Q : LevelAnswer → Levels → Type 0 = λ b n. IsLeft p start n (trace ++ G b ∷ []) in
    let done : Q (act l c).1 (act l c).0 = record {
      can = subst P (sym split) one.can;
      levels = ap (λ (q : Plan). (run_plan q (act l c).0).levels) split ∙ one.levels ∙ left.levels;
      reply = ap (λ (q : Plan). (run_plan q (act l c).0).reply) split ∙ one.reply ∙ left.reply;
      effect = ap (λ (q : Plan). (run_plan q (act l c).0).effect) split ∙ one.effect ∙ left.effect;
      calls = ap (λ (cs : List (Level × LevelCall)). cs ++ (run_plan (followed p (trace ++ s ∷ [])) (act l c).0).calls) (calls_more trace s)
          ∙ append_assoc (calls_in trace) ((k, c) ∷ []) (run_plan (followed p (trace ++ s ∷ [])) (act l c).0).calls
          ∙ ap (λ (q : Plan). calls_in trace ++ (k, c) ∷ (run_plan q (act l c).0).calls) split
          ∙ ap (λ (cs : List (Level × LevelCall)). calls_in trace ++ cs) one.calls ∙ left.calls;
      traced = subst T (sym left.after) (trace_more p start trace k c left.traced asked);
      after = ap (λ (n : Levels). (act n c).0) left.after ∙ sym (after_more start trace s);
    } in
    let N : Levels → Type 0 = λ n. Q (act l c).1 n in
    let B : LevelAnswer → Type 0 = λ b. Q b m in
    subst B (sym is_a) (subst N (sym is_m) done)

-- fewer calls are left
pub fewer_left : (p : Plan) (start l : Levels) (trace : List Step) (k : Level) (c : LevelCall) (a : LevelAnswer) (m : Levels)
    → IsLeft p start l trace → next_of (followed p trace) ≡ Call k c → a ≡ (act l c).1 → m ≡ (act l c).0
    → length (run_plan (followed p (trace ++ record { level = k; call = c; answer = a } ∷ [])) m).calls < length (run_plan (followed p trace) l).calls
fewer_left p start l trace k c a m left asked is_a is_m =
    let G : LevelAnswer → Step = λ b. record { level = k; call = c; answer = b } in
    let one = one_call (followed p trace) l k c left.can asked in
    let split = followed_more p trace (G (act l c).1) in
    let Q : LevelAnswer → Levels → Type 0 = λ b n. length (run_plan (followed p (trace ++ G b ∷ [])) n).calls < length (run_plan (followed p trace) l).calls in
    let fewer : Q (act l c).1 (act l c).0 = omega (arith, ap (λ (q : Plan). length (run_plan q (act l c).0).calls) split, ap (λ (cs : List (Level × LevelCall)). length cs) one.calls) in
    let N : Levels → Type 0 = λ n. Q (act l c).1 n in
    let B : LevelAnswer → Type 0 = λ b. Q b m in
    subst B (sym is_a) (subst N (sym is_m) fewer)

-- a plan that asks has a call left
some_left : (q : Plan) (l : Levels) (k : Level) (c : LevelCall) → next_of q ≡ Call k c → 1 ≤ length (run_plan q l).calls
some_left (CloseNow reply effect) l k c asked = absurd cc
some_left (Ask d go) l k c asked = omega arith

pub trace_short : (p : Plan) (start l : Levels) (trace : List Step) (k : Level) (c : LevelCall) (n : ℕ) → IsLeft p start l trace → next_of (followed p trace) ≡ Call k c
    → length (run_plan p start).calls ≤ n → length trace < n
trace_short p start l trace k c n left asked few =
    omega (arith, ap (λ (cs : List (Level × LevelCall)). length cs) left.calls, length-append (calls_in trace) (run_plan (followed p trace) l).calls, calls_length trace, some_left (followed p trace) l k c asked, few)

-- ---- the close

closes : (q : Plan) (l : Levels) (calls : List (Level × LevelCall)) (r : Reply) (e : Effect) → next_of q ≡ Close r e → IsPlanRun (record (run_plan q l) { calls = calls ++ (run_plan q l).calls }) l calls r e
closes (CloseNow s f) l calls r e closed =
    let same_reply : s ≡ r = cc in
    let same_effect : f ≡ e = cc in
    record { levels-are = refl; calls-are = sym (append-nil calls); reply-is = sym same_reply; effect-is = sym same_effect }
closes (Ask c go) l calls r e closed = absurd cc

pub whole_at_close : (p : Plan) (start l : Levels) (trace : List Step) (r : Reply) (e : Effect) → IsLeft p start l trace → next_of (followed p trace) ≡ Close r e
    → IsPlanRun (run_plan p start) l (calls_in trace) r e
whole_at_close p start l trace r e left closed =
    let c = closes (followed p trace) l (calls_in trace) r e closed in
    record { levels-are = c.levels-are ∙ left.levels; calls-are = c.calls-are ∙ left.calls; reply-is = c.reply-is ∙ left.reply; effect-is = c.effect-is ∙ left.effect }
