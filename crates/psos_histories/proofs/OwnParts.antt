-- A user's own part depends on the entries up to the last that names it, and on none after it.
use Rattle.std.proofs.Common.{◌≡◌, ℕ, ◌<◌, ◌==◌, Bool, true, false, cond, List, [], ◌∷◌, ◌++◌, length, Option, Some, None, refl, sym, ap, ◌∙◌, subst, arith, length-append}
use Rattle.std.specs.Prelude.{slice_get}
use Rattle.std.specs.Int.{bit_at}
use Rattle.std.proofs.lemmas.Bool.{eq-eqb, true≢false}
use Rattle.psos_calls.specs.declared.entry.Entry.{Entry}
use Rattle.psos_calls.specs.declared.request.Request.{Request}
use Rattle.psos_calls.specs.declared.reply.Reply.TheVariants as replies
use Rattle.psos_calls.specs.Language.Script.{Script}
use Rattle.psos_calls.specs.Language.User.{User, next_request, after}
use Rattle.psos_calls.specs.Language.Tests.{if_there}
use Rattle.psos_calls.specs.Plan.{run_plan}
use Rattle.psos_calls.specs.Plan.Requests.{plan_of}
use Rattle.psos_model.specs.Replay.{System, replay_to, replay_step, replay_from}
use Rattle.psos_journal.specs.Members.{named}
use Rattle.psos_laws.proofs.UnchangedPlaces.{set_apart}
use Rattle.psos_histories.specs.Names.{AllNamed}
use Rattle.psos_histories.specs.Records.{order_in, replay_in}
use Rattle.psos_histories.specs.Closes.{UsersStay}

-- ---- a front of entries, and the rest

order_append : (past rest : List (Entry × ℕ)) → order_in (past ++ rest) ≡ order_in past ++ order_in rest
order_append [] rest = refl
order_append (x ∷ past) rest = ap (λ (us : List ℕ). x.0.user ∷ us) (order_append past rest)

replay_append : (s : Script) (y : System) (a b : List ℕ) → replay_from s y (a ++ b) ≡ replay_from s (replay_from s y a) b
replay_append s y [] b = refl
replay_append s y (u ∷ a) b = replay_append s (replay_step s y u).0 a b

-- the replay of all is that of the rest, from where the front leads
pub replay_rest : (s : Script) (y : System) (past rest : List (Entry × ℕ)) → replay_in s y (past ++ rest) ≡ replay_from s (replay_in s y past) (order_in rest)
replay_rest s y past rest = ap (replay_from s y) (order_append past rest) ∙ replay_append s y (order_in past) (order_in rest)

named_append : (i : ℕ) (xs ys : List (Entry × ℕ)) → named i (xs ++ ys) ≡ named i xs ++ named i ys
named_append i [] ys = refl
named_append i (x ∷ xs) ys =
    let more = named_append i xs ys in
    let M : Bool → Type 0 = λ b. cond b (x.0 ∷ named i (xs ++ ys)) (named i (xs ++ ys)) ≡ cond b (x.0 ∷ named i xs) (named i xs) ++ named i ys in
    elim (bit_at x.1 i == 1) as M [ true ↦ ap (λ (w : List Entry). x.0 ∷ w) more | false ↦ more ]

all_rest : (n : ℕ) (past rest : List (Entry × ℕ)) → AllNamed n (past ++ rest) → AllNamed n rest
all_rest n [] rest h = h
all_rest n (x ∷ past) rest h = all_rest n past rest h.1

nothing_more : (xs ys : List Entry) → xs ++ ys ≡ xs → ys ≡ []
nothing_more xs [] e = refl
nothing_more xs (y ∷ ys) e = absurd (omega (arith, ap (λ (es : List Entry). length es) e, length-append xs (y ∷ ys)))

-- ---- entries of others

abbrev NotBy : ℕ → List (Entry × ℕ) → Type 0
NotBy u [] = Unit {0}
NotBy u (x ∷ log) = (u ≡ x.0.user → ⊥) × NotBy u log

-- entries that do not name the user are not its own
not_by : (n u : ℕ) → u < n → (log : List (Entry × ℕ)) → AllNamed n log → named u log ≡ [] → NotBy u log
not_by n u less [] h none = tt
not_by n u less (x ∷ log) h none = by_test (not_by n u less log h.1) (bit_at x.1 u == 1) refl
  where
    by_test : (named u log ≡ [] → NotBy u log) → (t : Bool) → (bit_at x.1 u == 1) ≡ t → NotBy u (x ∷ log)
    by_test rest true e =
        let some : x.0 ∷ named u log ≡ [] = ap (λ (t : Bool). cond t (x.0 ∷ named u log) (named u log)) (sym e) ∙ none in
        absurd (omega (arith, ap (λ (es : List Entry). length es) some))
    by_test rest false e =
        let others : named u log ≡ [] = ap (λ (t : Bool). cond t (x.0 ∷ named u log) (named u log)) (sym e) ∙ none in (
          λ mine. true≢false (sym (eq-eqb (bit_at x.1 u) 1 ((h.0.user u less).1 (sym mine))) ∙ e),
          rest others,
        )

to_apart : (s : Script) (z : System) (v u : ℕ) (x : User) (o : Option Request) → (u ≡ v → ⊥) → slice_get (replay_to s z v x o).0.users u ≡ slice_get z.users u
to_apart s z v u x None apart = refl
to_apart s z v u x (Some request) apart = set_apart z.users v u (after s x (run_plan (plan_of x request) z.levels).effect) apart

of_apart : (s : Script) (z : System) (v u : ℕ) (o : Option User) → (u ≡ v → ⊥)
    → slice_get (if_there o (z, record { user = v; n = 0; m = 0; steps = []; reply = replies.Fine }) (λ x. replay_to s z v x (next_request s x))).0.users u ≡ slice_get z.users u
of_apart s z v u None apart = refl
of_apart s z v u (Some x) apart = to_apart s z v u x (next_request s x) apart

others_keep : (s : Script) (u : ℕ) (log : List (Entry × ℕ)) (z : System) → NotBy u log → slice_get (replay_from s z (order_in log)).users u ≡ slice_get z.users u
others_keep s u [] z h = refl
others_keep s u (x ∷ log) z h = others_keep s u log (replay_step s z x.0.user).0 h.1 ∙ of_apart s z x.0.user u (slice_get z.users x.0.user) h.0

-- ---- the law

pub users_stay : UsersStay
users_stay s y u past log less all prefix same =
    let n = length s.users in
    let rest = prefix.0 in
    let whole : past ++ rest ≡ log = prefix.1 in
    let every : AllNamed n (past ++ rest) = subst (AllNamed n) (sym whole) all in
    let none : named u rest ≡ [] = nothing_more (named u past) (named u rest) (sym (named_append u past rest) ∙ (ap (named u) whole ∙ sym same)) in
    let apart = not_by n u less rest (all_rest n past rest every) none in
    ap (λ (l : List (Entry × ℕ)). slice_get (replay_in s y l).users u) (sym whole)
    ∙ ap (λ (z : System). slice_get z.users u) (replay_rest s y past rest)
    ∙ others_keep s u rest (replay_in s y past) apart
