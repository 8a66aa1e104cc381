-- Plans: trees of level calls, each of which closes its request in the end. States docs/requests.md, "Plans".
pub mod Kept
pub mod Told
pub mod Asked
pub mod Steps
pub mod Parts
pub mod Segments
pub mod Directories
pub mod Objects
pub mod Processes
pub mod Requests
pub mod Trace
use Rattle.std.specs.Prelude.{ℕ, List, [], ◌∷◌}
use Rattle.psos_caps.specs.Capability.{Capability}
use Rattle.psos_words.specs.declared.word.Word.{Word}
use Rattle.psos_calls.specs.declared.kind.Kind.{Kind}
use Rattle.psos_calls.specs.declared.reply.Reply.{Reply}
use Rattle.psos_calls.specs.declared.reply.Reply.TheVariants as replies
use Rattle.psos_calls.specs.declared.refusal.Refusal.{Refusal}
use Rattle.psos_calls.specs.declared.refusal.Refusal.TheVariants.{Range}
use Rattle.psos_calls.specs.declared.effect.Effect.{Effect}
use Rattle.psos_calls.specs.declared.effect.Effect.TheVariants.{Nothing, Put}
use Rattle.psos_calls.specs.declared.level.Level.{Level}
use Rattle.psos_calls.specs.Levels.Calls.{LevelCall}
use Rattle.psos_calls.specs.Levels.Answers.{LevelAnswer}
use Rattle.psos_calls.specs.declared.level_answer.LevelAnswer.TheVariants.{Entered, Got, Is, Guard, Rep, At, Slot, Len, Whole, New, No}
use Rattle.psos_calls.specs.Language.Replies.{word_reply}
use Rattle.psos_calls.specs.Levels.{Levels, level_of, act, Can}

-- a plan closes, or makes a call and goes on by its answer
pub data Plan : Type 0 where
  Close : Reply → Effect → Plan
  Ask : LevelCall → (LevelAnswer → Plan) → Plan

-- a refusal closes the request and has no effect
abbrev pub refuse : Refusal → Plan
refuse r = Close (replies.No r) Nothing

-- a word goes into a register, and is the reply
abbrev pub give : ℕ → Word → Plan
give rd w = Close (word_reply w) (Put rd w)

-- ---- what an answer must be for the plan to go on. A refusal closes it, and no other answer comes

abbrev pub if_done : LevelAnswer → Plan → Plan
if_done (No r) go = refuse r
if_done _ go = go

abbrev pub if_entered : LevelAnswer → (ℕ → Word → Plan) → Plan
if_entered (Entered label link) go = go label link
if_entered (No r) go = refuse r
if_entered _ go = refuse Range

abbrev pub if_got : LevelAnswer → (Word → Plan) → Plan
if_got (Got w) go = go w
if_got (No r) go = refuse r
if_got _ go = refuse Range

abbrev pub if_kind : LevelAnswer → (Kind → Plan) → Plan
if_kind (Is kind) go = go kind
if_kind (No r) go = refuse r
if_kind _ go = refuse Range

abbrev pub if_guard : LevelAnswer → (ℕ → Plan) → Plan
if_guard (Guard guard) go = go guard.0
if_guard (No r) go = refuse r
if_guard _ go = refuse Range

abbrev pub if_rep : LevelAnswer → (ℕ → Plan) → Plan
if_rep (Rep rep) go = go rep.0
if_rep (No r) go = refuse r
if_rep _ go = refuse Range

abbrev pub if_at : LevelAnswer → (ℕ → ℕ → Plan) → Plan
if_at (At page off) go = go page off
if_at (No r) go = refuse r
if_at _ go = refuse Range

abbrev pub if_slot : LevelAnswer → (ℕ → Plan) → Plan
if_slot (Slot slot) go = go slot
if_slot (No r) go = refuse r
if_slot _ go = refuse Range

abbrev pub if_len : LevelAnswer → (ℕ → Plan) → Plan
if_len (Len n) go = go n
if_len (No r) go = refuse r
if_len _ go = refuse Range

abbrev pub if_page : LevelAnswer → (List Word → Plan) → Plan
if_page (Whole page) go = go page
if_page (No r) go = refuse r
if_page _ go = refuse Range

abbrev pub if_new : LevelAnswer → (Capability → Plan) → Plan
if_new (New cap) go = go cap
if_new (No r) go = refuse r
if_new _ go = refuse Range

-- ---- runs

-- what a plan that was run has done: the levels after it, its calls, its reply and its effect
pub record PlanRun : Type 0 where
  pub levels : Levels
  pub calls : List (Level × LevelCall)
  pub reply : Reply
  pub effect : Effect

-- the calls of a plan are made from these levels, one after another
abbrev pub run_plan : Plan → Levels → PlanRun
run_plan (Close reply effect) l = record { levels = l; calls = []; reply = reply; effect = effect }
run_plan (Ask call go) l =
    let done = act l call in
    let rest = run_plan (go done.1) done.0 in
    record rest { calls = (level_of call, call) ∷ rest.calls }

-- each call of the run meets its condition, and what it leaves, its reply and its effect have P
abbrev pub Runs : Plan → Levels → (Levels → Reply → Effect → Type 0) → Type 0
Runs (Close reply effect) l P = P l reply effect
Runs (Ask call go) l P = Can l call × Runs (go (act l call).1) (act l call).0 P
