-- Rules for what an index says of each call of a plan, whatever the levels answer: it may be made, and the index moves on. States docs/requests.md, "Plans".
use Rattle.std.proofs.Common.{ℕ, Bool, true, false, cond, Option, Some, None, List}
use Rattle.psos_caps.specs.Capability.{Capability}
use Rattle.psos_text.specs.declared.name.Name.{Name}
use Rattle.psos_words.specs.declared.word.Word.{Word}
use Rattle.psos_words.specs.declared.word.Word.TheVariants as words
use Rattle.psos_words.specs.Directory.{decode, find, slot_for}
use Rattle.psos_calls.specs.declared.kind.Kind.{Kind}
use Rattle.psos_calls.specs.Levels.Answers.{LevelAnswer}
use Rattle.psos_calls.specs.declared.level_answer.LevelAnswer.TheVariants.{Entered, Got, Is, Guard, Rep, At, Slot, Len, Whole, New, No}
use Rattle.psos_calls.specs.Levels.Calls.{LevelCall}
use Rattle.psos_calls.specs.declared.refusal.Refusal.{Refusal}
use Rattle.psos_calls.specs.declared.reply.Reply.{Reply}
use Rattle.psos_calls.specs.declared.effect.Effect.{Effect}
use Rattle.psos_calls.specs.Plan.{Plan, Close, Ask, refuse, give, if_done, if_entered, if_got, if_kind, if_guard, if_rep, if_at, if_slot, if_len, if_page, if_new}
use Rattle.psos_calls.specs.Plan.Directories.{if_may_look}
use Rattle.psos_calls.specs.Plan.Parts.{Opened, opened, if_room, fine}
use Rattle.psos_calls.specs.Language.Tests.{if_there, if_none, if_cap, if_data, if_holds}

abbrev pub Along : {I : Type 0} → (I → LevelCall → Type 0) → (I → LevelCall → I) → I → Plan → Type 0
Along may on i (Close reply effect) = Unit {0}
Along may on i (Ask call go) = may i call × ((a : LevelAnswer) → Along may on (on i call) (go a))

-- each call may be made at the index that the calls before it lead to
pub record GoesAlong {I : Type 0} (may : I → LevelCall → Type 0) (on : I → LevelCall → I) (i : I) (plan : Plan) : Type 0 where
  pub along : Along may on i plan

module _ {I : Type 0} {may : I → LevelCall → Type 0} {on : I → LevelCall → I} {i : I} where
  -- ---- a close, and a call

  pub closes : {reply : Reply} {effect : Effect} → GoesAlong may on i (Close reply effect)
  closes = record { along = tt }

  pub by_give : (rd : ℕ) (w : Word) → GoesAlong may on i (give rd w)
  by_give rd w = record { along = tt }

  pub by_refuse : (r : Refusal) → GoesAlong may on i (refuse r)
  by_refuse r = record { along = tt }

  pub by_fine : GoesAlong may on i fine
  by_fine = record { along = tt }

  pub asks : {call : LevelCall} {go : LevelAnswer → Plan} → may i call → ((a : LevelAnswer) → GoesAlong may on (on i call) (go a)) → GoesAlong may on i (Ask call go)
  asks now h = record { along = (now, λ a. (h a).along) }

  -- ---- tests

  pub by_if : (b : Bool) {first other : Plan} → GoesAlong may on i first → GoesAlong may on i other → GoesAlong may on i (cond b first other)
  by_if true h g = h
  by_if false h g = g

  pub by_holds : (b : Bool) (r : Refusal) {go : Plan} → GoesAlong may on i go → GoesAlong may on i (if_holds b (refuse r) go)
  by_holds b r h = by_if b h closes

  pub by_cap : (w : Word) (r : Refusal) {go : Capability → Plan} → ((c : Capability) → GoesAlong may on i (go c)) → GoesAlong may on i (if_cap w (refuse r) go)
  by_cap (words.Data m) r h = closes
  by_cap (words.Cap c) r h = h c

  pub by_data : (w : Word) (r : Refusal) {go : ℕ → Plan} → ((m : ℕ) → GoesAlong may on i (go m)) → GoesAlong may on i (if_data w (refuse r) go)
  by_data (words.Data m) r h = h m
  by_data (words.Cap c) r h = closes

  pub by_there : {X : Type 0} (o : Option X) {other : Plan} {go : X → Plan} → GoesAlong may on i other → ((x : X) → GoesAlong may on i (go x)) → GoesAlong may on i (if_there o other go)
  by_there None h g = h
  by_there (Some x) h g = g x

  pub by_none : {X : Type 0} (o : Option X) (r : X → Refusal) {go : Plan} → GoesAlong may on i go → GoesAlong may on i (if_none o (λ b. refuse (r b)) go)
  by_none None r h = h
  by_none (Some b) r h = closes

  -- ---- answers

  pub by_done : (a : LevelAnswer) {go : Plan} → GoesAlong may on i go → GoesAlong may on i (if_done a go)
  by_done (No r) h = closes
  by_done _ h = h

  pub by_entered : (a : LevelAnswer) {go : ℕ → Word → Plan} → ((label : ℕ) (link : Word) → GoesAlong may on i (go label link)) → GoesAlong may on i (if_entered a go)
  by_entered (Entered label link) h = h label link
  by_entered (No r) h = closes
  by_entered _ h = closes

  pub by_got : (a : LevelAnswer) {go : Word → Plan} → ((w : Word) → GoesAlong may on i (go w)) → GoesAlong may on i (if_got a go)
  by_got (Got w) h = h w
  by_got (No r) h = closes
  by_got _ h = closes

  pub by_kind : (a : LevelAnswer) {go : Kind → Plan} → ((kind : Kind) → GoesAlong may on i (go kind)) → GoesAlong may on i (if_kind a go)
  by_kind (Is kind) h = h kind
  by_kind (No r) h = closes
  by_kind _ h = closes

  pub by_guard : (a : LevelAnswer) {go : ℕ → Plan} → ((guard : ℕ) → GoesAlong may on i (go guard)) → GoesAlong may on i (if_guard a go)
  by_guard (Guard guard) h = h guard.0
  by_guard (No r) h = closes
  by_guard _ h = closes

  pub by_rep : (a : LevelAnswer) {go : ℕ → Plan} → ((rep : ℕ) → GoesAlong may on i (go rep)) → GoesAlong may on i (if_rep a go)
  by_rep (Rep rep) h = h rep.0
  by_rep (No r) h = closes
  by_rep _ h = closes

  pub by_at : (a : LevelAnswer) {go : ℕ → ℕ → Plan} → ((page off : ℕ) → GoesAlong may on i (go page off)) → GoesAlong may on i (if_at a go)
  by_at (At page off) h = h page off
  by_at (No r) h = closes
  by_at _ h = closes

  pub by_slot : (a : LevelAnswer) {go : ℕ → Plan} → ((slot : ℕ) → GoesAlong may on i (go slot)) → GoesAlong may on i (if_slot a go)
  by_slot (Slot slot) h = h slot
  by_slot (No r) h = closes
  by_slot _ h = closes

  pub by_len : (a : LevelAnswer) {go : ℕ → Plan} → ((m : ℕ) → GoesAlong may on i (go m)) → GoesAlong may on i (if_len a go)
  by_len (Len m) h = h m
  by_len (No r) h = closes
  by_len _ h = closes

  pub by_page : (a : LevelAnswer) {go : List Word → Plan} → ((page : List Word) → GoesAlong may on i (go page)) → GoesAlong may on i (if_page a go)
  by_page (Whole page) h = h page
  by_page (No r) h = closes
  by_page _ h = closes

  pub by_new : (a : LevelAnswer) {go : Capability → Plan} → ((c : Capability) → GoesAlong may on i (go c)) → GoesAlong may on i (if_new a go)
  by_new (New c) h = h c
  by_new (No r) h = closes
  by_new _ h = closes

  pub by_look : (a : LevelAnswer) {other go : Plan} → GoesAlong may on i other → GoesAlong may on i go → GoesAlong may on i (if_may_look a other go)
  by_look (Guard guard) h g = g
  by_look _ h g = h

  -- ---- a directory that was read

  pub by_opened : (slot : ℕ) (ws : List Word) {go : Opened → Plan} → ((d : Opened) → GoesAlong may on i (go d)) → GoesAlong may on i (opened slot ws go)
  by_opened slot ws h = by_there (decode ws) closes (λ slots. h (record { slot = slot; slots = slots }))

  pub by_room : (d : Opened) (name : Name) {go : ℕ → Plan} → ((k : ℕ) → GoesAlong may on i (go k)) → GoesAlong may on i (if_room d name go)
  by_room d name h = by_none (find d.slots name) _ (by_there (slot_for d.slots) closes h)
