-- The plans of implementation capabilities, mailboxes and bodies, run from levels that stand for a sound flat state, are the outcomes of their requests.
use Rattle.std.proofs.Common.{◌≡◌, ℕ, ◌+◌, ◌<◌, ◌==◌, Bool, true, false, Option, Some, None, List, [], ◌∷◌, ◌++◌, length, IsSome, refl, sym, subst, ap, ◌∙◌, arith}
use Rattle.std.specs.Prelude.{nat_lt, nat_le, slice_get, drop}
use Rattle.std.proofs.lemmas.Bool.{ltb-true, leb-true}
use Rattle.std.proofs.lemmas.Option.{slice_get_within}
use Rattle.psos_limits.specs.declared.TheConstants.{MOST_CHARGE}
use Rattle.psos_table.specs.Table.{Table, at, put, edit}
use Rattle.psos_table.proofs.Tables.{edit_some}
use Rattle.psos_caps.specs.Capability.{Capability, full}
use Rattle.psos_words.specs.declared.word.Word.{Word}
use Rattle.psos_words.specs.declared.word.Word.TheVariants.{Cap}
use Rattle.psos_words.specs.Words.{word_at}
use Rattle.psos_words.specs.Guard.{barred}
use Rattle.psos_calls.specs.declared.code_row.CodeRow.{CodeRow}
use Rattle.psos_calls.specs.declared.effect.Effect.TheVariants as effects
use Rattle.psos_calls.specs.declared.kind.Kind.TheVariants as kinds
use Rattle.psos_calls.specs.Levels.Answers.{LevelAnswer}
use Rattle.psos_calls.specs.declared.level_answer.LevelAnswer.TheVariants.{Done, Got, No}
use Rattle.psos_calls.specs.declared.obj_row.ObjRow.{ObjRow}
use Rattle.psos_calls.specs.declared.refusal.Refusal.TheVariants.{Absent, Lacks, Guarded, Exhausted, Empty, WrongType}
use Rattle.psos_calls.specs.declared.reply.Reply.TheVariants as replies
use Rattle.psos_calls.specs.declared.request.Request.TheVariants.{Impl, Send, Recv, Call}
use Rattle.psos_calls.specs.declared.right.Right.TheVariants as rights
use Rattle.psos_calls.specs.declared.tab.Tab.TheVariants.{Mailbox}
use Rattle.psos_calls.specs.Language.Rights.{has}
use Rattle.psos_calls.specs.Language.Script.{Script}
use Rattle.psos_calls.specs.Language.Tests.{if_there, if_none, if_holds}
use Rattle.psos_calls.specs.Language.User.{User, here}
use Rattle.psos_calls.specs.Levels.Level12.{BoxState, posted, drawn_from}
use Rattle.psos_calls.specs.Plan.{Plan, Close, Runs, give, if_done, if_got, if_entered}
use Rattle.psos_calls.specs.Language.Capabilities.{uid}
use Rattle.psos_calls.specs.Plan.Parts.{fine}
use Rattle.psos_model.specs.Answer.Processes.{received}
use Rattle.psos_model.specs.Flat.Boot.{process_of}
use Rattle.psos_model.specs.Flat.{Flat, Object, Directory}
use Rattle.psos_model.specs.declared.change.Change.TheVariants.{Post, Draw}
use Rattle.psos_model.specs.declared.place.Place.TheVariants.{ImplOf}
use Rattle.psos_model.specs.Answer.Outcomes.{Outcome, refuse, gives, does, by, own}
use Rattle.psos_model.specs.Flat.Places.{reg_place}
use Rattle.psos_model.specs.Replay.{System}
use Rattle.psos_model.specs.Sound.{IsSound}
use Rattle.psos_model.specs.Replay.StandsFor.{StandsFor, object_row}
use Rattle.psos_agree.specs.Agreement.{Meets, Agrees}
use Rattle.psos_agree.proofs.TablesStand.{tables_stand}
use Rattle.psos_agree.proofs.PlanWalk.{refused, runs_cap, runs_holds, answers_there, answers_holds, word_given, changes_made}

-- ---- an implementation capability

module _ (x : User) {y : System} {f : Flat} (h : StandsFor y f) (rd : ℕ) (small : rd < 16) (of on : Capability) where
  abbrev k : LevelAnswer → Plan
  k a = if_got a (λ w. give rd w)

  -- the level has objects and directories in one table, and a directory is no object
  abbrev told : Option ObjRow → LevelAnswer
  told row = if_there row (No (Absent kinds.Object)) (λ o. if_there o.of (No (Absent kinds.Object)) (λ t. if_holds (t.0 == of.uid) (No WrongType) (Got (Cap o.rep))))

  abbrev given : Object → Outcome
  given o = if_holds (o.of == of.uid) (refuse WrongType) (gives [] rd (Cap (full o.rep)) (by (ImplOf (uid on.uid)) rights.Impl))

  by_row : (o : Option Object) (d : Option Directory) → Runs (k (told (object_row o d))) y.levels (Meets x y f (if_there o (refuse (Absent kinds.Object)) given))
  by_row (Some o) d = answers_holds x h k (λ _. refl) (o.of == of.uid) _ refl _ _ _ (λ same. word_given [] rd _ _ _ refl small h)
  by_row None (Some d) = refused x h (Absent kinds.Object)
  by_row None None = refused x h (Absent kinds.Object)

  pub runs_object : Runs (k (told (at y.levels.types.objects on.uid))) y.levels (Meets x y f (if_there (at f.objects on.uid) (refuse (Absent kinds.Object)) given))
  runs_object =
      subst (λ (row : Option ObjRow). Runs (k (told row)) y.levels (Meets x y f (if_there (at f.objects on.uid) (refuse (Absent kinds.Object)) given))) (sym (h.objects on.uid)) (by_row (at f.objects on.uid) (at f.dirs on.uid))

pub impl_agrees : (rd rt ro : ℕ) → Agrees (Impl rd rt ro)
impl_agrees rd rt ro s y f u x r =
    let h = r.stands in
    let k : LevelAnswer → Plan = λ a. if_got a (λ w. give rd w) in
    runs_cap x h (word_at (here x) rt) _ _ _ (λ of is_of.
    runs_cap x h (word_at (here x) ro) _ _ _ (λ on is_on. (
      tt,
      answers_there x h k (λ _. refl) _ _ (ap (λ (t : Table Bool). at t of.uid) h.types) _ _ _ (λ v is_type.
          answers_holds x h k (λ _. refl) (has of rights.Impl) _ refl _ _ _ (λ may.
          runs_object x h rd r.in_range.0 of on)),
    )))

-- ---- mailboxes

-- the mailboxes of level 12 and of the flat state
pub stands_boxes : {y : System} {f : Flat} → StandsFor y f → (a b : BoxState) → a ≡ b
    → StandsFor (record y { levels = record y.levels { boxes = a } }) (record f { boxes = b })
stands_boxes h a b e =
    tables_stand h h.next h.codes e h.life h.types h.windows h.users h.objects

-- one mailbox changes
stands_box : {y : System} {f : Flat} → StandsFor y f → (u : ℕ) (change : List Word → List Word) (box : List Word) → at y.levels.boxes u ≡ Some box
    → StandsFor (record y { levels = record y.levels { boxes = put y.levels.boxes u (change box) } }) (record f { boxes = edit f.boxes u change })
stands_box {y = y} h u change box e =
    stands_boxes h _ _ (sym (edit_some y.levels.boxes u change box e) ∙ ap (λ (t : BoxState). edit t u change) h.boxes)

-- a word is posted: each refusal of level 12 is the request's
module _ (x : User) {y : System} {f : Flat} (h : StandsFor y f) (to : Capability) (w : Word) (rv : ℕ) where
  abbrev Sends : BoxState × LevelAnswer → Outcome → Type 0
  Sends p o = Runs (if_done p.1 fine) (record y.levels { boxes = p.0 }) (Meets x y f o)

  abbrev stays : LevelAnswer → BoxState × LevelAnswer
  stays a = (y.levels.boxes, a)

  abbrev sent : Outcome
  sent = does (Post to.uid w ∷ []) (own (reg_place x x.frames rv))

  abbrev roomy : List Word → Outcome
  roomy box = if_holds (nat_lt (length box) 8) (refuse (Exhausted Mailbox)) sent

  abbrev free : List Word → Outcome
  free box = if_none (barred 1 w) (λ b. refuse (Guarded b)) (roomy box)

  abbrev lets : List Word → Outcome
  lets box = if_holds (has to rights.Send) (refuse (Lacks rights.Send)) (free box)

  abbrev joined : List Word → BoxState × LevelAnswer
  joined box = (put y.levels.boxes to.uid (box ++ w ∷ []), Done)

  abbrev roomed : List Word → BoxState × LevelAnswer
  roomed box = if_holds (nat_lt (length box) 8) (stays (No (Exhausted Mailbox))) (joined box)

  abbrev freed : List Word → BoxState × LevelAnswer
  freed box = if_none (barred 1 w) (λ b. stays (No (Guarded b))) (roomed box)

  abbrev let_in : List Word → BoxState × LevelAnswer
  let_in box = if_holds (has to rights.Send) (stays (No (Lacks rights.Send))) (freed box)

  by_room : (box : List Word) → at y.levels.boxes to.uid ≡ Some box → (b : Bool)
      → Sends (if_holds b (stays (No (Exhausted Mailbox))) (joined box)) (if_holds b (refuse (Exhausted Mailbox)) sent)
  by_room box e true = changes_made (Post to.uid w ∷ []) _ (stands_box h to.uid (λ (ws : List Word). ws ++ w ∷ []) box e)
  by_room box e false = refused x h (Exhausted Mailbox)

  by_guard : (box : List Word) → at y.levels.boxes to.uid ≡ Some box → (o : Option ℕ)
      → Sends (if_none o (λ b. stays (No (Guarded b))) (roomed box)) (if_none o (λ b. refuse (Guarded b)) (roomy box))
  by_guard box e None = by_room box e (nat_lt (length box) 8)
  by_guard box e (Some b) = refused x h (Guarded b)

  by_right : (box : List Word) → at y.levels.boxes to.uid ≡ Some box → (b : Bool)
      → Sends (if_holds b (stays (No (Lacks rights.Send))) (freed box)) (if_holds b (refuse (Lacks rights.Send)) (free box))
  by_right box e true = by_guard box e (barred 1 w)
  by_right box e false = refused x h (Lacks rights.Send)

  by_box : (o : Option (List Word)) → at y.levels.boxes to.uid ≡ o
      → Sends (if_there o (stays (No (Absent kinds.Process))) let_in) (if_there o (refuse (Absent kinds.Process)) lets)
  by_box None e = refused x h (Absent kinds.Process)
  by_box (Some box) e = by_right box e (has to rights.Send)

  pub sends : Sends (posted y.levels.boxes to w) (if_there (at f.boxes to.uid) (refuse (Absent kinds.Process)) lets)
  sends = subst (λ (t : BoxState). Sends (posted y.levels.boxes to w) (if_there (at t to.uid) (refuse (Absent kinds.Process)) lets)) h.boxes (by_box (at y.levels.boxes to.uid) refl)

pub send_agrees : (rp rv : ℕ) → Agrees (Send rp rv)
send_agrees rp rv s y f u x r =
    runs_cap x r.stands (word_at (here x) rp) _ _ _ (λ to is_to. (tt, sends x r.stands to (word_at (here x) rv) rv))

-- the process of each user has a mailbox
box_there : (s : Script) (y : System) (f : Flat) (u : ℕ) (x : User) → StandsFor y f → IsSound s f → slice_get f.users u ≡ Some x → IsSome (at y.levels.boxes x.process)
box_there s y f u x h sound is =
    let inside : u < length s.users = omega (arith, slice_get_within f.users u x is, sound.all_users) in
    let P : ℕ → Type 0 = λ process. IsSome (at y.levels.boxes process) in
    let Q : BoxState → Type 0 = λ boxes. IsSome (at boxes (process_of u)) in
    subst P (sym (sound.users u x is).process) (subst Q (sym h.boxes) (sound.processes u inside))

-- a word is drawn: where the mailbox is empty, level 12 refuses as the request does
module _ (x : User) {y : System} {f : Flat} (h : StandsFor y f) (rd : ℕ) (small : rd < 16) where
  abbrev Draws : BoxState × LevelAnswer → Outcome → Type 0
  Draws p o = Runs (if_got p.1 (λ w. give rd w)) (record y.levels { boxes = p.0 }) (Meets x y f o)

  abbrev drawn : Option (List Word) → BoxState × LevelAnswer
  drawn o = if_there o (y.levels.boxes, No Empty) (λ box. drawn_from y.levels.boxes x.process box)

  abbrev got : Option (List Word) → Outcome
  got o = if_there o (refuse Empty) (λ box. received x.process rd box)

  by_message : (o : Option (List Word)) → at y.levels.boxes x.process ≡ o → Draws (drawn o) (got o)
  by_message None e = refused x h Empty
  by_message (Some []) e = refused x h Empty
  by_message (Some (w ∷ rest)) e = word_given (Draw x.process ∷ []) rd w w _ refl small (stands_box h x.process (drop 1) (w ∷ rest) e)

  pub draws : Draws (drawn (at y.levels.boxes x.process)) (got (at f.boxes x.process))
  draws = subst (λ (t : BoxState). Draws (drawn (at y.levels.boxes x.process)) (got (at t x.process))) h.boxes (by_message (at y.levels.boxes x.process) refl)

pub recv_agrees : (rd : ℕ) → Agrees (Recv rd)
recv_agrees rd s y f u x r = (box_there s y f u x r.stands r.sound r.here, draws x r.stands rd r.in_range)

-- ---- a body is entered

pub call_agrees : (rp : ℕ) → Agrees (Call rp)
call_agrees rp s y f u x r =
    let h = r.stands in
    let enters : ℕ → Word → Plan = λ label link. Close replies.Fine (effects.Enter label link) in
    let k : LevelAnswer → Plan = λ a. if_entered a enters in
    runs_cap x h (word_at (here x) rp) _ _ _ (λ cap is_cap.
    runs_holds x h (nat_lt (length x.frames) 4) _ _ _ (λ few.
    runs_holds x h (nat_le (x.charge + 16) MOST_CHARGE) _ _ _ (λ paid. (
      tt,
      answers_there x h k (λ _. refl) _ _ (ap (λ (t : Table CodeRow). at t cap.uid) h.codes) _ _ _ (λ code live.
          answers_holds x h k (λ _. refl) (has cap rights.Enter) _ refl _ _ _ (λ may.
          record { reply-is = refl; effect-is = refl; stands = h; kept = tt; makes = (omega (arith, leb-true (x.charge + 16) MOST_CHARGE paid), ltb-true (length x.frames) 4 few) })),
    ))))
