-- Every outcome is a refusal, or changes what users share by few changes and is no refusal.
use Rattle.std.proofs.Common.{◌≡◌, ℕ, ◌+◌, ◌<◌, ◌≤◌, ◌==◌, Bool, true, false, not, List, [], ◌∷◌, length, nat_lt, nat_le, Option, Some, None, refl, arith}
use Rattle.std.specs.Prelude.{◌^◌}
use Rattle.std.proofs.lemmas.Bool.{leb-true, ltb-true}
use Rattle.std.specs.FinMap.{len}
use Rattle.psos_limits.specs.declared.TheConstants.{MOST_WINDOWS, MOST_CHARGE}
use Rattle.psos_table.specs.Table.{at, size}
use Rattle.psos_caps.specs.Capability.{Capability, full, restricted}
use Rattle.psos_text.specs.declared.name.Name.{Name}
use Rattle.psos_words.specs.declared.word.Word.{Word}
use Rattle.psos_words.specs.declared.word.Word.TheVariants.{Data, Cap}
use Rattle.psos_words.specs.Words.{word_at}
use Rattle.psos_words.specs.Guard.{barred}
use Rattle.psos_calls.specs.declared.kind.Kind.{Kind}
use Rattle.psos_calls.specs.declared.kind.Kind.TheVariants as kinds
use Rattle.psos_calls.specs.declared.right.Right.TheVariants as rights
use Rattle.psos_calls.specs.declared.refusal.Refusal.{Refusal}
use Rattle.psos_calls.specs.declared.refusal.Refusal.TheVariants as refusals
use Rattle.psos_calls.specs.declared.reply.Reply.{Reply}
use Rattle.psos_calls.specs.declared.reply.Reply.TheVariants as replies
use Rattle.psos_calls.specs.declared.request.Request.{Request}
use Rattle.psos_calls.specs.declared.request.Request.TheVariants as asks
use Rattle.psos_calls.specs.declared.effect.Effect.{Effect}
use Rattle.psos_calls.specs.declared.effect.Effect.TheVariants.{Nothing, Put, Push, Enter}
use Rattle.psos_calls.specs.declared.code_row.CodeRow.{CodeRow}
use Rattle.psos_calls.specs.Language.User.{User, here}
use Rattle.psos_calls.specs.Language.Replies.{word_reply}
use Rattle.psos_calls.specs.Language.Views.{fits_in, part_of}
use Rattle.psos_calls.specs.Language.Stores.{is_length}
use Rattle.psos_calls.specs.Language.Stores.{guard_of}
use Rattle.psos_calls.specs.declared.tab.Tab.TheVariants.{Windows, Path, Mailbox, Frames, Requests}
use Rattle.psos_model.specs.Flat.{Flat, named, words_of}
use Rattle.psos_model.specs.declared.change.Change.{Change}
use Rattle.psos_model.specs.declared.change.Change.TheVariants.{Fresh, PutWord, Bind, Unbind, Register, Unregister, Post, Draw, MakeSegment, MakeWindow, MakeType, MakeObject, MakeDirectory, DropSegment, DropType, DropObject, DropDirectory, DropCode}
use Rattle.psos_model.specs.Flat.Safe.{used, used_by}
use Rattle.psos_calls.specs.Language.Rights.{has}
use Rattle.psos_model.specs.Answer.Outcomes.{Outcome, Source, refuse, gives, does}
use Rattle.psos_model.specs.Answer.Objects.{makes, has_objects, drops}
use Rattle.psos_model.specs.Answer.Processes.{received}
use Rattle.psos_model.specs.Answer.{outcome}
use Rattle.psos_model.proofs.OutcomeRules.{Refuses, by_cap, by_data, by_there, by_none, by_holds, by_view, by_dir, by_room, by_object_room, by_make, by_find}

-- the reply is no refusal
abbrev pub is_kind : Reply → Bool
is_kind (replies.No why) = false
is_kind _ = true

-- a label that a live procedure record has
pub record HasLabel (f : Flat) (label : ℕ) : Type 0 where
  pub record_uid : ℕ
  pub code : CodeRow
  pub live : at f.codes record_uid ≡ Some code
  pub label-is : code.label ≡ label

-- an effect finds room in its user's own part, and a body that is entered is that of a live procedure record
abbrev pub FindsRoom : Flat → User → Effect → Type 0
FindsRoom f x Nothing = Unit {0}
FindsRoom f x (Put i w) = Unit {0}
FindsRoom f x (Push c) = length x.path < 4
FindsRoom f x (Enter label link) = (length x.frames < 4) × (x.charge + 16 ≤ MOST_CHARGE) × HasLabel f label

-- what is not a refusal: few identifiers are used up, and the effect finds room
pub record IsDone (f : Flat) (x : User) (o : Outcome) : Type 0 where
  pub reply : is_kind o.reply ≡ true
  pub few : used_by o.changes ≤ 2
  pub effect : FindsRoom f x o.effect

word_is_kind : (w : Word) → is_kind (word_reply w) ≡ true
word_is_kind (Data n) = refl
word_is_kind (Cap c) = refl

module _ (f : Flat) (x : User) (P : Outcome → Type 0) (refused : (r : Refusal) → P (refuse r)) (done : (o : Outcome) → IsDone f x o → P o) where
  no : Refuses P
  no = record { refused = refused }

  word_goes : (changes : List Change) (rd : ℕ) (w : Word) (source : Option Source) → used_by changes ≤ 2 → P (gives changes rd w source)
  word_goes changes rd w source few = done (gives changes rd w source) (record { reply = word_is_kind w; few = few; effect = tt })

  changes_go : (changes : List Change) (source : Option Source) → used_by changes ≤ 2 → P (does changes source)
  changes_go changes source few = done (does changes source) (record { reply = refl; few = few; effect = tt })

  -- a word goes, and nothing is changed
  plain : (rd : ℕ) (w : Word) (source : Option Source) → P (gives [] rd w source)
  plain rd w source = word_goes [] rd w source (omega arith)

  by_makes : (f : Flat) (making : Change) (dir : Capability) (name : Name) (kind : Kind) (others : List Change) (rd : ℕ) → used making ≡ 0 → used_by others ≤ 1 → P (makes f making dir name kind others rd)
  by_makes f making dir name kind others rd e few = word_goes (making ∷ Register f.next dir.uid name kind ∷ Fresh ∷ others) rd (Cap (full f.next)) None (omega (arith, e, few))

  by_drops : (f : Flat) (kind : Kind) (u : ℕ) (last : List Change) → used_by last ≤ 2 → P (drops f kind u last)
  by_drops f kinds.Segment u last few = changes_go (DropSegment u ∷ last) None (omega (arith, few))
  by_drops f kinds.Directory u last few = by_there no (at f.dirs u) _ _ (λ d _. by_holds no (len d.names == 0) _ _ (λ _. changes_go (DropDirectory u ∷ last) None (omega (arith, few))))
  by_drops f kinds.Typ u last few = by_holds no (not (has_objects f u)) _ _ (λ _. changes_go (DropType u ∷ last) None (omega (arith, few)))
  by_drops f kinds.Object u last few = by_there no (at f.objects u) _ _ (λ o _. changes_go (DropObject u o.rep ∷ last) None (omega (arith, few)))
  by_drops f kinds.Code u last few = changes_go (DropCode u ∷ last) None (omega (arith, few))
  by_drops f kinds.Process u last few = refused refusals.NotDistinguished

  by_received : (process rd : ℕ) (box : List Word) → P (received process rd box)
  by_received process rd [] = refused refusals.Empty
  by_received process rd (w ∷ rest) = word_goes (Draw process ∷ []) rd w _ (omega arith)

  pub by_outcome : (r : Request) → P (outcome f x r)
  by_outcome (asks.Mint rd) = word_goes (Fresh ∷ []) rd _ None (omega arith)
  by_outcome (asks.Restrict rd rs keep) = by_cap no (word_at (here x) rs) _ (λ c _. plain rd (Cap (restricted c keep.0)) _)
  by_outcome (asks.Set rd n) = plain rd (Data n) None
  by_outcome (asks.Move rd rs) = plain rd (word_at (here x) rs) _
  by_outcome (asks.Add rd ra rb) =
      by_data no (word_at (here x) ra) _ (λ a. by_data no (word_at (here x) rb) _ (λ b. by_holds no (nat_lt (a + b) (2 ^ 64)) refusals.Overflow _ (λ _. plain rd (Data (a + b)) None)))
  by_outcome (asks.Read rd rs n) =
      by_cap no (word_at (here x) rs) _ (λ c _. by_view no f c rights.Read _ (λ v _ _. by_holds no (nat_lt n v.len) refusals.Range _ (λ _. plain rd (word_at (words_of f v.seg) (v.base + n)) _)))
  by_outcome (asks.Write rs n rv) =
      by_cap no (word_at (here x) rs) _ (λ c _. by_view no f c rights.Write _ (λ v _ _. by_holds no (nat_lt n v.len) refusals.Range _ (λ _.
      by_none no (barred v.guard.0 (word_at (here x) rv)) refusals.Guarded _ (λ _. changes_go (PutWord v.seg (v.base + n) (word_at (here x) rv) ∷ []) _ (omega arith)))))
  by_outcome (asks.Window rd rs base span) =
      by_cap no (word_at (here x) rs) _ (λ c _. by_view no f c rights.Window _ (λ v _ _. by_holds no (fits_in v base span) refusals.Range _ (λ _.
      by_holds no (nat_lt (size f.windows) MOST_WINDOWS) (refusals.Exhausted Windows) _ (λ _.
      word_goes (MakeWindow f.next (part_of v base span) ∷ Fresh ∷ []) rd (Cap (record { uid = f.next; rights = c.rights })) None (omega arith)))))
  by_outcome (asks.Length rd rs) = by_cap no (word_at (here x) rs) _ (λ c _. by_view no f c rights.Read _ (λ v _ _. plain rd (Data v.len) None))
  by_outcome (asks.Lookup rd rs name) =
      by_cap no (word_at (here x) rs) _ (λ c _. by_dir no f c rights.Lookup _ (λ d _ _. by_there no (named d name) refusals.UnknownName _ (λ e _. plain rd (Cap e.cap) _)))
  by_outcome (asks.Bind rs name rv) =
      by_cap no (word_at (here x) rs) _ (λ c _. by_cap no (word_at (here x) rv) _ (λ v _. by_dir no f c rights.Bind _ (λ d _ _.
      by_none no (barred d.guard.0 (Cap v)) refusals.Guarded _ (λ _. by_room no d name _ (λ _ _. changes_go (Bind c.uid name v ∷ []) _ (omega arith))))))
  by_outcome (asks.Unbind rs name) =
      by_cap no (word_at (here x) rs) _ (λ c _. by_dir no f c rights.Unbind _ (λ d _ _. by_there no (named d name) refusals.UnknownName _ (λ e _.
      by_holds no (not e.kept) refusals.Distinguished _ (λ _. changes_go (Unbind c.uid name ∷ []) None (omega arith)))))
  by_outcome (asks.List rs) = by_cap no (word_at (here x) rs) _ (λ c _. by_dir no f c rights.List _ (λ d _ _. done _ (record { reply = refl; few = omega arith; effect = tt })))
  by_outcome (asks.Impl rd rt ro) =
      by_cap no (word_at (here x) rt) _ (λ c _. by_cap no (word_at (here x) ro) _ (λ on _. by_there no (at f.types c.uid) (refusals.Absent kinds.Typ) _ (λ _ _.
      by_holds no (has c rights.Impl) (refusals.Lacks rights.Impl) _ (λ _. by_there no (at f.objects on.uid) (refusals.Absent kinds.Object) _ (λ o _.
      by_holds no (o.of == c.uid) refusals.WrongType _ (λ _. plain rd (Cap (full o.rep)) _))))))
  by_outcome (asks.MkSeg rd rs name size guard) =
      by_cap no (word_at (here x) rs) _ (λ c _. by_holds no (is_length size) refusals.Range _ (λ _. by_make no f c name _ (λ _. by_makes f (MakeSegment f.next size (guard_of guard)) c name kinds.Segment [] rd refl (omega arith))))
  by_outcome (asks.MkDir rd rs name guard) =
      by_cap no (word_at (here x) rs) _ (λ c _. by_make no f c name _ (λ _. by_makes f (MakeDirectory f.next (f.next + 1) (guard_of guard)) c name kinds.Directory (Fresh ∷ []) rd refl (omega arith)))
  by_outcome (asks.MkType rd rs name) =
      by_cap no (word_at (here x) rs) _ (λ c _. by_make no f c name _ (λ _. by_makes f (MakeType f.next) c name kinds.Typ [] rd refl (omega arith)))
  by_outcome (asks.MkObj rd rt rs name size) =
      by_cap no (word_at (here x) rt) _ (λ t _. by_cap no (word_at (here x) rs) _ (λ c _. by_holds no (is_length size) refusals.Range _ (λ _.
      by_object_room no f _ (λ _. by_dir no f c rights.Create _ (λ d _ _. by_there no (at f.types t.uid) (refusals.Absent kinds.Typ) _ (λ _ _. by_holds no (has t rights.Make) (refusals.Lacks rights.Make) _ (λ _.
      by_room no d name _ (λ _ _. by_makes f (MakeObject f.next (record { of = t.uid; rep = f.next + 1 }) size) c name kinds.Object (Fresh ∷ []) rd refl (omega arith)))))))))
  by_outcome (asks.MkCode rd rs name label rl) =
      by_cap no (word_at (here x) rs) _ (λ c _. by_none no (barred 1 (word_at (here x) rl)) refusals.Guarded _ (λ _. by_make no f c name _ (λ _. done _ (record { reply = refl; few = omega arith; effect = tt }))))
  by_outcome (asks.Delete rs name) =
      by_cap no (word_at (here x) rs) _ (λ c _. by_dir no f c rights.Delete _ (λ d _ _. by_there no (named d name) refusals.UnknownName _ (λ e _. by_holds no e.kept refusals.NotDistinguished _ (λ _.
      by_there no (at f.life e.cap.uid) refusals.NotDistinguished _ (λ kind _. by_drops f kind e.cap.uid (Unregister e.cap.uid c.uid name ∷ []) (omega arith))))))
  by_outcome (asks.Send rp rv) =
      by_cap no (word_at (here x) rp) _ (λ c _. by_there no (at f.boxes c.uid) (refusals.Absent kinds.Process) _ (λ box _. by_holds no (has c rights.Send) (refusals.Lacks rights.Send) _ (λ _.
      by_none no (barred 1 (word_at (here x) rv)) refusals.Guarded _ (λ _. by_holds no (nat_lt (length box) 8) (refusals.Exhausted Mailbox) _ (λ _. changes_go (Post c.uid (word_at (here x) rv) ∷ []) _ (omega arith))))))
  by_outcome (asks.Recv rd) = by_there no (at f.boxes x.process) refusals.Empty _ (λ box _. by_received x.process rd box)
  by_outcome (asks.Call rp) =
      by_cap no (word_at (here x) rp) _ (λ c _. by_holds no (nat_lt (length x.frames) 4) (refusals.Exhausted Frames) _ (λ frames. by_holds no (nat_le (x.charge + 16) MOST_CHARGE) (refusals.Exhausted Requests) _ (λ charge.
      by_there no (at f.codes c.uid) (refusals.Absent kinds.Code) _ (λ code live. by_holds no (has c rights.Enter) (refusals.Lacks rights.Enter) _ (λ _.
      let label : HasLabel f code.label = record { record_uid = c.uid; code = code; live = live; label-is = refl } in
      done _ (record { reply = refl; few = omega arith; effect = (ltb-true (length x.frames) 4 frames, leb-true (x.charge + 16) MOST_CHARGE charge, label) }))))))
  by_outcome (asks.Path rs) =
      by_cap no (word_at (here x) rs) _ (λ c _. by_holds no (nat_lt (length x.path) 4) (refusals.Exhausted Path) _ (λ few. by_dir no f c rights.Lookup _ (λ d _ _.
      done _ (record { reply = refl; few = omega arith; effect = ltb-true (length x.path) 4 few }))))
  by_outcome (asks.Find rd name) = by_find no f rd name x.path (λ i dir at_i d live may e there. plain rd (Cap e.cap) _)
