-- What is kept tells the origins of the history, after each request. States docs/promises.md, "Origins".
use Rattle.std.proofs.Common.{◌≡◌, ℕ, zero, suc, cond, ◌<◌, ◌≤◌, List, [], ◌∷◌, ◌++◌, length, slice_get, slice_set, Some, refl, sym, ap, subst, ◌∙◌, arith, length-append, length-set, inl, inr}
use Rattle.std.specs.Prelude.{IsTrue, reverse}
use Rattle.std.specs.List.{AllByRecursion}
use Rattle.std.proofs.lemmas.Bool.{cases_eq, ne_eqb, eq-eqb}
use Rattle.std.proofs.lemmas.List.{reverse-append, length-reverse}
use Rattle.std.proofs.lemmas.Option.{same_Some, none-some, slice_get_within}
use Rattle.psos_table.specs.Table.{at}
use Rattle.psos_words.specs.declared.word.Word.{Word}
use Rattle.psos_calls.specs.declared.frame.Frame.{Frame}
use Rattle.psos_calls.specs.declared.request.Request.{Request}
use Rattle.psos_calls.specs.Language.Script.{Script, IsWellFormed}
use Rattle.psos_calls.specs.Language.Tests.{if_there}
use Rattle.psos_calls.specs.Language.User.{User, next_request, after}
use Rattle.psos_model.specs.declared.place.Place.{Place}
use Rattle.psos_model.specs.Flat.{Flat}
use Rattle.psos_model.specs.Answer.{outcome, answer}
use Rattle.psos_model.specs.Flat.Boot.{boot}
use Rattle.psos_model.specs.Answer.Outcomes.{Outcome}
use Rattle.psos_model.specs.Flat.Places.{frame_at}
use Rattle.psos_model.specs.Run.{run_from, run, has_left}
use Rattle.psos_model.specs.Sound.{IsSound}
use Rattle.psos_model.specs.Sound.Users.{IsSoundFrame}
use Rattle.psos_model.proofs.FlatStep.{answer_is}
use Rattle.psos_laws.specs.declared.coming.Coming.{Coming}
use Rattle.psos_laws.specs.declared.origins.Origins.{Origins}
use Rattle.psos_laws.specs.Landings.{Landing, changes_put, effect_puts, end_puts, puts, before}
use Rattle.psos_laws.specs.History.{Transition, transition_by, transition_at, past_after, history, origin_of}
use Rattle.psos_laws.specs.Arrivals.{told, came_by, came_in, came_out, moved_by, opened_by, IsComing, AddsArrivals, AreFull, AreCallers, Tells}
use Rattle.psos_laws.proofs.OwnArrivals.{closing, number_closing, same_ends}
use Rattle.psos_laws.proofs.StepLaws.{Fair, first_puts}
use Rattle.psos_laws.proofs.UnchangedPlaces.{set_here}
use Rattle.psos_laws.proofs.FairRequests.{fair}
use Rattle.psos_laws.proofs.AnswerSteps.{ground_of}
use Rattle.psos_laws.proofs.RequestsLeft.{has_user}
use Rattle.psos_laws.proofs.AnswerProgress.{left_there, asks_in, asks}
use Rattle.psos_laws.proofs.OriginSteps.{came_append, changes_come, drawn_moves, opens, ends_come, told_more}
use Rattle.psos_laws.proofs.BodyArrivals.{Keeps, after_in, callers_kept}

-- ---- what a sound state gives

sixteen : (s : Script) (frames : List Frame) (d : ℕ) (q : Frame) → AllByRecursion (IsSoundFrame s) frames → frame_at frames d ≡ Some q → length q.regs ≡ 16
sixteen s [] d q h e = absurd (none-some q e)
sixteen s (r ∷ outer) d q h e = elim (cases_eq d (length outer)) [
  | inl same ↦ subst (λ (k : Frame). length k.regs ≡ 16) (same_Some r q (sym (ap (λ b. cond b (Some r) (frame_at outer d)) (eq-eqb d (length outer) same)) ∙ e)) h.0.regs
  | inr apart ↦ sixteen s outer d q h.1 (sym (ap (λ b. cond b (Some r) (frame_at outer d)) (ne_eqb d (length outer) apart)) ∙ e)
]

pub are_full : (s : Script) (f : Flat) → IsWellFormed s → IsSound s f → AreFull f.users
are_full s f w sound = record {
  few = let all = sound.all_users in let eight = w.few_users in omega (arith, all, eight);
  each = λ u x there.
      let user = sound.users u x there in
      record { regs = user.regs; frames = λ d q e. sixteen s x.frames d q user.frames e; few = user.few };
}

-- ---- one request

same_room : (old new : Origins) (n u : ℕ) (caller : List Word) → length old.callers.items ≡ 32 → Keeps u n caller old.callers.items new.callers.items → length new.callers.items ≡ 32
same_room old new zero u caller room keeps = ap length (keeps.outside refl) ∙ room
same_room old new (suc n) u caller room keeps = ap length (keeps.inside (omega arith)) ∙ (length-set old.callers.items _ caller ∙ room)

module _ (s : Script) (f : Flat) (x : User) (r : Request) where
  abbrev o : Outcome
  o = outcome f x r

  abbrev first : List Landing
  first = first_puts f x o

  -- what came before bodies end
  begun : Fair f x o → came_in f o.source o.changes ++ came_by (effect_puts x o.source o.effect) ≡ came_by first
  begun is =
      ap (λ ls. ls ++ came_by (effect_puts x o.source o.effect)) (changes_come f o.source o.changes is.short)
      ∙ sym (came_append (effect_puts x o.source o.effect) (changes_put f o.source o.changes))

  -- and with their ends
  whole : came_by first ++ came_out (after s x o.effect) (opened_by x o.effect) (came_by first) ≡ came_by (puts s f x r)
  whole =
      let z = closing x o.effect in
      ap (λ n. came_by first ++ came_out (after s x o.effect) n (came_by first)) (opens x o.effect)
      ∙ (ap (λ ls. came_by first ++ ls) (ends_come s z z.frames first refl ∙ ap came_by (same_ends s x z z.frames first (number_closing x o.effect)))
      ∙ sym (came_append (end_puts s x z.frames first) first))

module _ (s : Script) (w : IsWellFormed s) (f : Flat) (sound : IsSound s f) (u : ℕ) (x : User) (there : slice_get f.users u ≡ Some x) (r : Request) (asks-it : next_request s x ≡ Some r) where
  transition_is : transition_at s f u ≡ transition_by s f u x (Some r)
  transition_is = ap (λ o. if_there o (record { flat = f; user = u; landings = []; moved = λ p. p }) (λ x. transition_by s f u x (next_request s x))) there ∙ ap (transition_by s f u x) asks-it

  users_are : (answer s f u).0.users ≡ slice_set f.users u (after s x (outcome f x r).effect)
  users_are = ap (λ a. a.0.users) (answer_is s f u x r there asks-it)

  is_fair : Fair f x (outcome f x r)
  is_fair =
      let number = (sound.users u x there).number in
      fair f x (ap (slice_get f.users) number ∙ there) (ground_of s f sound) r

  tells_one : (past : List Transition) (old new : Origins) (k : Coming) → Tells past f old → IsComing s f u k → AddsArrivals k u (after s x (outcome f x r).effect) old new
      → Tells (transition_at s f u ∷ past) (answer s f u).0 new
  tells_one past old new k tells is kept =
      let y = after s x (outcome f x r).effect in
      let is_list : k.arrivals.list.items ≡ came_by (first_puts f x (outcome f x r)) = is.list x r there asks-it ∙ begun s f x r is_fair in
      let list : kept.last.list.items ≡ came_by (puts s f x r) =
      kept.list ∙ (ap (λ ls. ls ++ came_out y k.opened ls) is_list
      ∙ (ap (λ n. came_by (first_puts f x (outcome f x r)) ++ came_out y n (came_by (first_puts f x (outcome f x r)))) (is.opened x r there asks-it) ∙ whole s f x r)) in
      let moves : (p : Place) → moved_by kept.last.drawn p ≡ before (outcome f x r).changes p =
      λ p. ap (λ b. moved_by b p) (kept.drawn ∙ is.drawn x r there asks-it) ∙ drawn_moves f (outcome f x r).changes is_fair.safe p in
      let was : length (reverse old.past.items) ≡ length past = length-reverse old.past.items ∙ tells.count in
      let bodies : k.bodies ≡ length x.frames = is.bodies x there in
      let keeps_any : Keeps u k.bodies k.caller old.callers.items new.callers.items = record { outside = kept.outside; inside = kept.inside } in
      let keeps : Keeps u (length x.frames) k.caller old.callers.items new.callers.items =
      subst (λ n. Keeps u n k.caller old.callers.items new.callers.items) bodies keeps_any in
      record {
        count =
            let added : length new.past.items ≡ length (old.past.items ++ kept.last ∷ []) = ap length kept.past in
            let one = length-append old.past.items (kept.last ∷ []) in
            let count = tells.count in
            omega (arith, added, one, count);
        origins = λ p c.
            ap (λ rs. told (reverse rs) p c) kept.past
            ∙ (ap (λ rs. told rs p c) (reverse-append old.past.items (kept.last ∷ []))
            ∙ (told_more (reverse old.past.items) past kept.last (transition_by s f u x (Some r)) list moves (kept.next ∙ is.next) was tells.origins p c
            ∙ ap (λ e. origin_of (e ∷ past) p c) (sym transition_is)));
        room = same_room old new k.bodies u k.caller tells.room keeps_any;
        callers = subst (λ us. AreCallers us new.callers.items) (sym users_are)
            (callers_kept f.users u k.caller old.callers.items new.callers.items x keeps (is.caller x there) tells.room (are_full s f w sound) there y (after_in s x (outcome f x r).effect) tells.callers);
      }

-- who has a request left is there, and asks it
pub tells_more : (s : Script) → IsWellFormed s → (f : Flat) → IsSound s f → (u : ℕ) → IsTrue (has_left s f.users u) → (past : List Transition) (old new : Origins) (k : Coming)
    → Tells past f old → IsComing s f u k → ((y : User) → slice_get (answer s f u).0.users u ≡ Some y → AddsArrivals k u y old new) → Tells (transition_at s f u ∷ past) (answer s f u).0 new
tells_more s w f sound u left past old new k tells is kept =
    let has = left_there s f.users u left in
    let x = has.row in
    let ask = asks s x x.frames (sound.users u x has.there).line (asks_in s f.users x x.frames refl (has_user s f.users u x has.there left)) in
    let y = after s x (outcome f x ask.0).effect in
    tells_one s w f sound u x has.there ask.0 ask.1 past old new k tells is
    (kept y (ap (λ us. slice_get us u) (users_are s w f sound u x has.there ask.0 ask.1) ∙ set_here f.users u y x has.there))

-- ---- runs

past_append : (s : Script) (order more : List ℕ) (f : Flat) (past : List Transition) → past_after s f past (order ++ more) ≡ past_after s (run_from s f order) (past_after s f past order) more
past_append s [] more f past = refl
past_append s (u ∷ us) more f past = past_append s us more (answer s f u).0 (transition_at s f u ∷ past)

-- what is kept is the same
pub tells_same : (past : List Transition) (f g : Flat) (old new : Origins) → g ≡ f → new.past.items ≡ old.past.items → new.callers.items ≡ old.callers.items → Tells past f old → Tells past g new
tells_same past f g old new states pasts callers h = record {
  count = ap length pasts ∙ h.count;
  origins = λ p c. ap (λ rs. told (reverse rs) p c) pasts ∙ h.origins p c;
  room = ap length callers ∙ h.room;
  callers = subst (AreCallers g.users) (sym callers) (subst (λ (e : Flat). AreCallers e.users old.callers.items) (sym states) h.callers);
}

-- the history of the same order
pub tells_as : (s t : Script) (order later : List ℕ) (f : Flat) (o : Origins) → t ≡ s → later ≡ order → Tells (history s order) f o → Tells (history t later) f o
tells_as s t order later f o scripts orders h =
    subst (λ us. Tells (history t us) f o) (sym orders) (subst (λ r. Tells (history r order) f o) (sym scripts) h)

-- one request more
pub tells_step : (s : Script) (order : List ℕ) (f g : Flat) (u : ℕ) (old new : Origins) (k : Coming) → IsWellFormed s → IsSound s f → f ≡ run s order → IsTrue (has_left s f.users u)
    → g ≡ (answer s f u).0 → Tells (history s order) f old → IsComing s f u k → ((y : User) → slice_get g.users u ≡ Some y → AddsArrivals k u y old new) → Tells (history s (order ++ u ∷ [])) g new
tells_step s order f g u old new k w sound state left states tells is kept =
    let more = tells_more s w f sound u left (history s order) old new k tells is (λ y e. kept y (ap (λ (h : Flat). slice_get h.users u) states ∙ e)) in
    let past : history s (order ++ u ∷ []) ≡ transition_at s f u ∷ history s order = past_append s order (u ∷ []) (boot s) [] ∙ ap (λ h. transition_at s h u ∷ history s order) (sym state) in
    subst (λ h. Tells h g new) (sym past) (subst (λ h. Tells (transition_at s f u ∷ history s order) h new) (sym states) more)

-- no request
pub tells_boot : (s : Script) (f : Flat) (o : Origins) → ((u : ℕ) (x : User) → slice_get f.users u ≡ Some x → x.frames ≡ []) → o.past.items ≡ [] → length o.callers.items ≡ 32 → Tells (history s []) f o
tells_boot s f o none past room = record {
  count = ap length past;
  origins = λ p c. ap (λ rs. told (reverse rs) p c) past;
  room = room;
  callers = λ u d x q there at_d inner i low.
      let closed : length x.frames ≡ 0 = ap length (none u x there) in
      absurd (omega (arith, inner, closed));
}

-- mailboxes are small
pub small_boxes : (s : Script) (f : Flat) → IsSound s f → (b : ℕ) (box : List Word) → at f.boxes b ≡ Some box → length box ≤ 8
small_boxes s f sound b box live = (sound.boxes b box live).few

-- a user that has a request left is one of eight
pub one_of_eight : (s : Script) (f : Flat) (u : ℕ) → IsWellFormed s → IsSound s f → IsTrue (has_left s f.users u) → u < 8
one_of_eight s f u w sound left =
    let has = left_there s f.users u left in
    let below = slice_get_within f.users u has.row has.there in
    let few = (are_full s f w sound).few in
    omega (arith, below, few)
