-- What the code of a close has found. States docs/levels.md, "Locks".
use Rattle.std.proofs.Common.{◌≡◌, ℕ, ◌+◌, ◌<◌, List, [], length, map, get_or, set, Option, Some, ap, ◌∙◌, sym, subst}
use Rattle.std.specs.Prelude.{slice_get}
use Rattle.std.specs.List.{refill}
use Rattle.std.proofs.lemmas.List.{map-set}
use Rattle.psos_calls.specs.declared.effect.Effect.{Effect}
use Rattle.psos_calls.specs.declared.next.Next.{Next}
use Rattle.psos_calls.specs.declared.next.Next.TheVariants as nexts
use Rattle.psos_calls.specs.declared.reply.Reply.{Reply}
use Rattle.psos_calls.specs.declared.step.Step.{Step}
use Rattle.psos_calls.specs.Language.Script.{Script}
use Rattle.psos_calls.specs.Language.User.{User, CanSettle, after}
use Rattle.psos_model.specs.Run.{phase_of}
use Rattle.psos_model.specs.Events.{CoreState}
use Rattle.psos_core.specs.declared.ongoing.Ongoing.{Ongoing}
use Rattle.psos_core.specs.declared.upcoming.Upcoming.{Upcoming}
use Rattle.psos_core.specs.declared.upcoming.Upcoming.TheVariants as upcoming
use Rattle.psos_core.specs.Plans.{next_after, next_for, CanPlan, Tells}
use Rattle.psos_core.specs.Events.{MayStep}
use Rattle.psos_core.proofs.UserSlots.{found_there}
use Rattle.psos_core.proofs.EventRun.{can_settle, answered_fits, within_fits}
use Rattle.psos_core.proofs.EventParts.{below, traced, read_back, parts_are, closing, shut_plan}

-- ---- before the effect is settled

-- the plan of user u's request closes it, and this is the user's own part
pub record IsAtClose (s : Script) (c : CoreState) (o : Ongoing) (u : ℕ) (reply : Reply) (effect : Effect) (x : User) : Type 0 where
  pub may : MayStep s c o u
  pub asked : next_for s c u ≡ Some (nexts.Close reply effect)
  pub here : slice_get c.users u ≡ Some x

pub is_at_close : (s : Script) (c : CoreState) (o : Ongoing) (u : ℕ) → MayStep s c o u → (kept taken : Upcoming) (next : Next) (reply : Reply) (effect : Effect) → kept ≡ get_or o.nexts.items u kept → taken ≡ kept
    → taken ≡ upcoming.Known next → next ≡ nexts.Close reply effect → (slots : List User) (x : User) → slots ≡ c.users → x ≡ get_or slots u x → IsAtClose s c o u reply effect x
is_at_close s c o u may kept taken next reply effect read took known is slots x same found = record {
  may = may;
  asked = closing s c o u may kept taken next reply effect read took known is;
  here = found_there slots c.users u x same found (below s c o u may);
}

module _ (s : Script) (c : CoreState) (o : Ongoing) (u : ℕ) (reply : Reply) (effect : Effect) (x : User) (h : IsAtClose s c o u reply effect x) where
  pub settles : CanSettle x effect
  settles = can_settle s c o u h.may reply effect h.asked x h.here

  pub answered_room : x.frames ≡ [] → x.answered + 1 < 65536
  answered_room = answered_fits x effect settles

  pub within_room : 0 < length x.frames → x.within + 1 < 65536
  within_room = within_fits x effect settles

  -- ---- after it, where the trace was cleared

  module _ (slots : List User) (same : slots ≡ c.users) (found : x ≡ get_or slots u x) (left : User) (settled : left ≡ after s (get_or slots u x) effect) where
    left_is : left ≡ after s x effect
    left_is = settled ∙ ap (λ (z : User). after s z effect) (sym found)

    pub parts_then : refill (length c.users) c.users (set slots u left) ≡ set c.users u (after s x effect)
    parts_then = parts_are c.users slots u left (after s x effect) same left_is

    -- and so is its phase
    pub phases_then : (now : List User) (y : User) (phase : Option ℕ) (phases : List (Option ℕ)) → now ≡ refill (length c.users) c.users (set slots u left) → y ≡ get_or now u y → phase ≡ phase_of s y
        → phases ≡ map (phase_of s) c.users → set phases u phase ≡ map (phase_of s) (set c.users u (after s x effect))
    phases_then now y phase phases written there is all =
        let reader : y ≡ after s x effect = read_back c.users u (after s x effect) y (below s c o u h.may) (there ∙ ap (λ (xs : List User). get_or xs u y) (written ∙ parts_then)) in
        ap (set phases u) (is ∙ ap (phase_of s) reader)
        ∙ (ap (λ (ps : List (Option ℕ)). set ps u (phase_of s (after s x effect))) all
        ∙ sym (map-set (phase_of s) c.users u (after s x effect)))

    module _ (now : List User) (y : User) (trace read : List Step) (written : now ≡ refill (length c.users) c.users (set slots u left)) (there : y ≡ get_or now u y) (none : trace ≡ [])
        (back : read ≡ get_or (set c.traces u trace) u read) where
      reader_is : y ≡ after s x effect
      reader_is = read_back c.users u (after s x effect) y (below s c o u h.may) (there ∙ ap (λ (xs : List User). get_or xs u y) (written ∙ parts_then))

      pub empty_then : read ≡ []
      empty_then = read_back c.traces u trace read (traced s c o u h.may) back ∙ none

      pub can_plan_then : CanPlan s y read
      can_plan_then =
          let P : User → List Step → Type 0 = λ z t. CanPlan s z t in
          subst (λ (z : User). P z read) (sym reader_is) (subst (P (after s x effect)) (sym empty_then) (shut_plan s c o u h.may reply effect h.asked x h.here))

      pub tells_then : (then : Upcoming) → Tells then (next_after s y read) → Tells then (next_after s (after s x effect) [])
      tells_then then told = subst (λ (t : List Step). Tells then (next_after s (after s x effect) t)) empty_then (subst (λ (z : User). Tells then (next_after s z read)) reader_is told)
