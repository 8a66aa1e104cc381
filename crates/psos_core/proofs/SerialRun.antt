-- A serial run on its way: from a start, request by request, to the end.
use Rattle.std.proofs.Common.{◌≡◌, ℕ, ◌+◌, ◌-◌, ◌^◌, ◌<◌, ◌≤◌, List, [], ◌∷◌, ◌++◌, length, get_or, Option, Some, None, refl, sym, ap, ◌∙◌, subst, arith}
use Rattle.std.specs.Prelude.{slice_get}
use Rattle.std.proofs.lemmas.List.{length-append}
use Rattle.std.proofs.lemmas.Option.{same_Some}
use Rattle.psos_calls.specs.declared.request.Request.{Request}
use Rattle.psos_calls.specs.declared.entry.Entry.{Entry}
use Rattle.psos_calls.specs.Language.Script.{Script, requests_of, user_script}
use Rattle.psos_calls.specs.Language.User.{User}
use Rattle.psos_model.specs.Flat.{Flat}
use Rattle.psos_model.specs.Answer.{answer}
use Rattle.psos_model.specs.Run.{has_left, phase_of, run_from, IsLegalFrom}
use Rattle.psos_model.specs.Events.{CoreState}
use Rattle.psos_model.specs.Replay.{System, replay_step, replay_from, entries_from, order_of}
use Rattle.psos_model.specs.Sound.{IsSound}
use Rattle.psos_model.specs.Replay.StandsFor.{StandsFor}
use Rattle.psos_model.specs.Run.SerialOrder.{IsFirst, IsSerialFrom}
use Rattle.psos_model.proofs.RequestRanges.{can_count}
use Rattle.psos_laws.proofs.SoundRuns.{runs_kept}
use Rattle.psos_laws.proofs.RoomToStep.{can_step}
use Rattle.psos_laws.proofs.OrderLengths.{orders_end}
use Rattle.psos_laws.proofs.AnswerProgress.{AreGoing, turn, start_going}
use Rattle.psos_laws.proofs.CompleteOrders.{run_going}
use Rattle.psos_laws.proofs.WatchedRuns.{next_most}
use Rattle.psos_core.specs.UnderWay.{phases_most, asked_before, due, IsPast, IsAt, HasServed}
use Rattle.psos_model.specs.Events.Serial.{IsCoreStart}
use Rattle.psos_core.specs.Serving.{Asks, IsServed, IsFrontFrom, AreSettledFrom, IsRunFrom}
use Rattle.psos_core.specs.EventStates.{IsOver}
use Rattle.psos_core.proofs.UserSlots.{found_there}
use Rattle.psos_core.proofs.WholeRuns.{front_of, run_of}
use Rattle.psos_core.proofs.ReplayStep.{step_is}
use Rattle.psos_model.proofs.Orders.{run_append, serial_more, serial_legal, order_more, order_length, replay_more, entries_more}
use Rattle.psos_events.proofs.Replays.{runs_stand}
use Rattle.psos_core.proofs.PhaseRequests.{asked_all}
use Rattle.psos_core.proofs.SerialOrder.{due_some, due_none, due_phase, past_phase, goes_within, is_first, nobody_left, at_first, at_more, at_user, at_phase}

-- what is found in user u's place, and what it asks next in the phases up to p
pub record Finds (s : Script) (now : System) (p u : ℕ) (x : User) (asked : Option Request) : Type 0 where
  pub there : slice_get now.users u ≡ Some x
  pub is : due s x (asked_before (user_script s u).phases (p + 1)) ≡ asked

-- what holds wherever a serial run has come
module _ (s : Script) (y : System) (f : Flat) (start : IsCoreStart s y f) (now : System) (entries : List Entry) (p u : ℕ) (h : HasServed s y f now entries p u) where
  abbrev order : List ℕ
  order = order_of entries

  abbrev flat : Flat
  flat = run_from s f order

  legal : IsLegalFrom s f order
  legal = serial_legal s f order h.serial

  stands : StandsFor now flat
  stands = subst (λ (z : System). StandsFor z flat) (sym h.replayed) (runs_stand s y f order start legal).stands

  sound : IsSound s flat
  sound = runs_kept s f order start.well_formed start.start.sound

  going : AreGoing s flat.users
  going = run_going s start.well_formed order f (start_going s f start.start) legal

  -- there are few requests
  pub few : length entries ≤ 32768
  few = omega (arith, orders_end s f order start.well_formed start.start legal, order_length entries)

  -- identifiers are left
  room : flat.next + 3 ≤ 2 ^ 64
  room = omega (arith, next_most s order f, start.start.next, few, order_length entries)

  -- all users are there
  pub all_users : length now.users ≡ length s.users
  all_users = ap (λ (xs : List User). length xs) stands.users ∙ going.all

  place : IsAt s flat.users p u
  place = subst (λ (xs : List User). IsAt s xs p u) stands.users h.place

  pub finds : (slots : List User) (x : User) (count : ℕ) (told asked : Option Request) → slots ≡ now.users → x ≡ get_or slots u x → u < length s.users
      → count ≡ asked_before (user_script s u).phases (p + 1) → told ≡ due s x count → told ≡ asked → Finds s now p u x asked
  finds slots x count told asked same is below all does what = record {
    there = found_there slots now.users u x same is (omega (arith, all_users, below));
    is = ap (due s x) (sym all) ∙ (sym does ∙ what);
  }

  -- user u has this number
  pub numbered : (slots : List User) (x : User) → slots ≡ now.users → x ≡ get_or slots u x → u < length s.users → x.number ≡ u
  numbered slots x same is below =
      let there = found_there slots now.users u x same is (omega (arith, all_users, below)) in
      (going.each u x (ap (λ (xs : List User). slice_get xs u) (sym stands.users) ∙ there)).number

  -- ---- a request that is due
  module _ (x : User) (request : Request) (found : Finds s now p u x (Some request)) where
    there : slice_get now.users u ≡ Some x
    there = found.there

    is : due s x (asked_before (user_script s u).phases (p + 1)) ≡ Some request
    is = found.is

    here : slice_get flat.users u ≡ Some x
    here = ap (λ (xs : List User). slice_get xs u) (sym stands.users) ∙ there

    abbrev count : ℕ
    count = asked_before (user_script s u).phases (p + 1)

    number : x.number ≡ u
    number = (going.each u x here).number

    phase : phase_of s x ≡ Some p
    phase = due_phase s p u x number (h.place.here x there) (due_some s x count request is).test

    first : IsFirst s flat.users u
    first = is_first s flat.users p u x place here phase

    -- it can be served
    pub asks : Asks s now u request
    asks =
        let next = (due_some s x count request is).next in
        let can = can_step s flat u start.well_formed sound (omega (arith, room)) first.left in
        record {
          user = x;
          flat = flat;
          here = there;
          next = next;
          well_formed = start.well_formed;
          stands = stands;
          sound = sound;
          room = room;
          count = can_count s start.well_formed x (can.counts x here) request next;
        }

    -- and then the run has come one request further
    module _ (new : System) (after : List Entry) (served : IsServed s now entries u new after) where
      abbrev entry : Entry
      entry = (replay_step s now u).1

      order-is : order_of (entries ++ entry ∷ []) ≡ order ++ u ∷ []
      order-is =
          let step = step_is s now u x request there (due_some s x count request is).next in
          order_more entries entry ∙ ap (λ (r : System × Entry). order ++ r.1.user ∷ []) step

      serial-is : IsSerialFrom s f (order_of (entries ++ entry ∷ []))
      serial-is = subst (IsSerialFrom s f) (sym order-is) (serial_more s f order u h.serial first)

      replayed-is : new ≡ replay_from s y (order_of (entries ++ entry ∷ []))
      replayed-is =
          served.system-is ∙ ap (λ (z : System). (replay_step s z u).0) h.replayed
          ∙ sym (replay_more s y order u) ∙ ap (replay_from s y) (sym order-is)

      users-are : (run_from s f (order_of (entries ++ entry ∷ []))).users ≡ new.users
      users-are =
          let after = (runs_stand s y f (order_of (entries ++ entry ∷ [])) start (serial_legal s f (order_of (entries ++ entry ∷ [])) serial-is)).stands in
          sym (ap (λ (z : System). z.users) replayed-is ∙ after.users)

      place-is : IsAt s new.users p u
      place-is =
          let t = turn s start.well_formed flat u going first.left in
          let same : (answer s flat u).0.users ≡ new.users = ap (λ (g : Flat). g.users) (sym (run_append s order (u ∷ []) f) ∙ ap (run_from s f) (sym order-is)) ∙ users-are in
          let mine : phase_of s t.x ≡ Some p = ap (phase_of s) (same_Some t.x x (sym t.there ∙ here)) ∙ phase in
          subst (λ (xs : List User). IsAt s xs p u) (sym t.users ∙ same)
          (at_more s flat.users p u t.x t.y t.there place (goes_within s p u t.x t.y (going.each u t.x t.there).number t.on mine))

      pub one_more : HasServed s y f new after p u
      one_more = subst (λ (es : List Entry). HasServed s y f new es p u) (sym served.entries-are) (record {
        replayed = replayed-is;
        recorded = ap (λ (z : System). entries ++ (replay_step s z u).1 ∷ []) h.replayed
            ∙ ap (λ (es : List Entry). es ++ (replay_step s (replay_from s y order) u).1 ∷ []) h.recorded
            ∙ sym (entries_more s y order u) ∙ ap (entries_from s y) (sym order-is);
        serial = serial-is;
        place = place-is;
      })

      -- which it does at most so often
      pub one_fewer : 32768 - length after < 32768 - length entries
      one_fewer =
          let legal = serial_legal s f (order_of (entries ++ entry ∷ [])) serial-is in
          omega (arith, orders_end s f (order_of (entries ++ entry ∷ [])) start.well_formed start.start legal, order_length (entries ++ entry ∷ []), length-append entries (entry ∷ []), ap length served.entries-are)

  -- ---- the next user, and the next phase

  -- nothing is due
  pub next_user : (x : User) → Finds s now p u x None → HasServed s y f now entries p (u + 1)
  next_user x found =
      let there = found.there in
      let is = found.is in
      let here : slice_get flat.users u ≡ Some x = ap (λ (xs : List User). slice_get xs u) (sym stands.users) ∙ there in
      let on = going.each u x here in
      let own : length (requests_of (user_script s x.number)) ≡ length (requests_of (user_script s u)) = ap (λ (n : ℕ). length (requests_of (user_script s n))) on.number in
      let few : asked_before (user_script s u).phases (p + 1) ≤ length (requests_of (user_script s x.number)) = omega (arith, own, asked_all (user_script s u).phases (p + 1)) in
      let past : IsPast s (p + 1) x = past_phase s (p + 1) u x on.number (due_none s x (asked_before (user_script s u).phases (p + 1)) is on.line few) in
      record {
        replayed = h.replayed;
        recorded = h.recorded;
        serial = h.serial;
        place = at_user s now.users p u x there past h.place;
      }

  pub next_phase : u ≡ length s.users → HasServed s y f now entries (p + 1) 0
  next_phase all = record {
    replayed = h.replayed;
    recorded = h.recorded;
    serial = h.serial;
    place = at_phase s now.users p u (all ∙ sym all_users) h.place;
  }

-- ---- the start, and the end

pub at_start : (s : Script) (y : System) (f : Flat) (now : System) → IsCoreStart s y f → now ≡ y → HasServed s y f now [] 0 0
at_start s y f now h e = record {
  replayed = e;
  recorded = refl;
  serial = tt;
  place = subst (λ (xs : List User). IsAt s xs 0 0) (sym (ap (λ (z : System). z.users) e ∙ h.stands.users)) (at_first s f.users (λ u x there. (h.start.users u x there).frames));
}

-- the requests so far are a front of a run
pub front_so_far : (s : Script) (y : System) (f : Flat) (now : System) (entries : List Entry) (p u : ℕ) → IsCoreStart s y f → HasServed s y f now entries p u → IsFrontFrom s y f entries
front_so_far s y f now entries p u start h = front_of s y f entries start (serial_legal s f (order_of entries) h.serial) h.recorded

-- and the users' own parts are settled as in its replay
pub settled_so_far : (s : Script) (y : System) (f : Flat) (now : System) (entries : List Entry) (p u : ℕ) → HasServed s y f now entries p u → AreSettledFrom s y entries now.users
settled_so_far s y f now entries p u h = record { users-are = ap (λ (z : System). z.users) h.replayed }

-- where the next request stopped, nothing of it has closed
pub front_left : (s : Script) (y : System) (f : Flat) (now : System) (entries left : List Entry) (p u : ℕ) → IsCoreStart s y f → HasServed s y f now entries p u → left ≡ entries → IsFrontFrom s y f left
front_left s y f now entries left p u start h same = subst (IsFrontFrom s y f) (sym same) (front_so_far s y f now entries p u start h)

pub settled_left : (s : Script) (y : System) (f : Flat) (now : System) (entries left : List Entry) (users : List User) (p u : ℕ) → HasServed s y f now entries p u → left ≡ entries → users ≡ now.users
    → AreSettledFrom s y left users
settled_left s y f now entries left users p u h same still =
    record { users-are = still ∙ ((settled_so_far s y f now entries p u h).users-are ∙ ap (λ (es : List Entry). (replay_from s y (order_of es)).users) (sym same)) }

-- nobody has a request left at the end of a whole run
pub over_at_end : (s : Script) (y : System) (f : Flat) (InOrder : List ℕ → Type 0) (entries : List Entry) (c : CoreState) (left : System) → c.users ≡ left.users → IsRunFrom s y f InOrder entries left → IsOver s c
over_at_end s y f InOrder entries c left same h = record { nobody = λ u. ap (λ (us : List User). has_left s us u) (same ∙ h.stands.users) ∙ h.over u }

pub at_end : (s : Script) (y : System) (f : Flat) (now : System) (entries : List Entry) (p : ℕ) → IsCoreStart s y f → p ≡ phases_most s.users → HasServed s y f now entries p 0 → IsRunFrom s y f (IsSerialFrom s f) entries now
at_end s y f now entries p start all h =
    run_of s y f now (IsSerialFrom s f) entries start (front_so_far s y f now entries p 0 start h) h.serial h.replayed (nobody_left s now.users p (omega (arith, all)) h.place)
