-- Users of a run of threads go from phase to phase. States docs/levels.md, "Phases".
use Rattle.std.proofs.Common.{◌≡◌, ℕ, zero, suc, ◌+◌, ◌-◌, ◌<◌, ◌≤◌, ◌&&◌, not, Bool, true, false, List, [], ◌∷◌, length, get_or, Option, Some, None, refl, sym, ap, ◌∙◌, subst, arith}
use Rattle.std.specs.Prelude.{slice_get, slice_index_or}
use Rattle.std.proofs.lemmas.Bool.{and_parts, true≢false}
use Rattle.std.proofs.lemmas.List.{length-replicate}
use Rattle.std.proofs.lemmas.Option.{same_Some, none-some, slice_get_within, slice_get-get_or, get_or_from_slice_get}
use Rattle.psos_calls.specs.declared.frame.Frame.{Frame}
use Rattle.psos_calls.specs.Language.Script.{Script, user_script}
use Rattle.psos_calls.specs.Language.User.{User}
use Rattle.psos_model.specs.Run.{phase_of, phase_in, is_open}
use Rattle.psos_model.specs.Replay.{boot_system}
use Rattle.psos_laws.proofs.BootSoundUsers.{boot_users_fresh, users_count}
use Rattle.psos_core.specs.UnderWay.{phases_most}
use Rattle.psos_core.proofs.PhaseRequests.{phase_within}
use Rattle.psos_core.proofs.ScriptPhases.{phases_of_user}
use Rattle.psos_locks.specs.Users.{UserView, new_user, AreNewUsers, AreUsers, AreThrough, AllMet, AreOver, WorkedOn}
use Rattle.psos_locks.specs.Stages.{IsServed, AreServed, AreBefore, are_going}
use Rattle.psos_locks.proofs.Served.{not_open, is_later}
use Rattle.psos_locks.proofs.Meeting.{has_one}

-- ---- before the first phase

-- each is a new user
record IsNew (s : Script) (i : ℕ) (u : UserView) : Type 0 where
  own : User
  there : slice_get (boot_system s).users i ≡ Some own
  is : u ≡ new_user (length s.users) i own

is_new : (s : Script) (users : List UserView) → AreNewUsers s users → (i : ℕ) (u : UserView) → slice_get users i ≡ Some u → IsNew s i u
is_new s users h i u at =
    let below : i < length (boot_system s).users = omega (arith, slice_get_within users i u at, h.all, users_count 0 s.users) in
    let own = get_or (boot_system s).users i u.who.own in
    let there = slice_get-get_or (boot_system s).users i u.who.own below in
    record { own = own; there = there; is = same_Some u (new_user (length s.users) i own) (sym at ∙ h.each i own there) }

pub served_none : (s : Script) (users : List UserView) → AreNewUsers s users → AreServed s 0 users
served_none s users h = record {
  are_users = record {
    all = h.all;
    numbers = λ i u at. ap (λ (v : UserView). v.who.side.number) (is_new s users h i u at).is;
    rooms = λ i u at. ap (λ (v : UserView). length v.who.receipts) (is_new s users h i u at).is ∙ length-replicate (length s.users) None;
  };
  each = λ i u at.
      let n = is_new s users h i u at in
      let first : IsServed s 0 (new_user (length s.users) i n.own) = record {
        going = refl;
        served = refl;
        phase = refl;
        closed = ap is_open (boot_users_fresh s i n.own n.there).frames;
        ahead = λ q e. omega arith;
        through = λ less. absurd (omega (arith, less));
      } in
      subst (IsServed s 0) (sym n.is) first;
}

-- ---- a phase begins

-- those that were served in phases before may meet
pub are_through : (s : Script) (p : ℕ) (users : List UserView) → 0 < p → AreServed s p users → AreThrough s p users
are_through s p users first h i u at =
    let is = h.each i u at in
    record { phase = omega (arith, is.phase, first); going = is.going; through = is.through first }

pub begun_first : (s : Script) (p : ℕ) (users : List UserView) → p ≤ 0 → AreServed s p users → AreBefore s p users
begun_first s p users none h = record {
  are_users = h.are_users;
  each = λ i u at.
      let is = h.each i u at in
      record { going = is.going; served = is.served; phase = omega (arith, is.phase, none) };
}

pub begun_next : (s : Script) (p : ℕ) (old new : List UserView) → 0 < p → AreServed s p old → AreUsers s new → AllMet old new → AreBefore s p new
begun_next s p old new first h users met = record {
  are_users = users;
  each = λ i u at.
      let less : i < length old = omega (arith, slice_get_within new i u at, users.all, h.are_users.all) in
      let one = has_one old i less in
      let is = h.each i one.0 one.1 in
      let m = met i one.0 u one.1 at in
      record { going = m.1 ∙ is.going; served = m.2 ∙ is.served; phase = omega (arith, ap (λ o. o.phase) m.0.rest, is.phase, first) };
}

-- ---- a phase is served

pub may_work : (s : Script) (p : ℕ) (users : List UserView) → AreBefore s p users → (k : ℕ) (d : UserView) → k < length users → (slice_index_or users k d).served ≡ p
may_work s p users h k d less = (h.each k (get_or users k d) (slice_get-get_or users k d less)).served

-- what the works of all have left
pub record Worked (s : Script) (p : ℕ) (old new : List UserView) : Type 0 where
  pub same_number : length new ≡ length old
  pub counted : (k : ℕ) (d : UserView) → k < length new → (slice_index_or new k d).served ≡ p + 1
  pub each : (k : ℕ) (d : UserView) → k < length old → WorkedOn s (slice_index_or old k d) (slice_index_or new k d)

module _ (s : Script) (p : ℕ) (old new : List UserView) (h : AreBefore s p old) (w : Worked s p old new) where
  record Is (i : ℕ) (u : UserView) : Type 0 where
    was : UserView
    at : slice_get old i ≡ Some was
    worked : WorkedOn s was u
    served : u.served ≡ p + 1

  is_worked : (i : ℕ) (u : UserView) → slice_get new i ≡ Some u → Is i u
  is_worked i u at =
      let less = slice_get_within new i u at in
      let before : i < length old = omega (arith, less, w.same_number) in
      let same : slice_index_or new i u ≡ u = get_or_from_slice_get new i u u at in
      record {
        was = slice_index_or old i u;
        at = slice_get-get_or old i u before;
        worked = subst (WorkedOn s (slice_index_or old i u)) same (w.each i u before);
        served = ap (λ (v : UserView). v.served) (sym same) ∙ w.counted i u less;
      }

  pub users_worked : AreUsers s new
  users_worked = record {
    all = w.same_number ∙ h.are_users.all;
    numbers = λ i u at.
        let is = is_worked i u at in
        is.worked.number ∙ h.are_users.numbers i is.was is.at;
    rooms = λ i u at.
        let is = is_worked i u at in
        ap (λ rs. length rs) is.worked.receipts ∙ h.are_users.rooms i is.was is.at;
  }

  pub served_more : are_going new ≡ true → AreServed s (p + 1) new
  served_more going = record {
    are_users = users_worked;
    each = λ i u at.
        let is = is_worked i u at in
        let up = all_going new going i u at in
        let through = is.worked.through up in
        record {
          going = up;
          served = is.served;
          phase = omega (arith, is.worked.phase, (h.each i is.was is.at).phase);
          closed = not_open s u.who through;
          ahead = is.worked.ahead up;
          through = λ first. through;
        };
  }
    where
      all_going : (us : List UserView) → are_going us ≡ true → (i : ℕ) (u : UserView) → slice_get us i ≡ Some u → u.halted ≡ false
      all_going [] all i u at = absurd (none-some u at)
      all_going (x ∷ us) all zero u at = ap (λ (v : UserView). v.halted) (sym (same_Some x u at)) ∙ not_true x.halted (and_parts (not x.halted) (are_going us) all).0
        where
          not_true : (b : Bool) → not b ≡ true → b ≡ false
          not_true false e = refl
          not_true true e = absurd (true≢false (sym e))
      all_going (x ∷ us) all (suc i) u at = all_going us (and_parts (not x.halted) (are_going us) all).1 i u at

-- ---- all phases are served

-- what a user asks next is of a phase that it has
phase_of_within : (s : Script) (x : User) (q : ℕ) → phase_of s x ≡ Some q → q < length (user_script s x.number).phases
phase_of_within s x q e = by_frames x.frames e
  where
    by_frames : (frames : List Frame) → phase_in s x frames ≡ Some q → q < length (user_script s x.number).phases
    by_frames [] at = phase_within (user_script s x.number).phases x.answered q at
    by_frames (f ∷ outer) at = phase_within (user_script s x.number).phases (x.answered - 1) q at

pub over_served : (s : Script) (p : ℕ) (users : List UserView) → phases_most s.users ≤ p → AreServed s p users → AreOver s users
over_served s p users last h going i u at =
    let is = h.each i u at in
    (is.closed, nothing is (phase_of s u.who.own) refl)
  where
    nothing : IsServed s p u → (o : Option ℕ) → phase_of s u.who.own ≡ o → phase_of s u.who.own ≡ None
    nothing is None e = e
    nothing is (Some q) e =
        let within = phase_of_within s u.who.own q e in
        let few = phases_of_user s u.who.own.number in
        let first : 0 < p = omega (arith, within, few, last) in
        let later = is_later s u.who is.ahead (is.through first) q e in
        absurd (omega (arith, within, few, last, first, later, is.phase))

-- where somebody is halted nothing is said
pub over_halted : (s : Script) (users : List UserView) → are_going users ≡ false → AreOver s users
over_halted s users halted going = absurd (true≢false (sym (all_going users going) ∙ halted))
  where
    all_going : (us : List UserView) → ((i : ℕ) (u : UserView) → slice_get us i ≡ Some u → u.halted ≡ false) → are_going us ≡ true
    all_going [] each = refl
    all_going (x ∷ us) each = ap (λ (b : Bool). not b && are_going us) (each 0 x refl) ∙ all_going us (λ i u at. each (suc i) u at)
