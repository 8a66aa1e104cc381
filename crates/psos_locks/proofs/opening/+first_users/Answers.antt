use Rattle.std.proofs.Common.{◌≡◌, ℕ, ◌+◌, [], ◌∷◌, ◌++◌, length, Some, sym, ap, ◌∙◌, arith}
use Rattle.std.specs.Prelude.{slice_get}
use Rattle.std.proofs.lemmas.List.{length_push}
use Rattle.psos_calls.specs.declared.entry.Entry.{Entry}
use Rattle.psos_model.specs.Replay.{boot_system}
use Rattle.psos_journal.specs.Views.{Side, new_side}
use Rattle.psos_locks.specs.Users.{new_user}
use Rattle.psos_locks.proofs.ListPlaces.{popped, each_front, each_last}
use Rattle.psos_locks.proofs.FirstUsers.{one_more_user}
use Rattle.psos_locks.proofs.opening.+first_users.Goals as goal

pub first_users-requires : goal.first_users-requires
first_users-requires g t c κs within =
    let front = c.pop.new.self.items in
    let x = c.in-Some.private in
    let whole = popped c.args.privates.now.items front c.pop.result x c.pop.ensures.items c.in-Some.is in
    let sides = c.pop-2.new.self.items in
    let m = c.in-Some-pop.member in
    let all = popped c.args.members.now.items sides c.pop-2.result m c.pop-2.ensures.items c.in-Some-pop.is in
    let fewer : length c.args.privates.now.items ≡ length front + 1 = ap length whole ∙ length_push front x in (
      omega (arith, fewer),
      (
        within,
        (
          record { each = each_front (λ i x. slice_get (boot_system g.T.Run.script).users i ≡ Some x) c.args.privates.now.items front x whole c.requires.parts.each },
          (
            record { each = each_front (λ i (m : Side Entry). m ≡ new_side i) c.args.members.now.items sides m all c.requires.order.each },
            (
              omega (arith, fewer, c.requires.last, c.in-Some-pop.ensures.cases),
              (
                omega (arith, fewer, c.requires.rooms, c.in-Some-pop-2.ensures.cases),
                (
                  c.requires.none,
                  omega (arith, fewer, c.requires.room),
                ),
              ),
            ),
          ),
        ),
      ),
    )

pub first_user-requires-clause-member : goal.first_user-requires-clause-member
first_user-requires-clause-member g t c =
    let sides = c.pop-2.new.self.items in
    let m = c.in-Some-pop.member in
    let all = popped c.args.members.now.items sides c.pop-2.result m c.pop-2.ensures.items c.in-Some-pop.is in
    let side = each_last (λ i (m : Side Entry). m ≡ new_side i) c.args.members.now.items sides m all c.requires.order.each in
    side ∙ ap (λ (k : ℕ). new_side {A = Entry} k) (sym (ap (λ (m : Side Entry). m.number) side))

pub first_user-requires-clause-here : goal.first_user-requires-clause-here
first_user-requires-clause-here g t c =
    let front = c.pop.new.self.items in
    let x = c.in-Some.private in
    let whole = popped c.args.privates.now.items front c.pop.result x c.pop.ensures.items c.in-Some.is in
    let sides = c.pop-2.new.self.items in
    let m = c.in-Some-pop.member in
    let all = popped c.args.members.now.items sides c.pop-2.result m c.pop-2.ensures.items c.in-Some-pop.is in
    let side = each_last (λ i (m : Side Entry). m ≡ new_side i) c.args.members.now.items sides m all c.requires.order.each in
    let same : length sides ≡ length front = omega (arith, ap length whole, length_push front x, ap length all, length_push sides m, c.requires.last, c.args.members.now.ok) in
    let number : m.number ≡ length front = ap (λ (m : Side Entry). m.number) side ∙ same in
    ap (slice_get (boot_system g.T.Run.script).users) number ∙ each_last (λ i x. slice_get (boot_system g.T.Run.script).users i ≡ Some x) c.args.privates.now.items front x whole c.requires.parts.each

pub returns-clause-users : goal.returns-clause-users
returns-clause-users g t c =
    let front = c.pop.new.self.items in
    let x = c.in-Some.private in
    let whole = popped c.args.privates.now.items front c.pop.result x c.pop.ensures.items c.in-Some.is in
    let sides = c.pop-2.new.self.items in
    let m = c.in-Some-pop.member in
    let all = popped c.args.members.now.items sides c.pop-2.result m c.pop-2.ensures.items c.in-Some-pop.is in
    let side = each_last (λ i (m : Side Entry). m ≡ new_side i) c.args.members.now.items sides m all c.requires.order.each in
    let same : length sides ≡ length front = omega (arith, ap length whole, length_push front x, ap length all, length_push sides m, c.requires.last, c.args.members.now.ok) in
    let number : m.number ≡ length front = ap (λ (m : Side Entry). m.number) side ∙ same in
    let user = c.first_user.ensures ∙ ap (λ (k : ℕ). new_user (length g.T.Run.script.users) k x) number in
    one_more_user (length g.T.Run.script.users) front c.args.privates.now.items x c.first_users.new.users.items c.push_reserved.new.self.items c.first_users.ensures.users whole
    (c.push_reserved.ensures.items ∙ ap (λ u. c.first_users.new.users.items ++ u ∷ []) user)
