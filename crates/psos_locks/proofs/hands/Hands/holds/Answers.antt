use Rattle.std.proofs.Common.{◌<◌, sym, ◌∙◌, refl, arith}
use Rattle.psos_calls.specs.declared.level.Level.TheVariants.{L13, L12, L11, L10, L9, L8, L7, L0}
use Rattle.psos_calls.specs.Locks.{lock_of}
use Rattle.psos_locks.specs.Grips.{next_grip, page_grip, seg_grip, type_grip, dir_grip, life_grip, code_grip}
use Rattle.psos_locks.proofs.PlaceOfLevel.{held_at, some_held, whole_lock}
use Rattle.psos_locks.proofs.hands.Hands.holds.Goals as goal

pub returns-in-L13 : goal.returns-in-L13
returns-in-L13 g c =
    let level = c.requires.level ∙ c.in-L13.is in
    let some : 0 < c.args.users = omega (arith, c.requires.script.some_users, c.requires.users) in
    c.is_some.ensures ∙ some_held code_grip (lock_of c.args.users c.args.call.now) c.args.self.now.codes (λ k. whole_lock c.args.users some c.args.call.now L13 level refl)
    ∙ sym (held_at c.args.self.now c.args.users c.args.call.now L13 level)

pub returns-in-L12 : goal.returns-in-L12
returns-in-L12 g c =
    let level = c.requires.level ∙ c.in-L12.is in
    c.is_box.ensures ∙ sym (held_at c.args.self.now c.args.users c.args.call.now L12 level)

pub returns-in-L11 : goal.returns-in-L11
returns-in-L11 g c =
    let level = c.requires.level ∙ c.in-L11.is in
    let some : 0 < c.args.users = omega (arith, c.requires.script.some_users, c.requires.users) in
    c.is_some-in-L11.ensures ∙ some_held life_grip (lock_of c.args.users c.args.call.now) c.args.self.now.life (λ k. whole_lock c.args.users some c.args.call.now L11 level refl)
    ∙ sym (held_at c.args.self.now c.args.users c.args.call.now L11 level)

pub returns-in-L10 : goal.returns-in-L10
returns-in-L10 g c =
    let level = c.requires.level ∙ c.in-L10.is in
    let some : 0 < c.args.users = omega (arith, c.requires.script.some_users, c.requires.users) in
    c.is_some-in-L10.ensures ∙ some_held dir_grip (lock_of c.args.users c.args.call.now) c.args.self.now.dirs (λ k. whole_lock c.args.users some c.args.call.now L10 level refl)
    ∙ sym (held_at c.args.self.now c.args.users c.args.call.now L10 level)

pub returns-in-L9 : goal.returns-in-L9
returns-in-L9 g c =
    let level = c.requires.level ∙ c.in-L9.is in
    let some : 0 < c.args.users = omega (arith, c.requires.script.some_users, c.requires.users) in
    c.is_some-in-L9.ensures ∙ some_held type_grip (lock_of c.args.users c.args.call.now) c.args.self.now.types (λ k. whole_lock c.args.users some c.args.call.now L9 level refl)
    ∙ sym (held_at c.args.self.now c.args.users c.args.call.now L9 level)

pub returns-in-L8 : goal.returns-in-L8
returns-in-L8 g c =
    let level = c.requires.level ∙ c.in-L8.is in
    let some : 0 < c.args.users = omega (arith, c.requires.script.some_users, c.requires.users) in
    c.is_some-in-L8.ensures ∙ some_held seg_grip (lock_of c.args.users c.args.call.now) c.args.self.now.segs (λ k. whole_lock c.args.users some c.args.call.now L8 level refl)
    ∙ sym (held_at c.args.self.now c.args.users c.args.call.now L8 level)

pub returns-in-L7 : goal.returns-in-L7
returns-in-L7 g c =
    let level = c.requires.level ∙ c.in-L7.is in
    let some : 0 < c.args.users = omega (arith, c.requires.script.some_users, c.requires.users) in
    c.is_some-in-L7.ensures ∙ some_held (page_grip {B = _}) (lock_of c.args.users c.args.call.now) c.args.self.now.pages (λ k. whole_lock c.args.users some c.args.call.now L7 level refl)
    ∙ sym (held_at c.args.self.now c.args.users c.args.call.now L7 level)

pub returns-in-L0 : goal.returns-in-L0
returns-in-L0 g c =
    let level = c.requires.level ∙ c.in-L0.is in
    let some : 0 < c.args.users = omega (arith, c.requires.script.some_users, c.requires.users) in
    c.is_some-in-L0.ensures ∙ some_held next_grip (lock_of c.args.users c.args.call.now) c.args.self.now.issuer (λ k. whole_lock c.args.users some c.args.call.now L0 level refl)
    ∙ sym (held_at c.args.self.now c.args.users c.args.call.now L0 level)
