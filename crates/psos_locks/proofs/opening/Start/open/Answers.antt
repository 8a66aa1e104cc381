use Rattle.std.proofs.Common.{◌≡◌, length, ap, ◌∙◌, arith}
use Rattle.psos_table.specs.Table.{size}
use Rattle.psos_laws.proofs.BootSoundUsers.{users_count}
use Rattle.psos_locks.proofs.FirstUsers.{boxes_at_boot, boxes_count, all_new}
use Rattle.psos_locks.proofs.opening.Start.open.Goals as goal

pub lock_boxes-requires-clause-boxes : goal.lock_boxes-requires-clause-boxes
lock_boxes-requires-clause-boxes g c =
    let s = g.T.Run.script in
    let rows = ap (λ y. y.levels.boxes) c.requires.booted in
    let count : length c.in-Ok.mailboxes.items ≡ length s.users = c.in-Ok.ensures.count ∙ ap size rows ∙ boxes_count s c.requires.well_formed.some_users c.requires.well_formed.few_users in
    boxes_at_boot s c.in-Ok.mailboxes.items c.requires.well_formed c.in-Ok.ensures.all (c.in-Ok.ensures.same ∙ rows) count

pub lock_boxes-requires-clause-last : goal.lock_boxes-requires-clause-last
lock_boxes-requires-clause-last g c =
    let s = g.T.Run.script in
    let rows = ap (λ y. y.levels.boxes) c.requires.booted in
    let count : length c.in-Ok.mailboxes.items ≡ length s.users = c.in-Ok.ensures.count ∙ ap size rows ∙ boxes_count s c.requires.well_formed.some_users c.requires.well_formed.few_users in
    omega (arith, count, c.in-Ok.mailboxes.ok, c.args.self.all)

pub lock_boxes-requires-clause-room : goal.lock_boxes-requires-clause-room
lock_boxes-requires-clause-room g c =
    let s = g.T.Run.script in
    let rows = ap (λ y. y.levels.boxes) c.requires.booted in
    let count : length c.in-Ok.mailboxes.items ≡ length s.users = c.in-Ok.ensures.count ∙ ap size rows ∙ boxes_count s c.requires.well_formed.some_users c.requires.well_formed.few_users in
    omega (arith, count, c.in-Ok.mailboxes.ok, c.args.self.boxes_none, c.args.self.boxes_room)

pub first_users-requires-clause-last : goal.first_users-requires-clause-last
first_users-requires-clause-last g c =
    let all = ap (λ y. length y.users) c.requires.booted ∙ users_count 0 g.T.Run.script.users in
    omega (arith, all, ap (λ p. length p.items) c.deref_mut.ensures.value, c.new_lock-codes.ensures.rest)

pub first_users-requires-clause-rooms : goal.first_users-requires-clause-rooms
first_users-requires-clause-rooms g c =
    let all = ap (λ y. length y.users) c.requires.booted ∙ users_count 0 g.T.Run.script.users in
    omega (arith, all, ap (λ p. length p.items) c.deref_mut.ensures.value, c.args.self.rooms_all)

pub first_users-requires-clause-room : goal.first_users-requires-clause-room
first_users-requires-clause-room g c =
    let all = ap (λ y. length y.users) c.requires.booted ∙ users_count 0 g.T.Run.script.users in
    omega (arith, all, ap (λ p. length p.items) c.deref_mut.ensures.value, c.args.self.users_room)

pub returns : goal.returns
returns g c =
    let parts = ap (λ p. p.items) c.deref_mut.ensures.value ∙ ap (λ y. y.users) c.requires.booted in
    all_new g.T.Run.script c.deref_mut.result.now.items c.first_users.new.users.items parts c.first_users.ensures.users
