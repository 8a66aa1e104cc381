use Rattle.std.proofs.Common.{arith, inl, inr, sym, ◌∙◌}
use Rattle.std.proofs.lemmas.Option.{slice_get_within}
use Rattle.psos_laws.proofs.WordLists.{no_register, caller_register}
use Rattle.psos_laws.proofs.held.frame_cap.Goals as goal
use Rattle.psos_laws.proofs.held.frame_cap.Goals.{then-i-ge16-via-then-i-ge16, then-i-ge16-via-else-i-ge16+then-depth-open}

pub returns-then-i-ge16 : goal.returns-then-i-ge16
returns-then-i-ge16 c = elim c.then-i-ge16.branch [
  | then-i-ge16-via-then-i-ge16 w ↦ no_register c.args.flat.now.users c.args.user c.args.depth c.args.i c.in-Some.me.now c.in-Some.ensures c.requires.full (inl w.if-i-ge16.true)
  | then-i-ge16-via-else-i-ge16+then-depth-open w ↦
      no_register c.args.flat.now.users c.args.user c.args.depth c.args.i c.in-Some.me.now c.in-Some.ensures c.requires.full (inr (omega (arith, w.if-depth-open.true, c.open_bodies-open.ensures.count)))
]

pub bounds-callers-user : goal.bounds-callers-user
bounds-callers-user c =
    let there = slice_get_within c.args.flat.now.users c.args.user c.in-Some.me.now (sym c.in-Some.ensures) in
    let eight = c.requires.full.few in
    let room = c.requires.room in
    omega (arith, there, eight, room)

pub returns : goal.returns
returns c =
    let count = c.open_bodies-open.ensures.count in
    let apart = c.if-depth-open-2.false in
    c.cap_of-2.ensures
    ∙ caller_register c.args.flat.now.users c.args.callers.now c.args.user c.args.depth c.args.i c.in-Some.me.now c.in-Some.ensures c.requires.callers
    (omega (arith, c.if-depth-open.false, apart, count)) c.if-i-ge16.false
