use Rattle.std.proofs.Common.{length, ap, ◌∙◌, arith}
use Rattle.psos_core.proofs.SerialRun.{all_users, numbered, few, finds, asks, one_more, one_fewer, next_user, front_so_far, settled_so_far, front_left, settled_left}
use Rattle.psos_core.proofs.serial.serve_user.Goals as goal

pub bounds-as_slice-u : goal.bounds-as_slice-u
bounds-as_slice-u g c = omega (arith, all_users _ _ _ c.requires.1.0 _ _ _ _ c.turns.invariant.0, c.requires.1.1.0, ap length (c.as_slice.ensures.value ∙ ap (λ p. p.items) c.deref.ensures))

pub due-requires-clause-number : goal.due-requires-clause-number
due-requires-clause-number g c = numbered _ _ _ c.requires.1.0 _ _ _ _ c.turns.invariant.0 c.as_slice.result.now c.index-as_slice-u.result (c.as_slice.ensures.value ∙ ap (λ p. p.items) c.deref.ensures) c.index-as_slice-u.is c.requires.1.1.0

pub serve-requires-clause-asks : goal.serve-requires-clause-asks
serve-requires-clause-asks g c =
    let found = finds _ _ _ c.requires.1.0 _ _ _ _ c.turns.invariant.0 c.as_slice.result.now c.index-as_slice-u.result c.args.count _ _ (c.as_slice.ensures.value ∙ ap (λ p. p.items) c.deref.ensures) c.index-as_slice-u.is c.requires.1.1.0 c.requires.1.1.1.1.0 c.due.ensures c.in-Some.is in
    asks _ _ _ c.requires.1.0 _ _ _ _ c.turns.invariant.0 _ _ found

pub serve-requires-clause-few : goal.serve-requires-clause-few
serve-requires-clause-few g c = few _ _ _ c.requires.1.0 _ _ _ _ c.turns.invariant.0

pub turns-smaller : goal.turns-smaller
turns-smaller g c =
    let found = finds _ _ _ c.requires.1.0 _ _ _ _ c.turns.invariant.0 c.as_slice.result.now c.index-as_slice-u.result c.args.count _ _ (c.as_slice.ensures.value ∙ ap (λ p. p.items) c.deref.ensures) c.index-as_slice-u.is c.requires.1.1.0 c.requires.1.1.1.1.0 c.due.ensures c.in-Some.is in
    one_fewer _ _ _ c.requires.1.0 _ _ _ _ c.turns.invariant.0 _ _ found _ _ c.in_ok-serve.ensures.served

pub turns-preserved : goal.turns-preserved
turns-preserved g c =
    let found = finds _ _ _ c.requires.1.0 _ _ _ _ c.turns.invariant.0 c.as_slice.result.now c.index-as_slice-u.result c.args.count _ _ (c.as_slice.ensures.value ∙ ap (λ p. p.items) c.deref.ensures) c.index-as_slice-u.is c.requires.1.1.0 c.requires.1.1.1.1.0 c.due.ensures c.in-Some.is in (
      one_more _ _ _ c.requires.1.0 _ _ _ _ c.turns.invariant.0 _ _ found _ _ c.in_ok-serve.ensures.served,
      omega (arith, c.in_ok-serve.ensures.cause.later, c.turns.invariant.1),
      c.serve.ensures.users ∙ c.turns.invariant.2,
    )

pub returns-clause-served : goal.returns-clause-served
returns-clause-served g c =
    let found = finds _ _ _ c.requires.1.0 _ _ _ _ c.turns.invariant.0 c.as_slice.result.now c.index-as_slice-u.result c.args.count _ _ (c.as_slice.ensures.value ∙ ap (λ p. p.items) c.deref.ensures) c.index-as_slice-u.is c.requires.1.1.0 c.requires.1.1.1.1.0 c.due.ensures c.in_default.is in
    next_user _ _ _ c.requires.1.0 _ _ _ _ c.turns.invariant.0 _ found

pub returns-clause-front : goal.returns-clause-front
returns-clause-front g c = front_so_far _ _ _ _ _ _ _ c.requires.1.0 c.turns.invariant.0

pub returns-clause-settled : goal.returns-clause-settled
returns-clause-settled g c = settled_so_far _ _ _ _ _ _ _ c.turns.invariant.0

pub returns-in_err-serve-clause-front : goal.returns-in_err-serve-clause-front
returns-in_err-serve-clause-front g c = front_left _ _ _ _ _ _ _ _ c.requires.1.0 c.turns.invariant.0 c.in_err-serve.ensures.entries

pub returns-in_err-serve-clause-settled : goal.returns-in_err-serve-clause-settled
returns-in_err-serve-clause-settled g c = settled_left _ _ _ _ _ _ _ _ _ c.turns.invariant.0 c.in_err-serve.ensures.entries (ap (λ ps. ps.value.items) c.in_err-serve.ensures.privates)
