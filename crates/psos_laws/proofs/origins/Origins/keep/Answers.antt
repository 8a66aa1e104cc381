use Rattle.std.proofs.Common.{◌≡◌, ℕ, List, ◌++◌, Option, Some, Bor, refl, sym, ap, ◌∙◌, arith}
use Rattle.std.specs.Option.{option_copied}
use Rattle.std.proofs.lemmas.Option.{same_Some}
use Rattle.psos_calls.specs.Language.User.{User}
use Rattle.psos_laws.specs.declared.arrival.Arrival.{Arrival}
use Rattle.psos_laws.specs.Arrivals.{came_out}
use Rattle.psos_laws.proofs.origins.Origins.keep.Goals as goal

-- what came out, of the user that was found
came_of : (all list : List Arrival) (opened : ℕ) (got : Option (Bor User)) (me : Bor User) (row : Option User) (y : User)
    → all ≡ list ++ came_out me.now opened list → option_copied got ≡ row → got ≡ Some me → row ≡ Some y → all ≡ list ++ came_out y opened list
came_of all list opened got me row y came is some at = came ∙ ap (λ (x : User). list ++ came_out x opened list) (same_Some me.now y (sym (ap option_copied some) ∙ (is ∙ at)))

pub returns-then-bodies-gt0 : goal.returns-then-bodies-gt0
returns-then-bodies-gt0 c y at = record {
  last = c.closed.result;
  past = c.push_reserved.ensures.items;
  next = c.closed.ensures.next;
  drawn = c.closed.ensures.drawn;
  list = came_of _ c.args.coming.arrivals.list.items c.args.coming.opened c.get.result c.in-Some.me _ y c.closed.ensures.list c.get.ensures c.in-Some.is at;
  outside = λ none. absurd (omega (arith, none, c.if-bodies-gt0.true));
  inside = λ some. refl;
}

pub returns-else-bodies-gt0 : goal.returns-else-bodies-gt0
returns-else-bodies-gt0 c y at = record {
  last = c.closed.result;
  past = c.push_reserved.ensures.items;
  next = c.closed.ensures.next;
  drawn = c.closed.ensures.drawn;
  list = came_of _ c.args.coming.arrivals.list.items c.args.coming.opened c.get.result c.in-Some.me _ y c.closed.ensures.list c.get.ensures c.in-Some.is at;
  outside = λ none. refl;
  inside = λ some. absurd (omega (arith, some, c.if-bodies-gt0.false));
}
