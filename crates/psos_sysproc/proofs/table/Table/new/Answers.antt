use Rattle.std.proofs.Common.{◌≡◌, ℕ, ◌+◌, ◌-◌, List, [], ◌++◌, length, take, replicate, None, sym, ap, ap₂, ◌∙◌, subst₂, arith}
use Rattle.std.proofs.lemmas.List.{length-replicate}
use Rattle.std.proofs.Math.Seq.{take-nil}
use Rattle.psos_sysproc.specs.Owners.{holdings, IsTable}
use Rattle.psos_sysproc.proofs.LockTables.{new-table, none-hold}
use Rattle.psos_sysproc.proofs.table.Table.new.Goals as goal

-- an empty list that is filled up to so many
filled : {X : Type 0} (xs now : List X) (n m : ℕ) (x : X) → now ≡ take n xs ++ replicate (n - m) x → xs ≡ [] → m ≡ 0 → now ≡ replicate n x
filled xs now n m x is none nothing =
    let all : n - m ≡ n = omega arith in
    is ∙ (ap (λ (ys : List _). take n ys ++ replicate (n - m) x) none ∙ (ap (λ (ys : List _). ys ++ replicate (n - m) x) (take-nil n) ∙ ap (λ (k : ℕ). replicate k x) all))

pub invariant_of-result : goal.invariant_of-result
invariant_of-result c =
    let owners = filled c.in_ok-owners.owners.items c.resize.new.self.items (7 + c.args.users) c.in_ok-owners.owners.len None c.in_ok-resize.ensures.items c.in_ok-owners.ensures.items c.in_ok-owners.ensures.len in
    let lowest = filled c.in_ok-lowest.lowest.items c.resize-2.new.self.items c.args.users c.in_ok-lowest.lowest.len 14 c.in_ok-resize-2.ensures.items c.in_ok-lowest.ensures.items c.in_ok-lowest.ensures.len in (
      omega (arith, ap length lowest ∙ length-replicate c.args.users 14, c.ranges.users.fits),
      subst₂ IsTable (sym owners) (sym lowest) (new-table c.args.users),
    )

pub returns : goal.returns
returns c =
    let owners = filled c.in_ok-owners.owners.items c.resize.new.self.items (7 + c.args.users) c.in_ok-owners.owners.len None c.in_ok-resize.ensures.items c.in_ok-owners.ensures.items c.in_ok-owners.ensures.len in
    let lowest = filled c.in_ok-lowest.lowest.items c.resize-2.new.self.items c.args.users c.in_ok-lowest.lowest.len 14 c.in_ok-resize-2.ensures.items c.in_ok-lowest.ensures.items c.in_ok-lowest.ensures.len in
    ap₂ holdings (ap length lowest ∙ length-replicate c.args.users 14) owners ∙ none-hold c.args.users
