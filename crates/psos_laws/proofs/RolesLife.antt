-- What is a user object, and what boot made, after a change.
use Rattle.std.proofs.Common.{◌≡◌, ℕ, ◌<◌, List, length, Option, Some, None, refl, sym, ap, subst, ◌∙◌, inl, inr}
use Rattle.std.specs.Prelude.{IsSome, is_some, ◌↔◌}
use Rattle.std.specs.Option.{option_map}
use Rattle.std.proofs.lemmas.Bool.{cases_eq, false≢true}
use Rattle.std.proofs.lemmas.Option.{same_Some, none-some}
use Rattle.psos_table.specs.Table.{Table, at, put, without, edit}
use Rattle.psos_table.proofs.Tables.{at-put_apart, at-edit_here, at-edit_apart, at-without_apart}
use Rattle.psos_calls.specs.declared.kind.Kind.{Kind}
use Rattle.psos_calls.specs.declared.kind.Kind.TheVariants as kinds
use Rattle.psos_calls.specs.Language.Script.{Script}
use Rattle.psos_calls.specs.Language.User.{User}
use Rattle.psos_model.specs.Flat.{Flat, Directory}
use Rattle.psos_model.specs.Flat.Boot.{process_of, home_of, home_rep_of}
use Rattle.psos_model.specs.Sound.Roles.{Role, IsUserObject, IsBootDirectory}
use Rattle.psos_model.specs.Sound.Roles as roles
use Rattle.psos_model.specs.Sound.{IsFromBoot}
use Rattle.psos_laws.proofs.SharedRows.{Rows}

-- ---- the kind that a role has as a user object

abbrev pub kind_of : Role → Option Kind
kind_of roles.Segment = Some kinds.Segment
kind_of roles.Directory = Some kinds.Directory
kind_of roles.Typ = Some kinds.Typ
kind_of roles.Object = Some kinds.Object
kind_of roles.Code = Some kinds.Code
kind_of _ = None

-- what is there, is something
pub from_some : {X : Type 0} (P : Type 0) (o : Option X) → IsSome o → ((x : X) → o ≡ Some x → P) → P
from_some P None h go = absurd (false≢true h)
from_some P (Some x) h go = go x refl

module _ (s : Script) (role : ℕ → Role) (f : Flat) (r : Rows s role f) where
  pub user_kind : (u : ℕ) (kind : Kind) → IsUserObject s role f u kind → kind_of (role u) ≡ Some kind
  user_kind u kinds.Segment h = ap kind_of h.1
  user_kind u kinds.Directory h = from_some (kind_of (role u) ≡ Some kinds.Directory) (at f.dirs u) h.0 (λ x e. ap kind_of (r.dirs u x e).role-is)
  user_kind u kinds.Typ h = from_some (kind_of (role u) ≡ Some kinds.Typ) (at f.types u) h (λ x e. ap kind_of (r.types u x e).1)
  user_kind u kinds.Object h = from_some (kind_of (role u) ≡ Some kinds.Object) (at f.objects u) h (λ x e. ap kind_of (r.objects u x e).role-is)
  user_kind u kinds.Code h = from_some (kind_of (role u) ≡ Some kinds.Code) (at f.codes u) h (λ x e. ap kind_of (r.codes u x e).role-is)
  user_kind u kinds.Process h = absurd h

  -- whatever the roles
  pub user_below : (new : ℕ → Role) (u : ℕ) (kind : Kind) → IsUserObject s new f u kind → u < f.next
  user_below new u kinds.Segment h = from_some (u < f.next) (at f.segments u) h.0 (λ x e. (r.segments u x e).below)
  user_below new u kinds.Directory h = from_some (u < f.next) (at f.dirs u) h.0 (λ x e. (r.dirs u x e).below)
  user_below new u kinds.Typ h = from_some (u < f.next) (at f.types u) h (λ x e. (r.types u x e).0)
  user_below new u kinds.Object h = from_some (u < f.next) (at f.objects u) h (λ x e. (r.objects u x e).below)
  user_below new u kinds.Code h = from_some (u < f.next) (at f.codes u) h (λ x e. (r.codes u x e).below)
  user_below new u kinds.Process h = absurd h

-- ---- the same is live under a number

pub record SameLive (f g : Flat) (u : ℕ) : Type 0 where
  pub segments : is_some (at g.segments u) ≡ is_some (at f.segments u)
  pub dirs : is_some (at g.dirs u) ≡ is_some (at f.dirs u)
  pub types : is_some (at g.types u) ≡ is_some (at f.types u)
  pub objects : is_some (at g.objects u) ≡ is_some (at f.objects u)
  pub codes : is_some (at g.codes u) ≡ is_some (at f.codes u)

pub user_on : (s : Script) (role new : ℕ → Role) (f g : Flat) (u : ℕ) → SameLive f g u → new u ≡ role u → (kind : Kind) → IsUserObject s role f u kind → IsUserObject s new g u kind
user_on s role new f g u same is kinds.Segment h = (same.segments ∙ h.0, is ∙ h.1)
user_on s role new f g u same is kinds.Directory h = (same.dirs ∙ h.0, h.1)
user_on s role new f g u same is kinds.Typ h = same.types ∙ h
user_on s role new f g u same is kinds.Object h = same.objects ∙ h
user_on s role new f g u same is kinds.Code h = same.codes ∙ h
user_on s role new f g u same is kinds.Process h = absurd h

-- the same user object, or none, in both states
pub record Alike (s : Script) (role : ℕ → Role) (f g : Flat) (u : ℕ) : Type 0 where
  pub to : (kind : Kind) → IsUserObject s role f u kind → IsUserObject s role g u kind
  pub back : (kind : Kind) → IsUserObject s role g u kind → IsUserObject s role f u kind

pub alike : (s : Script) (role : ℕ → Role) (f g : Flat) (u : ℕ) → SameLive f g u → Alike s role f g u
alike s role f g u same =
    let back : SameLive g f u = record { segments = sym same.segments; dirs = sym same.dirs; types = sym same.types; objects = sym same.objects; codes = sym same.codes } in
    record { to = user_on s role role f g u same refl; back = user_on s role role g f u back refl }

pub alike_through : (s : Script) (role : ℕ → Role) (f g h : Flat) (u : ℕ) → Alike s role f g u → Alike s role g h u → Alike s role f h u
alike_through s role f g h u a b = record { to = λ k x. b.to k (a.to k x); back = λ k x. a.back k (b.back k x) }

-- by its role it is no user object
pub alike_none : (s : Script) (role : ℕ → Role) (f g : Flat) → Rows s role f → Rows s role g → (u : ℕ) → kind_of (role u) ≡ None → Alike s role f g u
alike_none s role f g a b u none = record {
  to = λ k x. absurd (none-some k (sym none ∙ user_kind s role f a u k x));
  back = λ k x. absurd (none-some k (sym none ∙ user_kind s role g b u k x));
}

-- ---- what is told of

-- the user objects are told of with their kinds, and nothing else is
abbrev pub Life : Script → (ℕ → Role) → Flat → Type 0
Life s role f = (u : ℕ) (kind : Kind) → (at f.life u ≡ Some kind) ↔ IsUserObject s role f u kind

pub life_on : (s : Script) (role : ℕ → Role) (f g : Flat) → g.life ≡ f.life → ((u : ℕ) → Alike s role f g u) → Life s role f → Life s role g
life_on s role f g same a h = λ u k. (λ is. (a u).to k ((h u k).0 (sym (ap (λ (t : Table Kind). at t u) same) ∙ is)), λ x. ap (λ (t : Table Kind). at t u) same ∙ (h u k).1 ((a u).back k x))

pub life_raised : (s : Script) (role new : ℕ → Role) (f : Flat) (n : ℕ) (us : List User) → Rows s role f → ((v : ℕ) → v < f.next → new v ≡ role v) → Life s role f → Life s new (record f { next = n; users = us })
life_raised s role new f n us r same h = λ u k.
    let g : Flat = record f { next = n; users = us } in
    let on : SameLive f g u = record { segments = refl; dirs = refl; types = refl; objects = refl; codes = refl } in
    let off : SameLive g f u = record { segments = refl; dirs = refl; types = refl; objects = refl; codes = refl } in (
      λ is.
          let x = (h u k).0 is in
          user_on s role new f g u on (same u (user_below s role f r role u k x)) k x,
      λ x.
          let y : IsUserObject s new f u k = user_on s new new g f u off refl k x in
          (h u k).1 (user_on s new role g f u off (sym (same u (user_below s role f r new u k y))) k x),
    )

module _ (s : Script) (role : ℕ → Role) (f g : Flat) (r : Rows s role g) (o : ℕ) (a : (v : ℕ) → (v ≡ o → ⊥) → Alike s role f g v) (apart : (v : ℕ) → (v ≡ o → ⊥) → at g.life v ≡ at f.life v) (h : Life s role f) where
  away : (v : ℕ) → (v ≡ o → ⊥) → (k : Kind) → (at g.life v ≡ Some k) ↔ IsUserObject s role g v k
  away v off k = (λ is. (a v off).to k ((h v k).0 (sym (apart v off) ∙ is)), λ x. apart v off ∙ (h v k).1 ((a v off).back k x))

  -- one more is told of
  pub life_put : (kind : Kind) → at g.life o ≡ Some kind → kind_of (role o) ≡ Some kind → IsUserObject s role g o kind → Life s role g
  life_put kind told is object = λ v k. elim (cases_eq v o) [
    | inl same ↦ (
      λ there.
          let kinds_same : kind ≡ k = same_Some kind k (sym told ∙ (ap (at g.life) (sym same) ∙ there)) in
          subst (λ (j : Kind). IsUserObject s role g v j) kinds_same (subst (λ (w : ℕ). IsUserObject s role g w kind) (sym same) object),
      λ x. ap (at g.life) same ∙ (told ∙ (sym is ∙ (ap (λ (w : ℕ). kind_of (role w)) (sym same) ∙ user_kind s role g r v k x))),
    )
    | inr off ↦ away v off k
  ]

  -- one is told of no more
  pub life_gone : at g.life o ≡ None → ((k : Kind) → IsUserObject s role g o k → ⊥) → Life s role g
  life_gone gone none = λ v k. elim (cases_eq v o) [
    | inl same ↦ (
      λ there. absurd (none-some k (sym gone ∙ (ap (at g.life) (sym same) ∙ there))),
      λ x. absurd (none k (subst (λ (w : ℕ). IsUserObject s role g w k) same x)),
    )
    | inr off ↦ away v off k
  ]

-- ---- what boot made

-- a directory is still there, with its representation and its guard
pub record Stays (t : Table Directory) (d : ℕ) (old : Directory) : Type 0 where
  pub row : Directory
  pub live : at t d ≡ Some row
  pub rep : row.rep ≡ old.rep
  pub guard : row.guard.0 ≡ old.guard.0

pub stays : (t : Table Directory) (d : ℕ) (x : Directory) → at t d ≡ Some x → Stays t d x
stays t d x e = record { row = x; live = e; rep = refl; guard = refl }

pub stays_put : (t : Table Directory) (k : ℕ) (y : Directory) → at t k ≡ None → (d : ℕ) (x : Directory) → at t d ≡ Some x → Stays (put t k y) d x
stays_put t k y none d x e = stays (put t k y) d x (at-put_apart t k y d (λ same. none-some x (sym none ∙ (ap (at t) (sym same) ∙ e))) ∙ e)

pub stays_without : (t : Table Directory) (k d : ℕ) (x : Directory) → (d ≡ k → ⊥) → at t d ≡ Some x → Stays (without t k) d x
stays_without t k d x apart e = stays (without t k) d x (at-without_apart t k d apart ∙ e)

pub stays_edit : (t : Table Directory) (k : ℕ) (g : Directory → Directory) → ((x : Directory) → (g x).rep ≡ x.rep) → ((x : Directory) → (g x).guard.0 ≡ x.guard.0)
    → (d : ℕ) (x : Directory) → at t d ≡ Some x → Stays (edit t k g) d x
stays_edit t k g rep guard d x e = elim (cases_eq d k) [
  | inl same ↦ record {
    row = g x;
    rep = rep x;
    guard = guard x;
    live = ap (at (edit t k g)) same ∙ (at-edit_here t k g ∙ ap (option_map g) (ap (at t) (sym same) ∙ e));
  }
  | inr apart ↦ stays (edit t k g) d x (at-edit_apart t k g d apart ∙ e)
]

-- the root, the homes and the processes
pub record Boots (s : Script) (f : Flat) : Type 0 where
  pub root : IsFromBoot f 1 2
  pub homes : (i : ℕ) → i < length s.users → IsFromBoot f (home_of i) (home_rep_of i)
  pub processes : (i : ℕ) → i < length s.users → IsSome (at f.boxes (process_of i))

pub boots_on : (s : Script) (f g : Flat) → ((d : ℕ) (x : Directory) → IsBootDirectory s d → at f.dirs d ≡ Some x → Stays g.dirs d x)
    → ((b : ℕ) → IsSome (at f.boxes b) → IsSome (at g.boxes b)) → Boots s f → Boots s g
boots_on s f g dirs boxes h = record {
  root = from_boot 1 2 (inl refl) h.root;
  homes = λ i below. from_boot (home_of i) (home_rep_of i) (inr (i, below, refl)) (h.homes i below);
  processes = λ i below. boxes (process_of i) (h.processes i below);
}
  where
    from_boot : (d rep : ℕ) → IsBootDirectory s d → IsFromBoot f d rep → IsFromBoot g d rep
    from_boot d rep is b =
        let now = dirs d b.row is b.live in
        record { row = now.row; live = now.live; rep-is = now.rep ∙ b.rep-is; guard = now.guard ∙ b.guard }

-- a directory of boot is live, so its number is below the next
pub boot_below : (s : Script) (role : ℕ → Role) (f : Flat) → Rows s role f → Boots s f → (d : ℕ) → IsBootDirectory s d → d < f.next
boot_below s role f r b d (inl is) = subst (λ k. k < f.next) (sym is) (r.dirs 1 b.root.row b.root.live).below
boot_below s role f r b d (inr h) =
    let from = b.homes h.0 h.1 in
    subst (λ k. k < f.next) (sym h.2) (r.dirs (home_of h.0) from.row from.live).below
