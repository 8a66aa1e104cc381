-- A sound flat state with room for a user object leaves a slot free. States docs/levels.md, "Pages and slots".
use Rattle.std.proofs.Common.{◌≡◌, ℕ, zero, suc, ◌+◌, ◌<◌, ◌≤◌, length, Option, Some, None, refl, sym, subst, ap, ◌∙◌, inl, inr, arith}
use Rattle.std.specs.Prelude.{is_some}
use Rattle.std.proofs.lemmas.Option.{none-some}
use Rattle.std.proofs.lemmas.Bool.{cases_eq}
use Rattle.psos_limits.specs.declared.TheConstants.{MOST_OBJECTS}
use Rattle.psos_table.specs.Table.{Table, at, put, without, size}
use Rattle.psos_table.proofs.Tables.{HasRow, at-put_here, at-put_apart, at-without_apart, size-without_here, size-put_new, size-put_old}
use Rattle.psos_calls.specs.declared.kind.Kind.{Kind}
use Rattle.psos_calls.specs.declared.kind.Kind.TheVariants as kinds
use Rattle.psos_calls.specs.declared.seg_row.SegRow.{SegRow}
use Rattle.psos_calls.specs.Language.Script.{Script}
use Rattle.psos_calls.specs.Language.Tests.{if_there}
use Rattle.psos_calls.specs.Levels.Level7.{first_free}
use Rattle.psos_calls.specs.Levels.Level8.{slot_of}
use Rattle.psos_model.specs.Flat.{Flat, Segment, Object, Directory}
use Rattle.psos_model.specs.Flat.Boot.{home_of}
use Rattle.psos_model.specs.Replay.{System}
use Rattle.psos_model.specs.Sound.Roles.{Role, IsBootDirectory}
use Rattle.psos_model.specs.Sound.Roles as roles
use Rattle.psos_model.specs.Sound.{IsSound}
use Rattle.psos_model.specs.Replay.StandsFor.{StandsFor}
use Rattle.psos_agree.proofs.SegmentSlots.{before_is_taken, slot_is}

-- ---- counting

-- a row of a table, by a number of its key
pub record HasKey {X : Type 0} (number : ℕ → ℕ) (m : Table X) (n : ℕ) : Type 0 where
  pub key : ℕ
  pub there : HasRow m key
  pub is : number key ≡ n

-- a table that has a key for each number below n has at least n rows
pub keys_for_each : {X : Type 0} (number : ℕ → ℕ) (n : ℕ) (m : Table X) → ((i : ℕ) → i < n → HasKey number m i) → n ≤ size m
keys_for_each number zero m each = omega arith
keys_for_each number (suc n) m each =
    let last = each n (omega arith) in
    let rest = keys_for_each number n (without m last.key) (λ i below.
    let one = each i (omega arith) in
    let apart : one.key ≡ last.key → ⊥ = λ e. omega (arith, sym one.is ∙ (ap number e ∙ last.is)) in
    record { key = one.key; there = record { row = one.there.row; there = at-without_apart m last.key one.key apart ∙ one.there.there }; is = one.is }) in
    omega (arith, rest, size-without_here m last.key last.there.row last.there.there)

-- a row more, or the same number of rows
size-put_most : {X : Type 0} (m : Table X) (k : ℕ) (x : X) → size (put m k x) ≤ size m + 1
size-put_most {X} m k x = by_row (at m k) refl
  where
    by_row : (o : Option X) → at m k ≡ o → size (put m k x) ≤ size m + 1
    by_row None e = omega (arith, size-put_new m k x e)
    by_row (Some z) e = omega (arith, size-put_old m k x z e)

-- ---- the user objects, the root and the homes

-- a table with the root and the homes of n users too
unfoldable with_boot : ℕ → Table Kind → Table Kind
with_boot zero t = put t 1 kinds.Directory
with_boot (suc n) t = put (with_boot n t) (home_of n) kinds.Directory

size_boot : (n : ℕ) (t : Table Kind) → size (with_boot n t) ≤ size t + 1 + n
unfolding with_boot
size_boot zero t = omega (arith, size-put_most t 1 kinds.Directory)
size_boot (suc n) t = omega (arith, size-put_most (with_boot n t) (home_of n) kinds.Directory, size_boot n t)

-- what is there, is there after a put
still_there : {X : Type 0} (m : Table X) (k : ℕ) (x : X) (u : ℕ) → HasRow m u → HasRow (put m k x) u
still_there m k x u there = elim (cases_eq u k) [
  | inl e ↦ record { row = x; there = ap (at (put m k x)) e ∙ at-put_here m k x }
  | inr apart ↦ record { row = there.row; there = at-put_apart m k x u apart ∙ there.there }
]

kept_there : (n : ℕ) (t : Table Kind) (u : ℕ) → HasRow t u → HasRow (with_boot n t) u
unfolding with_boot
kept_there zero t u there = still_there t 1 kinds.Directory u there
kept_there (suc n) t u there = still_there (with_boot n t) (home_of n) kinds.Directory u (kept_there n t u there)

root_there : (n : ℕ) (t : Table Kind) → HasRow (with_boot n t) 1
unfolding with_boot
root_there zero t = record { row = kinds.Directory; there = at-put_here t 1 kinds.Directory }
root_there (suc n) t = still_there (with_boot n t) (home_of n) kinds.Directory 1 (root_there n t)

home_there : (n : ℕ) (t : Table Kind) (i : ℕ) → i < n → HasRow (with_boot n t) (home_of i)
unfolding with_boot
home_there zero t i h = absurd (omega (arith, h))
home_there (suc n) t i h = elim (cases_eq i n) [
  | inl e ↦ record { row = kinds.Directory; there = ap (λ (j : ℕ). at (put (with_boot n t) (home_of n) kinds.Directory) (home_of j)) e ∙ at-put_here (with_boot n t) (home_of n) kinds.Directory }
  | inr apart ↦ still_there (with_boot n t) (home_of n) kinds.Directory (home_of i) (home_there n t i (omega (arith, h, apart)))
]

-- ---- whose a live segment of level 8 is

-- the segment of level 8 that a user object or a directory has, by its role
abbrev part_by : Role → Option Object → Option Directory → ℕ → ℕ
part_by roles.Segment o d u = u
part_by roles.Object o d u = if_there o 0 (λ o. o.rep)
part_by roles.Directory o d u = if_there d 0 (λ d. d.rep)
part_by _ o d u = 0

module _ {s : Script} {y : System} {f : Flat} (h : StandsFor y f) (sound : IsSound s f) where
  abbrev part : ℕ → ℕ
  part u = part_by (sound.role u) (at f.objects u) (at f.dirs u) u

  abbrev owners : Table Kind
  owners = with_boot (length s.users) f.life

  -- what a user object or a boot directory has this segment
  abbrev IsOwned : ℕ → Type 0
  IsOwned u = HasKey part owners u

  told : (u : ℕ) (kind : Kind) → at f.life u ≡ Some kind → HasRow owners u
  told u kind is = kept_there (length s.users) f.life u (record { row = kind; there = is })

  boot_there : (d : ℕ) → IsBootDirectory s d → HasRow owners d
  boot_there d boot = elim boot [
    | inl root ↦ subst (HasRow owners) (sym root) (root_there (length s.users) f.life)
    | inr home ↦ subst (HasRow owners) (sym home.2) (home_there (length s.users) f.life home.0 home.1)
  ]

  -- a live directory is a user object or one of boot
  dir_there : (d : ℕ) (x : Directory) → at f.dirs d ≡ Some x → (o : Option Kind) → at owners d ≡ o → HasRow owners d
  dir_there d x live (Some kind) is = record { row = kind; there = is }
  dir_there d x live None is =
      let user : IsBootDirectory s d → ⊥ = λ boot. let there = boot_there d boot in none-some there.row (sym is ∙ there.there) in
      told d kinds.Directory ((sound.life d kinds.Directory).1 (ap is_some live, user))

  segment_owned : (u : ℕ) (x : Segment) → at f.segments u ≡ Some x → IsOwned u
  segment_owned u x live = elim (sound.segments u x live).role-is [
    | inl plain ↦ record {
      key = u;
      there = told u kinds.Segment ((sound.life u kinds.Segment).1 (ap is_some live, plain));
      is = ap (λ (r : Role). part_by r (at f.objects u) (at f.dirs u) u) plain;
    }
    | inr of ↦ record {
      key = of.object;
      there = told of.object kinds.Object ((sound.life of.object kinds.Object).1 (ap is_some of.live));
      is = ap (λ (r : Role). part_by r (at f.objects of.object) (at f.dirs of.object) of.object) (sound.objects of.object of.row of.live).role-is
          ∙ (ap (λ (o : Option Object). if_there o 0 (λ o. o.rep)) of.live ∙ of.rep);
    }
  ]

  rep_owned : (u d : ℕ) (x : Directory) → at f.dirs d ≡ Some x → x.rep ≡ u → IsOwned u
  rep_owned u d x live rep = record {
    key = d;
    there = dir_there d x live (at owners d) refl;
    is = ap (λ (r : Role). part_by r (at f.objects d) (at f.dirs d) d) (sound.dirs d x live).role-is
        ∙ (ap (λ (o : Option Directory). if_there o 0 (λ d. d.rep)) live ∙ rep);
  }

  owned : (u : ℕ) (r : SegRow) → at y.levels.segs.segments u ≡ Some r → IsOwned u
  owned u r is = elim (h.no_other u r is) [
    | inl flat ↦ segment_owned u flat.0 flat.1
    | inr rep ↦ rep_owned u rep.0 rep.1.0 rep.1.1 rep.1.2
  ]

  -- a taken slot has an owner of its own
  slot_owned : (i : ℕ) → i < first_free y.levels.pages → HasKey (λ u. slot_of y.levels.segs (part u)) owners i
  slot_owned i below =
      let used = h.used i (before_is_taken y.levels.pages i below) in
      let own = owned used.0 used.1.0 used.1.1 in
      record { key = own.key; there = own.there; is = ap (slot_of y.levels.segs) own.is ∙ (slot_is y.levels.segs used.0 used.1.0 used.1.1 ∙ used.1.2) }

  -- where there is room for one more user object, a slot is free
  pub slot_is_free : size f.life < MOST_OBJECTS → length s.users ≤ 8 → first_free y.levels.pages < length y.levels.pages
  slot_is_free room few =
      let taken = keys_for_each (λ u. slot_of y.levels.segs (part u)) (first_free y.levels.pages) owners slot_owned in
      omega (arith, taken, size_boot (length s.users) f.life, h.slots, room, few)
