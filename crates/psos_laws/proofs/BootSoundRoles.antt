-- What each identifier is at boot. States docs/system.md, "Boot".
use Rattle.std.proofs.Common.{◌≡◌, ℕ, zero, suc, ◌+◌, ◌-◌, ◌*◌, ◌%◌, ◌<◌, ◌≤◌, ◌==◌, Bool, true, false, cond, refl, sym, ap, subst, ◌∙◌, arith}
use Rattle.std.specs.Prelude.{⊤}
use Rattle.std.proofs.lemmas.Bool.{ne_eqb}
use Rattle.psos_model.specs.Sound.Roles.{Role, HiddenIn}
use Rattle.psos_model.specs.Sound.Roles as roles
use Rattle.psos_model.specs.Flat.Boot.{process_of, home_of, home_rep_of, scratch_of}

-- of a user's four identifiers: its process, its home, the home's representation, and its scratch segment
abbrev by_rest : ℕ → ℕ → Role
by_rest zero u = roles.Process
by_rest (suc zero) u = roles.Directory
by_rest (suc (suc zero)) u = HiddenIn (u - 1)
by_rest (suc (suc (suc r))) u = roles.Segment

-- the root and its representation come first
pub boot_role : ℕ → Role
boot_role u = cond (u == 1) roles.Directory (cond (u == 2) (HiddenIn 1) (by_rest ((u + 1) % 4) u))

later : (u r : ℕ) → 3 ≤ u → (u + 1) % 4 ≡ r → boot_role u ≡ by_rest r u
unfolding boot_role
later u r h rest =
    let first : (u == 1) ≡ false = ne_eqb u 1 (λ e. omega (arith, e, h)) in
    let second : (u == 2) ≡ false = ne_eqb u 2 (λ e. omega (arith, e, h)) in
    ap (λ b. cond b roles.Directory (cond (u == 2) (HiddenIn 1) (by_rest ((u + 1) % 4) u))) first
    ∙ ap (λ b. cond b (HiddenIn 1) (by_rest ((u + 1) % 4) u)) second
    ∙ ap (λ n. by_rest n u) rest

pub root_role : boot_role 1 ≡ roles.Directory
unfolding boot_role
root_role = refl

pub root_rep_role : boot_role 2 ≡ HiddenIn 1
unfolding boot_role
root_rep_role = refl

pub process_role : (i : ℕ) → boot_role (process_of i) ≡ roles.Process
process_role i = later (process_of i) 0 (omega arith) (omega arith)

pub home_role : (i : ℕ) → boot_role (home_of i) ≡ roles.Directory
home_role i = later (home_of i) 1 (omega arith) (omega arith)

pub home_rep_role : (i : ℕ) → boot_role (home_rep_of i) ≡ HiddenIn (home_of i)
home_rep_role i =
    let outer : home_rep_of i - 1 ≡ home_of i = omega arith in
    later (home_rep_of i) 2 (omega arith) (omega arith) ∙ ap (λ d. HiddenIn d) outer

pub scratch_role : (i : ℕ) → boot_role (scratch_of i) ≡ roles.Segment
scratch_role i = later (scratch_of i) 3 (omega arith) (omega arith)

-- ---- roles apart

abbrev is_hidden : Role → Bool
is_hidden (HiddenIn d) = true
is_hidden _ = false

abbrev hidden_in : Role → ℕ
hidden_in (HiddenIn d) = d
hidden_in _ = 0

-- a representation is of one directory
pub one_directory : (d e : ℕ) (r : Role) → r ≡ HiddenIn d → r ≡ HiddenIn e → d ≡ e
one_directory d e r p q = ap hidden_in (sym p ∙ q)

-- what capabilities of users name at boot: the root, and each user's process, home and scratch segment
pub data Named (n u : ℕ) : Type 0 where
  Root : u ≡ 1 → Named n u
  Process : (i : ℕ) → i < n → u ≡ process_of i → Named n u
  Home : (i : ℕ) → i < n → u ≡ home_of i → Named n u
  Scratch : (i : ℕ) → i < n → u ≡ scratch_of i → Named n u

-- it is below the next identifier
pub named_below : (n u : ℕ) → Named n u → u < 3 + 4 * n
named_below n u (Root e) = omega (arith, e)
named_below n u (Process i h e) = omega (arith, h, e)
named_below n u (Home i h e) = omega (arith, h, e)
named_below n u (Scratch i h e) = omega (arith, h, e)

not_hidden : (u v : ℕ) (r : Role) (d : ℕ) → u ≡ v → boot_role v ≡ r → is_hidden r ≡ false → boot_role u ≡ HiddenIn d → ⊥
not_hidden u v r d same is open-is hidden =
    let b : true ≡ false = ap is_hidden (sym hidden ∙ (ap boot_role same ∙ is)) ∙ open-is in
    subst (λ b. cond b ⊤ ⊥) b tt

-- and no representation of a directory
pub named_open : (n u d : ℕ) → Named n u → boot_role u ≡ HiddenIn d → ⊥
named_open n u d (Root e) = not_hidden u 1 roles.Directory d e root_role refl
named_open n u d (Process i h e) = not_hidden u (process_of i) roles.Process d e (process_role i) refl
named_open n u d (Home i h e) = not_hidden u (home_of i) roles.Directory d e (home_role i) refl
named_open n u d (Scratch i h e) = not_hidden u (scratch_of i) roles.Segment d e (scratch_role i) refl
