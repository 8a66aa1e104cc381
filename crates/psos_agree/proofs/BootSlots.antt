-- The slots of boot: which are taken, and their words. States docs/levels.md, "Pages and slots".
use Rattle.std.proofs.Common.{◌≡◌, ℕ, zero, suc, ◌+◌, ◌-◌, ◌*◌, ◌<◌, ◌≤◌, List, [], ◌∷◌, ◌++◌, length, Option, Some, None, ◌⊎◌, inl, inr, refl, ap, subst, ◌∙◌, arith, length-append}
use Rattle.std.specs.Prelude.{slice_index_or, replicate}
use Rattle.std.proofs.lemmas.Option.{none-some}
use Rattle.std.proofs.lemmas.List.{length-replicate}
use Rattle.psos_limits.specs.declared.TheConstants.{SLOTS, MOST_WORDS}
use Rattle.psos_words.specs.declared.word.Word.{Word}
use Rattle.psos_words.specs.Words.{zeros}
use Rattle.psos_calls.specs.Levels.Level7.{Pages}
use Rattle.psos_calls.specs.Language.Script.{Script, UserScript}
use Rattle.psos_model.specs.Replay.BootLevels.{home_words, home_slot, scratch_slot, user_slots, boot_pages}

abbrev free_slots : ℕ → Pages
free_slots n = replicate n None

-- the slots of user k + i, counted after the root's
home_there : (k : ℕ) (users : List UserScript) (rest : Pages) (i : ℕ) → i < length users → slice_index_or (user_slots k users ++ rest) (2 * i) None ≡ Some (home_words (k + i))
home_there k [] rest i h = absurd (omega (arith, h))
home_there k (user ∷ users) rest zero h = ap (λ n. Some (home_words n)) (omega arith)
home_there k (user ∷ users) rest (suc i) h =
    let P : ℕ → Type 0 = λ n. slice_index_or (user_slots k (user ∷ users) ++ rest) n None ≡ Some (home_words (k + 1 + i)) in
    let at_next : suc (suc (2 * i)) ≡ 2 * suc i = omega arith in
    let same : k + 1 + i ≡ k + suc i = omega arith in
    subst P at_next (home_there (k + 1) users rest i (omega (arith, h))) ∙ ap (λ n. Some (home_words n)) same

scratch_there : (k : ℕ) (users : List UserScript) (rest : Pages) (i : ℕ) → i < length users → slice_index_or (user_slots k users ++ rest) (suc (2 * i)) None ≡ Some (zeros MOST_WORDS)
scratch_there k [] rest i h = absurd (omega (arith, h))
scratch_there k (user ∷ users) rest zero h = refl
scratch_there k (user ∷ users) rest (suc i) h =
    let P : ℕ → Type 0 = λ n. slice_index_or (user_slots k (user ∷ users) ++ rest) n None ≡ Some (zeros MOST_WORDS) in
    let at_next : suc (suc (suc (2 * i))) ≡ suc (2 * suc i) = omega arith in
    subst P at_next (scratch_there (k + 1) users rest i (omega (arith, h)))

-- whose a taken slot is
pub record IsUsers (n slot : ℕ) : Type 0 where
  pub user : ℕ
  pub below : user < n
  pub is : (slot ≡ 2 * user) ⊎ (slot ≡ suc (2 * user))

free_is_free : (n slot : ℕ) (words : List Word) {A : Type 0} → slice_index_or (free_slots n) slot None ≡ Some words → A
free_is_free zero slot words e = absurd (none-some words e)
free_is_free (suc n) zero words e = absurd (none-some words e)
free_is_free (suc n) (suc slot) words e = free_is_free n slot words e

owner : (k : ℕ) (users : List UserScript) (n slot : ℕ) (words : List Word) → slice_index_or (user_slots k users ++ free_slots n) slot None ≡ Some words → IsUsers (length users) slot
owner k [] n slot words e = free_is_free n slot words e
owner k (user ∷ users) n zero words e = record { user = 0; below = omega arith; is = inl refl }
owner k (user ∷ users) n (suc zero) words e = record { user = 0; below = omega arith; is = inr refl }
owner k (user ∷ users) n (suc (suc slot)) words e =
    let rest = owner (k + 1) users n slot words e in
    record {
      user = suc rest.user;
      below = omega (arith, rest.below);
      is = elim rest.is [ inl even ↦ inl (omega (arith, even)) | inr odd ↦ inr (omega (arith, odd)) ];
    }

-- ---- of all slots

pub home_taken : (s : Script) (i : ℕ) → i < length s.users → slice_index_or (boot_pages s) (home_slot i) None ≡ Some (home_words i)
home_taken s i h =
    let same : 0 + i ≡ i = omega arith in
    let after_root : suc (2 * i) ≡ home_slot i = omega arith in
    let P : ℕ → Type 0 = λ n. slice_index_or (boot_pages s) n None ≡ Some (home_words i) in
    subst P after_root (home_there 0 s.users (free_slots (520 - 2 * length s.users)) i h ∙ ap (λ n. Some (home_words n)) same)

pub scratch_taken : (s : Script) (i : ℕ) → i < length s.users → slice_index_or (boot_pages s) (scratch_slot i) None ≡ Some (zeros MOST_WORDS)
scratch_taken s i h =
    let after_root : suc (suc (2 * i)) ≡ scratch_slot i = omega arith in
    let P : ℕ → Type 0 = λ n. slice_index_or (boot_pages s) n None ≡ Some (zeros MOST_WORDS) in
    subst P after_root (scratch_there 0 s.users (free_slots (520 - 2 * length s.users)) i h)

pub slot_owner : (s : Script) (slot : ℕ) (words : List Word) → slice_index_or (boot_pages s) (suc slot) None ≡ Some words → IsUsers (length s.users) slot
slot_owner s slot words e = owner 0 s.users (520 - 2 * length s.users) slot words e

users_length : (k : ℕ) (users : List UserScript) → length (user_slots k users) ≡ 2 * length users
users_length k [] = refl
users_length k (user ∷ users) = let rest = users_length (k + 1) users in omega (arith, rest)

pub all_slots : (s : Script) → length s.users ≤ 8 → length (boot_pages s) ≡ SLOTS
all_slots s few =
    let all = length-append (user_slots 0 s.users) (free_slots (520 - 2 * length s.users)) in
    let taken = users_length 0 s.users in
    let free = length-replicate (520 - 2 * length s.users) (let n : Option (List Word) = None in n) in
    omega (arith, all, taken, free, few)
