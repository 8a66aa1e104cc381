-- Slots while boot fills them. States docs/system.md, "Boot", and docs/levels.md, "Pages and slots".
use Rattle.std.specs.Prelude.{◌≡◌, ℕ, ◌+◌, ◌-◌, ◌*◌, ◌<◌, ◌≤◌, List, [], ◌∷◌, ◌++◌, length, replicate, slice_set, slice_index_or, Some, None}
use Rattle.psos_limits.specs.declared.TheConstants.{SLOTS, MOST_WORDS}
use Rattle.psos_words.specs.Words.{zeros}
use Rattle.psos_calls.specs.Levels.Level7.{Pages}
use Rattle.psos_calls.specs.Language.Script.{UserScript}
use Rattle.psos_model.specs.Replay.BootLevels.{home_slot, home_words, user_slots}

-- the first so many slots taken and not written, the others free
abbrev pub first_taken : ℕ → Pages
first_taken n = replicate n (Some (zeros MOST_WORDS)) ++ replicate (SLOTS - n) None

-- slots with the words of the homes of users, counted from i
abbrev pub with_homes : ℕ → List UserScript → Pages → Pages
with_homes i [] p = p
with_homes i (user ∷ users) p = with_homes (i + 1) users (slice_set p (home_slot i) (Some (home_words i)))

-- the slots of the homes of n users, counted from i, are taken and not written
abbrev pub AreBlank : ℕ → ℕ → Pages → Type 0
AreBlank i n p = (j : ℕ) → i ≤ j → j < i + n → slice_index_or p (home_slot j) None ≡ Some (zeros MOST_WORDS)

-- all slots at boot of these users
abbrev pub boot_slots : List UserScript → Pages
boot_slots users = Some (zeros MOST_WORDS) ∷ (user_slots 0 users ++ replicate (520 - 2 * length users) None)
