-- The entries of the root and of homes at boot, in words. States docs/system.md, "Boot" and "Words in blocks and directories".
use Rattle.std.proofs.Common.{◌≡◌, ℕ, zero, suc, ◌+◌, ◌<◌, Bool, true, false, cond, List, ◌∷◌, length, Option, Some, None, refl, sym, ap, ◌∙◌, arith}
use Rattle.std.specs.Prelude.{replicate, if◌then◌else◌}
use Rattle.std.specs.Option.{option_map}
use Rattle.std.specs.Ordering.{eq_by_cmp}
use Rattle.std.specs.Cmp.{eq_by_cmp_equiv}
use Rattle.std.specs.FinMap.{empty, get, get-empty, get-insert}
use Rattle.std.proofs.lemmas.List.{get_or-replicate}
use Rattle.std.proofs.lemmas.Map.Text.{is_eq-slice_cmp}
use Rattle.psos_limits.specs.declared.TheConstants.{MOST_WORDS, MOST_ENTRIES}
use Rattle.psos_caps.specs.Capability.{full}
use Rattle.psos_text.specs.declared.name.Name.{Name}
use Rattle.psos_words.specs.declared.word.Word.{Word}
use Rattle.psos_words.specs.declared.word.Word.TheVariants.{Data}
use Rattle.psos_words.specs.Words.{zeros, word_at}
use Rattle.psos_words.specs.Directory.{Slot, Never, Used, Found, slots_of, decode, find_from, same_name}
use Rattle.psos_calls.specs.Language.Names.{name_cmp}
use Rattle.psos_model.specs.Flat.{Names}
use Rattle.psos_model.specs.Flat.Changes.{kept_entry}
use Rattle.psos_model.specs.Flat.Boot.{scratch_name, scratch_of}
use Rattle.psos_model.specs.Replay.BootLevels.{home_words}
use Rattle.psos_model.specs.Replay.StandsFor.{HoldsEntries, named_of}
use Rattle.psos_model.proofs.NameOrder.{name_cmp_total}
use Rattle.psos_model.proofs.BootRows.{root_row, home_row}

-- the first words of a scratch segment
pub zeros_alike : (i : ℕ) → i < 64 → word_at (zeros MOST_WORDS) i ≡ word_at (zeros 64) i
zeros_alike i h =
    let none : Word = Data 0 in
    get_or-replicate MOST_WORDS i none none (omega (arith, h)) ∙ sym (get_or-replicate 64 i none none h)

pub home_length : (i : ℕ) → length (home_words i) ≡ MOST_WORDS
home_length i = refl

abbrev unused : ℕ → List Slot
unused n = replicate n Never

unused_find : (n k : ℕ) (name : Name) → find_from k (unused n) name ≡ None
unused_find zero k name = refl
unused_find (suc n) k name = unused_find n (k + 1) name

-- ---- the root

root_decodes : decode (zeros MOST_WORDS) ≡ Some (unused MOST_ENTRIES)
unfolding decode slots_of
root_decodes = refl

pub root_entries : HoldsEntries (zeros MOST_WORDS) root_row
root_entries = record {
  slots = unused MOST_ENTRIES;
  decodes = root_decodes;
  entries = λ name. ap (option_map named_of) (unused_find MOST_ENTRIES 0 name) ∙ sym (get-empty name_cmp name);
}

-- ---- a home

abbrev scratch_slots : ℕ → List Slot
scratch_slots i = Used (record { name = scratch_name; cap = full (scratch_of i); kept = true }) ∷ unused 126

home_decodes : (i : ℕ) → decode (home_words i) ≡ Some (scratch_slots i)
unfolding decode slots_of
home_decodes i = refl

-- the test of the words, and of the table
scratch_asked : (name : Name) → same_name scratch_name name ≡ eq_by_cmp name_cmp name scratch_name
scratch_asked name = sym (is_eq-slice_cmp scratch_name.bytes name.bytes) ∙ (eq_by_cmp_equiv name_cmp_total).symm scratch_name name

abbrev scratch_found : ℕ → Bool → Option Found
scratch_found i b = if b then Some (record { slot = 0; entry = record { name = scratch_name; cap = full (scratch_of i); kept = true } }) else None

pub home_entries : (i : ℕ) → HoldsEntries (home_words i) (home_row i)
home_entries i = record {
  slots = scratch_slots i;
  decodes = home_decodes i;
  entries = λ name.
      ap (λ b. option_map named_of (scratch_found i b)) (scratch_asked name) ∙ (by_test name (eq_by_cmp name_cmp name scratch_name) ∙ sym (get-insert name_cmp_total before scratch_name (kept_entry (scratch_of i)) name));
}
  where
    before : Names
    before = empty

    by_test : (name : Name) (b : Bool) → option_map named_of (scratch_found i b) ≡ cond b (Some (kept_entry (scratch_of i))) (get before name)
    by_test name true = refl
    by_test name false = sym (get-empty name_cmp name)
