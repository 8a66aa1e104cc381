-- Levels that stand for a sound flat state have the words of each live directory as an entry list. States docs/promises.md, "Stands for".
use Rattle.std.proofs.Common.{◌≡◌, ℕ, Bool, true, false, Option, Some, None, IsSome, refl, sym, ap, ◌∙◌}
use Rattle.std.specs.Option.{option_map}
use Rattle.std.proofs.lemmas.Bool.{false≢true}
use Rattle.std.proofs.lemmas.Option.{none-some}
use Rattle.psos_caps.specs.Capability.{full}
use Rattle.psos_caps.specs.declared.rights.Rights.{Rights}
use Rattle.psos_table.specs.Table.{Table, at}
use Rattle.psos_words.specs.Directory.{decode}
use Rattle.psos_calls.specs.declared.kind.Kind.{Kind}
use Rattle.psos_calls.specs.declared.kind.Kind.TheVariants as kinds
use Rattle.psos_calls.specs.declared.seg_row.SegRow.{SegRow}
use Rattle.psos_calls.specs.Language.Script.{Script}
use Rattle.psos_calls.specs.Language.Tests.{if_there}
use Rattle.psos_calls.specs.Levels.Level7.{slot_words}
use Rattle.psos_calls.specs.Levels.Level8.{slot_of}
use Rattle.psos_calls.specs.Levels.Lists.{HasList, HasLists}
use Rattle.psos_model.specs.Flat.{Flat, Object, Directory}
use Rattle.psos_model.specs.Replay.{System}
use Rattle.psos_model.specs.Sound.Roles.{Role}
use Rattle.psos_model.specs.Sound.Roles as roles
use Rattle.psos_model.specs.Sound.{IsSound}
use Rattle.psos_model.specs.Replay.StandsFor.{StandsFor, object_row}
use Rattle.psos_agree.specs.Agreement.{DirectoriesAreLists}

abbrev is_object : Role → Bool
is_object roles.Object = true
is_object _ = false

-- a directory that is live, by its row
record HasDirectory (f : Flat) (u : ℕ) : Type 0 where
  row : Directory
  live : at f.dirs u ≡ Some row

has_directory : (f : Flat) (u : ℕ) (o : Option Directory) → at f.dirs u ≡ o → IsSome o → HasDirectory f u
has_directory f u None e there = absurd (false≢true there)
has_directory f u (Some d) e there = record { row = d; live = e }

module _ {s : Script} {y : System} {f : Flat} (h : StandsFor y f) (sound : IsSound s f) where
  -- a directory is no object
  pub no_object : (u : ℕ) (d : Directory) → at f.dirs u ≡ Some d → (o : Option Object) → at f.objects u ≡ o → o ≡ None
  no_object u d live None e = refl
  no_object u d live (Some o) e = absurd (false≢true (sym (ap is_object (sound.dirs u d live).role-is) ∙ ap is_object (sound.objects u o e).role-is))

  guard_there : (u : ℕ) (d : Directory) → at f.dirs u ≡ Some d → at y.levels.dirs u ≡ Some d.guard
  guard_there u d live = h.dirs u ∙ ap (option_map (λ (x : Directory). x.guard)) live

  -- what is live at level 10 is a directory
  directory_of : (u : ℕ) (guard : Rights) → at y.levels.dirs u ≡ Some guard → HasDirectory f u
  directory_of u guard e = by_row (at f.dirs u) refl
    where
      by_row : (o : Option Directory) → at f.dirs u ≡ o → HasDirectory f u
      by_row None is = absurd (none-some guard (sym (h.dirs u ∙ ap (option_map (λ (x : Directory). x.guard)) is) ∙ e))
      by_row (Some d) is = record { row = d; live = is }

  has_list : (u : ℕ) (d : Directory) → at f.dirs u ≡ Some d → HasList y.levels u
  has_list u d live =
      let row = h.reps u d live in
      let slot : slot_of y.levels.segs d.rep ≡ row.0.slot = ap (λ (o : Option SegRow). if_there o 0 (λ r. r.slot)) row.1 in
      let full_slot = h.taken d.rep row.0 row.1 in
      let held = h.entries u d live in
      record {
        object = record { of = None; rep = full d.rep };
        there = h.objects u ∙ (ap (λ (o : Option Object). object_row o (at f.dirs u)) (no_object u d live (at f.objects u) refl) ∙ ap (object_row None) live);
        segment = row.0;
        live = row.1;
        len = row.2;
        taken = full_slot.0;
        long = full_slot.1;
        entry_slots = held.slots;
        list = ap (λ (n : ℕ). decode (slot_words y.levels.pages n)) (sym slot) ∙ held.decodes;
      }

  pub lists_stand : HasLists y.levels
  lists_stand = record {
    slots = h.slots;
    each = λ u guard e. (let d = directory_of u guard e in has_list u d.row d.live);
    kinds = λ u e.
        let there = (sound.life u kinds.Directory).0 (ap (λ (t : Table Kind). at t u) (sym h.life) ∙ e) in
        let d = has_directory f u (at f.dirs u) refl there.0 in
        (d.row.guard, guard_there u d.row d.live);
  }

pub directories_are_lists : DirectoriesAreLists
directories_are_lists s y f h sound = lists_stand h sound
