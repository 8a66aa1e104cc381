-- User objects that are kept by a distinguished entry. States docs/promises.md, "Guarded, kept, sealed".
use Rattle.std.specs.Prelude.{◌≡◌, ℕ, true, IsSome, Option, Some}
use Rattle.std.specs.Option.{option_and_then}
use Rattle.psos_table.specs.Table.{at}
use Rattle.psos_text.specs.declared.name.Name.{Name}
use Rattle.psos_calls.specs.declared.kind.Kind.{Kind}
use Rattle.psos_model.specs.Flat.{Flat, Directory, Named, named}
use Rattle.psos_model.specs.Flat.Changes.{kept_entry}

-- what a name stands for in the directory of this number
abbrev pub entry_in : Flat → ℕ → Name → Option Named
entry_in f d name = option_and_then (λ (x : Directory). named x name) (at f.dirs d)

-- each user object has a distinguished entry, with all rights, at its home, a directory and a name; and there is no other
pub record IsKept (home : ℕ → ℕ × Name) (f : Flat) : Type 0 where
  pub has_entry : (o : ℕ) (kind : Kind) → at f.life o ≡ Some kind → entry_in f (home o).0 (home o).1 ≡ Some (kept_entry o)
  pub no_other : (d : ℕ) (name : Name) (e : Named) → entry_in f d name ≡ Some e → e.kept ≡ true
      → (e ≡ kept_entry e.cap.uid) × IsSome (at f.life e.cap.uid) × (home e.cap.uid ≡ (d, name))
