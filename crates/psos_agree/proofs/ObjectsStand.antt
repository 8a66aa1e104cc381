-- Levels that stand for a flat state still do once an object or a directory is made or goes. States docs/promises.md, "Stands for".
use Rattle.std.proofs.Common.{◌≡◌, ℕ, ◌<◌, ◌≤◌, length, Option, Some, None, sym, ap, ◌∙◌, inl, inr}
use Rattle.std.proofs.lemmas.Bool.{cases_eq}
use Rattle.psos_limits.specs.declared.TheConstants.{MOST_WORDS}
use Rattle.psos_caps.specs.Capability.{full}
use Rattle.psos_table.specs.Table.{Table, at, put, without}
use Rattle.psos_table.proofs.Tables.{at-put_here, at-put_apart, at-without_here, at-without_apart}
use Rattle.psos_calls.specs.declared.obj_row.ObjRow.{ObjRow}
use Rattle.psos_calls.specs.Language.Capabilities.{uid}
use Rattle.psos_calls.specs.Language.Script.{Script}
use Rattle.psos_calls.specs.Language.Tests.{if_there}
use Rattle.psos_calls.specs.Levels.Level7.{first_free}
use Rattle.psos_calls.specs.Levels.Level9.{rep_of}
use Rattle.psos_model.specs.Flat.{Flat, Object, Directory}
use Rattle.psos_model.specs.Flat.Changes.{changed}
use Rattle.psos_model.specs.declared.change.Change.TheVariants.{MakeObject, DropObject}
use Rattle.psos_model.specs.Replay.{System}
use Rattle.psos_model.specs.Sound.{IsSound}
use Rattle.psos_model.specs.Replay.StandsFor.{StandsFor, object_row}
use Rattle.psos_agree.proofs.TablesStand.{tables_stand}
use Rattle.psos_agree.proofs.SegmentsStand.{stands_made, stands_gone}
use Rattle.psos_agree.proofs.Representations.{no_directory, no_object}
use Rattle.psos_agree.specs.Changes.{made_object, gone_object}

-- ---- the rows of level 9

-- level 9 has a representation as the flat state has it
pub rep_of_object : {y : System} {f : Flat} → StandsFor y f → (u : ℕ) (o : Object) → at f.objects u ≡ Some o → rep_of y.levels.types u ≡ o.rep
rep_of_object {f = f} h u o live =
    ap (λ (r : Option ObjRow). if_there r 0 (λ r. r.rep.uid)) (h.objects u ∙ ap (λ (p : Option Object). object_row p (at f.dirs u)) live)

pub rep_of_directory : {s : Script} {y : System} {f : Flat} → StandsFor y f → IsSound s f → (u : ℕ) (x : Directory) → at f.dirs u ≡ Some x → rep_of y.levels.types u ≡ x.rep
rep_of_directory {f = f} h sound u x live =
    ap (λ (r : Option ObjRow). if_there r 0 (λ r. r.rep.uid))
    (h.objects u ∙ (ap (λ (p : Option Object). object_row p (at f.dirs u)) (no_object sound u x live) ∙ ap (object_row None) live))

module _ (m : Table ObjRow) (objects : Table Object) (dirs : Table Directory) (each : (v : ℕ) → at m v ≡ object_row (at objects v) (at dirs v)) (u : ℕ) where
  object_put : (o : Object) (v : ℕ) → at (put m u (record { of = Some (uid o.of); rep = full o.rep })) v ≡ object_row (at (put objects u o) v) (at dirs v)
  object_put o v = elim (cases_eq v u) [
    | inl e ↦ ap (at (put m u _)) e ∙ (at-put_here m u _ ∙ ap (λ (p : Option Object). object_row p (at dirs v)) (sym (ap (at (put objects u o)) e ∙ at-put_here objects u o)))
    | inr apart ↦ at-put_apart m u _ v apart ∙ (each v ∙ ap (λ (p : Option Object). object_row p (at dirs v)) (sym (at-put_apart objects u o v apart)))
  ]

  object_without : at dirs u ≡ None → (v : ℕ) → at (without m u) v ≡ object_row (at (without objects u) v) (at dirs v)
  object_without none v = elim (cases_eq v u) [
    | inl e ↦
        ap (at (without m u)) e ∙ (at-without_here m u
        ∙ sym (ap (λ (p : Option Object). object_row p (at dirs v)) (ap (at (without objects u)) e ∙ at-without_here objects u) ∙ ap (object_row None) (ap (at dirs) e ∙ none)))
    | inr apart ↦ at-without_apart m u v apart ∙ (each v ∙ ap (λ (p : Option Object). object_row p (at dirs v)) (sym (at-without_apart objects u v apart)))
  ]

  pub directory_put : at objects u ≡ None → (d : Directory) (v : ℕ) → at (put m u (record { of = None; rep = full d.rep })) v ≡ object_row (at objects v) (at (put dirs u d) v)
  directory_put none d v = elim (cases_eq v u) [
    | inl e ↦
        ap (at (put m u _)) e ∙ (at-put_here m u _
        ∙ sym (ap (λ (p : Option Object). object_row p (at (put dirs u d) v)) (ap (at objects) e ∙ none) ∙ ap (object_row None) (ap (at (put dirs u d)) e ∙ at-put_here dirs u d)))
    | inr apart ↦ at-put_apart m u _ v apart ∙ (each v ∙ ap (object_row (at objects v)) (sym (at-put_apart dirs u d v apart)))
  ]

  pub directory_without : at objects u ≡ None → (v : ℕ) → at (without m u) v ≡ object_row (at objects v) (at (without dirs u) v)
  directory_without none v = elim (cases_eq v u) [
    | inl e ↦
        ap (at (without m u)) e ∙ (at-without_here m u
        ∙ sym (ap (λ (p : Option Object). object_row p (at (without dirs u) v)) (ap (at objects) e ∙ none) ∙ ap (object_row None) (ap (at (without dirs u)) e ∙ at-without_here dirs u)))
    | inr apart ↦ at-without_apart m u v apart ∙ (each v ∙ ap (object_row (at objects v)) (sym (at-without_apart dirs u v apart)))
  ]

-- ---- an object is made

-- an object is made with a representation of data 0, whose identifier is new at level 8, in a slot that is free
pub stands_object_made : {y : System} {f : Flat} → StandsFor y f → (u : ℕ) (o : Object) (len : ℕ) → at y.levels.segs.segments o.rep ≡ None → first_free y.levels.pages < length y.levels.pages → len ≤ MOST_WORDS
    → StandsFor (record y { levels = made_object y u o len }) (changed f (MakeObject u o len))
stands_object_made {y = y} {f = f} h u o len new room few =
    let k = stands_made h o.rep len (record { 0 = 1 }) new room few in
    tables_stand k k.next k.codes k.boxes k.life k.types k.windows k.users (object_put y.levels.types.objects f.objects f.dirs h.objects u o)

-- ---- an object goes

-- a live object goes, and its representation with it
pub stands_object_gone : {s : Script} {y : System} {f : Flat} → StandsFor y f → IsSound s f → (u : ℕ) (o : Object) → at f.objects u ≡ Some o
    → StandsFor (record y { levels = gone_object y u o.rep }) (changed f (DropObject u o.rep))
stands_object_gone {y = y} {f = f} h sound u o live =
    let good = sound.objects u o live in
    let k = stands_gone h sound o.rep good.rep good.live in
    tables_stand k k.next k.codes k.boxes k.life k.types k.windows k.users (object_without y.levels.types.objects f.objects f.dirs h.objects u (no_directory sound u o live))
