-- Representations of directories are apart from segments and from each other, in sound flat states and after their changes. States docs/promises.md, "Sound states".
use Rattle.std.proofs.Common.{◌≡◌, ℕ, ◌≤◌, Option, Some, None, refl, sym, ap, ◌∙◌, inl, inr, arith}
use Rattle.std.proofs.lemmas.Option.{none-some}
use Rattle.psos_caps.specs.declared.rights.Rights.{Rights}
use Rattle.psos_table.specs.Table.{Table, at}
use Rattle.psos_table.proofs.Tables.{row-without}
use Rattle.psos_calls.specs.Language.Script.{Script}
use Rattle.psos_model.specs.Flat.{Flat, Segment, Object, Directory}
use Rattle.psos_model.specs.Flat.Changes.{changed, new_segment}
use Rattle.psos_model.specs.declared.change.Change.TheVariants.{MakeSegment, MakeObject, MakeDirectory, DropSegment, DropObject, DropDirectory}
use Rattle.psos_model.specs.Sound.Roles.{Role, HiddenIn}
use Rattle.psos_model.specs.Sound.Roles as roles
use Rattle.psos_model.specs.Sound.{IsSound}
use Rattle.psos_agree.proofs.FreshIdentifiers.{absent}
use Rattle.psos_agree.proofs.Views.{IsSeen}
use Rattle.psos_agree.proofs.SegmentWords.{segment_seen}
use Rattle.psos_agree.proofs.SegmentSlots.{row_of_put}

-- no segment represents a directory, and no two directories have one representation
pub record IsApart (f : Flat) : Type 0 where
  pub seen : (u : ℕ) (t : Segment) → at f.segments u ≡ Some t → IsSeen f u
  pub one : (u v : ℕ) (x z : Directory) → at f.dirs u ≡ Some x → at f.dirs v ≡ Some z → x.rep ≡ z.rep → u ≡ v

-- whose representation it is, by its role
abbrev hidden_in : Role → ℕ
hidden_in (HiddenIn d) = d
hidden_in _ = 0

pub sound_apart : {s : Script} {f : Flat} → IsSound s f → IsApart f
sound_apart {s = s} {f = f} sound = record {
  seen = λ u t live. segment_seen s f u t sound live;
  one = λ u v x z at_u at_v e. ap hidden_in (sym (sound.dirs u x at_u).hidden) ∙ (ap (λ (w : ℕ). hidden_in (sound.role w)) e ∙ ap hidden_in (sound.dirs v z at_v).hidden);
}

-- ---- identifiers

-- the kinds of thing of which a role tells
abbrev is_object : Role → ℕ
is_object roles.Object = 1
is_object _ = 0

module _ {s : Script} {f : Flat} (sound : IsSound s f) where
  -- an object is no directory, and a directory is no object
  pub object_is_no_directory : (u : ℕ) (o : Object) (x : Directory) → at f.objects u ≡ Some o → at f.dirs u ≡ Some x → ⊥
  object_is_no_directory u o x at_o at_d =
      let e = ap is_object (sym (sound.objects u o at_o).role-is) ∙ ap is_object (sound.dirs u x at_d).role-is in
      omega (arith, e)

  pub no_directory : (u : ℕ) (o : Object) → at f.objects u ≡ Some o → at f.dirs u ≡ None
  no_directory u o live = by_row (at f.dirs u) refl
    where
      by_row : (d : Option Directory) → at f.dirs u ≡ d → d ≡ None
      by_row None e = refl
      by_row (Some x) e = absurd (object_is_no_directory u o x live e)

  pub no_object : (u : ℕ) (x : Directory) → at f.dirs u ≡ Some x → at f.objects u ≡ None
  no_object u x live = by_row (at f.objects u) refl
    where
      by_row : (o : Option Object) → at f.objects u ≡ o → o ≡ None
      by_row None e = refl
      by_row (Some o) e = absurd (object_is_no_directory u o x e live)

  -- an identifier that was not given yet names none of them
  pub new_segment_none : (u : ℕ) → f.next ≤ u → at f.segments u ≡ None
  new_segment_none u past = absent f.segments f.next (λ v x is. (sound.segments v x is).below) u past

  pub new_object_none : (u : ℕ) → f.next ≤ u → at f.objects u ≡ None
  new_object_none u past = absent f.objects f.next (λ v x is. (sound.objects v x is).below) u past

  pub new_directory_none : (u : ℕ) → f.next ≤ u → at f.dirs u ≡ None
  new_directory_none u past = absent f.dirs f.next (λ v x is. (sound.dirs v x is).below) u past

  pub new_seen : (u : ℕ) → f.next ≤ u → IsSeen f u
  new_seen u past d row live e = let below = (sound.dirs d row live).rep_below in omega (arith, below, past, e)

-- ---- after a change

module _ {f : Flat} (a : IsApart f) where
  -- a state with these segments and directories, whatever else changed
  pub apart_as : (g : Flat) → g.segments ≡ f.segments → g.dirs ≡ f.dirs → IsApart g
  apart_as g segments dirs =
      let was : (u : ℕ) (x : Directory) → at g.dirs u ≡ Some x → at f.dirs u ≡ Some x = λ u x is. ap (λ (m : Table Directory). at m u) (sym dirs) ∙ is in
      record {
        seen = λ u t live d row at_d. a.seen u t (ap (λ (m : Table Segment). at m u) (sym segments) ∙ live) d row (was d row at_d);
        one = λ u v x z at_u at_v. a.one u v x z (was u x at_u) (was v z at_v);
      }

  -- a segment more, which represents no directory
  pub apart_made : (u len : ℕ) (guard : Rights) → IsSeen f u → IsApart (changed f (MakeSegment u len guard))
  apart_made u len guard seen = record {
    seen = λ v t live d row at_d e. elim (row_of_put f.segments u (new_segment len guard) v t live) [
      | inl new ↦ seen d row at_d (sym new.0 ∙ e)
      | inr old ↦ a.seen v t old.1 d row at_d e
    ];
    one = a.one;
  }

  pub apart_object_made : (u : ℕ) (o : Object) (len : ℕ) → IsSeen f o.rep → IsApart (changed f (MakeObject u o len))
  apart_object_made u o len seen =
      let more = apart_made o.rep len (record { 0 = 1 }) seen in
      record { seen = more.seen; one = more.one }

  -- a directory more, whose representation is no segment and represents no other
  pub apart_directory_made : (u rep : ℕ) (guard : Rights) → at f.segments rep ≡ None → IsSeen f rep → IsApart (changed f (MakeDirectory u rep guard))
  apart_directory_made u rep guard free seen =
      record {
        seen = λ v t live d row at_d e. elim (row_of_put f.dirs u _ d row at_d) [
          | inl here ↦ none-some t (sym free ∙ (ap (at f.segments) (sym (e ∙ ap (λ (x : Directory). x.rep) here.1)) ∙ live))
          | inr old ↦ a.seen v t live d row old.1 e
        ];
        one = λ v w x z at_v at_w e. elim (row_of_put f.dirs u _ v x at_v) [
          | inl here ↦ elim (row_of_put f.dirs u _ w z at_w) [
            | inl there ↦ here.0 ∙ sym there.0
            | inr old ↦ absurd (seen w z old.1 (sym (ap (λ (x : Directory). x.rep) here.1) ∙ e))
          ]
          | inr was ↦ elim (row_of_put f.dirs u _ w z at_w) [
            | inl there ↦ absurd (seen v x was.1 (sym (ap (λ (x : Directory). x.rep) there.1) ∙ sym e))
            | inr old ↦ a.one v w x z was.1 old.1 e
          ]
        ];
      }

  -- a segment or a directory fewer
  pub apart_gone : (u : ℕ) → IsApart (changed f (DropSegment u))
  apart_gone u = record { seen = λ v t live. a.seen v t (row-without f.segments u v t live).0; one = a.one }

  pub apart_object_gone : (u rep : ℕ) → IsApart (changed f (DropObject u rep))
  apart_object_gone u rep = record { seen = λ v t live. a.seen v t (row-without f.segments rep v t live).0; one = a.one }

  pub apart_directory_gone : (u : ℕ) → IsApart (changed f (DropDirectory u))
  apart_directory_gone u = record {
    seen = λ v t live d row at_d. a.seen v t live d row (row-without f.dirs u d row at_d).0;
    one = λ v w x z at_v at_w. a.one v w x z (row-without f.dirs u v x at_v).0 (row-without f.dirs u w z at_w).0;
  }
