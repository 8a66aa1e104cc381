-- Rules to walk an outcome by: its tests refuse, or it goes on with what was seen.
use Rattle.std.proofs.Common.{◌≡◌, ℕ, zero, suc, ◌<◌, Bool, true, false, List, [], ◌∷◌, slice_get, nat_lt, Option, Some, None, refl}
use Rattle.std.specs.FinMap.{len}
use Rattle.std.proofs.lemmas.Bool.{ltb-true}
use Rattle.psos_limits.specs.declared.TheConstants.{MOST_OBJECTS, MOST_ENTRIES}
use Rattle.psos_table.specs.Table.{at, size}
use Rattle.psos_caps.specs.Capability.{Capability}
use Rattle.psos_text.specs.declared.name.Name.{Name}
use Rattle.psos_words.specs.declared.word.Word.{Word}
use Rattle.psos_words.specs.declared.word.Word.TheVariants.{Data, Cap}
use Rattle.psos_calls.specs.declared.right.Right.{Right}
use Rattle.psos_calls.specs.declared.right.Right.TheVariants as rights
use Rattle.psos_calls.specs.declared.refusal.Refusal.{Refusal}
use Rattle.psos_calls.specs.declared.refusal.Refusal.TheVariants as refusals
use Rattle.psos_calls.specs.Language.Capabilities.{uid}
use Rattle.psos_calls.specs.Language.Rights.{has}
use Rattle.psos_calls.specs.Language.Tests.{if_there, if_none, if_cap, if_data, if_holds}
use Rattle.psos_calls.specs.Language.Views.{View}
use Rattle.psos_model.specs.declared.place.Place.TheVariants.{DirName}
use Rattle.psos_model.specs.Flat.{Flat, Directory, Named, named, flat_view}
use Rattle.psos_model.specs.Answer.Outcomes.{Outcome, refuse, gives, by, if_view, if_dir, if_room, if_object_room, make_in}
use Rattle.psos_model.specs.Answer.Directories.{find_in}

-- a directory in which a name is new and one more entry fits, and one more user object fits
pub record HasPlace (f : Flat) (d : ℕ) (name : Name) : Type 0 where
  pub row : Directory
  pub live : at f.dirs d ≡ Some row
  pub none : named row name ≡ None
  pub room : len row.names < MOST_ENTRIES
  pub few : size f.life < MOST_OBJECTS

-- what is to be shown holds of each refusal
pub record Refuses (P : Outcome → Type 0) : Type 0 where
  pub refused : (r : Refusal) → P (refuse r)

module _ {P : Outcome → Type 0} (no : Refuses P) where
  pub by_cap : (w : Word) (go : Capability → Outcome) → ((c : Capability) → w ≡ Cap c → P (go c)) → P (if_cap w (refuse refusals.NotCap) go)
  by_cap (Data n) go h = no.refused refusals.NotCap
  by_cap (Cap c) go h = h c refl

  pub by_data : (w : Word) (go : ℕ → Outcome) → ((n : ℕ) → P (go n)) → P (if_data w (refuse refusals.NotData) go)
  by_data (Data n) go h = h n
  by_data (Cap c) go h = no.refused refusals.NotData

  pub by_there : {X : Type 0} (o : Option X) (r : Refusal) (go : X → Outcome) → ((x : X) → o ≡ Some x → P (go x)) → P (if_there o (refuse r) go)
  by_there None r go h = no.refused r
  by_there (Some x) r go h = h x refl

  pub by_none : {X : Type 0} (o : Option X) (r : X → Refusal) (go : Outcome) → (o ≡ None → P go) → P (if_none o (λ x. refuse (r x)) go)
  by_none None r go h = h refl
  by_none (Some x) r go h = no.refused (r x)

  pub by_holds : (b : Bool) (r : Refusal) (go : Outcome) → (b ≡ true → P go) → P (if_holds b (refuse r) go)
  by_holds true r go h = h refl
  by_holds false r go h = no.refused r

  pub by_view : (f : Flat) (cap : Capability) (right : Right) (go : View → Outcome) → ((v : View) → flat_view f cap.uid ≡ Some v → has cap right ≡ true → P (go v)) → P (if_view f cap right go)
  by_view f cap right go h = by_there (flat_view f cap.uid) _ _ (λ v seen. by_holds (has cap right) (refusals.Lacks right) _ (h v seen))

  pub by_dir : (f : Flat) (cap : Capability) (right : Right) (go : Directory → Outcome) → ((d : Directory) → at f.dirs cap.uid ≡ Some d → has cap right ≡ true → P (go d)) → P (if_dir f cap right go)
  by_dir f cap right go h = by_there (at f.dirs cap.uid) _ _ (λ d live. by_holds (has cap right) (refusals.Lacks right) _ (h d live))

  pub by_room : (d : Directory) (name : Name) (go : Outcome) → (named d name ≡ None → len d.names < MOST_ENTRIES → P go) → P (if_room d name go)
  by_room d name go h = by_none (named d name) (λ _. refusals.NameTaken) _ (λ none. by_holds (nat_lt (len d.names) MOST_ENTRIES) _ _ (λ room. h none (ltb-true (len d.names) MOST_ENTRIES room)))

  pub by_object_room : (f : Flat) (go : Outcome) → (size f.life < MOST_OBJECTS → P go) → P (if_object_room f go)
  by_object_room f go h = by_holds (nat_lt (size f.life) MOST_OBJECTS) _ _ (λ few. h (ltb-true (size f.life) MOST_OBJECTS few))

  pub by_make : (f : Flat) (dir : Capability) (name : Name) (go : Outcome) → (HasPlace f dir.uid name → P go) → P (make_in f dir name go)
  by_make f dir name go h =
      by_object_room f _ (λ few. by_dir f dir rights.Create _ (λ d live _. by_room d name go (λ none room.
      h (record { row = d; live = live; none = none; room = room; few = few }))))

  -- ---- a name space

  module _ (f : Flat) (rd : ℕ) (name : Name) where
    -- what its directories say where the name is there
    abbrev IsFound : List Capability → Type 0
    IsFound path = (i : ℕ) (dir : Capability) → slice_get path i ≡ Some dir → (d : Directory) → at f.dirs dir.uid ≡ Some d → has dir rights.Lookup ≡ true
        → (e : Named) → named d name ≡ Some e → P (gives [] rd (Cap e.cap) (by (DirName (uid dir.uid) name) rights.Lookup))

    by_option : {X : Type 0} (later : Outcome) → P later → (o : Option X) (go : X → Outcome) → ((x : X) → o ≡ Some x → P (go x)) → P (if_there o later go)
    by_option later on None go h = on
    by_option later on (Some x) go h = h x refl

    by_right : (later : Outcome) → P later → (b : Bool) (go : Outcome) → (b ≡ true → P go) → P (if_holds b later go)
    by_right later on false go h = on
    by_right later on true go h = h refl

    pub by_find : (path : List Capability) → IsFound path → P (find_in f path rd name)
    by_find [] h = no.refused refusals.UnknownName
    by_find (dir ∷ rest) h =
        let later = by_find rest (λ i c e. h (suc i) c e) in
        by_option _ later (at f.dirs dir.uid) _ (λ d live. by_right _ later (has dir rights.Lookup) _ (λ may. by_option _ later (named d name) _ (h zero dir refl d live may)))
