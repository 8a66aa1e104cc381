-- Outcomes of user objects. States docs/requests.md, "Answers".
use Rattle.std.specs.Prelude.{ℕ, ◌+◌, ◌==◌, Bool, not, nat_lt, List, [], ◌∷◌, None}
use Rattle.std.specs.FinMap.{len}
use Rattle.psos_table.specs.Table.{at, kept, size}
use Rattle.psos_caps.specs.Capability.{Capability, full}
use Rattle.psos_text.specs.declared.name.Name.{Name}
use Rattle.psos_words.specs.declared.word.Word.TheVariants as words
use Rattle.psos_words.specs.Words.{word_at}
use Rattle.psos_words.specs.Guard.{barred}
use Rattle.psos_calls.specs.declared.kind.Kind.{Kind}
use Rattle.psos_calls.specs.declared.kind.Kind.TheVariants as kinds
use Rattle.psos_calls.specs.declared.right.Right.TheVariants as rights
use Rattle.psos_calls.specs.declared.refusal.Refusal.TheVariants.{NotCap, Absent, Lacks, Guarded, Range, UnknownName, NotDistinguished, NotEmpty, WrongType}
use Rattle.psos_calls.specs.Language.Rights.{has}
use Rattle.psos_calls.specs.Language.Tests.{if_there, if_none, if_cap, if_holds}
use Rattle.psos_calls.specs.Language.User.{User, here}
use Rattle.psos_calls.specs.Language.Capabilities.{uid}
use Rattle.psos_calls.specs.Language.Stores.{is_length}
use Rattle.psos_calls.specs.Language.Stores.{guard_of}
use Rattle.psos_model.specs.declared.place.Place.TheVariants.{ImplOf}
use Rattle.psos_model.specs.Flat.{Flat, Object, named}
use Rattle.psos_model.specs.Flat.Places.{reg_place}
use Rattle.psos_model.specs.declared.change.Change.{Change}
use Rattle.psos_model.specs.declared.change.Change.TheVariants.{Fresh, Register, Unregister, MakeSegment, MakeType, MakeObject, MakeDirectory, MakeCode, DropSegment, DropType, DropObject, DropDirectory, DropCode}
use Rattle.psos_model.specs.Answer.Outcomes.{Outcome, refuse, gives, does, by, own, if_dir, if_room, if_object_room, make_in}

abbrev pub answer_impl : Flat → User → ℕ → ℕ → ℕ → Outcome
answer_impl f x rd rt ro =
    if_cap (word_at (here x) rt) (refuse NotCap) (λ of.
    if_cap (word_at (here x) ro) (refuse NotCap) (λ on.
    if_there (at f.types of.uid) (refuse (Absent kinds.Typ)) (λ _.
    if_holds (has of rights.Impl) (refuse (Lacks rights.Impl)) (
    if_there (at f.objects on.uid) (refuse (Absent kinds.Object)) (λ o.
    if_holds (o.of == of.uid) (refuse WrongType) (
    gives [] rd (words.Cap (full o.rep)) (by (ImplOf (uid on.uid)) rights.Impl)))))))

-- a new user object: what makes it, its distinguished entry, and its identifier, which is the next
abbrev pub makes : Flat → Change → Capability → Name → Kind → List Change → ℕ → Outcome
makes f making dir name kind others rd = gives (making ∷ Register f.next dir.uid name kind ∷ Fresh ∷ others) rd (words.Cap (full f.next)) None

abbrev pub answer_mkseg : Flat → User → ℕ → ℕ → Name → ℕ → ℕ → Outcome
answer_mkseg f x rd rs name len g =
    if_cap (word_at (here x) rs) (refuse NotCap) (λ dir.
    if_holds (is_length len) (refuse Range) (
    make_in f dir name (
    makes f (MakeSegment f.next len (guard_of g)) dir name kinds.Segment [] rd)))

-- the second new identifier is that of the representation
abbrev pub answer_mkdir : Flat → User → ℕ → ℕ → Name → ℕ → Outcome
answer_mkdir f x rd rs name g =
    if_cap (word_at (here x) rs) (refuse NotCap) (λ dir.
    make_in f dir name (
    makes f (MakeDirectory f.next (f.next + 1) (guard_of g)) dir name kinds.Directory (Fresh ∷ []) rd))

abbrev pub answer_mktype : Flat → User → ℕ → ℕ → Name → Outcome
answer_mktype f x rd rs name =
    if_cap (word_at (here x) rs) (refuse NotCap) (λ dir.
    make_in f dir name (
    makes f (MakeType f.next) dir name kinds.Typ [] rd))

abbrev pub answer_mkobj : Flat → User → ℕ → ℕ → ℕ → Name → ℕ → Outcome
answer_mkobj f x rd rt rs name len =
    if_cap (word_at (here x) rt) (refuse NotCap) (λ of.
    if_cap (word_at (here x) rs) (refuse NotCap) (λ dir.
    if_holds (is_length len) (refuse Range) (
    if_object_room f (
    if_dir f dir rights.Create (λ d.
    if_there (at f.types of.uid) (refuse (Absent kinds.Typ)) (λ _.
    if_holds (has of rights.Make) (refuse (Lacks rights.Make)) (
    if_room d name (
    makes f (MakeObject f.next (record { of = of.uid; rep = f.next + 1 }) len) dir name kinds.Object (Fresh ∷ []) rd))))))))

abbrev pub answer_mkcode : Flat → User → ℕ → ℕ → Name → ℕ → ℕ → Outcome
answer_mkcode f x rd rs name label rl =
    if_cap (word_at (here x) rs) (refuse NotCap) (λ dir.
    if_none (barred 1 (word_at (here x) rl)) (λ b. refuse (Guarded b)) (
    make_in f dir name (
    record (makes f (MakeCode f.next (record { label = label; link = word_at (here x) rl })) dir name kinds.Code [] rd) { source = own (reg_place x x.frames rl) })))

-- ---- delete

-- a live object has this type
abbrev pub has_objects : Flat → ℕ → Bool
has_objects f u = nat_lt 0 (size (kept (λ (o : Object). o.of == u) f.objects))

-- what goes with a thing of this kind; its distinguished entry goes last
abbrev pub drops : Flat → Kind → ℕ → List Change → Outcome
drops f kinds.Segment u last = does (DropSegment u ∷ last) None
drops f kinds.Directory u last =
    if_there (at f.dirs u) (refuse NotEmpty) (λ d.
    if_holds (len d.names == 0) (refuse NotEmpty) (
    does (DropDirectory u ∷ last) None))
drops f kinds.Typ u last = if_holds (not (has_objects f u)) (refuse NotEmpty) (does (DropType u ∷ last) None)
drops f kinds.Object u last = if_there (at f.objects u) (refuse NotEmpty) (λ o. does (DropObject u o.rep ∷ last) None)
drops f kinds.Code u last = does (DropCode u ∷ last) None
drops f kinds.Process u last = refuse NotDistinguished

abbrev pub answer_delete : Flat → User → ℕ → Name → Outcome
answer_delete f x rs name =
    if_cap (word_at (here x) rs) (refuse NotCap) (λ dir.
    if_dir f dir rights.Delete (λ d.
    if_there (named d name) (refuse UnknownName) (λ e.
    if_holds e.kept (refuse NotDistinguished) (
    if_there (at f.life e.cap.uid) (refuse NotDistinguished) (λ kind.
    drops f kind e.cap.uid (Unregister e.cap.uid dir.uid name ∷ []))))))
