-- Users' own parts stay sound. States docs/promises.md, "Sound states".
use Rattle.std.proofs.Common.{◌≡◌, ℕ, zero, suc, ◌+◌, ◌<◌, ◌≤◌, Bool, true, false, cond, List, [], ◌∷◌, length, nat_le, Option, Some, None, refl, sym, subst, ◌∙◌, arith, length-append}
use Rattle.std.specs.Prelude.{slice_get, slice_set}
use Rattle.std.specs.List.{AllByRecursion}
use Rattle.std.proofs.lemmas.Bool.{leb-false}
use Rattle.std.proofs.lemmas.List.{length-set}
use Rattle.std.proofs.lemmas.Option.{same_Some}
use Rattle.psos_limits.specs.declared.TheConstants.{MOST_CHARGE}
use Rattle.psos_words.specs.declared.word.Word.{Word}
use Rattle.psos_words.specs.Words.{word_at}
use Rattle.psos_table.specs.Table.{at}
use Rattle.psos_calls.specs.declared.code_row.CodeRow.{CodeRow}
use Rattle.psos_calls.specs.declared.effect.Effect.{Effect}
use Rattle.psos_calls.specs.declared.effect.Effect.TheVariants.{Nothing, Put, Push, Enter}
use Rattle.psos_calls.specs.declared.frame.Frame.{Frame}
use Rattle.psos_calls.specs.declared.request.Request.{Request}
use Rattle.psos_calls.specs.Language.Script.{Script, IsWellFormed, body_of}
use Rattle.psos_calls.specs.Language.Tests.{if_there}
use Rattle.psos_calls.specs.Language.User.{User, counted, with_reg, entered_regs, here, settled, outward, ended, after, next_request}
use Rattle.psos_model.specs.Flat.{Flat}
use Rattle.psos_model.specs.Flat.Boot.{process_of}
use Rattle.psos_model.specs.Answer.{outcome, answer, answer_to, silence}
use Rattle.psos_model.specs.Sound.Users.{IsSoundUser, IsSoundFrame, HasLine, lines_left}
use Rattle.psos_model.specs.Sound.{IsSound}
use Rattle.psos_model.proofs.OutcomeWalk.{FindsRoom, by_outcome}
use Rattle.psos_model.proofs.RequestRanges.{body_fits}
use Rattle.psos_laws.specs.SoundParts.{IsSoundUsers}

-- ---- a part between the count of its request and the ends of its bodies: a body may have no line left

-- all but the open bodies
record IsOwn (u : ℕ) (x : User) : Type 0 where
  number : x.number ≡ u
  process : x.process ≡ process_of u
  regs : length x.regs ≡ 16
  path : length x.path ≤ 4
  most : x.charge ≤ MOST_CHARGE

-- these open bodies, with so many lines answered and such a charge
record ArePaid (s : Script) (within charge : ℕ) (frames : List Frame) : Type 0 where
  each : AllByRecursion (IsSoundFrame s) frames
  few : length frames ≤ 4
  paid : within + lines_left s frames ≤ charge

-- both, of a part
record IsNearly (s : Script) (u : ℕ) (x : User) : Type 0 where
  own : IsOwn u x
  bodies : ArePaid s x.within x.charge x.frames

-- it is sound where its innermost body has a line left
whole : (s : Script) (u : ℕ) (x : User) → IsNearly s u x → HasLine s x.frames → IsSoundUser s u x
whole s u x h line = record {
  number = h.own.number;
  process = h.own.process;
  regs = h.own.regs;
  path = h.own.path;
  frames = h.bodies.each;
  few = h.bodies.few;
  line = line;
  most = h.own.most;
  paid = h.bodies.paid;
}

nearly : (s : Script) (u : ℕ) (x : User) → IsSoundUser s u x → IsNearly s u x
nearly s u x h = record {
  own = record { number = h.number; process = h.process; regs = h.regs; path = h.path; most = h.most };
  bodies = record { each = h.frames; few = h.few; paid = h.paid };
}

-- ---- the ends of bodies

-- the bodies outside of one
fewer : (s : Script) (within charge : ℕ) (q : Frame) (outer : List Frame) → ArePaid s within charge (q ∷ outer) → ArePaid s within charge outer
fewer s within charge q outer h = record { each = h.each.1; few = omega (arith, h.few); paid = omega (arith, h.paid) }

-- a word goes outward past bodies with no line left, and the one that it comes to has a line left
outward_sound : (s : Script) (u : ℕ) (x : User) (frames : List Frame) (w : Word) → IsOwn u x → ArePaid s x.within x.charge frames → IsSoundUser s u (outward s x frames w)
outward_sound s u x [] w own bodies = record {
  number = own.number;
  process = own.process;
  regs = length-set x.regs 4 w ∙ own.regs;
  path = own.path;
  frames = tt;
  few = omega arith;
  line = tt;
  most = own.most;
  paid = bodies.paid;
}
outward_sound s u x (q ∷ outer) w own bodies = by_test (outward_sound s u x outer w own (fewer s x.within x.charge q outer bodies)) (nat_le (length (body_of s q.label)) q.line) refl
  where
    by_test : IsSoundUser s u (outward s x outer w) → (b : Bool) → nat_le (length (body_of s q.label)) q.line ≡ b
        → IsSoundUser s u (cond b (outward s x outer w) (record x { frames = record q { regs = slice_set q.regs 4 w } ∷ outer }))
    by_test past true e = past
    by_test past false e = record {
      number = own.number;
      process = own.process;
      regs = own.regs;
      path = own.path;
      frames = (record { label = bodies.each.0.label; regs = length-set q.regs 4 w ∙ bodies.each.0.regs }, bodies.each.1);
      few = bodies.few;
      line = leb-false (length (body_of s q.label)) q.line e;
      most = own.most;
      paid = bodies.paid;
    }

ended_sound : (s : Script) (u : ℕ) (x : User) (frames : List Frame) → x.frames ≡ frames → IsNearly s u x → IsSoundUser s u (ended s x frames)
ended_sound s u x [] is h = whole s u x h (subst (HasLine s) (sym is) tt)
ended_sound s u x (q ∷ outer) is h = by_test (nat_le (length (body_of s q.label)) q.line) refl
  where
    bodies : ArePaid s x.within x.charge (q ∷ outer)
    bodies = subst (ArePaid s x.within x.charge) is h.bodies

    by_test : (b : Bool) → nat_le (length (body_of s q.label)) q.line ≡ b → IsSoundUser s u (cond b (outward s x outer (word_at q.regs 4)) x)
    by_test true e = outward_sound s u x outer (word_at q.regs 4) h.own (fewer s x.within x.charge q outer bodies)
    by_test false e = whole s u x h (subst (HasLine s) (sym is) (leb-false (length (body_of s q.label)) q.line e))

-- ---- the count

counted_nearly : (s : Script) (u : ℕ) (x : User) (frames : List Frame) → x.frames ≡ frames → IsSoundUser s u x → IsNearly s u (counted x frames)
counted_nearly s u x [] is h = record {
  own = record { number = h.number; process = h.process; regs = h.regs; path = h.path; most = h.most };
  bodies = record { each = h.frames; few = h.few; paid = omega (arith, h.paid) };
}
counted_nearly s u x (q ∷ outer) is h =
    let each = subst (AllByRecursion (IsSoundFrame s)) is h.frames in
    let line : q.line < length (body_of s q.label) = subst (HasLine s) is h.line in
    let paid = subst (λ fs. x.within + lines_left s fs ≤ x.charge) is h.paid in
    let few = subst (λ (fs : List Frame). length fs ≤ 4) is h.few in
    record {
      own = record { number = h.number; process = h.process; regs = h.regs; path = h.path; most = h.most };
      bodies = record {
        each = (record { label = each.0.label; regs = each.0.regs }, each.1);
        few = few;
        paid = omega (arith, paid, line);
      };
    }

-- ---- the effect

with_reg_nearly : (s : Script) (u : ℕ) (x : User) (frames : List Frame) (i : ℕ) (w : Word) → x.frames ≡ frames → IsNearly s u x → IsNearly s u (with_reg x frames i w)
with_reg_nearly s u x [] i w is h = record {
  own = record { number = h.own.number; process = h.own.process; regs = length-set x.regs i w ∙ h.own.regs; path = h.own.path; most = h.own.most };
  bodies = h.bodies;
}
with_reg_nearly s u x (q ∷ outer) i w is h =
    let bodies = subst (ArePaid s x.within x.charge) is h.bodies in
    record {
      own = record { number = h.own.number; process = h.own.process; regs = h.own.regs; path = h.own.path; most = h.own.most };
      bodies = record {
        each = (record { label = bodies.each.0.label; regs = length-set q.regs i w ∙ bodies.each.0.regs }, bodies.each.1);
        few = bodies.few;
        paid = bodies.paid;
      };
    }

-- the registers of a body that is entered are sixteen
entered_sixteen : (r : List Word) (link : Word) → length (entered_regs r link) ≡ 16
entered_sixteen r link = refl

-- an effect finds room: a directory, or a body with its charge, that is a code block
abbrev pub Fits : Script → User → Effect → Type 0
Fits s x Nothing = Unit {0}
Fits s x (Put i w) = Unit {0}
Fits s x (Push c) = length x.path < 4
Fits s x (Enter label link) = (length x.frames < 4) × (x.charge + 16 ≤ MOST_CHARGE) × (label < length s.codes)

settled_nearly : (s : Script) → IsWellFormed s → (u : ℕ) (x : User) (e : Effect) → Fits s x e → IsNearly s u x → IsNearly s u (settled x e)
settled_nearly s w u x Nothing fits h = h
settled_nearly s w u x (Put i word) fits h = with_reg_nearly s u x x.frames i word refl h
settled_nearly s w u x (Push c) fits h =
    let longer = length-append x.path (c ∷ []) in
    record {
      own = record { number = h.own.number; process = h.own.process; regs = h.own.regs; path = omega (arith, longer, fits); most = h.own.most };
      bodies = h.bodies;
    }
settled_nearly s w u x (Enter label link) fits h =
    let block = (body_fits s w label).1 in
    record {
      own = record { number = h.own.number; process = h.own.process; regs = h.own.regs; path = h.own.path; most = fits.1 };
      bodies = record {
        each = (record { label = fits.2; regs = entered_sixteen (here x) link }, h.bodies.each);
        few = omega (arith, fits.0);
        paid = omega (arith, block, h.bodies.paid);
      };
    }

-- ---- the close of a request

-- the count changes nothing that an effect finds room in
fits_counted : (s : Script) (x : User) (frames : List Frame) (e : Effect) → x.frames ≡ frames → Fits s x e → Fits s (counted x frames) e
fits_counted s x [] Nothing is h = tt
fits_counted s x [] (Put i w) is h = tt
fits_counted s x [] (Push c) is h = h
fits_counted s x [] (Enter label link) is h = h
fits_counted s x (q ∷ outer) Nothing is h = tt
fits_counted s x (q ∷ outer) (Put i w) is h = tt
fits_counted s x (q ∷ outer) (Push c) is h = h
fits_counted s x (q ∷ outer) (Enter label link) is h =
    let few = subst (λ (fs : List Frame). length fs < 4) is h.0 in
    (few, h.1, h.2)

-- a part stays sound by every effect that finds room
pub after_sound : (s : Script) → IsWellFormed s → (u : ℕ) (x : User) (e : Effect) → Fits s x e → IsSoundUser s u x → IsSoundUser s u (after s x e)
after_sound s w u x e fits h =
    let y = settled (counted x x.frames) e in
    ended_sound s u y y.frames refl (settled_nearly s w u (counted x x.frames) e (fits_counted s x x.frames e refl fits) (counted_nearly s u x x.frames refl h))

-- ---- the effects that outcomes have

-- the labels of procedure records are code blocks
abbrev pub HaveBlocks : Script → Flat → Type 0
HaveBlocks s f = (u : ℕ) (code : CodeRow) → at f.codes u ≡ Some code → code.label < length s.codes

block_fits : (s : Script) (f : Flat) (x : User) (e : Effect) → HaveBlocks s f → FindsRoom f x e → Fits s x e
block_fits s f x Nothing labels h = tt
block_fits s f x (Put i w) labels h = tt
block_fits s f x (Push c) labels h = h
block_fits s f x (Enter label link) labels h =
    let block : label < length s.codes = subst (λ n. n < length s.codes) h.2.label-is (labels h.2.record_uid h.2.code h.2.live) in
    (h.0, h.1, block)

pub outcome_fits : (s : Script) (f : Flat) (x : User) (r : Request) → HaveBlocks s f → Fits s x (outcome f x r).effect
outcome_fits s f x r labels = block_fits s f x (outcome f x r).effect labels (by_outcome f x (λ o. FindsRoom f x o.effect) (λ r. tt) (λ o d. d.effect) r)

-- ---- all users

-- what holds of each user, and of the changed one, holds of each after the change
pub each_set : (P : ℕ → User → Type 0) (users : List User) (u : ℕ) (y : User) → ((v : ℕ) (x : User) → slice_get users v ≡ Some x → P v x) → P u y
    → (v : ℕ) (x : User) → slice_get (slice_set users u y) v ≡ Some x → P v x
each_set P [] u y old new v x e = old v x e
each_set P (z ∷ zs) zero y old new zero x e = subst (P zero) (same_Some y x e) new
each_set P (z ∷ zs) zero y old new (suc v) x e = old (suc v) x e
each_set P (z ∷ zs) (suc u) y old new zero x e = old zero x e
each_set P (z ∷ zs) (suc u) y old new (suc v) x e = each_set (λ n z. P (suc n) z) zs u y (λ n z p. old (suc n) z p) new v x e

answered_sound : (s : Script) → IsWellFormed s → (f : Flat) (u : ℕ) (x : User) (r : Option Request) → HaveBlocks s f → IsSoundUsers s f → slice_get f.users u ≡ Some x
    → IsSoundUsers s (answer_to s f u x r).0
answered_sound s w f u x None labels h there = h
answered_sound s w f u x (Some r) labels h there =
    let y = after s x (outcome f x r).effect in
    record {
      users = each_set (IsSoundUser s) f.users u y h.users (after_sound s w u x (outcome f x r).effect (outcome_fits s f x r labels) (h.users u x there));
      all_users = length-set f.users u y ∙ h.all_users;
    }

-- each answer keeps users' own parts sound, where the labels of procedure records are code blocks
pub users_kept_by : (s : Script) → IsWellFormed s → (f : Flat) (u : ℕ) → HaveBlocks s f → IsSoundUsers s f → IsSoundUsers s (answer s f u).0
users_kept_by s w f u labels h = by_user (slice_get f.users u) refl
  where
    by_user : (o : Option User) → slice_get f.users u ≡ o → IsSoundUsers s (if_there o (f, silence u) (λ x. answer_to s f u x (next_request s x))).0
    by_user None e = h
    by_user (Some x) e = answered_sound s w f u x (next_request s x) labels h e

-- and so it does in a sound state
pub users_kept : (s : Script) (f : Flat) (u : ℕ) → IsWellFormed s → IsSound s f → IsSoundUsers s (answer s f u).0
users_kept s f u w h = users_kept_by s w f u (λ v code e. (h.codes v code e).label) (record { users = h.users; all_users = h.all_users })
