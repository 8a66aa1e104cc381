-- What is kept of a request tells what the history says of it.
use Rattle.std.proofs.Common.{◌≡◌, ◌||◌, ◌&&◌, ℕ, suc, ◌+◌, ◌-◌, ◌≤◌, Bool, true, false, cond, List, [], ◌∷◌, ◌++◌, length, slice_set, Option, Some, None, refl, sym, ap, ◌∙◌, ◌⊎◌, inl, inr, arith, append_assoc}
use Rattle.std.proofs.lemmas.List.{append-nil}
use Rattle.std.proofs.lemmas.Bool.{false≢true, and_parts, le-ltb, lt-ltb}
use Rattle.psos_caps.specs.Capability.{Capability}
use Rattle.psos_words.specs.declared.word.Word.{Word}
use Rattle.psos_words.specs.Words.{word_at}
use Rattle.psos_calls.specs.declared.frame.Frame.{Frame}
use Rattle.psos_calls.specs.declared.effect.Effect.{Effect}
use Rattle.psos_calls.specs.declared.effect.Effect.TheVariants.{Nothing, Put, Push, Enter}
use Rattle.psos_calls.specs.Language.Script.{Script}
use Rattle.psos_calls.specs.Language.Tests.{if_there}
use Rattle.psos_calls.specs.Language.User.{User, counted, with_reg, settled, outward, ended}
use Rattle.psos_model.specs.declared.place.Place.{Place}
use Rattle.psos_model.specs.declared.place.Place.TheVariants.{FrameReg}
use Rattle.psos_model.specs.declared.change.Change.{Change}
use Rattle.psos_model.specs.declared.change.Change.TheVariants.{Fresh, PutWord, Bind, Register, Post, Draw, MakeObject, MakeDirectory, MakeCode}
use Rattle.psos_model.specs.Flat.{Flat}
use Rattle.psos_model.specs.Flat.Places.{same_place, reg_place}
use Rattle.psos_model.specs.Flat.Changes.{changed}
use Rattle.psos_model.specs.Answer.Outcomes.{Source, own}
use Rattle.psos_laws.specs.declared.origin.Origin.{Origin}
use Rattle.psos_laws.specs.Landings.{Landing, lands, change_puts, changes_put, end_puts, found, source_after, is_over, outer_place, before_change, before}
use Rattle.psos_laws.specs.History.{Transition, origin_of, origin_by}
use Rattle.psos_laws.specs.Arrivals.{Arrival, Arrivals, told, comes, came_by, came_in, came_out, last_to, moved_by, drawn_by, opened_by}
use Rattle.psos_laws.proofs.StepLaws.{is_making, lands_none, none_land, only_fresh, tells, is_short}
use Rattle.psos_laws.proofs.ChangeArrivals.{AreSafe}
use Rattle.psos_laws.proofs.OwnArrivals.{closing}

-- ---- the last that came to a place

last_append : (last : Option (Option Source)) (xs ys : List Arrival) (p : Place) → last_to last (xs ++ ys) p ≡ last_to (last_to last xs p) ys p
last_append last [] ys p = refl
last_append last (x ∷ xs) ys p = last_append (cond (same_place p x.place) (Some x.source) last) xs ys p

-- the source of a landing that was found, or else this
abbrev pub found_or : Option (Option Source) → Option Landing → Option (Option Source)
found_or last o = if_there o last (λ l. Some l.source)

if_found : (b : Bool) (l : Landing) (o : Option Landing) (last : Option (Option Source)) → cond b (Some l.source) (found_or last o) ≡ found_or last (cond b (Some l) o)
if_found true l o last = refl
if_found false l o last = refl

pub last_came : (last : Option (Option Source)) (ls : List Landing) (p : Place) → last_to last (came_by ls) p ≡ found_or last (found ls p)
last_came last [] p = refl
last_came last (l ∷ rest) p =
    last_append last (came_by rest) (comes l.place l.source ∷ []) p
    ∙ (ap (λ o. cond (same_place p l.place) (Some l.source) o) (last_came last rest p)
    ∙ if_found (same_place p l.place) l (found rest p) last)

-- ---- arrivals of landings

pub came_append : (xs ys : List Landing) → came_by (xs ++ ys) ≡ came_by ys ++ came_by xs
came_append [] ys = sym (append-nil (came_by ys))
came_append (l ∷ xs) ys = ap (λ zs. zs ++ comes l.place l.source ∷ []) (came_append xs ys) ∙ append_assoc (came_by ys) (came_by xs) (comes l.place l.source ∷ [])

-- ---- changes

no_landing : (f : Flat) (source : Option Source) (ch : Change) → lands_none ch ≡ true → change_puts f source ch ≡ []
no_landing f source (PutWord u i w) e = absurd (false≢true e)
no_landing f source (Bind d name cap) e = absurd (false≢true e)
no_landing f source (Register o d name kind) e = absurd (false≢true e)
no_landing f source (Post b w) e = absurd (false≢true e)
no_landing f source (MakeObject u o len) e = absurd (false≢true e)
no_landing f source (MakeDirectory u r guard) e = absurd (false≢true e)
no_landing f source (MakeCode u row) e = absurd (false≢true e)
no_landing f source _ e = refl

none_put : (f : Flat) (source : Option Source) (cs : List Change) → none_land cs ≡ true → changes_put f source cs ≡ []
none_put f source [] e = refl
none_put f source (ch ∷ rest) e =
    let both = and_parts (lands_none ch) (none_land rest) e in
    ap (λ ls. ls ++ change_puts f source ch) (none_put (changed f ch) source rest both.1) ∙ no_landing f source ch both.0

none_come : (f : Flat) (source : Option Source) (cs : List Change) → none_land cs ≡ true → came_in f source cs ≡ []
none_come f source [] e = refl
none_come f source (ch ∷ rest) e =
    let both = and_parts (lands_none ch) (none_land rest) e in
    ap (λ ls. came_by ls ++ came_in f source rest) (no_landing f source ch both.0) ∙ none_come f source rest both.1

fresh_none : (cs : List Change) → only_fresh cs ≡ true → none_land cs ≡ true
fresh_none [] e = refl
fresh_none (Fresh ∷ rest) e = fresh_none rest e
fresh_none (_ ∷ rest) e = absurd (false≢true e)

-- what is told after something was made lands in any state
told_come : (f g : Flat) (source : Option Source) (cs : List Change) → tells cs ≡ true → came_in f source cs ≡ came_by (changes_put g source cs)
told_come f g source [] e = absurd (false≢true e)
told_come f g source (Register o d name kind ∷ rest) e =
    let none = fresh_none rest e in
    ap (λ ls. came_by (change_puts f source (Register o d name kind)) ++ ls) (none_come f source rest none)
    ∙ sym (ap (λ ls. came_by (ls ++ change_puts g source (Register o d name kind))) (none_put (changed g (Register o d name kind)) source rest none))
told_come f g source (_ ∷ rest) e = absurd (false≢true e)

either : (a b : Bool) → (a || b) ≡ true → (a ≡ true) ⊎ (b ≡ true)
either true b e = inl refl
either false b e = inr e

-- what changes put is told in the state before all of them
pub changes_come : (f : Flat) (source : Option Source) (cs : List Change) → is_short cs ≡ true → came_in f source cs ≡ came_by (changes_put f source cs)
changes_come f source [] e = refl
changes_come f source (ch ∷ rest) e = elim (either (none_land (ch ∷ rest)) (only_fresh rest || (is_making ch && tells rest)) e) [
  | inl none ↦ none_come f source (ch ∷ rest) none ∙ sym (ap came_by (none_put f source (ch ∷ rest) none))
  | inr short ↦ elim (either (only_fresh rest) (is_making ch && tells rest) short) [
    | inl fresh ↦
        let none = fresh_none rest fresh in
        by_rest (none_come f source rest none ∙ sym (ap came_by (none_put (changed f ch) source rest none)))
    | inr makes ↦ by_rest (told_come f (changed f ch) source rest (and_parts (is_making ch) (tells rest) makes).1)
  ]
]
  where
    by_rest : came_in f source rest ≡ came_by (changes_put (changed f ch) source rest) → came_in f source (ch ∷ rest) ≡ came_by (changes_put f source (ch ∷ rest))
    by_rest is = ap (λ ls. came_by (change_puts f source ch) ++ ls) is ∙ sym (came_append (changes_put (changed f ch) source rest) (change_puts f source ch))

-- none but the first change moves words
first_moves : (ch : Change) (rest : List Change) (p : Place) → moved_by (drawn_by (ch ∷ rest)) p ≡ before_change ch p
first_moves (Draw b) rest p = refl
first_moves _ rest p = refl

pub drawn_moves : (f : Flat) (cs : List Change) → AreSafe f cs → (p : Place) → moved_by (drawn_by cs) p ≡ before cs p
drawn_moves f [] safe p = refl
drawn_moves f (ch ∷ rest) safe p = first_moves ch rest p ∙ ap (before_change ch) (sym (safe.1.0 p))

-- ---- the ends of bodies

counted_open : (x : User) (frames : List Frame) → x.frames ≡ frames → length (counted x frames).frames ≡ length x.frames
counted_open x [] is = refl
counted_open x (q ∷ outer) is = sym (ap length is)

put_open : (y : User) (frames : List Frame) (i : ℕ) (w : Word) → y.frames ≡ frames → length y.frames ≡ length (with_reg y frames i w).frames
put_open y [] i w is = refl
put_open y (q ∷ outer) i w is = ap length is

settled_open : (y : User) (e : Effect) → opened_by y e ≡ length (settled y e).frames
settled_open y Nothing = refl
settled_open y (Put i w) = put_open y y.frames i w refl
settled_open y (Push c) = refl
settled_open y (Enter label link) = omega arith

opened_as : (x y : User) (e : Effect) → length y.frames ≡ length x.frames → opened_by x e ≡ opened_by y e
opened_as x y (Enter label link) is = ap (λ n. n + 1) (sym is)
opened_as x y _ is = sym is

-- how many bodies are open once the effect is made
pub opens : (x : User) (e : Effect) → opened_by x e ≡ length (closing x e).frames
opens x e = opened_as x (counted x x.frames) e (counted_open x x.frames refl) ∙ settled_open (counted x x.frames) e

-- where a result goes, and how many bodies are left
record GoesOut (y : User) (n number : ℕ) (p : Place) : Type 0 where
  few : length y.frames ≤ n
  number-is : y.number ≡ number
  place : reg_place y y.frames 4 ≡ p

goes_out : (s : Script) (x : User) (frames : List Frame) (w : Word) → GoesOut (outward s x frames w) (length frames) x.number (outer_place s x frames)
goes_out s x [] w = record { few = omega arith; number-is = refl; place = refl }
goes_out s x (q ∷ outer) w = by_end (is_over s q) (goes_out s x outer w)
  where
    by_end : (t : Bool) → GoesOut (outward s x outer w) (length outer) x.number (outer_place s x outer)
        → GoesOut (cond t (outward s x outer w) (record x { frames = record q { regs = slice_set q.regs 4 w } ∷ outer })) (length (q ∷ outer)) x.number (cond t (outer_place s x outer) (FrameReg x.number (length outer) 4))
    by_end true rest = record { few = let few = rest.few in omega (arith, few); number-is = rest.number-is; place = rest.place }
    by_end false rest = record { few = omega arith; number-is = refl; place = refl }

from_source : (o : Option Landing) (p : Place) → if_there (found_or None o) (own p) (λ source. source) ≡ if_there o (own p) (λ l. l.source)
from_source None p = refl
from_source (Some l) p = refl

nothing_out : (y : User) (n : ℕ) (ls : List Arrival) → n ≤ length y.frames → came_out y n ls ≡ []
nothing_out y n ls few =
    let inner = FrameReg y.number (n - 1) 4 in
    ap (λ b. cond b (comes (reg_place y y.frames 4) (if_there (last_to None ls inner) (own inner) (λ source. source)) ∷ []) []) (le-ltb (length y.frames) n few)

goes : (y : User) (n number : ℕ) (p : Place) (ls : List Landing) → GoesOut y n number p → came_out y (suc n) (came_by ls) ≡ comes p (source_after ls (FrameReg number n 4)) ∷ []
goes y n number p ls out =
    let few = out.few in
    let inner = FrameReg y.number (suc n - 1) 4 in
    let one : suc n - 1 ≡ n = omega arith in
    let same : inner ≡ FrameReg number n 4 = ap (λ (k : ℕ). FrameReg k (suc n - 1) 4) out.number-is ∙ ap (λ (k : ℕ). FrameReg number k 4) one in
    ap (λ b. cond b (comes (reg_place y y.frames 4) (if_there (last_to None (came_by ls) inner) (own inner) (λ source. source)) ∷ []) []) (lt-ltb (length y.frames) (suc n) (omega (arith, few)))
    ∙ (ap (λ q. comes q (if_there (last_to None (came_by ls) inner) (own inner) (λ source. source)) ∷ []) out.place
    ∙ ap (λ source. comes p source ∷ []) (ap (λ o. if_there o (own inner) (λ source. source)) (last_came None ls inner) ∙ (from_source (found ls inner) inner ∙ ap (source_after ls) same)))

-- what the ends of bodies put is told by the user's part after them
pub ends_come : (s : Script) (z : User) (frames : List Frame) (ls : List Landing) → z.frames ≡ frames
    → came_out (ended s z frames) (length frames) (came_by ls) ≡ came_by (end_puts s z frames ls)
ends_come s z [] ls is = nothing_out z 0 (came_by ls) (omega arith)
ends_come s z (q ∷ outer) ls is = by_end (is_over s q)
  where
    out : GoesOut (outward s z outer (word_at q.regs 4)) (length outer) z.number (outer_place s z outer)
    out = goes_out s z outer (word_at q.regs 4)

    by_end : (t : Bool) → came_out (cond t (outward s z outer (word_at q.regs 4)) z) (length (q ∷ outer)) (came_by ls)
        ≡ came_by (cond t (lands (outer_place s z outer) (word_at q.regs 4) (source_after ls (FrameReg z.number (length outer) 4)) ∷ []) [])
    by_end true = goes (outward s z outer (word_at q.regs 4)) (length outer) z.number (outer_place s z outer) ls out
    by_end false = nothing_out z (length (q ∷ outer)) (came_by ls) (let n = ap length is in omega (arith, n))

-- ---- one request

with_source : (o : Option Landing) (x : Origin) (f : Option Source → Origin) → if_there (found_or None o) x f ≡ if_there o x (λ l. f l.source)
with_source None x f = refl
with_source (Some l) x f = refl

-- requests with one more
pub told_more : (rs : List Arrivals) (past : List Transition) (a : Arrivals) (e : Transition) → a.list.items ≡ came_by e.landings → ((p : Place) → moved_by a.drawn p ≡ e.moved p)
    → a.next ≡ e.flat.next → length rs ≡ length past → ((p : Place) (c : Capability) → told rs p c ≡ origin_of past p c)
    → (p : Place) (c : Capability) → told (a ∷ rs) p c ≡ origin_of (e ∷ past) p c
told_more rs past a e list moves next count same p c =
    ap (λ items. if_there (last_to None items p) (told rs (moved_by a.drawn p) c) (λ source. origin_by (length rs) a.next c source)) list
    ∙ (ap (λ o. if_there o (told rs (moved_by a.drawn p) c) (λ source. origin_by (length rs) a.next c source)) (last_came None e.landings p)
    ∙ (with_source (found e.landings p) (told rs (moved_by a.drawn p) c) (λ source. origin_by (length rs) a.next c source)
    ∙ (ap (λ o. if_there (found e.landings p) o (λ l. origin_by (length rs) a.next c l.source)) (ap (λ q. told rs q c) (moves p) ∙ same (e.moved p) c)
    ∙ (ap (λ n. if_there (found e.landings p) (origin_of past (e.moved p) c) (λ l. origin_by n a.next c l.source)) count
    ∙ ap (λ n. if_there (found e.landings p) (origin_of past (e.moved p) c) (λ l. origin_by (length past) n c l.source)) next))))
