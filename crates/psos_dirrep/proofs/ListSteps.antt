-- What one slot adds to a test of all slots from it on.
use Rattle.std.proofs.Common.{◌≡◌, ℕ, ◌+◌, ◌*◌, ◌<◌, ◌≤◌, Bool, true, false, not, ◌&&◌, ◌||◌, List, [], length, drop, Some, None, sym, ap, ◌∙◌}
use Rattle.std.specs.Prelude.{is_some}
use Rattle.std.specs.List.{list_any}
use Rattle.psos_words.specs.declared.word.Word.{Word}
use Rattle.psos_words.specs.Directory.{Slot, name_from, slot_of, slots_of, has_name, are_apart}
use Rattle.psos_dirrep.specs.Lists.{order_from, used_halves, is_named, FromSlot}
use Rattle.psos_dirrep.specs.Pages.{words_of, slots_in}
use Rattle.psos_dirrep.specs.Scan.{is_never}
use Rattle.psos_dirrep.proofs.SlotSteps.{Later, At, at-end, at-slot, four-of, slots-some, slots-none, nothing-in, order-never, order-ended, order-going, apart-used, apart-none, any-step}

-- the slots from slot g on
abbrev pub SlotsFrom : List (List Word) → ℕ → List Slot
SlotsFrom pages g = slots_in (drop (4 * g) (words_of pages))

-- all words from slot g on are slots
abbrev pub SlotsAre : List (List Word) → ℕ → Type 0
SlotsAre pages g = slots_of (drop (4 * g) (words_of pages)) ≡ Some (SlotsFrom pages g)

pub none-from : (pages : List (List Word)) (g : ℕ) → FromSlot pages g → 16 * length pages ≤ g → SlotsFrom pages g ≡ []
none-from pages g from end = ap slots_in (at-end pages g from end) ∙ nothing-in

pub all-slots-end : (pages : List (List Word)) (g : ℕ) → FromSlot pages g → 16 * length pages ≤ g → is_some (slots_of (drop (4 * g) (words_of pages))) ≡ true
all-slots-end pages g from end = ap (λ (l : List Word). is_some (slots_of l)) (at-end pages g from end) ∙ slots-none

pub all-slots : (pages : List (List Word)) (g : ℕ) (a b c d : Word) (here later : Bool) → FromSlot pages g → g < 16 * length pages
    → a ≡ At pages (4 * g) → b ≡ At pages (4 * g + 1) → c ≡ At pages (4 * g + 2) → d ≡ At pages (4 * g + 3)
    → here ≡ is_some (slot_of a b c d) → later ≡ is_some (slots_of (Later pages g)) → (here && later) ≡ is_some (slots_of (drop (4 * g) (words_of pages)))
all-slots pages g a b c d here later from within ea eb ec ed eh el =
    ap (λ (x : Bool). x && later) eh ∙ ap (λ (x : Bool). is_some (slot_of a b c d) && x) el
    ∙ ap (λ (w : Word). is_some (slot_of w b c d) && is_some (slots_of (Later pages g))) ea
    ∙ ap (λ (w : Word). is_some (slot_of (At pages (4 * g)) w c d) && is_some (slots_of (Later pages g))) eb
    ∙ ap (λ (w : Word). is_some (slot_of (At pages (4 * g)) (At pages (4 * g + 1)) w d) && is_some (slots_of (Later pages g))) ec
    ∙ ap (λ (w : Word). is_some (slot_of (At pages (4 * g)) (At pages (4 * g + 1)) (At pages (4 * g + 2)) w) && is_some (slots_of (Later pages g))) ed
    ∙ sym (slots-some (At pages (4 * g)) (At pages (4 * g + 1)) (At pages (4 * g + 2)) (At pages (4 * g + 3)) (Later pages g))
    ∙ ap (λ (l : List Word). is_some (slots_of l)) (sym (four-of pages g from within))

pub order-step_never : (pages : List (List Word)) (g : ℕ) (ended : Bool) → FromSlot pages g → g < 16 * length pages → SlotsAre pages g → is_never (At pages (4 * g)) ≡ true → order_from true (SlotsFrom pages (g + 1)) ≡ order_from ended (SlotsFrom pages g)
order-step_never pages g ended from within slots is =
    let s = at-slot pages g from within slots in
    sym (ap (order_from ended) s.is ∙ order-never (At pages (4 * g)) (At pages (4 * g + 1)) (At pages (4 * g + 2)) (At pages (4 * g + 3)) s.slot (SlotsFrom pages (g + 1)) ended s.here is)

pub order-step_ended : (pages : List (List Word)) (g : ℕ) → FromSlot pages g → g < 16 * length pages → SlotsAre pages g → is_never (At pages (4 * g)) ≡ false → order_from true (SlotsFrom pages g) ≡ false
order-step_ended pages g from within slots is =
    let s = at-slot pages g from within slots in
    ap (order_from true) s.is ∙ order-ended (At pages (4 * g)) (At pages (4 * g + 1)) (At pages (4 * g + 2)) (At pages (4 * g + 3)) s.slot (SlotsFrom pages (g + 1)) s.here is

pub order-step_going : (pages : List (List Word)) (g : ℕ) → FromSlot pages g → g < 16 * length pages → SlotsAre pages g → is_never (At pages (4 * g)) ≡ false → order_from false (SlotsFrom pages (g + 1)) ≡ order_from false (SlotsFrom pages g)
order-step_going pages g from within slots is =
    let s = at-slot pages g from within slots in
    sym (ap (order_from false) s.is ∙ order-going (At pages (4 * g)) (At pages (4 * g + 1)) (At pages (4 * g + 2)) (At pages (4 * g + 3)) s.slot (SlotsFrom pages (g + 1)) s.here is)

-- the halves of the three words that were read
pub halves-read : (pages : List (List Word)) (g : ℕ) (a b c : Word) → a ≡ At pages (4 * g) → b ≡ At pages (4 * g + 1) → c ≡ At pages (4 * g + 2) → used_halves a b c ≡ used_halves (At pages (4 * g)) (At pages (4 * g + 1)) (At pages (4 * g + 2))
halves-read pages g a b c ea eb ec =
    ap (λ (w : Word). used_halves w b c) ea ∙ ap (λ (w : Word). used_halves (At pages (4 * g)) w c) eb ∙ ap (λ (w : Word). used_halves (At pages (4 * g)) (At pages (4 * g + 1)) w) ec

pub apart-step_used : (pages : List (List Word)) (g : ℕ) (p : ℕ × ℕ) → FromSlot pages g → g < 16 * length pages → SlotsAre pages g → used_halves (At pages (4 * g)) (At pages (4 * g + 1)) (At pages (4 * g + 2)) ≡ Some p
    → are_apart (SlotsFrom pages g) ≡ (not (list_any (has_name (name_from p.0 p.1)) (SlotsFrom pages (g + 1))) && are_apart (SlotsFrom pages (g + 1)))
apart-step_used pages g p from within slots is =
    let s = at-slot pages g from within slots in
    ap are_apart s.is ∙ apart-used (At pages (4 * g)) (At pages (4 * g + 1)) (At pages (4 * g + 2)) (At pages (4 * g + 3)) s.slot (SlotsFrom pages (g + 1)) p s.here is

pub apart-step_none : (pages : List (List Word)) (g : ℕ) → FromSlot pages g → g < 16 * length pages → SlotsAre pages g → used_halves (At pages (4 * g)) (At pages (4 * g + 1)) (At pages (4 * g + 2)) ≡ None
    → are_apart (SlotsFrom pages g) ≡ are_apart (SlotsFrom pages (g + 1))
apart-step_none pages g from within slots is =
    let s = at-slot pages g from within slots in
    ap are_apart s.is ∙ apart-none (At pages (4 * g)) (At pages (4 * g + 1)) (At pages (4 * g + 2)) (At pages (4 * g + 3)) s.slot (SlotsFrom pages (g + 1)) s.here is

pub any-from : (pages : List (List Word)) (g high low : ℕ) → FromSlot pages g → g < 16 * length pages → SlotsAre pages g
    → list_any (has_name (name_from high low)) (SlotsFrom pages g) ≡ (is_named (used_halves (At pages (4 * g)) (At pages (4 * g + 1)) (At pages (4 * g + 2))) high low || list_any (has_name (name_from high low)) (SlotsFrom pages (g + 1)))
any-from pages g high low from within slots =
    let s = at-slot pages g from within slots in
    ap (list_any (has_name (name_from high low))) s.is ∙ any-step (At pages (4 * g)) (At pages (4 * g + 1)) (At pages (4 * g + 2)) (At pages (4 * g + 3)) s.slot (SlotsFrom pages (g + 1)) high low s.here

-- the slots behind slot g
pub slots-after : (pages : List (List Word)) (g : ℕ) → FromSlot pages g → g < 16 * length pages → SlotsAre pages g → SlotsAre pages (g + 1)
slots-after pages g from within slots = (at-slot pages g from within slots).after
