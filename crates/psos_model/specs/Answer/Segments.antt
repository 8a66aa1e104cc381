-- Outcomes of registers, segments and windows. States docs/requests.md, "Answers".
use Rattle.std.specs.Prelude.{ℕ, ◌+◌, ◌^◌, [], ◌∷◌, None, nat_lt}
use Rattle.psos_limits.specs.declared.TheConstants.{MOST_WINDOWS}
use Rattle.psos_table.specs.Table.{size}
use Rattle.psos_caps.specs.Capability.{full, restricted}
use Rattle.psos_words.specs.declared.word.Word.TheVariants as words
use Rattle.psos_words.specs.Words.{word_at}
use Rattle.psos_words.specs.Guard.{barred}
use Rattle.psos_calls.specs.declared.right.Right.TheVariants as rights
use Rattle.psos_calls.specs.declared.tab.Tab.TheVariants.{Windows}
use Rattle.psos_calls.specs.declared.refusal.Refusal.TheVariants.{NotCap, NotData, Range, Guarded, Exhausted, Overflow}
use Rattle.psos_calls.specs.Language.Tests.{if_none, if_cap, if_data, if_holds}
use Rattle.psos_calls.specs.Language.Views.{fits_in, part_of}
use Rattle.psos_calls.specs.Language.User.{User, here}
use Rattle.psos_calls.specs.Language.Capabilities.{uid}
use Rattle.psos_model.specs.declared.place.Place.TheVariants.{SegWord}
use Rattle.psos_model.specs.Flat.{Flat, words_of}
use Rattle.psos_model.specs.Flat.Places.{reg_place}
use Rattle.psos_model.specs.declared.change.Change.TheVariants.{Fresh, PutWord, MakeWindow}
use Rattle.psos_model.specs.Answer.Outcomes.{Outcome, refuse, gives, does, by, own, if_view}

abbrev pub answer_mint : Flat → ℕ → Outcome
answer_mint f rd = gives (Fresh ∷ []) rd (words.Cap (full f.next)) None

abbrev pub answer_restrict : User → ℕ → ℕ → ℕ → Outcome
answer_restrict x rd rs keep =
    if_cap (word_at (here x) rs) (refuse NotCap) (λ cap.
    gives [] rd (words.Cap (restricted cap keep)) (own (reg_place x x.frames rs)))

abbrev pub answer_set : ℕ → ℕ → Outcome
answer_set rd n = gives [] rd (words.Data n) None

abbrev pub answer_move : User → ℕ → ℕ → Outcome
answer_move x rd rs = gives [] rd (word_at (here x) rs) (own (reg_place x x.frames rs))

abbrev pub answer_add : User → ℕ → ℕ → ℕ → Outcome
answer_add x rd ra rb =
    if_data (word_at (here x) ra) (refuse NotData) (λ a.
    if_data (word_at (here x) rb) (refuse NotData) (λ b.
    if_holds (nat_lt (a + b) (2 ^ 64)) (refuse Overflow) (
    gives [] rd (words.Data (a + b)) None)))

abbrev pub answer_read : Flat → User → ℕ → ℕ → ℕ → Outcome
answer_read f x rd rs n =
    if_cap (word_at (here x) rs) (refuse NotCap) (λ cap.
    if_view f cap rights.Read (λ v.
    if_holds (nat_lt n v.len) (refuse Range) (
    gives [] rd (word_at (words_of f v.seg) (v.base + n)) (by (SegWord (uid v.seg) (v.base + n)) rights.Read))))

abbrev pub answer_write : Flat → User → ℕ → ℕ → ℕ → Outcome
answer_write f x rs n rv =
    if_cap (word_at (here x) rs) (refuse NotCap) (λ cap.
    if_view f cap rights.Write (λ v.
    if_holds (nat_lt n v.len) (refuse Range) (
    if_none (barred v.guard.0 (word_at (here x) rv)) (λ b. refuse (Guarded b)) (
    does (PutWord v.seg (v.base + n) (word_at (here x) rv) ∷ []) (own (reg_place x x.frames rv))))))

abbrev pub answer_window : Flat → User → ℕ → ℕ → ℕ → ℕ → Outcome
answer_window f x rd rs base len =
    if_cap (word_at (here x) rs) (refuse NotCap) (λ cap.
    if_view f cap rights.Window (λ v.
    if_holds (fits_in v base len) (refuse Range) (
    if_holds (nat_lt (size f.windows) MOST_WINDOWS) (refuse (Exhausted Windows)) (
    gives (MakeWindow f.next (part_of v base len) ∷ Fresh ∷ []) rd (words.Cap (record { uid = f.next; rights = cap.rights })) None))))

abbrev pub answer_length : Flat → User → ℕ → ℕ → Outcome
answer_length f x rd rs =
    if_cap (word_at (here x) rs) (refuse NotCap) (λ cap.
    if_view f cap rights.Read (λ v.
    gives [] rd (words.Data v.len) None))
