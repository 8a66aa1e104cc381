-- The plans of registers, segments and windows, run from levels that stand for a sound flat state, are the outcomes of their requests.
use Rattle.std.proofs.Common.{◌≡◌, ℕ, ◌+◌, ◌^◌, ◌<◌, Some, None, [], ◌∷◌, length, refl, ap, ◌∙◌, arith}
use Rattle.std.specs.Prelude.{nat_lt}
use Rattle.std.proofs.lemmas.Bool.{ltb-true}
use Rattle.psos_limits.specs.declared.TheConstants.{MOST_WORDS, MOST_WINDOWS}
use Rattle.psos_table.specs.Table.{Table, put, size}
use Rattle.psos_caps.specs.Capability.{full}
use Rattle.psos_caps.specs.declared.rights.Rights.{Rights}
use Rattle.psos_words.specs.declared.word.Word.TheVariants.{Data, Cap}
use Rattle.psos_words.specs.Words.{word_at}
use Rattle.psos_words.specs.Guard.{barred}
use Rattle.psos_calls.specs.declared.win_row.WinRow.{WinRow}
use Rattle.psos_calls.specs.declared.right.Right.TheVariants as rights
use Rattle.psos_calls.specs.declared.request.Request.TheVariants as asks
use Rattle.psos_calls.specs.Levels.Answers.{LevelAnswer}
use Rattle.psos_calls.specs.declared.level_answer.LevelAnswer.TheVariants.{Done}
use Rattle.psos_calls.specs.declared.level_call.LevelCall.TheVariants.{WordGet, WordPut, WinMake}
use Rattle.psos_calls.specs.Language.Rights.{has}
use Rattle.psos_calls.specs.Language.User.{here}
use Rattle.psos_calls.specs.Levels.Level8.{view, win_room, slot_of}
use Rattle.psos_calls.specs.Language.Views.{fits_in, part_of}
use Rattle.psos_calls.specs.Plan.{Plan, Ask, give, if_at, if_got, if_done, if_len}
use Rattle.psos_calls.specs.Language.Capabilities.{uid}
use Rattle.psos_calls.specs.Plan.Parts.{with_fresh, fine}
use Rattle.psos_model.specs.Flat.{Flat}
use Rattle.psos_model.specs.Flat.Changes.{changed_all}
use Rattle.psos_model.specs.declared.change.Change.TheVariants.{Fresh, MakeWindow, PutWord}
use Rattle.psos_model.specs.Replay.{System}
use Rattle.psos_model.specs.Replay.StandsFor.{StandsFor}
use Rattle.psos_agree.specs.Agreement.{Agrees}
use Rattle.psos_agree.proofs.TablesStand.{tables_stand}
use Rattle.psos_agree.proofs.PlanWalk.{runs_cap, runs_data, runs_holds, answers_there, answers_holds, answers_none, word_given, changes_made}
use Rattle.psos_agree.proofs.Views.{reg_seen, same_view, view_within}
use Rattle.psos_agree.proofs.SegmentWords.{page_of_word, place_of_word, word_there, can_reach, stands_put}
use Rattle.psos_agree.proofs.FreshIdentifiers.{next_new}

-- ---- no level is asked

pub restrict_agrees : (rd rs : ℕ) (keep : Rights) → Agrees (asks.Restrict rd rs keep)
restrict_agrees rd rs keep s y f u x r =
    runs_cap x r.stands (word_at (here x) rs) _ _ _ (λ c is. word_given [] rd _ _ _ refl r.in_range.0 r.stands)

pub set_agrees : (rd n : ℕ) → Agrees (asks.Set rd n)
set_agrees rd n s y f u x r = word_given [] rd _ _ _ refl r.in_range.0 r.stands

pub move_agrees : (rd rs : ℕ) → Agrees (asks.Move rd rs)
move_agrees rd rs s y f u x r = word_given [] rd _ _ _ refl r.in_range.0 r.stands

pub add_agrees : (rd ra rb : ℕ) → Agrees (asks.Add rd ra rb)
add_agrees rd ra rb s y f u x r =
    runs_data x r.stands (word_at (here x) ra) _ _ _ (λ a is_a.
    runs_data x r.stands (word_at (here x) rb) _ _ _ (λ b is_b.
    runs_holds x r.stands (nat_lt (a + b) (2 ^ 64)) _ _ _ (λ small.
    word_given [] rd _ _ _ refl r.in_range.0 r.stands)))

-- ---- level 0

-- a new identifier of level 0 and of the flat state
pub stands_fresh : {y : System} {f : Flat} → StandsFor y f → StandsFor (record y { levels = record y.levels { next = y.levels.next + 1 } }) (record f { next = f.next + 1 })
stands_fresh h =
    tables_stand h (ap (λ n. n + 1) h.next) h.codes h.boxes h.life h.types h.windows h.users h.objects

pub mint_agrees : (rd : ℕ) → Agrees (asks.Mint rd)
mint_agrees rd s y f u x r =
    (omega (arith, r.stands.next, r.room), word_given (Fresh ∷ []) rd _ _ _ (ap (λ n. Cap (full n)) r.stands.next) r.in_range (stands_fresh r.stands))

-- ---- levels 8 and 7

pub read_agrees : (rd rs n : ℕ) → Agrees (asks.Read rd rs n)
read_agrees rd rs n s y f u x r =
    let h = r.stands in
    let go : ℕ → ℕ → Plan = λ page off. Ask (WordGet page off) (λ b. if_got b (λ w. give rd w)) in
    let k : LevelAnswer → Plan = λ a. if_at a go in
    runs_cap x h (word_at (here x) rs) _ _ _ (λ c is_cap. (
      tt,
      answers_there x h k (λ _. refl) _ _ (same_view h s r.sound c.uid (reg_seen s f u x rs c r.sound r.here is_cap)) _ _ _ (λ v is_view.
          answers_holds x h k (λ _. refl) (has c rights.Read) _ refl _ _ _ (λ may.
          answers_holds x h k (λ _. refl) (nat_lt n v.len) _ refl _ _ _ (λ inside.
          let good = view_within r.sound c.uid v is_view in
          let below : v.base + n < length good.segment.words = omega (arith, ltb-true n v.len inside, good.fits) in (
            can_reach h v.seg good.segment good.live (v.base + n) below good.few,
            word_given [] rd _ _ _ (word_there h v.seg good.segment good.live (v.base + n) below good.few) r.in_range.0 h,
          )))),
    ))

pub write_agrees : (rs n rv : ℕ) → Agrees (asks.Write rs n rv)
write_agrees rs n rv s y f u x r =
    let h = r.stands in
    let w = word_at (here x) rv in
    let go : ℕ → ℕ → Plan = λ page off. Ask (WordPut page off w) (λ b. if_done b fine) in
    let k : LevelAnswer → Plan = λ a. if_at a go in
    runs_cap x h (word_at (here x) rs) _ _ _ (λ c is_cap. (
      tt,
      answers_there x h k (λ _. refl) _ _ (same_view h s r.sound c.uid (reg_seen s f u x rs c r.sound r.here is_cap)) _ _ _ (λ v is_view.
          answers_holds x h k (λ _. refl) (has c rights.Write) _ refl _ _ _ (λ may.
          answers_holds x h k (λ _. refl) (nat_lt n v.len) _ refl _ _ _ (λ inside.
          answers_none x h k (λ _. refl) (barred v.guard.0 w) _ _ _ (λ free.
          let good = view_within r.sound c.uid v is_view in
          let i = v.base + n in
          let below : i < length good.segment.words = omega (arith, ltb-true n v.len inside, good.fits) in
          let few : i < MOST_WORDS = omega (arith, good.few) in
          let slot = slot_of y.levels.segs v.seg in (
            can_reach h v.seg good.segment good.live i below good.few,
            changes_made (PutWord v.seg i w ∷ []) _ (rw (page_of_word slot i few, place_of_word slot i few) (stands_put h r.sound v.seg good.segment good.live i below good.few w)),
          ))))),
    ))

pub length_agrees : (rd rs : ℕ) → Agrees (asks.Length rd rs)
length_agrees rd rs s y f u x r =
    let h = r.stands in
    let k : LevelAnswer → Plan = λ a. if_len a (λ n. give rd (Data n)) in
    runs_cap x h (word_at (here x) rs) _ _ _ (λ c is_cap. (
      tt,
      answers_there x h k (λ _. refl) _ _ (same_view h s r.sound c.uid (reg_seen s f u x rs c r.sound r.here is_cap)) _ _ _ (λ v is_view.
          answers_holds x h k (λ _. refl) (has c rights.Read) _ refl _ _ _ (λ may.
          word_given [] rd _ _ _ refl r.in_range.0 h)),
    ))

-- a window of level 8 and of the flat state, on a new identifier
stands_window : {y : System} {f : Flat} → StandsFor y f → (row : WinRow)
    → StandsFor (record y { levels = record y.levels { next = y.levels.next + 1; segs = record y.levels.segs { windows = put y.levels.segs.windows y.levels.next row } } }) (changed_all f (MakeWindow f.next row ∷ Fresh ∷ []))
stands_window h row =
    tables_stand h (ap (λ n. n + 1) h.next) h.codes h.boxes h.life h.types (λ i. put (h.windows i) (h.next i) row) h.users h.objects

pub window_agrees : (rd rs base span : ℕ) → Agrees (asks.Window rd rs base span)
window_agrees rd rs base span s y f u x r =
    let h = r.stands in
    runs_cap x h (word_at (here x) rs) _ _ _ (λ c is_cap.
    let go : Plan = with_fresh (λ new. Ask (WinMake (uid new.uid) c base span) (λ b. if_done b (give rd (Cap (record { uid = new.uid; rights = c.rights }))))) in
    let k : LevelAnswer → Plan = λ a. if_done a go in
    let same = same_view h s r.sound c.uid (reg_seen s f u x rs c r.sound r.here is_cap) in (
      tt,
      answers_there x h k (λ _. refl) _ _ same _ _ _ (λ v is_view.
          answers_holds x h k (λ _. refl) (has c rights.Window) _ refl _ _ _ (λ may.
          answers_holds x h k (λ _. refl) (fits_in v base span) _ refl _ _ _ (λ inside.
          answers_holds x h k (λ _. refl) (nat_lt (size y.levels.segs.windows) MOST_WINDOWS) _ (ap (λ (m : Table WinRow). nat_lt (size m) MOST_WINDOWS) h.windows) _ _ _ (λ roomy.
          let seen : view y.levels.segs c.uid ≡ Some v = same ∙ is_view in
          let may_make : win_room y.levels.segs c base span ≡ Done = rw (seen, may, inside, h.windows, roomy) refl in (
            omega (arith, h.next, r.room),
            (
              (next_new h r.sound, may_make),
              rw seen (word_given (MakeWindow f.next (part_of v base span) ∷ Fresh ∷ []) rd _ _ None (ap (λ n. Cap (record { uid = n; rights = c.rights })) h.next) r.in_range.0 (stands_window h (part_of v base span))),
            ),
          ))))),
    ))
