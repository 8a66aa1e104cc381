-- The pages of a directory in a trace: one more is to be read, or they are the whole.
use Rattle.std.proofs.Common.{◌≡◌, ℕ, zero, suc, ◌+◌, ◌*◌, ◌-◌, ◌<◌, ◌≤◌, Bool, true, false, cond, ◌&&◌, not, List, [], ◌∷◌, ◌++◌, length, take, drop, append-nil, append_assoc, Option, Some, None, refl, sym, ap, subst, ◌∙◌, arith}
use Rattle.std.specs.Prelude.{nat_lt, slice_get, get_or}
use Rattle.std.specs.List.{AllByRecursion}
use Rattle.std.proofs.lemmas.Bool.{true≢false}
use Rattle.std.proofs.lemmas.Bool.Decides.{nat_tests}
use Rattle.std.proofs.lemmas.Option.{same_Some, none-some, slice_get-get_or}
use Rattle.psos_words.specs.declared.word.Word.{Word}
use Rattle.psos_words.specs.Directory.{Slot, decode, has_never}
use Rattle.psos_dirrep.specs.Pages.{words_of, ArePages, AreSlots}
use Rattle.psos_calls.specs.declared.step.Step.{Step}
use Rattle.psos_calls.specs.declared.level.Level.TheVariants.{L7}
use Rattle.psos_calls.specs.declared.next.Next.TheVariants.{Call}
use Rattle.psos_calls.specs.Levels.Calls.{LevelCall}
use Rattle.psos_calls.specs.declared.level_call.LevelCall.TheVariants.{PageGet}
use Rattle.psos_calls.specs.Levels.Answers.{LevelAnswer}
use Rattle.psos_calls.specs.declared.level_answer.LevelAnswer.TheVariants.{Whole}
use Rattle.psos_calls.specs.declared.refusal.Refusal.TheVariants.{Range}
use Rattle.psos_calls.specs.Language.Tests.{if_there}
use Rattle.psos_calls.specs.Levels.Level7.{page_words, slot_words, reads_page}
use Rattle.psos_calls.specs.Levels.{Levels}
use Rattle.psos_calls.specs.Plan.{Plan, Ask, Close, refuse, if_page}
use Rattle.psos_calls.specs.Plan.Parts.{Opened, opened, read_pages}
use Rattle.psos_calls.specs.Plan.Steps.{is_nothing}
use Rattle.psos_calls.specs.Plan.Trace.{followed, next_of, IsTraceOf}
use Rattle.psos_calls.specs.Plan.Asked.{pages_first}
use Rattle.psos_plan_dir.specs.Pages.{page_in, pages_in, last_page, is_more, IsWhole}
use Rattle.psos_plan_dir.specs.Reads.{Reader, IsNoPage, GoesOn}
use Rattle.psos_plan_dir.proofs.Representations.{HoldsList, Before, page-long, front-is, front-never, front-decodes, all-pages, list-never, page-slots}
use Rattle.psos_plan_dir.proofs.PlanSteps.{goes-then, ask-on}

-- ---- calls that read pages

-- each of these calls reads a page
abbrev pub AllRead : List Step → Type 0
AllRead pages = AllByRecursion (λ (s : Step). reads_page s.call ≡ true) pages

-- the first of these does not
abbrev pub NoneFirst : List Step → Type 0
NoneFirst [] = Unit {0}
NoneFirst (s ∷ rest) = reads_page s.call ≡ false

not_page : (call : LevelCall) (go : LevelAnswer → Plan) → IsNoPage (Ask call go) → reads_page call ≡ true → ⊥
not_page (PageGet page) go h e = h
not_page _ go h e = true≢false (sym e)

-- a plan that begins with no call for a page is followed by none
no_page : (plan : Plan) (l : Levels) (s : Step) (rest : List Step) → IsNoPage plan → IsTraceOf plan l (s ∷ rest) → reads_page s.call ≡ true → ⊥
no_page (Close reply effect) l s rest h trace e = trace
no_page (Ask call go) l s rest h trace e = not_page call go h (sym (ap (λ (t : Step). reads_page t.call) trace.0) ∙ e)

-- ---- the test for one more

and_last : (a b : Bool) → (a && b && false) ≡ false
and_last true true = refl
and_last true false = refl
and_last false b = refl

and_mid : (a c : Bool) → (a && false && c) ≡ false
and_mid true c = refl
and_mid false c = refl

none_left : (rest : List Step) (other : List Word) → is_more 0 other [] rest ≡ false
none_left rest other = and_mid (is_nothing rest) (not (has_never other))

seen_last : (n : ℕ) (other : List Word) (pages rest : List Step) → has_never (last_page other pages) ≡ true → is_more n other pages rest ≡ false
seen_last n other pages rest e = ap (λ (b : Bool). is_nothing rest && nat_lt (length pages) n && not b) e ∙ and_last (is_nothing rest) (nat_lt (length pages) n)

less_suc : (a b : ℕ) → nat_lt (suc a) (suc b) ≡ nat_lt a b
less_suc a b = grind (arith, nat_tests)

some_left : (n : ℕ) → (true && nat_lt 0 (suc n) && true) ≡ true
some_left n = grind (arith, nat_tests)

more_step : (n : ℕ) (other : List Word) (p : Step) (pages rest : List Step) → is_more (suc n) other (p ∷ pages) rest ≡ is_more n (page_in p.answer) pages rest
more_step n other p pages rest = ap (λ (b : Bool). is_nothing rest && b && not (has_never (last_page (page_in p.answer) pages))) (less_suc (length pages) n)

-- ---- the walk

abbrev Pages : ℕ → ℕ → ℕ → List Word → Reader
Pages n slot k words = λ go. read_pages n slot k words go

-- the pages that were read, with the words before them, are the whole
pub record Over (n slot k : ℕ) (words : List Word) (pages rest : List Step) (slots : List Slot) : Type 0 where
  pub few : length pages ≤ n
  pub whole : AllByRecursion (λ (s : Step). IsWhole s.answer) pages
  pub are : ArePages (pages_in pages)
  pub list : decode (words ++ words_of (pages_in pages)) ≡ Some slots
  pub never : has_never (words ++ words_of (pages_in pages)) ≡ true
  pub goes : GoesOn (Pages n slot k words) (λ go. go (record { slot = slot; slots = slots })) (pages ++ rest) rest

-- one more page is asked for
pub record More (n slot k : ℕ) (words : List Word) (pages : List Step) : Type 0 where
  pub few : length pages < n
  pub is : (go : Opened → Plan) → next_of (followed (read_pages n slot k words go) pages) ≡ Call L7 (PageGet (8 * slot + (k + length pages)))

pub data Walked (n slot k : ℕ) (words other : List Word) (pages rest : List Step) (slots : List Slot) : Type 0 where
  over : is_more n other pages rest ≡ false → Over n slot k words pages rest slots → Walked n slot k words other pages rest slots
  more : is_more n other pages rest ≡ true → rest ≡ [] → More n slot k words pages → Walked n slot k words other pages rest slots

-- words that are the entry list
opened-on : (slot : ℕ) (words : List Word) (slots : List Slot) (rest : List Step) → decode words ≡ Some slots → GoesOn (λ go. opened slot words go) (λ go. go (record { slot = slot; slots = slots })) rest rest
opened-on slot words slots rest e = record {
  is = λ go. ap (λ (o : Option (List Slot)). followed (if_there o (refuse Range) (λ (found : List Slot). go (record { slot = slot; slots = found }))) rest) e;
  front = λ l go h. subst (λ (o : Option (List Slot)). IsTraceOf (if_there o (refuse Range) (λ (found : List Slot). go (record { slot = slot; slots = found }))) l rest) e h;
}

-- one page
page-on : (n slot k : ℕ) (words page : List Word) (s : Step) (rest : List Step) (never : Bool) → s.answer ≡ Whole page → has_never page ≡ never
    → GoesOn (Pages (suc n) slot k words) (λ go. cond never (opened slot (words ++ page) go) (read_pages n slot (k + 1) (words ++ page) go)) (s ∷ rest) rest
page-on n slot k words page s rest never e seen =
    ask-on (PageGet (8 * slot + k)) (λ go a. if_page a (λ p. cond (has_never p) (opened slot (words ++ p) go) (read_pages n slot (k + 1) (words ++ p) go)))
    (λ go. cond never (opened slot (words ++ page) go) (read_pages n slot (k + 1) (words ++ page) go)) s rest (Whole page)
    (λ l. refl) (λ go. ap (λ (b : Bool). cond b (opened slot (words ++ page) go) (read_pages n slot (k + 1) (words ++ page) go)) seen) e

module _ (l : Levels) (slot : ℕ) (h : HoldsList l.pages slot) (go : Opened → Plan) (apart : (d : Opened) → IsNoPage (go d)) where
  -- no page is read past the whole
  after_whole : (words : List Word) → decode words ≡ Some h.entry_slots → (s : Step) (rest : List Step) → IsTraceOf (opened slot words go) l (s ∷ rest) → reads_page s.call ≡ true → ⊥
  after_whole words e s rest trace reads =
      let d : Opened = record { slot = slot; slots = h.entry_slots } in
      no_page (go d) l s rest (apart d) ((opened-on slot words h.entry_slots (s ∷ rest) e).front l go trace) reads

  last_over : (k : ℕ) (words other : List Word) (rest : List Step) → 8 ≡ k → words ≡ Before l.pages slot k → Over 0 slot k words [] rest h.entry_slots
  last_over k words other rest all e =
      let is = all-pages l.pages slot h k all words e in
      let whole : words ++ [] ≡ slot_words l.pages slot = append-nil words ∙ is in
      record {
        few = omega arith;
        whole = tt;
        are = tt;
        list = ap decode whole ∙ h.list;
        never = ap has_never whole ∙ list-never (slot_words l.pages slot) h.entry_slots h.long h.list;
        goes = opened-on slot words h.entry_slots rest (ap decode is ∙ h.list);
      }

  one_over : (n k : ℕ) (words : List Word) (p : Step) (rest : List Step) → k < 8 → words ≡ Before l.pages slot k → p.answer ≡ Whole (page_words l.pages (8 * slot + k))
      → has_never (page_words l.pages (8 * slot + k)) ≡ true → Over (suc n) slot k words (p ∷ []) rest h.entry_slots
  one_over n k words p rest small e at seen =
      let page = page_words l.pages (8 * slot + k) in
      let is : page_in p.answer ≡ page = ap page_in at in
      let same : words ++ (page_in p.answer ++ []) ≡ words ++ page = ap (λ (ws : List Word). words ++ ws) (append-nil (page_in p.answer) ∙ is) in
      let list = front-decodes l.pages slot h k small words e seen in
      record {
        few = omega arith;
        whole = (subst IsWhole (sym at) tt, tt);
        are = (ap length is ∙ page-long l.pages slot h k small, tt);
        list = ap decode same ∙ list;
        never = ap has_never same ∙ front-never l.pages slot h k small words e seen;
        goes = goes-then (Pages (suc n) slot k words) (λ g. opened slot (words ++ page) g) (λ g. g (record { slot = slot; slots = h.entry_slots })) (p ∷ rest) rest rest
            (page-on n slot k words page p rest true at seen) (opened-on slot (words ++ page) h.entry_slots rest list);
      }

  step_over : (n k : ℕ) (words : List Word) (p : Step) (pages rest : List Step) → k < 8 → p.answer ≡ Whole (page_words l.pages (8 * slot + k))
      → has_never (page_words l.pages (8 * slot + k)) ≡ false
      → Over n slot (k + 1) (words ++ page_words l.pages (8 * slot + k)) pages rest h.entry_slots → Over (suc n) slot k words (p ∷ pages) rest h.entry_slots
  step_over n k words p pages rest small at seen o =
      let page = page_words l.pages (8 * slot + k) in
      let is : page_in p.answer ≡ page = ap page_in at in
      let few = o.few in
      let same : words ++ (page_in p.answer ++ words_of (pages_in pages)) ≡ (words ++ page) ++ words_of (pages_in pages) = ap (λ (ws : List Word). words ++ (ws ++ words_of (pages_in pages))) is ∙ sym (append_assoc words page (words_of (pages_in pages))) in
      record {
        few = omega arith;
        whole = (subst IsWhole (sym at) tt, o.whole);
        are = (ap length is ∙ page-long l.pages slot h k small, o.are);
        list = ap decode same ∙ o.list;
        never = ap has_never same ∙ o.never;
        goes = goes-then (Pages (suc n) slot k words) (Pages n slot (k + 1) (words ++ page)) (λ g. g (record { slot = slot; slots = h.entry_slots })) (p ∷ (pages ++ rest)) (pages ++ rest) rest
            (page-on n slot k words page p (pages ++ rest) false at seen) o.goes;
      }

  step_more : (n k : ℕ) (words : List Word) (p : Step) (pages : List Step) → p.answer ≡ Whole (page_words l.pages (8 * slot + k))
      → has_never (page_words l.pages (8 * slot + k)) ≡ false
      → More n slot (k + 1) (words ++ page_words l.pages (8 * slot + k)) pages → More (suc n) slot k words (p ∷ pages)
  step_more n k words p pages at seen m =
      let page = page_words l.pages (8 * slot + k) in
      let few = m.few in
      let place : 8 * slot + ((k + 1) + length pages) ≡ 8 * slot + (k + suc (length pages)) = omega arith in
      record {
        few = omega arith;
        is = λ g. ap next_of ((page-on n slot k words page p pages false at seen).is g) ∙ m.is g ∙ ap (λ (x : ℕ). Call L7 (PageGet x)) place;
      }

  pub walk : (n k : ℕ) (words other : List Word) (pages rest : List Step) → n + k ≡ 8 → words ≡ Before l.pages slot k → has_never other ≡ false → AllRead pages → NoneFirst rest
      → IsTraceOf (read_pages n slot k words go) l (pages ++ rest) → Walked n slot k words other pages rest h.entry_slots
  walk zero k words other [] rest all e unseen reads none trace = over (none_left rest other) (last_over k words other rest (omega (arith, all)) e)
  walk zero k words other (p ∷ pages) rest all e unseen reads none trace =
      let is = all-pages l.pages slot h k (omega (arith, all)) words e in
      absurd (after_whole words (ap decode is ∙ h.list) p (pages ++ rest) trace reads.0)
  walk (suc n) k words other [] (s ∷ rest) all e unseen reads none trace = absurd (true≢false (sym (ap (λ (t : Step). reads_page t.call) trace.0) ∙ none))
  walk (suc n) k words other [] [] all e unseen reads none trace =
      more (ap (λ (b : Bool). true && nat_lt 0 (suc n) && not b) unseen ∙ some_left n) refl (record { few = omega arith; is = λ g. ap (λ (x : ℕ). Call L7 (PageGet (8 * slot + x))) {x = k} {y = k + 0} (omega arith) })
  walk (suc n) k words other (p ∷ pages) rest all e unseen reads none trace =
      by (has_never page) refl (λ same. walk n (k + 1) (words ++ page) (page_in p.answer) pages rest (omega (arith, all)) (front-is l.pages slot h k small words e) same reads.1 none) trace.1
    where
      page : List Word
      page = page_words l.pages (8 * slot + k)

      at : p.answer ≡ Whole page
      at = ap (λ (s : Step). s.answer) trace.0

      small : k < 8
      small = omega (arith, all)

      ended : (ps : List Step) → AllRead ps → IsTraceOf (opened slot (words ++ page) go) l (ps ++ rest) → has_never page ≡ true → Walked (suc n) slot k words other (p ∷ ps) rest h.entry_slots
      ended [] rs later seen = over (seen_last (suc n) other (p ∷ []) rest (ap (λ (a : LevelAnswer). has_never (page_in a)) at ∙ seen)) (one_over n k words p rest small e at seen)
      ended (q ∷ ps) rs later seen = absurd (after_whole (words ++ page) (front-decodes l.pages slot h k small words e seen) q (ps ++ rest) later rs.0)

      step : Walked n slot (k + 1) (words ++ page) (page_in p.answer) pages rest h.entry_slots → has_never page ≡ false → Walked (suc n) slot k words other (p ∷ pages) rest h.entry_slots
      step (over stop o) seen = over (more_step n other p pages rest ∙ stop) (step_over n k words p pages rest small at seen o)
      step (more on nothing m) seen = more (more_step n other p pages rest ∙ on) nothing (step_more n k words p pages at seen m)

      by : (b : Bool) → has_never page ≡ b
          → (has_never (page_in p.answer) ≡ false → IsTraceOf (read_pages n slot (k + 1) (words ++ page) go) l (pages ++ rest) → Walked n slot (k + 1) (words ++ page) (page_in p.answer) pages rest h.entry_slots)
          → IsTraceOf (cond b (opened slot (words ++ page) go) (read_pages n slot (k + 1) (words ++ page) go)) l (pages ++ rest) → Walked (suc n) slot k words other (p ∷ pages) rest h.entry_slots
      by true seen on later = ended pages reads.1 later seen
      by false seen on later = step (on (ap (λ (a : LevelAnswer). has_never (page_in a)) at ∙ seen) later) seen

  -- the last page that was read is one of a directory
  pub last-slots : (n k : ℕ) (words other : List Word) (pages rest : List Step) → n + k ≡ 8 → words ≡ Before l.pages slot k → AreSlots other → AllRead pages
      → IsTraceOf (read_pages n slot k words go) l (pages ++ rest) → AreSlots (last_page other pages)
  last-slots zero k words other [] rest all e are reads trace = are
  last-slots (suc n) k words other [] rest all e are reads trace = are
  last-slots zero k words other (p ∷ pages) rest all e are reads trace =
      let is = all-pages l.pages slot h k (omega (arith, all)) words e in
      absurd (after_whole words (ap decode is ∙ h.list) p (pages ++ rest) trace reads.0)
  last-slots (suc n) k words other (p ∷ pages) rest all e are reads trace =
      by (has_never page) refl (λ later. last-slots n (k + 1) (words ++ page) (page_in p.answer) pages rest (omega (arith, all)) (front-is l.pages slot h k small words e) this reads.1 later) trace.1
    where
      page : List Word
      page = page_words l.pages (8 * slot + k)

      small : k < 8
      small = omega (arith, all)

      this : AreSlots (page_in p.answer)
      this = subst AreSlots (sym (ap page_in (ap (λ (s : Step). s.answer) trace.0))) (page-slots l.pages slot h k small)

      ended : (ps : List Step) → AllRead ps → IsTraceOf (opened slot (words ++ page) go) l (ps ++ rest) → has_never page ≡ true → AreSlots (last_page (page_in p.answer) ps)
      ended [] rs later seen = this
      ended (q ∷ ps) rs later seen = absurd (after_whole (words ++ page) (front-decodes l.pages slot h k small words e seen) q (ps ++ rest) later rs.0)

      by : (b : Bool) → has_never page ≡ b → (IsTraceOf (read_pages n slot (k + 1) (words ++ page) go) l (pages ++ rest) → AreSlots (last_page (page_in p.answer) pages))
          → IsTraceOf (cond b (opened slot (words ++ page) go) (read_pages n slot (k + 1) (words ++ page) go)) l (pages ++ rest) → AreSlots (last_page (page_in p.answer) pages)
      by true seen on later = ended pages reads.1 later seen
      by false seen on later = on later

-- the last of some calls
pub last-is : (other : List Word) (pages : List Step) (s : Step) → slice_get pages (length pages - 1) ≡ Some s → last_page other pages ≡ page_in s.answer
last-is other [] s e = absurd (none-some s e)
last-is other (p ∷ []) s e = ap (λ (t : Step). page_in t.answer) (same_Some p s e)
last-is other (p ∷ q ∷ pages) s e =
    let later : slice_get (q ∷ pages) (length (q ∷ pages) - 1) ≡ Some s = ap (λ (i : ℕ). slice_get (q ∷ pages) i) {x = suc (length pages) - 1} {y = length pages} (omega arith) ∙ ap (λ (i : ℕ). slice_get (p ∷ q ∷ pages) i) {x = suc (length pages)} {y = suc (suc (length pages)) - 1} (omega arith) ∙ e in
    last-is (page_in p.answer) (q ∷ pages) s later

-- there is none
pub last-none : (other : List Word) (pages : List Step) → slice_get pages (length pages - 1) ≡ None → last_page other pages ≡ other
last-none other [] e = refl
last-none other (p ∷ pages) e = absurd (none-some (get_or (p ∷ pages) (length (p ∷ pages) - 1) p) (sym e ∙ slice_get-get_or (p ∷ pages) (length (p ∷ pages) - 1) p (omega arith)))

-- calls that read pages in front, and the first that does not
pub split-read : (trace : List Step) → AllRead (take (pages_first trace) trace) × NoneFirst (drop (pages_first trace) trace)
split-read [] = (tt, tt)
split-read (s ∷ rest) = by (reads_page s.call) refl (split-read rest)
  where
    by : (b : Bool) → reads_page s.call ≡ b → AllRead (take (pages_first rest) rest) × NoneFirst (drop (pages_first rest) rest)
        → AllRead (take (cond b (suc (pages_first rest)) 0) (s ∷ rest)) × NoneFirst (drop (cond b (suc (pages_first rest)) 0) (s ∷ rest))
    by true e later = ((e, later.0), later.1)
    by false e later = (tt, e)

pub pages-count : (calls : List Step) → length (pages_in calls) ≡ length calls
pages-count [] = refl
pages-count (s ∷ rest) = ap suc (pages-count rest)

-- an answer that is no page
pub no-page : (a : LevelAnswer) → ((page : List Word) → a ≡ Whole page → ⊥) → page_in a ≡ []
no-page (Whole page) h = absurd (h page refl)
no-page _ h = refl
