use Rattle.std.proofs.Common.{◌≡◌, ℕ, ◌<◌, ◌≤◌, List, ◌∷◌, [], ◌++◌, length, sym, ap, ◌∙◌, subst, arith}
use Rattle.std.proofs.lemmas.List.{length-map}
use Rattle.std.specs.Prelude.{vec_capacity}
use Rattle.psos_words.specs.declared.word.Word.{Word}
use Rattle.psos_calls.specs.declared.level.Level.{Level}
use Rattle.psos_calls.specs.Levels.{level_of}
use Rattle.psos_calls.specs.Levels.Calls.{LevelCall}
use Rattle.psos_calls.specs.Plan.Kept.{KeptCall, kept_at, call_of, words_in, calls_of, AreKept}
use Rattle.psos_calls.proofs.CallsApart.{one-more, kept-more}
use Rattle.psos_calls.proofs.kept_calls.KeptCalls.push.Goals as goal

pub invariant_of-self : goal.invariant_of-self
invariant_of-self c =
    let words = c.self.inside.words.items in
    let kept = c.self.inside.calls.items in
    let call = c.args.call.now in
    let room = vec_capacity c.push_reserved.new.self in
    let words_room = vec_capacity c.push_words.new.words in
    let le : vec_capacity c.self.inside.calls ≤ room = let same = c.push_reserved.ensures.capacity in omega arith in
    let long : length (calls_of words kept) ≡ length kept = length-map kept (λ (k : KeptCall). (level_of (call_of words k), call_of words k)) in
    let seen : length (calls_of words kept) ≡ length c.args.self.now = ap length c.self.view_is in
    let less : length kept < 64 = let room = c.requires in omega arith in
    let more = kept-more words kept call c.push_words.ensures.four (vec_capacity c.self.inside.calls) (vec_capacity c.self.inside.words) room words_room le c.push_words.ensures.room less c.self.invariant in
    let last : c.kept_at.result ≡ kept_at (length words) call = c.kept_at.ensures ∙ ap (λ (n : ℕ). kept_at n call) {x = c.len-at.result} {y = length words} (let counted = c.len-at.ensures in omega arith) in
    let P : List KeptCall → Type 0 = λ ks. AreKept room words_room (words ++ words_in call) ks in
    let one = subst P (sym (c.push_reserved.ensures.items ∙ ap (λ (k : KeptCall). kept ++ k ∷ []) last)) more in
    subst (λ (ws : List Word). AreKept room words_room ws c.push_reserved.new.self.items) (sym c.push_words.ensures.items) one

pub returns : goal.returns
returns c =
    let words = c.self.inside.words.items in
    let kept = c.self.inside.calls.items in
    let call = c.args.call.now in
    let last : c.kept_at.result ≡ kept_at (length words) call = c.kept_at.ensures ∙ ap (λ (n : ℕ). kept_at n call) {x = c.len-at.result} {y = length words} (let counted = c.len-at.ensures in omega arith) in
    ap (λ (ws : List Word). calls_of ws c.push_reserved.new.self.items) c.push_words.ensures.items
    ∙ ap (λ (ks : List KeptCall). calls_of (words ++ words_in call) ks) (c.push_reserved.ensures.items ∙ ap (λ (k : KeptCall). kept ++ k ∷ []) last)
    ∙ one-more words kept call c.push_words.ensures.four c.self.invariant.among
    ∙ ap (λ (front : List (Level × LevelCall)). front ++ (level_of call, call) ∷ []) c.self.view_is
