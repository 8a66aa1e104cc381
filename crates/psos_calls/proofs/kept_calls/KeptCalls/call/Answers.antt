use Rattle.std.proofs.Common.{◌≡◌, ◌<◌, List, Some, length, slice_get, refl, sym, ap, ◌∙◌, arith}
use Rattle.std.specs.Prelude.{option_map}
use Rattle.std.proofs.lemmas.List.{length-map}
use Rattle.std.proofs.lemmas.Option.{slice_get-map, slice_get_read}
use Rattle.psos_words.specs.declared.word.Word.{Word}
use Rattle.psos_calls.specs.declared.level.Level.{Level}
use Rattle.psos_calls.specs.Levels.{level_of}
use Rattle.psos_calls.specs.Levels.Calls.{LevelCall}
use Rattle.psos_calls.specs.Plan.Kept.{KeptCall, call_of}
use Rattle.psos_calls.proofs.kept_calls.KeptCalls.call.Goals as goal

pub returns : goal.returns
returns c =
    let words = c.self.inside.words.items in
    let calls = c.self.inside.calls.items in
    let told : KeptCall → Level × LevelCall = λ k. (level_of (call_of words k), call_of words k) in
    let long = length-map calls told in
    let seen = ap length c.self.view_is in
    let within : c.args.i < length calls = omega (arith, c.requires) in
    let is : call_of words c.index.result.now ≡ c.of.result = ap (λ (ws : List Word). call_of ws c.index.result.now) (sym c.deref.ensures.value) ∙ sym c.of.ensures in
    ap (λ seen. slice_get seen c.args.i) (sym c.self.view_is)
    ∙ slice_get-map told calls c.args.i
    ∙ ap (option_map told) (slice_get_read calls (length calls) c.args.i c.index.result.now refl within c.index.ensures)
    ∙ ap (λ (call : LevelCall). Some (level_of call, call)) is
