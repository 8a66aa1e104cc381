use Rattle.std.proofs.Common.{[], ◌∷◌, ◌++◌, refl, sym, ap, ◌∙◌, arith}
use Rattle.psos_laws.specs.History.{history}
use Rattle.psos_laws.proofs.WatchedRuns.{AreLaws, watched_laws, laws_same, laws_more, laws_few, laws_step, laws_kept, laws_confined, laws_back}
use Rattle.psos_laws.proofs.OriginTables.{tells_same, tells_as, tells_step, small_boxes, one_of_eight}
use Rattle.psos_laws.proofs.watched.Watched.step.Goals as goal

pub overflow_cast-stamp : goal.overflow_cast-stamp
overflow_cast-stamp c =
    let w = c.args.self.now in
    let few = laws_few c.args.script.now w.order.items w.flat (watched_laws w c.args.script.now c.requires.watched c.requires.script) in
    let count = c.len-stamp.ensures in
    omega (arith, few, count)

pub step-requires-clause-state : goal.step-requires-clause-state
step-requires-clause-state c =
    let w = c.args.self.now in
    laws_step c.args.script.now w.order.items w.flat c.args.user c.requires.left (watched_laws w c.args.script.now c.requires.watched c.requires.script)

pub coming-requires-clause-state : goal.coming-requires-clause-state
coming-requires-clause-state c =
    let w = c.args.self.now in
    laws_step c.args.script.now w.order.items w.flat c.args.user c.requires.left (watched_laws w c.args.script.now c.requires.watched c.requires.script)

pub coming-requires-clause-few : goal.coming-requires-clause-few
coming-requires-clause-few c =
    let w = c.args.self.now in
    small_boxes c.args.script.now w.flat (watched_laws w c.args.script.now c.requires.watched c.requires.script).sound

pub keep-requires-clause-user : goal.keep-requires-clause-user
keep-requires-clause-user c =
    let w = c.args.self.now in
    let was = watched_laws w c.args.script.now c.requires.watched c.requires.script in
    one_of_eight c.args.script.now w.flat c.args.user was.formed was.sound c.requires.left

-- ---- where memory runs out the run is as it was

no_room : (c : goal.After-from_residual) → AreLaws c.args.script.now c.try_reserve.new.self.items c.args.self.now.flat
no_room c =
    let w = c.args.self.now in
    let was = watched_laws w c.args.script.now c.requires.watched c.requires.script in
    laws_same c.args.script.now w.order.items c.try_reserve.new.self.items w.flat w.flat c.in_err-try_reserve.ensures.items refl was

pub returns-in_err-try_reserve-clause-sound : goal.returns-in_err-try_reserve-clause-sound
returns-in_err-try_reserve-clause-sound c = (no_room c).sound

pub returns-in_err-try_reserve-clause-guarded : goal.returns-in_err-try_reserve-clause-guarded
returns-in_err-try_reserve-clause-guarded c = (no_room c).sound.guarded

pub returns-in_err-try_reserve-clause-kept : goal.returns-in_err-try_reserve-clause-kept
returns-in_err-try_reserve-clause-kept c = laws_kept c.args.script.now c.try_reserve.new.self.items c.args.self.now.flat (no_room c)

pub returns-in_err-try_reserve-clause-lawful : goal.returns-in_err-try_reserve-clause-lawful
returns-in_err-try_reserve-clause-lawful c = (no_room c).lawful

no_arrivals : (c : goal.After-from_residual-in_err-coming) → AreLaws c.args.script.now c.try_reserve.new.self.items c.args.self.now.flat
no_arrivals c =
    let w = c.args.self.now in
    let was = watched_laws w c.args.script.now c.requires.watched c.requires.script in
    laws_same c.args.script.now w.order.items c.try_reserve.new.self.items w.flat w.flat c.in_ok-try_reserve.ensures.items refl was

pub returns-in_err-coming-clause-sound : goal.returns-in_err-coming-clause-sound
returns-in_err-coming-clause-sound c = (no_arrivals c).sound

pub returns-in_err-coming-clause-guarded : goal.returns-in_err-coming-clause-guarded
returns-in_err-coming-clause-guarded c = (no_arrivals c).sound.guarded

pub returns-in_err-coming-clause-kept : goal.returns-in_err-coming-clause-kept
returns-in_err-coming-clause-kept c = laws_kept c.args.script.now c.try_reserve.new.self.items c.args.self.now.flat (no_arrivals c)

pub returns-in_err-coming-clause-lawful : goal.returns-in_err-coming-clause-lawful
returns-in_err-coming-clause-lawful c = (no_arrivals c).lawful

no_answer : (c : goal.After-drop-coming) → AreLaws c.args.script.now c.try_reserve.new.self.items c.step.new.self
no_answer c =
    let w = c.args.self.now in
    let was = watched_laws w c.args.script.now c.requires.watched c.requires.script in
    laws_same c.args.script.now w.order.items c.try_reserve.new.self.items w.flat c.step.new.self c.in_ok-try_reserve.ensures.items c.in_err-answer.ensures.err was

pub returns-in_err-answer-clause-sound : goal.returns-in_err-answer-clause-sound
returns-in_err-answer-clause-sound c = (no_answer c).sound

pub returns-in_err-answer-clause-guarded : goal.returns-in_err-answer-clause-guarded
returns-in_err-answer-clause-guarded c = (no_answer c).sound.guarded

pub returns-in_err-answer-clause-kept : goal.returns-in_err-answer-clause-kept
returns-in_err-answer-clause-kept c = laws_kept c.args.script.now c.try_reserve.new.self.items c.step.new.self (no_answer c)

pub returns-in_err-answer-clause-lawful : goal.returns-in_err-answer-clause-lawful
returns-in_err-answer-clause-lawful c = (no_answer c).lawful

-- ---- else it has one request more

answered : (c : goal.After-keep) → AreLaws c.args.script.now c.push_reserved.new.self.items c.step.new.self
answered c =
    let w = c.args.self.now in
    let was = watched_laws w c.args.script.now c.requires.watched c.requires.script in
    laws_more c.args.script.now w.order.items c.push_reserved.new.self.items w.flat c.step.new.self c.args.user c.requires.left
    (c.push_reserved.ensures.items ∙ ap (λ us. us ++ c.args.user ∷ []) c.in_ok-try_reserve.ensures.items) c.in_ok-answer.ensures.state was

pub returns-clause-sound : goal.returns-clause-sound
returns-clause-sound c = (answered c).sound

pub returns-clause-guarded : goal.returns-clause-guarded
returns-clause-guarded c = (answered c).sound.guarded

pub returns-clause-kept : goal.returns-clause-kept
returns-clause-kept c = laws_kept c.args.script.now c.push_reserved.new.self.items c.step.new.self (answered c)

pub returns-clause-lawful : goal.returns-clause-lawful
returns-clause-lawful c = (answered c).lawful

pub returns-clause-watched : goal.returns-clause-watched
returns-clause-watched c =
    let w = c.args.self.now in
    let t = c.args.script.now in
    let was = watched_laws w t c.requires.watched c.requires.script in
    let back = laws_back w.script.value t c.push_reserved.new.self.items c.step.new.self c.requires.script (answered c) in
    let k = c.in_ok-coming.coming in
    let kept = tells_same (history t w.order.items) w.flat w.flat w.origins c.coming.new.self refl c.in_ok-coming.ensures.past c.in_ok-coming.ensures.callers
    (tells_as w.script.value t w.order.items w.order.items w.flat w.origins (sym c.requires.script) refl c.requires.watched.tells) in
    let more = tells_step t w.order.items w.flat c.step.new.self c.args.user c.coming.new.self c.keep.new.self k was.formed was.sound was.state c.requires.left c.in_ok-answer.ensures.state
    kept c.in_ok-coming.ensures.coming c.keep.ensures in
    record {
      formed = back.formed;
      legal = back.legal;
      state = back.state;
      tells = tells_as t w.script.value (w.order.items ++ c.args.user ∷ []) c.push_reserved.new.self.items c.step.new.self c.keep.new.self c.requires.script
          (c.push_reserved.ensures.items ∙ ap (λ us. us ++ c.args.user ∷ []) c.in_ok-try_reserve.ensures.items) more;
    }

pub returns-clause-confined : goal.returns-clause-confined
returns-clause-confined c =
    let w = c.args.self.now in
    let was = watched_laws w c.args.script.now c.requires.watched c.requires.script in
    laws_confined c.args.script.now w.order.items w.flat c.step.new.self c.args.user c.in_ok-answer.ensures.state was
