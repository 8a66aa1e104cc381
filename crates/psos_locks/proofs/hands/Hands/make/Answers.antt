use Rattle.std.proofs.Common.{◌∙◌}
use Rattle.std.specs.Prelude.{option_map}
use Rattle.psos_calls.specs.declared.level.Level.TheVariants.{L13, L12, L11, L10, L9, L8, L7, L0}
use Rattle.psos_locks.specs.Grips.{next_grip, page_grip, seg_grip, type_grip, dir_grip, life_grip, box_grip, code_grip}
use Rattle.psos_locks.proofs.PlaceOfLevel.{can_make, called_at, traced_at, never_there, on_ok, if_err}
use Rattle.psos_locks.proofs.hands.Hands.make.Goals as goal

pub make_one-requires-clause-can : goal.make_one-requires-clause-can
make_one-requires-clause-can g c = can_make c.args.self.now c.args.users c.args.call.now L13 (c.requires.level ∙ c.in-L13.is) c.requires.held c.requires.can

pub returns-in-L13-clause-called : goal.returns-in-L13-clause-called
returns-in-L13-clause-called g c =
    on_ok c.make_one.result (called_at c.args.self.now c.args.users c.args.call.now L13 (c.requires.level ∙ c.in-L13.is) c.requires.held (option_map code_grip c.make_one.new.place)) c.make_one.ensures.called

pub returns-in-L13-clause-traced : goal.returns-in-L13-clause-traced
returns-in-L13-clause-traced g c = on_ok c.make_one.result (traced_at c.args.self.now c.args.users c.args.call.now L13 (c.requires.level ∙ c.in-L13.is) c.requires.held c.args.trace.now c.make_one.new.trace) c.make_one.ensures.traced

pub returns-in-L13-clause-failed : goal.returns-in-L13-clause-failed
returns-in-L13-clause-failed g c = if_err c.make_one.result (λ fault bad is. absurd (never_there c.make_one.new.place (bad is))) c.make_one.ensures.failed

pub make_one-requires-in-L12-clause-can : goal.make_one-requires-in-L12-clause-can
make_one-requires-in-L12-clause-can g c = can_make c.args.self.now c.args.users c.args.call.now L12 (c.requires.level ∙ c.in-L12.is) c.requires.held c.requires.can

pub returns-in-L12-clause-called : goal.returns-in-L12-clause-called
returns-in-L12-clause-called g c =
    on_ok c.make_one-in-L12.result (called_at c.args.self.now c.args.users c.args.call.now L12 (c.requires.level ∙ c.in-L12.is) c.requires.held (option_map box_grip c.make_one-in-L12.new.place)) c.make_one-in-L12.ensures.called

pub returns-in-L12-clause-traced : goal.returns-in-L12-clause-traced
returns-in-L12-clause-traced g c = on_ok c.make_one-in-L12.result (traced_at c.args.self.now c.args.users c.args.call.now L12 (c.requires.level ∙ c.in-L12.is) c.requires.held c.args.trace.now c.make_one-in-L12.new.trace) c.make_one-in-L12.ensures.traced

pub returns-in-L12-clause-failed : goal.returns-in-L12-clause-failed
returns-in-L12-clause-failed g c = if_err c.make_one-in-L12.result (λ fault bad is. absurd (never_there c.make_one-in-L12.new.place (bad is))) c.make_one-in-L12.ensures.failed

pub make_one-requires-in-L11-clause-can : goal.make_one-requires-in-L11-clause-can
make_one-requires-in-L11-clause-can g c = can_make c.args.self.now c.args.users c.args.call.now L11 (c.requires.level ∙ c.in-L11.is) c.requires.held c.requires.can

pub returns-in-L11-clause-called : goal.returns-in-L11-clause-called
returns-in-L11-clause-called g c =
    on_ok c.make_one-in-L11.result (called_at c.args.self.now c.args.users c.args.call.now L11 (c.requires.level ∙ c.in-L11.is) c.requires.held (option_map life_grip c.make_one-in-L11.new.place)) c.make_one-in-L11.ensures.called

pub returns-in-L11-clause-traced : goal.returns-in-L11-clause-traced
returns-in-L11-clause-traced g c = on_ok c.make_one-in-L11.result (traced_at c.args.self.now c.args.users c.args.call.now L11 (c.requires.level ∙ c.in-L11.is) c.requires.held c.args.trace.now c.make_one-in-L11.new.trace) c.make_one-in-L11.ensures.traced

pub returns-in-L11-clause-failed : goal.returns-in-L11-clause-failed
returns-in-L11-clause-failed g c = if_err c.make_one-in-L11.result (λ fault bad is. absurd (never_there c.make_one-in-L11.new.place (bad is))) c.make_one-in-L11.ensures.failed

pub make_one-requires-in-L10-clause-can : goal.make_one-requires-in-L10-clause-can
make_one-requires-in-L10-clause-can g c = can_make c.args.self.now c.args.users c.args.call.now L10 (c.requires.level ∙ c.in-L10.is) c.requires.held c.requires.can

pub returns-in-L10-clause-called : goal.returns-in-L10-clause-called
returns-in-L10-clause-called g c =
    on_ok c.make_one-in-L10.result (called_at c.args.self.now c.args.users c.args.call.now L10 (c.requires.level ∙ c.in-L10.is) c.requires.held (option_map dir_grip c.make_one-in-L10.new.place)) c.make_one-in-L10.ensures.called

pub returns-in-L10-clause-traced : goal.returns-in-L10-clause-traced
returns-in-L10-clause-traced g c = on_ok c.make_one-in-L10.result (traced_at c.args.self.now c.args.users c.args.call.now L10 (c.requires.level ∙ c.in-L10.is) c.requires.held c.args.trace.now c.make_one-in-L10.new.trace) c.make_one-in-L10.ensures.traced

pub returns-in-L10-clause-failed : goal.returns-in-L10-clause-failed
returns-in-L10-clause-failed g c = if_err c.make_one-in-L10.result (λ fault bad is. absurd (never_there c.make_one-in-L10.new.place (bad is))) c.make_one-in-L10.ensures.failed

pub make_one-requires-in-L9-clause-can : goal.make_one-requires-in-L9-clause-can
make_one-requires-in-L9-clause-can g c = can_make c.args.self.now c.args.users c.args.call.now L9 (c.requires.level ∙ c.in-L9.is) c.requires.held c.requires.can

pub returns-in-L9-clause-called : goal.returns-in-L9-clause-called
returns-in-L9-clause-called g c =
    on_ok c.make_one-in-L9.result (called_at c.args.self.now c.args.users c.args.call.now L9 (c.requires.level ∙ c.in-L9.is) c.requires.held (option_map type_grip c.make_one-in-L9.new.place)) c.make_one-in-L9.ensures.called

pub returns-in-L9-clause-traced : goal.returns-in-L9-clause-traced
returns-in-L9-clause-traced g c = on_ok c.make_one-in-L9.result (traced_at c.args.self.now c.args.users c.args.call.now L9 (c.requires.level ∙ c.in-L9.is) c.requires.held c.args.trace.now c.make_one-in-L9.new.trace) c.make_one-in-L9.ensures.traced

pub returns-in-L9-clause-failed : goal.returns-in-L9-clause-failed
returns-in-L9-clause-failed g c = if_err c.make_one-in-L9.result (λ fault bad is. absurd (never_there c.make_one-in-L9.new.place (bad is))) c.make_one-in-L9.ensures.failed

pub make_one-requires-in-L8-clause-can : goal.make_one-requires-in-L8-clause-can
make_one-requires-in-L8-clause-can g c = can_make c.args.self.now c.args.users c.args.call.now L8 (c.requires.level ∙ c.in-L8.is) c.requires.held c.requires.can

pub returns-in-L8-clause-called : goal.returns-in-L8-clause-called
returns-in-L8-clause-called g c =
    on_ok c.make_one-in-L8.result (called_at c.args.self.now c.args.users c.args.call.now L8 (c.requires.level ∙ c.in-L8.is) c.requires.held (option_map seg_grip c.make_one-in-L8.new.place)) c.make_one-in-L8.ensures.called

pub returns-in-L8-clause-traced : goal.returns-in-L8-clause-traced
returns-in-L8-clause-traced g c = on_ok c.make_one-in-L8.result (traced_at c.args.self.now c.args.users c.args.call.now L8 (c.requires.level ∙ c.in-L8.is) c.requires.held c.args.trace.now c.make_one-in-L8.new.trace) c.make_one-in-L8.ensures.traced

pub returns-in-L8-clause-failed : goal.returns-in-L8-clause-failed
returns-in-L8-clause-failed g c = if_err c.make_one-in-L8.result (λ fault bad is. absurd (never_there c.make_one-in-L8.new.place (bad is))) c.make_one-in-L8.ensures.failed

pub make_one-requires-in-L7-clause-can : goal.make_one-requires-in-L7-clause-can
make_one-requires-in-L7-clause-can g c = can_make c.args.self.now c.args.users c.args.call.now L7 (c.requires.level ∙ c.in-L7.is) c.requires.held c.requires.can

pub returns-in-L7-clause-called : goal.returns-in-L7-clause-called
returns-in-L7-clause-called g c =
    on_ok c.make_one-in-L7.result (called_at c.args.self.now c.args.users c.args.call.now L7 (c.requires.level ∙ c.in-L7.is) c.requires.held (option_map page_grip c.make_one-in-L7.new.place)) c.make_one-in-L7.ensures.called

pub returns-in-L7-clause-traced : goal.returns-in-L7-clause-traced
returns-in-L7-clause-traced g c = on_ok c.make_one-in-L7.result (traced_at c.args.self.now c.args.users c.args.call.now L7 (c.requires.level ∙ c.in-L7.is) c.requires.held c.args.trace.now c.make_one-in-L7.new.trace) c.make_one-in-L7.ensures.traced

pub make_one-requires-in-L0-clause-can : goal.make_one-requires-in-L0-clause-can
make_one-requires-in-L0-clause-can g c = can_make c.args.self.now c.args.users c.args.call.now L0 (c.requires.level ∙ c.in-L0.is) c.requires.held c.requires.can

pub returns-in-L0-clause-called : goal.returns-in-L0-clause-called
returns-in-L0-clause-called g c =
    on_ok c.make_one-in-L0.result (called_at c.args.self.now c.args.users c.args.call.now L0 (c.requires.level ∙ c.in-L0.is) c.requires.held (option_map next_grip c.make_one-in-L0.new.place)) c.make_one-in-L0.ensures.called

pub returns-in-L0-clause-traced : goal.returns-in-L0-clause-traced
returns-in-L0-clause-traced g c = on_ok c.make_one-in-L0.result (traced_at c.args.self.now c.args.users c.args.call.now L0 (c.requires.level ∙ c.in-L0.is) c.requires.held c.args.trace.now c.make_one-in-L0.new.trace) c.make_one-in-L0.ensures.traced

pub returns-in-L0-clause-failed : goal.returns-in-L0-clause-failed
returns-in-L0-clause-failed g c = if_err c.make_one-in-L0.result (λ fault bad is. absurd (never_there c.make_one-in-L0.new.place (bad is))) c.make_one-in-L0.ensures.failed
