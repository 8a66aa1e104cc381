use Rattle.std.proofs.Common.{sym, ap, ◌∙◌}
use Rattle.std.specs.Prelude.{option_map}
use Rattle.std.proofs.Common.{Bool}
use Rattle.psos_calls.specs.declared.entry.Entry.{Entry}
use Rattle.psos_calls.specs.declared.level.Level.TheVariants.{L12}
use Rattle.psos_calls.specs.Locks.Held.{same_lock}
use Rattle.psos_journal.specs.Views.{Side}
use Rattle.psos_procs.specs.Mailbox.{Mailbox}
use Rattle.psos_calls.specs.Locks.{lock_of}
use Rattle.psos_locks.specs.Grips.{box_grip}
use Rattle.psos_locks.specs.Places.{holds_in}
use Rattle.psos_locks.proofs.PlaceOfLevel.{box_is}
use Rattle.psos_locks.proofs.hands.is_box.Goals as goal

pub returns-in-Some : goal.returns-in-Some
returns-in-Some g c =
    c.has_part.ensures ∙ box_is c.args.users c.args.call.now c.deref.result.now.0.number c.requires.level
    ∙ ap (λ (v : Mailbox × Side Entry × Bool). same_lock (record { level = L12; part = v.0.number }) (lock_of c.args.users c.args.call.now)) c.deref.ensures
    ∙ ap (λ o. holds_in (lock_of c.args.users c.args.call.now) (option_map box_grip o)) (sym c.in-Some.is)
