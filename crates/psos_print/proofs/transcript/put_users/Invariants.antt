use Rattle.std.proofs.Common.{◌≡◌, drop, map}
use Rattle.psos_model.specs.Replay.{answered_of}
use Rattle.psos_model.specs.Text.Transcript.{users_lines}
use Rattle.psos_print.proofs.Pieces.{HasLeft}
use Rattle.psos_print.proofs.transcript.put_users.Given as goal

abbrev pub invariant-users : goal.invariant-users
invariant-users g l =
    (l.u ≡ l.user-index) × HasLeft (g.K.Sink.took l.initial.out) (g.K.Sink.took l.out) l.initial.piece.items l.piece.items (users_lines (drop l.user-index l.users) l.u (map answered_of l.entries)) (users_lines l.users 0 (map answered_of l.entries)) (g.K.Sink.faults l.initial.out) (g.K.Sink.faults l.out)
