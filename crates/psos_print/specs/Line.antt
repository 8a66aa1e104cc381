-- A line of a transcript as an answered request.
use Rattle.std.specs.Prelude.{Bool, true, false}
use Rattle.psos_calls.specs.declared.line.Line.{Line}
use Rattle.psos_calls.specs.declared.reply.Reply.{Reply}
use Rattle.psos_calls.specs.declared.reply.Reply.TheVariants as replies
use Rattle.psos_model.specs.Answer.{Answered}

-- its user, its place and its reply
abbrev pub answered_in : Line → Answered
answered_in line = record { user = line.user; n = line.n; m = line.m; reply = line.reply }

-- names are answered, of which there may be many
abbrev pub lists_names : Reply → Bool
lists_names (replies.Names names) = true
lists_names _ = false
