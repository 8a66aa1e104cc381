use Rattle.std.proofs.Common.{◌≡◌, ◌-◌, ◌++◌}
use Rattle.psos_model.specs.Text.Load.{load_users, load_text}
use Rattle.psos_load.proofs.script.script_text.Given as goal

-- what was written and the users that are left are the whole text
abbrev pub invariant-users : goal.invariant-users
invariant-users l = l.text.items ++ load_users (l.fn.users - l.number) l.lines l.number l.turns ≡ load_text l.fn.users l.lines l.fn.seed
