-- Where a new entry goes. States docs/requests.md, "Plans".
use Rattle.std.specs.Prelude.{ℕ, Result, Ok, Err}
use Rattle.psos_words.specs.Directory.{find, slot_for}
use Rattle.psos_text.specs.declared.name.Name.{Name}
use Rattle.psos_calls.specs.declared.refusal.Refusal.{Refusal}
use Rattle.psos_calls.specs.declared.refusal.Refusal.TheVariants.{NameTaken, Exhausted}
use Rattle.psos_calls.specs.declared.tab.Tab.TheVariants.{Entries}
use Rattle.psos_calls.specs.Language.Tests.{if_there, if_none}
use Rattle.psos_calls.specs.Plan.Parts.{Opened}

-- the least slot that is not used, where the name is new
abbrev pub room_for : Opened → Name → Result ℕ Refusal
room_for d name = if_none (find d.slots name) (λ _. Err NameTaken) (if_there (slot_for d.slots) (Err (Exhausted Entries)) (λ k. Ok k))
