-- The laws of places of whole runs.
use Rattle.std.proofs.Common.{ℕ, List}
use Rattle.psos_calls.specs.Language.Script.{Script, IsWellFormed}
use Rattle.psos_model.specs.Flat.{Flat}
use Rattle.psos_model.specs.Run.{run_from}
use Rattle.psos_model.specs.Sound.{IsSound}
use Rattle.psos_laws.specs.History.{history_from}
use Rattle.psos_laws.specs.Laws.{IsLawful, RunsAreLawful, ConfinedStays}
use Rattle.psos_laws.proofs.SoundRuns.{answers_kept}
use Rattle.psos_laws.proofs.Histories.{KeepsSound}
use Rattle.psos_laws.proofs.PlacesLaws as laws

keeps : (s : Script) → IsWellFormed s → KeepsSound s
keeps s formed f u sound = answers_kept s f u formed sound

-- at the end of an order
pub run_is_lawful : (s : Script) (start : Flat) (order : List ℕ) → IsWellFormed s → IsSound s start → IsLawful start (history_from s start order) (run_from s start order)
run_is_lawful s start order formed sound = laws.run_is_lawful s (keeps s formed) start sound order

pub runs_are_lawful : RunsAreLawful
runs_are_lawful s start order formed sound front rest is = run_is_lawful s start front formed sound

pub confined_stays : ConfinedStays
confined_stays s start order more u x m formed sound h = laws.confined_stays s (keeps s formed) start sound order more u x m h
