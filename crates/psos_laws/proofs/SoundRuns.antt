-- Each answer, and so each run, keeps a state sound.
use Rattle.std.proofs.Common.{[], ◌∷◌}
use Rattle.psos_calls.specs.Language.Script.{Script}
use Rattle.psos_model.specs.Flat.{Flat}
use Rattle.psos_model.specs.Answer.{answer}
use Rattle.psos_model.specs.Sound.{IsSound}
use Rattle.psos_model.specs.Laws.{AnswersKeepSound, RunsKeepSound}
use Rattle.psos_laws.specs.SoundParts.{IsSoundUsers, IsSoundPlaces, IsSoundShared}
use Rattle.psos_laws.proofs.UserSoundness.{users_kept}
use Rattle.psos_laws.proofs.PlaceGuards.{places_kept}
use Rattle.psos_laws.proofs.SharedAnswers.{shared_kept}

-- a state whose three parts are sound is sound
pub sound_of : (s : Script) (f : Flat) → IsSoundUsers s f → IsSoundPlaces f → IsSoundShared s f → IsSound s f
sound_of s f own places shared = record {
  role = shared.role;
  home = shared.home;
  segments = shared.segments;
  windows = shared.windows;
  types = shared.types;
  objects = shared.objects;
  dirs = shared.dirs;
  boxes = shared.boxes;
  codes = shared.codes;
  users = own.users;
  all_users = own.all_users;
  life = shared.life;
  root = shared.root;
  homes = shared.homes;
  processes = shared.processes;
  few_objects = shared.few_objects;
  few_windows = shared.few_windows;
  below = places.below;
  guarded = places.guarded;
  hidden = places.hidden;
  kept = shared.kept;
}

pub answers_kept : AnswersKeepSound
answers_kept s f u good h = sound_of s (answer s f u).0 (users_kept s f u good h) (places_kept s f u good h) (shared_kept s f u good h)

pub runs_kept : RunsKeepSound
runs_kept s f [] good h = h
runs_kept s f (u ∷ us) good h = runs_kept s (answer s f u).0 us good (answers_kept s f u good h)
