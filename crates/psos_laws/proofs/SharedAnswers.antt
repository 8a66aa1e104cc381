-- Each answer keeps what users share sound.
use Rattle.std.proofs.Common.{◌≡◌, ℕ, Option, Some, None, refl}
use Rattle.std.specs.Prelude.{slice_get, slice_set}
use Rattle.psos_calls.specs.declared.request.Request.{Request}
use Rattle.psos_calls.specs.Language.Script.{Script, IsWellFormed}
use Rattle.psos_calls.specs.Language.Tests.{if_there}
use Rattle.psos_calls.specs.Language.User.{User, next_request, after}
use Rattle.psos_model.specs.Flat.{Flat}
use Rattle.psos_model.specs.Answer.{outcome, answer, answer_to, silence}
use Rattle.psos_model.specs.Sound.{IsSound}
use Rattle.psos_model.proofs.RequestRanges.{asked_in_range}
use Rattle.psos_laws.specs.SoundParts.{IsSoundShared}
use Rattle.psos_laws.proofs.SharedWalk.{keeps}

pub shared_part : (s : Script) (f : Flat) → IsSound s f → IsSoundShared s f
shared_part s f h = record {
  role = h.role;
  home = h.home;
  segments = h.segments;
  windows = h.windows;
  types = h.types;
  objects = h.objects;
  dirs = h.dirs;
  boxes = h.boxes;
  codes = h.codes;
  life = h.life;
  root = h.root;
  homes = h.homes;
  processes = h.processes;
  few_objects = h.few_objects;
  few_windows = h.few_windows;
  kept = h.kept;
}

-- what is shared alone is needed for this
pub shared_kept_by : (s : Script) → IsWellFormed s → (f : Flat) (u : ℕ) → IsSoundShared s f → IsSoundShared s (answer s f u).0
shared_kept_by s good f u h = by_user (slice_get f.users u)
  where
    by_request : (x : User) (r : Option Request) → next_request s x ≡ r → IsSoundShared s (answer_to s f u x r).0
    by_request x None asks = h
    by_request x (Some r) asks = keeps s f h x r (asked_in_range s good x r asks) (slice_set f.users u (after s x (outcome f x r).effect))

    by_user : (o : Option User) → IsSoundShared s (if_there o (f, silence u) (λ x. answer_to s f u x (next_request s x))).0
    by_user None = h
    by_user (Some x) = by_request x (next_request s x) refl

pub shared_kept : (s : Script) (f : Flat) (u : ℕ) → IsWellFormed s → IsSound s f → IsSoundShared s (answer s f u).0
shared_kept s f u good h = shared_kept_by s good f u (shared_part s f h)
