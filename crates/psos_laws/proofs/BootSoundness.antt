-- Boot is sound, and a start. States docs/promises.md, "Sound states".
use Rattle.std.proofs.Common.{◌≡◌, ◌<◌, arith}
use Rattle.psos_table.proofs.Tables.{row_empty}
use Rattle.psos_calls.specs.Language.Script.{Script, IsWellFormed}
use Rattle.psos_model.specs.Flat.Boot.{boot}
use Rattle.psos_model.specs.Sound.Roles as roles
use Rattle.psos_model.specs.Sound.Rows.{IsSoundWindow, IsSoundObject, IsSoundCode}
use Rattle.psos_model.specs.Sound.{IsSound, IsStart}
use Rattle.psos_laws.proofs.BootSoundRoles.{boot_role}
use Rattle.psos_laws.proofs.BootSoundRows.{boot_segments_sound, boot_dirs_sound, boot_boxes_sound, boot_root, boot_homes, boot_processes, boot_life_sound, few_objects, few_windows}
use Rattle.psos_laws.proofs.BootSoundUsers.{boot_users_sound, boot_users_fresh, users_count}
use Rattle.psos_laws.proofs.BootSoundPlaces.{boot_below, boot_guarded, boot_hidden, boot_place, boot_kept}

pub boot_sound : (s : Script) → IsWellFormed s → IsSound s (boot s)
boot_sound s w = record {
  role = boot_role;
  home = boot_place;
  segments = boot_segments_sound s;
  windows = row_empty (IsSoundWindow boot_role (boot s));
  types = row_empty (λ u x. (u < (boot s).next) × (boot_role u ≡ roles.Typ));
  objects = row_empty (IsSoundObject boot_role (boot s));
  dirs = boot_dirs_sound s;
  boxes = boot_boxes_sound s;
  codes = row_empty (IsSoundCode s boot_role (boot s));
  users = boot_users_sound s w;
  life = boot_life_sound s;
  root = boot_root s;
  homes = boot_homes s;
  processes = boot_processes s;
  all_users = users_count 0 s.users;
  few_objects = few_objects s w;
  few_windows = few_windows s;
  below = boot_below s;
  guarded = boot_guarded s;
  kept = boot_kept s;
  hidden = boot_hidden s;
}

-- a script can run from boot
pub boot_start : (s : Script) → IsWellFormed s → IsStart s (boot s)
boot_start s w = record { sound = boot_sound s w; users = boot_users_fresh s; next = omega (arith, w.few_users) }
