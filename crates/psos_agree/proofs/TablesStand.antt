-- Where tables of the levels and of the flat state change alike, and segments and directories stay, the levels go on to stand.
use Rattle.std.proofs.Common.{◌≡◌, ℕ, Bool, List}
use Rattle.psos_table.specs.Table.{Table, at}
use Rattle.psos_calls.specs.declared.kind.Kind.{Kind}
use Rattle.psos_calls.specs.declared.obj_row.ObjRow.{ObjRow}
use Rattle.psos_calls.specs.declared.win_row.WinRow.{WinRow}
use Rattle.psos_calls.specs.declared.code_row.CodeRow.{CodeRow}
use Rattle.psos_calls.specs.Language.User.{User}
use Rattle.psos_calls.specs.Levels.Level12.{BoxState}
use Rattle.psos_model.specs.Flat.{Flat, Object}
use Rattle.psos_model.specs.Replay.{System}
use Rattle.psos_model.specs.Replay.StandsFor.{StandsFor, object_row}

-- in the order in which `StandsFor` has them; of a table that stays, what stood says it
pub tables_stand : {y : System} {f : Flat} → StandsFor y f
    → {n m : ℕ} → n ≡ m → {codes code_rows : Table CodeRow} → codes ≡ code_rows → {boxes box_rows : BoxState} → boxes ≡ box_rows → {life kinds : Table Kind} → life ≡ kinds
    → {types type_rows : Table Bool} → types ≡ type_rows → {windows win_rows : Table WinRow} → windows ≡ win_rows → {users us : List User} → users ≡ us
    → {objects : Table ObjRow} {rows : Table Object} → ((u : ℕ) → at objects u ≡ object_row (at rows u) (at f.dirs u))
    → StandsFor
    (record {
      levels = record y.levels {
        next = n;
        codes = codes;
        boxes = boxes;
        life = life;
        types = record { types = types; objects = objects };
        segs = record y.levels.segs { windows = windows };
      };
      users = users;
    })
    (record f { next = m; codes = code_rows; boxes = box_rows; life = kinds; types = type_rows; windows = win_rows; users = us; objects = rows })
tables_stand h next codes boxes life types windows users objects = record {
  next = next;
  codes = codes;
  boxes = boxes;
  life = life;
  types = types;
  windows = windows;
  users = users;
  dirs = h.dirs;
  objects = objects;
  segments = h.segments;
  reps = h.reps;
  no_other = h.no_other;
  apart = h.apart;
  taken = h.taken;
  used = h.used;
  slots = h.slots;
  words = h.words;
  entries = h.entries;
}
