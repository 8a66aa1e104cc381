-- Level 9: extended types. States docs/levels.md, "Calls".
use Rattle.std.specs.Prelude.{⊤, ◌≡◌, ℕ, ◌==◌, Bool, true, false, not, nat_lt, IsSome, Option, Some, None}
use Rattle.psos_table.specs.Table.{Table, at, put, without, kept, size}
use Rattle.psos_caps.specs.Capability.{Capability}
use Rattle.psos_caps.specs.declared.cap.Uid.{Uid}
use Rattle.psos_words.specs.declared.word.Word.TheVariants.{Cap}
use Rattle.psos_calls.specs.declared.obj_row.ObjRow.{ObjRow}
use Rattle.psos_calls.specs.declared.right.Right.TheVariants as rights
use Rattle.psos_calls.specs.declared.kind.Kind.TheVariants.{Typ, Object}
use Rattle.psos_calls.specs.declared.refusal.Refusal.TheVariants.{Absent, Lacks, WrongType, NotEmpty}
use Rattle.psos_calls.specs.Levels.Calls.{LevelCall}
use Rattle.psos_calls.specs.declared.level_call.LevelCall.TheVariants.{RepOf, TypeAt, TypeMake, ObjMake, Impl, ObjGone, TypeGone}
use Rattle.psos_calls.specs.Levels.Answers.{LevelAnswer}
use Rattle.psos_calls.specs.declared.level_answer.LevelAnswer.TheVariants.{Done, Rep, Got, No}
use Rattle.psos_calls.specs.Language.Rights.{has}
use Rattle.psos_calls.specs.Language.Tests.{if_there, if_holds}

-- the live types, and the live objects and directories
pub record TypeState : Type 0 where
  pub types : Table Bool
  pub objects : Table ObjRow

-- the identifier of a representation
abbrev pub rep_of : TypeState → ℕ → ℕ
rep_of s u = if_there (at s.objects u) 0 (λ o. o.rep.uid)

abbrev pub type_at : TypeState → Capability → LevelAnswer
type_at s cap =
    if_there (at s.types cap.uid) (No (Absent Typ)) (λ _.
    if_holds (has cap rights.Make) (No (Lacks rights.Make)) (
    Done))

-- the representation capability of an object of the type; a directory is no object
abbrev pub impl_of : TypeState → Capability → Capability → LevelAnswer
impl_of s of on =
    if_there (at s.types of.uid) (No (Absent Typ)) (λ _.
    if_holds (has of rights.Impl) (No (Lacks rights.Impl)) (
    if_there (at s.objects on.uid) (No (Absent Object)) (λ o.
    if_there o.of (No (Absent Object)) (λ t.
    if_holds (t.0 == of.uid) (No WrongType) (
    Got (Cap o.rep))))))

-- the row is an object of this type
abbrev pub is_of : ℕ → ObjRow → Bool
is_of u o = if_there o.of false (λ t. t.0 == u)

-- a live object has this type
abbrev pub has_objects : TypeState → ℕ → Bool
has_objects s u = nat_lt 0 (size (kept (is_of u) s.objects))

abbrev pub type_gone : TypeState → ℕ → TypeState × LevelAnswer
type_gone s u = if_holds (not (has_objects s u)) (s, No NotEmpty) (record s { types = without s.types u }, Done)

abbrev pub act9 : TypeState → LevelCall → TypeState × LevelAnswer
act9 s (RepOf uid) = (s, Rep (record { 0 = rep_of s uid.0 }))
act9 s (TypeAt cap) = (s, type_at s cap)
act9 s (TypeMake uid) = (record s { types = put s.types uid.0 true }, Done)
act9 s (ObjMake uid of rep) = (record s { objects = put s.objects uid.0 (record { of = of; rep = rep }) }, Done)
act9 s (Impl of on) = (s, impl_of s of on)
act9 s (ObjGone uid) = (record s { objects = without s.objects uid.0 }, Rep (record { 0 = rep_of s uid.0 }))
act9 s (TypeGone uid) = type_gone s uid.0
act9 s _ = (s, Done)

-- the type of an object is live; a directory has none
abbrev pub IsTypeLive : TypeState → Option Uid → Type 0
IsTypeLive s None = ⊤
IsTypeLive s (Some t) = IsSome (at s.types t.0)

-- the condition of each call
abbrev pub Can9 : TypeState → LevelCall → Type 0
Can9 s (RepOf uid) = IsSome (at s.objects uid.0)
Can9 s (TypeMake uid) = at s.types uid.0 ≡ None
Can9 s (ObjMake uid of rep) = (at s.objects uid.0 ≡ None) × IsTypeLive s of
Can9 s (ObjGone uid) = IsSome (at s.objects uid.0)
Can9 s (TypeGone uid) = IsSome (at s.types uid.0)
Can9 s _ = ⊤
