-- A call that its level refuses changes nothing. States docs/levels.md, "Levels".
use Rattle.std.proofs.Common.{◌≡◌, ℕ, ◌++◌, Bool, true, false, List, [], ◌∷◌, length, Option, Some, None, refl, ap}
use Rattle.std.specs.Prelude.{nat_lt, not}
use Rattle.psos_table.specs.Table.{at, put, without}
use Rattle.psos_caps.specs.Capability.{Capability}
use Rattle.psos_words.specs.declared.word.Word.{Word}
use Rattle.psos_words.specs.Guard.{barred}
use Rattle.psos_calls.specs.declared.kind.Kind.TheVariants.{Process}
use Rattle.psos_calls.specs.declared.right.Right.TheVariants.{Send}
use Rattle.psos_calls.specs.declared.tab.Tab.TheVariants.{Mailbox}
use Rattle.psos_calls.specs.declared.refusal.Refusal.{Refusal}
use Rattle.psos_calls.specs.declared.refusal.Refusal.TheVariants.{Absent, Lacks, Guarded, Exhausted, Empty, NotEmpty}
use Rattle.psos_calls.specs.declared.level.Level.{Level}
use Rattle.psos_calls.specs.declared.level.Level.TheVariants.{L13, L12, L11, L10, L9, L8, L7, L0}
use Rattle.psos_calls.specs.Levels.Calls.{LevelCall}
use Rattle.psos_calls.specs.declared.level_call.LevelCall.TheVariants.{CodeMake, CodeGone, Post, Draw, Enrol, Forget, DirMake, DirGone, TypeMake, ObjMake, ObjGone, TypeGone, SegMake, SegGone, WinMake, PageTake, PageDrop, WordPut, FourPut}
use Rattle.psos_calls.specs.Levels.Answers.{LevelAnswer}
use Rattle.psos_calls.specs.declared.level_answer.LevelAnswer.TheVariants.{Done, No}
use Rattle.psos_calls.specs.Language.Rights.{has}
use Rattle.psos_calls.specs.Language.Tests.{if_there, if_none, if_holds}
use Rattle.psos_calls.specs.Levels.Level7.{Pages, act7}
use Rattle.psos_calls.specs.Levels.Level8.{SegState, act8}
use Rattle.psos_calls.specs.Levels.Level9.{TypeState, has_objects, act9}
use Rattle.psos_calls.specs.Levels.Level10.{DirState, act10}
use Rattle.psos_calls.specs.Levels.Level11.{LifeState, act11}
use Rattle.psos_calls.specs.Levels.Level12.{BoxState, drawn_from, act12}
use Rattle.psos_calls.specs.Levels.Level13.{CodeState, act13}
use Rattle.psos_calls.specs.Levels.{Levels, level_of, act_at}
use Rattle.psos_calls.specs.Levels.Refusals.{RefusedCallsChangeNothing}

-- what was answered is no refusal, or the state is as it was
abbrev Keeps : {S : Type 0} → S → S × LevelAnswer → Type 0
Keeps {S} s q = (r : Refusal) → q.1 ≡ No r → q.0 ≡ s

-- ---- each level

keeps13 : (s : CodeState) (call : LevelCall) → Keeps s (act13 s call)
keeps13 s (CodeMake uid label link) r e = cc
keeps13 s (CodeGone uid) r e = cc
keeps13 s _ r e = refl

posted_keeps : (s t : BoxState) (right : Bool) (guard : Option ℕ) (room : Bool)
    → Keeps s (if_holds right (s, No (Lacks Send)) (if_none guard (λ b. (s, No (Guarded b))) (if_holds room (s, No (Exhausted Mailbox)) (t, Done))))
posted_keeps s t false guard room r e = refl
posted_keeps s t true (Some b) room r e = refl
posted_keeps s t true None false r e = refl
posted_keeps s t true None true r e = cc

post_keeps : (s : BoxState) (to : Capability) (word : Word) (o : Option (List Word))
    → Keeps s (if_there o (s, No (Absent Process)) (λ box. if_holds (has to Send) (s, No (Lacks Send)) (if_none (barred 1 word) (λ b. (s, No (Guarded b))) (if_holds (nat_lt (length box) 8) (s, No (Exhausted Mailbox)) (put s to.uid (box ++ word ∷ []), Done)))))
post_keeps s to word None r e = refl
post_keeps s to word (Some box) r e = posted_keeps s (put s to.uid (box ++ word ∷ [])) (has to Send) (barred 1 word) (nat_lt (length box) 8) r e

draw_keeps : (s : BoxState) (u : ℕ) (o : Option (List Word)) → Keeps s (if_there o (s, No Empty) (λ box. drawn_from s u box))
draw_keeps s u None r e = refl
draw_keeps s u (Some []) r e = refl
draw_keeps s u (Some (word ∷ rest)) r e = cc

keeps12 : (s : BoxState) (call : LevelCall) → Keeps s (act12 s call)
keeps12 s (Post to word) r e = post_keeps s to word (at s to.uid) r e
keeps12 s (Draw uid) r e = draw_keeps s uid.0 (at s uid.0) r e
keeps12 s _ r e = refl

keeps11 : (s : LifeState) (call : LevelCall) → Keeps s (act11 s call)
keeps11 s (Enrol uid kind) r e = cc
keeps11 s (Forget uid) r e = cc
keeps11 s _ r e = refl

keeps10 : (s : DirState) (call : LevelCall) → Keeps s (act10 s call)
keeps10 s (DirMake uid guard) r e = cc
keeps10 s (DirGone uid) r e = cc
keeps10 s _ r e = refl

gone_keeps : (s t : TypeState) (none : Bool) → Keeps s (if_holds none (s, No NotEmpty) (t, Done))
gone_keeps s t false r e = refl
gone_keeps s t true r e = cc

keeps9 : (s : TypeState) (call : LevelCall) → Keeps s (act9 s call)
keeps9 s (TypeMake uid) r e = cc
keeps9 s (ObjMake uid of rep) r e = cc
keeps9 s (ObjGone uid) r e = cc
keeps9 s (TypeGone uid) r e = gone_keeps s (record s { types = without s.types uid.0 }) (not (has_objects s uid.0)) r e
keeps9 s _ r e = refl

keeps8 : (s : SegState) (call : LevelCall) → Keeps s (act8 s call)
keeps8 s (SegMake uid slot len guard) r e = cc
keeps8 s (SegGone uid) r e = cc
keeps8 s (WinMake uid cap base len) r e = cc
keeps8 s _ r e = refl

keeps7 : (p : Pages) (call : LevelCall) → Keeps p (act7 p call)
keeps7 p PageTake r e = cc
keeps7 p (PageDrop slot) r e = cc
keeps7 p (WordPut page off word) r e = cc
keeps7 p (FourPut page off words) r e = cc
keeps7 p _ r e = refl

-- ---- all levels

keeps_at : (level : Level) (l : Levels) (call : LevelCall) → Keeps l (act_at level l call)
keeps_at L13 l call r e = ap (λ (s : CodeState). (let m : Levels = record l { codes = s } in m)) (keeps13 l.codes call r e)
keeps_at L12 l call r e = ap (λ (s : BoxState). (let m : Levels = record l { boxes = s } in m)) (keeps12 l.boxes call r e)
keeps_at L11 l call r e = ap (λ (s : LifeState). (let m : Levels = record l { life = s } in m)) (keeps11 l.life call r e)
keeps_at L10 l call r e = ap (λ (s : DirState). (let m : Levels = record l { dirs = s } in m)) (keeps10 l.dirs call r e)
keeps_at L9 l call r e = ap (λ (s : TypeState). (let m : Levels = record l { types = s } in m)) (keeps9 l.types call r e)
keeps_at L8 l call r e = ap (λ (s : SegState). (let m : Levels = record l { segs = s } in m)) (keeps8 l.segs call r e)
keeps_at L7 l call r e = ap (λ (p : Pages). (let m : Levels = record l { pages = p } in m)) (keeps7 l.pages call r e)
keeps_at L0 l call r e = cc

pub refused_calls_change_nothing : RefusedCallsChangeNothing
refused_calls_change_nothing l call r e = keeps_at (level_of call) l call r e
