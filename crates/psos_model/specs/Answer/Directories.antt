-- Outcomes of directories and name spaces. States docs/requests.md, "Answers".
use Rattle.std.specs.Prelude.{ℕ, not, nat_lt, List, [], ◌∷◌, length, None}
use Rattle.std.specs.FinMap.{keys}
use Rattle.psos_limits.specs.declared.TheConstants.{MOST_PATH}
use Rattle.psos_table.specs.Table.{at}
use Rattle.psos_caps.specs.Capability.{Capability}
use Rattle.psos_text.specs.declared.name.Name.{Name}
use Rattle.psos_words.specs.declared.word.Word.TheVariants as words
use Rattle.psos_words.specs.Words.{word_at}
use Rattle.psos_words.specs.Guard.{barred}
use Rattle.psos_calls.specs.declared.right.Right.TheVariants as rights
use Rattle.psos_calls.specs.declared.tab.Tab.TheVariants.{Path}
use Rattle.psos_calls.specs.declared.refusal.Refusal.TheVariants.{NotCap, Guarded, UnknownName, Distinguished, Exhausted}
use Rattle.psos_calls.specs.declared.reply.Reply.TheVariants as replies
use Rattle.psos_calls.specs.declared.effect.Effect.TheVariants.{Nothing, Push}
use Rattle.psos_calls.specs.Language.Rights.{has}
use Rattle.psos_calls.specs.Language.Tests.{if_there, if_none, if_cap, if_holds}
use Rattle.psos_calls.specs.Language.User.{User, here}
use Rattle.psos_calls.specs.Language.Capabilities.{uid}
use Rattle.psos_model.specs.declared.place.Place.TheVariants.{DirName}
use Rattle.psos_model.specs.Flat.{Flat, named}
use Rattle.psos_model.specs.Flat.Places.{reg_place}
use Rattle.psos_model.specs.declared.change.Change.TheVariants.{Bind, Unbind}
use Rattle.psos_model.specs.Answer.Outcomes.{Outcome, refuse, gives, does, by, own, if_dir, if_room}

abbrev pub answer_lookup : Flat → User → ℕ → ℕ → Name → Outcome
answer_lookup f x rd rs name =
    if_cap (word_at (here x) rs) (refuse NotCap) (λ cap.
    if_dir f cap rights.Lookup (λ d.
    if_there (named d name) (refuse UnknownName) (λ e.
    gives [] rd (words.Cap e.cap) (by (DirName (uid cap.uid) name) rights.Lookup))))

abbrev pub answer_bind : Flat → User → ℕ → Name → ℕ → Outcome
answer_bind f x rs name rv =
    if_cap (word_at (here x) rs) (refuse NotCap) (λ cap.
    if_cap (word_at (here x) rv) (refuse NotCap) (λ value.
    if_dir f cap rights.Bind (λ d.
    if_none (barred d.guard.0 (words.Cap value)) (λ b. refuse (Guarded b)) (
    if_room d name (
    does (Bind cap.uid name value ∷ []) (own (reg_place x x.frames rv)))))))

abbrev pub answer_unbind : Flat → User → ℕ → Name → Outcome
answer_unbind f x rs name =
    if_cap (word_at (here x) rs) (refuse NotCap) (λ cap.
    if_dir f cap rights.Unbind (λ d.
    if_there (named d name) (refuse UnknownName) (λ e.
    if_holds (not e.kept) (refuse Distinguished) (
    does (Unbind cap.uid name ∷ []) None))))

abbrev pub answer_list : Flat → User → ℕ → Outcome
answer_list f x rs =
    if_cap (word_at (here x) rs) (refuse NotCap) (λ cap.
    if_dir f cap rights.List (λ d.
    record { changes = []; effect = Nothing; source = None; reply = replies.Names (keys d.names) }))

abbrev pub answer_path : Flat → User → ℕ → Outcome
answer_path f x rs =
    if_cap (word_at (here x) rs) (refuse NotCap) (λ cap.
    if_holds (nat_lt (length x.path) MOST_PATH) (refuse (Exhausted Path)) (
    if_dir f cap rights.Lookup (λ d.
    record { changes = []; effect = Push cap; source = own (reg_place x x.frames rs); reply = replies.Fine })))

-- the first of these directories that is live, may be looked up and has the name
abbrev pub find_in : Flat → List Capability → ℕ → Name → Outcome
find_in f [] rd name = refuse UnknownName
find_in f (dir ∷ rest) rd name =
    if_there (at f.dirs dir.uid) (find_in f rest rd name) (λ d.
    if_holds (has dir rights.Lookup) (find_in f rest rd name) (
    if_there (named d name) (find_in f rest rd name) (λ e.
    gives [] rd (words.Cap e.cap) (by (DirName (uid dir.uid) name) rights.Lookup))))

abbrev pub answer_find : Flat → User → ℕ → Name → Outcome
answer_find f x rd name = find_in f x.path rd name
