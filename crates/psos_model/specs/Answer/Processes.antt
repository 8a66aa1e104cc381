-- Outcomes of processes and procedure records. States docs/requests.md, "Answers".
use Rattle.std.specs.Prelude.{ℕ, ◌+◌, List, [], ◌∷◌, length, nat_lt, nat_le}
use Rattle.psos_limits.specs.declared.TheConstants.{MOST_CHARGE, CALL_CHARGE, MOST_FRAMES, MOST_MESSAGES}
use Rattle.psos_table.specs.Table.{at}
use Rattle.psos_words.specs.declared.word.Word.{Word}
use Rattle.psos_words.specs.Words.{word_at}
use Rattle.psos_words.specs.Guard.{barred}
use Rattle.psos_calls.specs.declared.kind.Kind.TheVariants as kinds
use Rattle.psos_calls.specs.declared.right.Right.TheVariants as rights
use Rattle.psos_calls.specs.declared.tab.Tab.TheVariants.{Mailbox, Frames, Requests}
use Rattle.psos_calls.specs.declared.refusal.Refusal.TheVariants.{NotCap, Absent, Lacks, Guarded, Exhausted, Empty}
use Rattle.psos_calls.specs.declared.reply.Reply.TheVariants.{Fine}
use Rattle.psos_calls.specs.declared.effect.Effect.TheVariants.{Enter}
use Rattle.psos_calls.specs.Language.Rights.{has}
use Rattle.psos_calls.specs.Language.Tests.{if_there, if_none, if_cap, if_holds}
use Rattle.psos_calls.specs.Language.User.{User, here}
use Rattle.psos_calls.specs.Language.Capabilities.{uid}
use Rattle.psos_model.specs.declared.place.Place.TheVariants.{BoxAt, Link}
use Rattle.psos_model.specs.Flat.{Flat}
use Rattle.psos_model.specs.Flat.Places.{reg_place}
use Rattle.psos_model.specs.declared.change.Change.TheVariants.{Post, Draw}
use Rattle.psos_model.specs.Answer.Outcomes.{Outcome, refuse, gives, does, by, own}

abbrev pub answer_send : Flat → User → ℕ → ℕ → Outcome
answer_send f x rp rv =
    if_cap (word_at (here x) rp) (refuse NotCap) (λ to.
    if_there (at f.boxes to.uid) (refuse (Absent kinds.Process)) (λ box.
    if_holds (has to rights.Send) (refuse (Lacks rights.Send)) (
    if_none (barred 1 (word_at (here x) rv)) (λ b. refuse (Guarded b)) (
    if_holds (nat_lt (length box) MOST_MESSAGES) (refuse (Exhausted Mailbox)) (
    does (Post to.uid (word_at (here x) rv) ∷ []) (own (reg_place x x.frames rv)))))))

-- the first message of the own mailbox
abbrev pub received : ℕ → ℕ → List Word → Outcome
received process rd [] = refuse Empty
received process rd (w ∷ rest) = gives (Draw process ∷ []) rd w (own (BoxAt (uid process) 0))

abbrev pub answer_recv : Flat → User → ℕ → Outcome
answer_recv f x rd = if_there (at f.boxes x.process) (refuse Empty) (λ box. received x.process rd box)

abbrev pub answer_call : Flat → User → ℕ → Outcome
answer_call f x rp =
    if_cap (word_at (here x) rp) (refuse NotCap) (λ cap.
    if_holds (nat_lt (length x.frames) MOST_FRAMES) (refuse (Exhausted Frames)) (
    if_holds (nat_le (x.charge + CALL_CHARGE) MOST_CHARGE) (refuse (Exhausted Requests)) (
    if_there (at f.codes cap.uid) (refuse (Absent kinds.Code)) (λ code.
    if_holds (has cap rights.Enter) (refuse (Lacks rights.Enter)) (
    record { changes = []; effect = Enter code.label code.link; source = by (Link (uid cap.uid)) rights.Enter; reply = Fine })))))
