-- Plans of processes and procedure records. States docs/requests.md, "Plans".
use Rattle.std.specs.Prelude.{ℕ, ◌+◌, List, length, nat_lt, nat_le}
use Rattle.psos_limits.specs.declared.TheConstants.{MOST_CHARGE, CALL_CHARGE, MOST_FRAMES}
use Rattle.psos_words.specs.declared.word.Word.{Word}
use Rattle.psos_words.specs.Words.{word_at}
use Rattle.psos_calls.specs.declared.tab.Tab.TheVariants.{Frames, Requests}
use Rattle.psos_calls.specs.declared.refusal.Refusal.TheVariants.{NotCap, Exhausted}
use Rattle.psos_calls.specs.declared.reply.Reply.TheVariants as replies
use Rattle.psos_calls.specs.declared.effect.Effect.TheVariants as effects
use Rattle.psos_calls.specs.declared.level_call.LevelCall.TheVariants.{Post, Draw, Enter}
use Rattle.psos_calls.specs.Language.Tests.{if_cap, if_holds}
use Rattle.psos_calls.specs.Language.User.{User}
use Rattle.psos_calls.specs.Plan.{Plan, Close, Ask, refuse, give, if_done, if_got, if_entered}
use Rattle.psos_calls.specs.Language.Capabilities.{uid}
use Rattle.psos_calls.specs.Plan.Parts.{fine}

abbrev pub plan_send : List Word → ℕ → ℕ → Plan
plan_send r rp rv = if_cap (word_at r rp) (refuse NotCap) (λ to. Ask (Post to (word_at r rv)) (λ a. if_done a fine))

abbrev pub plan_recv : ℕ → ℕ → Plan
plan_recv process rd = Ask (Draw (uid process)) (λ a. if_got a (λ w. give rd w))

-- at most 4 bodies are open, and at most 4,096 requests are charged
abbrev pub plan_call : User → List Word → ℕ → Plan
plan_call me r rp =
    if_cap (word_at r rp) (refuse NotCap) (λ cap.
    if_holds (nat_lt (length me.frames) MOST_FRAMES) (refuse (Exhausted Frames)) (
    if_holds (nat_le (me.charge + CALL_CHARGE) MOST_CHARGE) (refuse (Exhausted Requests)) (
    Ask (Enter cap) (λ a. if_entered a (λ label link.
    Close replies.Fine (effects.Enter label link))))))
