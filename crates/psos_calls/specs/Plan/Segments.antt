-- Plans of registers, segments and windows. States docs/requests.md, "Plans".
use Rattle.std.specs.Prelude.{ℕ, ◌+◌, ◌^◌, List, Some, None, nat_lt}
use Rattle.psos_caps.specs.Capability.{restricted}
use Rattle.psos_words.specs.declared.word.Word.{Word}
use Rattle.psos_words.specs.declared.word.Word.TheVariants as words
use Rattle.psos_words.specs.Words.{word_at}
use Rattle.psos_calls.specs.declared.right.Right.TheVariants as rights
use Rattle.psos_calls.specs.declared.refusal.Refusal.TheVariants.{NotCap, NotData, Overflow}
use Rattle.psos_calls.specs.declared.level_call.LevelCall.TheVariants.{Locate, WinRoom, WinMake, Length, WordGet, WordPut}
use Rattle.psos_calls.specs.Language.Tests.{if_cap, if_data, if_holds}
use Rattle.psos_calls.specs.Plan.{Plan, Ask, refuse, give, if_done, if_at, if_got, if_len}
use Rattle.psos_calls.specs.Language.Capabilities.{uid}
use Rattle.psos_calls.specs.Plan.Parts.{with_fresh, fine}

-- r is the list of the registers that requests name

abbrev pub plan_mint : ℕ → Plan
plan_mint rd = with_fresh (λ new. give rd (words.Cap new))

abbrev pub plan_restrict : List Word → ℕ → ℕ → ℕ → Plan
plan_restrict r rd rs keep = if_cap (word_at r rs) (refuse NotCap) (λ cap. give rd (words.Cap (restricted cap keep)))

abbrev pub plan_set : ℕ → ℕ → Plan
plan_set rd n = give rd (words.Data n)

abbrev pub plan_move : List Word → ℕ → ℕ → Plan
plan_move r rd rs = give rd (word_at r rs)

abbrev pub plan_add : List Word → ℕ → ℕ → ℕ → Plan
plan_add r rd ra rb =
    if_data (word_at r ra) (refuse NotData) (λ a.
    if_data (word_at r rb) (refuse NotData) (λ b.
    if_holds (nat_lt (a + b) (2 ^ 64)) (refuse Overflow) (
    give rd (words.Data (a + b)))))

abbrev pub plan_read : List Word → ℕ → ℕ → ℕ → Plan
plan_read r rd rs n =
    if_cap (word_at r rs) (refuse NotCap) (λ cap.
    Ask (Locate cap n rights.Read None) (λ a. if_at a (λ page off.
    Ask (WordGet page off) (λ b. if_got b (λ w.
    give rd w)))))

abbrev pub plan_write : List Word → ℕ → ℕ → ℕ → Plan
plan_write r rs n rv =
    if_cap (word_at r rs) (refuse NotCap) (λ cap.
    Ask (Locate cap n rights.Write (Some (word_at r rv))) (λ a. if_at a (λ page off.
    Ask (WordPut page off (word_at r rv)) (λ b. if_done b fine))))

abbrev pub plan_window : List Word → ℕ → ℕ → ℕ → ℕ → Plan
plan_window r rd rs base len =
    if_cap (word_at r rs) (refuse NotCap) (λ cap.
    Ask (WinRoom cap base len) (λ a. if_done a (
    with_fresh (λ new.
    Ask (WinMake (uid new.uid) cap base len) (λ b. if_done b (
    give rd (words.Cap (record { uid = new.uid; rights = cap.rights }))))))))

abbrev pub plan_length : List Word → ℕ → ℕ → Plan
plan_length r rd rs =
    if_cap (word_at r rs) (refuse NotCap) (λ cap.
    Ask (Length cap) (λ a. if_len a (λ n. give rd (words.Data n))))
