-- The tests that level calls, plans and answers are written in: refusals stand from left to right.
use Rattle.std.specs.Prelude.{ℕ, Bool, if◌then◌else◌, Option, Some, None}
use Rattle.psos_caps.specs.Capability.{Capability}
use Rattle.psos_words.specs.declared.word.Word.{Word}
use Rattle.psos_words.specs.declared.word.Word.TheVariants.{Data, Cap}

-- it is there, or not
abbrev pub if_there : {X A : Type 0} → Option X → A → (X → A) → A
if_there None none some = none
if_there (Some x) none some = some x

-- it is not there, or it is
abbrev pub if_none : {X A : Type 0} → Option X → (X → A) → A → A
if_none None some none = none
if_none (Some x) some none = some x

-- the word is a capability, or not
abbrev pub if_cap : {A : Type 0} → Word → A → (Capability → A) → A
if_cap (Data n) other go = other
if_cap (Cap cap) other go = go cap

-- the word is data, or not
abbrev pub if_data : {A : Type 0} → Word → A → (ℕ → A) → A
if_data (Data n) other go = go n
if_data (Cap cap) other go = other

-- the test passes, or not
abbrev pub if_holds : {A : Type 0} → Bool → A → A → A
if_holds test other go = if test then go else other
