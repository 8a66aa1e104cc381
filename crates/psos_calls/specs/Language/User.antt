-- A user's own part, and what the close of a request changes in it. States docs/system.md, "A user's own part".
use Rattle.std.specs.Prelude.{◌+◌, ◌<◌, ◌^◌, ℕ, Bool, false, List, [], ◌∷◌, ◌++◌, length, slice_get, slice_set, if◌then◌else◌, nat_le, Option, Some, None}
use Rattle.psos_limits.specs.declared.TheConstants.{CALL_CHARGE, MOST_PATH, MOST_FRAMES}
use Rattle.psos_caps.specs.Capability.{Capability}
use Rattle.psos_words.specs.declared.word.Word.{Word}
use Rattle.psos_words.specs.Words.{zeros, word_at}
use Rattle.psos_calls.specs.declared.request.Request.{Request}
use Rattle.psos_calls.specs.declared.effect.Effect.{Effect}
use Rattle.psos_calls.specs.declared.effect.Effect.TheVariants.{Nothing, Put, Push, Enter}
use Rattle.psos_calls.specs.declared.frame.Frame.{Frame}
use Rattle.psos_calls.specs.Language.Script.{Script, requests_of, user_script, body_of}

-- its number and process, the counts of its requests, its registers, its open bodies with the innermost first, and its name space
pub record User : Type 0 where
  pub number : ℕ
  pub process : ℕ
  pub answered : ℕ
  pub charge : ℕ
  pub within : ℕ
  pub regs : List Word
  pub frames : List Frame
  pub path : List Capability

-- ---- what the user asks next

-- the next line of the innermost open body, else the next script request
abbrev pub next_in : Script → User → List Frame → Option Request
next_in s x [] = slice_get (requests_of (user_script s x.number)) x.answered
next_in s x (q ∷ outer) = slice_get (body_of s q.label) q.line

abbrev pub next_request : Script → User → Option Request
next_request s x = next_in s x x.frames

-- the place n or n/m of that request; m is 0 outside of bodies
abbrev pub place_in : User → List Frame → ℕ × ℕ
place_in x [] = (x.answered + 1, 0)
place_in x (q ∷ outer) = (x.answered, x.within + 1)

abbrev pub place_of : User → ℕ × ℕ
place_of x = place_in x x.frames

-- the registers that it names: the innermost open body's, or the user's own
abbrev pub regs_in : List Frame → List Word → List Word
regs_in [] own = own
regs_in (q ∷ outer) own = q.regs

abbrev pub here : User → List Word
here x = regs_in x.frames x.regs

-- the code block of the innermost open body, and how many of its lines are answered
abbrev pub label_and_line : List Frame → Option (ℕ × ℕ)
label_and_line [] = None
label_and_line (q ∷ outer) = Some (q.label, q.line)

-- ---- what its close changes: it is counted, then the effect is made, then bodies end

-- a line of the innermost open body is counted, or a script request
abbrev pub counted : User → List Frame → User
counted x [] = record x { answered = x.answered + 1; within = 0 }
counted x (q ∷ outer) = record x { within = x.within + 1; frames = record q { line = q.line + 1 } ∷ outer }

-- a word goes into a register of the innermost open body, or of the user
abbrev pub with_reg : User → List Frame → ℕ → Word → User
with_reg x [] i w = record x { regs = slice_set x.regs i w }
with_reg x (q ∷ outer) i w = record x { frames = record q { regs = slice_set q.regs i w } ∷ outer }

-- the registers of a body that is entered: r4 to r7 are the caller's, r14 is the linkage, all others are data 0
abbrev pub entered_regs : List Word → Word → List Word
entered_regs r link =
    slice_set (slice_set (slice_set (slice_set (slice_set (zeros 16) 4 (word_at r 4)) 5 (word_at r 5)) 6 (word_at r 6)) 7 (word_at r 7)) 14 link

abbrev pub settled : User → Effect → User
settled x Nothing = x
settled x (Put i w) = with_reg x x.frames i w
settled x (Push cap) = record x { path = x.path ++ cap ∷ [] }
settled x (Enter label link) =
    record x { charge = x.charge + CALL_CHARGE; frames = record { regs = entered_regs (here x) link; label = label; line = 0 } ∷ x.frames }

-- the innermost open body has no line left
abbrev pub is_over : Script → List Frame → Bool
is_over s [] = false
is_over s (q ∷ outer) = nat_le (length (body_of s q.label)) q.line

-- a body whose last line is answered goes on no more; the word goes to r4 of the next one that does, or of the user
abbrev pub outward : Script → User → List Frame → Word → User
outward s x [] w = record x { regs = slice_set x.regs 4 w; frames = [] }
outward s x (q ∷ outer) w =
    if nat_le (length (body_of s q.label)) q.line then outward s x outer w
    else record x { frames = record q { regs = slice_set q.regs 4 w } ∷ outer }

-- where the innermost open body has no line left it ends, and its r4 is copied outward
abbrev pub ended : Script → User → List Frame → User
ended s x [] = x
ended s x (q ∷ outer) =
    if nat_le (length (body_of s q.label)) q.line then outward s x outer (word_at q.regs 4) else x

-- a user's part after a request that closes with this effect
abbrev pub after : Script → User → Effect → User
after s x e = let y = settled (counted x x.frames) e in ended s y y.frames

-- ---- where a request can close

-- the count that rises has room in its type
abbrev pub CanCount : User → List Frame → Type 0
CanCount x [] = x.answered + 1 < 2 ^ 16
CanCount x (q ∷ outer) = (x.within + 1 < 2 ^ 16) × (q.line + 1 < 2 ^ 8)

-- a register that is written is one of the sixteen, and there is room for a directory, a charge and a body
abbrev pub CanMake : User → Effect → Type 0
CanMake x Nothing = Unit {0}
CanMake x (Put i word) = i < 16
CanMake x (Push cap) = length x.path < MOST_PATH
CanMake x (Enter label link) = (x.charge + CALL_CHARGE < 2 ^ 16) × (length x.frames < MOST_FRAMES)

pub record CanSettle (x : User) (e : Effect) : Type 0 where
  pub count : CanCount x x.frames
  pub make : CanMake x e
