-- What a user of a well-formed script asks has its operands in range, and its counts have room.
use Rattle.std.proofs.Common.{◌≡◌, ℕ, zero, suc, ◌<◌, ◌≤◌, List, [], ◌∷◌, ◌++◌, length, Some, subst, arith}
use Rattle.std.specs.Prelude.{slice_get, slice_index_or}
use Rattle.std.specs.List.{AllByRecursion, flat_map}
use Rattle.std.proofs.lemmas.Option.{same_Some, none-some}
use Rattle.psos_calls.specs.declared.frame.Frame.{Frame}
use Rattle.psos_calls.specs.declared.request.Request.{Request}
use Rattle.psos_calls.specs.declared.request.Request.TheVariants.{Mint, Restrict, Set, Move, Add, Read, Write, Window, Length, Lookup, Bind, Unbind, List as Listing, Impl, MkSeg, MkDir, MkType, MkObj, MkCode, Delete, Send, Recv, Call, Path, Find}
use Rattle.psos_calls.specs.Language.Request.{InRange}
use Rattle.psos_calls.specs.Language.Script.{Script, UserScript, CodeBlock, IsWellFormed, IsUserScript, IsCodeBlock, requests_of, user_script, body_of}
use Rattle.psos_calls.specs.Language.User.{User, next_request, next_in, CanCount}
use Rattle.psos_model.specs.Answer.CanStep.{HasRoom}

module _ {X : Type 0} where
  pub all_map : (P Q : X → Type 0) → ((x : X) → P x → Q x) → (xs : List X) → AllByRecursion P xs → AllByRecursion Q xs
  all_map P Q h [] a = a
  all_map P Q h (x ∷ xs) a = (h x a.0, all_map P Q h xs a.1)

  pub all_get : (P : X → Type 0) (xs : List X) (i : ℕ) (x : X) → AllByRecursion P xs → slice_get xs i ≡ Some x → P x
  all_get P [] i x a e = absurd (none-some x e)
  all_get P (y ∷ ys) zero x a e = subst P (same_Some y x e) a.0
  all_get P (y ∷ ys) (suc i) x a e = all_get P ys i x a.1 e

  pub all_index : (P : X → Type 0) (xs : List X) (i : ℕ) (d : X) → AllByRecursion P xs → P d → P (slice_index_or xs i d)
  all_index P [] i d a p = p
  all_index P (x ∷ xs) zero d a p = a.0
  all_index P (x ∷ xs) (suc i) d a p = all_index P xs i d a.1 p

  all_append : (P : X → Type 0) (xs ys : List X) → AllByRecursion P xs → AllByRecursion P ys → AllByRecursion P (xs ++ ys)
  all_append P [] ys a b = b
  all_append P (x ∷ xs) ys a b = (a.0, all_append P xs ys a.1 b)

  all_flat : (P : X → Type 0) (ps : List (List X)) → AllByRecursion (AllByRecursion P) ps → AllByRecursion P (flat_map (λ p. p) ps)
  all_flat P [] a = a
  all_flat P (p ∷ ps) a = all_append P p (flat_map (λ p. p) ps) a.0 (all_flat P ps a.1)

  -- a place that has an element lies within the list
  pub got_within : (xs : List X) (i : ℕ) (x : X) → slice_get xs i ≡ Some x → i < length xs
  got_within [] i x e = absurd (none-some x e)
  got_within (y ∷ ys) zero x e = omega arith
  got_within (y ∷ ys) (suc i) x e = omega (arith, got_within ys i x e)

-- ---- operands

requests_fit : (s : Script) → IsWellFormed s → (u : ℕ) → AllByRecursion (InRange (length s.codes)) (requests_of (user_script s u))
requests_fit s w u =
    let P = InRange (length s.codes) in
    all_index (λ (x : UserScript). AllByRecursion P (requests_of x)) s.users u (record { name = []; phases = [] })
    (all_map (IsUserScript (length s.codes)) (λ (x : UserScript). AllByRecursion P (requests_of x)) (λ x is. all_flat P x.phases is.in_range) s.users w.users) tt

pub body_fits : (s : Script) → IsWellFormed s → (label : ℕ) → AllByRecursion (InRange (length s.codes)) (body_of s label) × (length (body_of s label) ≤ 16)
body_fits s w label =
    let P = InRange (length s.codes) in
    let Q : CodeBlock → Type 0 = λ code. AllByRecursion P code.body × (length code.body ≤ 16) in
    all_index Q s.codes label (record { label = []; body = [] }) (all_map (IsCodeBlock (length s.codes)) Q (λ code is. (is.in_range, is.few)) s.codes w.codes) (tt, omega arith)

fits_in_frames : (s : Script) → IsWellFormed s → (x : User) (frames : List Frame) (r : Request) → next_in s x frames ≡ Some r → InRange (length s.codes) r
fits_in_frames s w x [] r e = all_get (InRange (length s.codes)) (requests_of (user_script s x.number)) x.answered r (requests_fit s w x.number) e
fits_in_frames s w x (q ∷ outer) r e = all_get (InRange (length s.codes)) (body_of s q.label) q.line r (body_fits s w q.label).0 e

more : (n : ℕ) → n ≤ 64 → (r : Request) → InRange n r → InRange 64 r
more n few (Mint rd) h = h
more n few (Restrict rd rs keep) h = h
more n few (Set rd m) h = h
more n few (Move rd rs) h = h
more n few (Add rd ra rb) h = h
more n few (Read rd rs m) h = h
more n few (Write rs m rv) h = h
more n few (Window rd rs base span) h = h
more n few (Length rd rs) h = h
more n few (Lookup rd rs name) h = h
more n few (Bind rs name rv) h = h
more n few (Unbind rs name) h = h
more n few (Listing rs) h = h
more n few (Impl rd rt ro) h = h
more n few (MkSeg rd rs name span guard) h = h
more n few (MkDir rd rs name guard) h = h
more n few (MkType rd rs name) h = h
more n few (MkObj rd rt rs name span) h = h
more n few (MkCode rd rs name label rl) h =
    let below : label < 64 = omega (arith, few, h.3) in
    (h.0, h.1, h.2, below, h.4)
more n few (Delete rs name) h = h
more n few (Send rp rv) h = h
more n few (Recv rd) h = h
more n few (Call rp) h = h
more n few (Path rs) h = h
more n few (Find rd name) h = h

-- every request that comes next has its operands in range, and labels are blocks of the script
pub asked_in_range : (s : Script) → IsWellFormed s → (x : User) (r : Request) → next_request s x ≡ Some r → InRange (length s.codes) r
asked_in_range s w x r e = fits_in_frames s w x x.frames r e

-- and so it is where the script has as many blocks as it may
pub in_range : (s : Script) → IsWellFormed s → (x : User) (r : Request) → next_request s x ≡ Some r → InRange 64 r
in_range s w x r e = more (length s.codes) w.few_codes r (fits_in_frames s w x x.frames r e)

-- ---- counts

count_in : (s : Script) → IsWellFormed s → (x : User) (frames : List Frame) → HasRoom x frames → (r : Request) → next_in s x frames ≡ Some r → CanCount x frames
count_in s w x [] room r e = room
count_in s w x (q ∷ outer) room r e =
    let line = got_within (body_of s q.label) q.line r e in
    (room, omega (arith, line, (body_fits s w q.label).1))

-- the count of the request that comes next has room
pub can_count : (s : Script) → IsWellFormed s → (x : User) → HasRoom x x.frames → (r : Request) → next_request s x ≡ Some r → CanCount x x.frames
can_count s w x room r e = count_in s w x x.frames room r e
