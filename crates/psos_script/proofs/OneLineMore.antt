-- The lines of what is read, with one line more.
use Rattle.std.proofs.Common.{◌≡◌, ◌≢◌, ℕ, List, [], ◌∷◌, ◌++◌, refl, sym, ap, ◌∙◌, append_assoc}
use Rattle.std.specs.Prelude.{codes}
use Rattle.std.specs.List.{flat_map}
use Rattle.std.proofs.lemmas.List.{append-nil, map-append}
use Rattle.std.proofs.lemmas.Grind.{flat_map-append}
use Rattle.psos_calls.specs.declared.request.Request.{Request}
use Rattle.psos_calls.specs.Language.Script.{CodeBlock, UserScript}
use Rattle.psos_model.specs.Text.Operands.{Text}
use Rattle.psos_model.specs.Text.RequestWords.{request_words}
use Rattle.psos_model.specs.Text.Spelling.{requests_lines, code_lines, later_lines, phases_lines, user_lines}
use Rattle.psos_script.specs.Draft.{Read, Pending, NonePending, BodyPending, UserPending, added, phased, with_now, with_code, with_user, closed}
use Rattle.psos_script.proofs.DraftShape.{pending_lines, read_lines}

-- ---- one request more

more_requests : (labels : List Text) (rs : List Request) (r : Request) → requests_lines labels (rs ++ r ∷ []) ≡ requests_lines labels rs ++ request_words labels r ∷ []
more_requests labels rs r = map-append (request_words labels) rs (r ∷ [])

last_phase : (labels : List Text) (phases : List (List Request)) (rs : List Request) (r : Request) → phases_lines labels (phases ++ (rs ++ r ∷ []) ∷ []) ≡ phases_lines labels (phases ++ rs ∷ []) ++ request_words labels r ∷ []
last_phase labels [] rs r = append-nil (requests_lines labels (rs ++ r ∷ [])) ∙ more_requests labels rs r ∙ ap (λ (ls : List (List Text)). ls ++ request_words labels r ∷ []) (sym (append-nil (requests_lines labels rs)))
last_phase labels (first ∷ later) rs r =
    let line = request_words labels r ∷ [] in
    let new : flat_map (later_lines labels) (later ++ (rs ++ r ∷ []) ∷ []) ≡ flat_map (later_lines labels) (later ++ rs ∷ []) ++ line =
    flat_map-append (later_lines labels) later ((rs ++ r ∷ []) ∷ [])
    ∙ ap (λ (ls : List (List Text)). flat_map (later_lines labels) later ++ ((codes "phase" ∷ []) ∷ (ls ++ []))) (more_requests labels rs r)
    ∙ ap (λ (ls : List (List Text)). flat_map (later_lines labels) later ++ ((codes "phase" ∷ []) ∷ ls)) (append-nil (requests_lines labels rs ++ line) ∙ ap (λ (ls : List (List Text)). ls ++ line) (sym (append-nil (requests_lines labels rs))))
    ∙ sym (append_assoc (flat_map (later_lines labels) later) (later_lines labels rs ++ []) line)
    ∙ ap (λ (ls : List (List Text)). ls ++ line) (sym (flat_map-append (later_lines labels) later (rs ∷ []))) in
    ap (λ (ls : List (List Text)). requests_lines labels first ++ ls) new ∙ sym (append_assoc (requests_lines labels first) (flat_map (later_lines labels) (later ++ rs ∷ [])) line)

-- what stands before stays
behind : (a b c line : List (List Text)) → c ≡ b ++ line → (us : List (List Text)) → a ++ (us ++ c) ≡ (a ++ (us ++ b)) ++ line
behind a b c line e us = rw e (ap (λ (x : List (List Text)). a ++ x) (sym (append_assoc us b line)) ∙ sym (append_assoc a (us ++ b) line))

-- a request more
pub asked_lines : (labels : List Text) (d : Read) (o : Pending) (r : Request) → o ≢ NonePending → read_lines labels (with_now d (added o r)) ≡ read_lines labels (with_now d o) ++ request_words labels r ∷ []
asked_lines labels d NonePending r h = absurd (h refl)
asked_lines labels d (BodyPending label body) r h =
    behind (flat_map (code_lines labels) d.codes) (pending_lines labels (BodyPending label body)) (pending_lines labels (added (BodyPending label body) r)) (request_words labels r ∷ []) (ap (λ (ls : List (List Text)). (codes "code" ∷ label ∷ []) ∷ ls) (more_requests labels body r)) (flat_map (user_lines labels) d.users)
asked_lines labels d (UserPending name phases requests count) r h =
    behind (flat_map (code_lines labels) d.codes) (pending_lines labels (UserPending name phases requests count)) (pending_lines labels (added (UserPending name phases requests count) r)) (request_words labels r ∷ []) (ap (λ (ls : List (List Text)). (codes "user" ∷ name ∷ []) ∷ ls) (last_phase labels phases requests r)) (flat_map (user_lines labels) d.users)

-- ---- `phase`

next_phase : (labels : List Text) (phases : List (List Request)) (rs : List Request) → phases_lines labels ((phases ++ rs ∷ []) ++ [] ∷ []) ≡ phases_lines labels (phases ++ rs ∷ []) ++ (codes "phase" ∷ []) ∷ []
next_phase labels [] rs = ap (λ (ls : List (List Text)). ls ++ (codes "phase" ∷ []) ∷ []) (sym (append-nil (requests_lines labels rs)))
next_phase labels (first ∷ later) rs =
    ap (λ (ls : List (List Text)). requests_lines labels first ++ ls) (flat_map-append (later_lines labels) (later ++ rs ∷ []) ([] ∷ []))
    ∙ sym (append_assoc (requests_lines labels first) (flat_map (later_lines labels) (later ++ rs ∷ [])) ((codes "phase" ∷ []) ∷ []))

-- a phase more
pub phased_lines : (labels : List Text) (d : Read) (name : Text) (phases : List (List Request)) (rs : List Request) (count : ℕ)
    → read_lines labels (with_now d (phased (UserPending name phases rs count))) ≡ read_lines labels (with_now d (UserPending name phases rs count)) ++ (codes "phase" ∷ []) ∷ []
phased_lines labels d name phases rs count =
    behind (flat_map (code_lines labels) d.codes) (pending_lines labels (UserPending name phases rs count)) (pending_lines labels (phased (UserPending name phases rs count))) ((codes "phase" ∷ []) ∷ []) (ap (λ (ls : List (List Text)). (codes "user" ∷ name ∷ []) ∷ ls) (next_phase labels phases rs)) (flat_map (user_lines labels) d.users)

-- ---- `end`, `code` and `user`

-- what is unfinished is finished: a block has `end` behind it
pub ended_lines : (labels : List Text) (d : Read) (label : Text) (body : List Request) → d.users ≡ []
    → read_lines labels (closed (with_now d (BodyPending label body))) ≡ read_lines labels (with_now d (BodyPending label body)) ++ (codes "end" ∷ []) ∷ []
ended_lines labels d label body e =
    let c : CodeBlock = record { label = label; body = body } in
    let front = flat_map (code_lines labels) d.codes in
    rw e (
    append-nil (flat_map (code_lines labels) (d.codes ++ c ∷ []))
    ∙ flat_map-append (code_lines labels) d.codes (c ∷ [])
    ∙ ap (λ (ls : List (List Text)). front ++ ls) (append-nil (code_lines labels c))
    ∙ sym (append_assoc front (pending_lines labels (BodyPending label body)) ((codes "end" ∷ []) ∷ [])))

-- a block begins, where nothing is unfinished and no user has begun
pub begun_code : (labels : List Text) (d : Read) (label : Text) → d.users ≡ [] → d.now ≡ NonePending
    → read_lines labels (with_code d label) ≡ read_lines labels d ++ (codes "code" ∷ label ∷ []) ∷ []
begun_code labels d label e n = rw (e, n) (ap (λ (ls : List (List Text)). ls ++ (codes "code" ∷ label ∷ []) ∷ []) (sym (append-nil (flat_map (code_lines labels) d.codes))))

-- a user is finished without a line of its own
pub closed_lines : (labels : List Text) (d : Read) (o : Pending) → ((label : Text) (body : List Request) → o ≢ BodyPending label body) → read_lines labels (closed (with_now d o)) ≡ read_lines labels (with_now d o)
closed_lines labels d NonePending h = rw (append-nil d.codes, append-nil d.users) refl
closed_lines labels d (BodyPending label body) h = absurd (h label body refl)
closed_lines labels d (UserPending name phases requests count) h =
    let u : UserScript = record { name = name; phases = phases ++ requests ∷ [] } in
    let users = flat_map (user_lines labels) d.users in
    let same : flat_map (user_lines labels) (d.users ++ u ∷ []) ++ [] ≡ users ++ user_lines labels u =
    append-nil (flat_map (user_lines labels) (d.users ++ u ∷ [])) ∙ flat_map-append (user_lines labels) d.users (u ∷ []) ∙ ap (λ (ls : List (List Text)). users ++ ls) (append-nil (user_lines labels u)) in
    rw (append-nil d.codes) (ap (λ (ls : List (List Text)). flat_map (code_lines labels) d.codes ++ ls) same)

-- a user begins, where nothing is unfinished
pub begun_user : (labels : List Text) (d : Read) (name : Text) → d.now ≡ NonePending → read_lines labels (with_user d name) ≡ read_lines labels d ++ (codes "user" ∷ name ∷ []) ∷ []
begun_user labels d name n =
    let front = flat_map (code_lines labels) d.codes in
    let users = flat_map (user_lines labels) d.users in
    rw n (ap (λ (ls : List (List Text)). front ++ (ls ++ (codes "user" ∷ name ∷ []) ∷ [])) (sym (append-nil users)) ∙ sym (append_assoc front (users ++ []) ((codes "user" ∷ name ∷ []) ∷ [])))
