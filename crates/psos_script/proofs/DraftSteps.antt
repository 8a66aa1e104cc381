-- What holds of what is read holds with one line more.
use Rattle.std.proofs.Common.{◌≡◌, ◌≢◌, ℕ, ◌+◌, ◌<◌, ◌≤◌, false, List, [], ◌∷◌, ◌++◌, length, map, None, Result, refl, sym, ap, subst, ◌∙◌, arith, length-append}
use Rattle.std.specs.Prelude.{IsTrue, codes, sum_by}
use Rattle.std.specs.List.{AllByRecursion}
use Rattle.std.proofs.lemmas.List.{append-nil, map-append, length-map}
use Rattle.std.proofs.lemmas.List.Sums.{sum_by-append, sum_by-cons}
use Rattle.psos_limits.specs.declared.TheConstants.{MOST_LINES}
use Rattle.psos_text.specs.Name.{is_name}
use Rattle.psos_calls.specs.declared.request.Request.{Request}
use Rattle.psos_calls.specs.Language.Request.{InRange}
use Rattle.psos_calls.specs.Language.Script.{CodeBlock, UserScript}
use Rattle.psos_model.specs.Text.Operands.{Text}
use Rattle.psos_script.specs.Table.{verb_text, head_text}
use Rattle.psos_script.specs.Fault.{is_among, line_limit, head_cause}
use Rattle.psos_script.specs.Draft.{Read, Pending, NonePending, BodyPending, UserPending, pending_codes, pending_users, section_in, count_in, seen_in, added, added_row, phased, with_now, with_code, with_user, closed, taken}
use Rattle.psos_script.proofs.HeadParts.{code_parts, user_parts, end_parts, phase_parts, ask_parts, distinct_more}
use Rattle.psos_script.proofs.RowSound.{row_takes}
use Rattle.psos_script.proofs.DraftShape.{label_of, named, read_lines, IsBlock, AreBlocks, IsAsker, AreAskers, IsDraft, all_append, all_front, all_last, blocks_append, map_empty}
use Rattle.psos_script.proofs.OneLineMore.{asked_lines, phased_lines, ended_lines, begun_code, closed_lines, begun_user}
use Rattle.psos_script.specs.declared.cause.Cause.{Cause}
use Rattle.psos_script.specs.declared.verb.Verb.{Verb}
use Rattle.psos_script.specs.declared.head.Head.TheVariants.{Code, End, User, Phase, Asks}
use Rattle.psos_script.specs.declared.section.Section.TheVariants.{Outside, InBody, InUser}

-- the line is taken, and spelled by what is read then, where all labels begin with those so far
pub record Steps (d e : Read) (line : List Text) : Type 0 where
  pub draft : IsDraft e
  pub lines : (rest : List Text) → read_lines (e.labels ++ rest) e ≡ read_lines (e.labels ++ rest) d ++ line ∷ []
  pub more : List Text
  pub grows : e.labels ≡ d.labels ++ more

-- ---- what is unfinished

not_nil : {X : Type 0} (xs : List X) (x : X) → xs ++ x ∷ [] ≡ [] → ⊥
not_nil [] x e = cc
not_nil (y ∷ ys) x e = cc

nothing_pending : (us : List UserScript) (o : Pending) (names : List Text) → section_in o ≢ InBody → names ≡ map named (us ++ pending_users o) → names ≡ [] → (o ≡ NonePending) × (us ≡ [])
nothing_pending us NonePending names p h e = (refl, sym (append-nil us) ∙ map_empty named (us ++ []) (sym h ∙ e))
nothing_pending us (BodyPending label body) names p h e = absurd (p refl)
nothing_pending us (UserPending name phases requests count) names p h e = absurd (not_nil us (record { name = name; phases = phases ++ requests ∷ [] }) (map_empty named (us ++ record { name = name; phases = phases ++ requests ∷ [] } ∷ []) (sym h ∙ e)))

body_pending : (o : Pending) → section_in o ≡ InBody → (label : Text) × (body : List Request) × (o ≡ BodyPending label body)
body_pending NonePending e = absurd cc
body_pending (BodyPending label body) e = (label, body, refl)
body_pending (UserPending name phases requests count) e = absurd cc

-- ---- `code`

begin_code : (d : Read) (w : Text) → d.now ≡ NonePending → d.users ≡ [] → IsTrue (is_name w) → is_among w d.labels ≡ false → length d.labels < 64 → IsDraft d → IsDraft (with_code d w)
begin_code d w n u name new few h = record {
  labels =
      ap (λ (ls : List Text). ls ++ w ∷ []) (h.labels ∙ ap (λ (o : Pending). map label_of (d.codes ++ pending_codes o)) n ∙ ap (λ (cs : List CodeBlock). map label_of cs) (append-nil d.codes))
      ∙ sym (map-append label_of d.codes (record { label = w; body = [] } ∷ []));
  names = h.names ∙ ap (λ (o : Pending). map named (d.users ++ pending_users o)) n;
  few_labels = omega (arith, few, length-append d.labels (w ∷ []));
  few_names = h.few_names;
  new_labels = distinct_more d.labels w new h.new_labels;
  new_names = h.new_names;
  codes = h.codes;
  users = h.users;
  fits = (record { labelled = name; few = omega arith; range = tt }, u);
}

pub code_step : (d : Read) (ws : List Text) → head_cause (seen_in d) Code ws ≡ None → IsDraft d → Steps d (taken d Code ws) (head_text Code ∷ ws)
code_step d ws e h =
    let p = code_parts (seen_in d) ws e in
    let none = nothing_pending d.users d.now d.names p.section h.names p.none in
    let w = p.label.word in
    let P : List Text → Type 0 = λ t. Steps d (taken d Code t) (head_text Code ∷ t) in
    subst P (sym p.label.is) (record {
      draft = begin_code d w none.0 none.1 p.label.named p.label.new p.label.few h;
      lines = λ rest. begun_code ((d.labels ++ w ∷ []) ++ rest) d w none.1 none.0;
      more = w ∷ [];
      grows = refl;
    })

-- ---- `end`, and where a user ends

close_draft : (d : Read) → IsDraft d → AreBlocks 0 (d.codes ++ pending_codes d.now) → AreAskers (length (d.codes ++ pending_codes d.now)) (d.users ++ pending_users d.now) → IsDraft (closed d)
close_draft d h cs us = record {
  labels = h.labels ∙ ap (λ (cs : List CodeBlock). map label_of cs) (sym (append-nil (d.codes ++ pending_codes d.now)));
  names = h.names ∙ ap (λ (us : List UserScript). map named us) (sym (append-nil (d.users ++ pending_users d.now)));
  few_labels = h.few_labels;
  few_names = h.few_names;
  new_labels = h.new_labels;
  new_names = h.new_names;
  codes = cs;
  users = us;
  fits = tt;
}

close_body : (d : Read) (label : Text) (body : List Request) → 1 ≤ length body → IsDraft (with_now d (BodyPending label body)) → IsDraft (closed (with_now d (BodyPending label body)))
close_body d label body some h =
    let c : CodeBlock = record { label = label; body = body } in
    let B : ℕ → Type 0 = λ n. IsBlock n c in
    let P : List UserScript → Type 0 = λ us. AreAskers (length (d.codes ++ c ∷ [])) (us ++ []) in
    close_draft (with_now d (BodyPending label body)) h (blocks_append 0 d.codes c h.codes (subst B (let e : length d.codes + 1 ≡ 0 + length d.codes + 1 = omega arith in e) h.fits.0) some) (subst P (sym h.fits.1) tt)

pub end_step : (d : Read) (ws : List Text) → head_cause (seen_in d) End ws ≡ None → IsDraft d → Steps d (taken d End ws) (head_text End ∷ ws)
end_step d ws e h =
    let p = end_parts (seen_in d) ws e in
    let o = body_pending d.now p.section in
    let some : 1 ≤ length o.1 = omega (arith, p.some, ap count_in o.2) in
    let Q : Pending → Type 0 = λ x. IsDraft (with_now d x) in
    let k = subst Q o.2 h in
    let P : Pending → Type 0 = λ x. Steps (with_now d x) (closed (with_now d x)) (codes "end" ∷ []) in
    let R : List Text → Type 0 = λ t. Steps d (closed d) (codes "end" ∷ t) in
    subst R (sym p.none) (subst P (sym o.2) (record {
      draft = close_body d o.0 o.1 some k;
      lines = λ rest. ended_lines (d.labels ++ rest) d o.0 o.1 k.fits.1;
      more = [];
      grows = sym (append-nil d.labels);
    }))

pub close_user : (d : Read) (o : Pending) → section_in o ≢ InBody → IsDraft (with_now d o) → IsDraft (closed (with_now d o))
close_user d (BodyPending label body) n h = absurd (n refl)
close_user d NonePending n h =
    let P : List CodeBlock → Type 0 = λ cs. AreBlocks 0 cs in
    let Q : List CodeBlock → Type 0 = λ cs. AreAskers (length cs) (d.users ++ []) in
    let R : List UserScript → Type 0 = λ us. AreAskers (length d.codes) us in
    close_draft (with_now d NonePending) h (subst P (sym (append-nil d.codes)) h.codes) (subst Q (sym (append-nil d.codes)) (subst R (sym (append-nil d.users)) h.users))
close_user d (UserPending name phases requests count) n h =
    let u : UserScript = record { name = name; phases = phases ++ requests ∷ [] } in
    let P : List CodeBlock → Type 0 = λ cs. AreBlocks 0 cs in
    let Q : List CodeBlock → Type 0 = λ cs. AreAskers (length cs) (d.users ++ u ∷ []) in
    close_draft (with_now d (UserPending name phases requests count)) h (subst P (sym (append-nil d.codes)) h.codes)
    (subst Q (sym (append-nil d.codes)) (all_append (λ (u : UserScript). (count : ℕ) × IsAsker (length d.codes) u count) d.users (u ∷ []) h.users ((count, h.fits), tt)))

-- ---- `user`

begin_user : (d : Read) (w : Text) → d.now ≡ NonePending → IsTrue (is_name w) → is_among w d.names ≡ false → length d.names < 8 → IsDraft d → IsDraft (with_user d w)
begin_user d w n name new few h = record {
  labels = h.labels ∙ ap (λ (o : Pending). map label_of (d.codes ++ pending_codes o)) n;
  names =
      ap (λ (ls : List Text). ls ++ w ∷ []) (h.names ∙ ap (λ (o : Pending). map named (d.users ++ pending_users o)) n ∙ ap (λ (us : List UserScript). map named us) (append-nil d.users))
      ∙ sym (map-append named d.users (record { name = w; phases = [] ∷ [] } ∷ []));
  few_labels = h.few_labels;
  few_names = omega (arith, few, length-append d.names (w ∷ []));
  new_labels = h.new_labels;
  new_names = distinct_more d.names w new h.new_names;
  codes = h.codes;
  users = h.users;
  fits = record { named = name; some = omega arith; counted = refl; few = omega arith; range = (tt, tt) };
}

pub no_body : (o : Pending) → section_in o ≢ InBody → (label : Text) (body : List Request) → o ≢ BodyPending label body
no_body o n label body e = absurd (n (ap section_in e))

pub user_step : (d : Read) (ws : List Text) → head_cause (seen_in d) User ws ≡ None → IsDraft d → Steps d (taken d User ws) (head_text User ∷ ws)
user_step d ws e h =
    let p = user_parts (seen_in d) ws e in
    let w = p.name.word in
    let P : List Text → Type 0 = λ t. Steps d (taken d User t) (head_text User ∷ t) in
    subst P (sym p.name.is) (record {
      draft = begin_user (closed d) w refl p.name.named p.name.new p.name.few (close_user d d.now p.section h);
      lines = λ rest. begun_user (d.labels ++ rest) (closed d) w refl ∙ ap (λ (ls : List (List Text)). ls ++ (codes "user" ∷ w ∷ []) ∷ []) (closed_lines (d.labels ++ rest) d d.now (no_body d.now p.section));
      more = [];
      grows = sym (append-nil d.labels);
    })

-- ---- `phase`

user_pending : (o : Pending) → section_in o ≡ InUser → (name : Text) × (phases : List (List Request)) × (requests : List Request) × (count : ℕ) × (o ≡ UserPending name phases requests count)
user_pending NonePending e = absurd cc
user_pending (BodyPending label body) e = absurd cc
user_pending (UserPending name phases requests count) e = (name, phases, requests, count, refl)

-- the unfinished user has other phases
other_phases : (us : List UserScript) (name : Text) (ps qs : List (List Request)) → map named (us ++ record { name = name; phases = ps } ∷ []) ≡ map named (us ++ record { name = name; phases = qs } ∷ [])
other_phases us name ps qs = map-append named us (record { name = name; phases = ps } ∷ []) ∙ sym (map-append named us (record { name = name; phases = qs } ∷ []))

next_asker : (blocks : ℕ) (name : Text) (phases : List (List Request)) (count : ℕ) → count < MOST_LINES → IsAsker blocks (record { name = name; phases = phases }) count → IsAsker blocks (record { name = name; phases = phases ++ [] ∷ [] }) (count + 1)
next_asker blocks name phases count few h = record {
  named = h.named;
  some = omega (arith, length-append phases ([] ∷ []));
  counted = sum_by-append (λ (p : List Request). length p + 1) phases ([] ∷ []) ∙ ap (λ (n : ℕ). n + 1) h.counted;
  few = omega (arith, few);
  range = all_append (AllByRecursion (InRange blocks)) phases ([] ∷ []) h.range (tt, tt);
}

next_draft : (d : Read) (name : Text) (phases : List (List Request)) (requests : List Request) (count : ℕ) → count < MOST_LINES → IsDraft (with_now d (UserPending name phases requests count)) → IsDraft (with_now d (phased (UserPending name phases requests count)))
next_draft d name phases requests count few h = record {
  labels = h.labels;
  names = h.names ∙ other_phases d.users name (phases ++ requests ∷ []) ((phases ++ requests ∷ []) ++ [] ∷ []);
  few_labels = h.few_labels;
  few_names = h.few_names;
  new_labels = h.new_labels;
  new_names = h.new_names;
  codes = h.codes;
  users = h.users;
  fits = next_asker (length d.codes) name (phases ++ requests ∷ []) count few h.fits;
}

pub phase_step : (d : Read) (ws : List Text) → head_cause (seen_in d) Phase ws ≡ None → IsDraft d → Steps d (taken d Phase ws) (head_text Phase ∷ ws)
phase_step d ws e h =
    let p = phase_parts (seen_in d) ws e in
    let o = user_pending d.now p.section in
    let few : o.3 < MOST_LINES = omega (arith, p.few, ap count_in o.4) in
    let Q : Pending → Type 0 = λ x. IsDraft (with_now d x) in
    let k = subst Q o.4 h in
    let P : Pending → Type 0 = λ x. Steps (with_now d x) (with_now d (phased x)) (codes "phase" ∷ []) in
    let R : List Text → Type 0 = λ t. Steps d (taken d Phase t) (codes "phase" ∷ t) in
    subst R (sym p.none) (subst P (sym o.4) (record {
      draft = next_draft d o.0 o.1 o.2 o.3 few k;
      lines = λ rest. phased_lines (d.labels ++ rest) d o.0 o.1 o.2 o.3;
      more = [];
      grows = sym (append-nil d.labels);
    }))

-- ---- requests

last_asker : (blocks : ℕ) (name : Text) (phases : List (List Request)) (rs : List Request) (r : Request) (count : ℕ) → count < MOST_LINES → InRange blocks r
    → IsAsker blocks (record { name = name; phases = phases ++ rs ∷ [] }) count → IsAsker blocks (record { name = name; phases = phases ++ (rs ++ r ∷ []) ∷ [] }) (count + 1)
last_asker blocks name phases rs r count few range h =
    let f : List Request → ℕ = λ p. length p + 1 in
    let one : (p : List Request) → sum_by f (phases ++ p ∷ []) ≡ sum_by f phases + (length p + 1) = λ p. sum_by-append f phases (p ∷ []) ∙ ap (λ (n : ℕ). sum_by f phases + n) (sum_by-cons f p [] ∙ (let z : f p + 0 ≡ length p + 1 = omega arith in z)) in
    record {
      named = h.named;
      some = omega (arith, length-append phases ((rs ++ r ∷ []) ∷ []));
      counted = omega (arith, h.counted, one rs, one (rs ++ r ∷ []), length-append rs (r ∷ []));
      few = omega (arith, few);
      range = all_append (AllByRecursion (InRange blocks)) phases ((rs ++ r ∷ []) ∷ []) (all_front (AllByRecursion (InRange blocks)) phases (rs ∷ []) h.range)
          (all_append (InRange blocks) rs (r ∷ []) (all_last (AllByRecursion (InRange blocks)) phases rs h.range) (range, tt), tt);
    }

label_count : (labels : List Text) (cs : List CodeBlock) (o : Pending) → labels ≡ map label_of (cs ++ pending_codes o) → length labels ≡ length cs + length (pending_codes o)
label_count labels cs o e = ap length e ∙ length-map (cs ++ pending_codes o) label_of ∙ length-append cs (pending_codes o)

asked_draft : (d : Read) (o : Pending) (r : Request) → section_in o ≢ Outside → count_in o < line_limit (section_in o) → InRange (length d.labels) r → IsDraft (with_now d o) → IsDraft (with_now d (added o r))
asked_draft d NonePending r section few range h = absurd (section refl)
asked_draft d (BodyPending label body) r section few range h =
    let P : ℕ → Type 0 = λ n. InRange n r in
    let in_block : InRange (length d.codes + 1) r = subst P (label_count d.labels d.codes (BodyPending label body) h.labels) range in
    record {
      labels = h.labels ∙ map-append label_of d.codes (record { label = label; body = body } ∷ []) ∙ sym (map-append label_of d.codes (record { label = label; body = body ++ r ∷ [] } ∷ []));
      names = h.names;
      few_labels = h.few_labels;
      few_names = h.few_names;
      new_labels = h.new_labels;
      new_names = h.new_names;
      codes = h.codes;
      users = h.users;
      fits = (
        record {
          labelled = h.fits.0.labelled;
          few = omega (arith, few, length-append body (r ∷ []));
          range = all_append (InRange (length d.codes + 1)) body (r ∷ []) h.fits.0.range (in_block, tt);
        },
        h.fits.1,
      );
    }
asked_draft d (UserPending name phases requests count) r section few range h =
    let P : ℕ → Type 0 = λ n. InRange n r in
    let same : length d.labels ≡ length d.codes = omega (arith, label_count d.labels d.codes (UserPending name phases requests count) h.labels) in
    record {
      labels = h.labels;
      names = h.names ∙ other_phases d.users name (phases ++ requests ∷ []) (phases ++ (requests ++ r ∷ []) ∷ []);
      few_labels = h.few_labels;
      few_names = h.few_names;
      new_labels = h.new_labels;
      new_names = h.new_names;
      codes = h.codes;
      users = h.users;
      fits = last_asker (length d.codes) name phases requests r count few (subst P same range) h.fits;
    }

something_pending : (o : Pending) → section_in o ≢ Outside → o ≢ NonePending
something_pending o n e = absurd (n (ap section_in e))

pub ask_step : (d : Read) (v : Verb) (ws : List Text) → head_cause (seen_in d) (Asks v) ws ≡ None → IsDraft d → Steps d (taken d (Asks v) ws) (head_text (Asks v) ∷ ws)
ask_step d v ws e h =
    let p = ask_parts (seen_in d) v ws e in
    let r = p.request in
    let row = row_takes d.labels [] v ws r p.row in
    let P : Result Request Cause → Type 0 = λ q. Steps d (with_now d (added_row d.now q)) (verb_text v ∷ ws) in
    subst P (sym p.row) (record {
      draft = asked_draft d d.now r p.section p.few row.range h;
      lines = λ rest. asked_lines (d.labels ++ rest) d d.now r (something_pending d.now p.section) ∙ ap (λ (t : List Text). read_lines (d.labels ++ rest) d ++ t ∷ []) (row_takes d.labels rest v ws r p.row).words;
      more = [];
      grows = sym (append-nil d.labels);
    })
