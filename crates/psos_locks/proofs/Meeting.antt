-- Users of a run of threads meet between two phases. States docs/levels.md, "Phases".
use Rattle.std.proofs.Common.{◌≡◌, ℕ, ◌+◌, ◌<◌, ◌≤◌, ◌⊎◌, inl, inr, false, List, [], ◌∷◌, length, get_or, Option, Some, None, refl, sym, ap, ◌∙◌, subst, arith}
use Rattle.std.specs.Prelude.{slice_get, slice_set}
use Rattle.std.proofs.lemmas.Bool.{cases_eq, cases_lt}
use Rattle.std.proofs.lemmas.List.{get_or-set_same, get_or-set_other, set-set, set-get_or, length-set, get_or_past}
use Rattle.std.proofs.lemmas.Option.{same_Some, none-some, slice_get_within, slice_get_past, slice_get-get_or, get_or_from_slice_get}
use Rattle.psos_calls.specs.declared.entry.Entry.{Entry}
use Rattle.psos_calls.specs.Language.Script.{Script}
use Rattle.psos_model.specs.Replay.{boot_system}
use Rattle.psos_laws.proofs.BootSoundUsers.{users_count}
use Rattle.psos_journal.specs.Views.{Known}
use Rattle.psos_locks.specs.Users.{OwnView, UserView, past_of, past_in, ShowsPast, ShowPast, AreUsers, AreThrough, HasMet, AllMet, has_more}
use Rattle.psos_locks.specs.Stages.{IsOnWay, CanMeet, HasMetAll}
use Rattle.psos_locks.proofs.Served.{kept_here, kept_other, shows_less}

-- ---- an element of a list that was set

pub set_at : {X : Type 0} (xs : List X) (i : ℕ) (x : X) → i < length xs → slice_get (slice_set xs i x) i ≡ Some x
set_at {X} xs i x less =
    let within : i < length (slice_set xs i x) = omega (arith, less, length-set xs i x) in
    slice_get-get_or (slice_set xs i x) i x within ∙ ap (λ (y : X). Some y) (get_or-set_same xs i x x less)

pub set_off : {X : Type 0} (xs : List X) (i k : ℕ) (x : X) → (k ≡ i → ⊥) → slice_get (slice_set xs i x) k ≡ slice_get xs k
set_off {X} xs i k x apart = elim (cases_lt k (length xs)) [
  | inl less ↦
      let within : k < length (slice_set xs i x) = omega (arith, less, length-set xs i x) in
      slice_get-get_or (slice_set xs i x) k x within ∙ (ap (λ (y : X). Some y) (get_or-set_other xs i k x x apart) ∙ sym (slice_get-get_or xs k x less))
  | inr past ↦ slice_get_past (slice_set xs i x) k (omega (arith, past, length-set xs i x)) ∙ sym (slice_get_past xs k past)
]

-- ---- one user takes its receipts

-- it has these receipts
abbrev pub heard : UserView → List (Option (Known Entry)) → UserView
heard a receipts = record a { who = record a.who { receipts = receipts } }

-- user i took those of the users before v, which show that they ask nothing more of the phases before the next one
pub record Heard (s : Script) (next : ℕ) (old : List UserView) (i v : ℕ) (now : List UserView) : Type 0 where
  pub before : UserView
  pub there : slice_get old i ≡ Some before
  pub receipts : List (Option (Known Entry))
  pub now_are : now ≡ slice_set old i (heard before receipts)
  pub room : length receipts ≡ length before.who.receipts
  pub known : (w : ℕ) (u : UserView) → w < v → slice_get old w ≡ Some u → past_in receipts w ≡ u.who.side.past
  pub shown : (w : ℕ) → w < v → ShowsPast s next w (past_in receipts w)

pub heard_none : (s : Script) (next : ℕ) (old : List UserView) (i : ℕ) (a : UserView) → slice_get old i ≡ Some a → Heard s next old i 0 old
heard_none s next old i a there = record {
  before = a;
  there = there;
  receipts = a.who.receipts;
  now_are = sym (ap (slice_set old i) (sym (get_or_from_slice_get old i a a there)) ∙ set-get_or old i a);
  room = refl;
  known = λ w u less here. absurd (omega (arith, less));
  shown = λ w less. absurd (omega (arith, less));
}

module _ (s : Script) (next : ℕ) (old : List UserView) (i v : ℕ) (can : CanMeet s next old i) (now : List UserView) (h : Heard s next old i v now) where
  within : i < length old
  within = slice_get_within old i h.before h.there

  pub same_length : length now ≡ length old
  same_length = ap (λ (us : List UserView). length us) h.now_are ∙ length-set old i (heard h.before h.receipts)

  -- the user itself
  pub here : (b : UserView) → slice_get now i ≡ Some b → b ≡ heard h.before h.receipts
  here b at =
      let a = heard h.before h.receipts in
      same_Some b a (sym at ∙ (ap (λ (us : List UserView). slice_get us i) h.now_are ∙ set_at old i a within))

  -- any user
  pub record IsThere (w : ℕ) (u : UserView) : Type 0 where
    pub was : UserView
    pub at : slice_get old w ≡ Some was
    pub side : u.who.side ≡ was.who.side
    pub way : IsOnWay s next w u

  pub is_there : (w : ℕ) (u : UserView) → slice_get now w ≡ Some u → IsThere w u
  is_there w u at = elim (cases_eq w i) [
    | inl same ↦
        let is : u ≡ heard h.before h.receipts = here u (ap (slice_get now) (sym same) ∙ at) in
        let was_at : slice_get old w ≡ Some h.before = ap (slice_get old) same ∙ h.there in
        let way = can.each w h.before was_at in
        let mine : IsOnWay s next w (heard h.before h.receipts) = record { number = way.number; room = h.room ∙ way.room; stage = way.stage } in
        record { was = h.before; at = was_at; side = ap (λ (b : UserView). b.who.side) is; way = subst (IsOnWay s next w) (sym is) mine }
    | inr apart ↦
        let was_at : slice_get old w ≡ Some u = sym (set_off old i w (heard h.before h.receipts) apart) ∙ (ap (λ (us : List UserView). slice_get us w) (sym h.now_are) ∙ at) in
        record { was = u; at = was_at; side = refl; way = can.each w u was_at }
  ]

  -- what the member of user v shows
  module _ (u : UserView) (at : slice_get now v ≡ Some u) (r : Option (Known Entry)) (knows : past_of r ≡ u.who.side.past)
      (past : ShowsPast s u.who.phase u.who.side.number u.who.side.past)
      (through : has_more s u.who ≡ false → ShowsPast s (u.who.phase + 1) u.who.side.number u.who.side.past) where
    shows : ShowsPast s next v (past_of r)
    shows =
        let t = is_there v u at in
        subst (ShowsPast s next v) (sym knows) (subst (λ (k : ℕ). ShowsPast s next k u.who.side.past) t.way.number (elim t.way.stage [
          | inl behind ↦ subst (λ (p : ℕ). ShowsPast s p u.who.side.number u.who.side.past) behind.0 (through behind.1)
          | inr there ↦ subst (λ (p : ℕ). ShowsPast s p u.who.side.number u.who.side.past) there past
        ]))

    pub may_keep : (b : UserView) → slice_get now i ≡ Some b → ShowsPast s b.who.phase v (past_of r)
    may_keep b mine =
        let is = here b mine in
        let phase : b.who.phase ≡ h.before.who.phase = ap (λ (a : UserView). a.who.phase) is in
        shows_less s b.who.phase next v (past_of r) (omega (arith, phase, can.here h.before h.there)) shows

    pub has_room : (b : UserView) → slice_get now i ≡ Some b → v < length b.who.receipts
    has_room b mine =
        let is = here b mine in
        let size : length b.who.receipts ≡ length h.receipts = ap (λ (a : UserView). length a.who.receipts) is in
        omega (arith, size, h.room, (can.each i h.before h.there).room, can.all, slice_get_within old v (is_there v u at).was (is_there v u at).at)

    pub heard_more : (b : UserView) → slice_get now i ≡ Some b → (new : List UserView) → new ≡ slice_set now i (heard b (slice_set b.who.receipts v r)) → Heard s next old i (v + 1) new
    heard_more b mine new is_new =
        let is = here b mine in
        let a = h.before in
        let rs = slice_set h.receipts v r in
        let fits : v < length h.receipts = omega (arith, ap (λ (c : UserView). length c.who.receipts) is, has_room b mine) in
        let t = is_there v u at in
        record {
          before = a;
          there = h.there;
          receipts = rs;
          now_are = is_new ∙ (ap (λ (c : UserView). slice_set now i (heard c (slice_set c.who.receipts v r))) is
              ∙ (ap (λ (us : List UserView). slice_set us i (heard a rs)) h.now_are ∙ set-set old i (heard a h.receipts) (heard a rs)));
          room = length-set h.receipts v r ∙ h.room;
          known = λ w x less at_w. elim (cases_eq w v) [
            | inl same ↦
                let was : x ≡ t.was = same_Some x t.was (sym at_w ∙ (ap (slice_get old) same ∙ t.at)) in
                ap (past_in rs) same ∙ (kept_here h.receipts v r fits ∙ (knows ∙ (ap (λ m. m.past) t.side ∙ ap (λ (c : UserView). c.who.side.past) (sym was))))
            | inr apart ↦ kept_other h.receipts v w r apart ∙ h.known w x (omega (arith, less, apart)) at_w
          ];
          shown = λ w less. elim (cases_eq w v) [
            | inl same ↦ subst (λ (k : ℕ). ShowsPast s next k (past_in rs k)) (sym same) (subst (ShowsPast s next v) (sym (kept_here h.receipts v r fits)) shows)
            | inr apart ↦ subst (ShowsPast s next w) (sym (kept_other h.receipts v w r apart)) (h.shown w (omega (arith, less, apart)))
          ];
        }

  -- ---- all receipts are taken

  module _ (all : length old ≤ v) (b : UserView) (mine : slice_get now i ≡ Some b) where
    is : b ≡ heard h.before h.receipts
    is = here b mine

    -- of no user is nothing shown
    of_none : (w : ℕ) → length h.receipts ≤ w → ShowsPast s next w (past_in h.receipts w)
    of_none w over =
        let none : past_in h.receipts w ≡ [] = ap past_of (get_or_past h.receipts w None over) in
        subst (ShowsPast s next w) (sym none) (λ x there. absurd (none-some x (sym (slice_get_past (boot_system s).users w (omega (arith, over, h.room, (can.each i h.before h.there).room, users_count 0 s.users))) ∙ there)))

    pub all_shown : ShowPast s next b.who.receipts
    all_shown = subst (λ (c : UserView). ShowPast s next c.who.receipts) (sym is) (λ w. elim (cases_lt w (length h.receipts)) [
      | inl less ↦ h.shown w (omega (arith, all, less, h.room, (can.each i h.before h.there).room, can.all))
      | inr over ↦ of_none w over
    ])

    pub own_shown : ShowsPast s next b.who.side.number b.who.side.past
    own_shown =
        let here_known : past_in h.receipts i ≡ h.before.who.side.past = h.known i h.before (omega (arith, all, within)) h.there in
        let own : ShowsPast s next i h.before.who.side.past = subst (ShowsPast s next i) here_known (h.shown i (omega (arith, all, within))) in
        let at : ShowsPast s next h.before.who.side.number h.before.who.side.past = subst (λ (k : ℕ). ShowsPast s next k h.before.who.side.past) (sym (can.each i h.before h.there).number) own in
        subst (λ (c : UserView). ShowsPast s next c.who.side.number c.who.side.past) (sym is) at

    pub has_met : (new : List UserView) → new ≡ slice_set now i (record b { who = record b.who { phase = next } }) → HasMetAll old i new
    has_met new is_new =
        let a = h.before in
        let after : UserView = record a { who = record a.who { receipts = h.receipts; phase = next } } in
        record {
          before = a;
          after = after;
          there = h.there;
          changed = is_new ∙ (ap (λ (c : UserView). slice_set now i (let d : UserView = record c { who = record c.who { phase = next } } in d)) is
              ∙ (ap (λ (us : List UserView). slice_set us i after) h.now_are ∙ set-set old i (heard a h.receipts) after));
          met = record {
            receipts_are = λ w u at. h.known w u (omega (arith, all, slice_get_within old w u at)) at;
            room = h.room;
            rest = ap (λ (p : ℕ). (let o : OwnView = record a.who { phase = p; receipts = h.receipts } in o)) (sym (can.here a h.there));
          };
          halted = refl;
          served = refl;
        }

-- ---- one user after another

-- the users before i have met all, and the others are as they were
pub record HaveMetTo (old : List UserView) (i : ℕ) (now : List UserView) : Type 0 where
  pub all : length now ≡ length old
  pub met : (k : ℕ) (a b : UserView) → k < i → slice_get old k ≡ Some a → slice_get now k ≡ Some b → HasMet old a.who b.who × (b.halted ≡ a.halted) × (b.served ≡ a.served)
  pub rest : (k : ℕ) → i ≤ k → slice_get now k ≡ slice_get old k

pub met_none : (old : List UserView) → HaveMetTo old 0 old
met_none old = record { all = refl; met = λ k a b less. absurd (omega (arith, less)); rest = λ k least. refl }

-- a list of this length has an element there
pub has_one : (xs : List UserView) (k : ℕ) → k < length xs → (u : UserView) × (slice_get xs k ≡ Some u)
has_one [] k less = absurd (omega (arith, less))
has_one (x ∷ xs) k less = (get_or (x ∷ xs) k x, slice_get-get_or (x ∷ xs) k x less)

module _ (old : List UserView) (i : ℕ) (now : List UserView) (h : HaveMetTo old i now) where
  -- whoever is there was there, with the same member
  pub record Was (k : ℕ) (u : UserView) : Type 0 where
    pub was : UserView
    pub at : slice_get old k ≡ Some was
    pub stage : ((k < i) × HasMet old was.who u.who) ⊎ ((i ≤ k) × (u ≡ was))

  pub was_there : (k : ℕ) (u : UserView) → slice_get now k ≡ Some u → Was k u
  was_there k u at = elim (cases_lt k i) [
    | inl less ↦
        let one = has_one old k (omega (arith, slice_get_within now k u at, h.all)) in
        record { was = one.0; at = one.1; stage = inl (less, (h.met k one.0 u less one.1 at).0) }
    | inr least ↦ record { was = u; at = sym (h.rest k least) ∙ at; stage = inr (least, refl) }
  ]

  pub may_meet : (s : Script) (next : ℕ) → AreUsers s old → AreThrough s next old → i < length now → CanMeet s next now i
  may_meet s next users through less = record {
    all = h.all ∙ users.all;
    each = λ w u at.
        let t = was_there w u at in
        let all_is = through w t.was t.at in
        elim t.stage [
          | inl past ↦
              let met = past.1 in
              record {
                number = ap (λ (o : OwnView). o.side.number) met.rest ∙ users.numbers w t.was t.at;
                room = met.room ∙ users.rooms w t.was t.at;
                stage = inr (ap (λ (o : OwnView). o.phase) met.rest ∙ all_is.phase);
              }
          | inr is ↦
              let old_way : IsOnWay s next w t.was = record { number = users.numbers w t.was t.at; room = users.rooms w t.was t.at; stage = inl (all_is.phase, all_is.through) } in
              subst (IsOnWay s next w) (sym is.1) old_way
        ];
    here = λ u at. (through i u (sym (h.rest i (omega arith)) ∙ at)).phase;
  }

  -- what is met is the same
  pub met_same : (a b : UserView) → HasMet now a.who b.who → HasMet old a.who b.who
  met_same a b m = record {
    receipts_are = λ v u at.
        let one = has_one now v (omega (arith, slice_get_within old v u at, h.all)) in
        let t = was_there v one.0 one.1 in
        let same : t.was ≡ u = same_Some t.was u (sym t.at ∙ at) in
        let side : one.0.who.side.past ≡ t.was.who.side.past = elim t.stage [
          | inl past ↦ ap (λ (o : OwnView). o.side.past) past.1.rest
          | inr is ↦ ap (λ (c : UserView). c.who.side.past) is.1
        ] in
        m.receipts_are v one.0 one.1 ∙ (side ∙ ap (λ (c : UserView). c.who.side.past) same);
    room = m.room;
    rest = m.rest;
  }

  pub met_more : (new : List UserView) → HasMetAll now i new → HaveMetTo old (i + 1) new
  met_more new m =
      let at_i : slice_get old i ≡ Some m.before = sym (h.rest i (omega arith)) ∙ m.there in
      let inside = slice_get_within now i m.before m.there in
      record {
        all = ap (λ (us : List UserView). length us) m.changed ∙ (length-set now i m.after ∙ h.all);
        met = λ k a b less at_a at_b. elim (cases_eq k i) [
          | inl same ↦
              let is_a : a ≡ m.before = same_Some a m.before (sym at_a ∙ (ap (slice_get old) same ∙ at_i)) in
              let is_b : b ≡ m.after = same_Some b m.after (sym at_b ∙ (ap (λ (us : List UserView). slice_get us k) m.changed ∙ (ap (slice_get (slice_set now i m.after)) same ∙ set_at now i m.after inside))) in
              let pair : HasMet old m.before.who m.after.who × (m.after.halted ≡ m.before.halted) × (m.after.served ≡ m.before.served) = (met_same m.before m.after m.met, m.halted, m.served) in
              subst (λ (c : UserView). HasMet old c.who b.who × (b.halted ≡ c.halted) × (b.served ≡ c.served)) (sym is_a)
              (subst (λ (d : UserView). HasMet old m.before.who d.who × (d.halted ≡ m.before.halted) × (d.served ≡ m.before.served)) (sym is_b) pair)
          | inr apart ↦
              h.met k a b (omega (arith, less, apart)) at_a (sym (set_off now i k m.after apart) ∙ (ap (λ (us : List UserView). slice_get us k) (sym m.changed) ∙ at_b))
        ];
        rest = λ k least. ap (λ (us : List UserView). slice_get us k) m.changed ∙ (set_off now i k m.after (λ same. omega (arith, same, least)) ∙ h.rest k (omega (arith, least)));
      }

  -- all have met
  pub all_met : length old ≤ i → AllMet old now
  all_met past k a b at_a at_b = h.met k a b (omega (arith, past, slice_get_within old k a at_a)) at_a at_b

  pub are_users : (s : Script) → AreUsers s old → AreUsers s now
  are_users s users = record {
    all = h.all ∙ users.all;
    numbers = λ k u at.
        let t = was_there k u at in
        elim t.stage [
          | inl past ↦ ap (λ (o : OwnView). o.side.number) past.1.rest ∙ users.numbers k t.was t.at
          | inr is ↦ ap (λ (c : UserView). c.who.side.number) is.1 ∙ users.numbers k t.was t.at
        ];
    rooms = λ k u at.
        let t = was_there k u at in
        elim t.stage [
          | inl past ↦ past.1.room ∙ users.rooms k t.was t.at
          | inr is ↦ ap (λ (c : UserView). length c.who.receipts) is.1 ∙ users.rooms k t.was t.at
        ];
  }
