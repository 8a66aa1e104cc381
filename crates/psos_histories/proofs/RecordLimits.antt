-- How many entries are recorded, whose own parts there are, and that directories are entry lists. States docs/promises.md, "Runs" and "Stands for".
use Rattle.std.proofs.Common.{◌≡◌, ℕ, ◌<◌, ◌≤◌, ◌==◌, Bool, true, false, cond, eqb, refl, List, [], ◌∷◌, length, map, ap, ◌∙◌, subst, arith}
use Rattle.std.proofs.lemmas.List.{length-map}
use Rattle.std.proofs.lemmas.Option.{slice_get_within}
use Rattle.psos_calls.specs.declared.entry.Entry.{Entry}
use Rattle.psos_calls.specs.Language.User.{User}
use Rattle.psos_model.specs.Run.{run_from}
use Rattle.psos_model.proofs.Orders.{order_length}
use Rattle.std.specs.Prelude.{◌↔◌}
use Rattle.std.specs.Int.{bit_at}
use Rattle.std.proofs.lemmas.Bool.{eqb-true, eqb-false}
use Rattle.psos_model.specs.Flat.Boot.{boot}
use Rattle.psos_model.specs.Replay.{boot_system, answered_of}
use Rattle.psos_journal.specs.Members.{entries_of, named}
use Rattle.psos_events.proofs.EventConditions.{boot_is_core_start}
use Rattle.psos_laws.proofs.OrderLengths.{orders_end}
use Rattle.psos_agree.proofs.EntryLists.{directories_are_lists}
use Rattle.psos_events.proofs.Replays.{runs_stand}
use Rattle.psos_histories.specs.Records.{order_in, replay_in, RecordsAreFew, RecordsHaveUsers, RecordsHaveLists, RecordsAreFaithful, ListsAreUsers}

pub records_are_few : RecordsAreFew
records_are_few s y f log start h =
    let order = order_in log in
    let entries : length order ≡ length log = order_length (entries_of log) ∙ length-map log (λ (x : Entry × ℕ). x.0) in
    let most : length order ≤ 32768 = orders_end s f order start.well_formed start.start h.legal in
    omega (arith, most, entries)

pub records_have_users : RecordsHaveUsers
records_have_users s y f log start h u x here =
    let now = runs_stand s y f (order_in log) start h.legal in
    let users : length (replay_in s y log).users ≡ length s.users = ap (λ (us : List User). length us) now.stands.users ∙ now.sound.all_users in
    subst (λ (k : ℕ). u < k) users (slice_get_within (replay_in s y log).users u x here)

pub records_have_lists : RecordsHaveLists
records_have_lists s y f log start h =
    let now = runs_stand s y f (order_in log) start h.legal in
    directories_are_lists s (replay_in s y log) (run_from s f (order_in log)) now.stands now.sound

-- ---- the entries, and whose they are

pub records_are_faithful : RecordsAreFaithful
records_are_faithful s log well h =
    let now = runs_stand s (boot_system s) (boot s) (order_in log) (boot_is_core_start s well) h.legal in
    record { replayed = h.replayed; answered = ap (map answered_of) h.replayed ∙ now.answered }

-- a bit is set where it should be, and nowhere else
set_where : (bit user u : ℕ) → (bit ≡ 1) ↔ (user ≡ u) → (bit == 1) ≡ (user == u)
set_where bit user u h = by_tests (eqb bit 1) refl (eqb user u) refl
  where
    by_tests : (a : Bool) → eqb bit 1 ≡ a → (b : Bool) → eqb user u ≡ b → a ≡ b
    by_tests true ea true eb = refl
    by_tests true ea false eb = absurd (eqb-false user u eb (h.0 (eqb-true bit 1 ea)))
    by_tests false ea true eb = absurd (eqb-false bit 1 ea (h.1 (eqb-true user u eb)))
    by_tests false ea false eb = refl

pub lists_are_users : ListsAreUsers
lists_are_users n u [] less h = refl
lists_are_users n u (x ∷ log) less h =
    ap (λ (b : Bool). cond b (x.0 ∷ named u log) (named u log)) (set_where (bit_at x.1 u) x.0.user u (h.0.user u less))
    ∙ ap (λ (es : List Entry). cond (x.0.user == u) (x.0 ∷ es) es) (lists_are_users n u log less h.1)
