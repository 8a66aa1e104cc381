use Rattle.std.proofs.Common.{◌≡◌, ℕ, ◌||◌, not, List, Option, sym, ap, subst, ◌∙◌}
use Rattle.std.specs.Prelude.{IsTrue}
use Rattle.std.specs.List.{list_all}
use Rattle.psos_calls.specs.Language.User.{User}
use Rattle.psos_model.specs.Run.{phase_of, is_now, is_open, is_left}
use Rattle.psos_model.proofs.RequestsLeft.{fails, none_passes, all_fail}
use Rattle.psos_model.proofs.flat.Flat.finished.Goals as goal

pub returns : goal.returns
returns c =
    let s = c.args.script.now in
    let users = c.args.self.now.users in
    let test = is_left s users in
    let same : ◌≡◌ {A = List User} c.as_slice-users.result.now users = c.as_slice-users.ensures in
    let is : c.none_left.result ≡ list_all (fails test) users =
    c.none_left.ensures
    ∙ ap (λ (o : Option ℕ). list_all (λ (x : User). not (is_open x.frames || is_now (phase_of s x) o)) c.as_slice-users.result.now) c.current_phase.ensures
    ∙ ap (λ (us : List User). list_all (fails (is_left s us)) us) same in
    (λ h. none_passes test users (subst IsTrue is h), λ h. subst IsTrue (sym is) (all_fail test users h))
