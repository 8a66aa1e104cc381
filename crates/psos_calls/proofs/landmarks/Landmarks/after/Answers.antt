use Rattle.std.proofs.Common.{◌≡◌, ℕ, ◌+◌, ◌∷◌, ◌++◌, [], true, ap, ◌∙◌, subst, arith}
use Rattle.psos_calls.specs.Plan.Asked.{asks_dir, IsLastDir}
use Rattle.psos_calls.specs.Levels.Level7.{reads_page}
use Rattle.psos_calls.proofs.DirectoryCalls.{last-kept, last-moved, no-dir}
use Rattle.psos_calls.proofs.TraceSteps.{ends-none, ends-with, ends-less}
use Rattle.psos_calls.proofs.landmarks.Landmarks.after.Goals as goal

pub returns-in-DirAt-clause-last_dir : goal.returns-in-DirAt-clause-last_dir
returns-in-DirAt-clause-last_dir c steps s len call last =
    let one : asks_dir s.call ≡ true = ap asks_dir (call ∙ c.in-DirAt.is) in
    subst (λ (n : ℕ). IsLastDir (c.args.self.asked + 1) n (steps ++ s ∷ [])) len (last-moved c.args.self.asked c.args.self.last_dir steps s one last)

pub returns-in-DirAt-clause-last_pages : goal.returns-in-DirAt-clause-last_pages
returns-in-DirAt-clause-last_pages c steps s call last = ends-none (steps ++ s ∷ [])

pub returns-in-PageGet-clause-last_dir : goal.returns-in-PageGet-clause-last_dir
returns-in-PageGet-clause-last_dir c steps s len call last = last-kept c.args.self.asked c.args.self.last_dir steps s (ap asks_dir (call ∙ c.in-PageGet.is)) last

pub returns-in-PageGet-clause-last_pages : goal.returns-in-PageGet-clause-last_pages
returns-in-PageGet-clause-last_pages c steps s call last =
    ends-less (c.args.self.reading + 1) c.saturating_add.result (let sum = c.saturating_add.ensures in omega arith) (steps ++ s ∷ []) (ends-with c.args.self.reading steps s (ap reads_page (call ∙ c.in-PageGet.is)) last)

pub returns-in_default : goal.returns-in_default
returns-in_default c = record {
  last_dir = λ steps s len call last. last-kept c.args.self.asked c.args.self.last_dir steps s (ap asks_dir call ∙ no-dir c.args.call.now c.in_default.not-DirAt) last;
  last_pages = λ steps s call last. ends-none (steps ++ s ∷ []);
}
