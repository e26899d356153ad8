use Rattle.std.proofs.Common.{ℕ, List, length, ap, ◌∙◌, arith}
use Rattle.std.proofs.lemmas.Bool.Decides.{nat_tests}
use Rattle.g_pass_work.specs.Renewal.{functions_of}
use Rattle.g_pass_work.specs.StaleJobs.{Jobs}
use Rattle.g_pass_work.proofs.stale_jobs.StaleJobs.is_done.Goals as goal

pub returns : goal.returns
returns c =
    let long = ap (λ (xs : List ℕ). length xs) (c.self.invariant.functions_are ∙ ap (λ (w : Jobs). functions_of w.stale) c.self.view_is) in
    (λ e. grind (arith, nat_tests), λ e. grind (arith, nat_tests))
