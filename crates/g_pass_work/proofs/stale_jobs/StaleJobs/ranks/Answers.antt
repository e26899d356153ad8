use Rattle.std.proofs.Common.{◌≡◌, ℕ, List, length, map, slice_index, ap, subst, ◌∙◌, arith}
use Rattle.std.specs.Prelude.{IfOk}
use Rattle.call_order.specs.Units.{call_lists}
use Rattle.g_pass_work.specs.Renewal.{functions_of}
use Rattle.g_pass_work.specs.StaleJobs.{Jobs}
use Rattle.g_pass_work.proofs.OneJob.{known}
use Rattle.g_pass_work.proofs.stale_jobs.StaleJobs.ranks.Goals as goal

pub ranks_of-requires : goal.ranks_of-requires
ranks_of-requires c j h =
    let fields = c.self.inside in
    omega (arith, known fields.lambdas.now fields.functions.now fields.stale.now (call_lists fields.deps.now) c.self.invariant j h, ap (λ (w : Jobs). length w.stale) c.self.view_is, c.requires)

pub returns : goal.returns
returns c =
    let same = c.self.invariant.functions_are ∙ ap (λ (w : Jobs). functions_of w.stale) c.self.view_is in
    subst (λ (js : List ℕ). IfOk c.ranks_of.result (λ own. own.items ≡ map (slice_index c.args.ranks.now) js)) same c.ranks_of.ensures
