use Rattle.std.proofs.Common.{ℕ, List, [], ◌≡◌, slice_index_or, sym, subst, ◌∙◌, below_more}
use Rattle.board_core.specs.Calls.{NoBadDep}
use Rattle.board_core.specs.History.{dep_lists}
use Rattle.board_core.proofs.JobStateLemmas.{row-is}
use Rattle.board_core.proofs.checks.first_bad.Goals as goal

pub loop-job-preserved : goal.loop-job-preserved
loop-job-preserved c =
    let job = c.loop-job.job in
    let lists = dep_lists c.args.deps.now in
    let same : slice_index_or lists job [] ≡ c.as_slice.result.now = row-is c.args.deps.now job c.index-deps-job.result c.loop-job-test.true c.index-deps-job.is ∙ sym c.as_slice.ensures.value in
    let row : List ℕ → Type 0 = λ x. NoBadDep c.args.ranks.now x job in
    let Fine : ℕ → Type 0 = λ j. NoBadDep c.args.ranks.now (slice_index_or lists j []) j in
    below_more Fine job c.loop-job.invariant (subst row (sym same) c.in_default.ensures.none)
