use Rattle.std.proofs.Common.{ℕ, ◌<◌, [], slice_index_or}
use Rattle.board_core.specs.Calls.{NoBadDep}
use Rattle.board_core.specs.History.{dep_lists}
use Rattle.board_core.proofs.checks.first_bad.Given as goal

abbrev pub invariant-loop-job : goal.invariant-loop-job
invariant-loop-job l = (j : ℕ) → j < l.job → NoBadDep l.ranks (slice_index_or (dep_lists l.deps) j []) j
