use Rattle.std.proofs.Common.{◌≤◌, vec_capacity}
use Rattle.base.specs.Limits.{most_jobs}
use Rattle.board_tests.proofs.crew.run_bare.Given as goal

abbrev pub invariant-loop-index : goal.invariant-loop-index
invariant-loop-index l = most_jobs ≤ vec_capacity l.out
