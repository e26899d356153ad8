use Rattle.std.proofs.Common.{ℕ, ◌<◌, slice_index}
use Rattle.board_core.specs.Calls.{IsBadDep}
use Rattle.board_core.proofs.checks.first_bad_dep.Given as goal

abbrev pub invariant-loop-dep : goal.invariant-loop-dep
invariant-loop-dep l = (e : ℕ) → e < l.dep-index → ¬ IsBadDep l.ranks l.job (slice_index l.deps e)
