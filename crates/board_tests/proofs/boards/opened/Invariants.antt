use Rattle.std.proofs.Common.{◌≡◌, vec_len}
use Rattle.board_tests.proofs.boards.opened.Given as goal

abbrev pub invariant-loop-job : goal.invariant-loop-job
invariant-loop-job l = (vec_len l.ranks ≡ l.job) × (vec_len l.deps ≡ l.job)
