use Rattle.std.proofs.Common.{◌≡◌, ◌+◌, length, take}
use Rattle.c_check_def.specs.Calls.{all_fit, all_passed}
use Rattle.c_check_term.specs.Passing.{exprs_in}
use Rattle.c_check_term.proofs.arguments.pass_all.Given as goal

abbrev pub invariant-loop-x : goal.invariant-loop-x
invariant-loop-x l =
    (l.index ≡ length l.yielded) × (l.passed.fit ≡ all_fit (take (length l.yielded) l.params) l.yielded)
    × (exprs_in l.passed.exprs ≡ all_passed (take (length l.yielded) l.params) l.yielded)
    × (length l.yielded + l.x-iterator.rest.len ≡ length l.params)
