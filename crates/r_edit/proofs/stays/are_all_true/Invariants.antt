use Rattle.std.proofs.Common.{◌≡◌, drop}
use Rattle.r_edit.specs.InPlace.{all_stay}
use Rattle.r_edit.proofs.stays.are_all_true.Given as goal

abbrev pub invariant-loop-test : goal.invariant-loop-test
invariant-loop-test l = all_stay (drop l.test-index l.tests) ≡ all_stay l.tests
