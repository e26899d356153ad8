use Rattle.std.proofs.Common.{◌≡◌, drop}
use Rattle.g_build.specs.Passed.{first_large}
use Rattle.g_build.proofs.passed.first_large.Given as goal

abbrev pub invariant-loop-f : goal.invariant-loop-f
invariant-loop-f l = first_large (drop l.f-index l.functions) ≡ first_large l.functions
