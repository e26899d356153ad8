use Rattle.std.proofs.Common.{◌≡◌, ◌≤◌, drop}
use Rattle.base.specs.Limits.{most_built_values}
use Rattle.g_build.specs.Passed.{first_beyond}
use Rattle.g_build.proofs.passed.first_beyond.Given as goal

abbrev pub invariant-loop-f : goal.invariant-loop-f
invariant-loop-f l = record {
  place : first_beyond l.total (drop l.f-index l.functions) ≡ first_beyond 0 l.functions;
  few : l.total ≤ most_built_values;
}
