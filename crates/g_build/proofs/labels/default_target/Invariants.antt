use Rattle.std.proofs.Common.{◌≡◌, ◌≤◌, drop}
use Rattle.c_typed.specs.StmtViews.{groups_of}
use Rattle.g_build_def.specs.Switch.{default_target}
use Rattle.g_build.proofs.labels.default_target.Given as goal

abbrev pub invariant-loop-i : goal.invariant-loop-i
invariant-loop-i l = record {
  target : default_target l.segment l.i (groups_of (drop l.i l.groups)) ≡ default_target 0 0 (groups_of l.groups);
  few : l.segment ≤ l.i;
}
