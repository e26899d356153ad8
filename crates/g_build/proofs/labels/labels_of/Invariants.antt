use Rattle.std.proofs.Common.{◌≡◌, ◌++◌, ◌≤◌, map, drop}
use Rattle.c_typed.specs.StmtViews.{groups_of}
use Rattle.g_build_def.specs.Switch.{labels_of}
use Rattle.g_build.specs.LabelViews.{label_of}
use Rattle.g_build.proofs.labels.labels_of.Given as goal

abbrev pub invariant-loop-i : goal.invariant-loop-i
invariant-loop-i l = record {
  labels : map label_of l.labels.items ++ labels_of l.segment l.i (groups_of (drop l.i l.groups)) ≡ labels_of 0 0 (groups_of l.groups);
  few : l.segment ≤ l.i;
}
