use Rattle.std.proofs.Common.{◌≡◌, drop}
use Rattle.c_typed.specs.StmtViews.{groups_of}
use Rattle.g_build_def.specs.Switch.{some_segment_has_several}
use Rattle.g_build.proofs.labels.has_several.Given as goal

abbrev pub invariant-loop-i : goal.invariant-loop-i
invariant-loop-i l = some_segment_has_several (groups_of (drop l.i l.groups)) ≡ some_segment_has_several (groups_of l.groups)
