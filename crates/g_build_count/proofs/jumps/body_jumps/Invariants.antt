use Rattle.std.proofs.Common.{◌≡◌, drop}
use Rattle.c_typed.specs.StmtViews.{items_of}
use Rattle.g_build_def.specs.Exits.{body_jumps}
use Rattle.g_build_count.proofs.jumps.body_jumps.Given as goal

abbrev pub invariant-loop-i : goal.invariant-loop-i
invariant-loop-i l = body_jumps (items_of (drop l.i l.items)) ≡ body_jumps (items_of l.items)
