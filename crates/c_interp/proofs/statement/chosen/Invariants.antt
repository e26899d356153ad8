-- No group before this one has the label.
use Rattle.std.proofs.Common.{◌≡◌, drop}
use Rattle.c_typed.specs.StmtViews.{groups_of}
use Rattle.c_mean.specs.Statements.{from_case}
use Rattle.c_interp.proofs.statement.chosen.Given as goal

abbrev pub invariant-loop-i : goal.invariant-loop-i
invariant-loop-i l = from_case l.w (groups_of l.groups) ≡ from_case l.w (groups_of (drop l.i l.groups))
