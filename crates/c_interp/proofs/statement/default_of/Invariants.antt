-- No group before this one is that of `default`.
use Rattle.std.proofs.Common.{◌≡◌, drop}
use Rattle.c_typed.specs.StmtViews.{groups_of}
use Rattle.c_mean.specs.Statements.{from_default}
use Rattle.c_interp.proofs.statement.default_of.Given as goal

abbrev pub invariant-loop-i : goal.invariant-loop-i
invariant-loop-i l = from_default (groups_of l.groups) ≡ from_default (groups_of (drop l.i l.groups))
