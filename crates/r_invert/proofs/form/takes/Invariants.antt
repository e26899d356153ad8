use Rattle.std.proofs.Common.{◌≡◌, drop}
use Rattle.g_graph.specs.Scope.{same_kind}
use Rattle.g_graph.specs.WellFormed.{some_of}
use Rattle.r_invert.proofs.form.takes.Given as goal

abbrev pub invariant-loop-arg : goal.invariant-loop-arg
invariant-loop-arg l = some_of (same_kind l.kind) (drop l.arg-index l.args) ≡ some_of (same_kind l.kind) l.args
