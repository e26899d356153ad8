-- The lambda stays well formed.
use Rattle.g_graph.specs.WellFormed.{IsWellFormed}
use Rattle.g_rows.proofs.arenas.sweep_by_steps.Given as goal

abbrev pub invariant-loop-node : goal.invariant-loop-node
invariant-loop-node l = IsWellFormed l.lambda
