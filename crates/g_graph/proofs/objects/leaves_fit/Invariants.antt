use Rattle.std.proofs.Common.{◌≡◌, drop}
use Rattle.g_graph.specs.WellFormed.{leaves_fit}
use Rattle.g_graph.proofs.objects.leaves_fit.Given as goal

abbrev pub invariant-loop-leaf : goal.invariant-loop-leaf
invariant-loop-leaf l = leaves_fit l.size l.from (drop l.leaf-index l.leaves) ≡ leaves_fit l.size 0 l.leaves
