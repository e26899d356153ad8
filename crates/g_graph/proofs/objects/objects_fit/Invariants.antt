use Rattle.std.proofs.Common.{◌≡◌, drop}
use Rattle.g_graph.specs.WellFormed.{all_of, leaves_fit}
use Rattle.g_graph.proofs.objects.objects_fit.Given as goal

abbrev pub invariant-loop-object : goal.invariant-loop-object
invariant-loop-object l = all_of (λ o. leaves_fit o.size 0 o.leaves) (drop l.object-index l.objects) ≡ all_of (λ o. leaves_fit o.size 0 o.leaves) l.objects
