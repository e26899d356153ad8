-- The total with what is left is the whole.
use Rattle.std.proofs.Common.{◌≡◌, ◌+◌, ◌^◌, ◌<◌, length, drop}
use Rattle.g_graph.specs.Count.{saturated, regions_values}
use Rattle.g_graph.specs.Plain.{regions_of}
use Rattle.g_graph.specs.Signatures.{outputs_of}
use Rattle.r_walk.proofs.counts.node_values.Given as goal

abbrev pub invariant-loop-region : goal.invariant-loop-region
invariant-loop-region l =
    (saturated (l.total + regions_values (regions_of (drop l.region-index l.regions))) ≡ saturated (1 + length (outputs_of l.fn.op (regions_of l.regions)) + regions_values (regions_of l.regions)))
    × (l.total < 2 ^ 64)
