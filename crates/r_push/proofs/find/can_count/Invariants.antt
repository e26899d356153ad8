use Rattle.std.proofs.Common.{◌≡◌, ◌^◌, nat_lt, length, drop}
use Rattle.g_graph.specs.Plain.{regions_of, args_of}
use Rattle.g_graph.specs.WellFormed.{all_regions}
use Rattle.r_push.specs.Rule.{can_count}
use Rattle.r_push.proofs.find.can_count.Given as goal

abbrev pub invariant-loop-region : goal.invariant-loop-region
invariant-loop-region l = all_regions (λ r. nat_lt (length (args_of r)) (2 ^ 32)) (regions_of (drop l.region-index l.region-items)) ≡ can_count l.node
