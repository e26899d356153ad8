use Rattle.std.proofs.Common.{◌≡◌, ◌&&◌, drop}
use Rattle.g_graph.specs.declared.op.Kind.TheVariants.{Memory, Io}
use Rattle.g_graph.specs.Plain.{regions_of, args_of}
use Rattle.g_graph.specs.Scope.{same_kind}
use Rattle.g_graph.specs.WellFormed.{all_regions, some_of}
use Rattle.g_graph.proofs.checking.regions_take_states.Given as goal

abbrev pub invariant-loop-region : goal.invariant-loop-region
invariant-loop-region l =
    all_regions (λ r. some_of (same_kind Memory) (args_of r) && some_of (same_kind Io) (args_of r)) (regions_of (drop l.region-index l.regions))
    ≡ all_regions (λ r. some_of (same_kind Memory) (args_of r) && some_of (same_kind Io) (args_of r)) (regions_of l.regions)
