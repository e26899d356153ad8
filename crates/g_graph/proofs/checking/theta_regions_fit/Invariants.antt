use Rattle.std.proofs.Common.{◌≡◌, ◌∷◌, drop}
use Rattle.g_graph.specs.declared.op.Kind.TheVariants.{Value}
use Rattle.g_graph.specs.Plain.{regions_of, args_of}
use Rattle.g_graph.specs.Signatures.{result_kinds}
use Rattle.g_graph.specs.WellFormed.{all_regions, are}
use Rattle.g_graph.proofs.checking.theta_regions_fit.Given as goal

abbrev pub invariant-loop-region : goal.invariant-loop-region
invariant-loop-region l =
    all_regions (λ r. are (result_kinds r) (Value ∷ args_of r)) (regions_of (drop l.region-index l.regions))
    ≡ all_regions (λ r. are (result_kinds r) (Value ∷ args_of r)) (regions_of l.regions)
