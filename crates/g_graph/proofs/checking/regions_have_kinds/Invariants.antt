use Rattle.std.proofs.Common.{◌≡◌, ◌&&◌, drop}
use Rattle.g_graph.specs.Plain.{RegionTree, regions_of, args_of}
use Rattle.g_graph.specs.Signatures.{result_kinds}
use Rattle.g_graph.specs.WellFormed.{all_regions, same, are, kinds_of}
use Rattle.g_graph.proofs.checking.regions_have_kinds.Given as goal

abbrev pub invariant-loop-region : goal.invariant-loop-region
invariant-loop-region l =
    let has_kinds = λ (r : RegionTree). same (args_of r) (args_of l.first) && are (result_kinds r) (kinds_of (result_kinds l.first)) in
    all_regions has_kinds (regions_of (drop l.region-index l.regions)) ≡ all_regions has_kinds (regions_of l.regions)
