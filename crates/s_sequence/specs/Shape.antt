-- The shapes of nodes that a well-formed lambda has and sequencing rests on: which nodes have regions, and how many, and
-- that the last region of a Gamma gives the same kinds as the first.
use Rattle.std.specs.Prelude.{◌≡◌, List, [], ◌∷◌}
use Rattle.std.specs.declared.option.Option.{Option}
use Rattle.g_graph.specs.declared.op.Kind.{Kind}
use Rattle.g_graph.specs.declared.op.Origin.{Origin}
use Rattle.g_graph.specs.declared.op.Op.{Op}
use Rattle.g_graph.specs.declared.op.Op.TheVariants.{Gamma, Theta}
use Rattle.g_graph.specs.Plain.{RegionTree, region, NodeTree, node, NodeTrees, no_nodes, node_then, RegionTrees, no_regions, region_then}
use Rattle.g_graph.specs.Signatures.{result_kinds}

-- the kinds of the results of the last of these regions, the first of which is given
abbrev pub last_kinds : RegionTree → RegionTrees → List (Option Kind)
last_kinds r no_regions = result_kinds r
last_kinds r (region_then s rs) = last_kinds s rs

abbrev pub HasShape : Op → List Origin → RegionTrees → Type 0
HasShape Gamma [] rs = ⊥
HasShape Gamma (p ∷ entries) no_regions = ⊥
HasShape Gamma (p ∷ entries) (region_then r rs) = last_kinds r rs ≡ result_kinds r
HasShape Theta inputs no_regions = ⊥
HasShape Theta inputs (region_then r no_regions) = Unit {0}
HasShape Theta inputs (region_then r (region_then s rs)) = ⊥
HasShape op inputs no_regions = Unit {0}
HasShape op inputs (region_then r rs) = ⊥

abbrev mutual
  pub RegionShaped : RegionTree → Type 0
  RegionShaped (region args nodes results) = NodesShaped nodes

  pub NodeShaped : NodeTree → Type 0
  NodeShaped (node id op inputs rs) = HasShape op inputs rs × RegionsShaped rs

  pub NodesShaped : NodeTrees → Type 0
  NodesShaped no_nodes = Unit {0}
  NodesShaped (node_then x xs) = NodeShaped x × NodesShaped xs

  pub RegionsShaped : RegionTrees → Type 0
  RegionsShaped no_regions = Unit {0}
  RegionsShaped (region_then r rs) = RegionShaped r × RegionsShaped rs
