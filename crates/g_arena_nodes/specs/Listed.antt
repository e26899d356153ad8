-- How the rows of nodes are made: the kinds of results and outputs, and the row of a node.
use Rattle.std.specs.Prelude.{ℕ, List, [], map, slice_get}
use Rattle.std.specs.declared.option.Option.{Option}
use Rattle.std.specs.declared.option.Option.TheVariants.{Some, None}
use Rattle.std.specs.declared.vec.Vec.{Vec}
use Rattle.g_graph.specs.declared.op.Kind.{Kind}
use Rattle.g_graph.specs.Plain.{RegionTree, region, NodeTree, node, RegionTrees, no_regions, region_then}
use Rattle.g_graph.specs.Signatures.{joined, kind_of, result_kinds, kind_after}
use Rattle.g_graph.specs.WellFormed.{kinds_of}
use Rattle.g_arena_def.specs.declared.place.Place.{Place}
use Rattle.g_arena_def.specs.Flat.{FlatNode, regions_flat}

-- the kinds of the results of the first region
abbrev pub first_kinds : RegionTrees → List (Option Kind)
first_kinds no_regions = []
first_kinds (region_then r rs) = result_kinds r

-- the kind of an output, where a node has these
abbrev pub kind_at : {Z : Type 0} → Option (Vec (Option Kind) Z) → (port : ℕ) → Option Kind
kind_at None p = None
kind_at (Some kinds) p = joined (slice_get kinds.items p)

-- the kind of an output of a node of a region
abbrev pub region_kind : RegionTree → (id port : ℕ) → Option Kind
region_kind (region args nodes results) n p = kind_after nodes n p None

-- the kinds of the results of a region, where the outputs of its nodes have these kinds
abbrev pub kinds_by : (ℕ → ℕ → Option Kind) → RegionTree → List (Option Kind)
kinds_by outputs (region args nodes results) = map (kind_of args outputs) results

-- the row of a node with outputs of these kinds
abbrev pub node_row : Place → NodeTree → List (Option Kind) → FlatNode
node_row p (node id op inputs rs) kinds =
    record { id = id; op = op; inputs = inputs; outputs = kinds_of kinds; regions = regions_flat rs; home = p }
