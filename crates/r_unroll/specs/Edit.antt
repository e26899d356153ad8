-- The parts of the change, as it is made: the loop that is found first, and the Gamma that its region gets.
use Rattle.std.specs.Prelude.{ℕ, ◌+◌, if◌then◌else◌, List, length, Option, None, Some, option_map, option_and_then}
use Rattle.g_graph.specs.declared.op.Op.TheVariants.{Theta}
use Rattle.g_graph.specs.declared.op.Origin.{Origin}
use Rattle.g_graph.specs.declared.op.Origin.TheVariants.{Out}
use Rattle.g_graph.specs.Plain.{RegionTree, region, NodeTree, node, RegionTrees, no_regions, region_then, results_of}
use Rattle.g_graph.specs.Nodes.{node_at, node_set}
use Rattle.r_edit.specs.Origins.{origins_from}
use Rattle.r_edit.specs.Numbering.{node_count}
use Rattle.r_unroll.specs.Rule.{followed_by, may_unroll}

-- ---- the loop

-- a region that may be unrolled as that of a loop
abbrev pub small_body : (values next : ℕ) → RegionTree → Option RegionTree
small_body values next r = if may_unroll values next r then Some r else None

abbrev pub only_body : (values next : ℕ) → RegionTrees → Option RegionTree
only_body values next (region_then r no_regions) = small_body values next r
only_body values next rs = None

-- the region of a loop that may be unrolled
abbrev pub loop_body : (values next : ℕ) → NodeTree → Option RegionTree
loop_body values next (node id Theta inputs rs) = only_body values next rs
loop_body values next x = None

-- that of node n, where the region itself holds such a loop there
abbrev pub loop_at : (values next n : ℕ) → RegionTree → Option RegionTree
loop_at values next n (region args nodes results) = option_and_then (loop_body values next) (node_at n nodes)

-- ---- the change

-- the results of the region of an unrolled loop, and the number after those of the nodes that come
abbrev pub results_after : (next : ℕ) → RegionTree → List Origin
results_after next r = origins_from (Out next) 0 (length (results_of r))

abbrev pub next_after : (next : ℕ) → RegionTree → ℕ
next_after next r = next + 2 + node_count r

-- the only one of these regions, with this last node and these results
abbrev pub only_followed : (last : NodeTree) → (outs : List Origin) → RegionTrees → RegionTrees
only_followed last outs (region_then r no_regions) = region_then (followed_by last outs r) no_regions
only_followed last outs rs = rs

-- the node, where it is such a loop, with this last node and these results of its region
abbrev pub node_followed : (values next : ℕ) → (last : NodeTree) → (outs : List Origin) → NodeTree → Option NodeTree
node_followed values next last outs (node id Theta inputs (region_then r no_regions)) =
    if may_unroll values next r then Some (node id Theta inputs (region_then (followed_by last outs r) no_regions)) else None
node_followed values next last outs x = None

abbrev pub followed_at : (values next n : ℕ) → (last : NodeTree) → (outs : List Origin) → RegionTree → Option RegionTree
followed_at values next n last outs (region args nodes results) =
    option_map (λ y. region args (node_set n y nodes) results) (option_and_then (node_followed values next last outs) (node_at n nodes))

-- how many numbers the loop with these regions takes: of the Gamma, of the Const, and of the copy of its region
abbrev pub loop_numbers : RegionTrees → ℕ
loop_numbers no_regions = 0
loop_numbers (region_then r rs) = 2 + node_count r
