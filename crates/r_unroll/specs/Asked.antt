-- Unrolling as a walk asks it: what it says of a node.
use Rattle.std.specs.Prelude.{ℕ, ◌+◌, [], Option, None, Some}
use Rattle.g_graph.specs.Plain.{NodeTree, node, no_nodes, node_then, no_regions, region_then}
use Rattle.r_edit.specs.Numbering.{node_count}
use Rattle.r_unroll.specs.Rule.{node_unrolled}
use Rattle.r_walk.specs.Walk.{Part, stays, becomes, Asked}

-- the numbers that an unrolled loop takes: of the Gamma, of the Const, and of the copy of its region
abbrev pub numbers_taken : NodeTree → ℕ
numbers_taken (node id op inputs no_regions) = 0
numbers_taken (node id op inputs (region_then r rs)) = 2 + node_count r

-- a node stays, or another one comes in its place, which gives the same outputs
abbrev pub part_of : (taken : ℕ) → Option NodeTree → Part
part_of taken None = stays
part_of taken (Some y) = becomes (node_then y no_nodes) [] taken

abbrev pub unroll_asked : Asked
unroll_asked values next before uses x = part_of (numbers_taken x) (node_unrolled values next x)
