-- Inversion as a walk asks it: what it says of a node.
use Rattle.std.specs.Prelude.{Option, None, Some}
use Rattle.g_graph.specs.Plain.{RegionTree, nodes_in, results_of}
use Rattle.r_edit.specs.Numbering.{node_count}
use Rattle.r_invert.specs.Rule.{in_place}
use Rattle.r_walk.specs.Walk.{Part, stays, becomes, Asked}

-- a node stays, or the nodes of a region come in its place, all with new numbers
abbrev pub part_of : Option RegionTree → Part
part_of None = stays
part_of (Some r) = becomes (nodes_in r) (results_of r) (node_count r)

abbrev pub invert_asked : Asked
invert_asked values next before uses x = part_of (in_place values next x)
