-- The nodes that are written, the last of the region first.
use Rattle.std.specs.Prelude.{◌≡◌, List, [], ◌∷◌, ◌&&◌, Bool}
use Rattle.g_graph.specs.declared.op.Origin.{Origin}
use Rattle.g_graph.specs.Plain.{NodeTree, node, NodeTrees, no_nodes, node_then, RegionTree, RegionTrees, region_then, has_none}
use Rattle.g_graph.specs.Signatures.{is_pure}
use Rattle.r_pull.specs.Walk.{Behind}
use Rattle.r_pull.specs.declared.users.Users.{Users}
use Rattle.r_pull.specs.Users.{AreUsers}
use Rattle.r_walk.specs.Walk.{Walking}

-- Each stands before those that were written earlier.
abbrev pub nodes_behind : List NodeTree → NodeTrees → NodeTrees
nodes_behind [] ns = ns
nodes_behind (x ∷ xs) ns = nodes_behind xs (node_then x ns)

abbrev pub regions_behind : List RegionTree → RegionTrees → RegionTrees
regions_behind [] rs = rs
regions_behind (q ∷ qs) rs = regions_behind qs (region_then q rs)

abbrev pub behind : List NodeTree → Walking → Behind
behind ws w = record { nodes = nodes_behind ws no_nodes; now = w }

-- a node that may leave its region
abbrev pub can_leave : NodeTree → Bool
can_leave (node id op inputs rs) = is_pure op && has_none rs

-- These nodes are written, in a region with these results, and the table has their users.
pub record IsWritten (results : List Origin) (s : Behind) (ws : List NodeTree) (users : Users) (w : Walking) : Type 0 where
  pub is : behind ws w ≡ s
  pub users_are : AreUsers users results ws
