-- The regions of a node of a well-formed lambda.
use Rattle.std.specs.Prelude.{ℕ, ◌≡◌, true, List}
use Rattle.g_graph.specs.declared.op.Op.{Op}
use Rattle.g_graph.specs.declared.op.Origin.{Origin}
use Rattle.g_graph.specs.Ids.{regions_ids}
use Rattle.g_graph.specs.Plain.{node, RegionTrees}
use Rattle.g_graph.specs.WellFormed.{distinct, every_in_regions, region_fits, regions_fit, theta_has_states}

-- In a lambda with so many objects, they fit the node and, with all that is nested in them, themselves; and their numbers
-- are unique.
pub record AreSound (op : Op) (rs : RegionTrees) : Type 0 where
  pub objects : ℕ
  pub fits : every_in_regions (region_fits objects) rs ≡ true
  pub unique : distinct (regions_ids rs) ≡ true
  pub of_node : (id : ℕ) (inputs : List Origin) → regions_fit (node id op inputs rs) ≡ true
  pub states : (id : ℕ) (inputs : List Origin) → theta_has_states (node id op inputs rs) ≡ true
