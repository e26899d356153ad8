-- What stands around a region in the body of a lambda.
use Rattle.std.specs.Prelude.{◌≡◌, ◌+◌, ℕ, false, List, ◌++◌, length, Option, None, option_map}
use Rattle.g_graph.specs.Change.{region_changed, has_node}
use Rattle.g_graph.specs.Count.{region_values}
use Rattle.g_graph.specs.Ids.{region_ids}
use Rattle.g_graph.specs.Plain.{RegionTree, RegionTrees, no_regions, region_then, args_of, nodes_in, results_of, PlainLambda}
use Rattle.g_mean.specs.Copies.{IsAmong}
use Rattle.g_mean.specs.Edits.{IsPartOf}

abbrev pub joined_regions : RegionTrees → RegionTrees → RegionTrees
joined_regions no_regions ss = ss
joined_regions (region_then r rs) ss = region_then r (joined_regions rs ss)

-- A change that only a region which itself holds node n admits.
abbrev pub ChangesOnlyAt : (n : ℕ) → (RegionTree → Option RegionTree) → Type 0
ChangesOnlyAt n f = (r : RegionTree) → has_node n (nodes_in r) ≡ false → f r ≡ None

-- the same arguments, and as many results
pub record HasShapeOf (r s : RegionTree) : Type 0 where
  pub args : args_of r ≡ args_of s
  pub results : length (results_of r) ≡ length (results_of s)

-- The regions and nodes around a region that may be another one: numbers stand before and after its own; a change at a
-- node that is not around it is made within it; it is a part where the whole is one; and the whole has as many values
-- more with one region as that region has.
pub record IsContext (context : RegionTree → RegionTree) : Type 0 where
  pub first : List ℕ
  pub last : List ℕ
  pub numbers : (r : RegionTree) → region_ids (context r) ≡ first ++ region_ids r ++ last
  pub changes : (n : ℕ) (f : RegionTree → Option RegionTree) (r : RegionTree) → ChangesOnlyAt n f → (IsAmong n first → ⊥) → (IsAmong n last → ⊥) →
      region_changed f (context r) ≡ option_map context (region_changed f r)
  pub part : (l : PlainLambda) (r : RegionTree) → IsPartOf l (context r) → IsPartOf l r
  pub values : (r s : RegionTree) → HasShapeOf r s → region_values (context r) + region_values s ≡ region_values (context s) + region_values r
