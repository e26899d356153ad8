-- A walk of Pull over a lambda, from behind: of a region the last node comes first, and of a node its regions, the last
-- first, before the node itself. What is behind a node is written already; there the Gamma stands that the node moves into.
use Rattle.std.specs.Prelude.{List, [], Option, None, Some, option_and_then}
use Rattle.g_graph.specs.declared.op.Origin.{Origin}
use Rattle.r_rule.specs.declared.steps.Rule.TheVariants.{Pull}
use Rattle.g_graph.specs.Plain.{RegionTree, region, NodeTree, node, NodeTrees, no_nodes, node_then, RegionTrees, no_regions, region_then, id_of}
use Rattle.g_graph.specs.Program.{lambda_values}
use Rattle.r_pull.specs.Rule as rule
use Rattle.r_sweep_def.specs.Swept.{Logged}
use Rattle.r_walk.specs.Walk.{Walking, WrittenRegion, WrittenRegions, stepped}

-- the nodes of a region that are written, which are its last ones
pub record Behind : Type 0 where
  pub nodes : NodeTrees
  pub now : Walking

-- how a node moves into one of the nodes behind it, in a region with these results
abbrev pub pull_behind : NodeTree → (results : List Origin) → Behind → Option rule.Pull
pull_behind x results s =
    option_and_then (rule.where_fits s.now.values s.now.next (id_of x)) (rule.pull_of (id_of x) (region [] s.nodes results) x)

-- Node x is written before the others, or it moved into one of them.
abbrev pub put : NodeTree → Behind → Option rule.Pull → Behind
put x s None = record { nodes = node_then x s.nodes; now = s.now }
put x s (Some h) = record {
  nodes = rule.user_changed (id_of x) (rule.gamma_pulled s.now.next (id_of x) h) s.nodes;
  now = stepped Pull (id_of x) (rule.gone (id_of x) h) (rule.added (id_of x) h) (rule.copies_of (id_of x) h) s.now;
}

abbrev pub put_where : NodeTree → (results : List Origin) → Behind → Behind
put_where x results s = put x s (pull_behind x results s)

abbrev mutual
  pub walk_region : RegionTree → Walking → WrittenRegion
  walk_region (region args nodes results) w =
      let s : Behind = walk_nodes nodes results w in
      record { region = region args s.nodes results; now = s.now }

  pub walk_regions : RegionTrees → Walking → WrittenRegions
  walk_regions no_regions w = record { regions = no_regions; now = w }
  walk_regions (region_then r rs) w =
      let t : WrittenRegions = walk_regions rs w in
      let s : WrittenRegion = walk_region r t.now in
      record { regions = region_then s.region t.regions; now = s.now }

  -- nodes of a region with these results
  pub walk_nodes : NodeTrees → (results : List Origin) → Walking → Behind
  walk_nodes no_nodes results w = record { nodes = no_nodes; now = w }
  walk_nodes (node_then x xs) results w = walk_node x results (walk_nodes xs results w)

  pub walk_node : NodeTree → (results : List Origin) → Behind → Behind
  walk_node (node id op inputs rs) results s =
      let t : WrittenRegions = walk_regions rs s.now in
      put_where (node id op inputs t.regions) results (record { nodes = s.nodes; now = t.now })

-- the lambda and the log after a walk
abbrev pub walked : Logged → Logged
walked s =
    let w : WrittenRegion = walk_region s.lambda.body (record { values = lambda_values s.lambda; next = s.lambda.next; steps = s.steps }) in
    record { lambda = record s.lambda { body = w.region; next = w.now.next }; steps = w.now.steps }
