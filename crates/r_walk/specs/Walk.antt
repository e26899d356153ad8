-- A walk of one rule over a lambda: it goes along the nodes in pre-order, writes each as it then is, and reads those after
-- it as they were. What became of outputs is kept in a list.
use Rattle.std.specs.Prelude.{ℕ, zero, suc, ◌+◌, ◌-◌, ◌==◌, if◌then◌else◌, Bool, List, [], ◌∷◌, ◌++◌, map, drop, slice_get, unwrap_or}
use Rattle.g_graph.specs.declared.op.Origin.{Origin}
use Rattle.g_graph.specs.declared.op.Origin.TheVariants.{Arg, Out}
use Rattle.r_rule.specs.declared.steps.Rule.{Rule}
use Rattle.r_rule.specs.declared.steps.Step.{Step}
use Rattle.g_graph.specs.Plain.{RegionTree, region, NodeTree, node, NodeTrees, no_nodes, node_then, RegionTrees, no_regions, region_then, id_of}
use Rattle.g_graph.specs.Count.{node_values, nodes_values}
use Rattle.g_graph.specs.Program.{lambda_values}
use Rattle.g_graph.specs.Replace.{node_redirected}
use Rattle.g_graph.specs.Scope.{same_origin}
use Rattle.g_graph.specs.Splice.{args_to_inputs, joined_nodes}
use Rattle.g_graph.specs.WellFormed.{some_of}
use Rattle.r_sweep_def.specs.Swept.{Logged}

-- ---- what a rule says of a node

-- The node stays, and its regions are walked. Or these nodes, which are not walked, come in its place, uses of its outputs
-- become these origins, and so many new numbers are taken. Or the nodes of one of its regions come in its place and are
-- walked: the region's arguments are these inputs, and uses of the node's outputs become its results from one on.
pub data Part : Type 0 where
  stays : Part
  becomes : (nodes : NodeTrees) → (outputs : List Origin) → (taken : ℕ) → Part
  opened : (which : ℕ) → (inputs : List Origin) → (from : ℕ) → Part

-- A rule is told how many values the lambda has now, its next number, the nodes written so far in the region, the uses of
-- outputs of the nodes that are still to be walked, and the node as it is now.
abbrev pub Asked : Type 0
Asked = (values next : ℕ) → (before : NodeTrees) → (uses : List Origin) → NodeTree → Part

-- whether an origin is one of these
abbrev pub is_in : List Origin → Origin → Bool
is_in os o = some_of (same_origin o) os

-- ---- what became of outputs

-- uses of outputs of this node became these origins
pub record Moved : Type 0 where
  pub node : ℕ
  pub outputs : List Origin

abbrev pub output_now : List Moved → (node port : ℕ) → Origin
output_now [] n p = Out n p
output_now (m ∷ ms) n p = if n == m.node then unwrap_or (slice_get m.outputs p) (Out n p) else output_now ms n p

-- an origin of a region as it now is, where these outputs moved and the region's arguments became these inputs
abbrev pub origin_now : List Moved → (inputs : List Origin) → Origin → Origin
origin_now ms inputs (Arg k) = args_to_inputs inputs (Arg k)
origin_now ms inputs (Out n p) = output_now ms n p

-- the inputs of nodes
abbrev pub inputs_of_nodes : NodeTrees → List Origin
inputs_of_nodes no_nodes = []
inputs_of_nodes (node_then (node id op inputs rs) ns) = inputs ++ inputs_of_nodes ns

-- ---- the walk

-- the values of the lambda, its next number, and the steps made
pub record Walking : Type 0 where
  pub values : ℕ
  pub next : ℕ
  pub steps : List Step

-- Where the walk stands in a region: the inputs that its arguments became, the nodes written so far, what the region's nodes
-- and results read, as it was before the walk, and the outputs that moved, the latest first.
pub record Cursor : Type 0 where
  pub inputs : List Origin
  pub before : NodeTrees
  pub uses : List Origin
  pub moved : List Moved

-- what is written for nodes, for a region and for regions; of nodes also which outputs moved, the latest first
pub record WrittenNodes : Type 0 where
  pub nodes : NodeTrees
  pub moved : List Moved
  pub now : Walking

pub record WrittenRegion : Type 0 where
  pub region : RegionTree
  pub now : Walking

pub record WrittenRegions : Type 0 where
  pub regions : RegionTrees
  pub now : Walking

-- after a step at a node, where nodes of `new` values come in the place of `old` values
abbrev pub stepped : Rule → (node : ℕ) → (old new taken : ℕ) → Walking → Walking
stepped rule n old new taken w = record { values = w.values + new - old; next = w.next + taken; steps = w.steps ++ record { rule = rule; node = n } ∷ [] }

-- what an opened region gives for the outputs of its node: its results from one on
abbrev pub results_from : (from : ℕ) → (inputs : List Origin) → (results : List Origin) → List Origin
results_from from inputs results = map (args_to_inputs inputs) (drop from results)

-- nodes of which no output moved
abbrev pub unmoved : NodeTrees → Walking → WrittenNodes
unmoved ns w = record { nodes = ns; moved = []; now = w }

-- some nodes, and then others
abbrev pub both_written : (first second : WrittenNodes) → WrittenNodes
both_written s t = record { nodes = joined_nodes s.nodes t.nodes; moved = t.moved ++ s.moved; now = t.now }

-- the cursor after a node for which this was written
abbrev pub cursor_after : WrittenNodes → Cursor → Cursor
cursor_after s c = record c { before = joined_nodes c.before s.nodes; moved = s.moved ++ c.moved }

-- of the results that an opened region gives for the outputs of its node from a port on, those whose output is used
abbrev pub results_used : (uses : List Origin) → (node port : ℕ) → (results : List Origin) → List Origin
results_used uses n p [] = []
results_used uses n p (o ∷ os) = if is_in uses (Out n p) then o ∷ results_used uses n (suc p) os else results_used uses n (suc p) os

-- the cursor at the nodes of an opened region of a node
abbrev pub cursor_in : (node : ℕ) → (inputs : List Origin) → (from : ℕ) → (nodes : NodeTrees) → (results : List Origin) → Cursor → Cursor
cursor_in n inputs from nodes results c = record c { inputs = inputs; uses = inputs_of_nodes nodes ++ results_used c.uses n 0 (drop from results) }

-- the nodes of an opened region, and what became of the outputs of its node
abbrev pub with_outputs : (node : ℕ) → (from : ℕ) → (results : List Origin) → Cursor → WrittenNodes → WrittenNodes
with_outputs n from results c t = record t { moved = record { node = n; outputs = map (origin_now (t.moved ++ c.moved) c.inputs) (drop from results) } ∷ t.moved }

-- a node as it now is
abbrev pub node_now : Cursor → NodeTree → NodeTree
node_now c x = node_redirected (origin_now c.moved c.inputs) x

module _ (rule : Rule) where
  -- what is written for a node x: its regions are walked or opened so
  abbrev pub part_written : (x : NodeTree) → (walk : Walking → WrittenRegions) → (opening : (which : ℕ) → (inputs : List Origin) → (from : ℕ) → WrittenNodes) → Walking → Part → WrittenNodes
  part_written (node id op ins rs) walk opening w stays =
      let t : WrittenRegions = walk w in
      unmoved (node_then (node id op ins t.regions) no_nodes) t.now
  part_written x walk opening w (becomes nodes outputs taken) =
      record { nodes = nodes; moved = record { node = id_of x; outputs = outputs } ∷ []; now = stepped rule (id_of x) (node_values x) (nodes_values nodes) taken w }
  part_written x walk opening w (opened which inputs from) = opening which inputs from

  module _ (ask : Asked) where
    abbrev mutual
      pub walk_region : RegionTree → Walking → WrittenRegion
      walk_region (region args nodes results) w =
          let t : WrittenNodes = walk_nodes nodes (record { inputs = []; before = no_nodes; uses = inputs_of_nodes nodes ++ results; moved = [] }) w in
          record { region = region args t.nodes (map (origin_now t.moved []) results); now = t.now }

      pub walk_regions : RegionTrees → Walking → WrittenRegions
      walk_regions no_regions w = record { regions = no_regions; now = w }
      walk_regions (region_then r rs) w =
          let s : WrittenRegion = walk_region r w in
          let t : WrittenRegions = walk_regions rs s.now in
          record { regions = region_then s.region t.regions; now = t.now }

      pub walk_nodes : NodeTrees → Cursor → Walking → WrittenNodes
      walk_nodes no_nodes c w = unmoved no_nodes w
      walk_nodes (node_then x xs) c w =
          let s : WrittenNodes = walk_node x c w in
          both_written s (walk_nodes xs (cursor_after s c) s.now)

      pub walk_node : NodeTree → Cursor → Walking → WrittenNodes
      walk_node (node id op ins rs) c w =
          let x : NodeTree = node_now c (node id op ins rs) in
          part_written x (walk_regions rs) (λ which inputs from. open_at rs id (node_values x) which inputs from c w) w (ask w.values w.next c.before c.uses x)

      -- a region of node n, which had so many values
      pub open_at : RegionTrees → (n values which : ℕ) → (inputs : List Origin) → (from : ℕ) → Cursor → Walking → WrittenNodes
      open_at no_regions n values which inputs from c w = unmoved no_nodes w
      open_at (region_then r rs) n values zero inputs from c w = open_region r n values inputs from c w
      open_at (region_then r rs) n values (suc which) inputs from c w = open_at rs n values which inputs from c w

      pub open_region : RegionTree → (n values : ℕ) → (inputs : List Origin) → (from : ℕ) → Cursor → Walking → WrittenNodes
      open_region (region args nodes results) n values inputs from c w =
          let d : Cursor = cursor_in n inputs from nodes results c in
          with_outputs n from results d (walk_nodes nodes d (stepped rule n values (nodes_values nodes) 0 w))

    -- the lambda and the log after a walk
    abbrev pub walked : Logged → Logged
    walked s =
        let w : WrittenRegion = walk_region s.lambda.body (record { values = lambda_values s.lambda; next = s.lambda.next; steps = s.steps }) in
        record { lambda = record s.lambda { body = w.region; next = w.now.next }; steps = w.now.steps }
