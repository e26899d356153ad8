-- A walk of push over a lambda: it goes along the nodes in pre-order and writes each as it then is. A node that leaves its
-- region is written before the Gamma or Theta that it leaves, and is not tried again; uses of it become one more argument.
use Rattle.std.specs.Prelude.{ℕ, zero, suc, ◌+◌, ◌^◌, nat_lt, ◌&&◌, if◌then◌else◌, Bool, true, false, List, [], ◌∷◌, ◌++◌, map, length, slice_get, Option, None, Some}
use Rattle.g_graph.specs.declared.op.Kind.TheVariants.{Value}
use Rattle.g_graph.specs.declared.op.Op.TheVariants.{Gamma, Theta}
use Rattle.g_graph.specs.declared.op.Origin.{Origin}
use Rattle.g_graph.specs.declared.op.Origin.TheVariants.{Arg, Out}
use Rattle.r_rule.specs.declared.steps.Rule.TheVariants.{Push}
use Rattle.r_rule.specs.declared.steps.Step.{Step}
use Rattle.g_graph.specs.Plain.{RegionTree, region, NodeTree, node, NodeTrees, no_nodes, node_then, RegionTrees, no_regions, region_then, id_of, count_of, has_none, nodes_of}
use Rattle.g_graph.specs.Program.{lambda_values}
use Rattle.g_graph.specs.Replace.{node_redirected}
use Rattle.g_graph.specs.Scope.{same_origin}
use Rattle.g_graph.specs.Signatures.{is_pure}
use Rattle.g_graph.specs.Splice.{args_to_inputs, joined_nodes}
use Rattle.g_graph.specs.WellFormed.{all_of}
use Rattle.r_edit.specs.Size.{may_change_size}
use Rattle.r_push.specs.Edit.{outer}
use Rattle.r_sweep_def.specs.Swept.{Logged}
use Rattle.r_walk.specs.Walk.{Moved, origin_now, inputs_of_nodes, is_in}

-- ---- the way out of a region

-- Nodes do not leave the region, or they leave the Gamma of so many regions, or the Theta, that it is a region of.
pub data Exit : Type 0 where
  shut : Exit
  choice : (regions : ℕ) → Exit
  loop : Exit

-- the exit of the regions of a node
abbrev pub exit_of : NodeTree → Exit
exit_of (node id Gamma (p ∷ entries) rs) = choice (count_of rs)
exit_of (node id Theta inputs (region_then r no_regions)) = loop
exit_of x = shut

abbrev pub is_open : Exit → Bool
is_open shut = false
is_open (choice regions) = true
is_open loop = true

abbrev pub is_loop : Exit → Bool
is_loop shut = false
is_loop (choice regions) = false
is_loop loop = true

-- the values that come with a node that leaves so
abbrev pub growth_of : Exit → ℕ
growth_of shut = 0
growth_of (choice regions) = regions
growth_of loop = 3

-- ---- the walk's state

-- The values of the lambda now, and the steps made; of the Gamma or Theta whose regions are walked, where the arguments of its
-- regions come from now, and the nodes that left it, in this order.
pub record Walking : Type 0 where
  pub values : ℕ
  pub steps : List Step
  pub inputs : List Origin
  pub left : List NodeTree

-- Where the walk stands in a region: the exit, what the region's nodes and results read and its results, as they were before
-- the walk, and the outputs that became arguments, the latest first.
pub record Cursor : Type 0 where
  pub exit : Exit
  pub uses : List Origin
  pub results : List Origin
  pub moved : List Moved

-- what is written for nodes, for a region and for regions; of nodes also the outputs that became arguments
pub record WrittenNodes : Type 0 where
  pub nodes : NodeTrees
  pub moved : List Moved
  pub now : Walking

pub record WrittenRegion : Type 0 where
  pub region : RegionTree
  pub now : Walking

pub record WrittenRegions : Type 0 where
  pub regions : RegionTrees
  pub now : Walking

-- ---- whether a node leaves

-- an argument of a variable of a loop whose result, as it is now, is its argument; the walk added those that had no result
abbrev pub is_kept : (result : Option Origin) → (args index : ℕ) → Bool
is_kept None args k = nat_lt k args
is_kept (Some o) args k = same_origin o (Arg k)

abbrev pub moved_result : List Moved → Option Origin → Option Origin
moved_result ms None = None
moved_result ms (Some o) = Some (origin_now ms [] o)

-- an origin that a node may take with it, where each region has so many arguments now
abbrev pub goes_along : Cursor → (args : ℕ) → Origin → Bool
goes_along k args (Out n p) = false
goes_along k args (Arg i) = if is_loop k.exit then is_kept (moved_result k.moved (slice_get k.results (suc i))) args i else true

-- a node, as it is now
abbrev pub leaves : Cursor → Walking → NodeTree → Bool
leaves k w (node id op inputs rs) =
    is_open k.exit && may_change_size w.values (growth_of k.exit) 0 && nat_lt (length w.inputs) (2 ^ 32)
    && is_pure op && has_none rs && all_of (goes_along k (length w.inputs)) inputs && is_in k.uses (Out id 0)

-- ---- what is written

-- a node as it is now
abbrev pub node_now : List Moved → NodeTree → NodeTree
node_now ms x = node_redirected (origin_now ms []) x

-- a node leaves: outside it stands after those that left before
abbrev pub gone : Cursor → Walking → NodeTree → WrittenNodes
gone k w x =
    record {
      nodes = no_nodes;
      moved = record { node = id_of x; outputs = Arg (length w.inputs) ∷ [] } ∷ k.moved;
      now = record {
        values = w.values + growth_of k.exit;
        steps = w.steps ++ record { rule = Push; node = id_of x } ∷ [];
        inputs = w.inputs ++ Out (id_of x) 0 ∷ [];
        left = w.left ++ node_redirected (args_to_inputs w.inputs) x ∷ [];
      };
    }

-- a region with one more argument, which a loop returns, and with so many more
abbrev pub grown_by_one : (loops : Bool) → RegionTree → RegionTree
grown_by_one loops (region args nodes results) = region (args ++ Value ∷ []) nodes (if loops then results ++ Arg (length args) ∷ [] else results)

abbrev pub grown : (loops : Bool) → (more : ℕ) → RegionTree → RegionTree
grown loops zero r = r
grown loops (suc more) r = grown_by_one loops (grown loops more r)

abbrev pub all_grown : (loops : Bool) → (more : ℕ) → RegionTrees → RegionTrees
all_grown loops more no_regions = no_regions
all_grown loops more (region_then r rs) = region_then (grown loops more r) (all_grown loops more rs)

-- what the nodes that left give
abbrev pub outputs_of_left : List NodeTree → List Origin
outputs_of_left ys = map (λ y. Out (id_of y) 0) ys

-- a node that nodes left: it takes what they give, and each of its regions has an argument for it
abbrev pub widened_by : (left : List NodeTree) → NodeTree → RegionTrees → NodeTree
widened_by left (node id op inputs rs) ss = node id op (inputs ++ outputs_of_left left) (all_grown (is_loop (exit_of (node id op inputs rs))) (length left) ss)

-- a node stays, and its regions are written so
abbrev pub stayed : Cursor → Walking → NodeTree → WrittenRegions → WrittenNodes
stayed k w x t =
    record {
      nodes = joined_nodes (nodes_of t.now.left) (node_then (widened_by t.now.left x t.regions) no_nodes);
      moved = k.moved;
      now = record w { values = t.now.values; steps = t.now.steps };
    }

-- no node has left its regions
abbrev pub entered : Walking → NodeTree → Walking
entered w x = record w { inputs = outer x; left = [] }

abbrev pub after : WrittenNodes → Cursor → Cursor
after s k = record k { moved = s.moved }

abbrev pub both_written : (first second : WrittenNodes) → WrittenNodes
both_written s t = record t { nodes = joined_nodes s.nodes t.nodes }

abbrev pub at_start : Exit → (nodes : NodeTrees) → (results : List Origin) → Cursor
at_start exit nodes results = record { exit = exit; uses = inputs_of_nodes nodes ++ results; results = results; moved = [] }

abbrev mutual
  pub walk_region : RegionTree → Exit → Walking → WrittenRegion
  walk_region (region args nodes results) exit w =
      let t : WrittenNodes = walk_nodes nodes (at_start exit nodes results) w in
      record { region = region args t.nodes (map (origin_now t.moved []) results); now = t.now }

  pub walk_regions : RegionTrees → Exit → Walking → WrittenRegions
  walk_regions no_regions exit w = record { regions = no_regions; now = w }
  walk_regions (region_then r rs) exit w =
      let s : WrittenRegion = walk_region r exit w in
      let t : WrittenRegions = walk_regions rs exit s.now in
      record { regions = region_then s.region t.regions; now = t.now }

  pub walk_nodes : NodeTrees → Cursor → Walking → WrittenNodes
  walk_nodes no_nodes k w = record { nodes = no_nodes; moved = k.moved; now = w }
  walk_nodes (node_then x xs) k w =
      let s : WrittenNodes = walk_node x k w in
      both_written s (walk_nodes xs (after s k) s.now)

  pub walk_node : NodeTree → Cursor → Walking → WrittenNodes
  walk_node (node id op inputs rs) k w =
      let x : NodeTree = node_now k.moved (node id op inputs rs) in
      if leaves k w x then gone k w x else stayed k w x (walk_regions rs (exit_of x) (entered w x))

-- the lambda and the log after a walk
abbrev pub walked : Logged → Logged
walked s =
    let t : WrittenRegion = walk_region s.lambda.body shut (record { values = lambda_values s.lambda; steps = s.steps; inputs = []; left = [] }) in
    record { lambda = record s.lambda { body = t.region }; steps = t.now.steps }
