-- Unrolling: a turn of a loop becomes up to two of the turns before (Reissmann et al., RVSDG, 2020, of Theta nodes).
use Rattle.std.specs.Prelude.{ℕ, suc, ◌+◌, ◌-◌, ◌*◌, ◌^◌, nat_le, not, ◌&&◌, ◌||◌, if◌then◌else◌, Bool, false, List, [], ◌∷◌, length, Option, None, Some, option_map, option_and_then, is_some, unwrap_or}
use Rattle.base.specs.Limits.{most_loop_values}
use Rattle.g_graph.specs.declared.op.Kind.{Kind}
use Rattle.g_graph.specs.declared.op.Op.TheVariants.{Const, Gamma, Theta}
use Rattle.g_graph.specs.declared.op.Origin.{Origin}
use Rattle.g_graph.specs.declared.op.Origin.TheVariants.{Arg, Out}
use Rattle.g_graph.specs.Plain.{RegionTree, region, NodeTree, node, NodeTrees, no_nodes, node_then, RegionTrees, no_regions, region_then, args_of, results_of, PlainLambda}
use Rattle.g_graph.specs.Count.{region_values}
use Rattle.g_graph.specs.Change.{region_changed}
use Rattle.g_graph.specs.Nodes.{node_at, node_set}
use Rattle.g_graph.specs.Splice.{joined_nodes}
use Rattle.g_graph.specs.Program.{lambda_values}
use Rattle.g_graph.specs.Views.{same_op}
use Rattle.r_edit.specs.Origins.{origins_from}
use Rattle.r_edit.specs.Size.{may_change_size}
use Rattle.r_edit.specs.Numbering.{node_count, region_numbered}

-- ---- the loop

-- some node of the region, at any depth, is a Theta
abbrev mutual
  pub region_loops : RegionTree → Bool
  region_loops (region args nodes results) = nodes_loop nodes

  pub node_loops : NodeTree → Bool
  node_loops (node id op inputs rs) = same_op op Theta || regions_loop rs

  pub nodes_loop : NodeTrees → Bool
  nodes_loop no_nodes = false
  nodes_loop (node_then x ns) = node_loops x || nodes_loop ns

  pub regions_loop : RegionTrees → Bool
  regions_loop no_regions = false
  regions_loop (region_then r rs) = region_loops r || regions_loop rs

-- ---- the change

-- the region of the Gamma that takes no second turn: the predicate 0, and the loop variables as they are
abbrev pub stopping : (id : ℕ) → (args : List Kind) → RegionTree
stopping id args = region args (node_then (node id (Const 0) [] no_regions) no_nodes) (Out id 0 ∷ origins_from Arg 0 (length args))

-- a region with one more node, after the others, and with these results
abbrev pub followed_by : NodeTree → (outs : List Origin) → RegionTree → RegionTree
followed_by last outs (region args nodes results) = region args (joined_nodes nodes (node_then last no_nodes)) outs

-- The Gamma that stops, or does the region once more, as the region's predicate says. Its number is `next`, the Const has
-- the number after it, and the copy those that follow.
abbrev pub second_turn_of : (next : ℕ) → RegionTree → NodeTree
second_turn_of next (region args nodes results) =
    node next Gamma results (region_then (stopping (suc next) args) (region_then (region_numbered (next + 2) (region args nodes results)) no_regions))

-- After the nodes of the region comes that Gamma, which gives the results.
abbrev pub unrolled : (next : ℕ) → RegionTree → RegionTree
unrolled next r = followed_by (second_turn_of next r) (origins_from (Out next) 0 (length (results_of r))) r

-- ---- the condition

-- The values that come: the Gamma and its outputs, the region that stops, and the copy.
abbrev pub growth : RegionTree → ℕ
growth r = (2 + length (args_of r)) + (4 + 2 * length (args_of r)) + region_values r

-- The region may be unrolled in a lambda of so many values, whose next node has the number `next`.
abbrev pub may_unroll : (values next : ℕ) → RegionTree → Bool
may_unroll values next r =
    nat_le (region_values r) most_loop_values && not (region_loops r) && nat_le (next + 2 + node_count r) (2 ^ 32 - 1) && may_change_size values (growth r) 0

-- ---- the rule

abbrev pub node_unrolled : (values next : ℕ) → NodeTree → Option NodeTree
node_unrolled values next (node id Theta inputs (region_then r no_regions)) =
    if may_unroll values next r then Some (node id Theta inputs (region_then (unrolled next r) no_regions)) else None
node_unrolled values next x = None

-- the region that holds the Theta of number n
abbrev pub unroll_here : (values next n : ℕ) → RegionTree → Option RegionTree
unroll_here values next n (region args nodes results) =
    option_map (λ y. region args (node_set n y nodes) results) (option_and_then (node_unrolled values next) (node_at n nodes))

-- the body changed so, where it can be
abbrev pub body_unrolled : ℕ → PlainLambda → Option RegionTree
body_unrolled n l = region_changed (unroll_here (lambda_values l) l.next n) l.body

-- whether the rule applies at a node
abbrev pub applies : PlainLambda → ℕ → Bool
applies l n = is_some (body_unrolled n l)

-- a lambda with another body, whose next number rises by the number of nodes that it has more
abbrev pub with_body : PlainLambda → RegionTree → PlainLambda
with_body l body = record l { body = body; next = l.next + (node_count body - node_count l.body) }

-- the changed lambda
abbrev pub lambda_unrolled : ℕ → PlainLambda → PlainLambda
lambda_unrolled n l = with_body l (unwrap_or (body_unrolled n l) l.body)
