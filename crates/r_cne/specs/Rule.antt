-- Common node elimination: of nodes of a region that do the same on the same inputs, the first one gives for all
-- (Reissmann et al., RVSDG, 2020).
use Rattle.std.specs.Prelude.{ℕ, ◌==◌, if◌then◌else◌, Bool, true, false, Option, None, Some, option_and_then, is_some}
use Rattle.g_graph.specs.declared.op.Op.{Op}
use Rattle.g_graph.specs.declared.op.Op.TheVariants.{Const, Local, Delta, Bin, Un, Load, PtrEq}
use Rattle.g_graph.specs.declared.op.Origin.TheVariants.{Out}
use Rattle.g_graph.specs.Plain.{RegionTree, region, NodeTree, node, NodeTrees, PlainLambda}
use Rattle.g_graph.specs.Change.{region_changed, lambda_changed}
use Rattle.g_graph.specs.Nodes.{node_at}
use Rattle.r_edit.specs.Lookup.{first_of}
use Rattle.r_edit.specs.Uses.{uses_replaced}

-- An op that gives one value, the same on the same inputs. An Undef may give any value each time.
abbrev pub is_common : Op → Bool
is_common (Const w) = true
is_common (Local k) = true
is_common (Delta k) = true
is_common (Bin op) = true
is_common (Un op) = true
is_common (Load width) = true
is_common PtrEq = true
is_common op = false

abbrev pub other_than : ℕ → Option ℕ → Option ℕ
other_than n None = None
other_than n (Some m) = if m == n then None else Some m

-- The number of the first node of the region with the op and the inputs of the node, where it is not the node: then it
-- stands before it.
abbrev pub earlier : NodeTrees → NodeTree → Option ℕ
earlier nodes (node id op inputs rs) = if is_common op then other_than id (first_of op inputs nodes) else None

-- the region that holds node n, with uses of the first such node's output for uses of n's, where there are any
abbrev pub cne_here : ℕ → RegionTree → Option RegionTree
cne_here n (region args nodes results) =
    option_and_then (λ m. uses_replaced (Out n 0) (Out m 0) (region args nodes results)) (option_and_then (earlier nodes) (node_at n nodes))

-- whether the rule applies at a node, and the changed lambda
abbrev pub applies : PlainLambda → ℕ → Bool
applies l n = is_some (region_changed (cne_here n) l.body)

abbrev pub cne : ℕ → PlainLambda → PlainLambda
cne n l = lambda_changed (cne_here n) l
