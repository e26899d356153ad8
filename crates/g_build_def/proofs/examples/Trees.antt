-- Short forms for the worked rows: typed trees, and the nodes of a body in pre-order.
use Rattle.std.specs.Prelude.{ℕ, true, false, List, [], ◌∷◌, ◌++◌}
use Rattle.c_typed.specs.declared.operator.UnaryOp.{UnaryOp}
use Rattle.c_typed.specs.Typed.{ExprTree, expr, unary, StmtTree, ItemTrees, no_items, stmt_then, FunctionTree}
use Rattle.c_typed.proofs.lemmas.ShortForms.{int}
use Rattle.g_graph.specs.declared.op.Op.{Op}
use Rattle.g_graph.specs.Plain.{RegionTree, region, NodeTree, node, NodeTrees, no_nodes, node_then, RegionTrees, no_regions, region_then}
use Rattle.g_build_def.specs.Functions.{body_made}

-- ---- typed trees

abbrev pub with_op : UnaryOp → ExprTree → ExprTree
with_op o e = expr int (unary o e)

abbrev pub items : List StmtTree → ItemTrees
items [] = no_items
items (s ∷ ss) = stmt_then s (items ss)

-- ---- what is made

-- the numbers and ops of the nodes, a node before those of its regions
abbrev mutual
  pub region_listed : RegionTree → List (ℕ × Op)
  region_listed (region args nodes results) = nodes_listed nodes

  pub nodes_listed : NodeTrees → List (ℕ × Op)
  nodes_listed no_nodes = []
  nodes_listed (node_then x xs) = node_listed x ++ nodes_listed xs

  pub node_listed : NodeTree → List (ℕ × Op)
  node_listed (node id op inputs rs) = (id, op) ∷ regions_listed rs

  pub regions_listed : RegionTrees → List (ℕ × Op)
  regions_listed no_regions = []
  regions_listed (region_then r rs) = region_listed r ++ regions_listed rs

-- those of a function that is not `main`, and of `main`
abbrev pub listed : FunctionTree → List (ℕ × Op)
listed f = region_listed (body_made false f)

abbrev pub main_listed : FunctionTree → List (ℕ × Op)
main_listed f = region_listed (body_made true f)
