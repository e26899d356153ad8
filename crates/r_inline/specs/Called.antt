-- The function that a node of a lambda calls.
use Rattle.std.specs.Option.{option_or}
use Rattle.std.specs.Prelude.{ℕ, ◌==◌, if◌then◌else◌, Option, None, Some}
use Rattle.g_graph.specs.declared.op.Op.{Op}
use Rattle.g_graph.specs.declared.op.Op.TheVariants.{Apply}
use Rattle.g_graph.specs.Plain.{RegionTree, region, NodeTree, node, NodeTrees, no_nodes, node_then, RegionTrees, no_regions, region_then, PlainLambda}

abbrev pub called_by : Op → Option ℕ
called_by (Apply f) = Some f
called_by op = None

-- what node n calls, at any depth
abbrev mutual
  pub region_calls : (n : ℕ) → RegionTree → Option ℕ
  region_calls n (region args nodes results) = nodes_call n nodes

  pub node_calls : (n : ℕ) → NodeTree → Option ℕ
  node_calls n (node id op inputs rs) = if id == n then called_by op else regions_call n rs

  pub nodes_call : (n : ℕ) → NodeTrees → Option ℕ
  nodes_call n no_nodes = None
  nodes_call n (node_then x ns) = option_or (node_calls n x) (nodes_call n ns)

  pub regions_call : (n : ℕ) → RegionTrees → Option ℕ
  regions_call n no_regions = None
  regions_call n (region_then r rs) = option_or (region_calls n r) (regions_call n rs)

abbrev pub called_at : (n : ℕ) → PlainLambda → Option ℕ
called_at n l = region_calls n l.body
