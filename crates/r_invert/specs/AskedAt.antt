-- What a walk asks of the rule at a node.
use Rattle.std.specs.Prelude.{ℕ, option_map}
use Rattle.std.specs.declared.option.Option.{Option}
use Rattle.g_graph.specs.Plain.{NodeTree, nodes_in, results_of}
use Rattle.r_edit.specs.Numbering.{node_count}
use Rattle.r_invert.specs.Rule.{in_place}
use Rattle.r_walk.specs.Asks.{Made}

-- the nodes of the region that comes, all with new numbers; its results become the node's outputs
abbrev pub made_at : (values next : ℕ) → NodeTree → Option Made
made_at values next x = option_map (λ r. record { nodes = nodes_in r; outputs = results_of r; taken = node_count r }) (in_place values next x)
