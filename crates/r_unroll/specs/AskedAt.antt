-- What a walk asks of the rule at a node.
use Rattle.std.specs.Prelude.{ℕ, [], option_map}
use Rattle.std.specs.declared.option.Option.{Option}
use Rattle.g_graph.specs.Plain.{NodeTree, no_nodes, node_then, regions_in}
use Rattle.r_unroll.specs.Edit.{loop_numbers}
use Rattle.r_unroll.specs.Rule.{node_unrolled}
use Rattle.r_walk.specs.Asks.{Made}

-- the unrolled node alone, which gives the same outputs
abbrev pub made_at : (values next : ℕ) → NodeTree → Option Made
made_at values next x = option_map (λ y. record { nodes = node_then y no_nodes; outputs = []; taken = loop_numbers (regions_in x) }) (node_unrolled values next x)
