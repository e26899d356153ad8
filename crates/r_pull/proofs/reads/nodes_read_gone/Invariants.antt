use Rattle.std.proofs.Common.{◌≡◌, drop}
use Rattle.g_graph.specs.Plain.{nodes_of}
use Rattle.r_edit.specs.Uses.{nodes_read}
use Rattle.r_edit.specs.Entries.{is_gone_argument}
use Rattle.r_pull.specs.Rule.{other_entries}
use Rattle.r_pull.proofs.reads.nodes_read_gone.Given as goal

abbrev pub invariant-loop-node : goal.invariant-loop-node
invariant-loop-node l = nodes_read (is_gone_argument (other_entries l.id l.entries)) (nodes_of (drop l.node-index l.nodes))
    ≡ nodes_read (is_gone_argument (other_entries l.id l.entries)) (nodes_of l.nodes)
