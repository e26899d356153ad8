use Rattle.std.proofs.Common.{◌≡◌, ℕ, ◌+◌, ◌*◌, ◌<◌, ◌≤◌, ◌^◌, ◌++◌, drop, map}
use Rattle.std.specs.declared.option.Option.TheVariants.{Some}
use Rattle.g_graph.specs.declared.op.Origin.TheVariants.{Out}
use Rattle.g_graph.specs.Plain.{nodes_of, regions_of, args_of}
use Rattle.g_graph.specs.Signatures.{kind_after}
use Rattle.g_graph.specs.Count.{region_values, regions_values, node_values, nodes_values}
use Rattle.s_linear.specs.Linear.{Code}
use Rattle.s_linear.specs.Lines.{code_lines}
use Rattle.s_sequence.specs.Sequence.{nodes_code, nodes_named, region_names, regions_names, nodes_names}
use Rattle.s_sequence.specs.Ports.{ports_from}
use Rattle.s_sequence.specs.Scope.{names_in, kind_in}
use Rattle.s_sequence.specs.Shape.{NodesShaped, RegionsShaped}
use Rattle.s_sequence.specs.Written.{region_labels, regions_labels, nodes_labels, region_code, region_port, others_lines}
use Rattle.s_sequence.proofs.regions.+regions.Given as goal

abbrev pub decreases-write_nodes : goal.decreases-write_nodes
decreases-write_nodes l = 8 * region_values l.region.now

abbrev pub decreases-write_step : goal.decreases-write_step
decreases-write_step l = 8 * node_values l.node.now

abbrev pub decreases-write_choice : goal.decreases-write_choice
decreases-write_choice l = 8 * regions_values (regions_of l.regions.now) + 5

abbrev pub decreases-write_cases : goal.decreases-write_cases
decreases-write_cases l = 8 * (region_values l.standing.now + regions_values (regions_of l.others.now)) + 4

abbrev pub decreases-write_first : goal.decreases-write_first
decreases-write_first l = 8 * region_values l.region.now + 2

abbrev pub decreases-write_others : goal.decreases-write_others
decreases-write_others l = 8 * regions_values (regions_of l.others.now) + 3

abbrev pub decreases-write_other : goal.decreases-write_other
decreases-write_other l = 8 * region_values l.region.now + 2

abbrev pub decreases-write_entered : goal.decreases-write_entered
decreases-write_entered l = 8 * region_values l.region.now + 1

abbrev pub decreases-write_loop : goal.decreases-write_loop
decreases-write_loop l = 8 * region_values l.region.now + 1

abbrev pub invariant-write_nodes-loop-node : goal.invariant-write_nodes-loop-node
invariant-write_nodes-loop-node l = record {
  lines : (k : Code) → l.w.lines ++ code_lines l.w.label
      (nodes_code (args_of l.region) l.fn.w.next (names_in l.scope) l.w.next (nodes_of (drop l.node-index l.node-items)) k)
      ≡ l.fn.w.lines ++ code_lines l.fn.w.label (region_code l.fn.w.next l.region k);
  next : l.w.next + nodes_names (nodes_of (drop l.node-index l.node-items)) ≡ l.fn.w.next + region_names l.region;
  label : l.w.label + nodes_labels (nodes_of (drop l.node-index l.node-items)) ≡ l.fn.w.label + region_labels l.region;
  args : l.scope.args ≡ ports_from l.fn.w.next (map Some (args_of l.region));
  names : (n p : ℕ) → nodes_named (nodes_of (drop l.node-index l.node-items)) l.w.next (names_in l.scope) n p ≡ (region_port l.fn.w.next l.region (Out n p)).name;
  kinds : (n p : ℕ) → kind_after (nodes_of (drop l.node-index l.node-items)) n p (kind_in l.scope (Out n p)) ≡ (region_port l.fn.w.next l.region (Out n p)).kind;
  shaped : NodesShaped (nodes_of (drop l.node-index l.node-items));
  names_left : l.w.next + nodes_values (nodes_of (drop l.node-index l.node-items)) < 2 ^ 32;
  labels_left : l.w.label + nodes_labels (nodes_of (drop l.node-index l.node-items)) < 2 ^ 32;
  nearer : nodes_values (nodes_of (drop l.node-index l.node-items)) < region_values l.region;
}

abbrev pub invariant-write_others-loop-i : goal.invariant-write_others-loop-i
invariant-write_others-loop-i l = record {
  lines : l.w.lines ++ others_lines l.entries (l.outputs) (l.first + l.i) l.end l.w.label l.w.next (regions_of (drop l.i l.others))
      ≡ l.fn.w.lines ++ others_lines l.entries l.outputs l.first l.end l.fn.w.label l.fn.w.next (regions_of l.others);
  next : l.w.next + regions_names (regions_of (drop l.i l.others)) ≡ l.fn.w.next + regions_names (regions_of l.others);
  label : l.w.label + regions_labels (regions_of (drop l.i l.others)) ≡ l.fn.w.label + regions_labels (regions_of l.others);
  later : l.fn.w.next ≤ l.w.next;
  shaped : RegionsShaped (regions_of (drop l.i l.others));
  names_left : l.w.next + regions_values (regions_of (drop l.i l.others)) + 1 < 2 ^ 32;
  labels_left : l.w.label + regions_labels (regions_of (drop l.i l.others)) < 2 ^ 32;
  nearer : regions_values (regions_of (drop l.i l.others)) < regions_values (regions_of l.others) + 1;
}
