-- The row of a node is written over what stood for it, and all outputs of a region are there at its end.
use Rattle.std.proofs.Common.{◌≤◌, ◌++◌, length, ap, ◌∙◌, arith}
use Rattle.std.specs.Prelude.{nat_eq}
use Rattle.indexmap.specs.IndexMap.{get}
use Rattle.g_graph.specs.Plain.{regions_of}
use Rattle.g_graph.specs.Signatures.{outputs_of}
use Rattle.g_arena_def.specs.Flat.{in_regions}
use Rattle.g_arena_nodes.specs.Listed.{kind_at, node_row}
use Rattle.g_arena_nodes.proofs.ListedLemmas.{row_stands, kinds_end}
use Rattle.g_arena_nodes.proofs.flatten.+rows.Goals as goal

pub list_node-returns-clause-rows : goal.list_node-returns-clause-rows
list_node-returns-clause-rows g t c =
    row_stands c.args.home c.node.inside.id c.node.inside.op c.node.inside.inputs.items c.node.inside.regions.items c.args.node.now c.args.rows.now.items c.push.new.self.items c.list_regions.new.rows.items c.new_row.result
    c.in_ok-rows.field-0 c.len-at.result c.in_ok-outputs.outputs.items c.node.view_is c.in_ok-push.ensures.items
    (c.in_ok-kinds.ensures.rows ∙ ap (λ rs. c.push.new.self.items ++ in_regions c.node.inside.id 0 (regions_of rs)) c.deref.ensures.value)
    (c.len-at.ensures ∙ c.args.rows.now.ok.0)
    (c.in_ok-outputs.ensures ∙ ap (λ rs. outputs_of c.node.inside.op (regions_of rs)) c.deref-2.ensures.value)
    (c.in_ok-rows.ensures ∙ ap (node_row c.args.home c.args.node.now) c.deref-3.ensures.value)

pub list_region-returns-clause-kinds : goal.list_region-returns-clause-kinds
list_region-returns-clause-kinds g t c =
    let all : length c.deref-node-items.result.now ≤ c.loop-node.node-index = omega arith in
    c.in_ok-found.ensures
    ∙ kinds_end (λ n p. kind_at (get nat_eq c.loop-node.outputs n) p) c.args.region.now c.deref-node-items.result.now c.loop-node.node-index all c.loop-node.invariant.kinds
