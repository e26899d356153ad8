-- The next node's output comes after the others.
use Rattle.std.proofs.Common.{◌≡◌, ◌+◌, ◌∷◌, ◌++◌, [], drop, sym, ap, ◌∙◌}
use Rattle.std.proofs.lemmas.List.{append_assoc, drop_more}
use Rattle.g_graph.specs.declared.op.Origin.TheVariants.{Out}
use Rattle.g_graph.specs.Plain.{id_of}
use Rattle.r_push.specs.Walk.{outputs_of_left}
use Rattle.r_push.proofs.staying.add_outputs.Goals as goal

pub loop-node-preserved : goal.loop-node-preserved
loop-node-preserved c =
    let items = c.args.nodes.now in
    let i = c.loop-node.node-index in
    let x = c.node-item.result in
    let more : drop i items ≡ x ∷ drop (i + 1) items = drop_more items i x c.loop-node-test.true ∙ ap (λ y. y ∷ drop (i + 1) items) (sym c.node-item.is) in
    ap (λ os. os ++ outputs_of_left (drop (i + 1) items)) (c.in_ok-push.ensures.ok ∙ ap (λ y. c.loop-node.inputs.items ++ Out (id_of y) 0 ∷ []) c.node.view_is)
    ∙ append_assoc c.loop-node.inputs.items (Out (id_of x) 0 ∷ []) (outputs_of_left (drop (i + 1) items))
    ∙ ap (λ ys. c.loop-node.inputs.items ++ outputs_of_left ys) (sym more) ∙ c.loop-node.invariant
