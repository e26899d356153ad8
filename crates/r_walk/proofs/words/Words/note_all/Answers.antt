-- What is written goes on with the next node.
use Rattle.std.proofs.Common.{◌≡◌, ◌+◌, ◌∷◌, drop, drop_of_length-le, sym, ap, subst, ◌∙◌}
use Rattle.std.proofs.lemmas.List.{drop_more}
use Rattle.g_graph.specs.Plain.{no_nodes, node_then, nodes_of}
use Rattle.g_graph.specs.Splice.{joined_nodes}
use Rattle.g_graph.proofs.lemmas.Splices.{joined_assoc, joined_none}
use Rattle.r_walk.specs.Around.{AreWords}
use Rattle.r_walk.proofs.words.Words.note_all.Goals as goal

pub loop-node-preserved : goal.loop-node-preserved
loop-node-preserved c = λ before words.
    let items = c.args.nodes.now in
    let i = c.loop-node.node-index in
    let x = c.node-item.result in
    let more : drop i items ≡ x ∷ drop (i + 1) items = drop_more items i x c.loop-node-test.true ∙ ap (λ y. y ∷ drop (i + 1) items) (sym c.node-item.is) in
    let h = c.loop-node.invariant before words in (
      joined_nodes h.0 (node_then x no_nodes),
      c.in_ok-note.ensures h.0 h.1,
      joined_assoc h.0 (node_then x no_nodes) (nodes_of (drop (i + 1) items)) ∙ ap (λ ns. joined_nodes h.0 (nodes_of ns)) (sym more) ∙ h.2,
    )

pub returns : goal.returns
returns c = λ before words.
    let h = c.loop-node.invariant before words in
    let done : joined_nodes h.0 no_nodes ≡ joined_nodes before (nodes_of c.args.nodes.now) =
    ap (λ ns. joined_nodes h.0 (nodes_of ns)) (sym (drop_of_length-le c.args.nodes.now c.loop-node-test.false)) ∙ h.2 in
    subst (λ ns. AreWords c.loop-node.self ns) (sym (joined_none h.0) ∙ done) h.1
