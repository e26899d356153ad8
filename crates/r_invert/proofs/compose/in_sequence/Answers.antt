use Rattle.std.proofs.Common.{ap, ◌∙◌}
use Rattle.g_graph.specs.Plain.{region, nodes_of}
use Rattle.g_graph.specs.Replace.{region_redirected}
use Rattle.g_graph.specs.Splice.{args_to_inputs}
use Rattle.r_invert.proofs.MadeSequence.{sequence-made}
use Rattle.r_invert.proofs.compose.in_sequence.Goals as goal

pub returns : goal.returns
returns c =
    ap (λ xs. region c.whole.inside.args.items (nodes_of xs) c.part.inside.results.items) c.in_ok-push_nodes.ensures
    ∙ sequence-made c.whole.inside.args.items c.whole.inside.nodes.items c.whole.inside.results.items c.part.inside.args.items c.part.inside.nodes.items c.part.inside.results.items c.args.first
    c.args.second c.whole.view_is (c.part.view_is ∙ c.redirect_region.ensures ∙ ap (λ os. region_redirected (args_to_inputs os) c.args.second) c.deref.ensures.value)
