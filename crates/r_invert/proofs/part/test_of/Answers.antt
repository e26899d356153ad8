use Rattle.std.specs.Prelude.{◌-◌}
use Rattle.std.proofs.Common.{take, sym, ap, ◌∙◌}
use Rattle.g_graph.specs.Plain.{RegionTree, region, nodes_of, args_of, nodes_in}
use Rattle.r_invert.specs.Rule.{but_last}
use Rattle.r_invert.proofs.Remade.{without-last}
use Rattle.r_invert.proofs.part.test_of.Goals as goal

pub returns : goal.returns
returns c =
    (λ i. region c.test.inside.args.items (nodes_of (c.pop.ensures.rest i)) (c.in_ok-test-inside.ensures.items i))
    ∙ ap (λ m. region c.test.inside.args.items (nodes_of (take (m - 1) c.test.inside.nodes.items)) c.args.results.now) c.test.inside.nodes.ok.0
    ∙ ap (λ ns. region c.test.inside.args.items ns c.args.results.now) (sym (without-last c.test.inside.nodes.items))
    ∙ ap (λ (r : RegionTree). region (args_of r) (but_last (nodes_in r)) c.args.results.now) (c.test.view_is ∙ c.in_ok-test.ensures)
