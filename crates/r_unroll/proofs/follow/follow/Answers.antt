use Rattle.std.proofs.Common.{[], ◌∷◌, ap, ◌∙◌}
use Rattle.g_graph.specs.Plain.{region, nodes_of}
use Rattle.g_graph.proofs.lemmas.Splices.{nodes_of_append}
use Rattle.r_unroll.specs.Rule.{followed_by}
use Rattle.r_unroll.proofs.follow.follow.Goals as goal

pub returns-clause-ok : goal.returns-clause-ok
returns-clause-ok c =
    ap (λ ns. region c.region.inside.args.items ns c.args.results.items)
    (ap nodes_of c.in_ok-push.ensures.items ∙ nodes_of_append c.region.inside.nodes.items (c.args.last ∷ []))
    ∙ ap (followed_by c.args.last c.args.results.items) c.region.view_is
