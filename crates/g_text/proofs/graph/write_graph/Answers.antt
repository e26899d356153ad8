-- The drawing: its nodes, and then the edges of the body.
use Rattle.std.proofs.Common.{◌≡◌, ap, ◌∙◌}
use Rattle.std.proofs.lemmas.Result.{on_ok_weaker}
use Rattle.g_graph.specs.Plain.{PlainLambda}
use Rattle.g_text.specs.declared.edges.Place.TheVariants.{Body}
use Rattle.g_text.specs.Drawing.{ends_of}
use Rattle.g_text.specs.Edges.{region_edges}
use Rattle.g_text.proofs.graph.write_graph.Goals as goal

pub returns : goal.returns
returns c =
    let body : c.lambda.inside.body ≡ c.args.lambda.now.body = ap (λ (l : PlainLambda). l.body) c.lambda.view_is in
    on_ok_weaker c.push_graph.result
    (λ written. record {
      nodes = c.as_slice.result.now;
      edges = c.as_slice-2.result.now;
      once = ap ends_of c.as_slice-2.ensures.value ∙ c.in_ok-edges.ensures ∙ ap (region_edges Body) body;
      text = written;
    })
    c.push_graph.ensures
