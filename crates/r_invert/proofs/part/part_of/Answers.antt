use Rattle.std.proofs.Common.{sym, subst}
use Rattle.g_graph.specs.Plain.{PlainLambda}
use Rattle.g_graph.specs.WellFormed.{IsWellFormed}
use Rattle.g_graph.specs.contracts.lambda.Lambda as Lambda
use Rattle.r_invert.proofs.Applied.{lambda-made}
use Rattle.r_invert.proofs.part.part_of.Goals as goal

pub loop_part-requires : goal.loop_part-requires
loop_part-requires c =
    lambda-made c.args.values c.args.id (Lambda.the_view c.lambda.inside) c.in-Some.node.now
    (subst (λ (k : PlainLambda). IsWellFormed k) (sym c.lambda.view_is) c.requires.well_formed) (sym c.in-Some.ensures)
