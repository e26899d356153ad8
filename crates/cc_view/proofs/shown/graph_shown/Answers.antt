use Rattle.std.proofs.Common.{option_map}
use Rattle.cc_view.proofs.Shows.{rejected-graph}
use Rattle.cc_view.proofs.shown.graph_shown.Goals as goal

pub graph_of_made-shown-requires : goal.graph_of_made-shown-requires
graph_of_made-shown-requires c = (c.args.recipe.now, c.args.source.now, c.in-Ok.ensures.made)

pub returns-in-Err : goal.returns-in-Err
returns-in-Err c =
    rejected-graph c.args.recipe.now (option_map (λ s. s.now) c.args.function) c.args.after c.args.drawing c.args.source.now c.rejected.result.ended c.rejected.result.text.items c.rejected.ensures.ended
    c.rejected.ensures.text

pub returns : goal.returns
returns c = c.graph_of_made-shown.ensures c.args.recipe.now c.args.source.now c.in-Ok.ensures.made
