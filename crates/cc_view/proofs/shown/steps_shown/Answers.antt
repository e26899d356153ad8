use Rattle.cc_view.proofs.Shows.{rejected-steps}
use Rattle.cc_view.proofs.shown.steps_shown.Goals as goal

pub steps_of_made-shown-requires : goal.steps_of_made-shown-requires
steps_of_made-shown-requires c = (c.args.source.now, c.in-Ok.ensures.made)

pub returns-in-Err : goal.returns-in-Err
returns-in-Err c = rejected-steps c.args.recipe.now c.args.source.now c.rejected.result.ended c.rejected.result.text.items c.rejected.ensures.ended c.rejected.ensures.text

pub returns : goal.returns
returns c = c.steps_of_made-shown.ensures c.args.source.now c.in-Ok.ensures.made
