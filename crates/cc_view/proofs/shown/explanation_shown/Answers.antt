use Rattle.cc_view.proofs.shown.explanation_shown.Goals as goal

pub explanation_of_made-shown-requires : goal.explanation_of_made-shown-requires
explanation_of_made-shown-requires c = (c.args.recipe.now, c.args.source.now, c.in-Ok.ensures.made)

pub returns-in-Err : goal.returns-in-Err
returns-in-Err c = c.refusal_shown.ensures c.args.recipe.now

pub returns : goal.returns
returns c = c.explanation_of_made-shown.ensures c.args.recipe.now c.args.source.now c.in-Ok.ensures.made
