use Rattle.cc_view.proofs.Shows.{rejected-listing}
use Rattle.cc_view.proofs.shown.listing_shown.Goals as goal

pub listing_of_made-shown-requires : goal.listing_of_made-shown-requires
listing_of_made-shown-requires c = (c.args.recipe.now, c.args.source.now, c.in-Ok.ensures.made)

pub returns-in-Err : goal.returns-in-Err
returns-in-Err c = rejected-listing c.args.recipe.now c.args.source.now c.rejected.result.ended c.rejected.result.text.items c.rejected.ensures.ended c.rejected.ensures.text

pub returns : goal.returns
returns c = c.listing_of_made-shown.ensures c.args.recipe.now c.args.source.now c.in-Ok.ensures.made
