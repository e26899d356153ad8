use Rattle.cc_source.proofs.Short.{short_source}
use Rattle.cc_source.proofs.source.tree_of.Goals as goal

pub overflow_cast-source : goal.overflow_cast-source
overflow_cast-source c = record { fits = short_source c.args.source.now c.in_ok-tokens.tokens.items c.in_ok-tokens.ensures.exact }
