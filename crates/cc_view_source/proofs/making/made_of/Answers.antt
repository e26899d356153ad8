use Rattle.std.proofs.Common.{sym}
use Rattle.cc_view_source.proofs.making.made_of.Goals as goal

pub answers_of-requires-clause-values : goal.answers_of-requires-clause-values
answers_of-requires-clause-values c = sym c.in_ok-omega.ensures.limit
