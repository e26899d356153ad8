use Rattle.cc_source.proofs.Determined.{accepted_not_refused}
use Rattle.cc_source.proofs.laws.accepted_is_not_refused.Goals as goal

pub returns : goal.returns
returns c = accepted_not_refused c.shaped_trees_are_accepted.ensures
