use Rattle.cc_source.proofs.Determined.{one_fault}
use Rattle.cc_source.proofs.laws.the_fault_is_determined.Goals as goal

pub returns : goal.returns
returns c = one_fault c.the_answer_is_determined.ensures c.shaped_trees_are_accepted.ensures
