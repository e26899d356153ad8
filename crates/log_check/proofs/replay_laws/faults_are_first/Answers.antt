use Rattle.log_check.proofs.FirstFaults.{one_replay_fault, right_have_no_fault, right_are_unique}
use Rattle.log_check.proofs.RightOrFaulty.{right_or_faulty}
use Rattle.log_check.proofs.replay_laws.faults_are_first.Goals as goal

pub returns-clause-one : goal.returns-clause-one
returns-clause-one c = one_replay_fault c.orders_are_unique.ensures.ranked c.orders_are_unique.ensures.unique

pub returns-clause-none : goal.returns-clause-none
returns-clause-none c = right_have_no_fault c.orders_are_unique.ensures.ranked c.orders_are_unique.ensures.unique

pub returns-clause-some : goal.returns-clause-some
returns-clause-some c = right_or_faulty c.orders_are_unique.ensures.ranked c.orders_exist.ensures

pub returns-clause-unique : goal.returns-clause-unique
returns-clause-unique c = right_are_unique c.replayed_keep_lists.ensures.unique
