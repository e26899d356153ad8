use Rattle.s_select_keeps.proofs.Branches.{offset_leads, jump_is_done, branch_not_zero_is_done, branch_zero_is_done, branch_equal_is_done}
use Rattle.s_select_keeps.proofs.laws.templates_branch.Goals as goal

pub returns-clause-offset : goal.returns-clause-offset
returns-clause-offset c = offset_leads

pub returns-clause-jump : goal.returns-clause-jump
returns-clause-jump c = jump_is_done

pub returns-clause-not_zero : goal.returns-clause-not_zero
returns-clause-not_zero c = branch_not_zero_is_done

pub returns-clause-zero : goal.returns-clause-zero
returns-clause-zero c = branch_zero_is_done

pub returns-clause-equal : goal.returns-clause-equal
returns-clause-equal c = branch_equal_is_done
