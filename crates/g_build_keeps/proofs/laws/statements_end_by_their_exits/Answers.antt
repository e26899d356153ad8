use Rattle.g_build_keeps.proofs.Leaves.{stmt-ends, items-end}
use Rattle.g_build_keeps.proofs.laws.statements_end_by_their_exits.Goals as goal

pub returns-clause-statements : goal.returns-clause-statements
returns-clause-statements c = stmt-ends

pub returns-clause-items : goal.returns-clause-items
returns-clause-items c = items-end
