use Rattle.c_mean.proofs.ExtendRuns.{expressions_extend, statements_extend, nested_calls_extend, calls_extend, runs_extend}
use Rattle.c_mean.proofs.laws.bounds_extend.Goals as goal

pub returns-clause-expressions : goal.returns-clause-expressions
returns-clause-expressions c = expressions_extend

pub returns-clause-statements : goal.returns-clause-statements
returns-clause-statements c = statements_extend

pub returns-clause-nested : goal.returns-clause-nested
returns-clause-nested c = nested_calls_extend

pub returns-clause-calls : goal.returns-clause-calls
returns-clause-calls c = calls_extend

pub returns-clause-runs : goal.returns-clause-runs
returns-clause-runs c = runs_extend
