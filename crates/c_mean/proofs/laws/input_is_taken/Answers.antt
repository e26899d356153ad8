use Rattle.c_mean.proofs.TakenRuns.{expressions_take_input, statements_take_input, nested_calls_take_input, calls_take_input, runs_take_input}
use Rattle.c_mean.proofs.laws.input_is_taken.Goals as goal

pub returns-clause-expressions : goal.returns-clause-expressions
returns-clause-expressions c = expressions_take_input

pub returns-clause-statements : goal.returns-clause-statements
returns-clause-statements c = statements_take_input

pub returns-clause-nested : goal.returns-clause-nested
returns-clause-nested c = nested_calls_take_input

pub returns-clause-calls : goal.returns-clause-calls
returns-clause-calls c = calls_take_input

pub returns-clause-runs : goal.returns-clause-runs
returns-clause-runs c = runs_take_input
