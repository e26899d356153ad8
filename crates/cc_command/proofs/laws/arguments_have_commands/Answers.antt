use Rattle.cc_command.proofs.CommandRowsLemmas.{build_rows, recipe_rows, workers_rows, report_rows, code_rows, run_rows, other_rows, gen_rows, check_rows, session_rows, bound_rows}
use Rattle.cc_command.proofs.laws.arguments_have_commands.Goals as goal

pub returns : goal.returns
returns c = (build_rows, recipe_rows, workers_rows, report_rows, code_rows, run_rows, other_rows, gen_rows, check_rows, session_rows, bound_rows)
