use Rattle.log_check.proofs.ReadSoFar.{logs_have_few_lines}
use Rattle.log_check.proofs.laws.logs_have_few_lines.Goals as goal

pub returns : goal.returns
returns c = logs_have_few_lines
