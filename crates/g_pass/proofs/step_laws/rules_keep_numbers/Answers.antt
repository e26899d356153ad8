use Rattle.g_pass.proofs.Numbers.{rules_keep_numbers}
use Rattle.g_pass.proofs.step_laws.rules_keep_numbers.Goals as goal

pub returns : goal.returns
returns c = rules_keep_numbers
